-- What keeps a state in the midst of a move where a domain, a context, a queue, a mark, a page or the timer changes.
use Rattle.std.proofs.Common.{◌≡◌, ℕ, ◌+◌, ◌<◌, ◌≤◌, Bool, max, List, [], ◌∷◌, length, get_or, All, refl, ◌∙◌, arith, Option}
use Rattle.std.proofs.Math.ListN.{set}
use Rattle.std.specs.List.{sum_by}
use Rattle.std.proofs.lemmas.List.{length-set}
use Rattle.wbt_replay_order.proofs.Common.{Book, Trace, State, domain_of, writeback_of, no_domain, no_context, group_of, Actor, Domain, Stretch, Timer, Writeback, TimerTodo, latest, reserve, timer_credit, IsDomain, IsContext, AreWritten, AreQueued, PublishesNext, IsStretch, written_of}
use Rattle.wbt_replay_moves.specs.declared.todo.TimerTodo.TheVariants as timer_todo
use Rattle.wbt_replay_moves.specs.declared.todo.TimerStep.TheVariants as timer_step
use Rattle.wbt_replay_order.specs.Kept.Sound.{IsTimer}
use Rattle.wbt_replay_order.proofs.Facts.Lists.{set_each}
use Rattle.wbt_replay_ranges.proofs.Sound.Going.{Going, contexts_more, cpus_more}
use Rattle.wbt_replay_order.proofs.Lists.Numbered.{set_all, sum_set}

publishes_more : (P Q : ℕ → Type 0) → ((d : ℕ) → P d → Q d) → (todos : List TimerTodo) → PublishesNext P todos → PublishesNext Q todos
publishes_more P Q f [] h = tt
publishes_more P Q f (timer_todo.Step (timer_step.Count domain) ∷ more) h = tt
publishes_more P Q f (timer_todo.Step (timer_step.Peak domain) ∷ more) h = tt
publishes_more P Q f (timer_todo.Step (timer_step.Unseal domain) ∷ more) h = f domain h
publishes_more P Q f (timer_todo.Step (timer_step.Thresh domain) ∷ more) h = f domain h
publishes_more P Q f (timer_todo.Step (timer_step.Publish domain) ∷ more) h = f domain h
publishes_more P Q f (timer_todo.Silent item ∷ more) h = tt

module _ (trace : Trace) (i e t : ℕ) where
  -- ---- a domain, whose period, peak and events don't fall behind

  pub domain_going : (d : ℕ) (x : Domain) (s : State) → Going trace i e t s → d < length s.domains → IsDomain s.most (length s.steps) x
      → (domain_of d s).events.period ≤ x.events.period → (domain_of d s).peak ≤ x.peak → x.events.events ≤ sum_by written_of s.contexts + 1
      → Going trace i e t (record s { domains = set s.domains d x })
  domain_going d x s g there is period peak events =
      let h = g.holds in
      let ds : List Domain = set s.domains d x in
      let later : (j : ℕ) → (get_or s.domains j no_domain).events.period ≤ (get_or ds j no_domain).events.period
      = set_each (λ j (y : Domain). (get_or s.domains j no_domain).events.period ≤ y.events.period) s.domains d x no_domain there period (λ j n. omega arith) in
      let higher : (j : ℕ) → (get_or s.domains j no_domain).peak ≤ (get_or ds j no_domain).peak
      = set_each (λ j (y : Domain). (get_or s.domains j no_domain).peak ≤ y.peak) s.domains d x no_domain there peak (λ j n. omega arith) in
      record {
        holds = record {
          pages = h.pages;
          few = h.few;
          long = h.long;
          domains = record {
            many = length-set s.domains d x ∙ h.domains.many;
            each = set_all (λ j y. IsDomain s.most (length s.steps) y) s.domains d x no_domain is h.domains.each;
          };
          contexts = record {
            many = h.contexts.many;
            each = λ k less. let y = h.contexts.each k less in record {
              count = y.count;
              estimate = y.estimate;
              estimated = y.estimated;
              part = omega (arith, y.part, later 0);
              cgroup_part = omega (arith, y.cgroup_part, later (group_of trace k));
            };
          };
          written = record {
            total = h.written.total;
            events = set_all (λ j (y : Domain). y.events.events ≤ sum_by written_of s.contexts + 1) s.domains d x no_domain events h.written.events;
            part = h.written.part;
            cgroup_part = h.written.cgroup_part;
          };
          marks = h.marks;
          queues = h.queues;
          tasks = h.tasks;
          dirtied = h.dirtied;
          flushers = h.flushers;
          cpus = h.cpus;
          agreed = h.agreed;
          counted = h.counted;
          orders = h.orders;
          timer = record {
            todo = h.timer.todo;
            in_order = h.timer.in_order;
            under_peak = publishes_more (λ j. s.timer.limits.hard ≤ (get_or s.domains j no_domain).peak) (λ j. s.timer.limits.hard ≤ (get_or ds j no_domain).peak)
                (λ j l. omega (arith, l, higher j)) s.timer.todo h.timer.under_peak;
            began = h.timer.began;
            limits = h.timer.limits;
            period = h.timer.period;
          };
          horizon = h.horizon;
        };
        live = g.live;
        closed = g.closed;
        room = g.room;
      }

  -- ---- a context

  pub context_frame : (k : ℕ) (x : Writeback) (s : State) → Going trace i e t s → k < length s.contexts → IsContext trace s.most (length s.steps) s.now s.domains k x
      → AreWritten trace (length s.steps) e s.domains (set s.contexts k x) s.flushers → Going trace i e t (record s { contexts = set s.contexts k x })
  context_frame k x s g there is written =
      let h = g.holds in
      record {
        holds = record {
          pages = h.pages;
          few = h.few;
          long = h.long;
          domains = h.domains;
          contexts = record {
            many = length-set s.contexts k x ∙ h.contexts.many;
            each = set_each (λ j y. j < length trace.contexts → IsContext trace s.most (length s.steps) s.now s.domains j y) s.contexts k x no_context there (λ l. is) (λ j n. h.contexts.each j);
          };
          written = written;
          marks = h.marks;
          queues = h.queues;
          tasks = h.tasks;
          dirtied = h.dirtied;
          flushers = h.flushers;
          cpus = h.cpus;
          agreed = h.agreed;
          counted = h.counted;
          orders = h.orders;
          timer = h.timer;
          horizon = h.horizon;
        };
        live = g.live;
        closed = g.closed;
        room = g.room;
      }

  -- which has written as much
  pub context_going : (k : ℕ) (x : Writeback) (s : State) → Going trace i e t s → k < length s.contexts → IsContext trace s.most (length s.steps) s.now s.domains k x
      → x.written ≡ (writeback_of k s).written → x.part.events ≤ sum_by written_of s.contexts → x.cgroup_part.events ≤ sum_by written_of s.contexts
      → Going trace i e t (record s { contexts = set s.contexts k x })
  context_going k x s g there is same part cgroup_part =
      let h = g.holds in
      let sums = sum_set written_of s.contexts k x no_context there in
      let total : sum_by written_of (set s.contexts k x) ≡ sum_by written_of s.contexts = omega (arith, sums, same) in
      context_frame k x s g there is (record {
        total = omega (arith, h.written.total, total);
        events = λ d. omega (arith, h.written.events d, total);
        part = set_all (λ j (y : Writeback). y.part.events ≤ sum_by written_of (set s.contexts k x)) s.contexts k x no_context (omega (arith, part, total)) (λ j. omega (arith, h.written.part j, total));
        cgroup_part = set_all (λ j (y : Writeback). y.cgroup_part.events ≤ sum_by written_of (set s.contexts k x)) s.contexts k x no_context (omega (arith, cgroup_part, total)) (λ j. omega (arith, h.written.cgroup_part j, total));
      })

  -- ---- pages, marks and queues

  pub inodes_going : (book : Book) (marks : List Bool) (queues : List (List ℕ)) (s : State) → Going trace i e t s → length marks ≡ length s.marks → length queues ≡ length s.queues
      → ((d : ℕ) → All (AreQueued trace d) (get_or queues d [])) → Going trace i e t (record s { book = book; marks = marks; queues = queues })
  inodes_going book marks queues s g few many each = let h = g.holds in record {
    holds = record {
      pages = h.pages;
      few = h.few;
      long = h.long;
      domains = h.domains;
      contexts = h.contexts;
      written = h.written;
      marks = few ∙ h.marks;
      queues = record { many = many ∙ h.queues.many; each = each };
      tasks = h.tasks;
      dirtied = h.dirtied;
      flushers = h.flushers;
      cpus = h.cpus;
      agreed = h.agreed;
      counted = h.counted;
      orders = h.orders;
      timer = h.timer;
      horizon = h.horizon;
    };
    live = g.live;
    closed = g.closed;
    room = g.room;
  }

  pub event_going : (book : Book) (s : State) → Going trace i e t s → Going trace i e t (record s { book = book })
  event_going book s g = inodes_going book s.marks s.queues s g refl refl g.holds.queues.each

  -- ---- the timer

  pub timer_going : (tm : Timer) (t' d : ℕ) (s : State) → Going trace i e t s → IsTimer trace s.now s.domains tm → tm.next ≤ max s.timer.next (s.now + d) → timer_credit tm.todo + t' + d ≤ timer_credit s.timer.todo + t
      → Going trace i e t' (record s { timer = tm })
  timer_going tm t' d s g is next credit = let h = g.holds in record {
    holds = record {
      pages = h.pages;
      few = h.few;
      long = h.long;
      domains = h.domains;
      contexts = h.contexts;
      written = h.written;
      marks = h.marks;
      queues = h.queues;
      tasks = h.tasks;
      dirtied = h.dirtied;
      flushers = h.flushers;
      cpus = h.cpus;
      agreed = h.agreed;
      counted = h.counted;
      orders = h.orders;
      timer = is;
      horizon = record {
        clock = omega (arith, h.horizon.clock, credit);
        timer = omega (arith, h.horizon.clock, h.horizon.timer, credit, next);
        rest = λ k. omega (arith, h.horizon.rest k, credit);
        until = λ k. omega (arith, h.horizon.until k, credit);
      };
    };
    live = g.live;
    closed = g.closed;
    room = g.room;
  }

  -- ---- the clock, the order lines and the rotation

  pub clock_going : (moment : ℕ) (turn : Option Actor) (orders : List Stretch) (spent : Bool) (t' : ℕ) (s : State) → Going trace i e t s → s.now ≤ moment → All (IsStretch trace) orders
      → moment + (reserve (record s { orders = orders }) + t') ≤ latest → reserve (record s { orders = orders }) + t' ≤ reserve s + t
      → Going trace i e t' (record s { now = moment; rotation = turn; orders = orders; spent = spent })
  clock_going moment turn orders spent t' s g on fits clock less = let h = g.holds in record {
    holds = record {
      pages = h.pages;
      few = h.few;
      long = h.long;
      domains = h.domains;
      contexts = contexts_more trace s.most (length s.steps) (length s.steps) s.now moment s.domains s.contexts (omega arith) on h.contexts;
      written = h.written;
      marks = h.marks;
      queues = h.queues;
      tasks = h.tasks;
      dirtied = h.dirtied;
      flushers = h.flushers;
      cpus = cpus_more trace (length s.steps) (length s.steps) s.now moment s.cpus (omega arith) on h.cpus;
      agreed = h.agreed;
      counted = h.counted;
      orders = fits;
      timer = record { todo = h.timer.todo; in_order = h.timer.in_order; under_peak = h.timer.under_peak; began = omega (arith, h.timer.began, on); limits = h.timer.limits; period = omega (arith, h.timer.period, on) };
      horizon = record {
        clock = clock;
        timer = omega (arith, h.horizon.timer, less);
        rest = λ k. omega (arith, h.horizon.rest k, less);
        until = λ k. omega (arith, h.horizon.until k, less);
      };
    };
    live = g.live;
    closed = g.closed;
    room = g.room;
  }
