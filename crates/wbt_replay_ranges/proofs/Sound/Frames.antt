-- What keeps a state in the midst of a move: one CPU changes, one task, one flusher.
use Rattle.std.proofs.Common.{◌≡◌, ◌≢◌, ℕ, ◌+◌, ◌<◌, ◌≤◌, Bool, cond, max, List, length, get_or, All, sym, ◌∙◌, ap, subst, arith}
use Rattle.std.proofs.Math.ListN.{set}
use Rattle.std.specs.List.{count_by}
use Rattle.std.proofs.lemmas.List.{length-set, get_or-set_same, get_or-set_other}
use mathlib.Core.Logic.{dite}
use native.Mathlib.Decide.{ℕ_discrete}
use Rattle.wbt_replay_order.proofs.Common.{Trace, State, cpu_of, task_of, no_cpu, no_task, Cpu, ReplayJob, ReplayTask, Whose, Todo, Facts, IsTaskOn, latest, reserve, credit_of, rests_of, IsClosed, IsRoom, IsTask, IsCpu, IsWhose, IsAgreed, AreDirtied, dirtied_of, leaks_of, is_running, is_at_work, working_on, is_stopped, Agrees, TaskAgrees}
use Rattle.wbt_replay_moves.specs.declared.state.Whose.TheVariants as whose
use Rattle.wbt_replay_order.proofs.Facts.Lists.{set_each}
use Rattle.wbt_replay_ranges.proofs.Sound.Going.{Going}
use Rattle.wbt_replay_order.proofs.Lists.Numbered.{one_if, set_all, sum_set, count_set}

module _ (trace : Trace) (facts : Facts trace) (i : ℕ) (less : i < trace.cpus) where
  -- ---- the CPU itself changes

  pub cpu_frame : (c : Cpu) (e e' t t' : ℕ) (s : State) → Going trace i e t s → IsCpu trace (length s.steps) s.now i c → IsAgreed trace s.tasks s.flushers i c
      → c.stopped ≡ (cpu_of i s).stopped → AreDirtied (length s.steps) e' s.tasks (set s.cpus i c) → credit_of c + t' ≤ credit_of (cpu_of i s) + t → e' ≤ e
      → Going trace i e' t' (record s { cpus = set s.cpus i c })
  cpu_frame c e e' t t' s g is agreed stops dirtied credit fewer =
      let h = g.holds in
      let there : i < length s.cpus = omega (arith, h.cpus.many, less) in
      let sums = sum_set credit_of s.cpus i c no_cpu there in
      let stopped = count_set is_stopped s.cpus i c no_cpu there in
      let before : IsCpu trace (length s.steps) s.now i (cpu_of i s) = h.cpus.each i less in
      let works : working_on s.flushers c ≡ working_on s.flushers (cpu_of i s) = ap (λ (b : Bool). cond b 0 (count_by (is_at_work s.flushers) c.jobs)) stops ∙
      ap (λ (js : List ReplayJob). cond (cpu_of i s).stopped 0 (count_by (is_at_work s.flushers) js)) (is.jobs ∙ sym before.jobs) in
      let working = sum_set (working_on s.flushers) s.cpus i c no_cpu there in
      let stops' : one_if c.stopped ≡ one_if (cpu_of i s).stopped = ap one_if stops in
      record {
        holds = record {
          pages = h.pages;
          few = h.few;
          long = h.long;
          domains = h.domains;
          contexts = h.contexts;
          written = record { total = omega (arith, h.written.total, fewer); events = h.written.events; part = h.written.part; cgroup_part = h.written.cgroup_part };
          marks = h.marks;
          queues = h.queues;
          tasks = h.tasks;
          dirtied = dirtied;
          flushers = h.flushers;
          cpus = record {
            many = length-set s.cpus i c ∙ h.cpus.many;
            each = set_each (λ j d. j < trace.cpus → IsCpu trace (length s.steps) s.now j d) s.cpus i c no_cpu there (λ l. is) (λ j n. h.cpus.each j);
          };
          agreed = set_each (λ j d. j < trace.cpus → IsAgreed trace s.tasks s.flushers j d) s.cpus i c no_cpu there (λ l. agreed) (λ j n. h.agreed j);
          counted = record {
            tasks = h.counted.tasks;
            flushers = omega (arith, h.counted.flushers, working, works);
            cpus = omega (arith, h.counted.cpus, stopped, stops');
          };
          orders = h.orders;
          timer = h.timer;
          horizon = record {
            clock = omega (arith, h.horizon.clock, sums, credit);
            timer = omega (arith, h.horizon.timer, sums, credit);
            rest = λ k. omega (arith, h.horizon.rest k, sums, credit);
            until = λ k. omega (arith, h.horizon.until k, sums, credit);
          };
        };
        live = ap (λ (d : Cpu). d.stopped) (get_or-set_same s.cpus i c no_cpu there) ∙ (stops ∙ g.live);
        closed = λ j n. subst (λ (d : Cpu). j < trace.cpus → IsClosed trace s.flushers j d) (sym (get_or-set_other s.cpus i j c no_cpu n)) (g.closed j n);
        room = λ j n. subst (λ (d : Cpu). j < trace.cpus → IsRoom trace d) (sym (get_or-set_other s.cpus i j c no_cpu n)) (g.room j n);
      }

  pub cpu_going : (c : Cpu) (e e' t t' : ℕ) (s : State) → Going trace i e t s → IsCpu trace (length s.steps) s.now i c → IsAgreed trace s.tasks s.flushers i c
      → c.stopped ≡ (cpu_of i s).stopped → leaks_of c + e' ≤ leaks_of (cpu_of i s) + e → credit_of c + t' ≤ credit_of (cpu_of i s) + t → e' ≤ e
      → Going trace i e' t' (record s { cpus = set s.cpus i c })
  cpu_going c e e' t t' s g is agreed stops leaks credit fewer =
      let leaked = sum_set leaks_of s.cpus i c no_cpu (omega (arith, g.holds.cpus.many, less)) in
      cpu_frame c e e' t t' s g is agreed stops (omega (arith, g.holds.dirtied, leaked, leaks)) credit fewer

  -- ---- a task of the CPU changes

  -- another CPU's turn isn't this task's
  other_task : (k j : ℕ) (w : Whose) → IsTaskOn trace i k → j ≢ i → IsWhose trace j w → w ≢ whose.Task k
  other_task k j w on n is e = let there : IsTaskOn trace j k = subst (IsWhose trace j) e is in n (sym there.cpu_is ∙ on.cpu_is)

  -- what an item says of tasks, where another task changed
  agrees_but : (k : ℕ) (x : ReplayTask) (s : State) (w : Whose) (t : Todo) → w ≢ whose.Task k → Agrees trace s.tasks s.flushers w t → Agrees trace (set s.tasks k x) s.flushers w t
  agrees_but k x s (whose.Task task) t n h = subst (λ (y : ReplayTask). TaskAgrees y t) (sym (get_or-set_other s.tasks k task x no_task (λ e. n (ap whose.Task e)))) h
  agrees_but k x s (whose.Flusher flusher) t n h = h

  agrees_task : (k : ℕ) (x : ReplayTask) (s : State) (t : Todo) → k < length s.tasks → TaskAgrees x t → Agrees trace (set s.tasks k x) s.flushers (whose.Task k) t
  agrees_task k x s t there h = subst (λ (y : ReplayTask). TaskAgrees y t) (sym (get_or-set_same s.tasks k x no_task there)) h

  pub task_frame : (k : ℕ) (x : ReplayTask) (r e e' t t' d : ℕ) (s : State) → IsTaskOn trace i k → (cpu_of i s).turn.whose ≡ whose.Task k → Going trace i e t s
      → IsTask trace (length s.steps) k x → All (TaskAgrees x) (cpu_of i s).todo
      → AreDirtied (length s.steps) e' (set s.tasks k x) s.cpus → e' ≤ e
      → x.rest ≤ max (task_of k s).rest (s.now + d) → rests_of x + t' + d ≤ rests_of (task_of k s) + t
      → r + cond (is_running (task_of k s)) 1 0 ≡ s.running + cond (is_running x) 1 0
      → Going trace i e' t' (record s { tasks = set s.tasks k x; running = r })
  task_frame k x r e e' t t' d s on turn g is agree dirtied fewer rest rests runs =
      let h = g.holds in
      let there : k < length s.tasks = omega (arith, h.tasks.many, on.there) in
      let sums = sum_set rests_of s.tasks k x no_task there in
      let running = count_set is_running s.tasks k x no_task there in
      let spent : reserve (record s { tasks = set s.tasks k x }) + t' + d ≤ reserve s + t = omega (arith, sums, rests) in
      record {
        holds = record {
          pages = h.pages;
          few = h.few;
          long = h.long;
          domains = h.domains;
          contexts = h.contexts;
          written = record { total = omega (arith, h.written.total, fewer); events = h.written.events; part = h.written.part; cgroup_part = h.written.cgroup_part };
          marks = h.marks;
          queues = h.queues;
          tasks = record {
            many = length-set s.tasks k x ∙ h.tasks.many;
            each = set_each (λ j y. j < length trace.tasks → IsTask trace (length s.steps) j y) s.tasks k x no_task there (λ l. is) (λ j n. h.tasks.each j);
          };
          dirtied = dirtied;
          flushers = h.flushers;
          cpus = h.cpus;
          agreed = λ j l. dite (ℕ_discrete j i) (own j l) (other j l);
          counted = record {
            tasks = omega (arith, h.counted.tasks, running, runs);
            flushers = h.counted.flushers;
            cpus = h.counted.cpus;
          };
          orders = h.orders;
          timer = h.timer;
          horizon = record {
            clock = omega (arith, h.horizon.clock, spent);
            timer = omega (arith, h.horizon.timer, spent);
            rest = set_all (λ j (y : ReplayTask). y.rest + (reserve (record s { tasks = set s.tasks k x }) + t') ≤ latest) s.tasks k x no_task
                (omega (arith, h.horizon.clock, h.horizon.rest k, spent, rest)) (λ j. omega (arith, h.horizon.rest j, spent));
            until = λ f. omega (arith, h.horizon.until f, spent);
          };
        };
        live = g.live;
        closed = g.closed;
        room = g.room;
      }
    where
      own : (j : ℕ) → j < trace.cpus → j ≡ i → IsAgreed trace (set s.tasks k x) s.flushers j (cpu_of j s)
      own j l e =
          let here : k < length s.tasks = omega (arith, g.holds.tasks.many, on.there) in
          subst (λ (n : ℕ). IsAgreed trace (set s.tasks k x) s.flushers n (cpu_of n s)) (sym e) (record {
            items = subst (λ (w : Whose). All (Agrees trace (set s.tasks k x) s.flushers w) (cpu_of i s).todo) (sym turn)
                (λ n (y : Todo) (m : n < length (cpu_of i s).todo). agrees_task k x s (get_or (cpu_of i s).todo n y) here (agree n y m));
            others = (g.holds.agreed i less).others;
          })

      other : (j : ℕ) → j < trace.cpus → j ≢ i → IsAgreed trace (set s.tasks k x) s.flushers j (cpu_of j s)
      other j l n = let h = g.holds.agreed j l in record {
        items = λ m (y : Todo) (fits : m < length (cpu_of j s).todo). agrees_but k x s (cpu_of j s).turn.whose (get_or (cpu_of j s).todo m y)
            (other_task k j (cpu_of j s).turn.whose on n ((g.holds.cpus.each j l).whose (omega (arith, fits)))) (h.items m y fits);
        others = h.others;
      }

  pub task_going : (k : ℕ) (x : ReplayTask) (r e e' t t' d : ℕ) (s : State) → IsTaskOn trace i k → (cpu_of i s).turn.whose ≡ whose.Task k → Going trace i e t s
      → IsTask trace (length s.steps) k x → All (TaskAgrees x) (cpu_of i s).todo
      → dirtied_of x + e' ≤ dirtied_of (task_of k s) + e → e' ≤ e
      → x.rest ≤ max (task_of k s).rest (s.now + d) → rests_of x + t' + d ≤ rests_of (task_of k s) + t
      → r + cond (is_running (task_of k s)) 1 0 ≡ s.running + cond (is_running x) 1 0
      → Going trace i e' t' (record s { tasks = set s.tasks k x; running = r })
  task_going k x r e e' t t' d s on turn g is agree dirtied fewer rest rests runs =
      let dirty = sum_set dirtied_of s.tasks k x no_task (omega (arith, g.holds.tasks.many, on.there)) in
      task_frame k x r e e' t t' d s on turn g is agree (omega (arith, g.holds.dirtied, dirty, dirtied)) fewer rest rests runs
