-- Each move of a run keeps its state sound.
use Rattle.std.proofs.Common.{◌≡◌, ℕ, ◌+◌, ◌<◌, ◌≤◌, Bool, true, false, cond, leb, List, [], ◌∷◌, length, refl, ◌∙◌, ap, arith}
use Rattle.std.specs.List.{count_by}
use Rattle.std.proofs.Math.ListN.{set}
use Rattle.std.proofs.lemmas.Bool.Decides.{nat_tests}
use Rattle.std.proofs.lemmas.List.{length-set}
use Rattle.std.specs.Prelude.{unsigned_abs}
use Rattle.wbt_replay_order.proofs.Common.{Counter, Context, Trace, batch_of, own_of, make_step, make_move, make_timer_step, State, cpu_of, no_cpu, Actor, Cpu, Step, TimerStep, TimerTodo, Todo, is_full, is_halted, spend, stop, step_or_stop, cpu_on, timer_on, go_on, Facts, Sound, HasRoom, IsClosed, IsRoom, IsCpu, IsAgreed, leaks_of, working_on, is_at_work, is_stopped, credit_of, settles_next}
use Rattle.wbt_counter.specs.declared.counter.Counter.TheVariants.{Domain}
use Rattle.wbt_replay_moves.specs.declared.state.Actor.TheVariants as who
use Rattle.wbt_replay_moves.specs.declared.todo.TimerTodo.TheVariants as timer_todo
use Rattle.wbt_replay_moves.specs.declared.todo.Todo.TheVariants as todo
use Rattle.wbt_replay_order.specs.Definition.Order.{timer_step_or_end}
use Rattle.wbt_replay_order.proofs.Facts.Lists.{either, set_each}
use Rattle.wbt_replay_ranges.proofs.Sound.Clock.{spend_kept}
use Rattle.wbt_replay_ranges.proofs.Sound.Items.{step_done, silent_done}
use Rattle.wbt_replay_order.proofs.Lists.Numbered.{sum_set, count_set, one_if}
use Rattle.wbt_replay_ranges.proofs.Sound.Pops.{is_done}
use Rattle.wbt_replay_ranges.proofs.Sound.TimerMoves.{timer_move_kept}
use Rattle.wbt_replay_ranges.proofs.Sound.Timers.{timer_step_kept}

abbrev pub Keeps : (trace : Trace) (s : State) → Type 0
Keeps trace s = Sound trace s × HasRoom trace s

module _ (trace : Trace) (facts : Facts trace) (s : State) (sound : Sound trace s) (room : HasRoom trace s) where
  -- ---- a CPU is stopped

  stop_kept : (i : ℕ) → i < trace.cpus → (cpu_of i s).stopped ≡ false → Keeps trace (stop i s)
  stop_kept i less live =
      let h = sound.holds in
      let c : Cpu = record (cpu_of i s) { stopped = true } in
      let there : i < length s.cpus = omega (arith, h.cpus.many, less) in
      let credits = sum_set credit_of s.cpus i c no_cpu there in
      let leaks = sum_set leaks_of s.cpus i c no_cpu there in
      let working = sum_set (working_on s.flushers) s.cpus i c no_cpu there in
      let stopped = count_set is_stopped s.cpus i c no_cpu there in
      let was : one_if (cpu_of i s).stopped ≡ 0 = ap one_if live in
      let had : working_on s.flushers (cpu_of i s) ≡ count_by (is_at_work s.flushers) (cpu_of i s).jobs = ap (λ (b : Bool). cond b 0 (count_by (is_at_work s.flushers) (cpu_of i s).jobs)) live in
      let mine = h.cpus.each i less in
      let agreed = h.agreed i less in (
        record {
          holds = record {
            pages = h.pages;
            few = h.few;
            long = h.long;
            domains = h.domains;
            contexts = h.contexts;
            written = h.written;
            marks = h.marks;
            queues = h.queues;
            tasks = h.tasks;
            dirtied = omega (arith, h.dirtied, leaks);
            flushers = h.flushers;
            cpus = record {
              many = length-set s.cpus i c ∙ h.cpus.many;
              each = set_each (λ j d. j < trace.cpus → IsCpu trace (length s.steps) s.now j d) s.cpus i c no_cpu there
                  (λ l. record {
                    jobs = mine.jobs;
                    tasks = mine.tasks;
                    next = mine.next;
                    next_task = mine.next_task;
                    turn = mine.turn;
                    whose = mine.whose;
                    todo = mine.todo;
                    in_order = mine.in_order;
                    own_domains = mine.own_domains;
                    own_contexts = mine.own_contexts;
                    many_held = mine.many_held;
                    held = mine.held;
                    since = mine.since;
                    made = mine.made;
                  }) (λ j n. h.cpus.each j);
            };
            agreed = set_each (λ j d. j < trace.cpus → IsAgreed trace s.tasks s.flushers j d) s.cpus i c no_cpu there (λ l. record { items = agreed.items; others = agreed.others }) (λ j n. h.agreed j);
            counted = record {
              tasks = h.counted.tasks;
              flushers = omega (arith, h.counted.flushers, working, had);
              cpus = omega (arith, h.counted.cpus, stopped, was);
            };
            orders = h.orders;
            timer = h.timer;
            horizon = record {
              clock = omega (arith, h.horizon.clock, credits);
              timer = omega (arith, h.horizon.timer, credits);
              rest = λ k. omega (arith, h.horizon.rest k, credits);
              until = λ k. omega (arith, h.horizon.until k, credits);
            };
          };
          closed = set_each (λ j d. j < trace.cpus → IsClosed trace s.flushers j d) s.cpus i c no_cpu there (λ l. sound.closed i less) (λ j n. sound.closed j);
        },
        record { own = set_each (λ j d. j < trace.cpus → IsRoom trace d) s.cpus i c no_cpu there (λ l. same_room (room.own i less)) (λ j n. room.own j) },
      )
    where
      same_room : IsRoom trace (cpu_of i s) → IsRoom trace (record (cpu_of i s) { stopped = true })
      same_room r = record { settles = r.settles; most = most_of; room = room_of }
        where
          most_of : (y : Counter) → unsigned_abs (own_of y (record (cpu_of i s) { stopped = true })) ≤ batch_of trace y
          most_of (Domain d) = r.most (Domain d)
          most_of (Context k) = r.most (Context k)

          room_of : (y : Counter) → settles_next y (cpu_of i s).todo ≡ false → unsigned_abs (own_of y (record (cpu_of i s) { stopped = true })) < batch_of trace y
          room_of (Domain d) = r.room (Domain d)
          room_of (Context k) = r.room (Context k)

  -- ---- a CPU goes on

  has_room : (most n : ℕ) → leb most n ≡ false → n < most
  has_room most n e = grind (arith, nat_tests)

  step_kept : (i : ℕ) → i < trace.cpus → (cpu_of i s).stopped ≡ false → (item : Step) (ts : List Todo) → (cpu_of i s).todo ≡ todo.Step item ∷ ts → Keeps trace (step_or_stop trace i item ts s)
  step_kept i less live item ts first =
      let x : State = record s { cpus = set s.cpus i (record (cpu_of i s) { todo = ts; made = (cpu_of i s).made + 1 }) } in
      either (Keeps trace) (is_halted trace.halt (cpu_of i s).made) (stop i s) (cond (is_full s) (spend s) (make_step trace i item x))
      (λ halted. stop_kept i less live)
      (λ goes. either (Keeps trace) (is_full s) (spend s) (make_step trace i item x)
      (λ full. spend_kept trace s sound room)
      (λ more. is_done trace facts i less (make_step trace i item x) (step_done trace facts i less s sound room live item ts first (has_room s.most (length s.steps) more))))

  cpu_on_kept : (i : ℕ) → i < trace.cpus → (cpu_of i s).stopped ≡ false → (todos : List Todo) → (cpu_of i s).todo ≡ todos → Keeps trace (cpu_on trace i todos s)
  cpu_on_kept i less live [] e = (sound, room)
  cpu_on_kept i less live (todo.Step item ∷ ts) e = step_kept i less live item ts e
  cpu_on_kept i less live (todo.Silent item ∷ ts) e =
      is_done trace facts i less (make_move trace i item (record s { cpus = set s.cpus i (record (cpu_of i s) { todo = ts }) })) (silent_done trace facts i less s sound room live item ts e)

  -- ---- the timer goes on

  timer_step_on : (ts : List TimerTodo) (item : TimerStep) → s.timer.todo ≡ timer_todo.Step item ∷ ts → Keeps trace (timer_step_or_end trace item ts s)
  timer_step_on ts item e = either (Keeps trace) (is_full s) (spend s) (make_timer_step trace item (record s { timer = record s.timer { todo = ts } }))
      (λ full. spend_kept trace s sound room)
      (λ more. timer_step_kept trace facts s sound room item ts e (has_room s.most (length s.steps) more))

  timer_on_kept : (todos : List TimerTodo) → s.timer.todo ≡ todos → Keeps trace (timer_on trace todos s)
  timer_on_kept [] e = (sound, room)
  timer_on_kept (timer_todo.Step item ∷ ts) e = timer_step_on ts item e
  timer_on_kept (timer_todo.Silent item ∷ ts) e = timer_move_kept trace facts s sound room item ts e

  -- an actor that isn't a stopped CPU
  abbrev pub Lives : (actor : Actor) → Type 0
  Lives (who.Cpu i) = (i < trace.cpus) × ((cpu_of i s).stopped ≡ false)
  Lives who.Timer = Unit {0}

  pub go_on_kept : (actor : Actor) → Lives actor → Keeps trace (go_on trace actor s)
  go_on_kept (who.Cpu i) lives = cpu_on_kept i lives.0 lives.1 (cpu_of i s).todo refl
  go_on_kept who.Timer lives = timer_on_kept s.timer.todo refl
