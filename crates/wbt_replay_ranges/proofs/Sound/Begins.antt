-- A CPU begins a turn.
use Rattle.std.proofs.Common.{◌≡◌, ℕ, ◌+◌, ◌<◌, ◌≤◌, Bool, true, false, cond, ltb, [], length, All, refl, sym, ◌∙◌, ap, subst, arith}
use Rattle.std.specs.Prelude.{unsigned_abs}
use Rattle.std.proofs.Math.ListN.{set}
use Rattle.std.proofs.lemmas.Bool.Decides.{nat_tests}
use Rattle.std.proofs.lemmas.List.Elements.{All-nil}
use mathlib.Core.Logic.{dite}
use native.Mathlib.Decide.{ℕ_discrete}
use Rattle.wbt_num.specs.Limits.{IsLawful}
use Rattle.wbt_replay_order.proofs.Common.{Counter, Context, Trace, batch_of, at_turn, own_of, begin_turn, State, cpu_of, task_of, flusher_of, Cpu, Whose, after, Facts, IsFlusherOn, Sound, HasRoom, IsWhose, Agrees, IsOpen, closes_in, settles_next}
use Rattle.wbt_counter.specs.declared.counter.Counter.TheVariants.{Domain}
use Rattle.wbt_replay_moves.specs.Definition.State.{no_limits}
use Rattle.wbt_replay_moves.specs.declared.state.Whose.TheVariants as whose
use Rattle.wbt_replay_ranges.proofs.Sound.BeginFlushers.{flusher_begins}
use Rattle.wbt_replay_ranges.proofs.Sound.BeginTasks.{task_begins}
use Rattle.wbt_replay_ranges.proofs.Sound.Frames.{cpu_going}
use Rattle.wbt_replay_ranges.proofs.Sound.Going.{Going}
use Rattle.wbt_replay_ranges.proofs.Sound.Own.{Fits, Free, Done, fits_nil, is_set}
use Rattle.wbt_replay_ranges.proofs.Sound.Pops.{start_going}

pub after_less : (count n : ℕ) → 1 ≤ count → after count n < count
after_less count n some = cut (ltb (n + 1) count) (λ t. grind (arith, nat_tests))
  where
    cut : (b : Bool) → (b ≡ true → n + 1 < count) → cond b (n + 1) 0 < count
    cut true f = f refl
    cut false f = omega (arith, some)

module _ (trace : Trace) (facts : Facts trace) (i : ℕ) (less : i < trace.cpus) (s : State) (sound : Sound trace s) (room : HasRoom trace s) (live : (cpu_of i s).stopped ≡ false) (idle : (cpu_of i s).todo ≡ []) where
  -- Each flusher of a CPU that has nothing to do is open.
  all_open : (f : ℕ) → IsFlusherOn trace i f → IsOpen trace (flusher_of f s)
  all_open f on = by_whose (cpu_of i s).turn.whose refl
    where
      none : closes_in (cpu_of i s).todo ≡ false
      none = ap closes_in idle

      by_whose : (w : Whose) → (cpu_of i s).turn.whose ≡ w → IsOpen trace (flusher_of f s)
      by_whose (whose.Task k) e = (sound.holds.agreed i less).others f on (λ e'. let other : whose.Task k ≡ whose.Flusher f = sym e ∙ e' in absurd (cc other))
      by_whose (whose.Flusher h) e = dite (ℕ_discrete h f)
          (λ same. sound.closed i less f on (e ∙ ap whose.Flusher same) none)
          (λ other. (sound.holds.agreed i less).others f on (λ e'. let same : whose.Flusher h ≡ whose.Flusher f = sym e ∙ e' in other (cc same)))

  module _ (next next_task : ℕ) (w : Whose) (jobs : 1 ≤ length (cpu_of i s).jobs → next < length (cpu_of i s).jobs) (tasks : 1 ≤ length (cpu_of i s).tasks → next_task < length (cpu_of i s).tasks) (is : IsWhose trace i w) where
    g0 : Going trace i 0 0 s
    g0 = start_going trace facts i less s sound room live

    abbrev sought : State
    sought = record s { cpus = set s.cpus i (record (cpu_of i s) { next = next; next_task = next_task }) }

    g1 : Going trace i 0 0 sought
    g1 =
        let h = sound.holds.cpus.each i less in
        let a = sound.holds.agreed i less in
        cpu_going trace facts i less (record (cpu_of i s) { next = next; next_task = next_task }) 0 0 0 0 s g0
        (record { jobs = h.jobs; tasks = h.tasks; next = jobs; next_task = tasks; turn = h.turn; whose = h.whose; todo = h.todo; in_order = h.in_order; own_domains = h.own_domains; own_contexts = h.own_contexts; many_held = h.many_held; held = h.held; since = h.since; made = h.made })
        (record { items = a.items; others = a.others }) refl (omega arith) (omega arith) (omega arith)

    same1 : cpu_of i sought ≡ record (cpu_of i s) { next = next; next_task = next_task }
    same1 = is_set trace facts i less (record (cpu_of i s) { next = next; next_task = next_task }) 0 0 s g0

    idle1 : (cpu_of i sought).todo ≡ []
    idle1 = ap (λ (c : Cpu). c.todo) same1 ∙ idle

    abbrev turned : State
    turned = record sought { cpus = set sought.cpus i (at_turn w s.now (cpu_of i sought)) }

    g2 : Going trace i 0 0 turned
    g2 =
        let h = g1.holds.cpus.each i less in
        cpu_going trace facts i less (at_turn w s.now (cpu_of i sought)) 0 0 0 0 sought g1
        (record {
          jobs = h.jobs;
          tasks = h.tasks;
          next = h.next;
          next_task = h.next_task;
          turn = record { began = omega arith; global = lawful; cgroup = lawful; global_count = omega arith; cgroup_count = omega arith; context_count = omega arith };
          whose = λ _. is;
          todo = h.todo;
          in_order = h.in_order;
          own_domains = h.own_domains;
          own_contexts = h.own_contexts;
          many_held = h.many_held;
          held = h.held;
          since = h.since;
          made = h.made;
        })
        (record { items = subst (All (Agrees trace s.tasks s.flushers w)) (sym idle1) (All-nil (Agrees trace s.tasks s.flushers w)); others = λ f on n. all_open f on })
        refl (omega arith) (omega arith) (omega arith)
      where
        lawful : IsLawful no_limits
        lawful = record { bg_below_thresh = omega arith; thresh_below_hard = omega arith; hard_in_range = omega arith }

    same2 : cpu_of i turned ≡ at_turn w s.now (cpu_of i sought)
    same2 = is_set trace facts i less (at_turn w s.now (cpu_of i sought)) 0 0 sought g1

    turn2 : (cpu_of i turned).turn.whose ≡ w
    turn2 = ap (λ (c : Cpu). c.turn.whose) same2

    idle2 : (cpu_of i turned).todo ≡ []
    idle2 = ap (λ (c : Cpu). c.todo) same2 ∙ idle1

    free2 : Free trace i 3 turned
    free2 = record {
      whose = subst (IsWhose trace i) (sym turn2) is;
      fits = subst (Fits trace s.tasks s.flushers (cpu_of i turned).turn.whose 3) (sym idle2) (fits_nil trace s.tasks s.flushers (cpu_of i turned).turn.whose 3);
      room = λ x. subst (λ (c : Cpu). unsigned_abs (own_of x c) < batch_of trace x) (sym same2) (own_same x);
    }
      where
        base : (x : Counter) → unsigned_abs (own_of x (cpu_of i s)) < batch_of trace x
        base x = (room.own i less).room x (ap (settles_next x) idle)

        own_same : (x : Counter) → unsigned_abs (own_of x (at_turn w s.now (cpu_of i sought))) < batch_of trace x
        own_same (Domain d) = subst (λ (c : Cpu). unsigned_abs (own_of (Domain d) c) < batch_of trace (Domain d)) (sym same1) (base (Domain d))
        own_same (Context k) = subst (λ (c : Cpu). unsigned_abs (own_of (Context k) c) < batch_of trace (Context k)) (sym same1) (base (Context k))

  pub turn_begins : (next next_task : ℕ) (w : Whose) → (1 ≤ length (cpu_of i s).jobs → next < length (cpu_of i s).jobs) → (1 ≤ length (cpu_of i s).tasks → next_task < length (cpu_of i s).tasks) → IsWhose trace i w
      → ((k : ℕ) → w ≡ whose.Task k → (task_of k s).ended ≡ false)
      → Done trace i (begin_turn trace i w (record s { cpus = set s.cpus i (record (cpu_of i s) { next = next; next_task = next_task }) }))
  turn_begins next next_task (whose.Task k) jobs tasks is running =
      task_begins trace facts i less k (turned next next_task (whose.Task k) jobs tasks is) is (turn2 next next_task (whose.Task k) jobs tasks is) (g2 next next_task (whose.Task k) jobs tasks is) (free2 next next_task (whose.Task k) jobs tasks is) (running k refl)
  turn_begins next next_task (whose.Flusher f) jobs tasks is running =
      flusher_begins trace facts i less (turned next next_task (whose.Flusher f) jobs tasks is) f is (turn2 next next_task (whose.Flusher f) jobs tasks is) (g2 next next_task (whose.Flusher f) jobs tasks is) (free2 next next_task (whose.Flusher f) jobs tasks is)
      (idle2 next next_task (whose.Flusher f) jobs tasks is) (all_open f is)
