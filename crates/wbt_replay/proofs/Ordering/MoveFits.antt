-- What a sound state gives each silent move of a CPU.
use Rattle.std.proofs.Common.{◌≡◌, ℕ, ◌^◌, ◌<◌, ◌≤◌, Bool, cond, not, List, ◌∷◌, length, ⊎_elim, sym, ◌∙◌, ap, subst, arith}
use Rattle.std.proofs.Math.ListN.{set}
use Rattle.std.specs.List.{sum_by}
use Rattle.std.proofs.lemmas.Bool.{cases_lt}
use Rattle.std.proofs.lemmas.List.{get_or_past}
use Rattle.wbt_replay_order.proofs.Common.{new_writer, Writer, Trace, writer_of, State, cpu_of, with_cpu, task_of, flusher_of, no_cpu, no_task, group_of, ReadFits, FlyingFits, Cpu, ReplayTask, Whose, Silent, Todo, Facts, Sound, IsWhose, dirtied_of, leaks_of, is_running, Agrees}
use Rattle.wbt_task.specs.declared.allowance.Due.TheVariants as due
use Rattle.wbt_replay_moves.specs.Kept.Fit.{CanMove, DecideFits, HoldsLimits, EstimateFits, EndFits, ScanningFits, TestFits}
use Rattle.wbt_replay_moves.specs.declared.state.Whose.TheVariants as whose
use Rattle.wbt_replay_moves.specs.declared.todo.Silent.TheVariants as silent
use Rattle.wbt_replay_moves.specs.declared.todo.Todo.TheVariants as todo
use Rattle.wbt_replay.proofs.Ordering.PopFits.{kept, after, same, whose_is, fits_is, agrees_is, owner_fits}
use Rattle.wbt_replay_order.proofs.Facts.Things.{cpus_fit, moment_fits, holds_global, holds_cgroup, read_fits, estimate_fits, scanning_fits, flying_fits, test_fits}
use Rattle.wbt_replay_order.proofs.Lists.Numbered.{one_if, sum_part}

module _ (trace : Trace) (facts : Facts trace) (s : State) (sound : Sound trace s) where
  -- ---- the turn of a task

  -- A check is due of a writer of a context that is there.
  due_there : (task : ℕ) → task < length trace.tasks → (writer_of (task_of task s)).due ≡ due.Check → (task_of task s).context < length trace.contexts
  unfolding new_writer
  due_there task less is = ⊎_elim (λ some. (sound.holds.tasks.each task less).context some) (λ none. absurd (never none)) (cases_lt 0 (length trace.contexts))
    where
      never : length trace.contexts ≤ 0 → ⊥
      never none =
          let new : writer_of (task_of task s) ≡ new_writer 0 = get_or_past (task_of task s).writers (task_of task s).context (new_writer 0)
          (omega (arith, none, (sound.holds.tasks.each task less).writers)) in
          let quiet : (writer_of (task_of task s)).due ≡ due.No = ap (λ (w : Writer). w.due) new in
          cc (sym is ∙ quiet)

  module _ (i : ℕ) (less : i < trace.cpus) (t : Todo) (ts : List Todo) (first : (cpu_of i s).todo ≡ t ∷ ts) where
    abbrev made : ℕ
    made = (cpu_of i s).made

    check_of : (w : Whose) → IsWhose trace i w → Agrees trace s.tasks s.flushers w (todo.Silent silent.Decide) → DecideFits trace (after trace facts s sound i less t ts first made) (cpu_of i s).turn w
    check_of (whose.Flusher f) on agrees = tt
    check_of (whose.Task task) on agrees =
        let x : ReplayTask = task_of task s in
        let h = sound.holds.tasks.each task on.there in
        let k : ℕ = x.context in
        let there : k < length trace.contexts = due_there task on.there agrees in
        let fit = h.fit k (new_writer 0) (omega (arith, there, h.writers)) in
        record {
          there = omega (arith, on.there, sound.holds.tasks.many);
          writer = omega (arith, there, h.writers);
          counted = record { dirtied = omega (arith, fit.dirtied, sound.holds.few, sound.holds.long); allowance = omega (arith, fit.allowance) };
          reads = read_fits trace facts s sound (set s.cpus i (kept trace facts s sound i less t ts first made)) k there (cpu_of i s).turn (sound.holds.cpus.each i less).turn;
          cpus = cpus_fit trace facts s sound;
          cap = facts.some_cap;
          moment = omega (arith, moment_fits trace facts s sound);
        }

    end_of_task : (w : Whose) → IsWhose trace i w → Agrees trace s.tasks s.flushers w (todo.Silent silent.End) → EndFits i (after trace facts s sound i less t ts first made) w
    end_of_task (whose.Flusher f) on agrees = tt
    end_of_task (whose.Task task) on agrees =
        let x : ReplayTask = task_of task s in
        let h = sound.holds.tasks.each task on.there in
        let here : task < length s.tasks = omega (arith, on.there, sound.holds.tasks.many) in
        let runs = sum_part (λ (y : ReplayTask). one_if (is_running y)) s.tasks task no_task here in
        let one : one_if (is_running x) ≡ 1 = ap (λ (b : Bool). one_if (not b)) agrees in
        let dirtied = sum_part dirtied_of s.tasks task no_task here in
        let pages : dirtied_of x ≡ sum_by (λ (w : Writer). w.task.nr_dirtied) x.writers = ap (λ (b : Bool). cond b 0 (sum_by (λ (w : Writer). w.task.nr_dirtied) x.writers)) agrees in
        let leaked = sum_part leaks_of s.cpus i no_cpu (omega (arith, less, sound.holds.cpus.many)) in
        let leaks : (cpu_of i (after trace facts s sound i less t ts first made)).local.leaks ≡ (cpu_of i s).local.leaks = ap (λ (c : Cpu). c.local.leaks) (same trace facts s sound i less t ts first made) in
        record {
          there = here;
          contexts = h.writers ∙ sym sound.holds.contexts.many;
          few = omega (arith, sound.holds.contexts.many, facts.few_contexts);
          running = omega (arith, sound.holds.counted.tasks, runs, one);
          leaks = omega (arith, leaks, leaked, pages, dirtied, sound.holds.dirtied, sound.holds.few, sound.holds.long);
        }

  -- ---- each silent move

  pub move_fits : (i : ℕ) → i < trace.cpus → (item : Silent) (ts : List Todo) → (cpu_of i s).todo ≡ todo.Silent item ∷ ts
      → CanMove trace i item (with_cpu i (record (cpu_of i s) { todo = ts }) s)
  unfolding CanMove
  move_fits i less silent.Decide ts first =
      let t : Todo = todo.Silent silent.Decide in
      subst (λ (c : Cpu). DecideFits trace (after trace facts s sound i less t ts first (cpu_of i s).made) c.turn c.turn.whose) (sym (same trace facts s sound i less t ts first (cpu_of i s).made))
      (check_of i less t ts first (cpu_of i s).turn.whose (whose_is trace facts s sound i less t ts first (cpu_of i s).made) (agrees_is trace facts s sound i less t ts first (cpu_of i s).made))
  move_fits i less silent.End ts first =
      let t : Todo = todo.Silent silent.End in
      subst (λ (c : Cpu). EndFits i (after trace facts s sound i less t ts first (cpu_of i s).made) c.turn.whose) (sym (same trace facts s sound i less t ts first (cpu_of i s).made))
      (end_of_task i less t ts first (cpu_of i s).turn.whose (whose_is trace facts s sound i less t ts first (cpu_of i s).made) (agrees_is trace facts s sound i less t ts first (cpu_of i s).made))
  move_fits i less (silent.Estimate k) ts first =
      let t : Todo = todo.Silent (silent.Estimate k) in
      subst (λ (c : Cpu). EstimateFits trace k c.turn (after trace facts s sound i less t ts first (cpu_of i s).made)) (sym (same trace facts s sound i less t ts first (cpu_of i s).made))
      (estimate_fits trace facts s sound (set s.cpus i (kept trace facts s sound i less t ts first (cpu_of i s).made)) k (fits_is trace facts s sound i less t ts first (cpu_of i s).made) (cpu_of i s).turn (sound.holds.cpus.each i less).turn)
  move_fits i less (silent.Weigh k) ts first =
      let t : Todo = todo.Silent (silent.Weigh k) in
      let made : ℕ = (cpu_of i s).made in
      let there = fits_is trace facts s sound i less t ts first made in
      let now = sym (same trace facts s sound i less t ts first made) in
      let global = holds_global trace facts s sound i less in
      let cgroup = holds_cgroup trace facts s sound i less k there in
      record {
        reads = subst (λ (c : Cpu). ReadFits trace k c.turn (after trace facts s sound i less t ts first made)) now
            (read_fits trace facts s sound (set s.cpus i (kept trace facts s sound i less t ts first made)) k there (cpu_of i s).turn (sound.holds.cpus.each i less).turn);
        global = subst (HoldsLimits 0) now (record { there = global.there; lawful = global.lawful });
        cgroup = subst (HoldsLimits (group_of trace k)) now (record { there = cgroup.there; lawful = cgroup.lawful });
      }
  move_fits i less silent.Test ts first =
      let t : Todo = todo.Silent silent.Test in
      let began = (sound.holds.cpus.each i less).turn.began in (
        owner_fits trace facts s sound i less t ts first (cpu_of i s).made (λ f p. TestFits trace f (after trace facts s sound i less t ts first (cpu_of i s).made))
            (test_fits trace facts s sound (set s.cpus i (kept trace facts s sound i less t ts first (cpu_of i s).made))),
        subst (λ (c : Cpu). c.turn.began < 2 ^ 62) (sym (same trace facts s sound i less t ts first (cpu_of i s).made)) (omega (arith, began, moment_fits trace facts s sound)),
      )
  move_fits i less silent.Close ts first =
      let t : Todo = todo.Silent silent.Close in
      owner_fits trace facts s sound i less t ts first (cpu_of i s).made (λ f p. ScanningFits trace f (after trace facts s sound i less t ts first (cpu_of i s).made) p)
      (λ f there. scanning_fits trace facts s sound (set s.cpus i (kept trace facts s sound i less t ts first (cpu_of i s).made)) f there (flusher_of f s).phase (sound.holds.flushers.each f).phase)
  move_fits i less silent.HandOver ts first =
      let t : Todo = todo.Silent silent.HandOver in
      owner_fits trace facts s sound i less t ts first (cpu_of i s).made (λ f p. ScanningFits trace f (after trace facts s sound i less t ts first (cpu_of i s).made) p)
      (λ f there. scanning_fits trace facts s sound (set s.cpus i (kept trace facts s sound i less t ts first (cpu_of i s).made)) f there (flusher_of f s).phase (sound.holds.flushers.each f).phase)
  move_fits i less silent.Land ts first =
      let t : Todo = todo.Silent silent.Land in
      owner_fits trace facts s sound i less t ts first (cpu_of i s).made (λ f p. FlyingFits trace f (after trace facts s sound i less t ts first (cpu_of i s).made) p)
      (λ f there. flying_fits trace facts s sound (set s.cpus i (kept trace facts s sound i less t ts first (cpu_of i s).made)) f there (flusher_of f s).phase (sound.holds.flushers.each f).phase)
