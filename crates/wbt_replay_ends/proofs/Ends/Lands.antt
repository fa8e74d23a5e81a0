-- The end of a flight costs more than it leaves to be done. What is counted in then changes nothing that costs.
use Rattle.std.proofs.Common.{◌≡◌, ℕ, zero, suc, ◌+◌, ◌<◌, false, eqb, List, ◌∷◌, length, get_or, refl, sym, ◌∙◌, ap, subst, arith}
use Rattle.std.proofs.Math.ListN.{set}
use Rattle.std.specs.List.{sum_by}
use Rattle.std.proofs.lemmas.List.{get_or-set_same, set-set, set-get_or}
use Rattle.wbt_replay_order.proofs.Common.{fraction_of, may_be_added, StepEntry, Trace, logged, part_in, share, share_group, with_written, landed, land_in, State, no_cpu, cpu_of, flusher_of, domain_of, writeback_of, in_phase, context_of, group_of, max_share, Cpu, Flusher, ReplayPhase, ReplayTask, is_finished, ahead_cost, IsPaid, is_last, cpu_cost, task_cost, flusher_cost, IsFlying}
use Rattle.wbt_journal.specs.declared.entry.Entry.TheVariants as entry
use Rattle.wbt_replay_moves.specs.declared.state.ReplayPhase.TheVariants as phase
use Rattle.wbt_replay_moves.specs.declared.todo.Silent.TheVariants as silent
use Rattle.wbt_replay_moves.specs.declared.todo.Todo.TheVariants as todo
use Rattle.wbt_replay_order.proofs.Facts.Lists.{either}
use Rattle.wbt_replay_ends.proofs.Ends.Flushes.{before, Quietly}
use Rattle.wbt_replay_ends.proofs.Ends.Goes.{Outside, outside, pace, Goes, cpu_goes, flusher_goes}

-- a change that nothing depends on: of the CPU's part of the journal alone
record IsQuiet (i : ℕ) (u r : State) : Type 0 where
  same : outside r ≡ outside u
  steps : r.steps ≡ u.steps
  tasks : r.tasks ≡ u.tasks
  flushers : r.flushers ≡ u.flushers
  cpu : Cpu
  cpus : r.cpus ≡ set u.cpus i cpu
  paces : pace cpu ≡ pace (cpu_of i u)
  turn : cpu.turn ≡ (cpu_of i u).turn
  todo : cpu.todo ≡ (cpu_of i u).todo

module _ (i made most : ℕ) (s u r : State) (there : i < length s.cpus) (goes : Goes i made most s u) (quiet : IsQuiet i u r) where
  here : cpu_of i u ≡ goes.cpu
  here = ap (λ (l : List Cpu). get_or l i no_cpu) goes.cpus ∙ get_or-set_same s.cpus i goes.cpu no_cpu there

  todos : quiet.cpu.todo ≡ goes.cpu.todo
  todos = quiet.todo ∙ ap (λ (c : Cpu). c.todo) here

  turns : quiet.cpu.turn.whose ≡ goes.cpu.turn.whose
  turns = ap (λ t. t.whose) quiet.turn ∙ ap (λ (c : Cpu). c.turn.whose) here

  quiet_goes : Goes i made most s r
  quiet_goes = record {
    same = quiet.same ∙ goes.same;
    steps = ap (λ (l : List StepEntry). length l) quiet.steps ∙ goes.steps;
    cpu = quiet.cpu;
    cpus = quiet.cpus ∙ (ap (λ (l : List Cpu). set l i quiet.cpu) goes.cpus ∙ set-set s.cpus i goes.cpu quiet.cpu);
    paces = quiet.paces ∙ (ap pace here ∙ goes.paces);
    todo = subst IsPaid (sym todos) goes.todo;
    apart = λ j n. goes.apart j n ∙ ap (λ (l : List ReplayTask). cpu_cost l (cpu_of j s)) (sym quiet.tasks);
    sums =
        let tasks = ap (λ (l : List ReplayTask). sum_by (task_cost r.now) l) quiet.tasks in
        let flushers = ap (λ (l : List Flusher). sum_by (flusher_cost r.now) l) quiet.flushers in
        let now = ap (λ (o : Outside). sum_by (task_cost o.now) u.tasks + sum_by (flusher_cost o.now) u.flushers) quiet.same in
        let first = ap (λ (l : List ReplayTask). ahead_cost (is_last l quiet.cpu.turn.whose) quiet.cpu.todo) quiet.tasks in
        let second = ap (λ w. ahead_cost (is_last u.tasks w) quiet.cpu.todo) turns in
        let third = ap (ahead_cost (is_last u.tasks goes.cpu.turn.whose)) todos in
        omega (arith, goes.sums, tasks, flushers, now, first, second, third);
  }

nothing_quiet : (i : ℕ) (u : State) → IsQuiet i u u
nothing_quiet i u = record {
  same = refl;
  steps = refl;
  tasks = refl;
  flushers = refl;
  cpu = cpu_of i u;
  cpus = sym (set-get_or u.cpus i no_cpu);
  paces = refl;
  turn = refl;
  todo = refl;
}

share_quiet : (trace : Trace) (i domain context n : ℕ) (u : State) → IsQuiet i u (share trace i domain context n u)
share_quiet trace i domain context n u =
    either (IsQuiet i u) (may_be_added (fraction_of (part_in domain (writeback_of context u)) (domain_of domain u).events) (max_share trace context)) _ _
    (λ is. record {
      same = refl;
      steps = refl;
      tasks = refl;
      flushers = refl;
      cpu = logged (entry.Share domain context n) (cpu_of i u);
      cpus = refl;
      paces = refl;
      turn = refl;
      todo = refl;
    })
    (λ is. nothing_quiet i u)

group_quiet : (trace : Trace) (i group context n : ℕ) (u : State) → IsQuiet i u (share_group trace i group context n u)
group_quiet trace i zero context n u = nothing_quiet i u
group_quiet trace i (suc cgroup) context n u = share_quiet trace i (suc cgroup) context n u

module _ (trace : Trace) (i : ℕ) (s : State) (there : i < length s.cpus) (f : ℕ) where
  landed_goes : (inode pages until : ℕ) → (flusher_of f s).phase ≡ phase.Flying inode pages until → IsPaid (todo.Silent silent.Land ∷ (cpu_of i s).todo) → (context n : ℕ)
      → Quietly i silent.Land s (landed trace i f context n s)
  landed_goes inode pages until is paid context n =
      let p = phase.Idle 0 false in
      let u = with_written context n (in_phase f p s) in
      let first = flusher_goes i 0 (before i silent.Land s) s u (cpu_of i s)
      (record { same = refl; steps = omega arith; cpus = sym (set-get_or s.cpus i no_cpu); paces = refl; todo = (omega (arith, paid.0), paid.1.1) }) refl
      f (record (flusher_of f s) { phase = p }) refl (ap is_finished is) (omega arith) in
      let second = quiet_goes i 0 (before i silent.Land s) s u (share trace i 0 context n u) there first (share_quiet trace i 0 context n u) in
      quiet_goes i 0 (before i silent.Land s) s (share trace i 0 context n u) (landed trace i f context n s) there second
      (group_quiet trace i (group_of trace context) context n (share trace i 0 context n u))

  pub land_goes : (p : ReplayPhase) → (flusher_of f s).phase ≡ p → IsFlying p → IsPaid (todo.Silent silent.Land ∷ (cpu_of i s).todo) → Quietly i silent.Land s (land_in trace i f p s)
  land_goes (phase.Flying n pages until) is h paid =
      either (Quietly i silent.Land s) (eqb (length (flusher_of f s).batch) 0) _ _
      (λ none. landed_goes n pages until is paid (context_of trace n) pages)
      (λ some. cpu_goes i 0 (before i silent.Land s) s s (cpu_of i s)
      (record { same = refl; steps = omega arith; cpus = sym (set-get_or s.cpus i no_cpu); paces = refl; todo = (omega (arith, paid.0), paid.1.1) }) refl refl (omega arith))
  land_goes (phase.Idle until kept) is h paid = absurd h
  land_goes (phase.Taken n) is h paid = absurd h
  land_goes (phase.Scanning scan) is h paid = absurd h
  land_goes phase.Finished is h paid = absurd h
