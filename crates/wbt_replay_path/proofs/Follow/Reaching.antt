-- A sound state of a run for whose steps a setting has room has the ranges that following needs.
use Rattle.std.proofs.Common.{◌≡◌, ℕ, ◌<◌, ◌≤◌, List, [], ◌∷◌, length, All, subst, arith}
use Rattle.std.proofs.lemmas.List.Elements.{All-head}
use Rattle.wbt_replay_order.proofs.Common.{Trace, Setting, new_writer, writer_of, State, cpu_of, task_of, flusher_of, ReplayPhase, ReplayTask, Whose, ReplayWork, Todo, Ranges, IsTurnOf, IsWorker, IsInside, Sound, IsTask, WorkFits, IsAt, IsWhose, IsCpu, Agrees}
use Rattle.wbt_task.specs.declared.allowance.Due.TheVariants as due
use Rattle.wbt_replay_moves.specs.declared.state.ReplayPhase.TheVariants as phase
use Rattle.wbt_replay_moves.specs.declared.state.Whose.TheVariants as whose
use Rattle.wbt_replay_moves.specs.declared.state.ReplayWork.TheVariants as work
use Rattle.wbt_replay_moves.specs.declared.todo.Step.TheVariants as item
use Rattle.wbt_replay_moves.specs.declared.todo.Todo.TheVariants as todo
use Rattle.wbt_replay_order.specs.Kept.Ranges.{WritesInside}

turn_of : (trace : Trace) (i : ℕ) (w : Whose) → IsWhose trace i w → IsTurnOf trace i w
turn_of trace i (whose.Task task) on = on
turn_of trace i (whose.Flusher f) on = on

writes_inside : (trace : Trace) (task : ℕ) (works : List ReplayWork) → All (WorkFits trace task) works → WritesInside trace task works
writes_inside trace task [] all = tt
writes_inside trace task (work.Rest ticks ∷ works) all = tt
writes_inside trace task (work.Write inode page pages ∷ works) all =
    let fits = All-head (WorkFits trace task) (work.Write inode page pages) works all in
    (fits.first, fits.writer)

worker : (trace : Trace) (steps task : ℕ) (t : ReplayTask) → IsTask trace steps task t → IsWorker trace task t
worker trace steps task t its = record {
  works = writes_inside trace task t.works its.works;
  writers = its.writers;
  some_left = λ k less free. (its.fit k (new_writer 0) (omega (arith, less, its.writers))).some_left free;
  due = λ k less check. its.due k check;
}

inside : (trace : Trace) (batch : List ℕ) (p : ReplayPhase) → IsAt trace batch p → IsInside trace batch p
inside trace batch (phase.Idle until kept) at = tt
inside trace batch (phase.Taken inode) at = at.1
inside trace batch (phase.Scanning scan) at = (at.there, at.first_is, at.pages_is, at.start)
inside trace batch (phase.Flying inode pages until) at = at.ours
inside trace batch phase.Finished at = tt

module _ (trace : Trace) (setting : Setting) (s : State) (sound : Sound trace s) where
  its : (i : ℕ) → i < trace.cpus → IsCpu trace (length s.steps) s.now i (cpu_of i s)
  its i less = sound.holds.cpus.each i less

  free : (i : ℕ) → i < trace.cpus → (task : ℕ) → (cpu_of i s).turn.whose ≡ whose.Task task → (more : List Todo)
      → (cpu_of i s).todo ≡ todo.Step item.Dirty ∷ more → (writer_of (task_of task s)).due ≡ due.No
  free i less task turn more is =
      let agreed : Agrees trace s.tasks s.flushers (cpu_of i s).turn.whose (todo.Step item.Dirty) =
      All-head (Agrees trace s.tasks s.flushers (cpu_of i s).turn.whose) (todo.Step item.Dirty) more
      (subst (All (Agrees trace s.tasks s.flushers (cpu_of i s).turn.whose)) is (sound.holds.agreed i less).items) in
      (subst (λ (w : Whose). Agrees trace s.tasks s.flushers w (todo.Step item.Dirty)) turn agreed).1

  pub ranges_of : s.most ≤ setting.page_steps → s.most < setting.last_sequence → Ranges trace setting s
  ranges_of page_steps last_sequence = record {
    domains_are = sound.holds.domains.many;
    contexts = sound.holds.contexts.many;
    marks = sound.holds.marks;
    tasks = sound.holds.tasks.many;
    flushers = sound.holds.flushers.many;
    cpus = sound.holds.cpus.many;
    turn_is = λ i less some. turn_of trace i (cpu_of i s).turn.whose ((its i less).whose some);
    made = λ i less. (its i less).made;
    own_domains = λ i less. (its i less).own_domains;
    own_contexts = λ i less. (its i less).own_contexts;
    held = λ i less. (its i less).many_held;
    turn = λ i less. record { global = (its i less).turn.global; cgroup = (its i less).turn.cgroup };
    writes = free;
    task = λ k less. worker trace (length s.steps) k (task_of k s) (sound.holds.tasks.each k less);
    flusher = λ f less. inside trace (flusher_of f s).batch (flusher_of f s).phase (sound.holds.flushers.each f).phase;
    places = λ f less. ((sound.holds.flushers.each f).places less).below;
    limits = λ d less. (sound.holds.domains.each d).limits;
    sequences = λ d less. (let was = (sound.holds.domains.each d).sequence in let few = sound.holds.few in omega (arith, was, few));
    timer_limits = sound.holds.timer.limits;
    page_steps = page_steps;
    last_sequence = last_sequence;
  }
