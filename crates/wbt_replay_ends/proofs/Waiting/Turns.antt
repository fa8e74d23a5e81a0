-- The beginning of a turn keeps it that what is still to be cleaned waits.
use Rattle.std.proofs.Common.{◌≡◌, ℕ, zero, suc, ◌+◌, ◌<◌, leb, List, [], ◌∷◌, ◌++◌, length, refl, sym, ◌∙◌, ap, subst, arith, eqb-true, Option, None, Some}
use Rattle.std.proofs.lemmas.List.{get_or-set_same, length-set}
use Rattle.wbt_replay_order.proofs.Common.{Trace, Context, writer_of, at_turn, do_last_at, begin_idle, begin_test, domain_loads, measure, measures_of, weighs_of, take_last, begin_turn, begin_for, begin_phase, State, no_cpu, cpu_of, flusher_of, with_cpu, task_of, with_task, writeback_of, is_drained, waiting_of, group_of, check_items, pause_in, begin_due, begin_page, begin_work, Cpu, ReplayPhase, ReplayTask, Whose, ReplayWork, Todo, Due, Facts, IsFlusherOn, AreQueues, IsIdle, Waiting}
use Rattle.wbt_replay_moves.specs.declared.state.ReplayPhase.TheVariants as phase
use Rattle.wbt_replay_moves.specs.declared.state.Whose.TheVariants as whose
use Rattle.wbt_replay_moves.specs.declared.state.ReplayWork.TheVariants as work
use Rattle.wbt_replay_moves.specs.declared.todo.Silent.TheVariants as silent
use Rattle.wbt_replay_moves.specs.declared.todo.Step.TheVariants as step
use Rattle.wbt_replay_moves.specs.declared.todo.Todo.TheVariants as todo
use Rattle.wbt_task.specs.declared.allowance.Due.TheVariants as due
use Rattle.wbt_replay_order.proofs.Facts.Lists.{either}
use Rattle.wbt_replay_ends.proofs.Waiting.Idles.{take_last_waits}
use Rattle.wbt_replay_order.proofs.Lists.Todos.{AreCalm, Alike, calm_both, last_alike, turn_alike}
use Rattle.wbt_replay_ends.proofs.Waiting.Scans.{push_waits}
use Rattle.wbt_replay_ends.proofs.Waiting.Still.{still, cpu_stays}

-- ---- lists

check_calm : (k group : ℕ) → AreCalm (check_items k group)
check_calm k zero = (refl, (refl, (refl, (refl, (refl, (refl, (refl, tt)))))))
check_calm k (suc g) = (refl, (refl, (refl, (refl, (refl, (refl, (refl, (refl, (refl, (refl, (refl, tt)))))))))))

loads_calm : (n d : ℕ) → AreCalm (domain_loads n d)
unfolding domain_loads
loads_calm zero d = tt
loads_calm (suc n) d = (refl, (refl, (refl, (refl, loads_calm n (d + 1)))))

measure_calm : (k : ℕ) (s : State) → AreCalm (measure k s)
measure_calm k s = either AreCalm (leb ((writeback_of k s).estimate.at + 200) s.now) (todo.Step (step.Count (Context k)) ∷ todo.Silent (silent.Estimate k) ∷ []) []
    (λ old. (refl, (refl, tt))) (λ young. tt)

measures_calm : (ks : List ℕ) (s : State) → AreCalm (measures_of ks s)
unfolding measures_of
measures_calm [] s = tt
measures_calm (k ∷ ks) s = calm_both (measure k s) (measures_of ks s) (measure_calm k s) (measures_calm ks s)

weighs_calm : (ks : List ℕ) → AreCalm (weighs_of ks)
unfolding weighs_of
weighs_calm [] = tt
weighs_calm (k ∷ ks) = (refl, (refl, weighs_calm ks))

-- a write that comes first, and then the end
write_alike : (trace : Trace) (c : Cpu) → Alike trace c (record c { todo = todo.Step step.Dirty ∷ todo.Silent silent.End ∷ c.todo })
write_alike trace c = record { owes = λ n some. some; opens = λ g still ours. still ours; before = λ h. (refl, (tt, h)) }

last_waits : (trace : Trace) (cpu : ℕ) (items : List Todo) (s : State) → AreCalm items → Waiting trace s → Waiting trace (do_last_at cpu items s)
last_waits trace cpu items s calm w =
    cpu_stays trace cpu (record (cpu_of cpu s) { todo = (cpu_of cpu s).todo ++ items }) s _ w (last_alike trace items (cpu_of cpu s) _ calm refl refl) refl (omega arith) refl refl refl refl

-- ---- turns

module _ (trace : Trace) (facts : Facts trace) (i : ℕ) (less : i < trace.cpus) where
  -- a page that is written next, or a rest right before it
  page_waits : (task : ℕ) (pause : Option ℕ) (s : State) → Waiting trace s → Waiting trace (begin_page i task pause s)
  page_waits task None s w =
      cpu_stays trace i (record (cpu_of i s) { todo = todo.Step step.Dirty ∷ todo.Silent silent.End ∷ (cpu_of i s).todo }) s _ w (write_alike trace (cpu_of i s)) refl (omega arith) refl refl refl refl
  page_waits task (Some ticks) s w =
      let t : ReplayTask = record (task_of task s) { since = 0; rest = s.now + ticks } in
      push_waits trace i (todo.Silent silent.End ∷ []) (with_task task t s) _ (refl, tt) (still trace s (with_task task t s) w refl (omega arith) refl refl refl refl) refl (omega arith) refl refl refl refl

  work_waits : (task : ℕ) (works : List ReplayWork) (s : State) → Waiting trace s → Waiting trace (begin_work i task works s)
  work_waits task [] s w = push_waits trace i (todo.Silent silent.End ∷ []) s _ (refl, tt) w refl (omega arith) refl refl refl refl
  work_waits task (work.Rest ticks ∷ works) s w =
      let t : ReplayTask = record (task_of task s) { works = works; rest = s.now + ticks } in
      push_waits trace i (todo.Silent silent.End ∷ []) (with_task task t s) _ (refl, tt) (still trace s (with_task task t s) w refl (omega arith) refl refl refl refl) refl (omega arith) refl refl refl refl
  work_waits task (work.Write n q pages ∷ works) s w = page_waits task (pause_in (task_of task s)) s w

  due_waits : (task : ℕ) (d : Due) (s : State) → Waiting trace s → Waiting trace (begin_due trace i task d s)
  due_waits task due.Check s w =
      push_waits trace i (check_items (task_of task s).context (group_of trace (task_of task s).context)) s _ (check_calm (task_of task s).context (group_of trace (task_of task s).context)) w refl (omega arith) refl refl refl refl
  due_waits task due.No s w = work_waits task (task_of task s).works s w

  module _ (f : ℕ) (on : IsFlusherOn trace i f) (s : State) (seats : length s.cpus ≡ trace.cpus) (many : length s.flushers ≡ length trace.flushers) (queues : AreQueues trace s.queues) (w : Waiting trace s) where
    idle_waits : IsIdle (flusher_of f s).phase → Waiting trace (begin_idle trace i f s)
    idle_waits idle =
        either (Waiting trace) (is_drained s) (take_last trace i f (waiting_of f s).pairs s) (begin_test i f s)
        (λ drained. take_last_waits trace facts i f less on s seats many w queues idle (waiting_of f s).pairs refl (eqb-true s.running 0 drained))
        (λ runs. last_waits trace i (todo.Silent silent.Test ∷ []) _ (refl, tt)
        (last_waits trace i (weighs_of (flusher_of f s).weighs) _ (weighs_calm (flusher_of f s).weighs)
        (last_waits trace i (measures_of (flusher_of f s).measures s) _ (measures_calm (flusher_of f s).measures s)
        (last_waits trace i (domain_loads (length s.domains) 0) s (loads_calm (length s.domains) 0) w))))

    phase_waits : (p : ReplayPhase) → (flusher_of f s).phase ≡ p → Waiting trace (begin_phase trace i f p s)
    phase_waits (phase.Idle until kept) at = idle_waits (subst IsIdle (sym at) tt)
    phase_waits (phase.Taken n) at = push_waits trace i (todo.Step step.Unmark ∷ []) s _ (refl, tt) w refl (omega arith) refl refl refl refl
    phase_waits (phase.Scanning scan) at = push_waits trace i (todo.Step step.Look ∷ []) s _ (refl, tt) w refl (omega arith) refl refl refl refl
    phase_waits (phase.Flying n pages until) at = push_waits trace i (todo.Step step.Complete ∷ []) s _ (refl, tt) w refl (omega arith) refl refl refl refl
    phase_waits phase.Finished at = w

  -- whose turn the CPU may begin
  abbrev IsOurs : Whose → Type 0
  IsOurs (whose.Task task) = Unit {0}
  IsOurs (whose.Flusher f) = IsFlusherOn trace i f

  for_waits : (x : Whose) → IsOurs x → (s : State) → length s.cpus ≡ trace.cpus → length s.flushers ≡ length trace.flushers → AreQueues trace s.queues → Waiting trace s → Waiting trace (begin_for trace i x s)
  for_waits (whose.Task task) ours s seats many queues w = due_waits task (writer_of (task_of task s)).due s w
  for_waits (whose.Flusher f) ours s seats many queues w = phase_waits f ours s seats many queues w (flusher_of f s).phase refl

  -- from where the CPU has nothing to do
  pub turn_waits : (x : Whose) → IsOurs x → (c : Cpu) (s : State) → c.todo ≡ [] → (cpu_of i s).todo ≡ [] → length s.cpus ≡ trace.cpus → length s.flushers ≡ length trace.flushers → AreQueues trace s.queues
      → Waiting trace s → Waiting trace (begin_turn trace i x (with_cpu i c s))
  turn_waits x ours c s none before seats many queues w =
      let v : State = with_cpu i c s in
      let here : cpu_of i v ≡ c = get_or-set_same s.cpus i c no_cpu (omega (arith, less, seats)) in
      let u : State = with_cpu i (at_turn x v.now (cpu_of i v)) v in
      let still_none : (cpu_of i v).todo ≡ [] = ap (λ (d : Cpu). d.todo) here ∙ none in
      for_waits x ours u (length-set v.cpus i (at_turn x v.now (cpu_of i v)) ∙ (length-set s.cpus i c ∙ seats)) many queues
      (cpu_stays trace i (at_turn x v.now (cpu_of i v)) v u
      (cpu_stays trace i c s v w (turn_alike trace (cpu_of i s) c before none) refl (omega arith) refl refl refl refl)
      (turn_alike trace (cpu_of i v) _ still_none still_none) refl (omega arith) refl refl refl refl)
