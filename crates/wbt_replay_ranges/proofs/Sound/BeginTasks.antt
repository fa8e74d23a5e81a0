-- A task begins a turn.
use Rattle.std.proofs.Common.{◌≡◌, ℕ, zero, suc, ◌+◌, ◌<◌, ◌≤◌, true, false, List, [], ◌∷◌, ◌++◌, length, Option, None, Some, refl, sym, ◌∙◌, ap, subst, arith}
use Rattle.std.specs.List.{sum_by}
use Rattle.std.proofs.Math.ListN.{set}
use Rattle.std.proofs.lemmas.List.Sums.{sum_by-cons}
use Rattle.wbt_replay_order.proofs.Common.{Context, domains, Due, Trace, writer_of, then_do, State, cpu_of, task_of, group_of, check_items, begin_rest, begin_pause, begin_page, pause_in, begin_work, begin_due, ReplayTask, Whose, ReplayWork, Todo, Facts, IsTaskOn, credit_in, rest_of, WorkFits, rests_at_end, ItemFits, Agrees, TaskAgrees, WritesNext, floor_of, rank_of, is_settling}
use Rattle.wbt_counter.specs.declared.counter.Counter.TheVariants.{Domain}
use Rattle.wbt_task.specs.declared.allowance.Due.TheVariants as due
use Rattle.wbt_replay_moves.specs.Definition.Writer.{begin_write, begin_task}
use Rattle.wbt_replay_moves.specs.declared.state.Whose.TheVariants as whose
use Rattle.wbt_replay_moves.specs.declared.state.ReplayWork.TheVariants as work
use Rattle.wbt_replay_moves.specs.declared.todo.Silent.TheVariants as silent
use Rattle.wbt_replay_moves.specs.declared.todo.Step.TheVariants as step
use Rattle.wbt_replay_moves.specs.declared.todo.Todo.TheVariants as todo
use Rattle.wbt_replay_ranges.proofs.Sound.Checks.{due_there}
use Rattle.wbt_replay_ranges.proofs.Sound.Flights.{group_inside, global_inside}
use Rattle.wbt_replay_ranges.proofs.Sound.FlusherTurn.{turn_task}
use Rattle.wbt_replay_ranges.proofs.Sound.Going.{Going}
use Rattle.wbt_replay_order.proofs.Facts.Paces.{none_since, pause_paid}
use Rattle.wbt_replay_order.proofs.Lists.Numbered.{all_rest}
use Rattle.wbt_replay_ranges.proofs.Sound.Own.{Fits, Free, Done, push, fits_less, do_done}

-- what is left after a rest that isn't the last work ends as it did
last_rest : (works : List ReplayWork) → rests_at_end true works ≡ false → rests_at_end false works ≡ false
last_rest [] is = refl
last_rest (work.Write inode page pages ∷ works) is = is
last_rest (work.Rest ticks ∷ works) is = is

module _ (trace : Trace) (facts : Facts trace) (i : ℕ) (less : i < trace.cpus) (k : ℕ) (s : State) (on : IsTaskOn trace i k) (turn : (cpu_of i s).turn.whose ≡ whose.Task k)
    (g : Going trace i 0 0 s) (free : Free trace i 3 s) (running : (task_of k s).ended ≡ false) where
  -- items in front of those that are still to be done
  abbrev ItemsFit : (x : State) (n : ℕ) (todos : List Todo) → Type 0
  ItemsFit x n todos = Fits trace x.tasks x.flushers (cpu_of i x).turn.whose n todos

  put : (n m : ℕ) (t : Todo) (todos : List Todo) → ItemsFit s n todos → ItemFits trace t → TaskAgrees (task_of k s) t → is_settling t ≡ false → floor_of t ≤ n → m ≤ n → m ≤ rank_of t → ItemsFit s m (t ∷ todos)
  put n m t todos h fits agrees other floor less' rank = push trace s.tasks s.flushers (cpu_of i s).turn.whose n m t todos h fits (subst (λ (w : Whose). Agrees trace s.tasks s.flushers w t) (sym turn) agrees) other floor less' rank

  ends : ItemsFit s 2 (todo.Silent silent.End ∷ (cpu_of i s).todo)
  ends = put 3 2 (todo.Silent silent.End) (cpu_of i s).todo free.fits tt running refl (omega arith) (omega arith) (omega arith)

  not_flusher : (f : ℕ) → (cpu_of i s).turn.whose ≡ whose.Flusher f → ⊥
  not_flusher f e = let other : whose.Task k ≡ whose.Flusher f = sym turn ∙ e in absurd (cc other)

  items_done : (items : List Todo) (n : ℕ) → ItemsFit s n (items ++ (cpu_of i s).todo) → credit_in (items ++ (cpu_of i s).todo) ≡ 0 → Done trace i (then_do i items s)
  items_done items n fits credit = do_done trace facts i less items 0 0 3 n s g free fits (omega (arith, credit)) (λ f on' e none. absurd (not_flusher f e))

  end_begins : Done trace i (then_do i (todo.Silent silent.End ∷ []) s)
  end_begins = items_done (todo.Silent silent.End ∷ []) 2 ends refl

  write_begins : WritesNext (task_of k s).works → (writer_of (task_of k s)).due ≡ due.No → pause_in (task_of k s) ≡ None → Done trace i (begin_write i s)
  write_begins next none going_on = items_done (todo.Step step.Dirty ∷ todo.Silent silent.End ∷ []) 1
      (put 2 1 (todo.Step step.Dirty) (todo.Silent silent.End ∷ (cpu_of i s).todo) ends tt (next, none, going_on) refl (omega arith) (omega arith) (omega arith)) refl

  -- the three loads of a domain's limits
  loads_fit : (d : ℕ) (todos : List Todo) → d < domains trace → ItemsFit s 1 todos
      → ItemsFit s 1 (todo.Step (step.First d) ∷ todo.Step (step.Middle d) ∷ todo.Step (step.Limits d) ∷ todos)
  loads_fit d todos inside h =
      let a = put 1 1 (todo.Step (step.Limits d)) todos h inside tt refl (omega arith) (omega arith) (omega arith) in
      let b = put 1 1 (todo.Step (step.Middle d)) (todo.Step (step.Limits d) ∷ todos) a inside tt refl (omega arith) (omega arith) (omega arith) in
      put 1 1 (todo.Step (step.First d)) (todo.Step (step.Middle d) ∷ todo.Step (step.Limits d) ∷ todos) b inside tt refl (omega arith) (omega arith) (omega arith)

  check_begins : (group : ℕ) → group < domains trace → (writer_of (task_of k s)).due ≡ due.Check → (task_of k s).context < length trace.contexts → Done trace i (then_do i (check_items (task_of k s).context group) s)
  check_begins zero inside is_due there =
      let context : ℕ = (task_of k s).context in
      let rest : List Todo = todo.Silent silent.End ∷ (cpu_of i s).todo in
      let a = put 2 1 (todo.Silent silent.Decide) rest ends tt is_due refl (omega arith) (omega arith) (omega arith) in
      let b = put 1 1 (todo.Step (step.Count (Context context))) (todo.Silent silent.Decide ∷ rest) a there tt refl (omega arith) (omega arith) (omega arith) in
      let c = put 1 1 (todo.Step (step.Count (Domain 0))) (todo.Step (step.Count (Context context)) ∷ todo.Silent silent.Decide ∷ rest) b inside tt refl (omega arith) (omega arith) (omega arith) in
      let d = loads_fit 0 (todo.Step (step.Count (Domain 0)) ∷ todo.Step (step.Count (Context context)) ∷ todo.Silent silent.Decide ∷ rest) inside c in
      items_done (check_items context 0) 1 d refl
  check_begins (suc cgroup) inside is_due there =
      let context : ℕ = (task_of k s).context in
      let global : 0 < domains trace = global_inside trace in
      let rest : List Todo = todo.Silent silent.End ∷ (cpu_of i s).todo in
      let a = put 2 1 (todo.Silent silent.Decide) rest ends tt is_due refl (omega arith) (omega arith) (omega arith) in
      let b = put 1 1 (todo.Step (step.Count (Context context))) (todo.Silent silent.Decide ∷ rest) a there tt refl (omega arith) (omega arith) (omega arith) in
      let rest2 : List Todo = todo.Step (step.Count (Context context)) ∷ todo.Silent silent.Decide ∷ rest in
      let c = put 1 1 (todo.Step (step.Count (Domain (suc cgroup)))) rest2 b inside tt refl (omega arith) (omega arith) (omega arith) in
      let d = loads_fit (suc cgroup) (todo.Step (step.Count (Domain (suc cgroup))) ∷ rest2) inside c in
      let rest3 : List Todo = todo.Step (step.First (suc cgroup)) ∷ todo.Step (step.Middle (suc cgroup)) ∷ todo.Step (step.Limits (suc cgroup)) ∷ todo.Step (step.Count (Domain (suc cgroup))) ∷ rest2 in
      let e = put 1 1 (todo.Step (step.Count (Domain 0))) rest3 d global tt refl (omega arith) (omega arith) (omega arith) in
      let f = loads_fit 0 (todo.Step (step.Count (Domain 0)) ∷ rest3) global e in
      items_done (check_items context (suc cgroup)) 1 f refl

  rest_begins : (ticks : ℕ) (works : List ReplayWork) → (task_of k s).works ≡ work.Rest ticks ∷ works → Done trace i (begin_rest i k ticks works s)
  rest_begins ticks works is =
      let t : ReplayTask = task_of k s in
      let h = g.holds.tasks.each k on.there in
      let parts = all_rest (WorkFits trace k) t.works (work.Rest ticks) works is h.works in
      let x : ReplayTask = record t { works = works; rest = s.now + ticks } in
      let sums : sum_by rest_of t.works ≡ ticks + sum_by rest_of works = ap (sum_by rest_of) is ∙ sum_by-cons rest_of (work.Rest ticks) works in
      let free2 : Free trace i 2 s = record { whose = free.whose; fits = fits_less trace s.tasks s.flushers (cpu_of i s).turn.whose 2 3 (cpu_of i s).todo (omega arith) free.fits; room = free.room } in
      let m = turn_task trace facts i less k x 0 0 0 0 ticks s on turn g free2
      (record { works = parts.1; context = h.context; writers = h.writers; fit = h.fit; due = h.due; ended = λ e. let other : true ≡ false = sym e ∙ running in absurd (cc other); last = λ e. last_rest works (sym (ap (rests_at_end false) is) ∙ h.last e); pace = h.pace; since = h.since })
      refl (omega arith) (omega arith) (omega arith) (omega (arith, sums)) in
      let y : State = record s { tasks = set s.tasks k x } in
      do_done trace facts i less (todo.Silent silent.End ∷ []) 0 0 2 2 y m.going m.free
      (push trace y.tasks y.flushers (cpu_of i y).turn.whose 3 2 (todo.Silent silent.End) (cpu_of i y).todo
      (record { fit = m.free.fits.fit; order = m.free.fits.order; from = free.fits.from; agree = m.free.fits.agree; others = m.free.fits.others }) tt
      (subst (λ (w : Whose). Agrees trace y.tasks y.flushers w (todo.Silent silent.End)) (sym turn) (subst (λ (z : ReplayTask). z.ended ≡ false) (sym m.is) running)) refl (omega arith) (omega arith) (omega arith))
      (omega arith) (λ f on' e none. absurd (not_flusher f e))

  -- the task rests before its next page
  pause_begins : (ticks : ℕ) → pause_in (task_of k s) ≡ Some ticks → Done trace i (begin_pause i k ticks s)
  pause_begins ticks is =
      let t : ReplayTask = task_of k s in
      let h = g.holds.tasks.each k on.there in
      let x : ReplayTask = record t { since = 0; rest = s.now + ticks } in
      let paid = pause_paid t.pace t.since ticks h.pace is in
      let free2 : Free trace i 2 s = record { whose = free.whose; fits = fits_less trace s.tasks s.flushers (cpu_of i s).turn.whose 2 3 (cpu_of i s).todo (omega arith) free.fits; room = free.room } in
      let m = turn_task trace facts i less k x 0 0 0 0 ticks s on turn g free2
      (record {
        works = h.works;
        context = h.context;
        writers = h.writers;
        fit = h.fit;
        due = h.due;
        ended = h.ended;
        last = h.last;
        pace = h.pace;
        since = none_since t.pace h.pace;
      })
      refl (omega arith) (omega arith) (omega arith) (omega (arith, paid)) in
      let y : State = record s { tasks = set s.tasks k x } in
      do_done trace facts i less (todo.Silent silent.End ∷ []) 0 0 2 2 y m.going m.free
      (push trace y.tasks y.flushers (cpu_of i y).turn.whose 3 2 (todo.Silent silent.End) (cpu_of i y).todo
      (record { fit = m.free.fits.fit; order = m.free.fits.order; from = free.fits.from; agree = m.free.fits.agree; others = m.free.fits.others }) tt
      (subst (λ (w : Whose). Agrees trace y.tasks y.flushers w (todo.Silent silent.End)) (sym turn) (subst (λ (z : ReplayTask). z.ended ≡ false) (sym m.is) running)) refl (omega arith) (omega arith) (omega arith))
      (omega arith) (λ f on' e none. absurd (not_flusher f e))

  page_begins : (pause : Option ℕ) → pause_in (task_of k s) ≡ pause → WritesNext (task_of k s).works → (writer_of (task_of k s)).due ≡ due.No → Done trace i (begin_page i k pause s)
  page_begins None is next none = write_begins next none is
  page_begins (Some ticks) is next none = pause_begins ticks is

  work_begins : (works : List ReplayWork) → (task_of k s).works ≡ works → (writer_of (task_of k s)).due ≡ due.No → Done trace i (begin_work i k works s)
  work_begins [] e none = end_begins
  work_begins (work.Rest ticks ∷ works) e none = rest_begins ticks works e
  work_begins (work.Write inode page pages ∷ works) e none = page_begins (pause_in (task_of k s)) refl (subst WritesNext (sym e) tt) none

  due_begins : (d : Due) → (writer_of (task_of k s)).due ≡ d → Done trace i (begin_due trace i k d s)
  due_begins due.Check e =
      let there = due_there (task_of k s).context (task_of k s) e in
      let h = g.holds.tasks.each k on.there in
      let at : (task_of k s).context < length trace.contexts = omega (arith, there, h.writers) in
      check_begins (group_of trace (task_of k s).context) (group_inside trace facts (task_of k s).context at) e at
  due_begins due.No e = work_begins (task_of k s).works refl e

  pub task_begins : Done trace i (begin_task trace i k s)
  task_begins = due_begins (writer_of (task_of k s)).due refl
