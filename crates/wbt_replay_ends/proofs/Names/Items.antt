-- What each move of a turn logs and steps names what is there.
use Rattle.std.proofs.Common.{ℕ, ◌<◌, true, false, pos, negsuc, List, [], ◌∷◌, length, All, Option, Some, None, refl, sym, subst, arith, ⊎_elim}
use Rattle.std.proofs.lemmas.Bool.{cases_lt}
use Rattle.std.proofs.lemmas.List.{get_or_past}
use Rattle.std.proofs.lemmas.List.Elements.{All-head, All-nil}
use Rattle.wbt_replay_order.proofs.Common.{EstEntry, update_of, Estimate, Trace, check_of, decision_at, decide_so, decide_by, do_next, logged, checked, estimated, owed_to, log_at, sample_of, estimate_to, complete_first, complete_in, complete_by, make_step, make_move, State, no_task, cpu_of, task_of, flusher_of, writeback_of, with_event, with_task, context_of, group_of, passed_page, counted_local, count_page, dirty_fresh, dirty_next, dirty_by, ReplayPhase, ReplayTask, Whose, ReplayWork, Silent, Step, Facts, IsAt, WorkFits, Sound}
use Rattle.wbt_book.specs.declared.event.Event.TheVariants as event
use Rattle.wbt_grant.specs.declared.who.StepKind.TheVariants as kind
use Rattle.wbt_journal.specs.declared.entry.Entry.TheVariants as entry
use Rattle.wbt_replay_moves.specs.declared.state.ReplayPhase.TheVariants as phase
use Rattle.wbt_replay_moves.specs.declared.state.Whose.TheVariants as whose
use Rattle.wbt_replay_moves.specs.declared.state.ReplayWork.TheVariants as work
use Rattle.wbt_replay_moves.specs.declared.todo.Silent.TheVariants as silent
use Rattle.wbt_replay_moves.specs.declared.todo.Step.TheVariants as step
use Rattle.wbt_replay_moves.specs.declared.todo.Todo.TheVariants as todo
use Rattle.wbt_replay_order.proofs.Facts.Lists.{either}
use Rattle.wbt_replay_ends.proofs.Names.Changes.{plain_move_logs, uncounted_step_logs}
use Rattle.wbt_replay_ends.proofs.Names.Logs.{Logs, logged_named, checked_named, estimated_named, entry_logs, plain_logs, change_logs}

-- what a move needs of what is in range
pub record Reaches (trace : Trace) (s : State) : Type 0 where
  pub works : (t : ℕ) → All (WorkFits trace t) (task_of t s).works
  pub phases : (f : ℕ) → IsAt trace (flusher_of f s).batch (flusher_of f s).phase

pub reaches : (trace : Trace) (s : State) → Sound trace s → Reaches trace s
reaches trace s sound = record {
  works = λ t. ⊎_elim (λ less. (sound.holds.tasks.each t less).works)
      (λ past. subst (λ (u : ReplayTask). All (WorkFits trace t) u.works) (sym (get_or_past s.tasks t no_task (omega (arith, past, sound.holds.tasks.many)))) (All-nil (WorkFits trace t))) (cases_lt t (length trace.tasks));
  phases = λ f. (sound.holds.flushers.each f).phase;
}

-- ---- steps

module _ (trace : Trace) (i : ℕ) (s : State) where
  -- ---- a write

  dirty_logs : Facts trace → (t : ℕ) (works : List ReplayWork) → All (WorkFits trace t) works → Logs trace s (dirty_next trace i t works s)
  dirty_logs facts t [] fits = λ h. h
  dirty_logs facts t (work.Rest ticks ∷ works) fits = λ h. h
  dirty_logs facts t (work.Write inode page pages ∷ works) fits =
      let first = All-head (WorkFits trace t) (work.Write inode page pages) works fits in
      let k = context_of trace inode in
      let u = passed_page inode page pages works (task_of t s) in
      let e = entry.Write t page true in
      let w = with_task t u s in
      let v = count_page i t k (with_event (event.Dirty page) page w) in
      let x = log_at i e v in
      either (Logs trace s) (s.book page).dirty _ _
      (λ already. plain_logs trace s _ i (logged (entry.Write t page false) (cpu_of i s)) kind.Dirty refl refl (logged_named (entry.Write t page false) (cpu_of i s) (λ a b. (refl, refl))))
      (λ fresh h.
      let counted = entry_logs trace s v i (record (cpu_of i s) { local = counted_local s.ratelimit_pages k (cpu_of i s).local (task_of t w) }) refl (λ h. h) refl h in
      let told = entry_logs trace v x i (logged e (cpu_of i v)) refl (logged_named e (cpu_of i v) (λ a b. (refl, refl))) refl counted in
      change_logs trace x (dirty_fresh trace i t inode page w) i (do_next (owed_to (pos 1) k (group_of trace k) (todo.Step (step.Mark inode))) (cpu_of i x))
      kind.Dirty k (pos 1) (facts.inode_context inode first.first.there) refl refl (λ h. h) told)

  pub write_logs : Facts trace → Reaches trace s → (w : Whose) → Logs trace s (dirty_by trace i w s)
  write_logs facts reach (whose.Task t) = dirty_logs facts t (task_of t s).works (reach.works t)
  write_logs facts reach (whose.Flusher f) = λ h. h

  -- ---- a flusher's steps

  page_logs : Facts trace → (f n : ℕ) (batch : List ℕ) → n < length trace.inodes → Logs trace s (complete_first trace i f (context_of trace n) batch s)
  page_logs facts f n [] there = λ h. h
  page_logs facts f n (page ∷ pages) there = λ h.
      let k = context_of trace n in
      let e = entry.Done f page in
      let first = entry_logs trace s (log_at i e s) i (logged e (cpu_of i s)) refl (logged_named e (cpu_of i s) (λ a b. (refl, refl))) refl h in
      change_logs trace (log_at i e s) (complete_first trace i f k (page ∷ pages) s) i (do_next (owed_to (negsuc 0) k (group_of trace k) (todo.Silent silent.Land)) (cpu_of i (log_at i e s)))
      kind.Complete k (negsuc 0) (facts.inode_context n there) refl refl (λ h. h) first

  pub complete_logs : Facts trace → (f : ℕ) (p : ReplayPhase) → IsAt trace (flusher_of f s).batch p → Logs trace s (complete_in trace i f p s)
  complete_logs facts f (phase.Flying n pages until) is = page_logs facts f n (flusher_of f s).batch is.there
  complete_logs facts f (phase.Idle until kept) is = λ h. h
  complete_logs facts f (phase.Taken n) is = λ h. h
  complete_logs facts f (phase.Scanning scan) is = λ h. h
  complete_logs facts f phase.Finished is = λ h. h

  -- ---- silent moves

  pub estimate_logs : (context : ℕ) (found : Option Estimate) → Logs trace s (estimate_to i context found s)
  estimate_logs context None = λ h. h
  estimate_logs context (Some e) =
      let est : EstEntry = record { context = context; estimate = e } in
      entry_logs trace s (estimate_to i context (Some e) s) i (estimated est (cpu_of i s)) refl (estimated_named est (cpu_of i s)) refl

  pub decide_logs : (w : Whose) → Logs trace s (decide_by trace i w s)
  decide_logs (whose.Flusher f) = λ h. h
  decide_logs (whose.Task t) =
      let k = (task_of t s).context in
      let decision = decision_at trace k (task_of t s) (cpu_of i s).turn s in
      let check = check_of trace t k (cpu_of i s).turn decision s in
      entry_logs trace s (decide_so trace i t k decision s) i (checked check (cpu_of i s)) refl (checked_named check (cpu_of i s)) refl

-- ---- any of them

module _ (trace : Trace) (i : ℕ) (s : State) where
  -- a function of whose turn it is
  by_whose : (r : Whose → State) → ((t : ℕ) → Logs trace s (r (whose.Task t))) → ((f : ℕ) → Logs trace s (r (whose.Flusher f))) → (w : Whose) → Logs trace s (r w)
  by_whose r task flusher (whose.Task t) = task t
  by_whose r task flusher (whose.Flusher f) = flusher f

  pub step_logs : Facts trace → Reaches trace s → (item : Step) → Logs trace s (make_step trace i item s)
  unfolding make_step
  step_logs facts reach step.Dirty = write_logs trace i s facts reach (cpu_of i s).turn.whose
  step_logs facts reach step.Complete = by_whose (λ w. complete_by trace i w s) (λ t h. h) (λ f. complete_logs trace i s facts f (flusher_of f s).phase (reach.phases f)) (cpu_of i s).turn.whose
  step_logs facts reach other = uncounted_step_logs trace i other s tt

  pub move_logs : (item : Silent) → Logs trace s (make_move trace i item s)
  unfolding make_move
  move_logs silent.Decide = decide_logs trace i s (cpu_of i s).turn.whose
  move_logs (silent.Estimate k) = estimate_logs trace i s k (update_of (writeback_of k s).estimate (sample_of trace k (cpu_of i s).turn s))
  move_logs other = plain_move_logs trace i other s tt
