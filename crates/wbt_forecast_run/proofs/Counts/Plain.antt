-- Of the items of a turn, only a write, a look, a claim and a completion may be no plain changes.
use Rattle.std.proofs.Common.{ℕ, zero, suc, ◌+◌, Bool, true, false, cond, nat_le, eqb, List, [], ◌∷◌, length, get_or, Option, Some, None, refl}
use Rattle.wbt_replay_order.proofs.Common.{Trace, Context, update_of, Estimate, has_inode, after_period, Half, context_of, flusher_device, group_of, MOST_NOTICED, Due, writer_of, sample_of, domain_loads, measure, measures_of, weighs_of, close_items, is_scan_over, State, cpu_of, task_of, flusher_of, waiting_of, queue_of, domain_of, writeback_of, is_drained, is_time, periods, check_items, pause_in, has_nothing, ReplayPhase, ReplayTurn, ReplayWork, Whose, Silent, Step, TimerSilent, TimerStep, apply, apply_all, Change, step_changes, move_changes, phase_changes, whose_changes, turn_changes, close_changes, hand_over_changes, share_changes, group_changes, land_changes, estimated_changes, last_changes, idle_changes, notice_changes, waiting_changes, wheel_changes, test_changes, unmark_changes, timer_step_changes, timer_move_changes, timer_turn_changes, by_task, by_flusher, where_taken, where_scanning, where_flying, page_changes, work_changes, due_changes, decide_changes, end_changes}
use Rattle.wbt_expiry.specs.Waiting.{Waiting}
use Rattle.wbt_expiry.specs.declared.due.Due.{Due as Pair}
use Rattle.wbt_grant.specs.declared.who.StepKind.TheVariants as kind
use Rattle.wbt_task.specs.declared.allowance.Due.TheVariants as due
use Rattle.wbt_replay_moves.specs.declared.state.ReplayPhase.TheVariants as phase
use Rattle.wbt_replay_moves.specs.declared.state.ReplayWork.TheVariants as work
use Rattle.wbt_replay_moves.specs.declared.state.Whose.TheVariants as whose
use Rattle.wbt_replay_moves.specs.declared.todo.Silent.TheVariants as silent
use Rattle.wbt_replay_moves.specs.declared.todo.Step.TheVariants as step
use Rattle.wbt_replay_moves.specs.declared.todo.TimerSilent.TheVariants as timer_silent
use Rattle.wbt_replay_moves.specs.declared.todo.TimerStep.TheVariants as timer_step
use Rattle.wbt_replay_moves.specs.declared.todo.Todo.TheVariants as todo
use Rattle.wbt_replay_order.proofs.Facts.Lists.{either}
use Rattle.wbt_replay_changes.specs.Change as change
use Rattle.wbt_replay_changes.specs.Change.Cpu as cpu_change
use Rattle.wbt_replay_changes.specs.Change.Flusher as flusher_change
use Rattle.wbt_replay_changes.specs.ChangeOf.Flusher.{empty_changes, landed_changes}
use Rattle.wbt_replay_changes.specs.ChangeOf.Idle.{takes, rests, queue_or_finish, queue_or_rest, loads_changes, notices, aged_changes}
use Rattle.wbt_replay_changes.specs.ChangeOf.Timer.{period_changes}
use Rattle.wbt_replay_changes.specs.ChangeOf.Writer.{mark_changes}
use Rattle.wbt_forecast_run.proofs.Counts.Quiet.{NoClaims, none_more, Plain, ArePlain, plain_more}

-- ---- items that claim nothing

check_claims : (context group : ℕ) → NoClaims (check_items context group)
check_claims context zero = (refl, (refl, (refl, (refl, (refl, (refl, (refl, tt)))))))
check_claims context (suc cgroup) = (refl, (refl, (refl, (refl, (refl, (refl, (refl, (refl, (refl, (refl, (refl, tt)))))))))))

loads_claim : (count domain : ℕ) → NoClaims (domain_loads count domain)
unfolding domain_loads
loads_claim zero domain = tt
loads_claim (suc count) domain = (refl, (refl, (refl, (refl, loads_claim count (domain + 1)))))

measures_claim : (contexts : List ℕ) (s : State) → NoClaims (measures_of contexts s)
unfolding measures_of
measures_claim [] s = tt
measures_claim (context ∷ contexts) s =
    none_more (measure context s) (measures_of contexts s)
    (either NoClaims (nat_le _ s.now) (todo.Step (step.Count (Context context)) ∷ todo.Silent (silent.Estimate context) ∷ []) [] (λ old. (refl, (refl, tt))) (λ new. tt))
    (measures_claim contexts s)

weighs_claim : (contexts : List ℕ) → NoClaims (weighs_of contexts)
unfolding weighs_of
weighs_claim [] = tt
weighs_claim (context ∷ contexts) = (refl, (refl, weighs_claim contexts))

close_claims : (inode : ℕ) (again : Bool) → NoClaims (close_items inode again)
close_claims inode true = (refl, (refl, tt))
close_claims inode false = (refl, tt)

-- ---- turns and items

module _ (trace : Trace) (i : ℕ) where
  -- one of two lists
  one_of : (w : Whose) (b : Bool) (xs ys : List Change) → ArePlain i w xs → ArePlain i w ys → ArePlain i w (cond b xs ys)
  one_of w b xs ys p q = either (ArePlain i w) b xs ys (λ yes. p) (λ no. q)

  -- ---- a task

  page_plain : (w : Whose) (task : ℕ) (pause : Option ℕ) (s : State) → ArePlain i w (page_changes i task pause s)
  page_plain w task None s = ((refl, (refl, (refl, tt))), tt)
  page_plain w task (Some ticks) s = (tt, ((refl, (refl, tt)), tt))

  work_plain : (w : Whose) (task : ℕ) (works : List ReplayWork) (s : State) → ArePlain i w (work_changes i task works s)
  work_plain w task [] s = ((refl, (refl, tt)), tt)
  work_plain w task (work.Rest ticks ∷ works) s = (tt, ((refl, (refl, tt)), tt))
  work_plain w task (work.Write inode page pages ∷ works) s = page_plain w task (pause_in (task_of task s)) s

  due_plain : (w : Whose) (task : ℕ) (d : Due) (s : State) → ArePlain i w (due_changes trace i task d s)
  due_plain w task due.Check s = ((refl, check_claims (task_of task s).context (group_of trace (task_of task s).context)), tt)
  due_plain w task due.No s = work_plain w task (task_of task s).works s

  module _ (f : ℕ) where
    abbrev turn : Whose
    turn = whose.Flusher f

    -- ---- an idle flusher

    takes_plain : (take : Change) → Plain i turn take → ArePlain i turn (takes i take)
    takes_plain take plain = (plain, ((refl, (refl, tt)), tt))

    finish_plain : (numbers : List ℕ) → ArePlain i turn (queue_or_finish i f numbers)
    finish_plain [] = (refl, tt)
    finish_plain (inode ∷ inodes) = takes_plain (change.took f inode inodes) refl

    last_plain : (pairs : List Pair) (s : State) → ArePlain i turn (last_changes trace i f pairs s)
    last_plain [] s = finish_plain (queue_of (flusher_device trace f) s)
    last_plain (pair ∷ pairs) s = takes_plain (change.took_first i f pair pairs) (refl, refl)

    rest_plain : (until : ℕ) (numbers : List ℕ) → ArePlain i turn (queue_or_rest i f until numbers)
    rest_plain until [] = (refl, tt)
    rest_plain until (inode ∷ inodes) = takes_plain (change.took f inode inodes) refl

    idle_plain : (s : State) → ArePlain i turn (idle_changes trace i f s)
    idle_plain s = one_of turn (is_drained s) (last_changes trace i f (waiting_of f s).pairs s) (loads_changes i f s)
        (last_plain (waiting_of f s).pairs s) (
          (refl, loads_claim (length s.domains) 0),
          ((refl, measures_claim (flusher_of f s).measures s), ((refl, weighs_claim (flusher_of f s).weighs), ((refl, (refl, tt)), tt))),
        )

    -- ---- a flusher tests

    notice_plain : (since : ℕ) (numbers : List ℕ) (s : State) → ArePlain i turn (notice_changes i f since numbers s)
    notice_plain since [] s = tt
    notice_plain since (inode ∷ inodes) s =
        one_of turn (has_inode inode (waiting_of f s).pairs) (change.dropped f inodes ∷ []) (change.noticed i f inode since inodes ∷ [])
        (tt, tt) ((refl, refl), tt)

    notices_plain : (since most : ℕ) (s : State) → ArePlain i turn (notices trace i f since most s)
    notices_plain since zero s = tt
    notices_plain since (suc most) s =
        let first = notice_changes i f since (queue_of (flusher_device trace f) s) s in
        plain_more i turn first (notices trace i f since most (apply_all trace first s)) (notice_plain since (queue_of (flusher_device trace f) s) s)
        (notices_plain since most (apply_all trace first s))

    aged_plain : (now : ℕ) (over : Bool) (pairs : List Pair) → ArePlain i turn (aged_changes i f now over pairs)
    aged_plain now over [] = (refl, tt)
    aged_plain now over (pair ∷ pairs) =
        one_of turn (nat_le pair.due now) (takes i (change.took_due i f now pair pairs)) _ (takes_plain (change.took_due i f now pair pairs) (refl, refl))
        (one_of turn over (takes i (change.took_first i f pair pairs)) (rests f _) (takes_plain (change.took_first i f pair pairs) (refl, refl)) (refl, tt))

    wheel_plain : (t : ReplayTurn) (wheel : Option Waiting) (s : State) → ArePlain i turn (wheel_changes trace i f t wheel s)
    wheel_plain t None s =
        one_of turn t.over (queue_or_rest i f _ (queue_of (flusher_device trace f) s)) (rests f _)
        (rest_plain _ (queue_of (flusher_device trace f) s)) (refl, tt)
    wheel_plain t (Some wheel) s =
        let told = apply trace (change.of_flusher f (flusher_change.told t.began)) s in
        let first = notices trace i f t.began MOST_NOTICED told in
        let after = apply_all trace first told in (
          refl,
          plain_more i turn first (waiting_changes i f t.began t.over after) (notices_plain t.began MOST_NOTICED told)
              (aged_plain t.began t.over (waiting_of f after).pairs),
        )

    test_plain : (t : ReplayTurn) (p : ReplayPhase) (s : State) → ArePlain i turn (test_changes trace i t f p s)
    test_plain t p s =
        let keeps = change.of_flusher f (flusher_change.limited t.global.limits.hard) in
        (refl, wheel_plain t (flusher_of f s).wheel (apply trace keeps s))

    -- ---- a scan and a flight

    unmark_plain : (p : ReplayPhase) (s : State) → ArePlain i turn (where_taken (unmark_changes trace i) f p s)
    unmark_plain (phase.Taken inode) s = (refl, (tt, tt))
    unmark_plain (phase.Idle until kept) s = tt
    unmark_plain (phase.Scanning scan) s = tt
    unmark_plain (phase.Flying inode pages until) s = tt
    unmark_plain phase.Finished s = tt

    close_plain : (p : ReplayPhase) (s : State) → ArePlain i turn (where_scanning (close_changes i) f p s)
    close_plain (phase.Scanning scan) s =
        one_of turn (is_scan_over scan (length (flusher_of f s).batch)) _ [] (refl, ((refl, close_claims scan.inode _), tt)) tt
    close_plain (phase.Taken inode) s = tt
    close_plain (phase.Idle until kept) s = tt
    close_plain (phase.Flying inode pages until) s = tt
    close_plain phase.Finished s = tt

    hand_plain : (p : ReplayPhase) (s : State) → ArePlain i turn (where_scanning (hand_over_changes trace i) f p s)
    hand_plain (phase.Scanning scan) s =
        one_of turn (eqb (length (flusher_of f s).batch) 0) (empty_changes f scan.noted s) _ (refl, tt) ((refl, refl), tt)
    hand_plain (phase.Taken inode) s = tt
    hand_plain (phase.Idle until kept) s = tt
    hand_plain (phase.Flying inode pages until) s = tt
    hand_plain phase.Finished s = tt

    share_plain : (domain context pages : ℕ) (s : State) → ArePlain i turn (share_changes trace i domain context pages s)
    share_plain domain context pages s = one_of turn _ (change.shared i domain context pages ∷ []) [] (refl, tt) tt

    group_plain : (group context pages : ℕ) (s : State) → ArePlain i turn (group_changes trace i group context pages s)
    group_plain zero context pages s = tt
    group_plain (suc cgroup) context pages s = share_plain (suc cgroup) context pages s

    land_plain : (p : ReplayPhase) (s : State) → ArePlain i turn (where_flying (land_changes trace i) f p s)
    land_plain (phase.Flying inode pages until) s =
        let context = context_of trace inode in
        let landed = apply trace (change.landed f context pages) s in
        let first = share_changes trace i 0 context pages landed in
        one_of turn (eqb (length (flusher_of f s).batch) 0) (landed_changes trace i f context pages s) [] (
          refl,
          plain_more i turn first (group_changes trace i (group_of trace context) context pages (apply_all trace first landed)) (share_plain 0 context pages landed)
              (group_plain (group_of trace context) context pages (apply_all trace first landed)),
        )
        tt
    land_plain (phase.Scanning scan) s = tt
    land_plain (phase.Taken inode) s = tt
    land_plain (phase.Idle until kept) s = tt
    land_plain phase.Finished s = tt

    -- ---- a turn begins

    phase_plain : (p : ReplayPhase) (s : State) → ArePlain i turn (phase_changes trace i f p s)
    phase_plain (phase.Idle until kept) s = idle_plain s
    phase_plain (phase.Taken inode) s = ((refl, (refl, tt)), tt)
    phase_plain (phase.Scanning scan) s = ((refl, (refl, tt)), tt)
    phase_plain (phase.Flying inode pages until) s = ((refl, (refl, tt)), tt)
    phase_plain phase.Finished s = tt

  whose_plain : (w : Whose) (s : State) → ArePlain i w (whose_changes trace i w s)
  whose_plain (whose.Task task) s = due_plain (whose.Task task) task (writer_of (task_of task s)).due s
  whose_plain (whose.Flusher f) s = phase_plain f (flusher_of f s).phase s

  pub turn_plain : (w : Whose) (s : State) → ArePlain i w (turn_changes trace i w s)
  turn_plain w s = ((refl, tt), whose_plain w (apply trace (change.of_cpu i (cpu_change.began w)) s))

  -- ---- silent moves

  decide_plain : (w v : Whose) (s : State) → ArePlain i w (by_task (decide_changes trace i) v s)
  decide_plain w (whose.Task task) s = (refl, tt)
  decide_plain w (whose.Flusher f) s = tt

  end_plain : (w v : Whose) (s : State) → ArePlain i w (by_task (end_changes i) v s)
  end_plain w (whose.Task task) s =
      one_of w (has_nothing (task_of task s).works (writer_of (task_of task s)).due) (change.ended i task ∷ []) [] (refl, tt) tt
  end_plain w (whose.Flusher f) s = tt

  estimated_plain : (w : Whose) (context : ℕ) (found : Option Estimate) → ArePlain i w (estimated_changes i context found)
  estimated_plain w context None = tt
  estimated_plain w context (Some e) = (refl, tt)

  flushers_plain : (w : Whose) (does : (f : ℕ) (p : ReplayPhase) (s : State) → List Change) → ((f : ℕ) (p : ReplayPhase) (s : State) → ArePlain i (whose.Flusher f) (does f p s))
      → (s : State) → ArePlain i w (by_flusher does w s)
  flushers_plain (whose.Flusher f) does each s = each f (flusher_of f s).phase s
  flushers_plain (whose.Task task) does each s = tt

  pub move_plain : (item : Silent) (s : State) → ArePlain i (cpu_of i s).turn.whose (move_changes trace i item s)
  move_plain silent.Decide s = decide_plain (cpu_of i s).turn.whose (cpu_of i s).turn.whose s
  move_plain silent.End s = end_plain (cpu_of i s).turn.whose (cpu_of i s).turn.whose s
  move_plain (silent.Estimate context) s =
      estimated_plain (cpu_of i s).turn.whose context (update_of (writeback_of context s).estimate (sample_of trace context (cpu_of i s).turn s))
  move_plain (silent.Weigh context) s = ((refl, tt), tt)
  move_plain silent.Test s = flushers_plain (cpu_of i s).turn.whose (test_changes trace i (cpu_of i s).turn) (λ f. test_plain f (cpu_of i s).turn) s
  move_plain silent.Close s = flushers_plain (cpu_of i s).turn.whose (where_scanning (close_changes i)) close_plain s
  move_plain silent.HandOver s = flushers_plain (cpu_of i s).turn.whose (where_scanning (hand_over_changes trace i)) hand_plain s
  move_plain silent.Land s = flushers_plain (cpu_of i s).turn.whose (where_flying (land_changes trace i)) land_plain s

  -- ---- steps

  -- the step is one of a write, a look, a claim or a completion
  abbrev pub IsOnPage : (item : Step) → Type 0
  IsOnPage step.Dirty = Unit {0}
  IsOnPage step.Look = Unit {0}
  IsOnPage (step.Claim word) = Unit {0}
  IsOnPage step.Complete = Unit {0}
  IsOnPage other = ⊥

  mark_plain : (w : Whose) (inode : ℕ) (s : State) → ArePlain i w (mark_changes i inode s)
  mark_plain w inode s =
      one_of w (get_or s.marks inode true) (change.stepped i kind.Mark ∷ []) (change.marked inode ∷ change.stepped i kind.Mark ∷ []) (tt, tt) (tt, (tt, tt))

  pub step_plain : (item : Step) (s : State) → (IsOnPage item → ⊥) → ArePlain i (cpu_of i s).turn.whose (step_changes trace i item s)
  step_plain step.Dirty s other = absurd (other tt)
  step_plain (step.Add x n) s other = ((refl, tt), (tt, tt))
  step_plain (step.Fold x) s other = (refl, (tt, tt))
  step_plain (step.Clear x) s other = ((refl, tt), (tt, tt))
  step_plain (step.Mark inode) s other = mark_plain (cpu_of i s).turn.whose inode s
  step_plain (step.First domain) s other = ((refl, tt), (tt, tt))
  step_plain (step.Middle domain) s other = (tt, tt)
  step_plain (step.Limits domain) s other = ((refl, tt), (tt, tt))
  step_plain (step.Count x) s other = ((refl, tt), (tt, tt))
  step_plain step.Unmark s other = flushers_plain (cpu_of i s).turn.whose (where_taken (unmark_changes trace i)) unmark_plain s
  step_plain step.Look s other = absurd (other tt)
  step_plain (step.Claim word) s other = absurd (other tt)
  step_plain step.Complete s other = absurd (other tt)

  -- ---- the timer

  pub timer_step_plain : (w : Whose) (item : TimerStep) (s : State) → ArePlain i w (timer_step_changes item s)
  timer_step_plain w (timer_step.Count domain) s = (tt, (tt, tt))
  timer_step_plain w (timer_step.Peak domain) s = (tt, tt)
  timer_step_plain w (timer_step.Unseal domain) s = (tt, (tt, tt))
  timer_step_plain w (timer_step.Thresh domain) s = (tt, tt)
  timer_step_plain w (timer_step.Publish domain) s = (tt, (tt, tt))

  period_plain : (w : Whose) (domain k : ℕ) (found : Option Half) → ArePlain i w (period_changes domain k found)
  period_plain w domain k None = tt
  period_plain w domain k (Some events) = (tt, tt)

  pub timer_move_plain : (w : Whose) (item : TimerSilent) (s : State) → ArePlain i w (timer_move_changes item s)
  timer_move_plain w (timer_silent.Period domain) s =
      let found = after_period (domain_of domain s).events (periods s.timer) in
      one_of w (is_time s.timer) (period_changes domain (periods s.timer) found) [] (period_plain w domain (periods s.timer) found) tt
  timer_move_plain w timer_silent.Rest s = (tt, tt)

  pub timer_turn_plain : (w : Whose) → ArePlain i w timer_turn_changes
  timer_turn_plain w = (tt, tt)
