-- How much a run tells: each move tells two things at most, but for inodes noticed, each of which was queued by a step before.
use Rattle.std.proofs.Common.{◌≡◌, ℕ, zero, suc, ◌+◌, ◌-◌, ◌*◌, ◌≤◌, ◌&&◌, ◌||◌, Bool, true, cond, nat_le, nat_lt, eqb, List, [], ◌∷◌, ◌++◌, length, replicate, get_or, Option, Some, None, refl, ap, arith, ⊎_elim}
use Rattle.std.specs.List.{sum_by}
use Rattle.std.proofs.lemmas.Bool.{cases_lt}
use Rattle.std.proofs.lemmas.List.Sums.{sum_by-cons, sum_by_push}
use Rattle.wbt_replay_order.proofs.Common.{is_claimable, shared_word, update_of, Estimate, has_inode, after_period, Half, Trace, done_at, page_of, context_of, flusher_device, group_of, MOST_NOTICED, FLUSHER_REST, Due, writer_of, sample_of, extended, make_step, make_move, make_timer_step, make_timer_move, begin_turn, close_items, is_scan_over, State, cpu_of, with_cpu, task_of, flusher_of, waiting_of, queue_of, domain_of, writeback_of, is_drained, begin_timer, is_time, periods, pause_in, without_page, has_nothing, ReplayPhase, ReplayTurn, ReplayWork, Whose, Silent, Step, TimerSilent, TimerStep, opening, first_cpu, first_cpus, advance, is_ended, is_full, fits_further, apply, apply_all, Change, step_changes, move_changes, phase_changes, whose_changes, turn_changes, look_changes, claim_changes, close_changes, hand_over_changes, complete_changes, share_changes, group_changes, land_changes, estimated_changes, last_changes, idle_changes, notice_changes, waiting_changes, wheel_changes, test_changes, unmark_changes, timer_step_changes, timer_move_changes, timer_turn_changes, by_task, by_flusher, where_taken, where_scanning, where_flying, then_changes, page_changes, work_changes, due_changes, write_changes, dirty_changes, decide_changes, end_changes, moves_are_changes}
use Rattle.wbt_expiry.specs.Waiting.{Waiting}
use Rattle.wbt_expiry.specs.declared.due.Due.{Due as Pair}
use Rattle.wbt_grant.specs.declared.who.StepKind.TheVariants as kind
use Rattle.wbt_rules.specs.Things.{rate_of}
use Rattle.wbt_task.specs.declared.allowance.Due.TheVariants as due
use Rattle.wbt_replay_moves.specs.declared.state.ReplayPhase.TheVariants as phase
use Rattle.wbt_replay_moves.specs.declared.state.ReplayWork.TheVariants as work
use Rattle.wbt_replay_moves.specs.declared.state.Whose.TheVariants as whose
use Rattle.wbt_replay_moves.specs.declared.todo.Silent.TheVariants as silent
use Rattle.wbt_replay_moves.specs.declared.todo.Step.TheVariants as step
use Rattle.wbt_replay_moves.specs.declared.todo.Todo.TheVariants as todo
use Rattle.wbt_replay_moves.specs.declared.todo.TimerSilent.TheVariants as timer_silent
use Rattle.wbt_replay_moves.specs.declared.todo.TimerStep.TheVariants as timer_step
use Rattle.wbt_replay_order.proofs.Facts.Lists.{either}
use Rattle.wbt_replay_changes.specs.Change as change
use Rattle.wbt_replay_changes.specs.Change.Cpu as cpu_change
use Rattle.wbt_replay_changes.specs.Change.Flusher as flusher_change
use Rattle.wbt_replay_changes.specs.ChangeOf.Flusher.{empty_changes, batch_changes, landed_changes}
use Rattle.wbt_replay_changes.specs.ChangeOf.Idle.{takes, rests, queue_or_finish, queue_or_rest, loads_changes, notices, aged_changes}
use Rattle.wbt_replay_changes.specs.ChangeOf.Timer.{period_changes}
use Rattle.wbt_replay_changes.specs.ChangeOf.Writer.{mark_changes}
use Rattle.wbt_forecast_run.specs.Claims.{FewAreTold}
use Rattle.wbt_forecast_run.specs.Run.{let_on, moved, state_after}
use Rattle.wbt_forecast_run.proofs.Runs.Ends.{ends_in_time, moves_needed, next_state, first_state, stays_over}
use Rattle.wbt_forecast_run.proofs.Runs.Walking.{advance_walks}
use Rattle.wbt_forecast_run.proofs.Runs.Gaining.{told_by, waiting_in, told_or_queued, Gains, gains_same, quiet, change_gains, took_gains, dropped_gains, noticed_gains, AreLight, light_gains}

-- after a list and then another one
all_more : (trace : Trace) (xs ys : List Change) (s : State) → apply_all trace (xs ++ ys) s ≡ apply_all trace ys (apply_all trace xs s)
all_more trace [] ys s = refl
all_more trace (x ∷ xs) ys s = all_more trace xs ys (apply trace x s)

module _ (trace : Trace) (i : ℕ) where
  -- a state gains two things at most by a list
  abbrev Two : (changes : List Change) (s : State) → Type 0
  Two changes s = Gains 2 s (apply_all trace changes s)

  light : (changes : List Change) (s : State) → AreLight 2 changes → Two changes s
  light changes s = light_gains trace 2 changes s

  none : (s : State) → Two [] s
  none s = light [] s tt

  one_of : (b : Bool) (xs ys : List Change) (s : State) → Two xs s → Two ys s → Two (cond b xs ys) s
  one_of b xs ys s p q = either (λ (changes : List Change). Two changes s) b xs ys (λ yes. p) (λ no. q)

  -- ---- a task

  page_two : (task : ℕ) (pause : Option ℕ) (s : State) → Two (page_changes i task pause s) s
  page_two task None s = light (page_changes i task None s) s (tt, (omega arith, tt))
  page_two task (Some ticks) s = light (page_changes i task (Some ticks) s) s (tt, (omega arith, (tt, (omega arith, tt))))

  work_two : (task : ℕ) (works : List ReplayWork) (s : State) → Two (work_changes i task works s) s
  work_two task [] s = light (work_changes i task [] s) s (tt, (omega arith, tt))
  work_two task (work.Rest ticks ∷ works) s = light (work_changes i task (work.Rest ticks ∷ works) s) s (tt, (omega arith, (tt, (omega arith, tt))))
  work_two task (work.Write inode page pages ∷ works) s = page_two task (pause_in (task_of task s)) s

  due_two : (task : ℕ) (d : Due) (s : State) → Two (due_changes trace i task d s) s
  due_two task due.Check s = light (due_changes trace i task due.Check s) s (tt, (omega arith, tt))
  due_two task due.No s = work_two task (task_of task s).works s

  write_two : (task : ℕ) (works : List ReplayWork) (s : State) → Two (write_changes trace i task works s) s
  write_two task [] s = none s
  write_two task (work.Rest ticks ∷ works) s = none s
  write_two task (work.Write inode page pages ∷ works) s =
      let rewrites = change.rewrote i task page (without_page inode page pages works) ∷ change.stepped i kind.Dirty ∷ [] in
      let dirties = change.dirtied i task inode page (without_page inode page pages works) ∷ [] in
      one_of (s.book page).dirty rewrites dirties s (light rewrites s (tt, (omega arith, (tt, (omega arith, tt))))) (light dirties s (tt, (omega arith, tt)))

  module _ (f : ℕ) where
    -- ---- an inode is taken

    -- after a take, the item that clears the mark is put down
    takes_two : (take : Change) (s : State) → Gains 1 s (apply trace take s) → Two (takes i take) s
    takes_two take s h =
        let plans = change.of_cpu i (cpu_change.planned (todo.Step step.Unmark ∷ [])) ∷ [] in
        let rest = light_gains trace 0 plans (apply trace take s) (tt, (omega arith, tt)) in
        omega (arith, h, rest)

    takes_queued : (n : ℕ) (ns : List ℕ) (s : State) → queue_of (flusher_device trace f) s ≡ n ∷ ns → Two (takes i (change.took f n ns)) s
    takes_queued n ns s is = takes_two (change.took f n ns) s (let h = took_gains trace s f n ns is in omega (arith, h))

    finish_two : (numbers : List ℕ) (s : State) → queue_of (flusher_device trace f) s ≡ numbers → Two (queue_or_finish i f numbers) s
    finish_two [] s is = light (queue_or_finish i f []) s (tt, (omega arith, tt))
    finish_two (n ∷ ns) s is = takes_queued n ns s is

    rest_two : (until : ℕ) (numbers : List ℕ) (s : State) → queue_of (flusher_device trace f) s ≡ numbers → Two (queue_or_rest i f until numbers) s
    rest_two until [] s is = light (queue_or_rest i f until []) s (tt, (omega arith, tt))
    rest_two until (n ∷ ns) s is = takes_queued n ns s is

    last_two : (pairs : List Pair) (s : State) → Two (last_changes trace i f pairs s) s
    last_two [] s = finish_two (queue_of (flusher_device trace f) s) s refl
    last_two (pair ∷ pairs) s = takes_two (change.took_first i f pair pairs) s (change_gains trace s (change.took_first i f pair pairs) tt)

    idle_two : (s : State) → Two (idle_changes trace i f s) s
    idle_two s = one_of (is_drained s) (last_changes trace i f (waiting_of f s).pairs s) (loads_changes i f s) s (last_two (waiting_of f s).pairs s)
        (light (loads_changes i f s) s (tt, (omega arith, (tt, (omega arith, (tt, (omega arith, (tt, (omega arith, tt)))))))))

    -- ---- a flusher tests

    notice_none : (since : ℕ) (numbers : List ℕ) (s : State) → queue_of (flusher_device trace f) s ≡ numbers
        → Gains 0 s (apply_all trace (notice_changes i f since numbers s) s)
    notice_none since [] s is = light_gains trace 0 [] s tt
    notice_none since (n ∷ ns) s is =
        either (λ (changes : List Change). Gains 0 s (apply_all trace changes s)) (has_inode n (waiting_of f s).pairs)
        (change.dropped f ns ∷ []) (change.noticed i f n since ns ∷ [])
        (λ yes. dropped_gains trace s f n ns is) (λ no. noticed_gains trace s i f n since ns is)

    notices_none : (since most : ℕ) (s : State) → Gains 0 s (apply_all trace (notices trace i f since most s) s)
    notices_none since zero s = light_gains trace 0 [] s tt
    notices_none since (suc most) s =
        let first = notice_changes i f since (queue_of (flusher_device trace f) s) s in
        let u = apply_all trace first s in
        let here = notice_none since (queue_of (flusher_device trace f) s) s refl in
        let rest = notices_none since most u in
        let whole = ap told_or_queued (all_more trace first (notices trace i f since most u) s) in
        omega (arith, here, rest, whole)

    aged_two : (now : ℕ) (over : Bool) (pairs : List Pair) (s : State) → Two (aged_changes i f now over pairs) s
    aged_two now over [] s = light (aged_changes i f now over []) s (tt, (omega arith, tt))
    aged_two now over (pair ∷ pairs) s =
        let waits = rests f (now + FLUSHER_REST) in
        let ages = takes i (change.took_due i f now pair pairs) in
        let firsts = takes i (change.took_first i f pair pairs) in
        one_of (nat_le pair.due now) ages (cond over firsts waits) s
        (takes_two (change.took_due i f now pair pairs) s (change_gains trace s (change.took_due i f now pair pairs) tt))
        (one_of over firsts waits s (takes_two (change.took_first i f pair pairs) s (change_gains trace s (change.took_first i f pair pairs) tt))
        (light waits s (tt, (omega arith, tt))))

    -- so many inodes are noticed, and then one may be taken
    take_two : (most now : ℕ) (over : Bool) (s : State) → Two (then_changes trace (notices trace i f now most s) (waiting_changes i f now over) s) s
    take_two most now over s =
        let first = notices trace i f now most s in
        let u = apply_all trace first s in
        let noticed = notices_none now most s in
        let aged = aged_two now over (waiting_of f u).pairs u in
        let whole = ap told_or_queued (all_more trace first (waiting_changes i f now over u) s) in
        omega (arith, noticed, aged, whole)

    wheel_two : (t : ReplayTurn) (wheel : Option Waiting) (s : State) → Two (wheel_changes trace i f t wheel s) s
    wheel_two t None s =
        let until = t.began + FLUSHER_REST in
        one_of t.over (queue_or_rest i f until (queue_of (flusher_device trace f) s)) (rests f until) s
        (rest_two until (queue_of (flusher_device trace f) s) s refl) (light (rests f until) s (tt, (omega arith, tt)))
    wheel_two t (Some wheel) s =
        let told = apply trace (change.of_flusher f (flusher_change.told t.began)) s in
        take_two MOST_NOTICED t.began t.over told

    test_two : (t : ReplayTurn) (p : ReplayPhase) (s : State) → Two (test_changes trace i t f p s) s
    test_two t p s =
        let keeps = apply trace (change.of_flusher f (flusher_change.limited t.global.limits.hard)) s in
        let here : Gains 0 s keeps = gains_same s keeps refl refl refl in
        let rest = wheel_two t (flusher_of f s).wheel keeps in
        omega (arith, here, rest)

    -- ---- a scan and a flight

    unmark_two : (p : ReplayPhase) (s : State) → Two (where_taken (unmark_changes trace i) f p s) s
    unmark_two (phase.Taken inode) s = light (unmark_changes trace i f inode s) s (tt, (omega arith, (tt, (omega arith, tt))))
    unmark_two (phase.Idle until kept) s = none s
    unmark_two (phase.Scanning scan) s = none s
    unmark_two (phase.Flying inode pages until) s = none s
    unmark_two phase.Finished s = none s

    look_two : (p : ReplayPhase) (s : State) → Two (where_scanning (look_changes i) f p s) s
    look_two (phase.Scanning scan) s =
        let bits = s.book (page_of scan) in
        let claims = change.of_cpu i (cpu_change.planned (todo.Step (step.Claim (shared_word s.book (page_of scan))) ∷ [])) ∷ change.stepped i kind.Look ∷ [] in
        let passes_it = change.of_flusher f (flusher_change.passed scan (bits.dirty && bits.writeback))
        ∷ change.of_cpu i (cpu_change.planned (todo.Silent silent.Close ∷ [])) ∷ change.stepped i kind.Look ∷ [] in
        one_of (is_claimable bits) claims passes_it s (light claims s (tt, (omega arith, (tt, (omega arith, tt)))))
        (light passes_it s (tt, (omega arith, (tt, (omega arith, (tt, (omega arith, tt)))))))
    look_two (phase.Taken inode) s = none s
    look_two (phase.Idle until kept) s = none s
    look_two (phase.Flying inode pages until) s = none s
    look_two phase.Finished s = none s

    claim_two : (word : ℕ) (p : ReplayPhase) (s : State) → Two (where_scanning (claim_changes i word) f p s) s
    claim_two word (phase.Scanning scan) s =
        let claims = change.claimed i f scan ∷ change.of_cpu i (cpu_change.planned (todo.Silent silent.Close ∷ [])) ∷ change.stepped i kind.Claim ∷ [] in
        let misses = change.stepped i kind.Claim ∷ [] in
        one_of (eqb (shared_word s.book (page_of scan)) word) claims misses s
        (light claims s (tt, (omega arith, (tt, (omega arith, (tt, (omega arith, tt))))))) (light misses s (tt, (omega arith, tt)))
    claim_two word (phase.Taken inode) s = none s
    claim_two word (phase.Idle until kept) s = none s
    claim_two word (phase.Flying inode pages until) s = none s
    claim_two word phase.Finished s = none s

    close_two : (p : ReplayPhase) (s : State) → Two (where_scanning (close_changes i) f p s) s
    close_two (phase.Scanning scan) s =
        let closes = change.of_flusher f (flusher_change.placed scan)
        ∷ change.of_cpu i (cpu_change.planned (close_items scan.inode (scan.noted || nat_lt scan.passed scan.pages))) ∷ [] in
        one_of (is_scan_over scan (length (flusher_of f s).batch)) closes [] s (light closes s (tt, (omega arith, (tt, (omega arith, tt))))) (none s)
    close_two (phase.Taken inode) s = none s
    close_two (phase.Idle until kept) s = none s
    close_two (phase.Flying inode pages until) s = none s
    close_two phase.Finished s = none s

    hand_two : (p : ReplayPhase) (s : State) → Two (where_scanning (hand_over_changes trace i) f p s) s
    hand_two (phase.Scanning scan) s =
        let pages = length (flusher_of f s).batch in
        let flies = change.flew i f scan.inode pages (done_at s.now pages (rate_of trace (flusher_device trace f))) ∷ [] in
        one_of (eqb pages 0) (empty_changes f scan.noted s) flies s (light (empty_changes f scan.noted s) s (tt, (omega arith, tt)))
        (light flies s (tt, (omega arith, tt)))
    hand_two (phase.Taken inode) s = none s
    hand_two (phase.Idle until kept) s = none s
    hand_two (phase.Flying inode pages until) s = none s
    hand_two phase.Finished s = none s

    batch_two : (context : ℕ) (batch : List ℕ) (s : State) → Two (batch_changes i f context batch) s
    batch_two context [] s = none s
    batch_two context (page ∷ pages) s = light (change.completed i f context page pages ∷ []) s (tt, (omega arith, tt))

    complete_two : (p : ReplayPhase) (s : State) → Two (where_flying (complete_changes trace i) f p s) s
    complete_two (phase.Flying inode pages until) s = batch_two (context_of trace inode) (flusher_of f s).batch s
    complete_two (phase.Scanning scan) s = none s
    complete_two (phase.Taken inode) s = none s
    complete_two (phase.Idle until kept) s = none s
    complete_two phase.Finished s = none s

    share_one : (domain context pages : ℕ) (s u : State) → Gains 1 u (apply_all trace (share_changes trace i domain context pages s) u)
    share_one domain context pages s u =
        either (λ (changes : List Change). Gains 1 u (apply_all trace changes u)) _ (change.shared i domain context pages ∷ []) []
        (λ yes. light_gains trace 1 (change.shared i domain context pages ∷ []) u (tt, (omega arith, tt))) (λ no. light_gains trace 1 [] u tt)

    group_one : (group context pages : ℕ) (s u : State) → Gains 1 u (apply_all trace (group_changes trace i group context pages s) u)
    group_one zero context pages s u = light_gains trace 1 [] u tt
    group_one (suc cgroup) context pages s u = share_one (suc cgroup) context pages s u

    land_two : (p : ReplayPhase) (s : State) → Two (where_flying (land_changes trace i) f p s) s
    land_two (phase.Flying inode pages until) s =
        let context = context_of trace inode in
        let landed = apply trace (change.landed f context pages) s in
        let first = share_changes trace i 0 context pages landed in
        let more = group_changes trace i (group_of trace context) context pages (apply_all trace first landed) in
        let here : Gains 0 s landed = gains_same s landed refl refl refl in
        let one = share_one 0 context pages landed landed in
        let two = group_one (group_of trace context) context pages (apply_all trace first landed) (apply_all trace first landed) in
        let whole = ap told_or_queued (all_more trace first more landed) in
        one_of (eqb (length (flusher_of f s).batch) 0) (landed_changes trace i f context pages s) [] s (omega (arith, here, one, two, whole)) (none s)
    land_two (phase.Scanning scan) s = none s
    land_two (phase.Taken inode) s = none s
    land_two (phase.Idle until kept) s = none s
    land_two phase.Finished s = none s

    phase_two : (p : ReplayPhase) (s : State) → Two (phase_changes trace i f p s) s
    phase_two (phase.Idle until kept) s = idle_two s
    phase_two (phase.Taken inode) s = light (phase_changes trace i f (phase.Taken inode) s) s (tt, (omega arith, tt))
    phase_two (phase.Scanning scan) s = light (phase_changes trace i f (phase.Scanning scan) s) s (tt, (omega arith, tt))
    phase_two (phase.Flying inode pages until) s = light (phase_changes trace i f (phase.Flying inode pages until) s) s (tt, (omega arith, tt))
    phase_two phase.Finished s = none s

  -- ---- turns and items

  whose_two : (w : Whose) (s : State) → Two (whose_changes trace i w s) s
  whose_two (whose.Task task) s = due_two task (writer_of (task_of task s)).due s
  whose_two (whose.Flusher f) s = phase_two f (flusher_of f s).phase s

  turn_two : (w : Whose) (s : State) → Two (turn_changes trace i w s) s
  turn_two w s =
      let begun = apply trace (change.of_cpu i (cpu_change.began w)) s in
      let here = change_gains trace s (change.of_cpu i (cpu_change.began w)) tt in
      let rest = whose_two w begun in
      omega (arith, here, rest)

  by_tasks : (does : (task : ℕ) (s : State) → List Change) → ((task : ℕ) (s : State) → Two (does task s) s) → (w : Whose) (s : State) → Two (by_task does w s) s
  by_tasks does each (whose.Task task) s = each task s
  by_tasks does each (whose.Flusher f) s = none s

  by_flushers : (does : (f : ℕ) (p : ReplayPhase) (s : State) → List Change) → ((f : ℕ) (p : ReplayPhase) (s : State) → Two (does f p s) s)
      → (w : Whose) (s : State) → Two (by_flusher does w s) s
  by_flushers does each (whose.Flusher f) s = each f (flusher_of f s).phase s
  by_flushers does each (whose.Task task) s = none s

  end_two : (task : ℕ) (s : State) → Two (end_changes i task s) s
  end_two task s =
      one_of (has_nothing (task_of task s).works (writer_of (task_of task s)).due) (change.ended i task ∷ []) [] s
      (light (change.ended i task ∷ []) s (tt, (omega arith, tt))) (none s)

  estimated_two : (context : ℕ) (found : Option Estimate) (s : State) → Two (estimated_changes i context found) s
  estimated_two context None s = none s
  estimated_two context (Some e) s = light (change.estimated i context e ∷ []) s (tt, (omega arith, tt))

  move_two : (item : Silent) (s : State) → Two (move_changes trace i item s) s
  move_two silent.Decide s = by_tasks (decide_changes trace i) (λ task u. light (decide_changes trace i task u) u (tt, (omega arith, tt))) (cpu_of i s).turn.whose s
  move_two silent.End s = by_tasks (end_changes i) end_two (cpu_of i s).turn.whose s
  move_two (silent.Estimate context) s =
      estimated_two context (update_of (writeback_of context s).estimate (sample_of trace context (cpu_of i s).turn s)) s
  move_two (silent.Weigh context) s = light (move_changes trace i (silent.Weigh context) s) s (tt, (omega arith, tt))
  move_two silent.Test s = by_flushers (test_changes trace i (cpu_of i s).turn) (λ f. test_two f (cpu_of i s).turn) (cpu_of i s).turn.whose s
  move_two silent.Close s = by_flushers (where_scanning (close_changes i)) close_two (cpu_of i s).turn.whose s
  move_two silent.HandOver s = by_flushers (where_scanning (hand_over_changes trace i)) hand_two (cpu_of i s).turn.whose s
  move_two silent.Land s = by_flushers (where_flying (land_changes trace i)) land_two (cpu_of i s).turn.whose s

  mark_two : (inode : ℕ) (s : State) → Two (mark_changes i inode s) s
  mark_two inode s =
      let known = change.stepped i kind.Mark ∷ [] in
      let new = change.marked inode ∷ change.stepped i kind.Mark ∷ [] in
      one_of (get_or s.marks inode true) known new s (light known s (tt, (omega arith, tt))) (light new s (tt, (omega arith, (tt, (omega arith, tt)))))

  step_two : (item : Step) (s : State) → Two (step_changes trace i item s) s
  step_two step.Dirty s = by_tasks (dirty_changes trace i) (λ task u. write_two task (task_of task u).works u) (cpu_of i s).turn.whose s
  step_two (step.Add x n) s = light (step_changes trace i (step.Add x n) s) s (tt, (omega arith, (tt, (omega arith, tt))))
  step_two (step.Fold x) s = light (step_changes trace i (step.Fold x) s) s (tt, (omega arith, (tt, (omega arith, tt))))
  step_two (step.Clear x) s = light (step_changes trace i (step.Clear x) s) s (tt, (omega arith, (tt, (omega arith, tt))))
  step_two (step.Mark inode) s = mark_two inode s
  step_two (step.First d) s = light (step_changes trace i (step.First d) s) s (tt, (omega arith, (tt, (omega arith, tt))))
  step_two (step.Middle d) s = light (step_changes trace i (step.Middle d) s) s (tt, (omega arith, tt))
  step_two (step.Limits d) s = light (step_changes trace i (step.Limits d) s) s (tt, (omega arith, (tt, (omega arith, tt))))
  step_two (step.Count x) s = light (step_changes trace i (step.Count x) s) s (tt, (omega arith, (tt, (omega arith, tt))))
  step_two step.Unmark s = by_flushers (where_taken (unmark_changes trace i)) unmark_two (cpu_of i s).turn.whose s
  step_two step.Look s = by_flushers (where_scanning (look_changes i)) look_two (cpu_of i s).turn.whose s
  step_two (step.Claim word) s = by_flushers (where_scanning (claim_changes i word)) (λ f. claim_two f word) (cpu_of i s).turn.whose s
  step_two step.Complete s = by_flushers (where_flying (complete_changes trace i)) complete_two (cpu_of i s).turn.whose s

module _ (trace : Trace) where
  timer_step_two : (item : TimerStep) (s : State) → Two trace 0 (timer_step_changes item s) s
  timer_step_two (timer_step.Count d) s = light trace 0 (timer_step_changes (timer_step.Count d) s) s (tt, (omega arith, (tt, (omega arith, tt))))
  timer_step_two (timer_step.Peak d) s = light trace 0 (timer_step_changes (timer_step.Peak d) s) s (tt, (omega arith, tt))
  timer_step_two (timer_step.Unseal d) s = light trace 0 (timer_step_changes (timer_step.Unseal d) s) s (tt, (omega arith, (tt, (omega arith, tt))))
  timer_step_two (timer_step.Thresh d) s = light trace 0 (timer_step_changes (timer_step.Thresh d) s) s (tt, (omega arith, tt))
  timer_step_two (timer_step.Publish d) s = light trace 0 (timer_step_changes (timer_step.Publish d) s) s (tt, (omega arith, (tt, (omega arith, tt))))

  period_two : (d k : ℕ) (found : Option Half) (s : State) → Two trace 0 (period_changes d k found) s
  period_two d k None s = none trace 0 s
  period_two d k (Some events) s = light trace 0 (change.renewed d k events ∷ []) s (tt, (omega arith, tt))

  timer_move_two : (item : TimerSilent) (s : State) → Two trace 0 (timer_move_changes item s) s
  timer_move_two (timer_silent.Period d) s =
      let found = after_period (domain_of d s).events (periods s.timer) in
      one_of trace 0 (is_time s.timer) (period_changes d (periods s.timer) found) [] s (period_two d (periods s.timer) found s) (none trace 0 s)
  timer_move_two timer_silent.Rest s = light trace 0 (timer_move_changes timer_silent.Rest s) s (tt, (omega arith, tt))

  -- ---- a move

  -- what changes make of a state that has so much has two things more at most
  two_more : (n : ℕ) (s u : State) (changes : List Change) → u ≡ apply_all trace changes s → Gains 2 s (apply_all trace changes s) → told_or_queued s ≤ n
      → told_or_queued u ≤ n + 2
  two_more n s u changes is two few = omega (arith, two, few, ap told_or_queued is)

  advance_two : (s : State) → Gains 2 s (advance trace s)
  advance_two start =
      let n : ℕ = told_or_queued start in
      advance_walks trace (λ s. told_or_queued s ≤ n) (λ u. told_or_queued u ≤ n + 2) (λ s h. omega (arith, h)) (λ c s h. h)
      (λ i c s entries checks h. (let same = quiet s (with_cpu i c s) i c refl refl refl entries checks in omega (arith, same, h)))
      (λ todos s h. h)
      (λ i w s h. two_more n s (begin_turn trace i w s) (turn_changes trace i w s) ((moves_are_changes trace).turns i w s) (turn_two trace i w s) h)
      (λ i item s h. two_more n s (make_step trace i item s) (step_changes trace i item s) ((moves_are_changes trace).steps i item s) (step_two trace i item s) h)
      (λ i item s h. two_more n s (make_move trace i item s) (move_changes trace i item s) ((moves_are_changes trace).moves i item s) (move_two trace i item s) h)
      (λ s h. two_more n s (begin_timer s) timer_turn_changes ((moves_are_changes trace).timer_turns s) (light trace 0 timer_turn_changes s (tt, (omega arith, tt))) h)
      (λ item s h. two_more n s (make_timer_step trace item s) (timer_step_changes item s) ((moves_are_changes trace).timer_steps item s) (timer_step_two item s) h)
      (λ item s h. two_more n s (make_timer_move item s) (timer_move_changes item s) ((moves_are_changes trace).timer_moves item s) (timer_move_two item s) h)
      start (omega arith)

  let_told : (s : State) → told_or_queued (let_on s) ≡ told_or_queued s
  let_told s = either (λ (u : State). told_or_queued u ≡ told_or_queued s) (is_full s && fits_further s) (extended s) s (λ is. refl) (λ no. refl)

  moved_two : (s : State) → Gains 2 s (moved trace s)
  moved_two s = either (Gains 2 s) (is_ended s) s (advance trace (let_on s)) (λ over. omega arith)
      (λ going. (let two = advance_two (let_on s) in let same = let_told s in omega (arith, two, same)))

  -- ---- the run

  no_told : (n : ℕ) → sum_by told_by (first_cpus trace n) ≡ 0
  no_told zero = refl
  no_told (suc n) = let rest = no_told n in omega (arith, rest, sum_by_push told_by (first_cpus trace n) (first_cpu trace n))

  no_queued : (n : ℕ) → sum_by waiting_in (replicate n []) ≡ 0
  no_queued zero = refl
  no_queued (suc n) = let rest = no_queued n in omega (arith, rest, sum_by-cons waiting_in [] (replicate n []))

  opening_told : told_or_queued (opening trace) ≡ 0
  unfolding opening
  opening_told = omega (arith, no_told trace.cpus, no_queued (length trace.devices))

  told_at : (n : ℕ) → told_or_queued (state_after trace n) ≤ 2 * n
  told_at zero = omega (arith, ap told_or_queued (first_state trace), opening_told)
  told_at (suc n) =
      let before = told_at n in
      let two = moved_two (state_after trace n) in
      let next = ap told_or_queued (next_state trace n (suc n) (omega arith)) in
      omega (arith, before, two, next)

-- A run tells so many steps, entries and checks at most.
pub few_told : FewAreTold
few_told = λ trace lawful moves. ⊎_elim
    (λ early. let few = told_at trace moves in omega (arith, few, early))
    (λ late.
    let few = told_at trace moves_needed in
    let same = stays_over trace moves_needed (moves - moves_needed) moves (omega (arith, late)) (ends_in_time trace lawful) in
    let steps = ap (λ (s : State). length s.steps) same in
    let told = ap (λ (s : State). sum_by told_by s.cpus) same in
    omega (arith, few, steps, told))
    (cases_lt moves moves_needed)
