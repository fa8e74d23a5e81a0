-- The facts of each change hold where a move makes it: the one walk over the moves of a CPU's turn.
use Rattle.std.proofs.Common.{◌≡◌, ℕ, zero, suc, Bool, true, false, eqb, nat_le, List, [], ◌∷◌, length, get_or, Option, Some, None, refl}
use Rattle.wbt_trace.specs.declared.trace.Trace.{Trace}
use Rattle.wbt_book.specs.Book.{is_claimable}
use Rattle.wbt_book.specs.PageWords.{shared_word}
use Rattle.wbt_estimate.specs.Estimate.{update_of}
use Rattle.wbt_estimate.specs.declared.estimate.Estimate.{Estimate}
use Rattle.wbt_expiry.specs.Waiting.{Waiting, has_inode}
use Rattle.wbt_expiry.specs.declared.due.Due.{Due}
use Rattle.wbt_flex.specs.Proportions.{fraction_of, may_be_added}
use Rattle.wbt_rules.specs.Places.{page_of}
use Rattle.wbt_rules.specs.Things.{context_of, flusher_device, group_of, max_share}
use Rattle.wbt_rules.specs.declared.age.TheConstants.{MOST_NOTICED}
use Rattle.wbt_rules.specs.declared.scan.Scan.{Scan}
use Rattle.wbt_replay_moves.specs.Definition.Check.{writer_of}
use Rattle.wbt_replay_moves.specs.Definition.Estimates.{sample_of}
use Rattle.wbt_replay_moves.specs.Definition.Flight.{part_in}
use Rattle.wbt_replay_moves.specs.Definition.Scan.{is_scan_over}
use Rattle.wbt_replay_moves.specs.Definition.State.{State, cpu_of, task_of, flusher_of, queue_of, waiting_of, domain_of, writeback_of}
use Rattle.wbt_replay_moves.specs.Definition.Writer.{has_nothing}
use Rattle.wbt_replay_moves.specs.declared.state.ReplayPhase.TheVariants as phase
use Rattle.wbt_replay_moves.specs.declared.state.ReplayTurn.{ReplayTurn}
use Rattle.wbt_replay_moves.specs.declared.state.ReplayWork.{ReplayWork}
use Rattle.wbt_replay_moves.specs.declared.state.ReplayWork.TheVariants as work
use Rattle.wbt_replay_moves.specs.declared.todo.Silent.{Silent}
use Rattle.wbt_replay_moves.specs.declared.todo.Silent.TheVariants as silent
use Rattle.wbt_replay_moves.specs.declared.todo.Step.{Step}
use Rattle.wbt_replay_moves.specs.declared.todo.Step.TheVariants as step
use Rattle.wbt_replay_changes.specs.Apply.{apply}
use Rattle.wbt_replay_changes.specs.Change.{Change}
use Rattle.wbt_replay_changes.specs.Change as change
use Rattle.wbt_replay_changes.specs.Change.Flusher as flusher_change
use Rattle.wbt_replay_changes.specs.ChangeOf.{step_changes, move_changes}
use Rattle.wbt_replay_changes.specs.ChangeOf.Flusher.{look_changes, claim_changes, close_changes, empty_changes, hand_over_changes, batch_changes, complete_changes, share_changes, group_changes, land_changes}
use Rattle.wbt_replay_changes.specs.ChangeOf.Idle.{estimated_changes, queue_or_rest, notice_changes, notices, aged_changes, waiting_changes, wheel_changes, test_changes, unmark_changes}
use Rattle.wbt_replay_changes.specs.ChangeOf.Where.{where_taken, where_scanning, where_flying}
use Rattle.wbt_replay_changes.specs.ChangeOf.Writer.{write_changes, dirty_changes, mark_changes, end_changes, decide_changes}
use Rattle.wbt_replay_changes.specs.Facts.{Along, Fact}
use Rattle.wbt_replay_changes.specs.Laws.{ChangesHaveFacts}
use Rattle.wbt_replay_changes.proofs.Each.{one_of, after, a_task, a_flusher, taken, scanning, flying}

-- ---- a task

module _ (trace : Trace) (cpu : ℕ) (s : State) where
  write_facts : (t : ℕ) (works : List ReplayWork) → (task_of t s).works ≡ works → Along trace (write_changes trace cpu t works s) s
  write_facts t [] e = tt
  write_facts t (work.Rest ticks ∷ works) e = tt
  write_facts t (work.Write inode page pages ∷ works) e = one_of trace (Fact trace) s (s.book page).dirty _ _
      (λ is. (is, (tt, tt)))
      (λ fresh. ((fresh, record { pages = pages; more = works; works = e; leaves = refl }), tt))

  mark_facts : (inode : ℕ) → Along trace (mark_changes cpu inode s) s
  mark_facts inode = one_of trace (Fact trace) s (get_or s.marks inode true) _ _ (λ is. (tt, tt)) (λ clear. (clear, (tt, tt)))

  end_facts : (t : ℕ) → Along trace (end_changes cpu t s) s
  end_facts t = one_of trace (Fact trace) s (has_nothing (task_of t s).works (writer_of (task_of t s)).due) _ _ (λ ends. (ends, tt)) (λ more. tt)

  -- ---- a scan

  look_facts : (f : ℕ) (scan : Scan) → (flusher_of f s).phase ≡ phase.Scanning scan → Along trace (look_changes cpu f scan s) s
  look_facts f scan e = one_of trace (Fact trace) s (is_claimable (s.book (page_of scan))) _ _ (λ is. (tt, (tt, tt))) (λ not. (e, (tt, (tt, tt))))

  claim_facts : (word f : ℕ) (scan : Scan) → (flusher_of f s).phase ≡ phase.Scanning scan → Along trace (claim_changes cpu word f scan s) s
  claim_facts word f scan e =
      one_of trace (Fact trace) s (eqb (shared_word s.book (page_of scan)) word) _ _ (λ is. (e, (tt, (tt, tt)))) (λ not. (tt, tt))

  close_facts : (f : ℕ) (scan : Scan) → (flusher_of f s).phase ≡ phase.Scanning scan → Along trace (close_changes cpu f scan s) s
  close_facts f scan e = one_of trace (Fact trace) s (is_scan_over scan (length (flusher_of f s).batch)) _ _ (λ is. (e, (tt, tt))) (λ not. tt)

  empty_facts : (f : ℕ) (noted : Bool) → Along trace (empty_changes f noted s) s
  empty_facts f true = (tt, tt)
  empty_facts f false = (tt, tt)

  hand_over_facts : (f : ℕ) (scan : Scan) → (flusher_of f s).phase ≡ phase.Scanning scan → Along trace (hand_over_changes trace cpu f scan s) s
  hand_over_facts f scan e = one_of trace (Fact trace) s (eqb (length (flusher_of f s).batch) 0) _ _
      (λ is. empty_facts f scan.noted)
      (λ some. (record { scan = scan; scans = e; of = refl; many = refl }, tt))

  -- ---- a flight

  batch_facts : (f n pages until : ℕ) (batch : List ℕ) → (flusher_of f s).phase ≡ phase.Flying n pages until → (flusher_of f s).batch ≡ batch
      → Along trace (batch_changes cpu f (context_of trace n) batch) s
  batch_facts f n pages until [] e is = tt
  batch_facts f n pages until (page ∷ left) e is =
      (record { pages = pages; flies = record { inode = n; until = until; at = e; home = refl }; batch = is }, tt)

  complete_facts : (f n pages until : ℕ) → (flusher_of f s).phase ≡ phase.Flying n pages until → Along trace (complete_changes trace cpu f n pages s) s
  complete_facts f n pages until e = batch_facts f n pages until (flusher_of f s).batch e refl

module _ (trace : Trace) (cpu : ℕ) where
  share_facts : (domain context pages : ℕ) (s : State) → Along trace (share_changes trace cpu domain context pages s) s
  share_facts domain context pages s =
      let room = may_be_added (fraction_of (part_in domain (writeback_of context s)) (domain_of domain s).events) (max_share trace context) in
      one_of trace (Fact trace) s room _ _
      (λ may. (may, tt)) (λ full. tt)

  group_facts : (group context pages : ℕ) (s : State) → Along trace (group_changes trace cpu group context pages s) s
  group_facts zero context pages s = tt
  group_facts (suc cgroup) context pages s = share_facts (suc cgroup) context pages s

  land_facts : (s : State) (f n pages until : ℕ) → (flusher_of f s).phase ≡ phase.Flying n pages until → Along trace (land_changes trace cpu f n pages s) s
  land_facts s f n pages until e =
      let context = context_of trace n in
      let u = apply trace (change.landed f context pages) s in
      one_of trace (Fact trace) s (eqb (length (flusher_of f s).batch) 0) _ _
      (λ none. (
        record { inode = n; until = until; at = e; home = refl },
        after trace (Fact trace) (share_changes trace cpu 0 context pages u) (group_changes trace cpu (group_of trace context) context pages) u
            (share_facts 0 context pages u) (group_facts (group_of trace context) context pages),
      ))
      (λ some. tt)

  -- ---- a flusher that is idle

  estimate_facts : (context : ℕ) (found : Option Estimate) (s : State) → Along trace (estimated_changes cpu context found) s
  estimate_facts context None s = tt
  estimate_facts context (Some estimate) s = (tt, tt)

  rest_facts : (f until : ℕ) (numbers : List ℕ) (s : State) → Along trace (queue_or_rest cpu f until numbers) s
  rest_facts f until [] s = (tt, tt)
  rest_facts f until (inode ∷ inodes) s = (tt, (tt, tt))

  notice_facts : (f since : ℕ) (numbers : List ℕ) (s : State) → Along trace (notice_changes cpu f since numbers s) s
  notice_facts f since [] s = tt
  notice_facts f since (inode ∷ inodes) s = one_of trace (Fact trace) s (has_inode inode (waiting_of f s).pairs) _ _ (λ is. (tt, tt)) (λ new. (tt, tt))

  notices_facts : (f since : ℕ) (most : ℕ) (s : State) → Along trace (notices trace cpu f since most s) s
  notices_facts f since zero s = tt
  notices_facts f since (suc most) s =
      after trace (Fact trace) (notice_changes cpu f since (queue_of (flusher_device trace f) s) s) (notices trace cpu f since most) s
      (notice_facts f since (queue_of (flusher_device trace f) s) s) (notices_facts f since most)

  aged_facts : (f now : ℕ) (over : Bool) (pairs : List Due) (s : State) → Along trace (aged_changes cpu f now over pairs) s
  aged_facts f now over [] s = (tt, tt)
  aged_facts f now over (pair ∷ pairs) s = one_of trace (Fact trace) s (nat_le pair.due now) _ _
      (λ due. (tt, (tt, tt))) (λ later. one_of trace (Fact trace) s over _ _ (λ is. (tt, (tt, tt))) (λ none. (tt, tt)))

  wheel_facts : (f : ℕ) (turn : ReplayTurn) (wheel : Option Waiting) (s : State) → Along trace (wheel_changes trace cpu f turn wheel s) s
  wheel_facts f turn None s = one_of trace (Fact trace) s turn.over _ _ (λ is. rest_facts f _ (queue_of (flusher_device trace f) s) s) (λ none. (tt, tt))
  wheel_facts f turn (Some w) s =
      let u = apply trace (change.of_flusher f (flusher_change.told turn.began)) s in (
        tt,
        after trace (Fact trace) (notices trace cpu f turn.began MOST_NOTICED u) (waiting_changes cpu f turn.began turn.over) u
            (notices_facts f turn.began MOST_NOTICED u) (λ v. aged_facts f turn.began turn.over (waiting_of f v).pairs v),
      )

  -- ---- each item

  step_facts : (item : Step) (s : State) → Along trace (step_changes trace cpu item s) s
  step_facts step.Dirty s = a_task trace (Fact trace) (dirty_changes trace cpu) (cpu_of cpu s).turn.whose s
      (λ t. write_facts trace cpu s t (task_of t s).works refl)
  step_facts (step.Add x n) s = (tt, (tt, tt))
  step_facts (step.Fold x) s = (tt, (tt, tt))
  step_facts (step.Clear x) s = (tt, (tt, tt))
  step_facts (step.Mark inode) s = mark_facts trace cpu s inode
  step_facts (step.First domain) s = (tt, (tt, tt))
  step_facts (step.Middle domain) s = (tt, tt)
  step_facts (step.Limits domain) s = (tt, (tt, tt))
  step_facts (step.Count x) s = (tt, (tt, tt))
  step_facts step.Unmark s = a_flusher trace (Fact trace) (where_taken (unmark_changes trace cpu)) (cpu_of cpu s).turn.whose s
      (taken trace (Fact trace) (unmark_changes trace cpu) s (λ f n e. (e, (tt, tt))))
  step_facts step.Look s = a_flusher trace (Fact trace) (where_scanning (look_changes cpu)) (cpu_of cpu s).turn.whose s
      (scanning trace (Fact trace) (look_changes cpu) s (look_facts trace cpu s))
  step_facts (step.Claim word) s = a_flusher trace (Fact trace) (where_scanning (claim_changes cpu word)) (cpu_of cpu s).turn.whose s
      (scanning trace (Fact trace) (claim_changes cpu word) s (claim_facts trace cpu s word))
  step_facts step.Complete s = a_flusher trace (Fact trace) (where_flying (complete_changes trace cpu)) (cpu_of cpu s).turn.whose s
      (flying trace (Fact trace) (complete_changes trace cpu) s (complete_facts trace cpu s))

  move_facts : (item : Silent) (s : State) → Along trace (move_changes trace cpu item s) s
  move_facts silent.Decide s = a_task trace (Fact trace) (decide_changes trace cpu) (cpu_of cpu s).turn.whose s (λ t. (tt, tt))
  move_facts silent.End s = a_task trace (Fact trace) (end_changes cpu) (cpu_of cpu s).turn.whose s (end_facts trace cpu s)
  move_facts (silent.Estimate context) s =
      estimate_facts context (update_of (writeback_of context s).estimate (sample_of trace context (cpu_of cpu s).turn s)) s
  move_facts (silent.Weigh context) s = (tt, tt)
  move_facts silent.Test s = a_flusher trace (Fact trace) (test_changes trace cpu (cpu_of cpu s).turn) (cpu_of cpu s).turn.whose s
      (λ f p e. (
        tt,
        wheel_facts f (cpu_of cpu s).turn (flusher_of f s).wheel
            (apply trace (change.of_flusher f (flusher_change.limited (cpu_of cpu s).turn.global.limits.hard)) s),
      ))
  move_facts silent.Close s = a_flusher trace (Fact trace) (where_scanning (close_changes cpu)) (cpu_of cpu s).turn.whose s
      (scanning trace (Fact trace) (close_changes cpu) s (close_facts trace cpu s))
  move_facts silent.HandOver s = a_flusher trace (Fact trace) (where_scanning (hand_over_changes trace cpu)) (cpu_of cpu s).turn.whose s
      (scanning trace (Fact trace) (hand_over_changes trace cpu) s (hand_over_facts trace cpu s))
  move_facts silent.Land s = a_flusher trace (Fact trace) (where_flying (land_changes trace cpu)) (cpu_of cpu s).turn.whose s
      (flying trace (Fact trace) (land_changes trace cpu) s (land_facts s))

pub changes_have_facts : ChangesHaveFacts
changes_have_facts = λ trace. record { steps = step_facts trace; moves = move_facts trace }
