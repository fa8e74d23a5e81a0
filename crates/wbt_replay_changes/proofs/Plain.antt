-- The changes of a CPU's turn are plain, but those of a write, a check and an estimate; and only those of a step make one.
use Rattle.std.proofs.Common.{◌≡◌, ℕ, zero, suc, Bool, true, eqb, nat_le, List, [], ◌∷◌, length, get_or, Option, Some, None, refl}
use Rattle.wbt_trace.specs.declared.trace.Trace.{Trace}
use Rattle.wbt_book.specs.Book.{is_claimable}
use Rattle.wbt_book.specs.PageWords.{shared_word}
use Rattle.wbt_expiry.specs.Waiting.{Waiting, has_inode}
use Rattle.wbt_expiry.specs.declared.due.Due.{Due as Pair}
use Rattle.wbt_flex.specs.Proportions.{fraction_of, may_be_added}
use Rattle.wbt_rules.specs.Places.{page_of}
use Rattle.wbt_rules.specs.Things.{context_of, flusher_device, group_of, max_share}
use Rattle.wbt_rules.specs.declared.age.TheConstants.{MOST_NOTICED}
use Rattle.wbt_rules.specs.declared.scan.Scan.{Scan}
use Rattle.wbt_task.specs.declared.allowance.Due.{Due}
use Rattle.wbt_task.specs.declared.allowance.Due.TheVariants as due
use Rattle.wbt_replay_moves.specs.Definition.Check.{writer_of}
use Rattle.wbt_replay_moves.specs.Definition.Flight.{part_in}
use Rattle.wbt_replay_moves.specs.Definition.Scan.{is_scan_over}
use Rattle.wbt_replay_moves.specs.Definition.State.{State, cpu_of, task_of, flusher_of, queue_of, waiting_of, domain_of, writeback_of, is_drained}
use Rattle.wbt_replay_moves.specs.Definition.Writer.{pause_in, has_nothing}
use Rattle.wbt_replay_moves.specs.declared.state.ReplayPhase.{ReplayPhase}
use Rattle.wbt_replay_moves.specs.declared.state.ReplayPhase.TheVariants as phase
use Rattle.wbt_replay_moves.specs.declared.state.ReplayTurn.{ReplayTurn}
use Rattle.wbt_replay_moves.specs.declared.state.ReplayWork.{ReplayWork}
use Rattle.wbt_replay_moves.specs.declared.state.ReplayWork.TheVariants as work
use Rattle.wbt_replay_moves.specs.declared.state.Whose.{Whose}
use Rattle.wbt_replay_moves.specs.declared.state.Whose.TheVariants as whose
use Rattle.wbt_replay_moves.specs.declared.todo.Silent.{Silent}
use Rattle.wbt_replay_moves.specs.declared.todo.Silent.TheVariants as silent
use Rattle.wbt_replay_moves.specs.declared.todo.Step.{Step}
use Rattle.wbt_replay_moves.specs.declared.todo.Step.TheVariants as step
use Rattle.wbt_replay_changes.specs.Apply.{apply}
use Rattle.wbt_replay_changes.specs.Change.{Change}
use Rattle.wbt_replay_changes.specs.Change as change
use Rattle.wbt_replay_changes.specs.Change.Cpu as cpu_change
use Rattle.wbt_replay_changes.specs.Change.Flusher as flusher_change
use Rattle.wbt_replay_changes.specs.ChangeOf.{step_changes, move_changes, phase_changes, whose_changes, turn_changes}
use Rattle.wbt_replay_changes.specs.ChangeOf.Flusher.{look_changes, claim_changes, close_changes, hand_over_changes, batch_changes, complete_changes, share_changes, group_changes, land_changes}
use Rattle.wbt_replay_changes.specs.ChangeOf.Idle.{queue_or_finish, last_changes, queue_or_rest, idle_changes, notice_changes, notices, aged_changes, waiting_changes, wheel_changes, test_changes, unmark_changes}
use Rattle.wbt_replay_changes.specs.ChangeOf.Where.{where_taken, where_scanning, where_flying}
use Rattle.wbt_replay_changes.specs.ChangeOf.Writer.{page_changes, work_changes, due_changes, mark_changes, end_changes}
use Rattle.wbt_replay_changes.specs.Facts.{Each}
use Rattle.wbt_replay_changes.specs.Laws.{OthersArePlain}
use Rattle.wbt_replay_changes.specs.Plain.{IsPlain, IsUncounted, IsSilent, IsPlainStep, IsUncountedStep, IsPlainMove}
use Rattle.wbt_replay_changes.proofs.Each.{one_of, after, a_task, a_flusher, taken, scanning, flying, weaker}

-- a silent change changes no count, and one that changes none is plain
pub uncounted : (one : Change) (s : State) → IsSilent one s → IsUncounted one s
uncounted (change.stepped who kind) s h = absurd h
uncounted other s h = h

pub plain : (one : Change) (s : State) → IsUncounted one s → IsPlain one s
plain (change.completed cpu flusher context page left) s h = absurd h
plain other s h = h

module _ (trace : Trace) (cpu : ℕ) where
  -- these changes are plain, each where it is made; they change no count, or are silent
  abbrev Plain : (changes : List Change) (s : State) → Type 0
  Plain changes s = Each trace IsPlain changes s

  abbrev Uncounted : (changes : List Change) (s : State) → Type 0
  Uncounted changes s = Each trace IsUncounted changes s

  abbrev Silently : (changes : List Change) (s : State) → Type 0
  Silently changes s = Each trace IsSilent changes s

  -- ---- a task

  page_silent : (task : ℕ) (pause : Option ℕ) (s : State) → Silently (page_changes cpu task pause s) s
  page_silent task None s = (tt, tt)
  page_silent task (Some ticks) s = (tt, (tt, tt))

  work_silent : (task : ℕ) (works : List ReplayWork) (s : State) → (task_of task s).works ≡ works → Silently (work_changes cpu task works s) s
  work_silent task [] s e = (tt, tt)
  work_silent task (work.Rest ticks ∷ works) s e = (record { ticks = ticks; works = e }, (tt, tt))
  work_silent task (work.Write inode page pages ∷ works) s e = page_silent task (pause_in (task_of task s)) s

  due_silent : (task : ℕ) (d : Due) (s : State) → Silently (due_changes trace cpu task d s) s
  due_silent task due.Check s = (tt, tt)
  due_silent task due.No s = work_silent task (task_of task s).works s refl

  end_silent : (s : State) (task : ℕ) → Silently (end_changes cpu task s) s
  end_silent s task = one_of trace IsSilent s (has_nothing (task_of task s).works (writer_of (task_of task s)).due) _ _ (λ ends. (tt, tt)) (λ more. tt)

  mark_uncounted : (inode : ℕ) (s : State) → Uncounted (mark_changes cpu inode s) s
  mark_uncounted inode s = one_of trace IsUncounted s (get_or s.marks inode true) _ _ (λ is. (tt, tt)) (λ clear. (tt, (tt, tt)))

  -- ---- a scan

  look_uncounted : (s : State) (f : ℕ) (scan : Scan) → Uncounted (look_changes cpu f scan s) s
  look_uncounted s f scan = one_of trace IsUncounted s (is_claimable (s.book (page_of scan))) _ _ (λ is. (tt, (tt, tt))) (λ not. (tt, (tt, (tt, tt))))

  claim_uncounted : (word : ℕ) (s : State) (f : ℕ) (scan : Scan) → Uncounted (claim_changes cpu word f scan s) s
  claim_uncounted word s f scan =
      one_of trace IsUncounted s (eqb (shared_word s.book (page_of scan)) word) _ _ (λ is. (tt, (tt, (tt, tt)))) (λ not. (tt, tt))

  close_silent : (s : State) (f : ℕ) (scan : Scan) → Silently (close_changes cpu f scan s) s
  close_silent s f scan = one_of trace IsSilent s (is_scan_over scan (length (flusher_of f s).batch)) _ _ (λ is. (tt, (tt, tt))) (λ not. tt)

  hand_over_silent : (s : State) (f : ℕ) (scan : Scan) → Silently (hand_over_changes trace cpu f scan s) s
  hand_over_silent s f scan = one_of trace IsSilent s (eqb (length (flusher_of f s).batch) 0) _ _ (λ none. (tt, tt)) (λ some. (tt, tt))

  -- ---- a flight

  batch_plain : (f context : ℕ) (batch : List ℕ) (s : State) → Plain (batch_changes cpu f context batch) s
  batch_plain f context [] s = tt
  batch_plain f context (page ∷ left) s = (tt, tt)

  share_silent : (domain context pages : ℕ) (s u : State) → Silently (share_changes trace cpu domain context pages s) u
  share_silent domain context pages s u =
      one_of trace IsSilent u (may_be_added (fraction_of (part_in domain (writeback_of context s)) (domain_of domain s).events) (max_share trace context)) _ _
      (λ may. (tt, tt)) (λ full. tt)

  group_silent : (group context pages : ℕ) (s : State) → Silently (group_changes trace cpu group context pages s) s
  group_silent zero context pages s = tt
  group_silent (suc cgroup) context pages s = share_silent (suc cgroup) context pages s s

  land_silent : (s : State) (f inode pages : ℕ) → Silently (land_changes trace cpu f inode pages s) s
  land_silent s f inode pages =
      let context = context_of trace inode in
      let u = apply trace (change.landed f context pages) s in
      one_of trace IsSilent s (eqb (length (flusher_of f s).batch) 0) _ _
      (λ none. (
        tt,
        after trace IsSilent (share_changes trace cpu 0 context pages u) (group_changes trace cpu (group_of trace context) context pages) u
            (share_silent 0 context pages u u) (group_silent (group_of trace context) context pages),
      ))
      (λ some. tt)

  -- ---- a flusher that is idle

  finish_silent : (f : ℕ) (numbers : List ℕ) (s : State) → Silently (queue_or_finish cpu f numbers) s
  finish_silent f [] s = (tt, tt)
  finish_silent f (inode ∷ inodes) s = (tt, (tt, tt))

  rest_silent : (f until : ℕ) (numbers : List ℕ) (s : State) → Silently (queue_or_rest cpu f until numbers) s
  rest_silent f until [] s = (tt, tt)
  rest_silent f until (inode ∷ inodes) s = (tt, (tt, tt))

  last_silent : (f : ℕ) (pairs : List Pair) (s : State) → Silently (last_changes trace cpu f pairs s) s
  last_silent f [] s = finish_silent f (queue_of (flusher_device trace f) s) s
  last_silent f (pair ∷ pairs) s = (tt, (tt, tt))

  idle_silent : (f : ℕ) (s : State) → Silently (idle_changes trace cpu f s) s
  idle_silent f s = one_of trace IsSilent s (is_drained s) _ _ (λ is. last_silent f (waiting_of f s).pairs s) (λ not. (tt, (tt, (tt, (tt, tt)))))

  notice_silent : (f since : ℕ) (numbers : List ℕ) (s : State) → Silently (notice_changes cpu f since numbers s) s
  notice_silent f since [] s = tt
  notice_silent f since (inode ∷ inodes) s = one_of trace IsSilent s (has_inode inode (waiting_of f s).pairs) _ _ (λ is. (tt, tt)) (λ new. (tt, tt))

  notices_silent : (f since : ℕ) (most : ℕ) (s : State) → Silently (notices trace cpu f since most s) s
  notices_silent f since zero s = tt
  notices_silent f since (suc most) s =
      after trace IsSilent (notice_changes cpu f since (queue_of (flusher_device trace f) s) s) (notices trace cpu f since most) s
      (notice_silent f since (queue_of (flusher_device trace f) s) s) (notices_silent f since most)

  aged_silent : (f now : ℕ) (over : Bool) (pairs : List Pair) (s : State) → Silently (aged_changes cpu f now over pairs) s
  aged_silent f now over [] s = (tt, tt)
  aged_silent f now over (pair ∷ pairs) s = one_of trace IsSilent s (nat_le pair.due now) _ _
      (λ due. (tt, (tt, tt))) (λ later. one_of trace IsSilent s over _ _ (λ is. (tt, (tt, tt))) (λ none. (tt, tt)))

  wheel_silent : (f : ℕ) (turn : ReplayTurn) (wheel : Option Waiting) (s : State) → Silently (wheel_changes trace cpu f turn wheel s) s
  wheel_silent f turn None s = one_of trace IsSilent s turn.over _ _ (λ is. rest_silent f _ (queue_of (flusher_device trace f) s) s) (λ none. (tt, tt))
  wheel_silent f turn (Some w) s =
      let u = apply trace (change.of_flusher f (flusher_change.told turn.began)) s in (
        tt,
        after trace IsSilent (notices trace cpu f turn.began MOST_NOTICED u) (waiting_changes cpu f turn.began turn.over) u
            (notices_silent f turn.began MOST_NOTICED u) (λ v. aged_silent f turn.began turn.over (waiting_of f v).pairs v),
      )

  -- ---- the beginning of a turn

  phase_silent : (f : ℕ) (p : ReplayPhase) (s : State) → Silently (phase_changes trace cpu f p s) s
  phase_silent f (phase.Idle until kept) s = idle_silent f s
  phase_silent f (phase.Taken inode) s = (tt, tt)
  phase_silent f (phase.Scanning scan) s = (tt, tt)
  phase_silent f (phase.Flying inode pages until) s = (tt, tt)
  phase_silent f phase.Finished s = tt

  pub whose_silent : (w : Whose) (s : State) → Silently (whose_changes trace cpu w s) s
  whose_silent (whose.Task task) s = due_silent task (writer_of (task_of task s)).due s
  whose_silent (whose.Flusher f) s = phase_silent f (flusher_of f s).phase s

  turn_silent : (w : Whose) (s : State) → Silently (turn_changes trace cpu w s) s
  turn_silent w s = (tt, whose_silent w (apply trace (change.of_cpu cpu (cpu_change.began w)) s))

  -- ---- each item

  step_uncounted : (item : Step) (s : State) → IsUncountedStep item → Uncounted (step_changes trace cpu item s) s
  step_uncounted step.Dirty s other = absurd other
  step_uncounted (step.Add x n) s other = (tt, (tt, tt))
  step_uncounted (step.Fold x) s other = (tt, (tt, tt))
  step_uncounted (step.Clear x) s other = (tt, (tt, tt))
  step_uncounted (step.Mark inode) s other = mark_uncounted inode s
  step_uncounted (step.First domain) s other = (tt, (tt, tt))
  step_uncounted (step.Middle domain) s other = (tt, tt)
  step_uncounted (step.Limits domain) s other = (tt, (tt, tt))
  step_uncounted (step.Count x) s other = (tt, (tt, tt))
  step_uncounted step.Unmark s other = a_flusher trace IsUncounted (where_taken (unmark_changes trace cpu)) (cpu_of cpu s).turn.whose s
      (taken trace IsUncounted (unmark_changes trace cpu) s (λ f n e. (tt, (tt, tt))))
  step_uncounted step.Look s other = a_flusher trace IsUncounted (where_scanning (look_changes cpu)) (cpu_of cpu s).turn.whose s
      (scanning trace IsUncounted (look_changes cpu) s (λ f scan e. look_uncounted s f scan))
  step_uncounted (step.Claim word) s other = a_flusher trace IsUncounted (where_scanning (claim_changes cpu word)) (cpu_of cpu s).turn.whose s
      (scanning trace IsUncounted (claim_changes cpu word) s (λ f scan e. claim_uncounted word s f scan))
  step_uncounted step.Complete s other = absurd other

  step_plain : (item : Step) (s : State) → IsPlainStep item → Plain (step_changes trace cpu item s) s
  step_plain step.Dirty s other = absurd other
  step_plain step.Complete s other = a_flusher trace IsPlain (where_flying (complete_changes trace cpu)) (cpu_of cpu s).turn.whose s
      (flying trace IsPlain (complete_changes trace cpu) s (λ f n pages until e. batch_plain f (context_of trace n) (flusher_of f s).batch s))
  step_plain item s other = weaker trace IsUncounted IsPlain plain (step_changes trace cpu item s) s (step_uncounted item s tt)

  move_silent : (item : Silent) (s : State) → IsPlainMove item → Silently (move_changes trace cpu item s) s
  move_silent silent.Decide s other = absurd other
  move_silent (silent.Estimate context) s other = absurd other
  move_silent silent.End s other = a_task trace IsSilent (end_changes cpu) (cpu_of cpu s).turn.whose s (end_silent s)
  move_silent (silent.Weigh context) s other = (tt, tt)
  move_silent silent.Test s other = a_flusher trace IsSilent (test_changes trace cpu (cpu_of cpu s).turn) (cpu_of cpu s).turn.whose s
      (λ f p e. (
        tt,
        wheel_silent f (cpu_of cpu s).turn (flusher_of f s).wheel
            (apply trace (change.of_flusher f (flusher_change.limited (cpu_of cpu s).turn.global.limits.hard)) s),
      ))
  move_silent silent.Close s other = a_flusher trace IsSilent (where_scanning (close_changes cpu)) (cpu_of cpu s).turn.whose s
      (scanning trace IsSilent (close_changes cpu) s (λ f scan e. close_silent s f scan))
  move_silent silent.HandOver s other = a_flusher trace IsSilent (where_scanning (hand_over_changes trace cpu)) (cpu_of cpu s).turn.whose s
      (scanning trace IsSilent (hand_over_changes trace cpu) s (λ f scan e. hand_over_silent s f scan))
  move_silent silent.Land s other = a_flusher trace IsSilent (where_flying (land_changes trace cpu)) (cpu_of cpu s).turn.whose s
      (flying trace IsSilent (land_changes trace cpu) s (λ f n pages until e. land_silent s f n pages))

pub others_are_plain : OthersArePlain
others_are_plain = λ trace. record { turns = turn_silent trace; steps = step_plain trace; uncounted = step_uncounted trace; moves = move_silent trace }
