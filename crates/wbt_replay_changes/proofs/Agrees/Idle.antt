-- A flusher's turn that is idle.
use Rattle.std.proofs.Common.{ℕ, zero, suc, Bool, nat_le, List, [], ◌∷◌, Option, Some, None, refl}
use Rattle.wbt_estimate.specs.Estimate.{update_of}
use Rattle.wbt_estimate.specs.declared.estimate.Estimate.{Estimate}
use Rattle.wbt_expiry.specs.Waiting.{Waiting, has_inode}
use Rattle.wbt_expiry.specs.declared.due.Due.{Due}
use Rattle.wbt_rules.specs.Things.{flusher_device}
use Rattle.wbt_rules.specs.declared.age.TheConstants.{MOST_NOTICED}
use Rattle.wbt_replay_moves.specs.Definition.Estimates.{sample_of, estimate_to, estimate}
use Rattle.wbt_replay_moves.specs.Definition.Idle.{take_last, take_or_finish, take_or_rest, begin_idle, notice_from, notice_next, notice_all, take_aged, age_so, age, tested, tested_by, test_by, unmark_in, unmark_by}
use Rattle.wbt_replay_moves.specs.declared.state.ReplayTurn.{ReplayTurn}
use Rattle.wbt_replay_moves.specs.declared.state.ReplayPhase.{ReplayPhase}
use Rattle.wbt_replay_moves.specs.declared.state.ReplayPhase.TheVariants as phase
use Rattle.wbt_replay_moves.specs.declared.state.Whose.{Whose}
use Rattle.wbt_replay_moves.specs.declared.state.Whose.TheVariants as whose
use Rattle.wbt_trace.specs.declared.trace.Trace.{Trace}
use Rattle.wbt_replay_moves.specs.Definition.State.{State, cpu_of, flusher_of, queue_of, waiting_of, writeback_of, is_drained}
use Rattle.wbt_replay_changes.specs.Apply.{apply}
use Rattle.wbt_replay_changes.specs.Change.{Change}
use Rattle.wbt_replay_changes.specs.Change as change
use Rattle.wbt_replay_changes.specs.Change.Flusher as flusher_change
use Rattle.wbt_replay_changes.specs.ChangeOf.Idle.{estimated_changes, estimate_changes, queue_or_finish, last_changes, queue_or_rest, idle_changes, notice_changes, notices, aged_changes, waiting_changes, notice_and_take, age_changes, over_changes, wheel_changes, test_changes, unmark_changes}
use Rattle.wbt_replay_changes.specs.ChangeOf.Where.{by_flusher, where_taken}
use Rattle.wbt_replay_changes.proofs.Agrees.Choice.{IsMade, chosen, followed}

module _ (trace : Trace) (cpu : ℕ) where
  estimated_agrees : (context : ℕ) (found : Option Estimate) (s : State) → IsMade trace s (estimated_changes cpu context found) (estimate_to cpu context found s)
  estimated_agrees context None s = refl
  estimated_agrees context (Some estimate) s = refl

  pub estimate_agrees : (context : ℕ) (s : State) → IsMade trace s (estimate_changes trace cpu context s) (estimate trace cpu context s)
  estimate_agrees context s = estimated_agrees context (update_of (writeback_of context s).estimate (sample_of trace context (cpu_of cpu s).turn s)) s

  -- ---- the take of an inode

  finish_agrees : (f : ℕ) (numbers : List ℕ) (s : State) → IsMade trace s (queue_or_finish cpu f numbers) (take_or_finish trace cpu f numbers s)
  finish_agrees f [] s = refl
  finish_agrees f (inode ∷ inodes) s = refl

  last_agrees : (f : ℕ) (pairs : List Due) (s : State) → IsMade trace s (last_changes trace cpu f pairs s) (take_last trace cpu f pairs s)
  last_agrees f [] s = finish_agrees f (queue_of (flusher_device trace f) s) s
  last_agrees f (pair ∷ pairs) s = refl

  rest_agrees : (f until : ℕ) (numbers : List ℕ) (s : State) → IsMade trace s (queue_or_rest cpu f until numbers) (take_or_rest trace cpu f until numbers s)
  rest_agrees f until [] s = refl
  rest_agrees f until (inode ∷ inodes) s = refl

  pub idle_agrees : (f : ℕ) (s : State) → IsMade trace s (idle_changes trace cpu f s) (begin_idle trace cpu f s)
  idle_agrees f s = chosen trace s (is_drained s) _ _ _ _ (last_agrees f (waiting_of f s).pairs s) refl

  -- ---- writeback by age

  notice_agrees : (f since : ℕ) (numbers : List ℕ) (s : State) → IsMade trace s (notice_changes cpu f since numbers s) (notice_from trace cpu f since numbers s)
  notice_agrees f since [] s = refl
  notice_agrees f since (inode ∷ inodes) s = chosen trace s (has_inode inode (waiting_of f s).pairs) _ _ _ _ refl refl

  notices_agree : (f since : ℕ) (most : ℕ) (s : State) → IsMade trace s (notices trace cpu f since most s) (notice_all trace cpu f since most s)
  unfolding notice_all
  notices_agree f since zero s = refl
  notices_agree f since (suc most) s =
      followed trace s (notice_next trace cpu f since s) (notice_changes cpu f since (queue_of (flusher_device trace f) s) s)
      (notices trace cpu f since most) (notice_all trace cpu f since most)
      (notice_agrees f since (queue_of (flusher_device trace f) s) s) (notices_agree f since most)

  aged_agrees : (f now : ℕ) (over : Bool) (pairs : List Due) (s : State) → IsMade trace s (aged_changes cpu f now over pairs) (take_aged cpu f now over pairs s)
  aged_agrees f now over [] s = refl
  aged_agrees f now over (pair ∷ pairs) s =
      chosen trace s (nat_le pair.due now) _ _ _ _ refl (chosen trace s over _ _ _ _ refl refl)

  waiting_agrees : (f now : ℕ) (over : Bool) (s : State) → IsMade trace s (waiting_changes cpu f now over s) (age_so cpu f now over s)
  waiting_agrees f now over s = aged_agrees f now over (waiting_of f s).pairs s

  take_agrees : (f now : ℕ) (over : Bool) (s : State) → IsMade trace s (notice_and_take trace cpu f now over s) (age_so cpu f now over (notice_all trace cpu f now MOST_NOTICED s))
  take_agrees f now over s =
      followed trace s (notice_all trace cpu f now MOST_NOTICED s) (notices trace cpu f now MOST_NOTICED s)
      (waiting_changes cpu f now over) (age_so cpu f now over) (notices_agree f now MOST_NOTICED s) (waiting_agrees f now over)

  age_agrees : (f now : ℕ) (over : Bool) (s : State) → IsMade trace s (age_changes trace cpu f now over s) (age trace cpu f now over s)
  age_agrees f now over s = take_agrees f now over (apply trace (change.of_flusher f (flusher_change.told now)) s)

  -- ---- the test, and the mark

  over_agrees : (f : ℕ) (turn : ReplayTurn) (s : State) → IsMade trace s (over_changes trace cpu f turn s) (tested trace cpu f turn s)
  over_agrees f turn s = chosen trace s turn.over _ _ _ _ (rest_agrees f _ (queue_of (flusher_device trace f) s) s) refl

  wheel_agrees : (f : ℕ) (turn : ReplayTurn) (wheel : Option Waiting) (s : State) → IsMade trace s (wheel_changes trace cpu f turn wheel s) (tested_by trace cpu f turn wheel s)
  wheel_agrees f turn None s = over_agrees f turn s
  wheel_agrees f turn (Some w) s = age_agrees f turn.began turn.over s

  pub test_agrees : (s : State) (turn : ReplayTurn) (w : Whose) → IsMade trace s (by_flusher (test_changes trace cpu turn) w s) (test_by trace cpu turn w s)
  test_agrees s turn (whose.Flusher f) =
      wheel_agrees f turn (flusher_of f s).wheel (apply trace (change.of_flusher f (flusher_change.limited turn.global.limits.hard)) s)
  test_agrees s turn (whose.Task task) = refl

  unmark_in_agrees : (s : State) (f : ℕ) (p : ReplayPhase) → IsMade trace s (where_taken (unmark_changes trace cpu) f p s) (unmark_in trace cpu f p s)
  unmark_in_agrees s f (phase.Taken inode) = refl
  unmark_in_agrees s f (phase.Idle until kept) = refl
  unmark_in_agrees s f (phase.Scanning scan) = refl
  unmark_in_agrees s f (phase.Flying inode pages until) = refl
  unmark_in_agrees s f phase.Finished = refl

  pub unmark_agrees : (s : State) (w : Whose) → IsMade trace s (by_flusher (where_taken (unmark_changes trace cpu)) w s) (unmark_by trace cpu w s)
  unmark_agrees s (whose.Flusher f) = unmark_in_agrees s f (flusher_of f s).phase
  unmark_agrees s (whose.Task task) = refl
