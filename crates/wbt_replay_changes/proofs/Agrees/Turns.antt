-- Each item of a turn, and what a turn begins with.
use Rattle.std.proofs.Common.{ℕ, refl}
use Rattle.wbt_replay_moves.specs.Definition.Perform.{make_step, make_move, begin_phase, begin_for, begin_turn}
use Rattle.wbt_replay_moves.specs.declared.state.ReplayPhase.{ReplayPhase}
use Rattle.wbt_replay_moves.specs.declared.state.ReplayPhase.TheVariants as phase
use Rattle.wbt_replay_moves.specs.declared.state.Whose.{Whose}
use Rattle.wbt_replay_moves.specs.declared.state.Whose.TheVariants as whose
use Rattle.wbt_replay_moves.specs.declared.todo.Silent.{Silent}
use Rattle.wbt_replay_moves.specs.declared.todo.Silent.TheVariants as silent
use Rattle.wbt_replay_moves.specs.declared.todo.Step.{Step}
use Rattle.wbt_replay_moves.specs.declared.todo.Step.TheVariants as step
use Rattle.wbt_trace.specs.declared.trace.Trace.{Trace}
use Rattle.wbt_replay_moves.specs.Definition.State.{State, cpu_of, flusher_of}
use Rattle.wbt_replay_changes.specs.Apply.{apply}
use Rattle.wbt_replay_changes.specs.Change.{Change}
use Rattle.wbt_replay_changes.specs.Change as change
use Rattle.wbt_replay_changes.specs.Change.Cpu as cpu_change
use Rattle.wbt_replay_changes.specs.ChangeOf.{step_changes, move_changes, phase_changes, whose_changes, turn_changes}
use Rattle.wbt_replay_changes.proofs.Agrees.Choice.{IsMade}
use Rattle.wbt_replay_changes.proofs.Agrees.Flusher.{look_agrees, claim_agrees, close_agrees, hand_over_agrees, complete_agrees, land_agrees}
use Rattle.wbt_replay_changes.proofs.Agrees.Idle.{estimate_agrees, idle_agrees, test_agrees, unmark_agrees}
use Rattle.wbt_replay_changes.proofs.Agrees.Writer.{task_agrees, dirty_agrees, mark_agrees, decide_agrees, end_agrees}

module _ (trace : Trace) (cpu : ℕ) where
  phase_agrees : (f : ℕ) (p : ReplayPhase) (s : State) → IsMade trace s (phase_changes trace cpu f p s) (begin_phase trace cpu f p s)
  phase_agrees f (phase.Idle until kept) s = idle_agrees trace cpu f s
  phase_agrees f (phase.Taken inode) s = refl
  phase_agrees f (phase.Scanning scan) s = refl
  phase_agrees f (phase.Flying inode pages until) s = refl
  phase_agrees f phase.Finished s = refl

  pub whose_agrees : (w : Whose) (s : State) → IsMade trace s (whose_changes trace cpu w s) (begin_for trace cpu w s)
  whose_agrees (whose.Task task) s = task_agrees trace cpu s task
  whose_agrees (whose.Flusher f) s = phase_agrees f (flusher_of f s).phase s

  pub turn_agrees : (w : Whose) (s : State) → IsMade trace s (turn_changes trace cpu w s) (begin_turn trace cpu w s)
  turn_agrees w s = whose_agrees w (apply trace (change.of_cpu cpu (cpu_change.began w)) s)

  pub step_agrees : (item : Step) (s : State) → IsMade trace s (step_changes trace cpu item s) (make_step trace cpu item s)
  unfolding make_step
  step_agrees step.Dirty s = dirty_agrees trace cpu s (cpu_of cpu s).turn.whose
  step_agrees (step.Add x n) s = refl
  step_agrees (step.Fold x) s = refl
  step_agrees (step.Clear x) s = refl
  step_agrees (step.Mark inode) s = mark_agrees trace cpu s inode
  step_agrees (step.First domain) s = refl
  step_agrees (step.Middle domain) s = refl
  step_agrees (step.Limits domain) s = refl
  step_agrees (step.Count x) s = refl
  step_agrees step.Unmark s = unmark_agrees trace cpu s (cpu_of cpu s).turn.whose
  step_agrees step.Look s = look_agrees trace cpu s (cpu_of cpu s).turn.whose
  step_agrees (step.Claim word) s = claim_agrees trace cpu s word (cpu_of cpu s).turn.whose
  step_agrees step.Complete s = complete_agrees trace cpu s (cpu_of cpu s).turn.whose

  pub move_agrees : (item : Silent) (s : State) → IsMade trace s (move_changes trace cpu item s) (make_move trace cpu item s)
  unfolding make_move
  move_agrees silent.Decide s = decide_agrees trace cpu s (cpu_of cpu s).turn.whose
  move_agrees silent.End s = end_agrees trace cpu s (cpu_of cpu s).turn.whose
  move_agrees (silent.Estimate context) s = estimate_agrees trace cpu context s
  move_agrees (silent.Weigh context) s = refl
  move_agrees silent.Test s = test_agrees trace cpu s (cpu_of cpu s).turn (cpu_of cpu s).turn.whose
  move_agrees silent.Close s = close_agrees trace cpu s (cpu_of cpu s).turn.whose
  move_agrees silent.HandOver s = hand_over_agrees trace cpu s (cpu_of cpu s).turn.whose
  move_agrees silent.Land s = land_agrees trace cpu s (cpu_of cpu s).turn.whose
