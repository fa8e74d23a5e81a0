-- The moves of a turn are the changes that are said of them.
pub mod Choice
pub mod Flusher
pub mod Idle
pub mod Timer
pub mod Turns
pub mod Writer
use Rattle.std.proofs.Common.{refl}
use Rattle.wbt_replay_changes.specs.Laws.{MovesAreChanges}
use Rattle.wbt_replay_changes.proofs.Agrees.Timer.{timer_step_agrees, timer_move_agrees}
use Rattle.wbt_replay_changes.proofs.Agrees.Turns.{turn_agrees, step_agrees, move_agrees}

pub moves_are_changes : MovesAreChanges
moves_are_changes = λ trace. record {
  turns = turn_agrees trace;
  steps = step_agrees trace;
  moves = move_agrees trace;
  timer_turns = λ s. refl;
  timer_steps = timer_step_agrees trace;
  timer_moves = timer_move_agrees trace;
}
