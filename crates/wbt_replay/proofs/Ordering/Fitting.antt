-- What a sound state gives each move.
pub use Rattle.wbt_replay.proofs.Ordering.BeginFits.{seeks, turned_to, Begins, begin_fits}
pub use Rattle.wbt_replay.proofs.Ordering.MoveFits.{move_fits}
pub use Rattle.wbt_replay.proofs.Ordering.StepFits.{step_fits}
pub use Rattle.wbt_replay.proofs.Ordering.TimerFits.{timer_step_fits, timer_move_fits}
