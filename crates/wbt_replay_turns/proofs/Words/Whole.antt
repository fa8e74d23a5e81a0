-- The steps of each CPU and of the timer are those of turns.
use Rattle.wbt_replay_order.proofs.Common.{Trace, StaysInRange}
use Rattle.wbt_replay_turns.specs.Laws.{EndsWell}
use Rattle.wbt_replay_turns.specs.Words.{TakesTurns}
use Rattle.wbt_replay_turns.proofs.Words.Moves.{takes_turns}
use Rattle.wbt_replay_turns.proofs.Words.Timer.{timer_turns}

pub all_take_turns : (trace : Trace) → StaysInRange trace → EndsWell trace → TakesTurns trace
all_take_turns trace stays h = record { cpus = takes_turns trace stays h; timer = timer_turns trace stays h }
