use Rattle.std.proofs.Common.{refl}
use Rattle.wbt_run_worker.proofs.TimerTurns.{goes_by}
use Rattle.wbt_run_worker.proofs.ticking.TimerWorker.turn_and_rest.Goals as goal

pub returns-in-Halted-clause-turn : goal.returns-in-Halted-clause-turn
returns-in-Halted-clause-turn g c = record { answer = _; takes = c.in-Halted.ensures.turn; goes = refl }

pub returns-in-NoMemory-clause-turn : goal.returns-in-NoMemory-clause-turn
returns-in-NoMemory-clause-turn g c = record { answer = _; takes = c.in-NoMemory.ensures.turn; goes = refl }

pub returns-in-Resting-clause-turn : goal.returns-in-Resting-clause-turn
returns-in-Resting-clause-turn g c = record { answer = _; takes = c.in-Resting.ensures.turn; goes = refl }

pub returns-in_default-clause-turn : goal.returns-in_default-clause-turn
returns-in_default-clause-turn g c = record { answer = c.take_turn.result; takes = c.take_turn.ensures.turn; goes = goes_by c.take_turn.result c.in_default.not-NoMemory c.in_default.not-Halted }
