use Rattle.std.proofs.Common.{take}
use Rattle.wbt_replay_order.specs.Kept.Strict.{WithChecks}
use Rattle.wbt_replay.proofs.strict.note_checks.Given as goal

abbrev pub invariant-loop-check : goal.invariant-loop-check
invariant-loop-check l = WithChecks l.trace (take l.check-index l.checks) l.initial.parts l.parts
