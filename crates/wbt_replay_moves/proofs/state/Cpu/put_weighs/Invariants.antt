use Rattle.std.proofs.Common.{◌≡◌, drop}
use Rattle.wbt_replay_moves.specs.Definition.Cpu.{do_last}
use Rattle.wbt_replay_moves.specs.Definition.Idle as spec
use Rattle.wbt_replay_moves.proofs.state.Cpu.put_weighs.Given as goal

abbrev pub invariant-loop-context : goal.invariant-loop-context
invariant-loop-context l = do_last (spec.weighs_of (drop l.context-index l.weighs)) l.self ≡ do_last (spec.weighs_of l.weighs) l.initial.self
