use Rattle.std.proofs.Common.{◌≡◌, ◌-◌}
use Rattle.wbt_replay_moves.specs.Definition.Cpu.{do_last}
use Rattle.wbt_replay_moves.specs.Definition.Idle as spec
use Rattle.wbt_replay_moves.proofs.state.Cpu.put_loads.Given as goal

abbrev pub invariant-loop-domain : goal.invariant-loop-domain
invariant-loop-domain l = do_last (spec.domain_loads (l.domains - l.domain) l.domain) l.self ≡ do_last (spec.domain_loads l.domains 0) l.initial.self
