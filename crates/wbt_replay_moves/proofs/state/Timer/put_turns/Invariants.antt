use Rattle.std.proofs.Common.{◌≡◌, ◌-◌}
use Rattle.wbt_replay_moves.specs.Definition.Timer as spec
use Rattle.wbt_replay_moves.proofs.Loads.{timer_last}
use Rattle.wbt_replay_moves.proofs.state.Timer.put_turns.Given as goal

abbrev pub invariant-loop-domain : goal.invariant-loop-domain
invariant-loop-domain l = timer_last (spec.domain_turns (l.domains - l.domain) l.domain) l.self ≡ timer_last (spec.domain_turns l.domains 0) l.initial.self
