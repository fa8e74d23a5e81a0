use Rattle.std.proofs.Common.{◌≡◌, ◌-◌, length, drop}
use Rattle.wbt_replay_moves.specs.Definition.Cpu as spec
use Rattle.wbt_replay_moves.proofs.state.Cpu.do_next.Given as goal

abbrev pub invariant-loop-done : goal.invariant-loop-done
invariant-loop-done l = (l.count ≡ length l.items) × (l.self ≡ spec.do_next (drop (l.count - l.done) l.items) l.initial.self)
