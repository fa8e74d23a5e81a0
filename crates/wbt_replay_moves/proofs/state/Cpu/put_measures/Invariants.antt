use Rattle.std.proofs.Common.{◌≡◌, drop}
use Rattle.wbt_replay_moves.specs.Definition.Cpu.{do_last}
use Rattle.wbt_replay_moves.specs.Definition.Idle as spec
use Rattle.wbt_replay_moves.specs.Definition.State.{State}
use Rattle.wbt_replay_moves.proofs.state.Cpu.put_measures.Given as goal

abbrev pub invariant-loop-context : goal.invariant-loop-context
invariant-loop-context l = (s : State) → s.contexts ≡ l.contexts → s.now ≡ l.now
    → do_last (spec.measures_of (drop l.context-index l.measures) s) l.self ≡ do_last (spec.measures_of l.measures s) l.initial.self
