use Rattle.std.proofs.Common.{◌∙◌, sym}
use Rattle.wbt_replay_moves.proofs.Loads.{weighs_go, weighs_end}
use Rattle.wbt_replay_moves.proofs.state.Cpu.put_weighs.Goals as goal

pub loop-context-preserved : goal.loop-context-preserved
loop-context-preserved c =
    weighs_go c.args.weighs.now c.loop-context.context-index c.loop-context-test.true c.loop-context.self c.put_weigh.new.self c.in_ok-put_weigh.ensures
    ∙ c.loop-context.invariant

pub returns : goal.returns
returns c =
    sym (weighs_end c.args.weighs.now c.loop-context.context-index c.loop-context-test.false c.loop-context.self) ∙ c.loop-context.invariant
