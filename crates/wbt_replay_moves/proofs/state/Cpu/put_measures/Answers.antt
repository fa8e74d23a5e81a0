use Rattle.std.proofs.Common.{◌∙◌, sym}
use Rattle.wbt_replay_moves.proofs.Loads.{measures_go, measures_end}
use Rattle.wbt_replay_moves.proofs.state.Cpu.put_measures.Goals as goal

pub loop-context-preserved : goal.loop-context-preserved
loop-context-preserved c s contexts now =
    measures_go c.args.measures.now c.loop-context.context-index s c.loop-context-test.true c.loop-context.self c.put_measure.new.self
    (c.in_ok-put_measure.ensures s contexts now)
    ∙ c.loop-context.invariant s contexts now

pub returns : goal.returns
returns c s contexts now =
    sym (measures_end c.args.measures.now c.loop-context.context-index s c.loop-context-test.false c.loop-context.self)
    ∙ c.loop-context.invariant s contexts now
