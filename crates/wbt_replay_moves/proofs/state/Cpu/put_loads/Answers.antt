use Rattle.std.proofs.Common.{◌∙◌, sym, arith}
use Rattle.wbt_replay_moves.proofs.Loads.{loads_go, loads_end}
use Rattle.wbt_replay_moves.proofs.state.Cpu.put_loads.Goals as goal

pub loop-domain-preserved : goal.loop-domain-preserved
loop-domain-preserved c =
    loads_go c.args.domains c.loop-domain.domain c.loop-domain-test.true c.loop-domain.self c.put_load.new.self c.in_ok-put_load.ensures
    ∙ c.loop-domain.invariant

pub returns : goal.returns
returns c =
    let past = c.loop-domain-test.false in
    sym (loads_end c.args.domains c.loop-domain.domain c.loop-domain.self (omega arith)) ∙ c.loop-domain.invariant
