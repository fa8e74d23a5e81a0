use Rattle.std.proofs.Common.{◌∙◌, sym, arith}
use Rattle.wbt_replay_moves.proofs.Loads.{periods_go, periods_end}
use Rattle.wbt_replay_moves.proofs.state.Timer.put_periods.Goals as goal

pub loop-domain-preserved : goal.loop-domain-preserved
loop-domain-preserved c =
    periods_go c.args.domains c.loop-domain.domain c.loop-domain-test.true c.loop-domain.self c.do_last.new.self c.in_ok-do_last.ensures
    ∙ c.loop-domain.invariant

pub returns : goal.returns
returns c =
    let past = c.loop-domain-test.false in
    sym (periods_end c.args.domains c.loop-domain.domain c.loop-domain.self (omega arith)) ∙ c.loop-domain.invariant
