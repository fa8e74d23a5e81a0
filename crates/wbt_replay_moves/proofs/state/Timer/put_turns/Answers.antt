use Rattle.std.proofs.Common.{◌∙◌, sym, arith}
use Rattle.wbt_replay_moves.proofs.Loads.{turns_go, turns_end}
use Rattle.wbt_replay_moves.proofs.state.Timer.put_turns.Goals as goal

pub loop-domain-preserved : goal.loop-domain-preserved
loop-domain-preserved c =
    turns_go c.args.domains c.loop-domain.domain c.loop-domain-test.true c.loop-domain.self c.put_turn.new.self c.in_ok-put_turn.ensures
    ∙ c.loop-domain.invariant

pub returns : goal.returns
returns c =
    let past = c.loop-domain-test.false in
    sym (turns_end c.args.domains c.loop-domain.domain c.loop-domain.self (omega arith)) ∙ c.loop-domain.invariant
