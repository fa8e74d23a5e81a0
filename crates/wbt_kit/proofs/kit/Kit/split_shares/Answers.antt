use Rattle.wbt_kit.proofs.Undoing.{shares_back}
use Rattle.wbt_kit.proofs.kit.Kit.split_shares.Goals as goal

pub returns-in-Err-clause-refused : goal.returns-in-Err-clause-refused
returns-in-Err-clause-refused g c = (
  shares_back c.args.self.now.shares c.args.share.now c.split.new.seat c.in_ok-one.one c.join.new.into c.requires.share.0 c.requires.share.1 c.requires.share.2
      c.in_ok-one.ensures.old c.in_ok-one.ensures.new c.join.ensures.domains c.join.ensures.totals,
  c.in-Err.ensures.refused.0,
  c.in-Err.ensures.refused.1,
)
