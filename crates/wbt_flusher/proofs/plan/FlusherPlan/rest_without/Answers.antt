use Rattle.std.proofs.Common.{refl}
use Rattle.wbt_flusher.proofs.Giving.{kept_return}
use Rattle.wbt_flusher.proofs.Going.{goes_kept}
use Rattle.wbt_flusher.proofs.plan.FlusherPlan.rest_without.Goals as goal

pub returns-clause-goes : goal.returns-clause-goes
returns-clause-goes c kit seats fits pays told log written =
    goes_kept c.args.self.now kit seats c.args.work.now _ fits
    (kept_return c.args.self.now seats c.args.work.now _ c.args.giving c.args.until c.requires.phase c.requires.returned pays refl c.clear.ensures.items refl refl refl) told log written
