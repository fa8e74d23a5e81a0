use Rattle.std.proofs.Common.{refl}
use Rattle.wbt_flusher.proofs.Going.{goes_kept}
use Rattle.wbt_flusher.proofs.Keeping.{kept_idle}
use Rattle.wbt_flusher.proofs.plan.FlusherPlan.be_idle.Goals as goal

pub returns-clause-goes : goal.returns-clause-goes
returns-clause-goes c kit seats fits bare told log written =
    goes_kept c.args.self.now kit seats c.args.work.now _ fits (kept_idle c.args.self.now seats c.args.work.now _ c.args.until c.args.kept bare refl refl refl refl refl) told log written
