use Rattle.std.proofs.Common.{ℕ, set, refl, ap, ◌∙◌}
use Rattle.wbt_flusher.proofs.Common.{tallies_of, owing_more}
use Rattle.wbt_flusher.proofs.Batching.{kept_batch}
use Rattle.wbt_flusher.proofs.Going.{goes_kept}
use Rattle.wbt_flusher.proofs.plan.FlusherPlan.owe_batch.Goals as goal

pub returns-clause-goes : goal.returns-clause-goes
returns-clause-goes c kit seats fits told log written =
    goes_kept c.args.self.now kit seats c.args.work.now _ fits
    (kept_batch c.args.self.now c.args.work.now _ c.args.flight c.requires.lists c.requires.there c.owe_more.ensures.only_tallies.faults c.owe_more.ensures.only_tallies.wheel c.requires.phase refl c.requires.landed c.clear.ensures.items
    (c.owe_more.ensures.set ∙ ap (λ (k : ℕ). set c.args.work.now.tallies.items k (owing_more c.args.flight.landed (tallies_of c.args.work.now k))) c.context_of-context.ensures) seats)
    told log written
