use Rattle.std.proofs.Common.{◌≡◌, None, sym}
use Rattle.wbt_estimate.specs.Estimate.{update_of}
use Rattle.wbt_flusher.proofs.Measuring.{update_gives, update_some}
use Rattle.wbt_flusher.proofs.estimates.next_estimate.Goals as goal

pub unreachable-requires : goal.unreachable-requires
unreachable-requires c =
    let none : update_of c.args.old c.args.sample.now ≡ None = sym c.in-None.ensures.value in
    let some = update_some c.args.old c.args.sample.now c.requires.age in cc

pub returns-clause-value : goal.returns-clause-value
returns-clause-value c = update_gives c.args.old c.args.sample.now c.in-Some.estimate c.in-Some.ensures.value c.requires.age
