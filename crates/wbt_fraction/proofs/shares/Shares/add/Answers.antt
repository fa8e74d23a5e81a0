use Rattle.wbt_fraction.specs.Several.{Shared}
use Rattle.wbt_fraction.proofs.Fitting.{share_there}
use Rattle.wbt_fraction.proofs.shares.Shares.add.Goals as goal

pub add-requires-clause-part : goal.add-requires-clause-part
add-requires-clause-part c =
    let inside : Shared = record { domains = c.self.inside.domains; totals = c.self.inside.totals; homes = c.self.inside.homes.items } in
    share_there inside c.args.self.now c.self.view_is c.self.invariant.0 c.args.domain c.args.wb c.requires.domain c.requires.share.0
