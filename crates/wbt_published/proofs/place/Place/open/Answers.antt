use Rattle.std.proofs.Common.{rules, sym, ap, subst}
use Rattle.wbt_estimate.specs.Estimate.{IsSound}
use Rattle.wbt_published.specs.declared.known.Known.{Known}
use Rattle.wbt_published.specs.Publishing.{IsComplete}
use Rattle.wbt_published.proofs.Moves.{opens, opens_complete}
use Rattle.wbt_published.proofs.place.Place.open.Goals as goal

pub ruled-requires : goal.ruled-requires
ruled-requires c = let first = c.first_estimate-estimate.ensures in (search rules, (search rules, opens _ first.value first.sound))

pub invariant_of-result : goal.invariant_of-result
invariant_of-result c = let first = c.first_estimate-estimate.ensures in let is = c.in_ok-cell.ensures.1 in (ap (λ (k : Known). k.publishes) (sym is), λ _. subst IsComplete (sym is) (opens_complete (subst IsSound first.value first.sound)))
