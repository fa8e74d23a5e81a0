use Rattle.std.proofs.Common.{◌≡◌, ◌++◌, map, take, drop}
use Rattle.wbt_forecast_rows.specs.Tally.{domain_again}
use Rattle.wbt_forecast_rows.proofs.fresh.clear_domains.Given as goal

abbrev pub invariant-loop-domain : goal.invariant-loop-domain
invariant-loop-domain l = take l.domain l.tallies ++ map domain_again (drop l.domain l.tallies) ≡ map domain_again l.initial.tallies
