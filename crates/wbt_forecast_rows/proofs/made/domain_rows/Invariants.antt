use Rattle.std.proofs.Common.{◌≡◌, ◌++◌, drop}
use Rattle.wbt_forecast_rows.specs.Tally.{by_number, domain_told}
use Rattle.wbt_forecast_rows.proofs.made.domain_rows.Given as goal

abbrev pub invariant-loop-domain : goal.invariant-loop-domain
invariant-loop-domain l =
    l.rows ++ by_number (domain_told l.bases l.domains) l.domain (drop l.domain l.tallies) ≡ by_number (domain_told l.bases l.domains) 0 l.tallies
