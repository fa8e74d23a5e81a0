use Rattle.std.proofs.Common.{◌≡◌, replicate, pos}
use Rattle.wbt_forecast_rows.proofs.fresh.domains.Given as goal

abbrev pub invariant-loop-domain : goal.invariant-loop-domain
invariant-loop-domain l = l.tallies.items ≡ replicate l._domain (record { count = pos 0; most = 0 })
