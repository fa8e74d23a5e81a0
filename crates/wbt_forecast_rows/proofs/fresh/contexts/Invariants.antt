use Rattle.std.proofs.Common.{◌≡◌, replicate}
use Rattle.wbt_forecast_rows.specs.Tally.{no_pages}
use Rattle.wbt_forecast_rows.proofs.fresh.contexts.Given as goal

abbrev pub invariant-loop-context : goal.invariant-loop-context
invariant-loop-context l = l.tallies.items ≡ replicate l._context no_pages
