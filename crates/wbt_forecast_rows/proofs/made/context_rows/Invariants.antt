use Rattle.std.proofs.Common.{◌≡◌, ◌++◌, drop}
use Rattle.wbt_forecast_rows.specs.Tally.{by_number, context_told}
use Rattle.wbt_forecast_rows.proofs.made.context_rows.Given as goal

abbrev pub invariant-loop-context : goal.invariant-loop-context
invariant-loop-context l =
    l.rows ++ by_number (context_told l.contexts) l.context (drop l.context l.tallies) ≡ by_number (context_told l.contexts) 0 l.tallies
