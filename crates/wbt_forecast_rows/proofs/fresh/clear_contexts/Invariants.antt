use Rattle.std.proofs.Common.{◌≡◌, ◌++◌, map, take, drop}
use Rattle.wbt_forecast_rows.specs.Tally.{no_pages}
use Rattle.wbt_forecast_rows.proofs.fresh.clear_contexts.Given as goal

abbrev pub invariant-loop-context : goal.invariant-loop-context
invariant-loop-context l = take l.context l.tallies ++ map (λ tally. no_pages) (drop l.context l.tallies) ≡ map (λ tally. no_pages) l.initial.tallies
