use Rattle.std.proofs.Common.{◌∙◌, refl, arith}
use Rattle.wbt_forecast_rows.specs.Tally.{no_pages}
use Rattle.wbt_forecast_rows.proofs.Looping.{cleared_next}
use Rattle.wbt_forecast_rows.proofs.fresh.clear_contexts.Goals as goal

pub loop-context-preserved : goal.loop-context-preserved
loop-context-preserved c =
    cleared_next (λ tally. no_pages) c.loop-context.tallies c.loop-context.context no_pages no_pages (omega arith) refl ∙ c.loop-context.invariant
