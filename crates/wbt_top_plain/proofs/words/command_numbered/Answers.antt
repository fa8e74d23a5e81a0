use Rattle.std.proofs.Common.{◌≡◌, ℕ, Some, sym, ◌∙◌, ap, arith, decimal}
use Rattle.std.proofs.lemmas.Fmt.{decimal_injective}
use Rattle.wbt_top_plain.specs.declared.status.Command.TheVariants.{Bulk, Forecast}
use Rattle.wbt_top_plain.proofs.words.command_numbered.Goals as goal

pub returns-then-is_bulk-clause-bulk : goal.returns-then-is_bulk-clause-bulk
returns-then-is_bulk-clause-bulk c = λ m.
    let found = c.in_ok-n.ensures.found in
    let enough = found.enough in
    let few = found.few in
    let is_bulk = c.is_bulk.ensures.0 c.if-is_bulk.true in (
      (λ is. let same : c.in_ok-n.n ≡ m = cc in
          (is_bulk, found.spelled ∙ ap decimal same, record { enough = omega (arith, same, enough); few = omega (arith, same, few, c.from.ensures) })),
      (λ all. let less = all.2.few in
          ap (λ (k : ℕ). Some (Bulk k)) (decimal_injective c.in_ok-n.n m (omega (arith, few, c.from.ensures)) (omega (arith, less)) (sym found.spelled ∙ all.1))),
    )

pub returns-then-is_forecast-clause-forecast : goal.returns-then-is_forecast-clause-forecast
returns-then-is_forecast-clause-forecast c = λ m.
    let found = c.in_ok-every.ensures.found in
    let enough = found.enough in
    let few = found.few in
    let is_forecast = c.is_forecast.ensures.0 c.if-is_forecast.true in (
      (λ is. let same : c.in_ok-every.every ≡ m = cc in
          (is_forecast, found.spelled ∙ ap decimal same, record { some = omega (arith, same, enough); few = omega (arith, same, few) })),
      (λ all. let less = all.2.few in
          ap (λ (k : ℕ). Some (Forecast k)) (decimal_injective c.in_ok-every.every m (omega (arith, few)) (omega (arith, less)) (sym found.spelled ∙ all.1))),
    )
