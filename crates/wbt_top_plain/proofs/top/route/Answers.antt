use Rattle.std.proofs.Common.{Some, inl, inr, refl, ap}
use Rattle.wbt_top_plain.proofs.top.route.Goals as goal

pub returns-in-Some-Run-clause-threads : goal.returns-in-Some-Run-clause-threads
returns-in-Some-Run-clause-threads c = ((λ _. inl (c.in-Some-Run.ensures.run.0 (ap Some c.in-Some-Run.field-0-is))), (λ _. refl))

pub returns-in-Some-Bulk-clause-threads : goal.returns-in-Some-Bulk-clause-threads
returns-in-Some-Bulk-clause-threads c = ((λ _. inr (c.in-Some-Bulk.field-0-0, (c.in-Some-Bulk.ensures.bulk c.in-Some-Bulk.field-0-0).0 (ap Some c.in-Some-Bulk.field-0-is))), (λ _. refl))

pub returns-in-Some-Forecast-clause-plain : goal.returns-in-Some-Forecast-clause-plain
returns-in-Some-Forecast-clause-plain c =
    ((λ _. inl (inr (inr (c.in-Some-Forecast.field-0-0, (c.in-Some-Forecast.ensures.forecast c.in-Some-Forecast.field-0-0).0 (ap Some c.in-Some-Forecast.field-0-is))))), (λ _. refl))
