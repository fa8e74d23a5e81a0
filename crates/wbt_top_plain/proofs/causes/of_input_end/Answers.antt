use Rattle.std.proofs.Common.{◌≡◌, ◌∙◌, ap}
use Rattle.wbt_top_plain.specs.declared.causes.InputEnd.TheVariants.{Refused}
use Rattle.wbt_top_plain.proofs.causes.of_input_end.Goals as goal

pub returns-in-Refused-clause-bad_trace : goal.returns-in-Refused-clause-bad_trace
returns-in-Refused-clause-bad_trace c = λ told. (
  (λ is. let both = (c.of_fault.ensures.bad_trace told).0 is in (both.0, c.in-Refused.is ∙ ap Refused both.1)),
  (λ both. let at : c.args.end ≡ Refused told = both.1 in let same : c.in-Refused.fault ≡ told = cc in (c.of_fault.ensures.bad_trace told).1 (both.0, same)),
)
