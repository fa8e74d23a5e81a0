use Rattle.std.proofs.Common.{◌≡◌, ℕ, List, Ok, sym, subst, rules}
use Rattle.wbt_trace_text.specs.Reading.{IsAnswer}
use Rattle.wbt_trace_text.specs.Writing.{trace_text}
use Rattle.wbt_trace_text.proofs.RoundTrips.{written_read}
use Rattle.wbt_trace_text.proofs.write.write_trace.Goals as goal

pub returns-in-Ok-clause-again : goal.returns-in-Ok-clause-again
returns-in-Ok-clause-again c =
    let trace = c.args.trace.now in
    let is : c.into_bytes.result.items ≡ trace_text trace = search rules in
    subst (λ (text : List ℕ). IsAnswer text (Ok trace)) (sym is) (written_read trace c.requires)
