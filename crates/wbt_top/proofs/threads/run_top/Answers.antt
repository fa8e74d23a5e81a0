use Rattle.std.proofs.Common.{rules, Some, inl, inr, ap}
use Rattle.wbt_top_plain.specs.Bulk.{IsBulkSize}
use Rattle.wbt_top.proofs.threads.run_top.Goals as goal

pub run_bulk-requires-after_bounds : goal.run_bulk-requires-after_bounds
run_bulk-requires-after_bounds g c =
    let size : IsBulkSize c.in-Some-Bulk.n = ((c.in-Some-Bulk.ensures.bulk c.in-Some-Bulk.n).0 (ap Some c.in-Some-Bulk.field-0-is)).size in search rules

pub returns-in-Some-Run-clause-words : goal.returns-in-Some-Run-clause-words
returns-in-Some-Run-clause-words g c = let run = c.in-Some-Run.ensures.run.0 (ap Some c.in-Some-Run.field-0-is) in record {
  bad_words = ((λ is. absurd (c.run_trace.ensures.words is)), (λ no. absurd (no (inl run))));
  read_fault = λ is. run;
  too_long = λ is. run;
  bad_trace = λ fault is. run;
}

pub returns-in-Some-Bulk-clause-words : goal.returns-in-Some-Bulk-clause-words
returns-in-Some-Bulk-clause-words g c = record {
  bad_words = (
    (λ is. absurd (c.of_ran.ensures.no_other.0 is)),
    (λ no. absurd (no (inr (c.in-Some-Bulk.n, (c.in-Some-Bulk.ensures.bulk c.in-Some-Bulk.n).0 (ap Some c.in-Some-Bulk.field-0-is))))),
  );
  read_fault = λ is. absurd (c.of_ran.ensures.no_other.1 is);
  too_long = λ is. absurd (c.of_ran.ensures.no_other.2 is);
  bad_trace = λ fault is. absurd (c.of_ran.ensures.not_trace fault is);
}
