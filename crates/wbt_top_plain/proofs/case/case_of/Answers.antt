use Rattle.std.proofs.Common.{◌≡◌, Some, None, Err, ap, subst}
use Rattle.wbt_trace_text.specs.declared.fault.TraceFault.TheVariants.{NoMemory}
use Rattle.wbt_journal_reader.specs.declared.read.JournalFault.TheVariants.{BadLine}
use Rattle.wbt_top_plain.specs.Audit.{Tells, bad_trace}
use Rattle.wbt_top_plain.proofs.Inputs.{answer}
use Rattle.wbt_top_plain.proofs.Told.{has_parts, none_parts, some_parts, seen, trace_of}
use Rattle.wbt_top_plain.proofs.case.case_of.Goals as goal

pub returns-in-Err-clause-bad_trace : goal.returns-in-Err-clause-bad_trace
returns-in-Err-clause-bad_trace c = λ fault is other.
    let same : c.in-Err.fault ≡ fault = cc in
    let told : Tells c.args.text.now (bad_trace c.in-Err.fault) = record {
      front = c.parts_of-parts.result.front.now;
      rest = seen (λ x. x.now) c.parts_of-parts.result.rest;
      parts = has_parts (λ x. x.now) c.args.text.now c.parts_of-parts.result.front.now c.parts_of-parts.result.rest c.parts_of-parts.ensures.without c.parts_of-parts.ensures.with;
      tell = answer c.parts_of-parts.result.front.now c.in-Err.fault (λ memory. let none : fault ≡ NoMemory = cc in other none) c.in-Err.ensures.told;
    } in
    subst (λ f. Tells c.args.text.now (bad_trace f)) same told

pub returns-in-None-clause-bad_journal : goal.returns-in-None-clause-bad_journal
returns-in-None-clause-bad_journal c = λ line is.
    let zero : line ≡ 0 = cc in
    record {
      front = c.parts_of-parts.result.front.now;
      rest = None;
      parts = none_parts c.args.text.now c.parts_of-parts.result.front.now c.parts_of-parts.result.rest c.in-None.is c.parts_of-parts.ensures.without;
      tell = ((c.in-Ok.trace, trace_of c.parts_of-parts.result.front.now c.in-Ok.trace c.in-Ok.ensures.told), zero);
    }

pub returns-in-Err-read_journal-clause-bad_journal : goal.returns-in-Err-read_journal-clause-bad_journal
returns-in-Err-read_journal-clause-bad_journal c = λ line is.
    let same : c.in-Err-read_journal.fault ≡ BadLine line = cc in
    record {
      front = c.parts_of-parts.result.front.now;
      rest = Some c.in-Some.rest.now;
      parts = some_parts (λ x. x.now) c.args.text.now c.parts_of-parts.result.front.now c.parts_of-parts.result.rest c.in-Some.rest c.in-Some.is c.parts_of-parts.ensures.with;
      tell = ((c.in-Ok.trace, trace_of c.parts_of-parts.result.front.now c.in-Ok.trace c.in-Ok.ensures.told), c.in-Err-read_journal.ensures.first line (ap Err same));
    }

pub returns-in-Ok-read_journal-clause-found : goal.returns-in-Ok-read_journal-clause-found
returns-in-Ok-read_journal-clause-found c =
    record {
      front = c.parts_of-parts.result.front.now;
      rest = Some c.in-Some.rest.now;
      parts = some_parts (λ x. x.now) c.args.text.now c.parts_of-parts.result.front.now c.parts_of-parts.result.rest c.in-Some.rest c.in-Some.is c.parts_of-parts.ensures.with;
      tell = (trace_of c.parts_of-parts.result.front.now c.in-Ok.trace c.in-Ok.ensures.told, (c.in-Ok-read_journal.ensures.plain, c.in-Ok-read_journal.ensures.text));
    }
