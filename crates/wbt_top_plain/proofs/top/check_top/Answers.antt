use Rattle.std.proofs.Common.{rules, Err, inr, ap}
use Rattle.wbt_io.specs.Faults.{HasRisen}
use Rattle.wbt_trace_text.specs.Reading.{IsAnswer}
use Rattle.wbt_top_plain.proofs.Each.{end_told, end_failed, is_told, no_fault, done}
use Rattle.wbt_top_plain.proofs.top.check_top.Goals as goal

pub returns-in-Err-clause-trace : goal.returns-in-Err-clause-trace
returns-in-Err-clause-trace g c = record {
  first = λ fault is. let both = (c.of_input_end.ensures.bad_trace fault).0 is in (both.0, c.in-Err.ensures.refused fault (ap Err both.1) both.0);
  each = λ calm. end_failed IsAnswer c.text_has_one_answer.ensures.one (g.S.Source.left c.args.source.now) c.in-Err.end c.of_input_end.result (HasRisen (g.S.Source.faults c.args.source.now) (g.S.Source.faults c.read_input.new.source))
      (λ e. c.in-Err.ensures.read_fault (ap Err e)) (λ e. c.in-Err.ensures.too_long (ap Err e)) (λ fault e other. c.in-Err.ensures.refused fault (ap Err e) other)
      c.of_input_end.ensures.memory c.of_input_end.ensures.bad_trace calm;
}

pub returns-in-Ok-clause-trace : goal.returns-in-Ok-clause-trace
returns-in-Ok-clause-trace g c = record {
  first = λ fault is. absurd (c.of_output.ensures.not_trace fault is);
  each = λ calm. no_fault IsAnswer c.text_has_one_answer.ensures.one (g.S.Source.left c.args.source.now) c.in-Ok.trace _ c.in-Ok.ensures.found.told;
}

pub returns-in-Err-clause-check : goal.returns-in-Err-clause-check
returns-in-Err-clause-check g c = record {
  good = λ is. absurd (c.of_input_end.ensures.no_other.0 is);
  part = λ is. absurd (c.of_input_end.ensures.no_other.2 is);
  each = λ calm sunk. end_told IsAnswer c.text_has_one_answer.ensures.one (g.S.Source.left c.args.source.now) c.in-Err.end c.of_input_end.result (HasRisen (g.S.Source.faults c.args.source.now) (g.S.Source.faults c.read_input.new.source))
      (λ e. c.in-Err.ensures.read_fault (ap Err e)) (λ e. c.in-Err.ensures.too_long (ap Err e)) (λ fault e other. c.in-Err.ensures.refused fault (ap Err e) other)
      c.of_input_end.ensures.memory c.of_input_end.ensures.bad_trace calm _ (λ value none. inr none);
}

pub returns-in-Ok-clause-check : goal.returns-in-Ok-clause-check
returns-in-Ok-clause-check g c = record {
  good = search rules;
  part = search rules;
  each = λ calm sunk. is_told IsAnswer c.text_has_one_answer.ensures.one (g.S.Source.left c.args.source.now) c.in-Ok.trace _ c.in-Ok.ensures.found.told
      (done c.write_check.result c.of_output.result c.of_output.ensures.memory c.of_output.ensures.good
      (λ e. sunk (c.write_check.ensures.write_fault e)) (λ e. c.write_check.ensures.ends e));
}
