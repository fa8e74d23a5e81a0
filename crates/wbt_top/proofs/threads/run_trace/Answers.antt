use Rattle.std.proofs.Common.{Err, ap}
use Rattle.wbt_io.specs.Faults.{HasRisen}
use Rattle.wbt_trace_text.specs.Reading.{IsAnswer}
use Rattle.wbt_top_plain.proofs.Each.{end_told, end_failed, is_told, no_fault}
use Rattle.wbt_top.proofs.Served.{served, no_memory_is_served}
use Rattle.wbt_top.proofs.threads.run_trace.Goals as goal

pub returns-in-Err-clause-trace : goal.returns-in-Err-clause-trace
returns-in-Err-clause-trace g c = record {
  first = λ fault is. let both = (c.of_input_end.ensures.bad_trace fault).0 is in (both.0, c.in-Err.ensures.refused fault (ap Err both.1) both.0);
  each = λ calm. end_failed IsAnswer c.text_has_one_answer.ensures.one (g.S.Source.left c.args.source.now) c.in-Err.end c.of_input_end.result (HasRisen (g.S.Source.faults c.args.source.now) (g.S.Source.faults c.read_input.new.source))
      (λ e. c.in-Err.ensures.read_fault (ap Err e)) (λ e. c.in-Err.ensures.too_long (ap Err e)) (λ fault e other. c.in-Err.ensures.refused fault (ap Err e) other)
      c.of_input_end.ensures.memory c.of_input_end.ensures.bad_trace calm;
}

pub returns-in-Ok-clause-trace : goal.returns-in-Ok-clause-trace
returns-in-Ok-clause-trace g c = record {
  first = λ fault is. absurd (c.of_ran.ensures.not_trace fault is);
  each = λ calm. no_fault IsAnswer c.text_has_one_answer.ensures.one (g.S.Source.left c.args.source.now) c.in-Ok.trace _ c.in-Ok.ensures.found.told;
}

pub returns-in-Err-clause-each_run : goal.returns-in-Err-clause-each_run
returns-in-Err-clause-each_run g c = λ calm sunk. end_told IsAnswer c.text_has_one_answer.ensures.one (g.S.Source.left c.args.source.now) c.in-Err.end c.of_input_end.result (HasRisen (g.S.Source.faults c.args.source.now) (g.S.Source.faults c.read_input.new.source))
    (λ e. c.in-Err.ensures.read_fault (ap Err e)) (λ e. c.in-Err.ensures.too_long (ap Err e)) (λ fault e other. c.in-Err.ensures.refused fault (ap Err e) other)
    c.of_input_end.ensures.memory c.of_input_end.ensures.bad_trace calm _ (λ value none. no_memory_is_served c.of_input_end.result none)

pub returns-in-Ok-clause-each_run : goal.returns-in-Ok-clause-each_run
returns-in-Ok-clause-each_run g c = λ calm sunk. is_told IsAnswer c.text_has_one_answer.ensures.one (g.S.Source.left c.args.source.now) c.in-Ok.trace _ c.in-Ok.ensures.found.told
    (served c.write_run.result c.of_ran.result c.of_ran.ensures.good c.of_ran.ensures.disk_fault c.of_ran.ensures.spent c.of_ran.ensures.memory (λ e. sunk (c.write_run.ensures.write_fault e)))
