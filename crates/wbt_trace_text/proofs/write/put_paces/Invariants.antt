use Rattle.std.proofs.Common.{◌≡◌, ◌++◌, drop, string_bytes}
use Rattle.wbt_trace_text.specs.Writing.{lines_text, pace_lines}
use Rattle.wbt_trace_text.proofs.write.put_paces.Given as goal

abbrev pub invariant-loop-task : goal.invariant-loop-task
invariant-loop-task l = record {
  text : string_bytes l.text ++ lines_text (pace_lines l.number (drop l.task-index l.tasks)) ≡ string_bytes l.initial.text ++ lines_text (pace_lines 0 l.tasks);
  count : l.number ≡ l.task-index;
}
