use Rattle.std.proofs.Common.{◌≡◌, ◌++◌, drop, string_bytes}
use Rattle.wbt_trace_text.specs.Writing.{lines_text, estimate_lines}
use Rattle.wbt_trace_text.proofs.write.put_estimates.Given as goal

abbrev pub invariant-loop-context : goal.invariant-loop-context
invariant-loop-context l = record {
  text : string_bytes l.text ++ lines_text (estimate_lines l.number (drop l.context-index l.contexts)) ≡ string_bytes l.initial.text ++ lines_text (estimate_lines 0 l.contexts);
  count : l.number ≡ l.context-index;
}
