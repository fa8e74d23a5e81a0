use Rattle.std.proofs.Common.{◌≡◌, ◌++◌, drop, string_bytes}
use Rattle.wbt_trace_text.specs.Writing.{lines_text, cyclic_lines}
use Rattle.wbt_trace_text.proofs.write.put_cyclics.Given as goal

abbrev pub invariant-loop-device : goal.invariant-loop-device
invariant-loop-device l = record {
  text : string_bytes l.text ++ lines_text (cyclic_lines l.number (drop l.device-index l.devices)) ≡ string_bytes l.initial.text ++ lines_text (cyclic_lines 0 l.devices);
  count : l.number ≡ l.device-index;
}
