use Rattle.std.proofs.Common.{◌≡◌, ◌+◌, ◌++◌, drop, string_bytes}
use Rattle.wbt_trace_text.specs.Writing.{lines_text, numbered}
use Rattle.wbt_trace_text.proofs.write.put_things.Given as goal

abbrev pub invariant-loop-thing : goal.invariant-loop-thing
invariant-loop-thing g l = record {
  text : string_bytes l.text ++ lines_text (numbered g.T.Listed.line l.number (drop l.thing-index l.things)) ≡ string_bytes l.initial.text ++ lines_text (numbered g.T.Listed.line l.first l.things);
  count : l.number ≡ l.first + l.thing-index;
}
