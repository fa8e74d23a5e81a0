-- What is written is read again.
use Rattle.std.specs.Prelude.{Ok}
use Rattle.wbt_trace.specs.Lawful.{IsLawful}
use Rattle.wbt_trace_text.specs.Reading.{IsAnswer}
use Rattle.wbt_trace_text.specs.Writing.{trace_text}
use Rattle.wbt_trace.specs.declared.trace.Trace.{Trace}

-- The text of a lawful trace tells that trace.
abbrev pub WrittenIsRead : Type 0
WrittenIsRead = (trace : Trace) → IsLawful trace → IsAnswer (trace_text trace) (Ok trace)
