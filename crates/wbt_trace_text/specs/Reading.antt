-- What a text tells: a trace, or its first fault.
use Rattle.std.specs.Prelude.{ℕ, Bool, true, ◌&&◌, if◌then◌else◌, ◌==◌, suc, zero, List, length, Option, Some, None, is_none, Result, Ok, Err}
use Rattle.wbt_text.specs.Reading.{Format, HasAnswer, Tells as told}
use Rattle.wbt_trace_text.specs.Accept.{accept}
use Rattle.wbt_trace_text.specs.Lines.{IsLine}
use Rattle.wbt_trace.specs.Lawful.{has_flusher}
use Rattle.wbt_trace.specs.Sofar.{Sofar, start, trace_so_far}
use Rattle.wbt_trace_text.specs.declared.fault.Missing.{Missing}
use Rattle.wbt_trace_text.specs.declared.fault.Missing.TheVariants as missing
use Rattle.wbt_trace_text.specs.declared.fault.Refusal.{Refusal}
use Rattle.wbt_trace_text.specs.declared.fault.Refusal.TheVariants as refusal
use Rattle.wbt_trace_text.specs.declared.fault.TraceFault.{TraceFault}
use Rattle.wbt_trace_text.specs.declared.fault.TraceFault.TheVariants as fault
use Rattle.wbt_trace_text.specs.declared.line.Line.{Line}
use Rattle.wbt_trace.specs.declared.trace.FlusherLine.{FlusherLine}
use Rattle.wbt_trace.specs.declared.trace.Trace.{Trace}

-- each of so many devices has a flusher
abbrev pub have_flushers : (devices : ℕ) (flushers : List FlusherLine) → Bool
have_flushers zero flushers = true
have_flushers (suc n) flushers = have_flushers n flushers && has_flusher n flushers

-- what is missing after the last line
abbrev pub missing_in : (s : Sofar) → Option Missing
missing_in s =
    if is_none s.cpus then Some missing.Cpus
    else (if length s.avail == 0 then Some missing.Avail else (if have_flushers (length s.devices) s.flushers then None else Some missing.Flusher))

-- the trace, where nothing is missing
abbrev pub whole_or : (what : Option Missing) (trace : Trace) → Result Trace TraceFault
whole_or None trace = Ok trace
whole_or (Some what) trace = Err (fault.Missing what)

-- the trace after the last line, or what is missing
abbrev pub end_of : (s : Sofar) → Result Trace TraceFault
end_of s = whole_or (missing_in s) (trace_so_far s)

-- the fault of the line of this number
abbrev pub fault_at : (number : ℕ) (why : Refusal) → TraceFault
fault_at number refusal.UnknownName = fault.UnknownName number
fault_at number refusal.Twice = fault.Twice number
fault_at number refusal.OutOfRange = fault.OutOfRange number
fault_at number refusal.Limit = fault.Limit number

-- how the text of a trace is read
abbrev pub traces : Format Sofar Line Refusal (Result Trace TraceFault)
traces = record {
  spells = λ s text l. IsLine text l;
  accept = accept;
  ended = λ count s. end_of s;
  unread = λ number. Err (fault.BadLine number);
  refused = λ number why. Err (fault_at number why);
}

-- The text tells this trace, or has this as its first fault.
abbrev pub IsAnswer : (text : List ℕ) (answer : Result Trace TraceFault) → Type 0
IsAnswer text answer = HasAnswer traces start text answer

-- What was read is the text's answer, unless memory ran out.
abbrev pub Tells : (text : List ℕ) (read : Result Trace TraceFault) → Type 0
Tells text read = told traces start (Err fault.NoMemory) text read
