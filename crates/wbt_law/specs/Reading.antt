-- What a law text tells: what one decision is made from, or the text's first fault.
use Rattle.std.specs.Prelude.{ℕ, ◌+◌, if◌then◌else◌, List, Result, Ok, Err}
use Rattle.wbt_text.specs.Reading.{Format, HasAnswer, Tells as told}
use Rattle.wbt_trace_text.specs.declared.fault.TraceFault.{TraceFault}
use Rattle.wbt_trace_text.specs.declared.fault.TraceFault.TheVariants as fault
use Rattle.wbt_law.specs.Accept.{accept}
use Rattle.wbt_law.specs.Draft.{start}
use Rattle.wbt_law.specs.Rows.{IsRow, may_end}
use Rattle.wbt_law.specs.declared.accept.Refusal.{Refusal}
use Rattle.wbt_law.specs.declared.accept.Refusal.TheVariants as refusal
use Rattle.wbt_law.specs.declared.input.Draft.{Draft}
use Rattle.wbt_law.specs.declared.input.LawInput.{LawInput}

-- A text of so many lines ends in its place, or too early: the line after its last is missing.
abbrev pub end_of : (count : ℕ) (draft : Draft) → Result LawInput TraceFault
end_of count draft = if may_end draft.place then Ok draft.law else Err (fault.BadLine (count + 1))

-- the fault of the line of this number
abbrev pub fault_at : (number : ℕ) (why : Refusal) → TraceFault
fault_at number refusal.BadLine = fault.BadLine number
fault_at number refusal.OutOfRange = fault.OutOfRange number

-- how a law text is read; a line is given by its numbers
abbrev pub laws : Format Draft (List ℕ) Refusal (Result LawInput TraceFault)
laws = record {
  spells = λ s text ns. IsRow s.place text ns;
  accept = accept;
  ended = end_of;
  unread = λ number. Err (fault.BadLine number);
  refused = λ number why. Err (fault_at number why);
}

-- The text tells this, or has this as its first fault.
abbrev pub IsAnswer : (text : List ℕ) (answer : Result LawInput TraceFault) → Type 0
IsAnswer text answer = HasAnswer laws start text answer

-- What was read is the text's answer, unless memory ran out.
abbrev pub Tells : (text : List ℕ) (read : Result LawInput TraceFault) → Type 0
Tells text read = told laws start (Err fault.NoMemory) text read
