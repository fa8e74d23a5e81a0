-- What the program writes for what it reads.
use Rattle.std.specs.Prelude.{◌≡◌, ◌⊎◌, ⊤, ℕ, ◌<◌, ◌≤◌, List, [], ◌∷◌, length, map, codes, string_bytes, Option, IfSome, Ok, Err}
use Rattle.std.specs.Io.KnownBytes.{append_known}
use Rattle.wbt_num.specs.declared.most.TheConstants.{MOST_INPUT}
use Rattle.wbt_io.specs.Told.{GainsPart}
use Rattle.wbt_trace.specs.Lawful.{IsLawful}
use Rattle.wbt_trace_text.specs.Reading.{IsAnswer}
use Rattle.wbt_trace_text.specs.Writing.{trace_text}
use Rattle.wbt_trace_text.specs.declared.fault.TraceFault.{TraceFault}
use Rattle.wbt_trace.specs.declared.trace.Trace.{Trace}
use Rattle.wbt_journal.specs.declared.journal.Ending.TheVariants as ending
use Rattle.wbt_replay_order.specs.Claims.Decided.{AreDecided}
use Rattle.wbt_replay_order.specs.Claims.Path.{IsFollowed}
use Rattle.wbt_replay_order.specs.Claims.Whole.{IsWhole}
use Rattle.wbt_replay_order.specs.Definition.Run.{journal_of}
use Rattle.wbt_journal.specs.Lawful as journal
use Rattle.wbt_replay.specs.Claims.{AreAccounted, EndsByItself, GoesInOrder, HasPoints, StaysWithin}
use Rattle.wbt_journal.specs.Text.{journal_text}
use Rattle.wbt_law.specs.Law.{IsDecidable}
use Rattle.wbt_law.specs.Reading.{IsAnswer as IsLawAnswer}
use Rattle.wbt_law.specs.Text.{law_text}
use Rattle.wbt_law.specs.declared.input.LawInput.{LawInput}
use Rattle.wbt_top_plain.specs.declared.status.Status.{Status}
use Rattle.wbt_top_plain.specs.declared.status.Status.TheVariants.{Good, BadTrace, BadJournal, Unsettled, Unlawful, WriteFault, DiskFault, Spent}
use Rattle.wbt_top_plain.specs.declared.status.Words.{Words}
use Rattle.wbt_top_plain.specs.Forecast.{Foretells}

-- ---- the words

-- The words are this one alone.
abbrev pub IsWord : (word : List ℕ) (words : Words) → Type 0
IsWord word words = map string_bytes words.list ≡ word ∷ []

-- the words are `replay` alone
abbrev pub IsReplay : (words : Words) → Type 0
IsReplay words = IsWord (codes "replay") words

-- the words are `check` alone
abbrev pub IsCheck : (words : Words) → Type 0
IsCheck words = IsWord (codes "check") words

-- the words are `law` alone
abbrev pub IsLaw : (words : Words) → Type 0
IsLaw words = IsWord (codes "law") words

-- the words of a command that reads a trace
abbrev pub ReadsTrace : (words : Words) → Type 0
ReadsTrace words = IsReplay words ⊎ (IsCheck words ⊎ Foretells words)

-- ---- the input

-- The input, where it is told, isn't too long and tells the trace.
abbrev pub IsInput : (left : Option (List ℕ)) (trace : Trace) → Type 0
IsInput left trace = IfSome left (λ input. (length input ≤ MOST_INPUT) × IsAnswer input (Ok trace))

-- The input, where it is told, isn't too long and has this as its first fault.
abbrev pub IsRefused : (left : Option (List ℕ)) (fault : TraceFault) → Type 0
IsRefused left fault = IfSome left (λ input. (length input ≤ MOST_INPUT) × IsAnswer input (Err fault))

-- The input, where it is told, is too long.
abbrev pub IsLong : (left : Option (List ℕ)) → Type 0
IsLong left = IfSome left (λ input. MOST_INPUT < length input)

-- Where the input is told and too long, this holds.
abbrev pub IfLong : (left : Option (List ℕ)) (holds : Type 0) → Type 0
IfLong left holds = IfSome left (λ input. MOST_INPUT < length input → holds)

-- The trace that was read: it is lawful, and the input tells it.
pub record IsRead (trace : Trace) (left : Option (List ℕ)) : Type 0 where
  pub lawful : IsLawful trace
  pub told : IsInput left trace

-- Where the input is told, isn't too long and tells a trace, this holds of the trace.
abbrev pub IfTold : (left : Option (List ℕ)) (holds : Trace → Type 0) → Type 0
IfTold left holds = IfSome left (λ input. length input ≤ MOST_INPUT → (trace : Trace) → IsAnswer input (Ok trace) → holds trace)

-- Where it is told, isn't too long and has a fault, this holds of its first one.
abbrev pub IfFaulty : (left : Option (List ℕ)) (holds : TraceFault → Type 0) → Type 0
IfFaulty left holds = IfSome left (λ input. length input ≤ MOST_INPUT → (fault : TraceFault) → IsAnswer input (Err fault) → holds fault)

-- ---- a law text as the input

-- The numbers that were read: a decision can be made of them, and the input, where it is told, isn't too long and tells
-- them.
pub record IsLawRead (law : LawInput) (left : Option (List ℕ)) : Type 0 where
  pub decidable : IsDecidable law
  pub told : IfSome left (λ input. (length input ≤ MOST_INPUT) × IsLawAnswer input (Ok law))

-- The input, where it is told, isn't too long and has this as its first fault.
abbrev pub IsLawRefused : (left : Option (List ℕ)) (fault : TraceFault) → Type 0
IsLawRefused left fault = IfSome left (λ input. (length input ≤ MOST_INPUT) × IsLawAnswer input (Err fault))

-- Where the input is told, isn't too long and tells numbers to decide by, this holds of them; where it has a fault, of its first one.
abbrev pub IfLawTold : (left : Option (List ℕ)) (holds : LawInput → Type 0) → Type 0
IfLawTold left holds = IfSome left (λ input. length input ≤ MOST_INPUT → (law : LawInput) → IsLawAnswer input (Ok law) → holds law)

-- where the input is told, isn't too long and has a fault, this holds of its first one
abbrev pub IfLawFaulty : (left : Option (List ℕ)) (holds : TraceFault → Type 0) → Type 0
IfLawFaulty left holds = IfSome left (λ input. length input ≤ MOST_INPUT → (fault : TraceFault) → IsLawAnswer input (Err fault) → holds fault)

-- ---- the output

-- the journal of the trace's ordered run, as text
abbrev pub replay_text : (trace : Trace) → List ℕ
replay_text trace = journal_text (journal_of trace)

-- At each moment of the trace's run the steps and grants so far are steps of the relation, told one for one by the journal, which
-- lead to the run's state. Each fresh write that the journal tells was cleaned once, or its page is left; no fault is told, and no page
-- that was given back; and each page that a write found dirty was dirtied by a write that is told. After each step each domain's count
-- that is printed is the exact count of its dirty pages and pages under writeback by the book, and is at most the bound printed beside
-- it, which is that of the relation's domain at that moment, with the greatest hard limit that the timer has printed or prints next. At
-- each moment it is at most the closer bound too. Of each context of a strict device the greatest count that it had is told, which is at
-- most the bound told beside it. Each decision that is printed is the control law's, made by its CPU after just the checks printed before
-- it, and its pause at most 200 ticks; each count that is printed with one is the sum of the folds that are told up to its version, and
-- none is older than what its CPU had printed or folded. Each flusher of an ageing device notices inodes and takes them in its own CPU's
-- part, and what it takes for its age it had noticed there, as long ago as its context asks. The pages told as left are those of the book,
-- and what parts, steps and pages name is there. The run ends, after at most so many steps as a replay may have, and is told as spent,
-- halted or done where it is. Where it is done, every page of every write was told, and nothing is left. Beside these the journal has the
-- points of a lawful journal, and so it is legal for the trace however the run ended; where the run isn't spent its ending is right too,
-- and so the journal is lawful.
pub record IsControlled (trace : Trace) : Type 0 where
  -- At each moment of the run the steps and grants so far are those of the relation, which lead to the run's state.
  pub followed : IsFollowed trace
  -- Each page that was dirtied was cleaned once, or is left and told.
  pub pages : AreAccounted trace
  -- Each count that is printed is exact, and at most its bound, which is printed beside it.
  pub within : StaysWithin trace
  -- Each check decides by what is printed with it, the estimate that it names and its writer's numbers, and pauses at most 200 ticks.
  pub decided : AreDecided trace
  -- The journal has each point of a lawful one but that on its ending, however the run ended.
  pub points : HasPoints trace (journal_of trace)
  -- Where the run isn't spent, the journal is lawful for the trace.
  pub lawful : ((journal_of trace).ending ≡ ending.Spent → ⊥) → journal.IsLawful trace (journal_of trace)
  -- What the journal's parts, steps and pages name is there.
  pub whole : IsWhole (journal_of trace)
  -- The run ends by itself, and is told as spent, halted or done where it is; where it is done every page was written and none is left.
  pub ends : EndsByItself trace
  -- Its steps are made by the order lines first, and then by rotation, in whole turns.
  pub order : GoesInOrder trace

-- The trace's run has a further step to make after the last one that a replay may have.
abbrev pub IsSpent : (trace : Trace) → Type 0
IsSpent trace = (journal_of trace).ending ≡ ending.Spent

-- The bytes written are the text of the journal of the ordered run of the trace read, which isn't spent.
abbrev pub Replayed : (left before now : Option (List ℕ)) → Type 0
Replayed left before now =
    (trace : Trace) × IsRead trace left × IsControlled trace × (¬ IsSpent trace) × (now ≡ append_known before (replay_text trace))

-- A part of that text was written, from its first byte on and without its last. The run isn't spent here too.
abbrev pub ReplayedPart : (left before now : Option (List ℕ)) → Type 0
ReplayedPart left before now =
    (trace : Trace) × IsRead trace left × IsControlled trace × (¬ IsSpent trace) × GainsPart before now (replay_text trace)

-- The run of the trace read is spent. The bytes written are the text of its journal, or a part of it where the sink has failed.
abbrev pub ReplayedSpent : (left before now : Option (List ℕ)) (failed : Type 0) → Type 0
ReplayedSpent left before now failed =
    (trace : Trace) × IsRead trace left × IsControlled trace × IsSpent trace
    × ((now ≡ append_known before (replay_text trace)) ⊎ (failed × GainsPart before now (replay_text trace)))

-- The bytes written are the normal form of the trace read.
abbrev pub Checked : (left before now : Option (List ℕ)) → Type 0
Checked left before now = (trace : Trace) × IsRead trace left × (now ≡ append_known before (trace_text trace))

-- A part of that text was written.
abbrev pub CheckedPart : (left before now : Option (List ℕ)) → Type 0
CheckedPart left before now = (trace : Trace) × IsRead trace left × GainsPart before now (trace_text trace)

-- The bytes written are the position ratios and the decision of a check on the numbers read.
abbrev pub Decided : (left before now : Option (List ℕ)) → Type 0
Decided left before now = (law : LawInput) × IsLawRead law left × (now ≡ append_known before (law_text law))

-- A part of that text was written.
abbrev pub DecidedPart : (left before now : Option (List ℕ)) → Type 0
DecidedPart left before now = (law : LawInput) × IsLawRead law left × GainsPart before now (law_text law)

-- ---- the status

-- The status tells of the text that was read, and so that it was read whole.
abbrev pub ReadsWhole : (status : Status) → Type 0
ReadsWhole Good = ⊤
ReadsWhole (BadTrace fault) = ⊤
ReadsWhole (BadJournal line) = ⊤
ReadsWhole Unsettled = ⊤
ReadsWhole Unlawful = ⊤
ReadsWhole WriteFault = ⊤
ReadsWhole DiskFault = ⊤
ReadsWhole Spent = ⊤
ReadsWhole _ = ⊥
