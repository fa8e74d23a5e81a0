-- What `audit` reads, and what it writes.
use Rattle.std.specs.Prelude.{◌≡◌, ◌≢◌, ◌⊎◌, ℕ, ◌≤◌, List, [], ◌∷◌, ◌++◌, length, codes, Option, Some, None, IfSome, Ok, Err}
use Rattle.std.specs.Fmt.{decimal}
use Rattle.wbt_num.specs.declared.most.TheConstants.{MOST_INPUT}
use Rattle.wbt_text.specs.Cut.{Without}
use Rattle.wbt_trace.specs.Lawful.{IsLawful}
use Rattle.wbt_trace_text.specs.Reading.{IsAnswer}
use Rattle.wbt_trace_text.specs.declared.fault.TraceFault.{TraceFault}
use Rattle.wbt_trace.specs.declared.trace.Trace.{Trace}
use Rattle.wbt_journal.specs.Checks.{with_marks}
use Rattle.wbt_journal.specs.Each.{Each}
use Rattle.wbt_journal.specs.Forms.{HasForm}
use Rattle.wbt_journal.specs.Lawful as journal
use Rattle.wbt_journal.specs.PlainJournal.{IsPlainJournal}
use Rattle.wbt_journal.specs.Text.{journal_lines, journal_text}
use Rattle.wbt_journal.specs.declared.journal.Journal.{Journal}
use Rattle.wbt_journal_reader.specs.FirstBad.{IsFirstBad}
use Rattle.wbt_audit.specs.Audited.{audit_of, unsettled_task}
use Rattle.wbt_audit.specs.declared.verdict.Verdict.{Verdict}
use Rattle.wbt_audit.specs.declared.verdict.Verdict.TheVariants as verdict
use Rattle.wbt_top_plain.specs.Top.{IsWord, ReadsTrace, IsLaw}
use Rattle.wbt_top_plain.specs.declared.status.Status.{Status}
use Rattle.wbt_top_plain.specs.declared.status.Status.TheVariants as status
use Rattle.wbt_top_plain.specs.declared.status.Words.{Words}

-- ---- the words

-- the words are `audit` alone
abbrev pub IsAudit : (words : Words) → Type 0
IsAudit words = IsWord (codes "audit") words

-- the words of a command that reads a text and starts no thread
abbrev pub ReadsText : (words : Words) → Type 0
ReadsText words = ReadsTrace words ⊎ (IsLaw words ⊎ IsAudit words)

-- ---- the input: a trace, the line `journal`, and the text of a journal

-- lines, each with a line feed after it
abbrev pub text_of_lines : (lines : List (List ℕ)) → List ℕ
text_of_lines [] = []
text_of_lines (first ∷ lines) = first ++ 10 ∷ text_of_lines lines

-- a line that isn't `journal`
pub record IsOtherLine (line : List ℕ) : Type 0 where
  pub whole : Without 10 line
  pub other : line ≢ codes "journal"

-- The text is cut at the first of its lines that is `journal`: this stands before that line, and this after it.
pub record IsCut (text before after : List ℕ) : Type 0 where
  pub lines : List (List ℕ)
  pub others : Each IsOtherLine lines
  pub front : before ≡ text_of_lines lines
  pub whole : text ≡ before ++ (codes "journal" ++ 10 ∷ after)

-- No line of the text is `journal`.
abbrev pub IsUncut : (text : List ℕ) → Type 0
IsUncut text = (before after : List ℕ) → IsCut text before after → ⊥

-- The parts of an input: the text of its trace, which is all of it where no line is `journal`, and where one is the text after it.
abbrev pub HasParts : (input front : List ℕ) (rest : Option (List ℕ)) → Type 0
HasParts input front None = IsUncut input × (front ≡ input)
HasParts input front (Some rest) = IsCut input front rest

-- ---- what an input tells

-- what it tells: the first fault of its trace, or the line at which there is no journal, or a trace and a journal
pub data Told : Type 0 where
  bad_trace : (fault : TraceFault) → Told
  bad_journal : (line : ℕ) → Told
  both : (trace : Trace) (j : Journal) → Told

-- There is no journal at this line of what comes after the line `journal`, and at line 0 where that line isn't there.
abbrev pub IsBadAt : (rest : Option (List ℕ)) (line : ℕ) → Type 0
IsBadAt None line = line ≡ 0
IsBadAt (Some rest) line = IsFirstBad line rest

-- It is the text of this journal.
abbrev pub IsJournalOf : (rest : Option (List ℕ)) (j : Journal) → Type 0
IsJournalOf None j = ⊥
IsJournalOf (Some rest) j = IsPlainJournal j × (journal_text j ≡ rest)

-- The parts tell this; the trace comes first.
abbrev pub PartsTell : (front : List ℕ) (rest : Option (List ℕ)) (what : Told) → Type 0
PartsTell front rest (bad_trace fault) = IsAnswer front (Err fault)
PartsTell front rest (bad_journal line) = ((trace : Trace) × IsAnswer front (Ok trace)) × IsBadAt rest line
PartsTell front rest (both trace j) = IsAnswer front (Ok trace) × IsJournalOf rest j

-- the parts of an input tell this
pub record Tells (input : List ℕ) (what : Told) : Type 0 where
  pub front : List ℕ
  pub rest : Option (List ℕ)
  pub parts : HasParts input front rest
  pub tell : PartsTell front rest what

-- The input, where it is told, isn't too long and tells this.
abbrev pub IsAuditInput : (left : Option (List ℕ)) (what : Told) → Type 0
IsAuditInput left what = IfSome left (λ input. (length input ≤ MOST_INPUT) × Tells input what)

-- Where the input is told and isn't too long, this holds of what it tells.
abbrev pub IfAuditTold : (left : Option (List ℕ)) (holds : Told → Type 0) → Type 0
IfAuditTold left holds = IfSome left (λ input. length input ≤ MOST_INPUT → (what : Told) → Tells input what → holds what)

-- ---- the output

-- the line that tells a verdict
abbrev pub verdict_text : (verdict : Verdict) → List ℕ
verdict_text verdict.Lawful = codes "lawful\n"
verdict_text (verdict.Broken clause line) = codes "broken clause " ++ decimal clause ++ codes " line " ++ decimal line ++ codes "\n"
verdict_text (verdict.Unsettled task) = codes "unsettled task " ++ decimal task ++ codes "\n"

-- What a verdict says of a journal, with the marks that no line tells: that it is lawful for the trace, or that it isn't; or that this is
-- the least task of which the trace leaves open where it ends.
abbrev pub Means : (verdict : Verdict) (trace : Trace) (j : Journal) → Type 0
Means verdict.Lawful trace j = journal.IsLawful trace (with_marks trace j)
Means (verdict.Broken clause line) trace j = journal.IsLawful trace (with_marks trace j) → ⊥
Means (verdict.Unsettled task) trace j = unsettled_task trace ≡ Some task

-- The status says which verdict it is.
abbrev pub Shows : (status : Status) (verdict : Verdict) → Type 0
Shows status.Good which = which ≡ verdict.Lawful
Shows status.Unlawful which = (clause : ℕ) × (line : ℕ) × (which ≡ verdict.Broken clause line)
Shows status.Unsettled which = (task : ℕ) × (which ≡ verdict.Unsettled task)
Shows status.WriteFault which = which ≡ verdict.Lawful
Shows _ which = ⊥

-- A trace and a journal that are told so were judged, which this status shows, and the line of the verdict was written so.
pub record Audited (IsTold : Told → Type 0) (status : Status) (Wrote : List ℕ → Type 0) : Type 0 where
  pub trace : Trace
  pub journal : Journal
  pub told : IsTold (both trace journal)
  pub lawful : IsLawful trace
  pub means : Means (audit_of trace journal) trace journal
  pub shown : Shows status (audit_of trace journal)
  pub wrote : Wrote (verdict_text (audit_of trace journal))

-- ---- the status

-- the status that a verdict asks for; one that is lawful is no good status where the sink has failed
abbrev pub AnswersVerdict : (status : Status) (failed : Type 0) (verdict : Verdict) → Type 0
AnswersVerdict ended failed verdict.Lawful = (ended ≡ status.Good) ⊎ (failed × (ended ≡ status.WriteFault))
AnswersVerdict ended failed (verdict.Broken clause line) = ended ≡ status.Unlawful
AnswersVerdict ended failed (verdict.Unsettled task) = ended ≡ status.Unsettled

-- the status that an input asks for
abbrev pub Answers : (status : Status) (failed : Type 0) (what : Told) → Type 0
Answers ended failed (bad_trace fault) = ended ≡ status.BadTrace fault
Answers ended failed (bad_journal line) = ended ≡ status.BadJournal line
Answers ended failed (both trace j) = AnswersVerdict ended failed (audit_of trace j)

-- ---- what a run writes

-- a journal as runs over threads have it: lawful for the trace, without steps and lines of strict devices, with its numbers in range
pub record IsOfRun (trace : Trace) (j : Journal) : Type 0 where
  pub lawful : journal.IsLawful trace j
  pub no_steps : (j.steps ≡ []) × (j.bases ≡ []) × (j.homes ≡ []) × (j.strict ≡ [])
  pub forms : Each HasForm (journal_lines j)

-- The input is the text of a trace, the line `journal`, and what is written of such a journal of that trace.
pub record IsRunToJudge (input : List ℕ) : Type 0 where
  pub trace : Trace
  pub journal : Journal
  pub front : List ℕ
  pub tells : IsAnswer front (Ok trace)
  pub run : IsOfRun trace journal
  pub whole : input ≡ front ++ (codes "journal" ++ 10 ∷ journal_text journal)

-- Where the input is told, isn't too long and is such a one, this holds.
abbrev pub IfRunToJudge : (left : Option (List ℕ)) (holds : Type 0) → Type 0
IfRunToJudge left holds = IfSome left (λ input. length input ≤ MOST_INPUT → IsRunToJudge input → holds)
