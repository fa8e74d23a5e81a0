-- What is claimed of a call that starts no thread, by subject. A call ended so, on a source that had `left` and then `after`, and on a sink
-- that held `before` and then `now`. `unread` and `failed` say that the source's and the sink's count of faults rose by it.
use Rattle.std.specs.Prelude.{◌≡◌, ◌≢◌, ◌↔◌, ◌⊎◌, ℕ, List, Option}
use Rattle.std.specs.Io.KnownBytes.{IsAtEnd}
use Rattle.wbt_io.specs.Told.{GainsPart}
use Rattle.wbt_trace_text.specs.declared.fault.TraceFault.{TraceFault}
use Rattle.wbt_trace_text.specs.declared.fault.TraceFault.TheVariants as refusal
use Rattle.wbt_top_plain.specs.Audit.{Answers, Audited, IfAuditTold, IfRunToJudge, IsAudit, IsAuditInput, ReadsText, bad_journal, bad_trace}
use Rattle.wbt_top_plain.specs.Forecast.{Foretells}
use Rattle.wbt_top_plain.specs.Foretold.{Foretold, ForetoldPart, ForetoldSpent, IsForecastSpent}
use Rattle.wbt_top_plain.specs.Top.{Checked, CheckedPart, Decided, DecidedPart, IfFaulty, IfLawFaulty, IfLawTold, IfLong, IfTold, IsLawRefused, IsLong, IsRefused, IsReplay, IsSpent, ReadsWhole, Replayed, ReplayedPart, ReplayedSpent}
use Rattle.wbt_top_plain.specs.Written.{IsWritten, IsWrittenUnless}
use Rattle.wbt_top_plain.specs.declared.status.Status.{Status}
use Rattle.wbt_top_plain.specs.declared.status.Status.TheVariants.{Good, BadWords, BadTrace, BadJournal, Unsettled, Unlawful, ReadFault, WriteFault, DiskFault, NoMemory, Spent, TooLong}
use Rattle.wbt_top_plain.specs.declared.status.Words.{Words}

-- ---- every command

-- Which statuses the words may have.
pub record FitsWords (ended : Status) (words : Words) : Type 0 where
  -- It is that of bad words exactly where the words are none of `replay`, `check`, `law` and `audit` alone, nor `forecast` and a number from 1
  -- to 10^9, spelled as in a trace.
  pub bad_words : (ended ≡ BadWords) ↔ (¬ ReadsText words)
  -- At any other status they are one of these.
  pub asked : ended ≢ BadWords → ReadsText words
  -- Only a replay and a forecast are spent.
  pub spent : ended ≡ Spent → IsReplay words ⊎ Foretells words
  -- Only `audit` asks for a journal.
  pub bad_journal : (line : ℕ) → ended ≡ BadJournal line → IsAudit words
  -- Only its verdict is that a journal isn't lawful.
  pub unlawful : ended ≡ Unlawful → IsAudit words
  -- Only its verdict is that a journal isn't settled.
  pub unsettled : ended ≡ Unsettled → IsAudit words
  -- A disk fault never comes.
  pub no_disk : ended ≢ DiskFault

-- How the input is read, where the words ask for that.
pub record ReadsInput (ended : Status) (left after : Option (List ℕ)) (unread : Type 0) : Type 0 where
  -- Before a text is judged, the input is read to its end.
  pub whole : ReadsWhole ended → IsAtEnd after
  -- A read fault comes only where the source's count of faults rose.
  pub read_fault : ended ≡ ReadFault → unread
  -- Too long comes only where the input has more than 2^26 bytes.
  pub too_long : ended ≡ TooLong → IsLong left
  -- Where the input has more and the source's count of faults didn't rise, it is too long, unless memory runs out.
  pub each_too_long : ¬ unread → IfLong left ((ended ≡ TooLong) ⊎ (ended ≡ NoMemory))

-- How a text is refused that tells no trace, where the words ask for one.
pub record RefusesText (ended : Status) (left : Option (List ℕ)) (unread : Type 0) : Type 0 where
  -- The fault named is the text's first one.
  pub first : (fault : TraceFault) → ended ≡ BadTrace fault → (fault ≢ refusal.NoMemory) × IsRefused left fault
  -- Where the input has at most 2^26 bytes and a fault, and the source's count of faults didn't rise, that is told, unless memory runs out.
  pub each : ¬ unread → IfFaulty left (λ fault. (ended ≡ BadTrace fault) ⊎ (ended ≡ NoMemory))

-- ---- each command

-- How `replay` is served.
pub record ServesReplay (ended : Status) (left before now : Option (List ℕ)) (unread failed : Type 0) : Type 0 where
  -- At the good status the bytes written are, whole, the text of the journal of the ordered run of the trace that was read. The run isn't
  -- spent, and `IsControlled` holds of the trace. The input has at most 2^26 bytes and tells the trace.
  pub good : ended ≡ Good → Replayed left before now
  -- After a write fault the sink has a part of that same text, from its first byte on and without its last. The run isn't spent here too.
  pub part : ended ≡ WriteFault → ReplayedPart left before now
  -- At the status spent the run of the trace is spent, and its text was written, or a part of it where the sink failed.
  pub spent : ended ≡ Spent → ReplayedSpent left before now failed
  -- Where the input tells a trace whose run isn't spent, and neither source nor sink counts a fault, the status is the good one, unless memory
  -- runs out.
  pub each_unspent : ¬ unread → ¬ failed → IfTold left (λ trace. ¬ IsSpent trace → (ended ≡ Good) ⊎ (ended ≡ NoMemory))
  -- Where the run is spent the status is that, whatever the sink does, unless memory runs out.
  pub each_spent : ¬ unread → IfTold left (λ trace. IsSpent trace → (ended ≡ Spent) ⊎ (ended ≡ NoMemory))

-- How `forecast` is served, with intervals of so many ticks.
pub record ServesForecast (every : ℕ) (ended : Status) (left before now : Option (List ℕ)) (unread failed : Type 0) : Type 0 where
  -- At the good status the bytes written are, whole, the text of the forecast of the trace that was read, by these intervals. Its run isn't
  -- spent, and `IsForecastRight` holds of it. The input has at most 2^26 bytes and tells the trace.
  pub good : ended ≡ Good → Foretold every left before now
  -- After a write fault the sink has a part of that text, from its first byte on and without its last.
  pub part : ended ≡ WriteFault → ForetoldPart every left before now
  -- Where memory ran out nothing was written, or such a part.
  pub memory : ended ≡ NoMemory → (now ≡ before) ⊎ ForetoldPart every left before now
  -- At the status spent the run of the trace is spent, and its forecast was written whole.
  pub spent : ended ≡ Spent → ForetoldSpent every left before now
  -- Where the input tells a trace whose run isn't spent, and neither source nor sink counts a fault, the status is the good one, unless memory
  -- runs out.
  pub each_unspent : ¬ unread → ¬ failed → IfTold left (λ trace. ¬ IsForecastSpent trace every → (ended ≡ Good) ⊎ (ended ≡ NoMemory))
  -- Where the run is spent the status is that, unless memory runs out.
  pub each_spent : ¬ unread → ¬ failed → IfTold left (λ trace. IsForecastSpent trace every → (ended ≡ Spent) ⊎ (ended ≡ NoMemory))

-- How `check` is served.
pub record ServesCheck (ended : Status) (left before now : Option (List ℕ)) (unread failed : Type 0) : Type 0 where
  -- At the good status the bytes written are the normal form of the trace that was read. The input has at most 2^26 bytes and tells the trace.
  pub good : ended ≡ Good → Checked left before now
  -- After a write fault the sink has a part of it, from its first byte on and without its last.
  pub part : ended ≡ WriteFault → CheckedPart left before now
  -- Where the input tells a trace, and neither source nor sink counts a fault, the status is the good one, unless memory runs out.
  pub each : ¬ unread → ¬ failed → IfTold left (λ trace. (ended ≡ Good) ⊎ (ended ≡ NoMemory))

-- How `law` is served.
pub record ServesLaw (ended : Status) (left before now : Option (List ℕ)) (unread failed : Type 0) : Type 0 where
  -- At the good status the bytes written are the ratios, the decision and the writer's numbers of the law text that was read. The input has at
  -- most 2^26 bytes and tells the law text.
  pub good : ended ≡ Good → Decided left before now
  -- After a write fault the sink has a part of them, from the first byte on and without the last.
  pub part : ended ≡ WriteFault → DecidedPart left before now
  -- The fault named of a text that is refused is its first one.
  pub first : (fault : TraceFault) → ended ≡ BadTrace fault → (fault ≢ refusal.NoMemory) × IsLawRefused left fault
  -- Where the input has at most 2^26 bytes and a fault, and the source's count of faults didn't rise, that is told, unless memory runs out.
  pub each_refused : ¬ unread → IfLawFaulty left (λ fault. (ended ≡ BadTrace fault) ⊎ (ended ≡ NoMemory))
  -- Where it tells numbers to decide by, and neither source nor sink counts a fault, the status is the good one, unless memory runs out.
  pub each : ¬ unread → ¬ failed → IfLawTold left (λ law. (ended ≡ Good) ⊎ (ended ≡ NoMemory))

-- How `audit` is served.
pub record ServesAudit (ended : Status) (left before now : Option (List ℕ)) (unread failed : Type 0) : Type 0 where
  -- At the good status a trace, the line `journal` and the text of a journal were read, the verdict is `lawful`, and that is the line that was
  -- written, whole. The journal, with the marks that no line tells, is lawful for the trace.
  pub good : ended ≡ Good → Audited (IsAuditInput left) Good (IsWritten before now)
  -- After a write fault the verdict is `lawful` too, and the sink has a part of that line.
  pub part : ended ≡ WriteFault → Audited (IsAuditInput left) WriteFault (GainsPart before now)
  -- At the status unlawful the verdict is broken, by its clause and its line, and the journal, with those marks, isn't lawful for the trace.
  -- The verdict's line was written, or a part of it where the sink failed.
  pub unlawful : ended ≡ Unlawful → Audited (IsAuditInput left) Unlawful (IsWrittenUnless failed before now)
  -- Likewise where the verdict is unsettled: the task that it names rests last and isn't alone on its CPU.
  pub unsettled : ended ≡ Unsettled → Audited (IsAuditInput left) Unsettled (IsWrittenUnless failed before now)
  -- A trace is refused by its first fault.
  pub bad_trace : (fault : TraceFault) → ended ≡ BadTrace fault → (fault ≢ refusal.NoMemory) × IsAuditInput left (bad_trace fault)
  -- Else the text before the line `journal` tells a trace, and there is no journal at this line of the text after it; or no line is `journal`,
  -- and this line is 0.
  pub bad_journal : (line : ℕ) → ended ≡ BadJournal line → IsAuditInput left (bad_journal line)
  -- Where the input has at most 2^26 bytes, and the source's count of faults didn't rise, what it tells decides the status: the first fault of
  -- its trace, the line at which there is no journal, or the verdict, unless memory runs out. Only where the verdict is `lawful` may a fault of
  -- the sink come.
  pub each : ¬ unread → IfAuditTold left (λ told. Answers ended failed told ⊎ (ended ≡ NoMemory))
  -- What `run` writes of its journal, after the trace and the line `journal`, is never called broken: where neither source nor sink counts a
  -- fault, the verdict is `lawful` or unsettled, unless memory runs out.
  pub each_run : ¬ unread → ¬ failed → IfRunToJudge left ((ended ≡ Good) ⊎ ((ended ≡ Unsettled) ⊎ (ended ≡ NoMemory)))
