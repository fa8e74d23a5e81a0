-- What is known when all workers were joined and the table is closed.
use Rattle.std.specs.Prelude.{◌≡◌, ℕ, zero, suc, ◌+◌, ◌<◌, true, false, List, [], ◌∷◌, Contains}
use Rattle.wbt_counter.specs.Sums.{total}
use Rattle.wbt_estimate.specs.declared.estimate.Estimate.{Estimate}
use Rattle.wbt_fraction.specs.Laws.{begun}
use Rattle.wbt_fraction.specs.Notes.{IsComplete}
use Rattle.wbt_fraction.specs.Sums.{total as weigh}
use Rattle.wbt_fraction.specs.declared.domain.note.Note.{Note}
use Rattle.wbt_grant.specs.Laws.{Holds}
use Rattle.wbt_grant.specs.Setting.{Setting}
use Rattle.wbt_grant.specs.State.{State}
use Rattle.wbt_grant.specs.declared.record.CpuRecord.{CpuRecord}
use Rattle.wbt_grant.specs.declared.record.TimerRecord.{TimerRecord}
use Rattle.wbt_num.specs.declared.limits.Limits.{Limits}
use Rattle.wbt_published.specs.Known.{first_one}
use Rattle.wbt_published.specs.Publishing.{IsComplete as KnowsAll}
use Rattle.wbt_published.specs.declared.known.Known.{Known}
use Rattle.wbt_trace.specs.declared.trace.Trace.{Trace}
use Rattle.wbt_journal.specs.Machine.{domains, contexts, pages}
use Rattle.wbt_journal.specs.Timer.{HasThresholds}
use Rattle.wbt_journal.specs.declared.journal.Left.{Left}
use Rattle.wbt_journal.specs.declared.timer.TimerEntry.{TimerEntry}
use Rattle.wbt_journal.specs.declared.timer.TimerEntry.TheVariants as timer
use Rattle.wbt_run_laws.specs.Notes.{Notes, no_fraction}
use Rattle.wbt_run_laws.specs.Throttle.{left_from}

-- What `close` tells of a seat that has all records: they are those of a state that holds, and the words that it hands out are
-- that state's.
pub record Closed (trace : Trace) (set : Setting) (s : State) (records : ℕ → CpuRecord) (held : TimerRecord) (left : List Left) : Type 0 where
  pub cpus_are : (cpu : ℕ) → cpu < trace.cpus → s.cpu cpu ≡ records cpu
  pub timer_is : s.timer ≡ held
  pub holds : Holds set s
  pub left_is : left ≡ left_from s.book 0 (pages trace)

-- ---- the opening

-- the first limits of so many domains, from one on
abbrev pub first_lines : (firsts : ℕ → Limits) (opened domain count : ℕ) → List TimerEntry
first_lines firsts opened domain zero = []
first_lines firsts opened domain (suc count) = timer.Limits domain opened (firsts domain) ∷ first_lines firsts opened (suc domain) count

-- each domain begins with the limits of the moment, and its hard limit is the threshold
pub record OpensWith (trace : Trace) (opened : ℕ) (firsts : ℕ → Limits) : Type 0 where
  pub thresholds : (domain : ℕ) → domain < domains trace → HasThresholds trace opened domain (firsts domain)
  pub hards : (domain : ℕ) → domain < domains trace → (firsts domain).hard ≡ (firsts domain).thresh

-- the lines that stand at the opening
abbrev pub opening_lines : (trace : Trace) (opened : ℕ) (firsts : ℕ → Limits) → List TimerEntry
opening_lines trace opened firsts = first_lines firsts opened 0 (domains trace)

-- a CPU that has noted nothing
pub record NotedNothing (notes : Notes) : Type 0 where
  pub shares : (domain : ℕ) → notes.shares domain ≡ []
  pub kept : (domain context : ℕ) → notes.kept domain context ≡ no_fraction

-- ---- joined notes

-- What the joined share seats tell: these are all notes of a domain, together those of the CPUs and of the timer, and the timer
-- alone began periods.
pub record SharesTell (trace : Trace) (notes : ℕ → Notes) (timer_notes : ℕ → List Note) (all : ℕ → List Note) : Type 0 where
  pub complete : (domain : ℕ) → domain < domains trace → IsComplete (all domain)
  pub weights : (domain : ℕ) → domain < domains trace → (h : Note → ℕ)
      → weigh h (all domain) ≡ total trace.cpus (λ cpu. weigh h ((notes cpu).shares domain)) + weigh h (timer_notes domain)
  pub have : (cpu domain : ℕ) → cpu < trace.cpus → domain < domains trace → (note : Note)
      → Contains ((notes cpu).shares domain) note → Contains (all domain) note
  pub begun_are : (domain : ℕ) → domain < domains trace → begun (all domain) ≡ begun (timer_notes domain)

-- What the joined passes tell: each context has a CPU that publishes for it and no other does, and the joined pass knows all
-- that was published, and has all that was read.
pub record PassesTell (trace : Trace) (publisher : ℕ → ℕ) (first notes : ℕ → Notes) (all : ℕ → Known) : Type 0 where
  pub publishers : (context : ℕ) → context < contexts trace → publisher context < trace.cpus
  pub publishes : (context : ℕ) → context < contexts trace → ((first (publisher context)).estimates context).publishes ≡ true
  pub opens : (context : ℕ) → context < contexts trace → ((first (publisher context)).estimates context).all ≡ first_one ∷ []
  pub no_other : (cpu context : ℕ) → cpu < trace.cpus → context < contexts trace → (cpu ≡ publisher context → ⊥)
      → ((first cpu).estimates context).publishes ≡ false
  pub complete : (context : ℕ) → context < contexts trace → KnowsAll (all context)
  pub all_are : (context : ℕ) → context < contexts trace → (all context).all ≡ ((notes (publisher context)).estimates context).all
  pub have : (cpu context : ℕ) → cpu < trace.cpus → context < contexts trace → (note : Estimate)
      → Contains ((notes cpu).estimates context).reads note → Contains (all context).reads note
