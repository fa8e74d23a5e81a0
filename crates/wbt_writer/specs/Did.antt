-- What calls of a CPU's writers did, one after another: how the record, the notes and the log grew, and what stayed.
use Rattle.std.specs.Prelude.{◌≡◌, ℕ, ◌≤◌, IfSome, List, Contains}
use Rattle.wbt_num.specs.declared.most.TheConstants.{MOST_PAGE_STEPS}
use Rattle.wbt_book.specs.Ledger.{times_in}
use Rattle.wbt_fraction.specs.Several.{KeepsRooms, KeepsStakes}
use Rattle.wbt_journal.specs.Each.{Each}
use Rattle.wbt_journal.specs.Effects.{effect}
use Rattle.wbt_journal.specs.Told.{Told}
use Rattle.wbt_journal.specs.declared.entry.CheckEntry.{CheckEntry}
use Rattle.wbt_kit.specs.declared.kit.Seats.{Seats}
use Rattle.wbt_trace.specs.declared.trace.Trace.{Trace}
use Rattle.wbt_run_laws.specs.Log.{Logged}
use Rattle.wbt_run_laws.specs.Noted.{NotedWriterTurn}
use Rattle.wbt_run_laws.specs.Shown.{ShownFlusher}
use Rattle.wbt_writer.specs.Desk.{Sight, shown_of, notes_of, record_in}
use Rattle.wbt_run_steps.specs.Queues.{KeepsQueueStakes}
use Rattle.wbt_run_steps.specs.Records.{IsApart}
use Rattle.wbt_writer.specs.declared.work.WriterWork.{WriterWork}

-- the moment of a check is one of these; no other entry of writers tells one
abbrev pub IsTimed : (told : List ℕ) (entry : Told) → Type 0
IsTimed told entry = IfSome (effect entry).check (λ (check : CheckEntry). Contains told check.now)

-- What stays of the seats: other records, the pages that the CPU holds, stakes and rooms of shares, and stakes of queues. The CPU owes no
-- rescan that it didn't owe before, and its page steps stay few.
pub record Keeps (cpu : ℕ) (old new : Seats) : Type 0 where
  pub apart : IsApart cpu old.cpu new.cpu
  pub held : (record_in cpu new).held ≡ (record_in cpu old).held
  pub rescans : (page : ℕ) → 1 ≤ times_in page (record_in cpu new).owed_rescans → 1 ≤ times_in page (record_in cpu old).owed_rescans
  pub stakes : KeepsStakes old.share.domains new.share.domains
  pub rooms : KeepsRooms old.share.domains new.share.domains
  pub totals : new.share.totals ≡ old.share.totals
  pub queues : KeepsQueueStakes old.queue new.queue
  pub few : (record_in cpu old).page_steps ≤ MOST_PAGE_STEPS → (record_in cpu new).page_steps ≤ MOST_PAGE_STEPS

-- The calls told these entries, and nothing else: the record got just their folds, events and loads, the tasks are where the entries
-- lead, and shares and estimates noted what they tell.
pub record Did (trace : Trace) (opened cpu : ℕ) (told : List ℕ) (added : List Told) (old new : Sight) : Type 0 where
  pub logged : Logged added old.log new.log
  pub turn : (flushers : ℕ → ShownFlusher) → NotedWriterTurn trace opened cpu added (shown_of cpu flushers old) (shown_of cpu flushers new)
      (notes_of trace old) (notes_of trace new)
  pub moments : Each (IsTimed told) added
  pub keeps : Keeps cpu old.seats new.seats

-- the CPU owes no mark that it didn't owe before
abbrev pub OwesNoMore : (cpu : ℕ) (old new : Seats) → Type 0
OwesNoMore cpu old new = (inode : ℕ) → 1 ≤ times_in inode (record_in cpu new).owed_marks → 1 ≤ times_in inode (record_in cpu old).owed_marks

-- and so for any moments, where no check is told
abbrev pub Does : (trace : Trace) (opened cpu : ℕ) (added : List Told) (old new : Sight) → Type 0
Does trace opened cpu added old new = (told : List ℕ) → Did trace opened cpu told added old new

-- nothing changed but what queues got, and which inodes wait
pub record OnlyPuts (was is : WriterWork) (old new : Seats) : Type 0 where
  pub tasks : is.tasks ≡ was.tasks
  pub fractions : is.fractions.items ≡ was.fractions.items
  pub cpu : new.cpu ≡ old.cpu
  pub share : new.share ≡ old.share
  pub est : new.est ≡ old.est
  pub queues : KeepsQueueStakes old.queue new.queue
