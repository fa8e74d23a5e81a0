-- A journal while its rows are read: each is taken after those before it, or refused.
use Rattle.std.specs.Prelude.{◌≡◌, ℕ, ◌+◌, Bool, true, false, ◌&&◌, ◌==◌, nat_le, if◌then◌else◌, List, [], ◌∷◌, ◌++◌, length, count_by, Option, Some, None, is_some, Result, Ok, Err}
use Rattle.wbt_journal.specs.declared.entry.CheckEntry.{CheckEntry}
use Rattle.wbt_journal.specs.declared.entry.CpuJournal.{CpuJournal}
use Rattle.wbt_journal.specs.declared.entry.DomainLine.{DomainLine}
use Rattle.wbt_counter.specs.declared.counter.Count.{Count}
use Rattle.wbt_journal.specs.declared.entry.Entry.{Entry}
use Rattle.wbt_journal.specs.declared.entry.Entry.TheVariants as entry
use Rattle.wbt_journal.specs.declared.entry.EstEntry.{EstEntry}
use Rattle.wbt_journal.specs.declared.journal.Ending.{Ending}
use Rattle.wbt_journal.specs.declared.journal.Ending.TheVariants as ending
use Rattle.wbt_journal.specs.declared.journal.Left.{Left}
use Rattle.wbt_journal_reader.specs.declared.accept.AcceptError.{AcceptError}
use Rattle.wbt_journal_reader.specs.declared.accept.AcceptError.TheVariants.{Refused, NoMemory}
use Rattle.wbt_journal_reader.specs.declared.builder.Builder.{Builder}
use Rattle.wbt_journal_reader.specs.declared.builder.Place.{Place}
use Rattle.wbt_journal_reader.specs.declared.builder.Place.TheVariants as place
use Rattle.wbt_journal_reader.specs.declared.row.Decided.{Decided}
use Rattle.wbt_journal_reader.specs.declared.row.Row.{Row}
use Rattle.wbt_journal_reader.specs.declared.row.Row.TheVariants as row
use Rattle.wbt_journal.specs.declared.timer.TimerEntry.{TimerEntry}
use Rattle.wbt_journal_reader.specs.Rows.{check_of}
use Rattle.wbt_journal.specs.Text.{fresh_of, done_of, is_left_dirty, is_left_writeback}

-- a part without entries
abbrev pub empty_part : CpuJournal
empty_part = record { entries = []; checks = []; estimates = [] }

-- before the first line
abbrev pub start : Builder
start = record {
  journal = record { timer = []; cpus = []; steps = []; bases = []; homes = []; left = []; strict = []; ending = ending.Done };
  part = empty_part;
  place = place.Start;
}

-- the row may not come here
abbrev pub refused : Result Builder (Unit {0})
refused = Err tt

-- the row is taken, and the next one comes at this place
abbrev pub at : (where_now : Place) (b : Builder) → Result Builder (Unit {0})
at where_now b = Ok (record b { place = where_now })

-- ---- what a row changes

-- the journal with a further entry of the timer
abbrev pub with_timed : (e : TimerEntry) (b : Builder) → Builder
with_timed e b = record b { journal = record b.journal { timer = b.journal.timer ++ e ∷ [] } }

-- the part with a further entry, which names no check and no estimate
abbrev pub with_entry : (e : Entry) (b : Builder) → Builder
with_entry e b = record b { part = record b.part { entries = b.part.entries ++ e ∷ [] } }

-- the part with a further estimate, which its entry names by its place
abbrev pub with_estimate : (est : EstEntry) (b : Builder) → Builder
with_estimate est b = record b {
  part = record b.part { entries = b.part.entries ++ entry.Est (length b.part.estimates) ∷ []; estimates = b.part.estimates ++ est ∷ [] };
}

-- the part with a further check, which its entry names by its place
abbrev pub with_check : (check : CheckEntry) (b : Builder) → Builder
with_check check b = record b {
  part = record b.part { entries = b.part.entries ++ entry.Check (length b.part.checks) ∷ []; checks = b.part.checks ++ check ∷ [] };
}

-- the journal with a further page that is left
abbrev pub with_left : (left : Left) (b : Builder) → Builder
with_left left b = record b { journal = record b.journal { left = b.journal.left ++ left ∷ [] } }

-- the part whose rows were read is over
abbrev pub close_at : (where_now : Place) (b : Builder) → Builder
close_at place.Part b = record b { journal = record b.journal { cpus = b.journal.cpus ++ b.part ∷ [] }; part = empty_part }
close_at other b = b

-- the part whose rows were read is over, if one was begun
abbrev pub close : (b : Builder) → Builder
close b = close_at b.place b

-- ---- each row

-- the row of the timer's beginning comes first
abbrev pub take_timer : (where_now : Place) (b : Builder) → Result Builder (Unit {0})
take_timer place.Start b = at place.Timer b
take_timer other b = refused

-- the timer's entries come after its beginning
abbrev pub take_timed : (e : TimerEntry) (where_now : Place) (b : Builder) → Result Builder (Unit {0})
take_timed e place.Timer b = Ok (with_timed e b)
take_timed e other b = refused

-- a CPU's part may begin
abbrev pub begins_part : (where_now : Place) → Bool
begins_part place.Timer = true
begins_part place.Part = true
begins_part other = false

-- a CPU's part comes after the one of the CPU before, or after the timer's entries
abbrev pub take_cpu : (cpu : ℕ) (b : Builder) → Result Builder (Unit {0})
take_cpu cpu b = if begins_part b.place && (cpu == length (close b).journal.cpus) then at place.Part (close b) else refused

-- an entry comes in a CPU's part
abbrev pub take_entry : (e : Entry) (where_now : Place) (b : Builder) → Result Builder (Unit {0})
take_entry e place.Part b = Ok (with_entry e b)
take_entry e other b = refused

-- an estimate comes in a CPU's part
abbrev pub take_estimate : (est : EstEntry) (where_now : Place) (b : Builder) → Result Builder (Unit {0})
take_estimate est place.Part b = Ok (with_estimate est b)
take_estimate est other b = refused

-- what a check read of its domains comes in a part: of the global one, and then of its cgroup if it has one
abbrev pub take_read : (read : DomainLine) (where_now : Place) (b : Builder) → Result Builder (Unit {0})
take_read read place.Part b = at (place.Read read None) b
take_read read (place.Read global None) b = at (place.Read global (Some read)) b
take_read read other b = refused

-- the count of a check's context comes after what it read
abbrev pub take_count : (context : ℕ) (count : Count) (where_now : Place) (b : Builder) → Result Builder (Unit {0})
take_count context count (place.Read global cgroup) b = at (place.Counted global cgroup context count) b
take_count context count other b = refused

-- a check's decision comes last, and is of the context that was counted
abbrev pub take_check : (decided : Decided) (where_now : Place) (b : Builder) → Result Builder (Unit {0})
take_check decided (place.Counted global cgroup context count) b =
    if decided.context == context then at place.Part (with_check (check_of global cgroup count decided) b) else refused
take_check decided other b = refused

-- where a page that is left may come, or the census, the least number that such a page may have
abbrev pub least_left : (where_now : Place) → Option ℕ
least_left place.Timer = Some 0
least_left place.Part = Some 0
least_left (place.Left next) = Some next
least_left other = None

-- a page that is left comes in order of its number
abbrev pub take_left_from : (least : Option ℕ) (left : Left) (b : Builder) → Result Builder (Unit {0})
take_left_from None left b = refused
take_left_from (Some least) left b = if nat_le least left.page then at (place.Left (left.page + 1)) (with_left left (close b)) else refused

-- a page that is left comes after all parts
abbrev pub take_left : (left : Left) (b : Builder) → Result Builder (Unit {0})
take_left left b = take_left_from (least_left b.place) left b

-- whether a census tells how many of these pages are dirty, and how many under writeback
abbrev pub is_census : (dirty writeback : ℕ) (left : List Left) → Bool
is_census dirty writeback left = (dirty == count_by is_left_dirty left) && (writeback == count_by is_left_writeback left)

-- the census comes after the pages that are left, and counts them
abbrev pub take_census : (dirty writeback : ℕ) (b : Builder) → Result Builder (Unit {0})
take_census dirty writeback b =
    if is_some (least_left b.place) && is_census dirty writeback b.journal.left then at place.Census (close b) else refused

-- whether totals tell how many writes were fresh, and how many pages were done
abbrev pub are_totals : (fresh done : ℕ) (cpus : List CpuJournal) → Bool
are_totals fresh done cpus = (fresh == fresh_of cpus) && (done == done_of cpus)

-- the totals come after the census, and count the parts' entries
abbrev pub take_totals : (fresh done : ℕ) (where_now : Place) (b : Builder) → Result Builder (Unit {0})
take_totals fresh done place.Census b = if are_totals fresh done b.journal.cpus then at place.Totals b else refused
take_totals fresh done other b = refused

-- the ending comes last
abbrev pub take_end : (ended : Ending) (where_now : Place) (b : Builder) → Result Builder (Unit {0})
take_end ended place.Totals b = at place.End (record b { journal = record b.journal { ending = ended } })
take_end ended other b = refused

-- the journal after a row, or its refusal
abbrev pub accept : (r : Row) (b : Builder) → Result Builder (Unit {0})
accept row.Timer b = take_timer b.place b
accept (row.Timed e) b = take_timed e b.place b
accept (row.Cpu cpu) b = take_cpu cpu b
accept (row.Entry e) b = take_entry e b.place b
accept (row.Estimate est) b = take_estimate est b.place b
accept (row.Read read) b = take_read read b.place b
accept (row.Count context count) b = take_count context count b.place b
accept (row.Check decided) b = take_check decided b.place b
accept (row.Left left) b = take_left left b
accept (row.Census dirty writeback) b = take_census dirty writeback b
accept (row.Totals fresh done) b = take_totals fresh done b.place b
accept (row.End ended) b = take_end ended b.place b

-- The outcome is the definition's, unless memory ran out.
abbrev pub Gives : (result : Result (Unit {0}) AcceptError) (new : Builder) (outcome : Result Builder (Unit {0})) → Type 0
Gives (Ok u) new outcome = outcome ≡ Ok new
Gives (Err NoMemory) new outcome = Unit {0}
Gives (Err Refused) new outcome = outcome ≡ refused
