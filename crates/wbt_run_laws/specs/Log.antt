-- A CPU's log, to which a turn adds entries.
use Rattle.std.specs.Prelude.{◌≡◌, Bool, true, false, List, [], ◌∷◌, ◌++◌, length}
use Rattle.wbt_journal.specs.Told.{Told, checked, estimated, told_entry, told, NamesInOrder}
use Rattle.wbt_journal.specs.declared.entry.CheckEntry.{CheckEntry}
use Rattle.wbt_journal.specs.declared.entry.CpuJournal.{CpuJournal}
use Rattle.wbt_journal.specs.declared.entry.Entry.{Entry}
use Rattle.wbt_journal.specs.declared.entry.Entry.TheVariants as entry
use Rattle.wbt_journal.specs.declared.entry.EstEntry.{EstEntry}

-- the log tells this more, and names its checks and estimates in order as before
pub record Logged (added : List Told) (old new : CpuJournal) : Type 0 where
  pub names : NamesInOrder old → NamesInOrder new
  pub tells : NamesInOrder old → told new ≡ told old ++ added

-- whether an entry names no check and no estimate
abbrev pub is_plain : (e : Entry) → Bool
is_plain (entry.Check place) = false
is_plain (entry.Est place) = false
is_plain other = true

-- the log with a further entry, which names no check and no estimate
abbrev pub with_entry : (e : Entry) (log : CpuJournal) → CpuJournal
with_entry e log = record { entries = log.entries ++ e ∷ []; checks = log.checks; estimates = log.estimates }

-- a check stands at the end of the log's checks, and the entry names this place
abbrev pub with_check : (check : CheckEntry) (log : CpuJournal) → CpuJournal
with_check check log = record {
  entries = log.entries ++ entry.Check (length log.checks) ∷ [];
  checks = log.checks ++ check ∷ [];
  estimates = log.estimates;
}

-- an estimate stands at the end of the log's estimates, and the entry names this place
abbrev pub with_estimate : (est : EstEntry) (log : CpuJournal) → CpuJournal
with_estimate est log = record {
  entries = log.entries ++ entry.Est (length log.estimates) ∷ [];
  checks = log.checks;
  estimates = log.estimates ++ est ∷ [];
}

-- ---- laws

-- a log that stays tells nothing more
abbrev pub LoggedNothing : Type 0
LoggedNothing = (log : CpuJournal) → Logged [] log log

-- additions to a log compose, one after the other
abbrev pub LoggedBoth : Type 0
LoggedBoth = (a b : List Told) (old mid new : CpuJournal) → Logged a old mid → Logged b mid new → Logged (a ++ b) old new

-- a plain entry tells itself
abbrev pub LoggedEntry : Type 0
LoggedEntry = (e : Entry) (log : CpuJournal) → is_plain e ≡ true → Logged (told_entry [] [] e) log (with_entry e log)

-- a check that is put at the end is told
abbrev pub LoggedCheck : Type 0
LoggedCheck = (check : CheckEntry) (log : CpuJournal) → Logged (checked check ∷ []) log (with_check check log)

-- an estimate that is put at the end is told
abbrev pub LoggedEstimate : Type 0
LoggedEstimate = (est : EstEntry) (log : CpuJournal) → Logged (estimated est ∷ []) log (with_estimate est log)
