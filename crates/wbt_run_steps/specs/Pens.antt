-- A log whose lists a pen has.
use Rattle.std.specs.Prelude.{ℕ, Option, Some, None}
use Rattle.wbt_counter.specs.declared.record.Fold.{Fold}
use Rattle.wbt_journal.specs.declared.entry.Entry.TheVariants as entry
use Rattle.wbt_run_laws.specs.Log.{with_entry}
use Rattle.wbt_journal.specs.declared.entry.CpuJournal.{CpuJournal}

-- the log, and for how many entries, checks and estimates more there is room
pub record Paper : Type 0 where
  pub log : CpuJournal
  pub room : ℕ
  pub checks : ℕ
  pub estimates : ℕ

-- a fold that was made is told
abbrev pub with_fold : (which : Option Fold) (log : CpuJournal) → CpuJournal
with_fold None log = log
with_fold (Some fold) log = with_entry (entry.Folded fold) log
