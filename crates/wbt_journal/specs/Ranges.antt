-- The lines of a journal's parts have their forms.
use Rattle.std.specs.Prelude.{List, [], flat_map}
use Rattle.wbt_journal.specs.declared.entry.CheckEntry.{CheckEntry}
use Rattle.wbt_journal.specs.declared.entry.CpuJournal.{CpuJournal}
use Rattle.wbt_journal.specs.declared.entry.Entry.{Entry}
use Rattle.wbt_journal.specs.declared.entry.EstEntry.{EstEntry}
use Rattle.wbt_journal.specs.declared.journal.Left.{Left}
use Rattle.wbt_journal.specs.declared.timer.TimerEntry.{TimerEntry}
use Rattle.wbt_journal.specs.Each.{Each}
use Rattle.wbt_journal.specs.Forms.{HasForm}
use Rattle.wbt_journal.specs.Line.{Line}
use Rattle.wbt_journal.specs.Lines.{timer_line, told_lines, check_lines, est_line, left_line}
use Rattle.wbt_journal.specs.Told.{told, told_entry}

-- each line has its form
abbrev pub HaveForms : (lines : List Line) → Type 0
HaveForms lines = Each HasForm lines

-- the line of a timer's entry has its form
abbrev pub TimedHasForm : (entry : TimerEntry) → Type 0
TimedHasForm entry = HasForm (timer_line entry)

-- what an entry tells by itself
abbrev pub EntryHasForm : (entry : Entry) → Type 0
EntryHasForm entry = HaveForms (flat_map told_lines (told_entry [] [] entry))

-- each line of a check has its form
abbrev pub CheckHasForm : (check : CheckEntry) → Type 0
CheckHasForm check = HaveForms (check_lines check)

-- the line of an estimate has its form
abbrev pub EstimateHasForm : (est : EstEntry) → Type 0
EstimateHasForm est = HasForm (est_line est)

-- the line of a page that is left has its form
abbrev pub LeftHasForm : (left : Left) → Type 0
LeftHasForm left = HasForm (left_line left)

-- each line of a CPU's part has its form
abbrev pub PartHasForm : (part : CpuJournal) → Type 0
PartHasForm part = HaveForms (flat_map told_lines (told part))
