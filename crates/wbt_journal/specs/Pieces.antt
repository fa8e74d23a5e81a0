-- The texts of a journal's parts, as they are put one after another.
use Rattle.std.specs.Prelude.{ℕ, List, [], ◌∷◌, ◌++◌, flat_map}
use Rattle.wbt_journal.specs.declared.entry.Entry.{Entry}
use Rattle.wbt_journal.specs.declared.entry.CheckEntry.{CheckEntry}
use Rattle.wbt_journal.specs.declared.entry.EstEntry.{EstEntry}
use Rattle.wbt_journal.specs.declared.timer.TimerEntry.{TimerEntry}
use Rattle.wbt_journal.specs.declared.journal.Left.{Left}
use Rattle.wbt_journal.specs.declared.journal.StrictLine.{StrictLine}
use Rattle.wbt_journal.specs.declared.word.Word.TheVariants as word
use Rattle.wbt_journal.specs.declared.columns.Column.{Column}
use Rattle.wbt_journal.specs.Line.{line, num, fields_text, line_text, lines_text}
use Rattle.wbt_journal.specs.Lines.{timer_line, left_line, strict_line, told_lines}
use Rattle.wbt_journal.specs.Steps.{column_fields}
use Rattle.wbt_journal.specs.Told.{told_entry}

-- the text of a timer's entry
abbrev pub timer_text : (entry : TimerEntry) → List ℕ
timer_text entry = line_text (timer_line entry)

-- the text of a page that is left
abbrev pub left_text : (left : Left) → List ℕ
left_text left = line_text (left_line left)

-- the text of a strict context's line
abbrev pub strict_text : (strict : StrictLine) → List ℕ
strict_text strict = line_text (strict_line strict)

-- the lines of an entry, with what it names
abbrev pub entry_text : (checks : List CheckEntry) (estimates : List EstEntry) (entry : Entry) → List ℕ
entry_text checks estimates entry = lines_text (flat_map told_lines (told_entry checks estimates entry))

-- a CPU's line, and its part
abbrev pub cpu_text : (cpu : ℕ) (checks : List CheckEntry) (estimates : List EstEntry) (entries : List Entry) → List ℕ
cpu_text cpu checks estimates entries = line_text (line word.Cpu (num cpu ∷ [])) ++ flat_map (entry_text checks estimates) entries

-- what a line of a step tells of a domain
abbrev pub column_text : (column : Column) → List ℕ
column_text column = fields_text (column_fields column)

-- the parts of a journal, one after another
abbrev pub parts_text : (timer : List TimerEntry) (cpus steps : List ℕ) (left : List Left) (ends : List ℕ) → List ℕ
parts_text timer cpus steps left ends =
    (line_text (line word.Timer []) ++ flat_map timer_text timer) ++ (cpus ++ (steps ++ (flat_map left_text left ++ ends)))
