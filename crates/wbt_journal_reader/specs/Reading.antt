-- What a text tells: a plain journal, or the first line that is at fault.
use Rattle.std.specs.Prelude.{ℕ, ◌+◌, Result, Ok, Err}
use Rattle.wbt_text.specs.Reading.{Format}
use Rattle.wbt_journal.specs.declared.journal.Journal.{Journal}
use Rattle.wbt_journal_reader.specs.declared.builder.Builder.{Builder}
use Rattle.wbt_journal_reader.specs.declared.builder.Place.{Place}
use Rattle.wbt_journal_reader.specs.declared.builder.Place.TheVariants as place
use Rattle.wbt_journal_reader.specs.declared.read.JournalFault.{JournalFault}
use Rattle.wbt_journal_reader.specs.declared.read.JournalFault.TheVariants.{BadLine}
use Rattle.wbt_journal_reader.specs.declared.row.Row.{Row}
use Rattle.wbt_journal_reader.specs.Rebuilding.{accept}
use Rattle.wbt_journal_reader.specs.Rows.{IsRow}

-- the journal after its last line, or the line that is missing
abbrev pub end_at : (where_now : Place) (count : ℕ) (b : Builder) → Result Journal JournalFault
end_at place.End count b = Ok b.journal
end_at other count b = Err (BadLine (count + 1))

-- how the text of a plain journal is read
abbrev pub journals : Format Builder Row (Unit {0}) (Result Journal JournalFault)
journals = record {
  spells = λ b text r. IsRow text r;
  accept = accept;
  ended = λ count b. end_at b.place count b;
  unread = λ number. Err (BadLine number);
  refused = λ number why. Err (BadLine number);
}
