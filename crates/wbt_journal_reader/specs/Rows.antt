-- The rows of a plain journal: what each of its lines says.
use Rattle.std.specs.Prelude.{◌≡◌, ℕ, pos, false, List, [], ◌∷◌, ◌++◌, flat_map, Option, None}
use Rattle.wbt_counter.specs.declared.counter.Count.{Count}
use Rattle.wbt_pause.specs.declared.decision.Kind.TheVariants as kind
use Rattle.wbt_journal.specs.declared.entry.CheckEntry.{CheckEntry}
use Rattle.wbt_journal.specs.declared.entry.DomainLine.{DomainLine}
use Rattle.wbt_journal.specs.declared.entry.Entry.TheVariants as entry
use Rattle.wbt_journal_reader.specs.declared.row.Decided.{Decided}
use Rattle.wbt_journal_reader.specs.declared.row.Row.{Row}
use Rattle.wbt_journal_reader.specs.declared.row.Row.TheVariants as row
use Rattle.wbt_journal.specs.declared.word.Word.TheVariants as word
use Rattle.wbt_journal.specs.Each.{Each}
use Rattle.wbt_journal.specs.Forms.{HasForm}
use Rattle.wbt_journal.specs.Line.{Line, line, num, lines_text}
use Rattle.wbt_journal.specs.Lines.{timer_line, read_line, count_line, decision_line, est_line, left_line, ending_line, told_lines}
use Rattle.wbt_journal.specs.Plain.{HasBits}
use Rattle.wbt_journal.specs.Told.{told_entry}

-- ---- checks, of what their lines say

-- a read of nothing
abbrev pub no_read : DomainLine
no_read = record {
  domain = 0;
  triple = 0;
  limits = record { thresh = 0; bg = 0; hard = 0 };
  count = record { version = 0; value = pos 0 };
  share = record { period = 0; num = 0; den = 0 };
}

-- the last line of a check of nothing in a context
abbrev pub no_decision : (context : ℕ) → Decided
no_decision context = record {
  task = 0;
  context = context;
  now = 0;
  estimate = 0;
  decision = record { kind = kind.Free; pause = 0; left = 0; task = record { nr_dirtied = 0; nr_dirtied_pause = 0; paused_when = 0 }; exceeded = false };
}

-- the check of these lines
abbrev pub check_of : (global : DomainLine) (cgroup : Option DomainLine) (count : Count) (decided : Decided) → CheckEntry
check_of global cgroup count decided = record {
  task = decided.task;
  context = decided.context;
  now = decided.now;
  global = global;
  cgroup = cgroup;
  count = count;
  estimate = decided.estimate;
  decision = decided.decision;
}

-- ---- the line of a row

-- an entry that names a check or an estimate has no line of its own
abbrev pub row_lines : (r : Row) → List Line
row_lines row.Timer = line word.Timer [] ∷ []
row_lines (row.Timed e) = timer_line e ∷ []
row_lines (row.Cpu cpu) = line word.Cpu (num cpu ∷ []) ∷ []
row_lines (row.Entry e) = flat_map told_lines (told_entry [] [] e)
row_lines (row.Estimate est) = est_line est ∷ []
row_lines (row.Read read) = read_line read ∷ []
row_lines (row.Count context count) = count_line (check_of no_read None count (no_decision context)) ∷ []
row_lines (row.Check decided) = decision_line (check_of no_read None no_read.count decided) ∷ []
row_lines (row.Left left) = left_line left ∷ []
row_lines (row.Census dirty writeback) = line word.Census (num dirty ∷ num writeback ∷ []) ∷ []
row_lines (row.Totals fresh done) = line word.Totals (num fresh ∷ num done ∷ []) ∷ []
row_lines (row.End ending) = ending_line ending ∷ []

-- what its line doesn't tell has its one value, and an entry names no check and no estimate
abbrev pub IsPlainRow : (r : Row) → Type 0
IsPlainRow (row.Entry (entry.Check place)) = ⊥
IsPlainRow (row.Entry (entry.Est place)) = ⊥
IsPlainRow (row.Check decided) = decided.decision.exceeded ≡ false
IsPlainRow (row.Left left) = HasBits left
IsPlainRow other = Unit {0}

-- The text, which has no line feed, is that of the row.
pub record IsRow (text : List ℕ) (r : Row) : Type 0 where
  pub is : text ++ 10 ∷ [] ≡ lines_text (row_lines r)
  pub plain : IsPlainRow r
  pub form : Each HasForm (row_lines r)
