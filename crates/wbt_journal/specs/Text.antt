-- The text of a journal.
use Rattle.std.specs.Prelude.{ℕ, Bool, true, false, List, [], ◌∷◌, ◌++◌, length, map, sum_by, count_by}
use Rattle.wbt_book.specs.Book.{bits_in}
use Rattle.wbt_journal.specs.declared.entry.Entry.{Entry}
use Rattle.wbt_journal.specs.declared.entry.Entry.TheVariants.{Write, Done}
use Rattle.wbt_journal.specs.declared.entry.CpuJournal.{CpuJournal}
use Rattle.wbt_journal.specs.declared.journal.Left.{Left}
use Rattle.wbt_journal.specs.declared.journal.Journal.{Journal}
use Rattle.wbt_journal.specs.declared.word.Word.TheVariants as word
use Rattle.wbt_journal.specs.Line.{Line, line, num, lines_text}
use Rattle.wbt_journal.specs.Lines.{timer_line, cpu_lines, left_line, strict_line, ending_line}
use Rattle.wbt_journal.specs.Steps.{first_columns, steps_part}

-- ---- sums

-- whether an entry is a write of a clean page
abbrev pub is_fresh : (entry : Entry) → Bool
is_fresh (Write task page fresh) = fresh
is_fresh other = false

-- whether an entry completes a page
abbrev pub is_done : (entry : Entry) → Bool
is_done (Done flusher page) = true
is_done other = false

-- how many writes of all parts were fresh
abbrev pub fresh_of : (parts : List CpuJournal) → ℕ
fresh_of parts = sum_by (λ part. count_by is_fresh part.entries) parts

-- how many pages all parts completed
abbrev pub done_of : (parts : List CpuJournal) → ℕ
done_of parts = sum_by (λ part. count_by is_done part.entries) parts

-- whether a page is left dirty
abbrev pub is_left_dirty : (left : Left) → Bool
is_left_dirty left = (bits_in left.word).dirty

-- whether a page is left under writeback
abbrev pub is_left_writeback : (left : Left) → Bool
is_left_writeback left = (bits_in left.word).writeback

-- how many pages are left dirty, and how many under writeback
abbrev pub census_line : (left : List Left) → Line
census_line left = line word.Census (num (count_by is_left_dirty left) ∷ num (count_by is_left_writeback left) ∷ [])

-- how many writes were fresh, and how many pages were done
abbrev pub totals_line : (parts : List CpuJournal) → Line
totals_line parts = line word.Totals (num (fresh_of parts) ∷ num (done_of parts) ∷ [])

-- ---- the whole

-- the last lines of a journal: census, totals, strict contexts and the ending
abbrev pub end_lines : (j : Journal) → List Line
end_lines j = census_line j.left ∷ totals_line j.cpus ∷ (map strict_line j.strict ++ ending_line j.ending ∷ [])

-- all lines of a journal: the timer's, the CPUs', the steps', what is left, and the end
unfoldable pub journal_lines : (j : Journal) → List Line
journal_lines j =
    line word.Timer [] ∷ (map timer_line j.timer ++ (cpu_lines 0 j.cpus
    ++ (steps_part (length j.cpus) j.homes (first_columns 0 j.timer j.bases) j.steps ++ (map left_line j.left ++ end_lines j))))

-- the text of a journal, as bytes
abbrev pub journal_text : (j : Journal) → List ℕ
journal_text j = lines_text (journal_lines j)
