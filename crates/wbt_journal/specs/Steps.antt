-- The lines of steps: after each, the exact count of each domain, and its bound with the peak that it has by then.
use Rattle.std.specs.Prelude.{ℕ, ◌+◌, max, Bool, false, ◌||◌, ◌==◌, nat_lt, if◌then◌else◌, ℤ, pos, ◌+ℤ◌, List, [], ◌∷◌, ◌++◌, flat_map, slice_get, Option, Some, None}
use Rattle.wbt_grant.specs.declared.who.StepKind.{StepKind}
use Rattle.wbt_grant.specs.declared.who.StepKind.TheVariants as kind
use Rattle.wbt_journal.specs.declared.columns.Column.{Column}
use Rattle.wbt_journal.specs.declared.step.StepEntry.{StepEntry}
use Rattle.wbt_journal.specs.declared.timer.TimerEntry.{TimerEntry}
use Rattle.wbt_journal.specs.declared.timer.TimerEntry.TheVariants as timer
use Rattle.wbt_journal.specs.declared.word.Word.{Word}
use Rattle.wbt_journal.specs.declared.word.Word.TheVariants as word
use Rattle.wbt_journal.specs.declared.field.Field.{Field}
use Rattle.wbt_journal.specs.declared.field.Field.TheVariants.{Name, Int}
use Rattle.wbt_journal.specs.Line.{Line, line, num}

-- ---- one column a domain

-- before its first peak step a domain's peak is the hard limit of its first limits, or 0
abbrev pub first_hard : (domain : ℕ) (entries : List TimerEntry) → ℕ
first_hard domain [] = 0
first_hard domain (timer.Limits of now limits ∷ more) = if of == domain then limits.hard else first_hard domain more
first_hard domain (timer.Period of k ∷ more) = first_hard domain more

-- the columns of the domains from a number on, before the first step
abbrev pub first_columns : (domain : ℕ) (entries : List TimerEntry) (bases : List ℕ) → List Column
first_columns domain entries [] = []
first_columns domain entries (base ∷ bases) =
    record { count = pos 0; base = base; peak = first_hard domain entries } ∷ first_columns (domain + 1) entries bases

-- whether a number that may be there is this one
abbrev pub is_some_of : (n : ℕ) (which : Option ℕ) → Bool
is_some_of n None = false
is_some_of n (Some m) = m == n

-- a context is in its own domain and in the global one
abbrev pub is_in : (homes : List ℕ) (context domain : ℕ) → Bool
is_in homes context domain = domain == 0 || is_some_of domain (slice_get homes context)

-- by how many pages a step changes a domain's exact count
abbrev pub change_in : (homes : List ℕ) (domain : ℕ) (step : StepEntry) → ℤ
change_in homes domain step = if is_in homes step.context domain then step.change else pos 0

-- what a step raises a domain's peak to; 0 where it raises none
abbrev pub raised : (kind : StepKind) (of domain peak : ℕ) → ℕ
raised kind.Peak of domain peak = if of == domain then peak else 0
raised other of domain peak = 0

-- a domain's column after a step: its exact count, and its peak raised
abbrev pub column_after : (homes : List ℕ) (domain : ℕ) (step : StepEntry) (column : Column) → Column
column_after homes domain step column = record {
  count = column.count +ℤ change_in homes domain step;
  base = column.base;
  peak = max column.peak (raised step.kind step.domain domain step.peak);
}

-- the columns of the domains from a number on, after a step
abbrev pub columns_after : (homes : List ℕ) (domain : ℕ) (step : StepEntry) (columns : List Column) → List Column
columns_after homes domain step [] = []
columns_after homes domain step (column ∷ columns) = column_after homes domain step column ∷ columns_after homes (domain + 1) step columns

-- ---- lines

-- the word of a step's kind
abbrev pub kind_word : (kind : StepKind) → Word
kind_word kind.Add = word.Add
kind_word kind.Fold = word.Fold
kind_word kind.Clear = word.Clear
kind_word kind.Count = word.Count
kind_word kind.Dirty = word.Dirty
kind_word kind.Claim = word.Claim
kind_word kind.Complete = word.Complete
kind_word kind.Peak = word.Peak
kind_word kind.Unseal = word.Unseal
kind_word kind.Thresh = word.Thresh
kind_word kind.Publish = word.Publish
kind_word kind.First = word.First
kind_word kind.Middle = word.Middle
kind_word kind.Limits = word.Limits
kind_word kind.Mark = word.Mark
kind_word kind.Unmark = word.Unmark
kind_word kind.Look = word.Look
kind_word kind.Back = word.Back

-- whoever has a number past those of the CPUs is the timer
abbrev pub who_field : (cpus who : ℕ) → Field
who_field cpus who = if nat_lt who cpus then num who else Name word.Timer

-- the fields of a domain's column: its exact count and its bound with the peak so far
abbrev pub column_fields : (column : Column) → List Field
column_fields column = Int column.count ∷ num (column.base + column.peak) ∷ []

-- the first fields of a step's line: its number, who did it, and its kind
abbrev pub step_fields : (cpus number : ℕ) (step : StepEntry) → List Field
step_fields cpus number step = num number ∷ who_field cpus step.who ∷ Name (kind_word step.kind) ∷ []

-- a step by its number, with the columns after it
abbrev pub step_line : (cpus number : ℕ) (step : StepEntry) (columns : List Column) → Line
step_line cpus number step columns = line word.Step (step_fields cpus number step ++ flat_map column_fields columns)

-- the steps from a number on, with the columns before the first of them
abbrev pub step_lines : (cpus : ℕ) (homes : List ℕ) (number : ℕ) (columns : List Column) (steps : List StepEntry) → List Line
step_lines cpus homes number columns [] = []
step_lines cpus homes number columns (step ∷ steps) =
    step_line cpus number step (columns_after homes 0 step columns) ∷ step_lines cpus homes (number + 1) (columns_after homes 0 step columns) steps

-- the lines of steps; none where there is no step
abbrev pub steps_part : (cpus : ℕ) (homes : List ℕ) (columns : List Column) (steps : List StepEntry) → List Line
steps_part cpus homes columns [] = []
steps_part cpus homes columns (step ∷ steps) = line word.Steps [] ∷ step_lines cpus homes 1 columns (step ∷ steps)
