-- What holds at each moment of a run: the steps' lines tell the exact count of each domain, and it is within the bound. And the run
-- ends.
use Rattle.std.specs.Prelude.{◌≡◌, ℕ, zero, suc, ◌+◌, ◌<◌, ◌≤◌, max, true, ◌==◌, if◌then◌else◌, pos, ◌≤ℤ◌, ℤ, List, [], ◌∷◌, ◌++◌, length, map, take, slice_get, Some}
use Rattle.wbt_num.specs.declared.most.TheConstants.{MOST_STEPS}
use Rattle.wbt_trace.specs.declared.trace.Trace.{Trace}
use Rattle.wbt_book.specs.Book.{Book}
use Rattle.wbt_grant.specs.Bound.{bound}
use Rattle.wbt_grant.specs.Closer.{closer_bound}
use Rattle.wbt_grant.specs.State.{domain_count}
use Rattle.wbt_journal.specs.Machine.{domains}
use Rattle.wbt_journal.specs.Steps.{first_columns, columns_after, step_line, step_lines}
use Rattle.wbt_journal.specs.declared.columns.Column.{Column}
use Rattle.wbt_journal.specs.declared.journal.Journal.{Journal}
use Rattle.wbt_journal.specs.declared.step.StepEntry.{StepEntry}
use Rattle.wbt_journal.specs.declared.timer.TimerEntry.{TimerEntry}
use Rattle.wbt_journal.specs.declared.timer.TimerEntry.TheVariants as entry
use Rattle.wbt_replay_moves.specs.Definition.State.{State, domain_of}
use Rattle.wbt_replay_moves.specs.declared.todo.TimerStep.TheVariants as step
use Rattle.wbt_replay_moves.specs.declared.todo.TimerTodo.{TimerTodo}
use Rattle.wbt_replay_moves.specs.declared.todo.TimerTodo.TheVariants as todo
use Rattle.wbt_replay_order.specs.Definition.Order.{is_ended}
use Rattle.wbt_replay_order.specs.Definition.Run.{state_at, last_state, journal_of}
use Rattle.wbt_replay_order.specs.Claims.Setting.{setting_of}

-- ---- what is printed

-- from these columns on, those after so many steps
abbrev pub columns_at : (homes : List ℕ) (columns : List Column) (steps : List StepEntry) → List Column
columns_at homes columns [] = columns
columns_at homes columns (step ∷ steps) = columns_at homes (columns_after homes 0 step columns) steps

-- what the journal's text prints of each domain after these first steps
abbrev pub printed_after : (journal : Journal) (steps : List StepEntry) → List Column
printed_after journal steps = columns_at journal.homes (first_columns 0 journal.timer journal.bases) steps

-- the bound that is printed beside a count
abbrev pub bound_in : (column : Column) → ℕ
bound_in column = column.base + column.peak

-- The line of step k is that of its entry, with what is printed after the steps up to it.
abbrev pub ArePrinted : (journal : Journal) → Type 0
ArePrinted journal =
    (k : ℕ) (step : StepEntry) → slice_get journal.steps k ≡ Some step
    → slice_get (step_lines (length journal.cpus) journal.homes 1 (first_columns 0 journal.timer journal.bases) journal.steps) k
    ≡ Some (step_line (length journal.cpus) (k + 1) step (printed_after journal (take (k + 1) journal.steps)))

-- ---- what is claimed of it

-- each count is at most the bound beside it
abbrev pub AreWithin : (columns : List Column) → Type 0
AreWithin [] = Unit {0}
AreWithin (column ∷ columns) = (column.count ≤ℤ pos (bound_in column)) × AreWithin columns

-- and so after each of these steps
abbrev pub AreWithinAfter : (homes : List ℕ) (columns : List Column) (steps : List StepEntry) → Type 0
AreWithinAfter homes columns [] = Unit {0}
AreWithinAfter homes columns (step ∷ steps) =
    AreWithin (columns_after homes 0 step columns) × AreWithinAfter homes (columns_after homes 0 step columns) steps

-- Each count that the journal's text prints after a step is at most the bound that it prints beside it.
abbrev pub IsBounded : (journal : Journal) → Type 0
IsBounded journal = AreWithinAfter journal.homes (first_columns 0 journal.timer journal.bases) journal.steps

-- The run was once just past its step k: it had made these steps of the journal, and no others.
abbrev pub WasPast : (trace : Trace) (k : ℕ) → Type 0
WasPast trace k = (moves : ℕ) × ((state_at trace moves).steps ≡ take (k + 1) (last_state trace).steps)

-- the exact counts of so many domains by the book: dirty pages plus pages under writeback
abbrev pub exact_counts : (trace : Trace) (book : Book) (n : ℕ) → List ℤ
exact_counts trace book zero = []
exact_counts trace book (suc n) = exact_counts trace book n ++ pos (domain_count (setting_of trace) book n) ∷ []

-- At each moment of the trace's run, what is printed after the steps so far is the exact count of each domain. And for each step of
-- the journal there was a moment just past it. So each count that the journal's text prints is the exact count after its step.
pub record IsCounted (trace : Trace) : Type 0 where
  pub always : (moves : ℕ)
      → map (λ c. c.count) (printed_after (journal_of trace) (state_at trace moves).steps)
      ≡ exact_counts trace (state_at trace moves).book (domains trace)
  pub past : (k : ℕ) → k < length (last_state trace).steps → WasPast trace k
  pub printed : ArePrinted (journal_of trace)

-- the relation's bounds of so many domains with their peaks in a state
abbrev pub bounds_at : (trace : Trace) (s : State) (n : ℕ) → List ℕ
bounds_at trace s zero = []
bounds_at trace s (suc n) = bounds_at trace s n ++ bound (setting_of trace) (λ d. (domain_of d s).peak) n ∷ []

-- The bounds that the journal's text prints after the steps so far are at each moment those of the relation, with the peaks of the
-- moment: the peak, a domain batch for each CPU, a cap for each writer, and twice the error for each context.
abbrev pub PrintsBound : (trace : Trace) → Type 0
PrintsBound trace = (moves : ℕ)
    → map bound_in (printed_after (journal_of trace) (state_at trace moves).steps)
    ≡ bounds_at trace (state_at trace moves) (domains trace)

-- At each moment of the trace's run the exact count of each domain is at most the closer bound, with the peaks of the moment.
abbrev pub IsBoundedCloser : (trace : Trace) → Type 0
IsBoundedCloser trace = (moves d : ℕ) → d < domains trace
    → domain_count (setting_of trace) (state_at trace moves).book d ≤ closer_bound (setting_of trace) (λ e. (domain_of e (state_at trace moves)).peak) d

-- the greatest hard limit that the timer has printed for a domain
abbrev pub greatest_printed : (domain : ℕ) (entries : List TimerEntry) → ℕ
greatest_printed domain [] = 0
greatest_printed domain (entry.Limits of now limits ∷ more) =
    if of == domain then max limits.hard (greatest_printed domain more) else greatest_printed domain more
greatest_printed domain (entry.Period of k ∷ more) = greatest_printed domain more

-- and the one that it is about to print: it has raised the peak, and the steps that publish come next
abbrev pub greatest_ahead : (domain hard : ℕ) (todos : List TimerTodo) → ℕ
greatest_ahead domain hard [] = 0
greatest_ahead domain hard (todo.Step (step.Unseal of) ∷ more) = if of == domain then hard else 0
greatest_ahead domain hard (todo.Step (step.Thresh of) ∷ more) = if of == domain then hard else 0
greatest_ahead domain hard (todo.Step (step.Publish of) ∷ more) = if of == domain then hard else 0
greatest_ahead domain hard other = 0

-- Each peak is the greatest hard limit that the timer has printed for its domain or is about to print.
abbrev pub PeaksArePrinted : (trace : Trace) → Type 0
PeaksArePrinted trace = (moves d : ℕ) → d < domains trace
    → (domain_of d (state_at trace moves)).peak
    ≡ max (greatest_printed d (state_at trace moves).timer.entries)
    (greatest_ahead d (state_at trace moves).timer.limits.hard (state_at trace moves).timer.todo)

-- The trace's run has ended when it stops, and has made no more steps than a replay may.
abbrev pub HasEnded : (trace : Trace) → Type 0
HasEnded trace = (is_ended (last_state trace) ≡ true) × (length (last_state trace).steps ≤ MOST_STEPS)
