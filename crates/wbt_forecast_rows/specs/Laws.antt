-- What is proved of rows, of any run.
use Rattle.std.specs.Prelude.{◌≡◌, ℕ, ◌+◌, ◌<◌, max, pos, List, sum_by}
use Rattle.wbt_trace.specs.declared.trace.Trace.{Trace}
use Rattle.wbt_journal.specs.Machine.{domains}
use Rattle.wbt_replay_moves.specs.Definition.State.{State}
use Rattle.wbt_replay_order.specs.Definition.Run.{bases_of}
use Rattle.wbt_forecast_rows.specs.Between.{IsAfter, entries_of, checks_of, steps_between, entries_between}
use Rattle.wbt_forecast_rows.specs.Counts.{homes_of, count_after}
use Rattle.wbt_forecast_rows.specs.Forecast.{Span, spans, totals_of}
use Rattle.wbt_forecast_rows.specs.Rows.{exact_count, interval_of, interval_row, context_row, task_between}
use Rattle.wbt_forecast_rows.specs.Tally.{tallied, tallies_at, first_tallies, after_all, cleared, row_told, totals_after}

-- ---- what adds up

-- what is counted between the first state and the last one is that up to the one in the middle and that from there
pub record AddUp (trace : Trace) (first mid last : State) : Type 0 where
  pub dirtied : (context : ℕ)
      → (context_row trace first last context).dirtied ≡ (context_row trace first mid context).dirtied + (context_row trace mid last context).dirtied
  pub written : (context : ℕ)
      → (context_row trace first last context).written ≡ (context_row trace first mid context).written + (context_row trace mid last context).written
  pub pages : (task : ℕ) → (task_between first last task).pages ≡ (task_between first mid task).pages + (task_between mid last task).pages
  pub checks : (task : ℕ) → (task_between first last task).checks ≡ (task_between first mid task).checks + (task_between mid last task).checks
  pub pauses : (task : ℕ) → (task_between first last task).pauses ≡ (task_between first mid task).pauses + (task_between mid last task).pauses
  pub ticks : (task : ℕ) → (task_between first last task).ticks ≡ (task_between first mid task).ticks + (task_between mid last task).ticks
  pub longest : (task : ℕ) → (task_between first last task).longest ≡ max (task_between first mid task).longest (task_between mid last task).longest

-- What is counted of two intervals, one after the other, is counted of both together.
unfoldable pub IntervalsAddUp : Type 0
IntervalsAddUp = (trace : Trace) (first mid last : State) → IsAfter first mid → IsAfter mid last → AddUp trace first mid last

-- no CPU has told anything between two states
pub record IsStill (first last : State) : Type 0 where
  pub entries : entries_of first.cpus ≡ entries_of last.cpus
  pub checks : checks_of first.cpus ≡ checks_of last.cpus

-- Of so many moves, each only lets steps, entries and checks grow at their ends, and one that leaves the interval tells nothing.
pub record IsToldInOrder (every : ℕ) (state : ℕ → State) (moves : ℕ) : Type 0 where
  pub grows : (n : ℕ) → n < moves → IsAfter (state n) (state (n + 1))
  pub still : (n : ℕ) → n < moves → (interval_of every (state (n + 1)) ≡ interval_of every (state n) → ⊥) → IsStill (state n) (state (n + 1))

-- the sums over intervals are what is counted between a run's first state and its last one
pub record SumUp (trace : Trace) (intervals : List Span) (first last : State) : Type 0 where
  pub dirtied : (context : ℕ) → sum_by (λ i. (context_row trace i.first i.last context).dirtied) intervals ≡ (context_row trace first last context).dirtied
  pub written : (context : ℕ) → sum_by (λ i. (context_row trace i.first i.last context).written) intervals ≡ (context_row trace first last context).written
  pub pages : (task : ℕ) → sum_by (λ i. (task_between i.first i.last task).pages) intervals ≡ (task_between first last task).pages
  pub checks : (task : ℕ) → sum_by (λ i. (task_between i.first i.last task).checks) intervals ≡ (task_between first last task).checks
  pub pauses : (task : ℕ) → sum_by (λ i. (task_between i.first i.last task).pauses) intervals ≡ (task_between first last task).pauses
  pub ticks : (task : ℕ) → sum_by (λ i. (task_between i.first i.last task).ticks) intervals ≡ (task_between first last task).ticks

-- The sums over all intervals of a run are those of the whole run.
unfoldable pub RunsSumUp : Type 0
RunsSumUp = (trace : Trace) (every : ℕ) (state : ℕ → State) (moves : ℕ) → IsToldInOrder every state moves
    → SumUp trace (spans every state moves) (state 0) (state moves)

-- ---- what tallies are

-- The changes that steps tell are those of the domains' exact counts.
abbrev pub AreExact : (trace : Trace) (first last : State) → Type 0
AreExact trace first last = (domain : ℕ) → domain < domains trace
    → count_after (homes_of trace) domain (pos (exact_count trace first domain)) (steps_between first last) ≡ pos (exact_count trace last domain)

-- The row that is made of an interval's tallies is the interval's row.
unfoldable pub RowsAreTold : Type 0
RowsAreTold = (trace : Trace) (every : ℕ) (first last : State) → AreExact trace first last
    → row_told (interval_of every last) (bases_of trace (domains trace)) last.domains last.contexts (tallied trace first last)
    ≡ interval_row trace every first last

-- An interval's tallies go on from those of an earlier state by what happened since.
unfoldable pub TalliesGoOn : Type 0
TalliesGoOn = (trace : Trace) (first mid last : State) → IsAfter first mid → IsAfter mid last
    → tallied trace first last ≡ after_all trace mid last (tallied trace first mid)

-- The next interval's tallies begin with the last one's, cleared, where no page has changed since.
unfoldable pub TalliesBeginAgain : Type 0
TalliesBeginAgain = (trace : Trace) (first last next : State) → AreExact trace first last → next.book ≡ last.book
    → cleared (tallied trace first last) ≡ tallies_at trace next

-- The first interval's tallies begin with nothing where no page is dirty.
unfoldable pub TalliesBegin : Type 0
TalliesBegin = (trace : Trace) (first : State) → ((domain : ℕ) → domain < domains trace → exact_count trace first domain ≡ 0)
    → tallies_at trace first ≡ first_tallies trace

-- A run's sums go on from those of an earlier state.
unfoldable pub TotalsGoOn : Type 0
TotalsGoOn = (first last : State) → IsAfter first last → totals_of last ≡ totals_after (entries_between first last) (totals_of first)
