-- What is proved of the run that a forecast tells.
use Rattle.std.specs.Prelude.{◌≡◌, ◌≢◌, ℕ, ◌+◌, ◌^◌, ◌<◌, ◌≤◌, true, List, length, count_by, flat_map, sum_by}
use Rattle.wbt_trace.specs.Lawful.{IsLawful}
use Rattle.wbt_trace.specs.declared.trace.Trace.{Trace}
use Rattle.wbt_journal.specs.Each.{Each}
use Rattle.wbt_journal.specs.Text.{fresh_of, done_of}
use Rattle.wbt_journal.specs.declared.entry.CheckEntry.{CheckEntry}
use Rattle.wbt_journal.specs.declared.entry.Entry.{Entry}
use Rattle.wbt_journal.specs.declared.journal.Ending.TheVariants as ending
use Rattle.wbt_journal.specs.declared.journal.Journal.{Journal}
use Rattle.wbt_replay_moves.specs.Definition.Forget.{forgotten}
use Rattle.wbt_replay_moves.specs.Definition.State.{State}
use Rattle.wbt_replay_order.specs.Definition.Order.{is_ended}
use Rattle.wbt_replay_order.specs.Definition.Run as replayed
use Rattle.wbt_replay_order.specs.Definition.Run.{state_at, last_state, journal_of}
use Rattle.wbt_replay_order.specs.Kept.Facts.{Facts}
use Rattle.wbt_replay_order.specs.Kept.InRange.{IsInRange}
use Rattle.wbt_forecast_rows.specs.Between.{IsAfter}
use Rattle.wbt_forecast_rows.specs.Counts.{is_dirtied_in, is_written_in, is_write_by, is_check_of, is_pause_of, pause_after}
use Rattle.wbt_forecast_rows.specs.Forecast.{Span, spans}
use Rattle.wbt_forecast_rows.specs.Laws.{AreExact, IsToldInOrder}
use Rattle.wbt_forecast_rows.specs.Rows.{exact_count, context_row, task_between}
use Rattle.wbt_forecast_rows.specs.declared.rows.DomainRow.{DomainRow}
use Rattle.wbt_forecast_rows.specs.declared.rows.IntervalRow.{IntervalRow}
use Rattle.wbt_replay_cut.specs.Cut.{Told, cut, IsWithin}
use Rattle.wbt_forecast_run.specs.Run.{most_moves, let_on, moved, state_after, forecast}

-- ---- ranges

-- Each state of the run is in range. So is what is made of any state in range where the run is let on, by a move, and where the state forgets.
pub record StaysSound (trace : Trace) : Type 0 where
  pub facts : Facts trace
  pub lets : (s : State) → IsInRange trace s → IsInRange trace (let_on s)
  pub on : (s : State) → IsInRange trace s → IsInRange trace (moved trace s)
  pub forgets : (s : State) → IsInRange trace s → IsInRange trace (forgotten s)
  pub at : (moves : ℕ) → IsInRange trace (state_after trace moves)

-- All numbers of a lawful trace's run stay in range.
abbrev pub RunsStaySound : Type 0
RunsStaySound = (trace : Trace) → IsLawful trace → StaysSound trace

-- ---- states whose lists are cut

-- A state whose lists are cut is let on where the whole one is, and moves as the whole one does. What is cut stays within the lists.
pub record MovesAsWhole (trace : Trace) (told : Told) (s : State) : Type 0 where
  pub ends : is_ended (cut told s) ≡ is_ended s
  pub lets : let_on (cut told s) ≡ cut told (let_on s)
  pub move : moved trace (cut told s) ≡ cut told (moved trace s)
  pub within_let : IsWithin told (let_on s)
  pub within : IsWithin told (moved trace s)

-- What the run does next doesn't depend on what is cut.
abbrev pub MovesAreCut : Type 0
MovesAreCut = (trace : Trace) (told : Told) (s : State) → IsWithin told s → MovesAsWhole trace told s

-- ---- the clock

-- A move that moves the clock changes nothing else but whose turn it is, the order lines that are left, and how many steps may be made.
abbrev pub ClockAlone : Type 0
ClockAlone = (trace : Trace) (s : State) → (moved trace s).now ≢ s.now
    → record (moved trace s) { now = s.now; rotation = s.rotation; orders = s.orders; most = s.most } ≡ s

-- ---- what is told

-- Each move of the trace's run only lets steps, entries and checks grow at their ends, and one that leaves the interval tells nothing.
pub record TellsInOrder (trace : Trace) : Type 0 where
  pub on : (s : State) → IsAfter s (moved trace s)
  pub after : (m n : ℕ) → m ≤ n → IsAfter (state_after trace m) (state_after trace n)
  pub told : (every moves : ℕ) → IsToldInOrder every (state_after trace) moves

-- What a run tells, it tells in order.
abbrev pub RunsTellInOrder : Type 0
RunsTellInOrder = (trace : Trace) → TellsInOrder trace

-- A run tells so many steps, entries and checks at most, however far it is let on.
abbrev pub FewAreTold : Type 0
FewAreTold = (trace : Trace) → IsLawful trace → (moves : ℕ)
    → length (state_after trace moves).steps + sum_by (λ c. length c.entries + length c.checks) (state_after trace moves).cpus ≤ 2 ^ 46

-- ---- exact counts

-- The changes that the steps between two states tell are those of the domains' exact counts. Before the first step nothing is dirty.
pub record TellsCounts (trace : Trace) : Type 0 where
  pub first : (d : ℕ) → exact_count trace (state_after trace 0) d ≡ 0
  pub between : (m n : ℕ) → m ≤ n → AreExact trace (state_after trace m) (state_after trace n)

-- The steps of a lawful trace's run tell its counts.
abbrev pub CountsAreTold : Type 0
CountsAreTold = (trace : Trace) → IsLawful trace → TellsCounts trace

-- ---- the end

-- The run of a lawful trace ends before it has made the most moves.
abbrev pub RunsEnd : Type 0
RunsEnd = (trace : Trace) → IsLawful trace → is_ended (state_after trace most_moves) ≡ true

-- ---- where the run is a replay's

-- all entries of a journal, those of CPU 0 first
abbrev pub entries_in : (journal : Journal) → List Entry
entries_in journal = flat_map (λ part. part.entries) journal.cpus

-- all checks of a journal, those of CPU 0 first
abbrev pub checks_in : (journal : Journal) → List CheckEntry
checks_in journal = flat_map (λ part. part.checks) journal.cpus

-- What intervals count adds up to what the journal tells.
pub record SumsAreTold (trace : Trace) (intervals : List Span) (journal : Journal) : Type 0 where
  pub dirtied : (k : ℕ) → sum_by (λ i. (context_row trace i.first i.last k).dirtied) intervals ≡ count_by (is_dirtied_in trace k) (entries_in journal)
  pub written : (k : ℕ) → sum_by (λ i. (context_row trace i.first i.last k).written) intervals ≡ count_by (is_written_in trace k) (entries_in journal)
  pub pages : (t : ℕ) → sum_by (λ i. (task_between i.first i.last t).pages) intervals ≡ count_by (is_write_by t) (entries_in journal)
  pub checks : (t : ℕ) → sum_by (λ i. (task_between i.first i.last t).checks) intervals ≡ count_by (is_check_of t) (checks_in journal)
  pub pauses : (t : ℕ) → sum_by (λ i. (task_between i.first i.last t).pauses) intervals ≡ count_by (is_pause_of t) (checks_in journal)
  pub ticks : (t : ℕ) → sum_by (λ i. (task_between i.first i.last t).ticks) intervals ≡ sum_by (pause_after t) (checks_in journal)

-- The run goes through the states of a replay, but for how many steps may be made. So its sums and its ending are those of the replay's journal.
pub record IsAsReplayed (trace : Trace) : Type 0 where
  pub at : (moves : ℕ) → moves ≤ replayed.most_moves → record (state_after trace moves) { most = (state_at trace moves).most } ≡ state_at trace moves
  pub last : record (state_after trace most_moves) { most = (last_state trace).most } ≡ last_state trace
  pub sums : (every : ℕ) → SumsAreTold trace (spans every (state_after trace) most_moves) (journal_of trace)
  pub dirtied : (every : ℕ) → (forecast trace every).totals.dirtied ≡ fresh_of (journal_of trace).cpus
  pub cleaned : (every : ℕ) → (forecast trace every).totals.cleaned ≡ done_of (journal_of trace).cpus
  pub ending : (every : ℕ) → (forecast trace every).ending ≡ (journal_of trace).ending

-- The forecast of a lawful trace tells the run that a replay tells, where that isn't spent.
abbrev pub AsReplayed : Type 0
AsReplayed = (trace : Trace) → IsLawful trace → (journal_of trace).ending ≢ ending.Spent → IsAsReplayed trace

-- ---- bounds

-- the count of a domain's row and its greatest count are at most the bound beside them
abbrev pub IsBounded : (row : DomainRow) → Type 0
IsBounded row = (row.count ≤ row.bound) × (row.most ≤ row.bound)

-- and so in each row of an interval
abbrev pub AreBounded : (row : IntervalRow) → Type 0
AreBounded row = Each IsBounded row.domains

-- Each count of a forecast and each greatest count is within its bound, for every run: one of up to 2^40 steps.
abbrev pub RowsAreBounded : Type 0
RowsAreBounded = (trace : Trace) → IsLawful trace → (every : ℕ) → Each AreBounded (forecast trace every).rows
