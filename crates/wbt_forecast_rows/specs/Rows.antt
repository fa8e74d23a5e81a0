-- The rows of an interval: what happened between the state with which it began and the last one in it.
use Rattle.std.specs.Prelude.{ℕ, ◌+◌, ◌/◌, Bool, ◌||◌, nat_lt, pos, List, length, map, filter, count_by, sum_by}
use Rattle.wbt_trace.specs.declared.trace.Trace.{Trace}
use Rattle.wbt_grant.specs.State.{domain_count}
use Rattle.wbt_journal.specs.Machine.{domains, numbers}
use Rattle.wbt_journal.specs.declared.entry.CheckEntry.{CheckEntry}
use Rattle.wbt_journal.specs.declared.entry.Entry.{Entry}
use Rattle.wbt_replay_moves.specs.Definition.State.{State, domain_of, writeback_of}
use Rattle.wbt_replay_order.specs.Claims.Setting.{setting_of}
use Rattle.wbt_replay_order.specs.Definition.Run.{base_of}
use Rattle.wbt_forecast_rows.specs.Between.{steps_between, entries_between, checks_between}
use Rattle.wbt_forecast_rows.specs.Counts.{homes_of, most_after, is_dirtied_in, is_written_in, is_write_by, is_check_of, is_pause_of, pause_after, longest_pause}
use Rattle.wbt_forecast_rows.specs.declared.rows.ContextRow.{ContextRow}
use Rattle.wbt_forecast_rows.specs.declared.rows.DomainRow.{DomainRow}
use Rattle.wbt_forecast_rows.specs.declared.rows.IntervalRow.{IntervalRow}
use Rattle.wbt_forecast_rows.specs.declared.rows.TaskRow.{TaskRow}

-- a domain's exact count by the book: its pages that are dirty or under writeback
abbrev pub exact_count : (trace : Trace) (s : State) (domain : ℕ) → ℕ
exact_count trace s domain = domain_count (setting_of trace) s.book domain

-- the interval of a moment: each has so many ticks
abbrev pub interval_of : (every : ℕ) (s : State) → ℕ
interval_of every s = s.now / every

-- the row of a domain, with the bound that a journal prints beside its count
abbrev pub domain_row : (trace : Trace) (first last : State) (domain : ℕ) → DomainRow
domain_row trace first last domain = record {
  domain = domain;
  count = exact_count trace last domain;
  most = most_after (homes_of trace) domain (pos (exact_count trace first domain)) (steps_between first last);
  hard = (domain_of domain last).limits.hard;
  bound = base_of trace domain + (domain_of domain last).peak;
}

-- the row of a context, with the numbers of its newest estimate
abbrev pub context_row : (trace : Trace) (first last : State) (context : ℕ) → ContextRow
context_row trace first last context = record {
  context = context;
  dirtied = count_by (is_dirtied_in trace context) (entries_between first last);
  written = count_by (is_written_in trace context) (entries_between first last);
  bandwidth = (writeback_of context last).estimate.bw;
  average = (writeback_of context last).estimate.avg;
  ratelimit = (writeback_of context last).estimate.ratelimit;
}

-- the row of a task, by all entries and checks
abbrev pub task_row : (entries : List Entry) (checks : List CheckEntry) (task : ℕ) → TaskRow
task_row entries checks task = record {
  task = task;
  pages = count_by (is_write_by task) entries;
  checks = count_by (is_check_of task) checks;
  pauses = count_by (is_pause_of task) checks;
  ticks = sum_by (pause_after task) checks;
  longest = longest_pause task checks;
}

-- the row of a task, by what was told between two states
abbrev pub task_between : (first last : State) (task : ℕ) → TaskRow
task_between first last task = task_row (entries_between first last) (checks_between first last) task

-- A task has a row where it wrote or was checked. Each pause begins with a check.
abbrev pub has_row : (row : TaskRow) → Bool
has_row row = nat_lt 0 row.pages || nat_lt 0 row.checks

-- the row of an interval, whose steps were made between its first and its last state
abbrev pub interval_row : (trace : Trace) (every : ℕ) (first last : State) → IntervalRow
interval_row trace every first last = record {
  number = interval_of every last;
  domains = map (domain_row trace first last) (numbers 0 (domains trace));
  contexts = map (context_row trace first last) (numbers 0 (length trace.contexts));
  tasks = filter has_row (map (task_between first last) (numbers 0 (length trace.tasks)));
}
