-- What is counted while an interval goes on, and the row that is made of it.
use Rattle.std.specs.Prelude.{ℕ, ◌+◌, max, pos, ◌+ℤ◌, List, [], ◌∷◌, length, map, filter, replicate, count_by, sum_by, get_or}
use Rattle.wbt_counter.specs.History.{at_least_zero}
use Rattle.wbt_trace.specs.declared.trace.Trace.{Trace}
use Rattle.wbt_journal.specs.Machine.{domains, numbers}
use Rattle.wbt_journal.specs.Steps.{change_in}
use Rattle.wbt_journal.specs.Text.{is_fresh, is_done}
use Rattle.wbt_journal.specs.declared.entry.CheckEntry.{CheckEntry}
use Rattle.wbt_journal.specs.declared.entry.Entry.{Entry}
use Rattle.wbt_journal.specs.declared.step.StepEntry.{StepEntry}
use Rattle.wbt_replay_moves.specs.Definition.State.{State, no_domain, no_context}
use Rattle.wbt_replay_moves.specs.declared.state.Domain.{Domain}
use Rattle.wbt_replay_moves.specs.declared.state.Writeback.{Writeback}
use Rattle.wbt_forecast_rows.specs.Between.{steps_between, entries_between, checks_between}
use Rattle.wbt_forecast_rows.specs.Counts.{homes_of, count_after, most_after, is_dirtied_in, is_written_in, is_write_by, is_check_of, is_pause_of, pause_after, longest_pause}
use Rattle.wbt_forecast_rows.specs.Rows.{exact_count, has_row}
use Rattle.wbt_forecast_rows.specs.declared.forecast.Totals.{Totals}
use Rattle.wbt_forecast_rows.specs.declared.rows.ContextRow.{ContextRow}
use Rattle.wbt_forecast_rows.specs.declared.rows.DomainRow.{DomainRow}
use Rattle.wbt_forecast_rows.specs.declared.rows.IntervalRow.{IntervalRow}
use Rattle.wbt_forecast_rows.specs.declared.rows.TaskRow.{TaskRow}
use Rattle.wbt_forecast_rows.specs.declared.tally.ContextTally.{ContextTally}
use Rattle.wbt_forecast_rows.specs.declared.tally.DomainTally.{DomainTally}
use Rattle.wbt_forecast_rows.specs.declared.tally.TaskTally.{TaskTally}

-- what is counted of each domain, context and task, by number
pub record Tallies : Type 0 where
  pub domains : List DomainTally
  pub contexts : List ContextTally
  pub tasks : List TaskTally

-- what becomes of each of some items by its number, where the first one has this number
abbrev pub by_number : {A B : Type 0} (f : ℕ → A → B) (number : ℕ) (items : List A) → List B
by_number f number [] = []
by_number f number (item ∷ items) = f number item ∷ by_number f (number + 1) items

-- ---- what is counted in

-- a domain's tally after a step
abbrev pub domain_next : (homes : List ℕ) (domain : ℕ) (step : StepEntry) (tally : DomainTally) → DomainTally
domain_next homes domain step tally = record {
  count = tally.count +ℤ change_in homes domain step;
  most = max tally.most (at_least_zero (tally.count +ℤ change_in homes domain step));
}

-- a domain's tally after these steps
abbrev pub domain_after : (homes : List ℕ) (steps : List StepEntry) (domain : ℕ) (tally : DomainTally) → DomainTally
domain_after homes steps domain tally = record {
  count = count_after homes domain tally.count steps;
  most = max tally.most (most_after homes domain tally.count steps);
}

-- a context's tally after these entries
abbrev pub context_after : (trace : Trace) (entries : List Entry) (context : ℕ) (tally : ContextTally) → ContextTally
context_after trace entries context tally = record {
  dirtied = tally.dirtied + count_by (is_dirtied_in trace context) entries;
  written = tally.written + count_by (is_written_in trace context) entries;
}

-- a task's tally after these entries
abbrev pub task_after_entries : (entries : List Entry) (task : ℕ) (tally : TaskTally) → TaskTally
task_after_entries entries task tally = record tally { pages = tally.pages + count_by (is_write_by task) entries }

-- a task's tally after these checks
abbrev pub task_after_checks : (checks : List CheckEntry) (task : ℕ) (tally : TaskTally) → TaskTally
task_after_checks checks task tally = record tally {
  checks = tally.checks + count_by (is_check_of task) checks;
  pauses = tally.pauses + count_by (is_pause_of task) checks;
  ticks = tally.ticks + sum_by (pause_after task) checks;
  longest = max tally.longest (longest_pause task checks);
}

-- the tallies after these steps
abbrev pub after_steps : (trace : Trace) (steps : List StepEntry) (t : Tallies) → Tallies
after_steps trace steps t = record t { domains = by_number (domain_after (homes_of trace) steps) 0 t.domains }

-- the tallies after these entries
abbrev pub after_entries : (trace : Trace) (entries : List Entry) (t : Tallies) → Tallies
after_entries trace entries t = record t {
  contexts = by_number (context_after trace entries) 0 t.contexts;
  tasks = by_number (task_after_entries entries) 0 t.tasks;
}

-- the tallies after these checks
abbrev pub after_checks : (checks : List CheckEntry) (t : Tallies) → Tallies
after_checks checks t = record t { tasks = by_number (task_after_checks checks) 0 t.tasks }

-- the tallies after what happened between two states
abbrev pub after_all : (trace : Trace) (first last : State) (t : Tallies) → Tallies
after_all trace first last t =
    after_checks (checks_between first last) (after_entries trace (entries_between first last) (after_steps trace (steps_between first last) t))

-- ---- where an interval begins

-- nothing was written of a context
abbrev pub no_pages : ContextTally
no_pages = record { dirtied = 0; written = 0 }

-- nothing was told of a task
abbrev pub no_work : TaskTally
no_work = record { pages = 0; checks = 0; pauses = 0; ticks = 0; longest = 0 }

-- before the first step of a run: nothing is dirty
abbrev pub first_tallies : (trace : Trace) → Tallies
first_tallies trace = record {
  domains = replicate (domains trace) (record { count = pos 0; most = 0 });
  contexts = replicate (length trace.contexts) no_pages;
  tasks = replicate (length trace.tasks) no_work;
}

-- a domain's tally at the beginning of the next interval: its count stays
abbrev pub domain_again : (tally : DomainTally) → DomainTally
domain_again tally = record { count = tally.count; most = 0 }

-- the tallies at the beginning of the next interval
abbrev pub cleared : (t : Tallies) → Tallies
cleared t = record {
  domains = map domain_again t.domains;
  contexts = map (λ tally. no_pages) t.contexts;
  tasks = map (λ tally. no_work) t.tasks;
}

-- a domain's tally at the beginning of an interval, by its exact count in the state with which it begins
abbrev pub domain_at : (trace : Trace) (first : State) (domain : ℕ) → DomainTally
domain_at trace first domain = record { count = pos (exact_count trace first domain); most = 0 }

-- the tallies at the beginning of an interval
abbrev pub tallies_at : (trace : Trace) (first : State) → Tallies
tallies_at trace first = record {
  domains = map (domain_at trace first) (numbers 0 (domains trace));
  contexts = map (λ context. no_pages) (numbers 0 (length trace.contexts));
  tasks = map (λ task. no_work) (numbers 0 (length trace.tasks));
}

-- the tallies of an interval so far, between its first state and another one
abbrev pub tallied : (trace : Trace) (first last : State) → Tallies
tallied trace first last = after_all trace first last (tallies_at trace first)

-- ---- the row

-- a domain's row by its tally, its bound without the peak, and the domain
abbrev pub domain_told : (bases : List ℕ) (domains : List Domain) (domain : ℕ) (tally : DomainTally) → DomainRow
domain_told bases domains domain tally = record {
  domain = domain;
  count = at_least_zero tally.count;
  most = tally.most;
  hard = (get_or domains domain no_domain).limits.hard;
  bound = get_or bases domain 0 + (get_or domains domain no_domain).peak;
}

-- a context's row by its tally, and the context
abbrev pub context_told : (contexts : List Writeback) (context : ℕ) (tally : ContextTally) → ContextRow
context_told contexts context tally = record {
  context = context;
  dirtied = tally.dirtied;
  written = tally.written;
  bandwidth = (get_or contexts context no_context).estimate.bw;
  average = (get_or contexts context no_context).estimate.avg;
  ratelimit = (get_or contexts context no_context).estimate.ratelimit;
}

-- a task's row by its tally
abbrev pub task_told : (task : ℕ) (tally : TaskTally) → TaskRow
task_told task tally = record {
  task = task;
  pages = tally.pages;
  checks = tally.checks;
  pauses = tally.pauses;
  ticks = tally.ticks;
  longest = tally.longest;
}

-- the row of an interval by its tallies, and what there is of domains and contexts after it
abbrev pub row_told : (number : ℕ) (bases : List ℕ) (domains : List Domain) (contexts : List Writeback) (t : Tallies) → IntervalRow
row_told number bases domains contexts t = record {
  number = number;
  domains = by_number (domain_told bases domains) 0 t.domains;
  contexts = by_number (context_told contexts) 0 t.contexts;
  tasks = filter has_row (by_number task_told 0 t.tasks);
}

-- ---- the sums of a run

-- the sums after these entries
abbrev pub totals_after : (entries : List Entry) (totals : Totals) → Totals
totals_after entries totals = record {
  dirtied = totals.dirtied + count_by is_fresh entries;
  cleaned = totals.cleaned + count_by is_done entries;
}
