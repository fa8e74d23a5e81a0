-- What is counted of steps, entries and checks, for each domain, context and task.
use Rattle.std.specs.Prelude.{ℕ, max, Bool, false, ◌&&◌, ◌==◌, nat_lt, if◌then◌else◌, ℤ, ◌+ℤ◌, List, [], ◌∷◌, map}
use Rattle.wbt_counter.specs.History.{at_least_zero}
use Rattle.wbt_journal.specs.Machine.{page_context}
use Rattle.wbt_journal.specs.Steps.{is_some_of, change_in}
use Rattle.wbt_journal.specs.declared.entry.CheckEntry.{CheckEntry}
use Rattle.wbt_journal.specs.declared.entry.Entry.{Entry}
use Rattle.wbt_journal.specs.declared.entry.Entry.TheVariants as entry
use Rattle.wbt_journal.specs.declared.step.StepEntry.{StepEntry}
use Rattle.wbt_trace.specs.declared.trace.Trace.{Trace}

-- ---- domains

-- the domain of each context: its cgroup, or 0
abbrev pub homes_of : (trace : Trace) → List ℕ
homes_of trace = map (λ c. c.domain) trace.contexts

-- a domain's exact count after these steps, from the count before the first of them
abbrev pub count_after : (homes : List ℕ) (domain : ℕ) (count : ℤ) (steps : List StepEntry) → ℤ
count_after homes domain count [] = count
count_after homes domain count (step ∷ steps) = count_after homes domain (count +ℤ change_in homes domain step) steps

-- its greatest exact count after any of these steps; 0 where there is none
abbrev pub most_after : (homes : List ℕ) (domain : ℕ) (count : ℤ) (steps : List StepEntry) → ℕ
most_after homes domain count [] = 0
most_after homes domain count (step ∷ steps) =
    max (at_least_zero (count +ℤ change_in homes domain step)) (most_after homes domain (count +ℤ change_in homes domain step) steps)

-- ---- contexts

-- a fresh write of a page of the context
abbrev pub is_dirtied_in : (trace : Trace) (context : ℕ) (told : Entry) → Bool
is_dirtied_in trace context (entry.Write task page fresh) = fresh && is_some_of context (page_context trace page)
is_dirtied_in trace context other = false

-- the end of the writeback of a page of the context
abbrev pub is_written_in : (trace : Trace) (context : ℕ) (told : Entry) → Bool
is_written_in trace context (entry.Done flusher page) = is_some_of context (page_context trace page)
is_written_in trace context other = false

-- ---- tasks

-- a write by the task
abbrev pub is_write_by : (task : ℕ) (told : Entry) → Bool
is_write_by task (entry.Write writer page fresh) = writer == task
is_write_by task other = false

-- a check of the task
abbrev pub is_check_of : (task : ℕ) (check : CheckEntry) → Bool
is_check_of task check = check.task == task

-- how many ticks the task is to pause after a check; 0 after a check of another task
abbrev pub pause_after : (task : ℕ) (check : CheckEntry) → ℕ
pause_after task check = if is_check_of task check then check.decision.pause else 0

-- a pause of the task begins with the check
abbrev pub is_pause_of : (task : ℕ) (check : CheckEntry) → Bool
is_pause_of task check = nat_lt 0 (pause_after task check)

-- the longest pause of the task that begins with one of these checks, in ticks; 0 where none does
abbrev pub longest_pause : (task : ℕ) (checks : List CheckEntry) → ℕ
longest_pause task [] = 0
longest_pause task (check ∷ checks) = max (pause_after task check) (longest_pause task checks)
