-- What a run that isn't cut off has done: every page of every write was told, and nothing is left.
use Rattle.std.specs.Prelude.{◌≡◌, ℕ, ◌<◌, ◌==◌, if◌then◌else◌, List, [], ◌∷◌, length, flat_map}
use Rattle.wbt_trace.specs.declared.trace.Trace.{Trace}
use Rattle.wbt_journal.specs.Machine.{pages_of_task}
use Rattle.wbt_journal.specs.declared.entry.Entry.{Entry}
use Rattle.wbt_journal.specs.declared.entry.Entry.TheVariants as entry
use Rattle.wbt_journal.specs.declared.journal.Ending.TheVariants as ending
use Rattle.wbt_replay_moves.specs.Definition.State.{State, cpu_of}
use Rattle.wbt_replay_order.specs.Definition.Run.{last_state, journal_of}
use Rattle.wbt_replay_order.specs.Definition.Tasks.{task_cpu}

-- the pages that entries tell as written by a task
abbrev pub written_in : (task : ℕ) (entry : Entry) → List ℕ
written_in task (entry.Write by page fresh) = if by == task then page ∷ [] else []
written_in task other = []

-- the pages that a task has written in a state, in order, by the entries of its CPU
abbrev pub written_by : (task : ℕ) (s : State) (trace : Trace) → List ℕ
written_by task s trace = flat_map (written_in task) (cpu_of (task_cpu trace task) s).entries

-- the run left no page dirty or under writeback, and each task wrote all its pages in order
pub record IsComplete (trace : Trace) : Type 0 where
  pub left : (journal_of trace).left ≡ []
  pub written : (task : ℕ) → task < length trace.tasks → written_by task (last_state trace) trace ≡ pages_of_task trace task

-- where no CPU is halted and the run isn't spent
abbrev pub CompletesAll : (trace : Trace) → Type 0
CompletesAll trace = (journal_of trace).ending ≡ ending.Done → IsComplete trace
