-- The writers: the distinct pairs of a task and a context of which it writes pages.
use Rattle.std.specs.Prelude.{ℕ, zero, suc, Bool, ◌&&◌, ◌==◌, if◌then◌else◌, List, [], ◌∷◌, ◌++◌}
use Rattle.std.specs.List.{list_any}
use Rattle.wbt_trace.specs.declared.writers.Writer.{Writer}

-- the pair is a writer
abbrev pub is_writer : (task context : ℕ) (writers : List Writer) → Bool
is_writer task context writers = list_any (λ writer. writer.task == task && writer.context == context) writers

-- the writers with this one, which is added where it is new
abbrev pub with_writer : (task context : ℕ) (writers : List Writer) → List Writer
with_writer task context writers =
    if is_writer task context writers then writers else writers ++ (record { task = task; context = context }) ∷ []

-- a task's writers of so many contexts, from one on, in order
abbrev pub writers_of_task : (task context contexts : ℕ) (writers : List Writer) → List Writer
writers_of_task task context zero writers = []
writers_of_task task context (suc contexts) writers =
    if is_writer task context writers then
    record { task = task; context = context } ∷ writers_of_task task (suc context) contexts writers
    else writers_of_task task (suc context) contexts writers

-- the writers of so many tasks, from one on, in order of task and then of context
abbrev pub writers_from : (task tasks contexts : ℕ) (writers : List Writer) → List Writer
writers_from task zero contexts writers = []
writers_from task (suc tasks) contexts writers = writers_of_task task 0 contexts writers ++ writers_from (suc task) tasks contexts writers

-- the writers of a machine's tasks and contexts, in order of task and then of context
abbrev pub writers_in_order : (tasks contexts : ℕ) (writers : List Writer) → List Writer
writers_in_order tasks contexts writers = writers_from 0 tasks contexts writers
