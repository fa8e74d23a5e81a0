-- Names of writers.
use Rattle.std.specs.Prelude.{ℕ, ◌<◌, List, length, get_or}
use Rattle.wbt_num.specs.declared.most.TheConstants.{MOST_CONTEXTS, MOST_TASKS}
use Rattle.wbt_trace.specs.declared.writers.Writer.{Writer}

-- what stands for a writer that isn't there
abbrev pub no_name : Writer
no_name = record { task = 0; context = 0 }

-- each is of a task and a context that a machine may have
abbrev pub AreInRange : (names : List Writer) → Type 0
AreInRange names = (n : ℕ) → n < length names → ((get_or names n no_name).task < MOST_TASKS) × ((get_or names n no_name).context < MOST_CONTEXTS)
