-- What is told of each context of a strict device: the most pages that it had, and how many it may have. Counts are in pages.
use Rattle.std.specs.Prelude.{ℕ, zero, suc, max, ◌==◌, if◌then◌else◌, ℤ, pos, ◌+ℤ◌, List, [], ◌∷◌, ◌++◌, map, count_by, length}
use Rattle.wbt_counter.specs.History.{at_least_zero}
use Rattle.wbt_rules.specs.Strict.{is_strict}
use Rattle.wbt_trace.specs.Lawful.{writers_of}
use Rattle.wbt_trace.specs.declared.trace.Trace.{Trace}
use Rattle.wbt_strict.specs.Bound.{strict_bound}
use Rattle.wbt_strict.specs.Decision.{greatest_part}
use Rattle.wbt_journal.specs.Checks.{reads_by}
use Rattle.wbt_journal.specs.declared.entry.CheckEntry.{CheckEntry}
use Rattle.wbt_journal.specs.declared.journal.StrictLine.{StrictLine}
use Rattle.wbt_journal.specs.declared.step.StepEntry.{StepEntry}
use Rattle.wbt_replay_moves.specs.declared.state.Cpu.{Cpu}

-- ---- the most pages

-- how many pages a context has after a step
abbrev pub pages_after : (context : ℕ) (step : StepEntry) (pages : ℤ) → ℤ
pages_after context step pages = if step.context == context then pages +ℤ step.change else pages

-- the most that it has before any of these steps and after the last
abbrev pub most_from : (context : ℕ) (pages : ℤ) (steps : List StepEntry) → ℕ
most_from context pages [] = at_least_zero pages
most_from context pages (step ∷ steps) = max (at_least_zero pages) (most_from context (pages_after context step pages) steps)

-- the most that it has after any of a run's steps, before which it has none
abbrev pub most_pages : (context : ℕ) (steps : List StepEntry) → ℕ
most_pages context steps = most_from context (pos 0) steps

-- ---- the greatest threshold

-- the greatest part that the check reads for the context, in pages; 0 where it is of another context
abbrev pub part_in : (trace : Trace) (context : ℕ) (check : CheckEntry) → ℕ
part_in trace context check = if check.context == context then greatest_part (reads_by trace check) else 0

-- the greatest part that any of these checks reads for the context, in pages
abbrev pub part_among : (trace : Trace) (context : ℕ) (checks : List CheckEntry) → ℕ
part_among trace context [] = 0
part_among trace context (check ∷ checks) = max (part_in trace context check) (part_among trace context checks)

-- and of all checks of these CPUs
abbrev pub part_used : (trace : Trace) (context : ℕ) (cpus : List Cpu) → ℕ
part_used trace context [] = 0
part_used trace context (c ∷ cpus) = max (part_among trace context c.checks) (part_used trace context cpus)

-- ---- the lines

-- the context of each writer
abbrev pub writer_contexts : (trace : Trace) → List ℕ
writer_contexts trace = map (λ w. w.context) (writers_of trace.inodes trace.actions)

-- the number of the context's writers
abbrev pub writers_with : (trace : Trace) (context : ℕ) → ℕ
writers_with trace context = count_by (λ c. c == context) (writer_contexts trace)

-- how many pages the context may have, where its checks use this part at most
abbrev pub bound_with : (trace : Trace) (context part : ℕ) → ℕ
bound_with trace context part = strict_bound part trace.cpus (writers_with trace context) trace.cap

-- the line of a context: the most pages that it had, and its bound
abbrev pub line_for : (trace : Trace) (steps : List StepEntry) (cpus : List Cpu) (context : ℕ) → StrictLine
line_for trace steps cpus context = record { context = context; most = most_pages context steps; bound = bound_with trace context (part_used trace context cpus) }

-- of so many contexts
abbrev pub lines_of : (trace : Trace) (steps : List StepEntry) (cpus : List Cpu) (n : ℕ) → List StrictLine
lines_of trace steps cpus zero = []
lines_of trace steps cpus (suc n) = if is_strict trace n then lines_of trace steps cpus n ++ line_for trace steps cpus n ∷ [] else lines_of trace steps cpus n

-- the lines of the contexts of strict devices, in order
abbrev pub strict_lines : (trace : Trace) (steps : List StepEntry) (cpus : List Cpu) → List StrictLine
strict_lines trace steps cpus = lines_of trace steps cpus (length trace.contexts)
