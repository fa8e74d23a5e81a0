-- What an audit says of a journal for a trace.
use Rattle.std.specs.Prelude.{ℕ, ◌+◌, Bool, true, false, ◌&&◌, ◌==◌, nat_le, Option, Some, None, List, [], ◌∷◌, count_by}
use Rattle.wbt_trace.specs.declared.trace.TaskLine.{TaskLine}
use Rattle.wbt_trace.specs.declared.trace.Trace.{Trace}
use Rattle.wbt_journal.specs.declared.journal.Journal.{Journal}
use Rattle.wbt_journal.specs.Checks.{with_marks}
use Rattle.wbt_journal.specs.Machine.{rests_last}
use Rattle.wbt_journal.specs.Verdict as journal
use Rattle.wbt_journal.specs.Verdict.{judged_by, verdict_of, decisions_fault, checks_fault, timers_fault, waits_fault, pages_fault, ledger_fault, flights_fault, bound_fault, ending_fault}
use Rattle.wbt_audit.specs.declared.verdict.Verdict.{Verdict}
use Rattle.wbt_audit.specs.declared.verdict.Verdict.TheVariants.{Lawful, Broken, Unsettled}

-- how many tasks run on a CPU
abbrev pub tasks_on : (trace : Trace) (cpu : ℕ) → ℕ
tasks_on trace cpu = count_by (λ (task : TaskLine). task.cpu == cpu) trace.tasks

-- No line tells where a task ends whose last action is a rest. Where its CPU has another task, that place matters.
abbrev pub is_unsettled : (trace : Trace) (task cpu : ℕ) → Bool
is_unsettled trace task cpu = rests_last trace task && nat_le 2 (tasks_on trace cpu)

-- the least such task, from a task on
abbrev pub unsettled_from : (trace : Trace) (task : ℕ) (lines : List TaskLine) → Option ℕ
unsettled_from trace task [] = None
unsettled_from trace task (line ∷ lines) = elim (is_unsettled trace task line.cpu) [ true ↦ Some task | false ↦ unsettled_from trace (task + 1) lines ]

-- the least task of which the trace leaves open where it ends, if there is one
abbrev pub unsettled_task : (trace : Trace) → Option ℕ
unsettled_task trace = unsettled_from trace 0 trace.tasks

-- the verdict of the points on what a run leaves, and of those from where decisions are judged on
abbrev pub verdict_of_runs : (trace : Trace) (j : Journal) → journal.Verdict
verdict_of_runs trace j =
    judged_by 12 (pages_fault trace j) (judged_by 13 (ledger_fault trace j) (judged_by 14 (flights_fault trace j) (judged_by 15 (bound_fault trace j)
    (judged_by 16 (ending_fault trace j) journal.lawful))))

-- the verdict of the points from 7 on: what checks decided, where they stand, the timer, waiting lists, and what a run leaves
abbrev pub verdict_of_checks : (trace : Trace) (j : Journal) → journal.Verdict
verdict_of_checks trace j =
    judged_by 7 (decisions_fault trace j) (judged_by 8 (checks_fault trace j) (judged_by 9 (timers_fault trace j) (judged_by 10 (waits_fault trace j)
    (verdict_of_runs trace j))))

-- a verdict of the definition as an audit tells it
abbrev pub told_verdict : (verdict : journal.Verdict) → Verdict
told_verdict journal.lawful = Lawful
told_verdict (journal.broken point line) = Broken point line

-- a verdict, but for an unsettled task, which comes first
abbrev pub settled : (which : Option ℕ) (verdict : Verdict) → Verdict
settled None verdict = verdict
settled (Some task) verdict = Unsettled task

-- An unsettled task comes first. Else the verdict is that of the journal with each mark that its lines call for.
unfoldable pub audit_of : (trace : Trace) (j : Journal) → Verdict
audit_of trace j = settled (unsettled_task trace) (told_verdict (verdict_of trace (with_marks trace j)))
