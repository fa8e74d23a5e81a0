use Rattle.std.proofs.Common.{[], Some, ap, ◌∙◌}
use Rattle.wbt_audit_walk.proofs.Common.{count_fault, folds_in, versions_after, all_told, items_of, first_cpu_line}
use Rattle.wbt_journal.specs.Verdict.{counts_fault}
use Rattle.wbt_audit_reads.specs.Counting.{KeepsCounts}
use Rattle.wbt_audit_walk.proofs.Walking.{begins_walk, step_on, stops_at, ends_walk, nearer}
use Rattle.wbt_audit_reads.proofs.counts.counts_fault.Goals as goal

pub steps-init : goal.steps-init
steps-init c =
    let trace = c.args.trace.now in
    let journal = c.args.journal.now in
    let all = folds_in (all_told journal) in
    begins_walk (count_fault trace all) versions_after (KeepsCounts trace all c.in_ok-counts.counts) [] c.in_ok-walk.walk (first_cpu_line journal) (items_of journal)
    c.in_ok-counts.ensures c.in_ok-walk.ensures.line c.in_ok-walk.ensures.items

pub steps-preserved : goal.steps-preserved
steps-preserved c =
    let trace = c.args.trace.now in
    let all = folds_in (all_told c.args.journal.now) in
    step_on (count_fault trace all) versions_after (KeepsCounts trace all c.steps.counts) (KeepsCounts trace all c.judge.new.self) (counts_fault trace c.args.journal.now)
    c.steps.walk c.in-Some.step c.next.new.self c.judge.result c.steps.invariant (rw c.in-Some.is at c.in_ok-step.ensures) (c.judge.ensures trace all) c.in_default-judge.is

pub steps-smaller : goal.steps-smaller
steps-smaller c = nearer c.steps.walk c.in-Some.step c.next.new.self (rw c.in-Some.is at c.in_ok-step.ensures)

pub returns-in-Some-judge : goal.returns-in-Some-judge
returns-in-Some-judge c =
    let trace = c.args.trace.now in
    let all = folds_in (all_told c.args.journal.now) in
    ap Some c.in_ok-line.ensures
    ∙ stops_at (count_fault trace all) versions_after (KeepsCounts trace all c.steps.counts) (KeepsCounts trace all c.judge.new.self) (counts_fault trace c.args.journal.now)
    c.steps.walk c.in-Some.step c.next.new.self c.in-Some-judge.at c.steps.invariant (rw c.in-Some.is at c.in_ok-step.ensures)
    (rw c.in-Some-judge.is at (c.judge.ensures trace all))

pub returns : goal.returns
returns c =
    let trace = c.args.trace.now in
    let all = folds_in (all_told c.args.journal.now) in
    ends_walk (count_fault trace all) versions_after (KeepsCounts trace all c.steps.counts) (counts_fault trace c.args.journal.now) c.steps.walk c.steps.invariant
    (rw c.in_default.is at c.in_ok-step.ensures)
