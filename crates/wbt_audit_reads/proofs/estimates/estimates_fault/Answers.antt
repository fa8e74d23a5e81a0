use Rattle.std.proofs.Common.{Some, ap, ◌∙◌}
use Rattle.wbt_audit_walk.proofs.Common.{estimate_fault, opened_at, sight_after, all_told, items_of, first_cpu_line}
use Rattle.wbt_journal.specs.Estimates.{no_sight}
use Rattle.wbt_journal.specs.Verdict.{estimates_fault}
use Rattle.wbt_audit_reads.specs.Estimating.{KeepsEstimates}
use Rattle.wbt_audit_walk.proofs.Walking.{begins_walk, step_on, stops_at, ends_walk, nearer}
use Rattle.wbt_audit_reads.proofs.estimates.estimates_fault.Goals as goal

pub steps-init : goal.steps-init
steps-init c =
    let trace = c.args.trace.now in
    let journal = c.args.journal.now in
    let all = all_told journal in
    let opened = opened_at journal.timer in
    begins_walk (estimate_fault trace opened all) sight_after (KeepsEstimates trace opened all c.in_ok-estimates.estimates) no_sight c.in_ok-walk.walk (first_cpu_line journal) (items_of journal)
    c.in_ok-estimates.ensures c.in_ok-walk.ensures.line c.in_ok-walk.ensures.items

pub steps-preserved : goal.steps-preserved
steps-preserved c =
    let trace = c.args.trace.now in
    let all = all_told c.args.journal.now in
    let opened = opened_at c.args.journal.now.timer in
    step_on (estimate_fault trace opened all) sight_after (KeepsEstimates trace opened all c.steps.estimates) (KeepsEstimates trace opened all c.judge.new.self) (estimates_fault trace c.args.journal.now)
    c.steps.walk c.in-Some.step c.next.new.self c.judge.result c.steps.invariant (rw c.in-Some.is at c.in_ok-step.ensures) (c.judge.ensures trace opened all) c.in_default-judge.is

pub steps-smaller : goal.steps-smaller
steps-smaller c = nearer c.steps.walk c.in-Some.step c.next.new.self (rw c.in-Some.is at c.in_ok-step.ensures)

pub returns-in-Some-judge : goal.returns-in-Some-judge
returns-in-Some-judge c =
    let trace = c.args.trace.now in
    let all = all_told c.args.journal.now in
    let opened = opened_at c.args.journal.now.timer in
    ap Some c.in_ok-line.ensures
    ∙ stops_at (estimate_fault trace opened all) sight_after (KeepsEstimates trace opened all c.steps.estimates) (KeepsEstimates trace opened all c.judge.new.self) (estimates_fault trace c.args.journal.now)
    c.steps.walk c.in-Some.step c.next.new.self c.in-Some-judge.at c.steps.invariant (rw c.in-Some.is at c.in_ok-step.ensures)
    (rw c.in-Some-judge.is at (c.judge.ensures trace opened all))

pub returns : goal.returns
returns c =
    let trace = c.args.trace.now in
    let all = all_told c.args.journal.now in
    let opened = opened_at c.args.journal.now.timer in
    ends_walk (estimate_fault trace opened all) sight_after (KeepsEstimates trace opened all c.steps.estimates) (estimates_fault trace c.args.journal.now) c.steps.walk c.steps.invariant
    (rw c.in_default.is at c.in_ok-step.ensures)
