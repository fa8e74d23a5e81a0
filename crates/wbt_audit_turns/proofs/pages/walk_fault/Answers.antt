use Rattle.std.proofs.Common.{[], Some, ap, ◌∙◌}
use Rattle.wbt_audit_walk.proofs.Common.{item_size, items_of, page_fault, writes_after, first_cpu_line, first_fault}
use Rattle.wbt_audit_turns.specs.Written.{ShowsWritten}
use Rattle.wbt_audit_walk.proofs.Walking.{begins_walk, step_on, stops_at, ends_walk, nearer}
use Rattle.wbt_audit_turns.proofs.pages.walk_fault.Goals as goal

pub steps-init : goal.steps-init
steps-init c =
    begins_walk (page_fault c.args.trace.now) writes_after (ShowsWritten c.args.trace.now c.args.plans.now) [] c.in_ok-walk.walk (first_cpu_line c.args.journal.now)
    (items_of c.args.journal.now) c.requires.shows c.in_ok-walk.ensures.line c.in_ok-walk.ensures.items

pub judge-requires-clause-tasks : goal.judge-requires-clause-tasks
judge-requires-clause-tasks c = c.steps.invariant.keeps.planned

pub steps-preserved : goal.steps-preserved
steps-preserved c =
    let trace = c.args.trace.now in
    let whole = first_fault (page_fault trace) writes_after item_size (first_cpu_line c.args.journal.now) [] (items_of c.args.journal.now) in
    step_on (page_fault trace) writes_after (ShowsWritten trace c.steps.plans) (ShowsWritten trace c.judge.new.plans) whole c.steps.walk c.in-Some.step c.next.new.self
    c.judge.result c.steps.invariant (rw c.in-Some.is at c.in_ok-step.ensures) c.judge.ensures c.in_default-judge.is

pub steps-smaller : goal.steps-smaller
steps-smaller c = nearer c.steps.walk c.in-Some.step c.next.new.self (rw c.in-Some.is at c.in_ok-step.ensures)

pub returns-in-Some-judge : goal.returns-in-Some-judge
returns-in-Some-judge c =
    let trace = c.args.trace.now in
    let whole = first_fault (page_fault trace) writes_after item_size (first_cpu_line c.args.journal.now) [] (items_of c.args.journal.now) in
    ap Some c.in_ok-line.ensures
    ∙ stops_at (page_fault trace) writes_after (ShowsWritten trace c.steps.plans) (ShowsWritten trace c.judge.new.plans) whole c.steps.walk c.in-Some.step c.next.new.self
    c.in-Some-judge.at c.steps.invariant (rw c.in-Some.is at c.in_ok-step.ensures) (rw c.in-Some-judge.is at c.judge.ensures)

pub returns : goal.returns
returns c =
    let trace = c.args.trace.now in
    let whole = first_fault (page_fault trace) writes_after item_size (first_cpu_line c.args.journal.now) [] (items_of c.args.journal.now) in
    ends_walk (page_fault trace) writes_after (ShowsWritten trace c.steps.plans) whole c.steps.walk c.steps.invariant (rw c.in_default.is at c.in_ok-step.ensures)
