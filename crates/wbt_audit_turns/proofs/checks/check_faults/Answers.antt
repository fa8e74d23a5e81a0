use Rattle.std.proofs.Common.{◌∙◌, subst}
use Rattle.wbt_audit_walk.proofs.Common.{Trace}
use Rattle.wbt_audit_turns.specs.Judging.{IsJudgeOf}
use Rattle.wbt_audit_walk.proofs.Walking.{nearer}
use Rattle.wbt_audit_turns.proofs.Checking.{begins_passed, goes_passed, stops_passed, ends_decided, ends_standing}
use Rattle.wbt_audit_turns.proofs.checks.check_faults.Goals as goal

pub steps-init : goal.steps-init
steps-init c =
    let made = c.in_ok-judge.ensures in
    begins_passed c.args.trace.now c.args.journal.now c.in_ok-judge.judge c.in_ok-walk.walk made.judge made.side made.begins.0 made.begins.1 c.in_ok-walk.ensures.line c.in_ok-walk.ensures.items

pub steps-preserved : goal.steps-preserved
steps-preserved c =
    let inv = c.steps.invariant in
    let passed = c.in_ok-line.ensures in
    goes_passed c.args.trace.now c.args.journal.now c.steps.judge c.pass.new.self c.steps.walk c.next.new.self c.in-Some.step c.in_ok-line.field-0 inv (rw c.in-Some.is at c.in_ok-step.ensures)
    passed.passes c.in_default-2.is (subst (λ (t : Trace). IsJudgeOf t c.args.journal.now c.pass.new.self) inv.judges.trace_is (passed.judge c.in_default-2.is))

pub steps-smaller : goal.steps-smaller
steps-smaller c = nearer c.steps.walk c.in-Some.step c.next.new.self (rw c.in-Some.is at c.in_ok-step.ensures)

pub returns-in-Some-2-clause-decision : goal.returns-in-Some-2-clause-decision
returns-in-Some-2-clause-decision c =
    stops_passed c.args.trace.now c.args.journal.now c.steps.judge c.pass.new.self c.steps.walk c.next.new.self c.in-Some.step c.in_ok-line.field-0 c.steps.invariant
    (rw c.in-Some.is at c.in_ok-step.ensures) c.in_ok-line.ensures.passes c.in-Some-2.line c.in-Some-2.is

pub returns-clause-decision : goal.returns-clause-decision
returns-clause-decision c = ends_decided c.args.trace.now c.args.journal.now c.steps.judge c.steps.walk c.steps.invariant (rw c.in_default.is at c.in_ok-step.ensures)

pub returns-clause-stand : goal.returns-clause-stand
returns-clause-stand c = λ none.
    c.first_stand-stand.ensures
    ∙ ends_standing c.args.trace.now c.args.journal.now c.steps.judge c.end_part.new.self c.steps.walk c.in_ok-end_at.field-0 c.steps.invariant (rw c.in_default.is at c.in_ok-step.ensures)
    c.in_ok-end_at.ensures c.end_part.ensures.missing
