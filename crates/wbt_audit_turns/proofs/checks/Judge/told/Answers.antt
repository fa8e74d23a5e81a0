use Rattle.std.proofs.Common.{sym, ◌∙◌}
use Rattle.wbt_journal.specs.Checks.{named_estimate}
use Rattle.wbt_audit_walk.proofs.Common.{all_told}
use Rattle.wbt_audit_turns.specs.Sides.{side_of}
use Rattle.wbt_audit_turns.proofs.Asking.{told_if, told_is, told_none}
use Rattle.wbt_audit_turns.proofs.checks.Judge.told.Goals as goal

pub returns-then-is_told-clause-some : goal.returns-then-is_told-clause-some
returns-then-is_told-clause-some c =
    let judge = c.args.self.now in
    told_if judge.machine.trace.now (side_of judge.side) c.args.check.now (named_estimate judge.machine.trace.now judge.machine.opened (all_told c.args.journal.now) c.args.check.now) _
    c.asked.ensures.value c.in-Some.asked c.in-Some.is ∙ sym c.is_told.ensures ∙ c.if-is_told.true

pub returns-then-is_told-clause-value : goal.returns-then-is_told-clause-value
returns-then-is_told-clause-value c =
    let judge = c.args.self.now in
    told_is judge.machine.trace.now (side_of judge.side) c.args.check.now (named_estimate judge.machine.trace.now judge.machine.opened (all_told c.args.journal.now) c.args.check.now) _
    c.asked.ensures.value c.in-Some.asked c.in-Some.is (sym c.is_told.ensures ∙ c.if-is_told.true)

pub returns-in-None-clause-none : goal.returns-in-None-clause-none
returns-in-None-clause-none c = λ none.
    let judge = c.args.self.now in
    told_none judge.machine.trace.now (side_of judge.side) c.args.check.now (named_estimate judge.machine.trace.now judge.machine.opened (all_told c.args.journal.now) c.args.check.now) _
    c.asked.ensures.value c.in-None.is

pub returns-else-is_told-clause-none : goal.returns-else-is_told-clause-none
returns-else-is_told-clause-none c = λ none.
    let judge = c.args.self.now in
    told_if judge.machine.trace.now (side_of judge.side) c.args.check.now (named_estimate judge.machine.trace.now judge.machine.opened (all_told c.args.journal.now) c.args.check.now) _
    c.asked.ensures.value c.in-Some.asked c.in-Some.is ∙ sym c.is_told.ensures ∙ c.if-is_told.false
