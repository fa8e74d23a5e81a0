use Rattle.std.proofs.Common.{ap, ◌∙◌}
use Rattle.wbt_journal.specs.Checks.{may_check}
use Rattle.wbt_audit_walk.proofs.Common.{decision_at, first_of}
use Rattle.wbt_audit_turns.specs.Sides.{side_of}
use Rattle.wbt_audit_turns.proofs.Checking.{from_later}
use Rattle.wbt_audit_turns.proofs.checks.Judge.judge_check.Goals as goal

pub returns-in-Some-clause-stand : goal.returns-in-Some-clause-stand
returns-in-Some-clause-stand c = λ none.
    let judge = c.args.self.now in
    c.see_check.ensures.stand
    ∙ ap (first_of judge.stand) (from_later (may_check judge.machine.trace.now (side_of judge.side) c.args.check.now) c.args.line (decision_at c.args.check.now) c.in_ok-at.at c.in_ok-at.ensures)
