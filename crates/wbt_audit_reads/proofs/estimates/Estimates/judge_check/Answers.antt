use Rattle.std.proofs.Common.{Some, refl, sym, subst, ◌∙◌}
use Rattle.wbt_audit_reads.specs.Estimating.{IsName}
use Rattle.wbt_audit_reads.proofs.Estimated.{no_name, is_name}
use Rattle.wbt_audit_reads.proofs.estimates.Estimates.judge_check.Goals as goal

pub returns-then-may_name : goal.returns-then-may_name
returns-then-may_name c = λ trace opened all s keeps.
    is_name trace opened all c.args.self.now s keeps c.args.check.now _ c.may_name.ensures.small (sym c.may_name.ensures.value ∙ c.if-may_name.true) refl refl c.see.ensures

pub returns-else-may_name : goal.returns-else-may_name
returns-else-may_name c = λ trace opened all s keeps.
    subst (λ line. IsName trace opened all c.args.self.now s c.args.check.now (Some line)) (sym c.decision_at.ensures)
    (no_name trace opened all c.args.self.now s keeps c.args.check.now c.args.self.now c.may_name.ensures.small (sym c.may_name.ensures.value ∙ c.if-may_name.false))
