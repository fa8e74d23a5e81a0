use Rattle.std.proofs.Common.{true, false, refl, sym, ◌∙◌}
use Rattle.std.proofs.lemmas.Bool.{false≢true}
use Rattle.wbt_audit_reads.proofs.Timed.{followed}
use Rattle.wbt_audit_reads.proofs.timer.Lines.go_on.Goals as goal

pub returns-then-may_follow : goal.returns-then-may_follow
returns-then-may_follow c = λ opened lines keeps.
    followed c.args.trace.now opened c.args.self.now _ lines c.args.domain c.args.now c.args.limits.now keeps c.in-Some.before true
    (sym c.last_of.ensures ∙ c.in-Some.is) (sym c.if-may_follow.true ∙ c.may_follow.ensures) refl refl (λ sure. refl)

pub returns-else-may_follow : goal.returns-else-may_follow
returns-else-may_follow c = λ opened lines keeps.
    followed c.args.trace.now opened c.args.self.now c.args.self.now lines c.args.domain c.args.now c.args.limits.now keeps c.in-Some.before false
    (sym c.last_of.ensures ∙ c.in-Some.is) (sym c.if-may_follow.false ∙ c.may_follow.ensures) refl refl (λ sure. absurd (false≢true sure))
