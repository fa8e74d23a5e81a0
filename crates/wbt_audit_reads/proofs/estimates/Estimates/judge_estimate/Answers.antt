use Rattle.std.proofs.Common.{refl, sym, ◌∙◌}
use Rattle.wbt_audit_reads.proofs.Estimated.{no_context, no_next, is_next}
use Rattle.wbt_audit_reads.proofs.estimates.Estimates.judge_estimate.Goals as goal

pub returns-in-None : goal.returns-in-None
returns-in-None c = λ trace opened all s keeps.
    no_context trace opened all c.args.self.now s keeps c.args.est.now c.args.self.now (sym c.last_of.ensures ∙ c.in-None.is)

pub returns-then-follows : goal.returns-then-follows
returns-then-follows c = λ trace opened all s keeps.
    is_next trace opened all c.args.self.now s keeps c.args.est.now _ c.in-Some.old (sym c.last_of.ensures ∙ c.in-Some.is)
    (sym c.follows.ensures ∙ c.if-follows.true) refl refl refl

pub returns-else-follows : goal.returns-else-follows
returns-else-follows c = λ trace opened all s keeps.
    no_next trace opened all c.args.self.now s keeps c.args.est.now c.args.self.now c.in-Some.old (sym c.last_of.ensures ∙ c.in-Some.is)
    (sym c.follows.ensures ∙ c.if-follows.false)
