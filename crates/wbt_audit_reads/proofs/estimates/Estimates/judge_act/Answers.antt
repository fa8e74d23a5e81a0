use Rattle.std.proofs.Common.{ap, sym, ◌∙◌, option_map}
use Rattle.wbt_audit_walk.proofs.Common.{told_of}
use Rattle.wbt_audit_reads.proofs.Estimated.{next_judged}
use Rattle.wbt_audit_reads.proofs.estimates.Estimates.judge_act.Goals as goal

pub returns-in-None : goal.returns-in-None
returns-in-None c = λ cpu. c.judge_other.ensures cpu (sym c.estimate.ensures ∙ ap (option_map (λ r. r.now)) c.in-None.is)

pub returns-in-Some : goal.returns-in-Some
returns-in-Some c = λ cpu trace opened all.
    next_judged trace opened all cpu (told_of c.args.act.now) c.args.self.now c.judge_estimate.new.self c.in-Some.est.now c.judge_estimate.result
    (sym c.estimate.ensures ∙ ap (option_map (λ r. r.now)) c.in-Some.is) c.judge_estimate.ensures
