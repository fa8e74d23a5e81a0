use Rattle.std.proofs.Common.{ap, sym, ◌∙◌, option_map}
use Rattle.wbt_audit_walk.proofs.Common.{told_of}
use Rattle.wbt_audit_reads.proofs.Estimated.{name_judged, passed}
use Rattle.wbt_audit_reads.proofs.estimates.Estimates.judge_other.Goals as goal

pub returns-in-None : goal.returns-in-None
returns-in-None c = λ cpu none trace opened all.
    passed trace opened all cpu (told_of c.args.act.now) c.args.self.now none (sym c.check.ensures ∙ ap (option_map (λ r. r.now)) c.in-None.is)

pub returns-in-Some : goal.returns-in-Some
returns-in-Some c = λ cpu none trace opened all.
    name_judged trace opened all cpu (told_of c.args.act.now) c.args.self.now c.judge_check.new.self c.in-Some.check.now c.judge_check.result none
    (sym c.check.ensures ∙ ap (option_map (λ r. r.now)) c.in-Some.is) c.judge_check.ensures
