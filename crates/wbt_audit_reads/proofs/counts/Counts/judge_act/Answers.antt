use Rattle.std.proofs.Common.{ap, sym, ◌∙◌, option_map}
use Rattle.wbt_audit_walk.proofs.Common.{told_of}
use Rattle.wbt_audit_reads.proofs.Counted.{unchecked, check_judged}
use Rattle.wbt_audit_reads.proofs.counts.Counts.judge_act.Goals as goal

pub returns-in-None : goal.returns-in-None
returns-in-None c = λ cpu trace all.
    unchecked trace all c.args.self.now c.see_fold.new.self cpu (told_of c.args.act.now) c.fold.result
    (sym c.check.ensures ∙ ap (option_map (λ r. r.now)) c.in-None.is) (sym c.fold.ensures) c.see_fold.ensures

pub returns-in-Some : goal.returns-in-Some
returns-in-Some c = λ cpu trace all.
    check_judged trace all c.args.self.now c.judge_check.new.self cpu (told_of c.args.act.now) c.in-Some.check.now c.judge_check.result
    (sym c.check.ensures ∙ ap (option_map (λ r. r.now)) c.in-Some.is) c.judge_check.ensures
