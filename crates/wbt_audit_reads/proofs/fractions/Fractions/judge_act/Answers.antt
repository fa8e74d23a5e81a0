use Rattle.std.proofs.Common.{ap, sym, ◌∙◌, option_map}
use Rattle.wbt_audit_walk.proofs.Common.{told_of}
use Rattle.wbt_audit_walk.specs.Acts.{added_of}
use Rattle.wbt_audit_reads.proofs.Fractioned.{check_judged, share_judged}
use Rattle.wbt_audit_reads.proofs.fractions.Fractions.judge_act.Goals as goal

pub returns-in-None : goal.returns-in-None
returns-in-None c = λ cpu trace folds entries all sums rise.
    share_judged trace folds entries all cpu (told_of c.args.act.now) c.args.self.now (option_map added_of c.share.result) c.fault_of_share.result
    (sym c.check.ensures ∙ ap (option_map (λ r. r.now)) c.in-None.is) (sym c.share.ensures) c.fault_of_share.ensures

pub returns-in-Some : goal.returns-in-Some
returns-in-Some c = λ cpu trace folds entries all sums rise.
    check_judged trace folds entries all cpu (told_of c.args.act.now) c.args.self.now c.judge_check.new.self c.in-Some.check.now c.judge_check.result
    (sym c.check.ensures ∙ ap (option_map (λ r. r.now)) c.in-Some.is) sums rise c.judge_check.ensures
