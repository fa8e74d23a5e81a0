use Rattle.std.proofs.Common.{ap, sym, ◌∙◌, option_map}
use Rattle.wbt_audit_walk.proofs.Common.{told_of}
use Rattle.wbt_audit_reads.proofs.Tripled.{unchecked, check_judged}
use Rattle.wbt_audit_reads.proofs.triples.Triples.judge_act.Goals as goal

pub returns-in-None : goal.returns-in-None
returns-in-None c = λ cpu trace all entries sums.
    unchecked trace all entries cpu (told_of c.args.act.now) c.args.self.now (sym c.check.ensures ∙ ap (option_map (λ r. r.now)) c.in-None.is)

pub returns-in-Some : goal.returns-in-Some
returns-in-Some c = λ cpu trace all entries sums.
    check_judged trace all entries cpu (told_of c.args.act.now) c.args.self.now c.judge_check.new.self c.in-Some.check.now c.judge_check.result
    (sym c.check.ensures ∙ ap (option_map (λ r. r.now)) c.in-Some.is) sums c.judge_check.ensures
