use Rattle.wbt_audit_reads.proofs.Tripled.{forgot}
use Rattle.wbt_audit_reads.proofs.triples.Triples.judge.Goals as goal

pub returns-in-None : goal.returns-in-None
returns-in-None c = λ trace all entries sums s keeps.
    rw c.in-None.is (forgot trace entries c.args.self.now c.forget.new.self s c.args.step.now.cpu c.forget.ensures keeps)

pub returns-in-Some : goal.returns-in-Some
returns-in-Some c = rw c.in-Some.is (c.judge_act.ensures c.args.step.now.cpu)
