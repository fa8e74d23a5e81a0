use Rattle.std.proofs.Common.{refl}
use Rattle.wbt_audit_reads.proofs.Estimated.{forgot}
use Rattle.wbt_audit_reads.proofs.estimates.Estimates.judge.Goals as goal

pub returns-in-None : goal.returns-in-None
returns-in-None c = λ trace opened all s keeps.
    rw c.in-None.is (forgot trace opened all c.args.self.now _ s c.args.step.now.cpu refl refl c.forget.ensures keeps)

pub returns-in-Some : goal.returns-in-Some
returns-in-Some c = λ trace opened all s keeps. rw c.in-Some.is (c.judge_act.ensures c.args.step.now.cpu trace opened all s keeps)
