use Rattle.wbt_audit_reads.proofs.folds.Seen.judge.Goals as goal

pub returns-in-Some : goal.returns-in-Some
returns-in-Some c = λ trace all s kept. rw c.in-Some.is (c.judge_act.ensures c.args.step.now.cpu trace all s kept)
