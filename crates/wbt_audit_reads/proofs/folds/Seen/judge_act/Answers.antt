use Rattle.std.proofs.Common.{true, false, sym, ◌∙◌}
use Rattle.wbt_audit_walk.proofs.Common.{told_of}
use Rattle.wbt_audit_reads.proofs.Folded.{judged, passed}
use Rattle.wbt_audit_reads.proofs.folds.Seen.judge_act.Goals as goal

pub returns-in-None : goal.returns-in-None
returns-in-None c = λ cpu trace all s kept. passed trace all s cpu (told_of c.args.act.now) c.args.self.now (sym c.fold.ensures ∙ c.in-None.is) kept

pub returns-then-sees : goal.returns-then-sees
returns-then-sees c = λ cpu trace all s kept.
    judged trace all s cpu (told_of c.args.act.now) c.sees.new.self c.in-Some.fold true (sym c.fold.ensures ∙ c.in-Some.is)
    (rw c.if-sees.true at (c.sees.ensures trace all s kept))

pub returns-else-sees : goal.returns-else-sees
returns-else-sees c = λ cpu trace all s kept.
    judged trace all s cpu (told_of c.args.act.now) c.sees.new.self c.in-Some.fold false (sym c.fold.ensures ∙ c.in-Some.is)
    (rw c.if-sees.false at (c.sees.ensures trace all s kept))
