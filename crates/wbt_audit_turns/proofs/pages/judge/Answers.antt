use Rattle.std.proofs.Common.{refl, sym, subst, List, []}
use Rattle.wbt_audit_turns.specs.Planned.{TaskPages}
use Rattle.wbt_audit_turns.specs.Written.{ShowsWritten}
use Rattle.wbt_audit_turns.proofs.Planning.{all_written_anew}
use Rattle.wbt_audit_turns.proofs.pages.judge.Goals as goal

pub returns-in-None : goal.returns-in-None
returns-in-None c = λ s shows. rw c.in-None.is (record {
  answer = refl;
  goes_on = λ e. subst (λ (l : List TaskPages). ShowsWritten c.args.trace.now l []) (sym c.begin_all.ensures) (all_written_anew c.args.trace.now c.args.plans.now s shows);
})

pub returns-in-Some : goal.returns-in-Some
returns-in-Some c = λ s shows. rw c.in-Some.is (c.judge_act.ensures s shows)
