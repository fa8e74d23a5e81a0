use Rattle.std.proofs.Common.{sym, ◌∙◌}
use Rattle.wbt_audit_walk.proofs.Common.{told_of}
use Rattle.wbt_audit_turns.specs.Written.{ShowsWritten}
use Rattle.wbt_audit_turns.proofs.Planning.{check_passes, check_strange, none_else, other_judged}
use Rattle.wbt_audit_turns.proofs.pages.judge_act.Goals as goal

pub returns-then-is_own_task : goal.returns-then-is_own_task
returns-then-is_own_task c = λ s shows. rw c.in-Check.is
    (check_passes c.args.trace.now s (ShowsWritten c.args.trace.now c.args.plans.now) c.args.cpu c.in-Check.check.now shows (sym c.is_own_task.ensures ∙ c.if-is_own_task.true))

pub returns-else-is_own_task : goal.returns-else-is_own_task
returns-else-is_own_task c = λ s shows. let lines = rw c.in-Check.is at c.lines.ensures in rw c.in-Check.is
    (check_strange c.args.trace.now s (ShowsWritten c.args.trace.now c.args.plans.now) c.args.cpu c.in-Check.check.now c.lines.result lines (sym c.is_own_task.ensures ∙ c.if-is_own_task.false))

pub returns-in-Write : goal.returns-in-Write
returns-in-Write c = λ s shows. rw c.in-Write.is (c.judge_write.ensures c.in-Write.fresh s shows)

pub returns-in_default : goal.returns-in_default
returns-in_default c = λ s shows.
    let none = none_else c.args.act.now c.in_default.not-Write c.in_default.not-Check in
    other_judged c.args.trace.now s (ShowsWritten c.args.trace.now c.args.plans.now) c.args.cpu (told_of c.args.act.now) c.judge_pages.result shows none.0 none.1
    c.judge_pages.ensures
