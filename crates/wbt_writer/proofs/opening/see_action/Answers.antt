use Rattle.std.proofs.Common.{◌<◌, length, sym, ap, ◌∙◌, subst, ℕ}
use Rattle.std.proofs.lemmas.List.{get_or_default}
use Rattle.wbt_writer.proofs.Common.{no_task}
use Rattle.wbt_writer.specs.Opening.{seen_more}
use Rattle.wbt_writer.proofs.Seeing.{seen_all, by_in_range}
use Rattle.wbt_writer.proofs.opening.see_action.Goals as goal

pub returns-clause-seen : goal.returns-clause-seen
returns-clause-seen c =
    let trace = c.args.trace.now in let action = c.args.action in let xs = c.args.tasks.now.items in let by = c.task_of-task.result in let x = c.index.result.now in
    let range = by_in_range trace c.requires.lawful c.args.at action c.requires.there in
    let same = c.task_of-task.ensures in let long = c.requires.long in
    let there : by < length xs = subst (λ (k : ℕ). by < k) (sym long) (subst (λ (k : ℕ). k < length trace.tasks) (sym same) range) in
    seen_all trace c.requires.lawful c.args.cpu c.args.at action xs by x c.with_action.result long c.requires.there same
    (c.index.ensures ∙ get_or_default xs by x no_task there) there
    (c.with_action.ensures ∙ ap (λ (n : ℕ). seen_more x c.args.at n action) (ap length c.as_slice.ensures)) c.requires.seen
