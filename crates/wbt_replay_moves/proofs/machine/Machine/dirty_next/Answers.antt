use Rattle.std.proofs.Common.{◌≡◌, ◌∙◌, ap, sym, Some}
use Rattle.std.proofs.lemmas.List.{get_or_default}
use Rattle.std.proofs.lemmas.Result.{on_ok_weaker}
use Rattle.wbt_num.specs.Front.{first}
use Rattle.wbt_replay_moves.specs.Definition.State.{task_of, no_task}
use Rattle.wbt_replay_moves.specs.Definition.Writer.{dirty_page}
use Rattle.wbt_replay_moves.specs.declared.state.ReplayTask.{ReplayTask}
use Rattle.wbt_replay_moves.specs.declared.state.ReplayWork.TheVariants as work
use Rattle.wbt_replay_moves.specs.Seen.{seen}
use Rattle.wbt_replay_moves.proofs.Writing.{dirties_next}
use Rattle.wbt_replay_moves.proofs.machine.Machine.dirty_next.Goals as goal

pub returns-in_ok-pass_page-in-Some-Write : goal.returns-in_ok-pass_page-in-Some-Write
returns-in_ok-pass_page-in-Some-Write c =
    let s = seen c.args.self.now in
    let here = c.in-Some-Write in
    let next : first (task_of c.args.task s).works ≡ Some (work.Write here.inode here.page here.pages) =
    ap (λ (t : ReplayTask). first t.works) (sym (c.index.ensures ∙ get_or_default s.tasks c.args.task c.index.result.now no_task c.requires.task))
    ∙ sym c.front.ensures ∙ here.is ∙ ap Some here.field-0-is in
    on_ok_weaker c.dirty_page.result (λ written. written
    ∙ ap (dirty_page c.args.trace.now c.args.cpu c.args.task here.inode here.page) c.in_ok-pass_page-in-Some-Write.ensures
    ∙ sym (dirties_next c.args.trace.now c.args.cpu c.args.task here.inode here.page here.pages (task_of c.args.task s).works s next))
    c.dirty_page.ensures
