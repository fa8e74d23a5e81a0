use Rattle.std.proofs.Common.{◌≡◌, ◌<◌, Bool, eqb, List, get_or, set, length, ◌∙◌, ap, arith}
use Rattle.std.proofs.lemmas.List.{get_or_default}
use Rattle.wbt_replay_order.proofs.Common.{no_task, ReplayTask, ended_idle}
use Rattle.wbt_replay.proofs.Ordering.Opened.{many_done, next_done, next_here}
use Rattle.wbt_replay.proofs.opening.end_idle.Goals as goal

pub loop-task-preserved : goal.loop-task-preserved
loop-task-preserved c =
    let old = c.args.tasks.now.items in
    let now = c.loop-task.tasks.items in
    let k = c.loop-task.task in
    let less : k < length old = omega (arith, c.loop-task-test.true, c.len-task-end.ensures) in
    let many : length now ≡ length old = ap (λ (l : List ReplayTask). length l) c.loop-task.invariant ∙ many_done ended_idle old k (omega (arith, less)) in
    let here : get_or now k no_task ≡ get_or old k no_task = ap (λ (l : List ReplayTask). get_or l k no_task) c.loop-task.invariant ∙ next_here ended_idle old k no_task less in
    let written : c.index_mut.result.now ≡ get_or old k no_task = c.index_mut.ensures.value ∙ get_or_default now k _ no_task (omega (arith, less, many)) ∙ here in
    let read : c.index.result.now ≡ get_or old k no_task = c.index.ensures ∙ get_or_default now k _ no_task (omega (arith, less, many)) ∙ here in
    let value : record c.index_mut.result.now { ended = c.is_empty-ended.result } ≡ ended_idle (get_or old k no_task) =
    ap (λ (b : Bool). record c.index_mut.result.now { ended = b }) (c.is_empty-ended.ensures ∙ ap (λ (t : ReplayTask). eqb (length t.works) 0) read)
    ∙ ap (λ (t : ReplayTask). record t { ended = eqb (length (get_or old k no_task).works) 0 }) written in
    ap (λ (l : List ReplayTask). set l k (record c.index_mut.result.now { ended = c.is_empty-ended.result })) c.loop-task.invariant
    ∙ next_done ended_idle old k no_task _ less value
