use Rattle.std.proofs.Common.{◌<◌, List, length, get_or, ◌∙◌, ap, arith}
use Rattle.std.proofs.Math.ListN.{set}
use Rattle.std.proofs.lemmas.List.{set-get_or}
use Rattle.wbt_replay_order.proofs.Common.{ReplayTask, rests_of}
use Rattle.wbt_forecast.proofs.Turning.{sum_all, sum_next, sum_to}
use Rattle.wbt_forecast.proofs.ticks.rests_left.Goals as goal

pub overflow_add-ticks : goal.overflow_add-ticks
overflow_add-ticks c =
    let xs = c.args.tasks.now in
    let i = c.loop-task.task-index in
    let item = c.task-item.result in
    let here = ap (λ (l : List ReplayTask). rests_of (get_or l i item)) c.loop-task.invariant.same in
    let long = ap (λ (l : List ReplayTask). length l) c.loop-task.invariant.same in
    let less : i < length xs = omega (arith, long) in
    omega (arith, c.in_ok-more.ensures.answer, here, c.loop-task.invariant.counts, sum_to rests_of xs i item less, c.requires)

pub loop-task-preserved : goal.loop-task-preserved
loop-task-preserved c =
    let xs = c.args.tasks.now in
    let i = c.loop-task.task-index in
    let item = c.task-item.result in
    let here = ap (λ (l : List ReplayTask). rests_of (get_or l i item)) c.loop-task.invariant.same in
    let long = ap (λ (l : List ReplayTask). length l) c.loop-task.invariant.same in
    let less : i < length xs = omega (arith, long) in
    record {
      same = ap (set c.loop-task.tasks i) c.in_ok-more.ensures.same ∙ (set-get_or c.loop-task.tasks i item ∙ c.loop-task.invariant.same);
      counts = omega (arith, c.in_ok-more.ensures.answer, here, c.loop-task.invariant.counts, sum_next rests_of xs i item less);
    }

pub returns-clause-answer : goal.returns-clause-answer
returns-clause-answer c =
    let long = ap (λ (l : List ReplayTask). length l) c.loop-task.invariant.same in
    c.loop-task.invariant.counts ∙ sum_all rests_of c.args.tasks.now c.loop-task.task-index (omega (arith, long))
