use Rattle.std.proofs.Common.{◌≡◌, ◌<◌, List, length, map, take, get_or, sym, ◌∙◌, ap, arith}
use Rattle.std.proofs.lemmas.List.{get_or_default, take_more, take_all}
use Rattle.wbt_replay_order.proofs.Common.{Action, Rest, ReplayTask, ended_idle}
use Rattle.wbt_replay_order.specs.Kept.Opens.{put_work}
use Rattle.wbt_replay.proofs.Ordering.Opened.{doing_nothing, ended_are_first, many_doing, put_more, tasks_doing}
use Rattle.wbt_replay.proofs.opening.first_tasks.Goals as goal

pub loop-action-init : goal.loop-action-init
loop-action-init c = let trace = c.args.trace.now in c.in_ok-tasks.ensures ∙ sym (doing_nothing trace)

pub put_work-requires-clause-many : goal.put_work-requires-clause-many
put_work-requires-clause-many c =
    let trace = c.args.trace.now in
    ap (λ (l : List ReplayTask). length l) c.loop-action.invariant ∙ many_doing trace (take c.loop-action.action-index trace.actions) (length trace.tasks)

pub loop-action-preserved : goal.loop-action-preserved
loop-action-preserved c =
    let trace = c.args.trace.now in
    let list = c.as_slice-action-items.result.now in
    let same : list ≡ trace.actions = c.as_slice-action-items.ensures in
    let k = c.loop-action.action-index in
    let less : k < length trace.actions = omega (arith, c.loop-action-test.true, ap (λ (l : List Action). length l) same) in
    let a = get_or trace.actions k (Rest 0 0) in
    let its : get_or list k _ ≡ a = get_or_default list k _ (Rest 0 0) (omega (arith, less, ap (λ (l : List Action). length l) same)) ∙ ap (λ (l : List Action). get_or l k (Rest 0 0)) same in
    c.in_ok-put_work.ensures
    ∙ ap (λ (b : Action). put_work trace b c.loop-action.tasks.items) its
    ∙ ap (put_work trace a) c.loop-action.invariant
    ∙ put_more trace (take k trace.actions) a (c.requires.actions k (Rest 0 0) less)
    ∙ ap (λ (l : List Action). tasks_doing trace l (length trace.tasks)) (sym (take_more trace.actions k (Rest 0 0) less))

pub returns : goal.returns
returns c =
    let trace = c.args.trace.now in
    let all : take c.loop-action.action-index trace.actions ≡ trace.actions =
    take_all c.loop-action.action-index trace.actions (omega (arith, c.loop-action-test.false, ap (λ (l : List Action). length l) c.as_slice-action-items.ensures)) in
    c.end_idle.ensures
    ∙ ap (λ (l : List ReplayTask). map ended_idle l) (c.loop-action.invariant ∙ ap (λ (l : List Action). tasks_doing trace l (length trace.tasks)) all)
    ∙ ended_are_first trace (length trace.tasks)
