use Rattle.std.proofs.Common.{Some, sym, ◌∙◌, ap}
use Rattle.wbt_replay_order.proofs.Common.{seen}
use Rattle.wbt_replay_moves.specs.declared.todo.TimerTodo.TheVariants as timer_todo
use Rattle.wbt_replay.proofs.Ordering.Fitting.{timer_move_fits, timer_step_fits}
use Rattle.wbt_replay.proofs.Ordering.Queues.{taken}
use Rattle.wbt_replay.proofs.turns.timer_on.Goals as goal

pub make_timer_move-requires : goal.make_timer_move-requires
make_timer_move-requires c =
    let s = seen c.args.machine.now in
    let ts = c.pop_front-item.new.self in
    timer_move_fits c.args.trace.now c.requires.facts s c.requires.sound c.in-Some-Silent.item ts
    (taken s.timer.todo ts c.pop_front-item.result (timer_todo.Silent c.in-Some-Silent.item) c.pop_front-item.ensures (sym c.front.ensures ∙ c.in-Some-Silent.is ∙ ap Some c.in-Some-Silent.field-0-is))

pub make_timer_step-requires : goal.make_timer_step-requires
make_timer_step-requires c =
    let s = seen c.args.machine.now in
    let ts = c.pop_front-item-in-Some-Step.new.self in
    timer_step_fits c.args.trace.now c.requires.facts s c.requires.sound c.in-Some-Step.step ts
    (taken s.timer.todo ts c.pop_front-item-in-Some-Step.result (timer_todo.Step c.in-Some-Step.step) c.pop_front-item-in-Some-Step.ensures (sym c.front.ensures ∙ c.in-Some-Step.is ∙ ap Some c.in-Some-Step.field-0-is))
