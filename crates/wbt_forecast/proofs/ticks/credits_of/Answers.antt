use Rattle.std.proofs.Common.{sym, ◌∙◌, ap, arith}
use Rattle.wbt_replay_order.proofs.Common.{credit_of}
use Rattle.wbt_forecast.specs.Ticks.{credit_at}
use Rattle.wbt_forecast.proofs.Turning.{credit_first, sum_next, sum_to}
use Rattle.wbt_forecast.proofs.ticks.credits_of.Goals as goal

pub overflow_add-ticks : goal.overflow_add-ticks
overflow_add-ticks c =
    let cs = c.args.cpus.now in
    let i = c.loop-cpu.cpu-index in
    let item = c.cpu-item.result in
    let own = c.credit_at-credit.ensures ∙ (ap credit_at c.front-next.ensures ∙ (sym (credit_first item.todo) ∙ ap credit_of c.cpu-item.is)) in
    omega (arith, own, c.loop-cpu.invariant, sum_to credit_of cs i item c.loop-cpu-test.true, c.requires)

pub loop-cpu-preserved : goal.loop-cpu-preserved
loop-cpu-preserved c =
    let cs = c.args.cpus.now in
    let i = c.loop-cpu.cpu-index in
    let item = c.cpu-item.result in
    let own = c.credit_at-credit.ensures ∙ (ap credit_at c.front-next.ensures ∙ (sym (credit_first item.todo) ∙ ap credit_of c.cpu-item.is)) in
    omega (arith, own, c.loop-cpu.invariant, sum_next credit_of cs i item c.loop-cpu-test.true)
