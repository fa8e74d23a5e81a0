use Rattle.std.proofs.Common.{arith}
use Rattle.wbt_replay_order.proofs.Common.{seen}
use Rattle.wbt_forecast.proofs.Moments.{soon_enough}
use Rattle.wbt_forecast.proofs.further.moments_fit.Goals as goal

pub overflow_add-result : goal.overflow_add-result
overflow_add-result c =
    let soon = soon_enough (seen c.args.machine.now) c.requires.sound.holds.horizon in
    omega (arith, soon, c.latest_moment-latest.ensures, c.in_ok-ticks.ensures.answer)

pub overflow_add-result-2 : goal.overflow_add-result-2
overflow_add-result-2 c =
    let soon = soon_enough (seen c.args.machine.now) c.requires.sound.holds.horizon in
    omega (arith, soon, c.latest_moment-latest.ensures, c.in_ok-ticks.ensures.answer)
