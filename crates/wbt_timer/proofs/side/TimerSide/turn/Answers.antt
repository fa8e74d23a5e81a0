use Rattle.wbt_timer.proofs.Ready.{ready_after}
use Rattle.wbt_timer.proofs.side.TimerSide.turn.Goals as goal

pub returns : goal.returns
returns g c = let done = c.answer.ensures in record {
  seats = done.seats;
  answers = done.answers;
  stopped = done.stopped;
  asked = done.asked;
  steps = done.steps;
  ready = λ trace ready. ready_after trace c.args.kit.now c.args.self.now c.answer.new.self c.args.seats.now c.answer.new.seats c.args.log.now.items c.answer.new.log.items
      ready (g.C.Clock.told c.args.clock.now) c.answer.result done.seats done.answers;
}
