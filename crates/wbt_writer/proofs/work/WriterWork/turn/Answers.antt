use Rattle.wbt_writer.proofs.work.WriterWork.turn.Goals as goal
use Rattle.wbt_writer.proofs.Common.{sight, Done, Resting, asked_more, asked_none, none_as, takes_none, domains}
use Rattle.std.proofs.Common.{refl}
use Rattle.wbt_writer.proofs.Exacting.{puts_waiting, took_after}
use Rattle.wbt_writer.proofs.Taking.{turned_done, turned_from, turned_resting}
use Rattle.wbt_run_steps.proofs.Logging.{turn_behind}

pub returns-in-Done-clause-turned : goal.returns-in-Done-clause-turned
returns-in-Done-clause-turned g c = turned_done (g.C.Clock.told c.args.hands.now.clock.now) (g.G.Gate.said c.args.hands.now.gate.now) c.args.place.now.trace.now c.args.hands.now.kit.now c.args.place.now.cpu c.args.self.now c.put_waiting.new.self c.args.seats.now c.put_waiting.new.seats c.args.pen.now.log c.put_waiting.ensures.only c.put_waiting.ensures.at_kit c.told_moment-now.result c.in-Done.ensures

pub returns-in-Resting-clause-turned : goal.returns-in-Resting-clause-turned
returns-in-Resting-clause-turned g c = turned_resting (g.C.Clock.told c.args.hands.now.clock.now) (g.G.Gate.said c.args.hands.now.gate.now) c.args.place.now.trace.now c.args.hands.now.kit.now c.args.place.now.cpu c.args.self.now c.put_waiting.new.self c.args.seats.now c.put_waiting.new.seats c.args.pen.now.log c.put_waiting.ensures.only c.told_moment-now.result c.in-Resting.until c.told_moment-now.ensures.told c.in-Resting.ensures

pub returns-in-Task-clause-turned : goal.returns-in-Task-clause-turned
returns-in-Task-clause-turned g c = turned_from (g.C.Clock.told c.args.hands.now.clock.now) (g.G.Gate.said c.args.hands.now.gate.now) c.args.place.now.trace.now c.args.hands.now.kit.now c.args.place.now.cpu c.args.self.now c.put_waiting.new.self c.args.seats.now c.put_waiting.new.seats c.args.pen.now.log c.put_waiting.ensures.only c.step.result (sight c.step.new.self c.step.new.seats c.step.new.pen.log) c.step.ensures.memory c.step.ensures.turned

pub returns-in-Done-clause-asked : goal.returns-in-Done-clause-asked
returns-in-Done-clause-asked g c = asked_none c.args.place.now.cpu (g.G.Gate.said c.args.hands.now.gate.now) c.args.seats.now c.put_waiting.new.seats c.put_waiting.ensures.only.cpu

pub returns-in-Resting-clause-asked : goal.returns-in-Resting-clause-asked
returns-in-Resting-clause-asked g c = asked_none c.args.place.now.cpu (g.G.Gate.said c.args.hands.now.gate.now) c.args.seats.now c.put_waiting.new.seats c.put_waiting.ensures.only.cpu

pub returns-in-Task-clause-asked : goal.returns-in-Task-clause-asked
returns-in-Task-clause-asked g c =
    asked_more c.args.place.now.cpu (g.G.Gate.said c.args.hands.now.gate.now) c.args.seats.now c.put_waiting.new.seats c.step.new.seats
    (asked_none c.args.place.now.cpu (g.G.Gate.said c.args.hands.now.gate.now) c.args.seats.now c.put_waiting.new.seats c.put_waiting.ensures.only.cpu) c.step.ensures.asked

pub returns-in-Done-clause-took : goal.returns-in-Done-clause-took
returns-in-Done-clause-took g c = took_after (g.C.Clock.told c.args.hands.now.clock.now) (g.G.Gate.said c.args.hands.now.gate.now) c.args.place.now.trace.now c.args.hands.now.kit.now c.args.place.now.cpu Done (sight c.args.self.now c.args.seats.now c.args.pen.now.log) (sight c.put_waiting.new.self c.put_waiting.new.seats c.args.pen.now.log) (sight c.put_waiting.new.self c.put_waiting.new.seats c.args.pen.now.log)
    (puts_waiting c.args.place.now.trace.now c.args.hands.now.kit.now c.args.self.now c.put_waiting.new.self c.args.seats.now c.put_waiting.new.seats c.args.pen.now.log c.put_waiting.ensures.only c.put_waiting.ensures.puts) refl

pub returns-in-Resting-clause-took : goal.returns-in-Resting-clause-took
returns-in-Resting-clause-took g c = took_after (g.C.Clock.told c.args.hands.now.clock.now) (g.G.Gate.said c.args.hands.now.gate.now) c.args.place.now.trace.now c.args.hands.now.kit.now c.args.place.now.cpu (Resting c.told_moment-now.result c.in-Resting.until) (sight c.args.self.now c.args.seats.now c.args.pen.now.log) (sight c.put_waiting.new.self c.put_waiting.new.seats c.args.pen.now.log) (sight c.put_waiting.new.self c.put_waiting.new.seats c.args.pen.now.log)
    (puts_waiting c.args.place.now.trace.now c.args.hands.now.kit.now c.args.self.now c.put_waiting.new.self c.args.seats.now c.put_waiting.new.seats c.args.pen.now.log c.put_waiting.ensures.only c.put_waiting.ensures.puts) refl

pub returns-in-Task-clause-took : goal.returns-in-Task-clause-took
returns-in-Task-clause-took g c = took_after (g.C.Clock.told c.args.hands.now.clock.now) (g.G.Gate.said c.args.hands.now.gate.now) c.args.place.now.trace.now c.args.hands.now.kit.now c.args.place.now.cpu c.step.result (sight c.args.self.now c.args.seats.now c.args.pen.now.log) (sight c.put_waiting.new.self c.put_waiting.new.seats c.args.pen.now.log) (sight c.step.new.self c.step.new.seats c.step.new.pen.log)
    (puts_waiting c.args.place.now.trace.now c.args.hands.now.kit.now c.args.self.now c.put_waiting.new.self c.args.seats.now c.put_waiting.new.seats c.args.pen.now.log c.put_waiting.ensures.only c.put_waiting.ensures.puts) c.step.ensures.took

pub returns-in-Done-clause-kinds : goal.returns-in-Done-clause-kinds
returns-in-Done-clause-kinds g c = takes_none (domains c.args.hands.now.kit.now.throttle.layout) c.args.place.now.cpu c.args.seats.now c.put_waiting.new.seats
    (none_as c.args.place.now.cpu c.args.seats.now c.put_waiting.new.seats c.put_waiting.ensures.only.cpu)

pub returns-in-Resting-clause-kinds : goal.returns-in-Resting-clause-kinds
returns-in-Resting-clause-kinds g c = takes_none (domains c.args.hands.now.kit.now.throttle.layout) c.args.place.now.cpu c.args.seats.now c.put_waiting.new.seats
    (none_as c.args.place.now.cpu c.args.seats.now c.put_waiting.new.seats c.put_waiting.ensures.only.cpu)

pub returns-in-Task-clause-kinds : goal.returns-in-Task-clause-kinds
returns-in-Task-clause-kinds g c = turn_behind (domains c.args.hands.now.kit.now.throttle.layout) c.args.place.now.cpu c.step.result c.args.seats.now c.put_waiting.new.seats c.step.new.seats
    (none_as c.args.place.now.cpu c.args.seats.now c.put_waiting.new.seats c.put_waiting.ensures.only.cpu) c.step.ensures.kinds
