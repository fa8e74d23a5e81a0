use Rattle.std.proofs.Common.{refl, subst}
use Rattle.wbt_writer.proofs.Common.{Done, asked_none, none_as, takes_none, domains, Turned, sight}
use Rattle.wbt_writer.specs.Answers.{ToldAreHeld}
use Rattle.wbt_writer.specs.Desk.{Desk}
use Rattle.wbt_writer.specs.Exact.{WriterTakes}
use Rattle.wbt_writer.proofs.Exacting.{puts_waiting, took_after}
use Rattle.wbt_writer.proofs.Taking.{turned_ended}
use Rattle.wbt_writer.proofs.cpu.WriterCpu.turn.Goals as goal

pub returns-then-have_ended-clause-turned : goal.returns-then-have_ended-clause-turned
returns-then-have_ended-clause-turned g c =
    subst (λ (d : Desk). Turned (g.C.Clock.told c.args.hands.now.clock.now) (g.G.Gate.said c.args.hands.now.gate.now) d.trace d.cpu c.args.hands.now.kit.now Done (sight d.work c.args.seats.now c.args.log.now) (sight c.put_waiting.new.self c.put_waiting.new.seats c.args.log.now)) c.self.view_is
    (turned_ended (g.C.Clock.told c.args.hands.now.clock.now) (g.G.Gate.said c.args.hands.now.gate.now) c.self.inside.trace.now c.args.hands.now.kit.now c.self.inside.cpu c.self.inside.work c.put_waiting.new.self c.args.seats.now c.put_waiting.new.seats c.args.log.now c.put_waiting.ensures.only c.put_waiting.ensures.at_kit (c.have_ended.ensures.0 c.if-have_ended.true))

pub returns-then-have_ended-clause-took : goal.returns-then-have_ended-clause-took
returns-then-have_ended-clause-took g c =
    subst (λ (d : Desk). WriterTakes (g.C.Clock.told c.args.hands.now.clock.now) (g.G.Gate.said c.args.hands.now.gate.now) d.trace c.args.hands.now.kit.now d.cpu Done (sight d.work c.args.seats.now c.args.log.now) (sight c.put_waiting.new.self c.put_waiting.new.seats c.args.log.now)) c.self.view_is
    (took_after (g.C.Clock.told c.args.hands.now.clock.now) (g.G.Gate.said c.args.hands.now.gate.now) c.self.inside.trace.now c.args.hands.now.kit.now c.self.inside.cpu Done (sight c.self.inside.work c.args.seats.now c.args.log.now) (sight c.put_waiting.new.self c.put_waiting.new.seats c.args.log.now) (sight c.put_waiting.new.self c.put_waiting.new.seats c.args.log.now)
    (puts_waiting c.self.inside.trace.now c.args.hands.now.kit.now c.self.inside.work c.put_waiting.new.self c.args.seats.now c.put_waiting.new.seats c.args.log.now c.put_waiting.ensures.only c.put_waiting.ensures.puts) refl)

pub returns-then-have_ended-clause-holds : goal.returns-then-have_ended-clause-holds
returns-then-have_ended-clause-holds g c =
    subst (λ (d : Desk). ToldAreHeld c.args.hands.now.kit.now d.cpu c.put_waiting.new.seats c.args.log.now c.args.log.now) c.self.view_is
    (let t = turned_ended (g.C.Clock.told c.args.hands.now.clock.now) (g.G.Gate.said c.args.hands.now.gate.now) c.self.inside.trace.now c.args.hands.now.kit.now c.self.inside.cpu c.self.inside.work c.put_waiting.new.self c.args.seats.now c.put_waiting.new.seats c.args.log.now c.put_waiting.ensures.only c.put_waiting.ensures.at_kit (c.have_ended.ensures.0 c.if-have_ended.true) in
    (t.added, t.did.logged, t.holds))

pub returns-then-have_ended-clause-asked : goal.returns-then-have_ended-clause-asked
returns-then-have_ended-clause-asked g c = asked_none c.args.self.now.cpu (g.G.Gate.said c.args.hands.now.gate.now) c.args.seats.now c.put_waiting.new.seats c.put_waiting.ensures.only.cpu

pub returns-then-have_ended-clause-kinds : goal.returns-then-have_ended-clause-kinds
returns-then-have_ended-clause-kinds g c = takes_none (domains c.args.hands.now.kit.now.throttle.layout) c.args.self.now.cpu c.args.seats.now c.put_waiting.new.seats
    (none_as c.args.self.now.cpu c.args.seats.now c.put_waiting.new.seats c.put_waiting.ensures.only.cpu)
