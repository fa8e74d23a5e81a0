use Rattle.wbt_writer.proofs.cpu.WriterCpu.turn_with.Goals as goal
use Rattle.wbt_writer.proofs.Taking.{turned_none}
use Rattle.std.proofs.Common.{ap, refl}
use Rattle.wbt_writer.proofs.Common.{CpuJournal, sight, asked_none, none_as, takes_none, domains}

pub returns-then-is_err-clause-turned : goal.returns-then-is_err-clause-turned
returns-then-is_err-clause-turned g c =
    turned_none (g.C.Clock.told c.args.hands.now.clock.now) (g.G.Gate.said c.args.hands.now.gate.now) c.args.self.now.trace c.args.hands.now.kit.now c.args.self.now.cpu c.args.self.now.work c.args.seats.now
    c.args.pen.now.log c.reserve.new.self.log c.reserve.ensures.log

pub returns-then-is_err-clause-asked : goal.returns-then-is_err-clause-asked
returns-then-is_err-clause-asked g c = asked_none c.args.self.now.cpu (g.G.Gate.said c.args.hands.now.gate.now) c.args.seats.now c.args.seats.now refl

pub returns-then-is_err-clause-took : goal.returns-then-is_err-clause-took
returns-then-is_err-clause-took g c = ap (λ (l : CpuJournal). sight c.args.self.now.work c.args.seats.now l) c.reserve.ensures.log

pub returns-then-is_err-clause-kinds : goal.returns-then-is_err-clause-kinds
returns-then-is_err-clause-kinds g c =
    takes_none (domains c.args.hands.now.kit.now.throttle.layout) c.args.self.now.cpu c.args.seats.now c.args.seats.now (none_as c.args.self.now.cpu c.args.seats.now c.args.seats.now refl)
