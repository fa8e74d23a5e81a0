use Rattle.wbt_run_worker.proofs.MadeRounds.{came_out}
use Rattle.wbt_run_worker.proofs.worker.Worker.work.Goals as goal

pub returns : goal.returns
returns g c = let m = came_out c.args.condition.now.signals (g.C.Clock.told c.args.hands.now.clock.now) (g.G.Gate.said c.args.hands.now.gate.now) g.D.Disk.written g.D.Disk.faults c.args.hands.now.kit.now
    c.rounds-end.result c.args.self.now c.rounds-end.new.self c.come_out-out.result.0 c.come_out-out.result.1 c.come_out-out.new.voice c.come_out-out.ensures.end c.come_out-out.ensures.left c.rounds-end.ensures in record { goes = m.goes; stands = m.stands; comes = m.comes; run = m.run; speaks = m.speaks }
