use Rattle.std.proofs.Common.{rules}
use Rattle.std.specs.Prelude.{Some, None}
use Rattle.wbt_run_worker.proofs.MadeRounds.{cut_there, cuts_off, ended_there, left_there, listened, none_so_far, rested_there, stepped_there, stopped_there}
use Rattle.wbt_run_worker.proofs.Speaking.{speaks_ended, speaks_more, speaks_stopped}
use Rattle.wbt_run_worker.proofs.worker.Worker.some_rounds.Goals as goal

pub rounds-init : goal.rounds-init
rounds-init g c = none_so_far c.args.condition.now.signals (g.C.Clock.told c.args.hands.now.clock.now) (g.G.Gate.said c.args.hands.now.gate.now) g.D.Disk.written g.D.Disk.faults c.args.hands.now.kit.now c.args.self.now c.requires.side c.requires.voice

pub returns-then-is_rung : goal.returns-then-is_rung
returns-then-is_rung g c = stopped_there c.args.condition.now.signals (g.C.Clock.told c.args.hands.now.clock.now) (g.G.Gate.said c.args.hands.now.gate.now) g.D.Disk.written g.D.Disk.faults c.args.hands.now.kit.now c.args.self.now c.rounds.self c.rounds.invariant c.is_rung.new.voice
    (speaks_stopped c.args.condition.now.signals c.rounds.self.writes c.is_rung.result c.args.self.now.voice c.rounds.self.voice c.is_rung.new.voice c.rounds.invariant.speaks c.is_rung.ensures.heard (search rules))

pub returns : goal.returns
returns g c = left_there c.args.condition.now.signals (g.C.Clock.told c.args.hands.now.clock.now) (g.G.Gate.said c.args.hands.now.gate.now) g.D.Disk.written g.D.Disk.faults c.args.hands.now.kit.now c.args.self.now c.rounds.self c.rounds.invariant c.rounds.self.voice c.rounds.invariant.speaks

pub rounds-preserved : goal.rounds-preserved
rounds-preserved g c = stepped_there c.args.condition.now.signals (g.C.Clock.told c.args.hands.now.clock.now) (g.G.Gate.said c.args.hands.now.gate.now) g.D.Disk.written g.D.Disk.faults c.args.hands.now.kit.now c.args.self.now c.rounds.self c.rounds.invariant c.round.new.self c.round.new.seats c.rounds.self.writes c.is_rung.new.voice
    (record { goes = c.round.ensures.goes; stands = c.round.ensures.stands; answers = c.in-Stepped.ensures.answers; rotates = c.in-Stepped.ensures.rotates })
    (listened c.args.condition.now.signals (g.C.Clock.told c.args.hands.now.clock.now) (g.G.Gate.said c.args.hands.now.gate.now) g.D.Disk.written g.D.Disk.faults c.args.hands.now.kit.now c.args.self.now c.rounds.self c.rounds.invariant c.is_rung.result c.is_rung.new.voice c.is_rung.ensures.heard)

pub returns-in-Idle : goal.returns-in-Idle
returns-in-Idle g c = left_there c.args.condition.now.signals (g.C.Clock.told c.args.hands.now.clock.now) (g.G.Gate.said c.args.hands.now.gate.now) g.D.Disk.written g.D.Disk.faults c.args.hands.now.kit.now c.args.self.now (record c.rounds.self { side = c.round.new.self; seats = c.round.new.seats; writes = c.is_over.new.writes; voice = c.is_over.new.voice })
    (rested_there c.args.condition.now.signals (g.C.Clock.told c.args.hands.now.clock.now) (g.G.Gate.said c.args.hands.now.gate.now) g.D.Disk.written g.D.Disk.faults c.args.hands.now.kit.now c.args.self.now c.rounds.self c.rounds.invariant c.round.new.self c.round.new.seats c.is_over.new.writes c.is_over.new.voice c.in-Idle.ticks c.in-Idle.writes
    (record { goes = c.round.ensures.goes; stands = c.round.ensures.stands; answers = c.in-Idle.ensures.answers; rotates = c.in-Idle.ensures.rotates })
    (speaks_more c.args.condition.now.signals c.rounds.self.writes c.is_over.new.writes None c.args.self.now.voice c.is_rung.new.voice c.is_over.new.voice
    (listened c.args.condition.now.signals (g.C.Clock.told c.args.hands.now.clock.now) (g.G.Gate.said c.args.hands.now.gate.now) g.D.Disk.written g.D.Disk.faults c.args.hands.now.kit.now c.args.self.now c.rounds.self c.rounds.invariant c.is_rung.result c.is_rung.new.voice c.is_rung.ensures.heard) c.is_over.ensures.speaks))
    c.is_over.new.voice (speaks_more c.args.condition.now.signals c.rounds.self.writes c.is_over.new.writes None c.args.self.now.voice c.is_rung.new.voice c.is_over.new.voice
    (listened c.args.condition.now.signals (g.C.Clock.told c.args.hands.now.clock.now) (g.G.Gate.said c.args.hands.now.gate.now) g.D.Disk.written g.D.Disk.faults c.args.hands.now.kit.now c.args.self.now c.rounds.self c.rounds.invariant c.is_rung.result c.is_rung.new.voice c.is_rung.ensures.heard) c.is_over.ensures.speaks)

pub is_over-requires : goal.is_over-requires
is_over-requires g c = record { voice = (listened c.args.condition.now.signals (g.C.Clock.told c.args.hands.now.clock.now) (g.G.Gate.said c.args.hands.now.gate.now) g.D.Disk.written g.D.Disk.faults c.args.hands.now.kit.now c.args.self.now c.rounds.self c.rounds.invariant c.is_rung.result c.is_rung.new.voice c.is_rung.ensures.heard).may }

pub returns-then-is_over : goal.returns-then-is_over
returns-then-is_over g c = ended_there c.args.condition.now.signals (g.C.Clock.told c.args.hands.now.clock.now) (g.G.Gate.said c.args.hands.now.gate.now) g.D.Disk.written g.D.Disk.faults c.args.hands.now.kit.now c.args.self.now c.rounds.self c.rounds.invariant c.round.new.self c.round.new.seats c.is_over.new.writes c.is_over.new.voice c.in-Idle.ticks c.in-Idle.writes
    (record { goes = c.round.ensures.goes; stands = c.round.ensures.stands; answers = c.in-Idle.ensures.answers; rotates = c.in-Idle.ensures.rotates }) (c.is_over.ensures.over (search rules)).0
    (speaks_ended c.args.condition.now.signals c.is_over.new.writes c.args.self.now.voice c.is_over.new.voice
    (speaks_more c.args.condition.now.signals c.rounds.self.writes c.is_over.new.writes None c.args.self.now.voice c.is_rung.new.voice c.is_over.new.voice
    (listened c.args.condition.now.signals (g.C.Clock.told c.args.hands.now.clock.now) (g.G.Gate.said c.args.hands.now.gate.now) g.D.Disk.written g.D.Disk.faults c.args.hands.now.kit.now c.args.self.now c.rounds.self c.rounds.invariant c.is_rung.result c.is_rung.new.voice c.is_rung.ensures.heard) c.is_over.ensures.speaks) (c.is_over.ensures.over (search rules)).1 (c.is_over.ensures.written (search rules)))

pub tell_end-requires-clause-voice : goal.tell_end-requires-clause-voice
tell_end-requires-clause-voice g c = (listened c.args.condition.now.signals (g.C.Clock.told c.args.hands.now.clock.now) (g.G.Gate.said c.args.hands.now.gate.now) g.D.Disk.written g.D.Disk.faults c.args.hands.now.kit.now c.args.self.now c.rounds.self c.rounds.invariant c.is_rung.result c.is_rung.new.voice c.is_rung.ensures.heard).may

pub tell_end-requires-clause-cut : goal.tell_end-requires-clause-cut
tell_end-requires-clause-cut g c = cuts_off c.args.condition.now.signals (g.C.Clock.told c.args.hands.now.clock.now) (g.G.Gate.said c.args.hands.now.gate.now) g.D.Disk.written g.D.Disk.faults c.args.hands.now.kit.now c.args.self.now c.rounds.self c.rounds.invariant c.round.new.self c.round.new.seats c.rounds.self.writes c.is_rung.new.voice c.in-Ends.end
    (record { goes = c.round.ensures.goes; stands = c.round.ensures.stands; answers = c.in-Ends.ensures.answers; rotates = c.in-Ends.ensures.rotates })

pub returns-in-Ends : goal.returns-in-Ends
returns-in-Ends g c = cut_there c.args.condition.now.signals (g.C.Clock.told c.args.hands.now.clock.now) (g.G.Gate.said c.args.hands.now.gate.now) g.D.Disk.written g.D.Disk.faults c.args.hands.now.kit.now c.args.self.now c.rounds.self c.rounds.invariant c.round.new.self c.round.new.seats c.tell_end.new.writes c.tell_end.new.voice c.in-Ends.end
    (record { goes = c.round.ensures.goes; stands = c.round.ensures.stands; answers = c.in-Ends.ensures.answers; rotates = c.in-Ends.ensures.rotates })
    (speaks_more c.args.condition.now.signals c.rounds.self.writes c.tell_end.new.writes (Some c.in-Ends.end) c.args.self.now.voice c.is_rung.new.voice c.tell_end.new.voice
    (listened c.args.condition.now.signals (g.C.Clock.told c.args.hands.now.clock.now) (g.G.Gate.said c.args.hands.now.gate.now) g.D.Disk.written g.D.Disk.faults c.args.hands.now.kit.now c.args.self.now c.rounds.self c.rounds.invariant c.is_rung.result c.is_rung.new.voice c.is_rung.ensures.heard) c.tell_end.ensures)
