use Rattle.std.proofs.Common.{arith}
use Rattle.wbt_table.proofs.Splitting.{cpu_there, timer_there, no_cpu}
use Rattle.wbt_table.proofs.seat.CpuSeat.steps.Goals as goal

pub state-requires : goal.state-requires
state-requires c = let s = c.self.inside in
    let l = c.len.ensures in
    let less = c.if-number-len.true in
    record { held = cpu_there s.place.table_id s.place.me s.cpus.items s.lefts.items s.timer c.args.self.now c.self.view_is c.self.invariant.seat c.args.cpu (omega arith) c.requires.held }

pub unreachable-requires : goal.unreachable-requires
unreachable-requires c = let s = c.self.inside in
    let l = c.len.ensures in
    let more = c.if-number-len.false in
    timer_there s.place.table_id s.place.me s.cpus.items s.lefts.items s.timer c.args.self.now c.self.view_is c.self.invariant.seat c.args.cpu (omega arith) c.in-None.is c.requires.held

pub returns-clause-cpu : goal.returns-clause-cpu
returns-clause-cpu c r has = let s = c.self.inside in
    let l = c.len.ensures in
    let more = c.if-number-len.false in
    absurd (no_cpu s.place.table_id s.place.me s.cpus.items s.lefts.items s.timer c.args.self.now c.self.view_is c.self.invariant.seat c.args.cpu (omega arith) r has)
