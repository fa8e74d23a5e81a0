use Rattle.std.proofs.Common.{sym, subst, arith}
use Rattle.wbt_kit.proofs.Common.{AreSeatsOf}
use Rattle.wbt_run_seats.proofs.Parting.{may_split, some_parts_seats, all_parts, all_left}
use Rattle.wbt_run_seats.proofs.split.split_each.Goals as goal

pub split-requires-clause-seats : goal.split-requires-clause-seats
split-requires-clause-seats g c =
    (may_split c.args.kit.now c.requires.owners c.args.seats.now c.loop-cpu.cpu c.args.cpus c.loop-cpu-test.true c.requires.cpus (record { seats_are = c.requires.seats; splits = c.requires.room }) c.requires.held
    c.loop-cpu.seats c.loop-cpu.invariant.seats_are).seats_are

pub split-requires-clause-held : goal.split-requires-clause-held
split-requires-clause-held g c =
    (may_split c.args.kit.now c.requires.owners c.args.seats.now c.loop-cpu.cpu c.args.cpus c.loop-cpu-test.true c.requires.cpus (record { seats_are = c.requires.seats; splits = c.requires.room }) c.requires.held
    c.loop-cpu.seats c.loop-cpu.invariant.seats_are).held

pub split-requires-clause-room : goal.split-requires-clause-room
split-requires-clause-room g c =
    (may_split c.args.kit.now c.requires.owners c.args.seats.now c.loop-cpu.cpu c.args.cpus c.loop-cpu-test.true c.requires.cpus (record { seats_are = c.requires.seats; splits = c.requires.room }) c.requires.held
    c.loop-cpu.seats c.loop-cpu.invariant.seats_are).room

pub take_back-requires-clause-seats : goal.take_back-requires-clause-seats
take_back-requires-clause-seats g c =
    subst (AreSeatsOf c.args.kit.now) (sym c.in-Err.ensures.refused)
    (may_split c.args.kit.now c.requires.owners c.args.seats.now c.loop-cpu.cpu c.args.cpus c.loop-cpu-test.true c.requires.cpus (record { seats_are = c.requires.seats; splits = c.requires.room }) c.requires.held
    c.loop-cpu.seats c.loop-cpu.invariant.seats_are).seats_are

pub take_back-requires-clause-parts : goal.take_back-requires-clause-parts
take_back-requires-clause-parts g c =
    some_parts_seats c.args.kit.now c.requires.owners c.args.seats.now c.loop-cpu.cpu c.args.cpus (omega arith) (record { seats_are = c.requires.seats; splits = c.requires.room })
    c.loop-cpu.parts.items c.loop-cpu.invariant.parts_are

pub returns-clause-parts : goal.returns-clause-parts
returns-clause-parts g c =
    all_parts c.args.kit.now c.requires.owners c.args.seats.now c.loop-cpu.cpu c.args.cpus (omega arith) c.requires.cpus (record { seats_are = c.requires.seats; splits = c.requires.room }) c.requires.held
    c.loop-cpu.parts.items c.loop-cpu.invariant.parts_are

pub returns-clause-left : goal.returns-clause-left
returns-clause-left g c =
    all_left c.args.kit.now c.requires.owners c.args.seats.now c.loop-cpu.cpu c.args.cpus (omega arith) c.requires.cpus (record { seats_are = c.requires.seats; splits = c.requires.room })
    c.loop-cpu.seats c.loop-cpu.invariant.seats_are
