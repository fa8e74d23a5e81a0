use Rattle.std.proofs.Common.{ap, arith}
use Rattle.wbt_run_worker.proofs.Common.{first_held, no_record, Limits, Known}
use Rattle.wbt_run_drain.specs.Teams.{teams_of, written_by_all}
use Rattle.wbt_run_lend.proofs.First.{workers_first}
use Rattle.wbt_run_first.proofs.Giving.{fallen_given, fallen_none, grows_nothing, grows_still}
use Rattle.wbt_run_lend.proofs.workers.make_workers.Goals as goal

pub split_each-requires-clause-held : goal.split_each-requires-clause-held
split_each-requires-clause-held g c = λ cpu less. (no_record, first_held c.args.trace.now c.args.now c.args.hands.now.kit.now c.args.seats.now c.requires.kit c.requires.seats c.requires.first cpu less)

pub returns-in-Err-split_each-clause-written : goal.returns-in-Err-split_each-clause-written
returns-in-Err-split_each-clause-written g c =
    grows_still (g.R.Rack.written c.args.rack.now) (g.R.Rack.written c.make_sides.new.rack) (g.R.Rack.written c.give_all.new.rack) c.make_sides.ensures.written
    (grows_nothing (written_by_all (teams_of g.R.D.Disk.written g.R.D.Disk.faults c.in-Ok.sides.items)) (g.R.Rack.written c.make_sides.new.rack) (g.R.Rack.written c.give_all.new.rack)
    c.in-Ok.ensures.unwritten c.give_all.ensures.given.written)

pub returns-in-Err-split_each-clause-fallen : goal.returns-in-Err-split_each-clause-fallen
returns-in-Err-split_each-clause-fallen g c = fallen_none _ _ _ c.make_sides.ensures.fallen (fallen_given _ _ _ c.give_all.ensures.given.risen)

pub returns-in-Ok-split_each-clause-made : goal.returns-in-Ok-split_each-clause-made
returns-in-Ok-split_each-clause-made g c =
    workers_first g.R.D.Disk.written g.R.D.Disk.faults c.args.trace.now c.args.now c.args.hands.now.kit.now c.args.seats.now c.requires.lawful c.requires.kit c.requires.seats c.requires.first
    c.in-Ok-split_each.parts.items c.in-Ok.sides.items c.seat_each.result.items
    c.in-Ok-split_each.ensures.parts
    (c.in-Ok.ensures.made c.args.now (ap (λ (l : Limits). l.thresh) c.first_limits.ensures.value))
    c.seat_each.ensures.put

pub returns-in-Ok-split_each-clause-handed : goal.returns-in-Ok-split_each-clause-handed
returns-in-Ok-split_each-clause-handed g c =
    let made = workers_first g.R.D.Disk.written g.R.D.Disk.faults c.args.trace.now c.args.now c.args.hands.now.kit.now c.args.seats.now c.requires.lawful c.requires.kit c.requires.seats c.requires.first
    c.in-Ok-split_each.parts.items c.in-Ok.sides.items c.seat_each.result.items
    c.in-Ok-split_each.ensures.parts
    (c.in-Ok.ensures.made c.args.now (ap (λ (l : Limits). l.thresh) c.first_limits.ensures.value))
    c.seat_each.ensures.put in
    let many = made.many in
    let writes = ap (λ (v : Known). v.writes) c.seat_each.ensures.voice in
    let there = ap (λ (v : Known). v.there) c.seat_each.ensures.voice in
    (omega (arith, many, writes, c.requires.counted), omega (arith, many, there, c.requires.counted))
