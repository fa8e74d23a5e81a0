use Rattle.std.proofs.Common.{refl, arith}
use Rattle.wbt_flusher.proofs.Common.{Seats}
use Rattle.wbt_flusher.proofs.Sharing.{counted_goes, total_room_for}
use Rattle.wbt_flusher.proofs.Tallying.{no_more, total_here, total_elsewhere}
use Rattle.wbt_flusher.proofs.plan.FlusherPlan.count_written.Goals as goal

pub wrote-requires-clause-room : goal.wrote-requires-clause-room
wrote-requires-clause-room c =
    let room = total_room_for c.args.self.now c.args.work.now c.args.seats.now c.args.context c.requires.rooms c.requires.there in
    let same = c.take_written-n.ensures.value in omega arith

pub returns-clause-goes : goal.returns-clause-goes
returns-clause-goes c =
    let t = c.take_written-n.ensures in
    let e = c.wrote.ensures in
    let was = c.args.work.now in
    let is = c.take_written-n.new.work in
    let new : Seats = record { cpu = c.args.seats.now.cpu; share = c.wrote.new.seat; est = c.args.seats.now.est; queue = c.args.seats.now.queue } in
    let same = t.value in
    counted_goes c.args.self.now c.args.kit.now c.args.seats.now new was is c.args.context c.take_written-n.result
    c.requires.suits c.requires.fits (record { cpu = refl; est = refl; queue = refl }) e.seat.0 c.requires.there e.seat.1 e.same e.room (let room = total_room_for c.args.self.now c.args.work.now c.args.seats.now c.args.context c.requires.rooms c.requires.there in omega arith)
    t.only_tallies.phase (λ i. (t.only_tallies.batch i).items) t.only_tallies.faults t.only_tallies.wheel
    (λ d. no_more c.args.self.now was is c.args.context _ c.requires.lists c.requires.there t.only_tallies.phase t.set d (omega arith))
    (total_here c.args.self.now was is c.args.context _ c.requires.lists c.requires.there t.only_tallies.phase t.set c.take_written-n.result (omega arith))
    (total_elsewhere c.args.self.now was is c.args.context _ c.requires.lists c.requires.there t.only_tallies.phase t.set)
