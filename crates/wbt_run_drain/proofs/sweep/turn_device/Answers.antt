use Rattle.wbt_run_steps.proofs.Queues.{puts_each}
use Rattle.wbt_run_drain.proofs.Looking.{first_held}
use Rattle.wbt_run_drain.proofs.Putting.{next_put}
use Rattle.wbt_run_drain.proofs.Queued.{queued_put}
use Rattle.wbt_run_drain.proofs.Reopening.{goes_on, stand_again, went_again}
use Rattle.wbt_run_drain.proofs.Sweeps.{cpus_are}
use Rattle.wbt_run_drain.proofs.Turning.{went_more}
use Rattle.wbt_run_drain.proofs.Untold.{put_untold, still_standing, turns_put, went_untold}
use Rattle.wbt_run_drain.proofs.sweep.turn_device.Goals as goal

pub put_back-requires : goal.put_back-requires
put_back-requires g c = record { seats = c.requires.standing.seats_are; device = c.requires.device }

pub drain-requires : goal.drain-requires
drain-requires g c =
    let told = g.C.Clock.told c.args.hands.now.clock.now in
    let said = g.G.Gate.said c.args.hands.now.gate.now in
    let trace = c.args.trace.now in
    let kit = c.args.hands.now.kit.now in
    let old = c.args.sides.now in
    let new = c.open_flushers.new.sides in
    let seats = c.args.seats.now in
    let put = c.put_back.new.seats in
    let r = first_held trace kit.published.moment kit seats c.requires.lawful c.requires.kit c.requires.standing.seats_are c.requires.standing.all_held in
    let again = stand_again told said g.D.Disk.written g.D.Disk.faults trace kit c.args.device old new seats c.open_flushers.ensures c.requires.standing c.requires.ended c.requires.done in
    record {
      standing = still_standing told said g.D.Disk.written g.D.Disk.faults trace kit new 0 seats put (cpus_are trace kit.published.moment kit c.requires.kit) c.requires.lawful.whole.cpus
          (put_untold kit seats put r.0 r.1 c.put_back.ensures.only c.put_back.ensures.seats) again
          (queued_put g.D.Disk.written g.D.Disk.faults trace kit new seats put c.args.device c.put_back.ensures.device
          (goes_on told said g.D.Disk.written g.D.Disk.faults trace kit c.args.device old new seats c.open_flushers.ensures c.requires.standing c.requires.ended c.requires.done) again.queued)
          (turns_put trace kit new seats put c.put_back.ensures.only again.turns);
    }

pub returns-clause-went : goal.returns-clause-went
returns-clause-went g c =
    let told = g.C.Clock.told c.args.hands.now.clock.now in
    let said = g.G.Gate.said c.args.hands.now.gate.now in
    let trace = c.args.trace.now in
    let kit = c.args.hands.now.kit.now in
    let old = c.args.sides.now in
    let new = c.open_flushers.new.sides in
    let seats = c.args.seats.now in
    let put = c.put_back.new.seats in
    let r = first_held trace kit.published.moment kit seats c.requires.lawful c.requires.kit c.requires.standing.seats_are c.requires.standing.all_held in
    let again = stand_again told said g.D.Disk.written g.D.Disk.faults trace kit c.args.device old new seats c.open_flushers.ensures c.requires.standing c.requires.ended c.requires.done in
    went_more trace old new c.drain.new.sides seats put c.drain.new.seats
    (went_more trace old new new seats seats put
    (went_again told said g.D.Disk.written g.D.Disk.faults trace kit c.args.device old new seats c.open_flushers.ensures c.requires.standing c.requires.ended c.requires.done)
    (went_untold told said g.D.Disk.written g.D.Disk.faults trace kit new 0 seats put (cpus_are trace kit.published.moment kit c.requires.kit) c.requires.lawful.whole.cpus
    (put_untold kit seats put r.0 r.1 c.put_back.ensures.only c.put_back.ensures.seats) again
    (puts_each c.args.device seats.queue put.queue c.put_back.ensures.device)))
    c.drain.ensures.went

pub returns-clause-puts : goal.returns-clause-puts
returns-clause-puts g c =
    next_put c.args.hands.now.kit.now c.args.device c.args.inode c.args.seats.now.queue c.put_back.new.seats.queue c.drain.new.seats.queue
    c.put_back.ensures.queued (c.drain.ensures.went.puts c.args.device)
