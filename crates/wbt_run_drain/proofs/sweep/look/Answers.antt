use Rattle.std.proofs.Common.{refl}
use Rattle.wbt_run_worker.proofs.Common.{Seats, Seated}
use Rattle.wbt_run_steps.specs.Records.{OnlyCpu}
use Rattle.wbt_run_drain.proofs.Looking.{first_held, marked, placed}
use Rattle.wbt_run_drain.proofs.sweep.look.Goals as goal

abbrev with_cpu : (seats : Seats) (cpu : Seated) → Seats
with_cpu seats cpu = record { cpu = cpu; share = seats.share; est = seats.est; queue = seats.queue }

only : (seats : Seats) (cpu : Seated) → OnlyCpu seats (with_cpu seats cpu)
only seats cpu = record { share = refl; est = refl; queue = refl }

pub mark_inode-requires-clause-there : goal.mark_inode-requires-clause-there
mark_inode-requires-clause-there g c = (placed c.args.trace.now c.args.hands.now.kit.now.published.moment c.args.hands.now.kit.now c.args.inode c.requires.lawful c.requires.kit c.requires.inode).mark

pub mark_inode-requires-clause-held : goal.mark_inode-requires-clause-held
mark_inode-requires-clause-held g c = first_held c.args.trace.now c.args.hands.now.kit.now.published.moment c.args.hands.now.kit.now c.args.seats.now c.requires.lawful c.requires.kit c.requires.seats c.requires.all

pub returns-clause-untold : goal.returns-clause-untold
returns-clause-untold g c =
    let m = c.mark_inode.ensures.marks in
    let r = first_held c.args.trace.now c.args.hands.now.kit.now.published.moment c.args.hands.now.kit.now c.args.seats.now c.requires.lawful c.requires.kit c.requires.seats c.requires.all in
    marked c.args.hands.now.kit.now 0 c.args.inode m.0 c.args.seats.now (with_cpu c.args.seats.now c.mark_inode.new.seat) r.0 refl c.requires.seats r.1 (only c.args.seats.now c.mark_inode.new.seat) m.2
