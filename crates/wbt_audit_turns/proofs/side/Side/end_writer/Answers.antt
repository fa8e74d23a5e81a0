use Rattle.std.proofs.Common.{arith}
use Rattle.wbt_audit_walk.proofs.Common.{Ended, is_write}
use Rattle.wbt_audit_turns.specs.Sides.{cpu_of}
use Rattle.wbt_audit_turns.proofs.Siding.{fits_by, room_of}
use Rattle.wbt_audit_turns.proofs.side.Side.end_writer.Goals as goal

pub count-requires-clause-room : goal.count-requires-clause-room
count-requires-clause-room c = room_of c.args.machine.now.ratelimit_pages c.args.machine.now.cap (cpu_of c.args.self.now) (Ended c.args.number) c.requires.there tt
    (let p = c.requires.fits.pages in omega arith) (let p = c.requires.fits.since in omega arith)

pub returns-clause-fits : goal.returns-clause-fits
unfolding is_write
returns-clause-fits c = fits_by c.args.machine.now c.args.self.now c.count.new.self c.args.machine.now.ratelimit_pages c.args.machine.now.cap (Ended c.args.number) c.requires.fits c.requires.there tt
    c.count.ensures.cpu c.count.ensures.tasks (let r = c.count.ensures.room in omega arith)
