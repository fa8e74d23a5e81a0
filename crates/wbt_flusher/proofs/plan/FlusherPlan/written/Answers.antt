use Rattle.std.proofs.Common.{refl}
use Rattle.wbt_flusher.proofs.Common.{Seats}
use Rattle.wbt_flusher.proofs.Sharing.{noted_goes}
use Rattle.wbt_flusher.proofs.plan.FlusherPlan.written.Goals as goal

pub returns-clause-goes : goal.returns-clause-goes
returns-clause-goes c =
    let e = c.written.ensures in
    let old = c.args.seats.now in
    let new : Seats = record { cpu = old.cpu; share = c.written.new.seat; est = old.est; queue = old.queue } in
    noted_goes c.args.self.now c.args.kit.now old new c.requires.fits (record { cpu = refl; est = refl; queue = refl }) e.seat.0 e.seat.1 e.same.0 e.same.1
