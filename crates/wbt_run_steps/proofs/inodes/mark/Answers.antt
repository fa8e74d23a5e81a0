use Rattle.std.proofs.Common.{refl}
use Rattle.wbt_grant.specs.Kinds as kind
use Rattle.wbt_kit.proofs.Common.{record_after, setting}
use Rattle.wbt_kit.specs.declared.kit.Seats.{Seats}
use Rattle.wbt_run_steps.proofs.Changing.{seats_stay}
use Rattle.wbt_run_steps.proofs.inodes.mark.Goals as goal

pub returns : goal.returns
returns c =
    let old = c.args.seats.now in
    let new : Seats = record { cpu = c.mark_inode.new.seat; share = old.share; est = old.est; queue = old.queue } in
    let m = c.mark_inode.ensures.marks in
    let h = c.requires.held in
    record {
      seats = seats_stay c.args.kit.now c.args.cpu (record_after (setting c.args.kit.now.throttle.layout) (kind.mark c.args.cpu c.args.inode) m.0) old new h.0 c.requires.seats h.1 m.2.changes
          (record { share = refl; est = refl; queue = refl });
      marks = record { found = m.0; is_clear = m.1; makes = m.2; only = record { share = refl; est = refl; queue = refl } };
    }
