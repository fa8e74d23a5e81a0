use Rattle.std.specs.Prelude.{None}
use Rattle.wbt_flusher.proofs.Common.{no_moments, sight}
use Rattle.wbt_flusher.proofs.Going.{went_more, rooms_went}
use Rattle.wbt_flusher.proofs.plan.FlusherPlan.add_shares.Goals as goal

pub add_share-requires-then-group-ne0-clause-rooms : goal.add_share-requires-then-group-ne0-clause-rooms
add_share-requires-then-group-ne0-clause-rooms c =
    rooms_went c.args.self.now c.args.kit.now no_moments (sight c.args.work.now c.args.seats.now c.args.pen.now.log None) (sight c.add_share.new.work c.add_share.new.seats c.add_share.new.pen.log None)
    (c.add_share.ensures.goes no_moments None) c.requires.rooms

pub returns-then-group-ne0-clause-goes : goal.returns-then-group-ne0-clause-goes
returns-then-group-ne0-clause-goes c told written =
    let a = c.add_share in
    let b = c.add_share-then-group-ne0 in
    went_more c.args.self.now c.args.kit.now told (sight c.args.work.now c.args.seats.now c.args.pen.now.log written) (sight a.new.work a.new.seats a.new.pen.log written) (sight b.new.work b.new.seats b.new.pen.log written)
    (a.ensures.goes told written) (b.ensures.goes told written)
