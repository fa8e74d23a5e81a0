use Rattle.std.proofs.Common.{arith, sym, ap, ◌∙◌, refl, ◌<◌, length}
use Rattle.wbt_flusher.proofs.Common.{sight, no_moments}
use Rattle.wbt_flusher.proofs.Going.{went_more, rooms_went, goes_kept}
use Rattle.wbt_flusher.proofs.Keeping.{kept_tally}
use Rattle.std.specs.Prelude.{None}
use Rattle.wbt_flex.specs.Proportions.{may_be_added}
use Rattle.wbt_flusher.specs.Reads.{is_allowed, is_dropped}
use Rattle.wbt_flusher.proofs.Held.{holds_left, adds_owed}
use Rattle.wbt_flusher.proofs.plan.FlusherPlan.add_share.Goals as goal

pub add_owed-requires-clause-rooms : goal.add_owed-requires-clause-rooms
add_owed-requires-clause-rooms c =
    rooms_went c.args.self.now c.args.kit.now no_moments (sight c.args.work.now c.args.seats.now c.args.pen.now.log None) (sight c.read_share-fraction.new.work c.read_share-fraction.new.seats c.args.pen.now.log None)
    (c.read_share-fraction.ensures.goes no_moments c.args.pen.now.log None) c.requires.rooms

pub returns-then-may_add-clause-goes : goal.returns-then-may_add-clause-goes
returns-then-may_add-clause-goes c told written =
    let r = c.read_share-fraction in
    went_more c.args.self.now c.args.kit.now told (sight c.args.work.now c.args.seats.now c.args.pen.now.log written) (sight r.new.work r.new.seats c.args.pen.now.log written) (sight c.add_owed.new.work c.add_owed.new.seats c.add_owed.new.pen.log written)
    (r.ensures.goes told c.args.pen.now.log written) (c.add_owed.ensures.goes told written)

pub returns-else-may_add-clause-goes : goal.returns-else-may_add-clause-goes
returns-else-may_add-clause-goes c told written =
    let r = c.read_share-fraction in
    let d = c.drop_owed.ensures in
    went_more c.args.self.now c.args.kit.now told (sight c.args.work.now c.args.seats.now c.args.pen.now.log written) (sight r.new.work r.new.seats c.args.pen.now.log written) (sight c.drop_owed.new.work r.new.seats c.args.pen.now.log written)
    (r.ensures.goes told c.args.pen.now.log written)
    (goes_kept c.args.self.now c.args.kit.now r.new.seats r.new.work c.drop_owed.new.work r.ensures.fits
    (kept_tally c.args.self.now r.new.seats r.new.work c.drop_owed.new.work c.args.context c.args.domain _ r.ensures.lists c.requires.part.there d.only_tallies d.dropped (omega arith)) told c.args.pen.now.log written)

pub returns-then-may_add-clause-adds : goal.returns-then-may_add-clause-adds
returns-then-may_add-clause-adds c =
    let r = c.read_share-fraction in
    let a = c.add_owed.ensures.adds in
    let was = c.args.work.now.tallies.items in
    let mid = r.new.work.tallies.items in
    let there : c.args.context < length was = (let long = c.requires.lists.tallies in let k = c.requires.part.there in omega arith) in
    record {
      fraction = r.result;
      read = r.new.seats.share;
      reads = r.ensures.reads;
      left = a.left;
      adds = is_allowed (sym (c.may_add.ensures.value ∙ ap (may_be_added r.result) c.max_share.ensures.value) ∙ c.if-may_add.true)
          (adds_owed c.args.domain c.args.context was mid r.result there r.ensures.holds a.left r.new.seats.share c.add_owed.new.seats.share c.args.pen.now.log c.add_owed.new.pen.log a.adds);
      tallies = holds_left c.args.domain c.args.context was mid r.result there r.ensures.holds a.left c.add_owed.new.work.tallies.items a.tallies;
    }

pub returns-else-may_add-clause-adds : goal.returns-else-may_add-clause-adds
returns-else-may_add-clause-adds c =
    let r = c.read_share-fraction in
    let was = c.args.work.now.tallies.items in
    let mid = r.new.work.tallies.items in
    let there : c.args.context < length was = (let long = c.requires.lists.tallies in let k = c.requires.part.there in omega arith) in
    record {
      fraction = r.result;
      read = r.new.seats.share;
      reads = r.ensures.reads;
      left = 0;
      adds = is_dropped (sym (c.may_add.ensures.value ∙ ap (may_be_added r.result) c.max_share.ensures.value) ∙ c.if-may_add.false) refl refl refl;
      tallies = holds_left c.args.domain c.args.context was mid r.result there r.ensures.holds 0 c.drop_owed.new.work.tallies.items c.drop_owed.ensures.dropped;
    }
