use Rattle.std.proofs.Common.{refl}
use Rattle.wbt_flusher.proofs.Going.{kept_more}
use Rattle.wbt_flusher.proofs.plan.FlusherPlan.end_return.Goals as goal

pub returns-clause-goes : goal.returns-clause-goes
returns-clause-goes g c =
    let m = c.mark.ensures in
    let r = c.rest_without.ensures in
    kept_more c.args.self.now c.args.hands.now.kit.now c.args.seats.now c.mark.new.seats c.mark.new.seats c.args.work.now c.mark.new.work c.rest_without.new.work m.goes
    (r.goes c.args.hands.now.kit.now c.mark.new.seats m.fits m.pays)

pub returns-clause-ends : goal.returns-clause-ends
returns-clause-ends g c log written =
    let m = c.mark.ensures in
    let r = c.rest_without.ensures in
    record {
      marked = c.mark.new.work;
      only = m.only_waiting;
      marks = m.marks;
      now = c.told_moment.result;
      was_told = c.told_moment.ensures.told;
      phase = r.idle;
      batch = r.batch;
      rest = r.rest;
      tallies = r.tallies;
      log = refl;
    }
