use Rattle.std.proofs.Common.{◌<◌, ◌≤◌, length, refl, sym, ap, ◌∙◌, subst, arith}
use Rattle.wbt_flusher.proofs.Common.{Estimate, note_of, after_read, first_in, known_of, Known, Seats}
use Rattle.wbt_run_laws.specs.Notes.{IsNewest}
use Rattle.wbt_run_laws.proofs.Calling.{read_tells_nothing, read_is_newest}
use Rattle.wbt_flusher.proofs.Measuring.{known_here, fits_est, read_goes, version_of, last_place, newest_after}
use Rattle.wbt_flusher.proofs.plan.FlusherPlan.newest.Goals as goal

pub returns : goal.returns
returns g c =
    let old = c.args.seats.now in
    let plan = c.args.self.now in
    let kit = c.args.hands.now.kit.now in
    let k = c.args.context in
    let e = c.read.ensures in
    let known : Known = known_of k old.est in
    let note : Estimate = note_of c.read.result in
    let new : Seats = record { cpu = old.cpu; share = old.share; est = c.read.new.pass; queue = old.queue } in
    let fits = c.requires.fits in
    let there : k < length old.est.known = (let a = fits.seats_are.each_context in let b = c.requires.suits.published in omega arith) in
    let publishes = fits.publishes k c.requires.measured in
    let complete = c.publishes-publishes.ensures.complete (c.publishes-publishes.ensures.value ∙ publishes) in
    let newest = e.newest publishes in
    let low : known.seen ≤ (after_read note known).seen = (let v = version_of c.read.result in let f = e.fresh.0 in omega arith) in
    let at = known_here plan kit old new k (after_read note known) fits (record { cpu = refl; share = refl; queue = refl }) e.noted there refl in
    record {
      goes = read_goes plan kit old new k (after_read note known) fits (record { cpu = refl; share = refl; queue = refl }) e.noted there refl low (read_tells_nothing (first_in kit.published.firsts k) known c.read.result);
      fits = fits_est plan kit old new k (after_read note known) fits (record { cpu = refl; share = refl; queue = refl }) e.noted there refl;
      only_est = record { cpu = refl; share = refl; queue = refl };
      sound = e.sound;
      newest = subst (λ (q : Known). IsNewest (first_in kit.published.firsts k) q c.read.result) (sym at) (newest_after (first_in kit.published.firsts k) known note c.read.result (read_is_newest (first_in kit.published.firsts k) known c.read.result complete newest e.first));
      last = ap (λ (q : Known). length q.all) at ∙ last_place known c.read.result complete newest;
      seen = ap (λ (q : Known). q.seen) at ∙ version_of c.read.result;
      reads = record { noted = e.noted; first = e.first; sound = e.sound; no_older = e.fresh.0 };
    }
