-- The mark was set, and the inode was put where that was clear.
use Rattle.std.proofs.Common.{true≢false, eq-eqb, ◌∙◌, refl, sym, subst}
use Rattle.std.proofs.lemmas.Bool.{eqb-true}
use Rattle.wbt_flusher.proofs.Common.{mark, setting, Makes, Seated, sight}
use Rattle.wbt_flusher.proofs.Going.{went_more}
use Rattle.wbt_flusher.proofs.Held.{puts_from}
use Rattle.wbt_flusher.proofs.Keeping.{debts_same}
use Rattle.wbt_flusher.proofs.Marks.{marked, pays_still}
use Rattle.wbt_flusher.proofs.plan.FlusherPlan.mark.Goals as goal

pub put-requires-clause-fits : goal.put-requires-clause-fits
put-requires-clause-fits g c =
    let m = c.mark.ensures.marks in
    (marked c.args.self.now c.args.hands.now.kit.now c.args.seats.now c.mark.new.seats c.args.work.now c.args.inode m.found c.requires.suits c.requires.fits m.only c.requires.inode m.makes.changes).fits

pub returns-then-mark-clause-goes : goal.returns-then-mark-clause-goes
returns-then-mark-clause-goes g c told log written =
    let m = c.mark.ensures.marks in
    let by = marked c.args.self.now c.args.hands.now.kit.now c.args.seats.now c.mark.new.seats c.args.work.now c.args.inode m.found c.requires.suits c.requires.fits m.only c.requires.inode m.makes.changes in
    went_more c.args.self.now c.args.hands.now.kit.now told (sight c.args.work.now c.args.seats.now log written) (sight c.args.work.now c.mark.new.seats log written) (sight c.put.new.work c.put.new.seats log written)
    (by.goes told log written) (c.put.ensures.goes told log written)

pub returns-then-mark-clause-debts : goal.returns-then-mark-clause-debts
returns-then-mark-clause-debts g c =
    let m = c.mark.ensures.marks in
    let by = marked c.args.self.now c.args.hands.now.kit.now c.args.seats.now c.mark.new.seats c.args.work.now c.args.inode m.found c.requires.suits c.requires.fits m.only c.requires.inode m.makes.changes in
    debts_same c.args.self.now c.mark.new.seats c.put.new.seats c.put.ensures.only_queue.cpu ∙ by.debts

pub returns-then-mark-clause-pays : goal.returns-then-mark-clause-pays
returns-then-mark-clause-pays g c =
    let m = c.mark.ensures.marks in
    let by = marked c.args.self.now c.args.hands.now.kit.now c.args.seats.now c.mark.new.seats c.args.work.now c.args.inode m.found c.requires.suits c.requires.fits m.only c.requires.inode m.makes.changes in
    pays_still c.args.self.now c.args.inode c.mark.new.seats c.put.new.seats c.put.ensures.only_queue by.pays

pub returns-then-mark-clause-marks : goal.returns-then-mark-clause-marks
returns-then-mark-clause-marks g c =
    let plan = c.args.self.now in
    let kit = c.args.hands.now.kit.now in
    let m = c.mark.ensures.marks in
    let p = c.put.ensures in
    record {
      found = m.found;
      makes = subst (λ (s : Seated). Makes (setting kit.throttle.layout) (mark plan.cpu c.args.inode) m.found c.args.seats.now.cpu s) (sym p.only_queue.cpu) m.makes;
      puts = λ none. puts_from plan kit c.args.inode c.args.seats.now.queue c.mark.new.seats.queue c.put.new.seats.queue c.args.work.now c.put.new.work m.only.queue p.put;
      puts_none = λ some. absurd (some (eqb-true m.found 0 (sym m.is_clear ∙ c.if-mark.true)));
    }

pub returns-else-mark-clause-goes : goal.returns-else-mark-clause-goes
returns-else-mark-clause-goes g c =
    let m = c.mark.ensures.marks in
    (marked c.args.self.now c.args.hands.now.kit.now c.args.seats.now c.mark.new.seats c.args.work.now c.args.inode m.found c.requires.suits c.requires.fits m.only c.requires.inode m.makes.changes).goes

pub returns-else-mark-clause-fits : goal.returns-else-mark-clause-fits
returns-else-mark-clause-fits g c =
    let m = c.mark.ensures.marks in
    (marked c.args.self.now c.args.hands.now.kit.now c.args.seats.now c.mark.new.seats c.args.work.now c.args.inode m.found c.requires.suits c.requires.fits m.only c.requires.inode m.makes.changes).fits

pub returns-else-mark-clause-debts : goal.returns-else-mark-clause-debts
returns-else-mark-clause-debts g c =
    let m = c.mark.ensures.marks in
    (marked c.args.self.now c.args.hands.now.kit.now c.args.seats.now c.mark.new.seats c.args.work.now c.args.inode m.found c.requires.suits c.requires.fits m.only c.requires.inode m.makes.changes).debts

pub returns-else-mark-clause-pays : goal.returns-else-mark-clause-pays
returns-else-mark-clause-pays g c =
    let m = c.mark.ensures.marks in
    (marked c.args.self.now c.args.hands.now.kit.now c.args.seats.now c.mark.new.seats c.args.work.now c.args.inode m.found c.requires.suits c.requires.fits m.only c.requires.inode m.makes.changes).pays

pub returns-else-mark-clause-marks : goal.returns-else-mark-clause-marks
returns-else-mark-clause-marks g c =
    let m = c.mark.ensures.marks in
    record {
      found = m.found;
      makes = m.makes;
      puts = λ none. absurd (true≢false (sym (eq-eqb m.found 0 none) ∙ sym m.is_clear ∙ c.if-mark.false));
      puts_none = λ some. (m.only.queue, refl);
    }
