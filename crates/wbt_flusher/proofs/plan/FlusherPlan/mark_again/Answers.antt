use Rattle.std.proofs.Common.{refl}
use Rattle.wbt_flusher.proofs.Common.{mark, setting, asked_none, asked_once, once_made, makes_as}
use Rattle.wbt_flusher.proofs.Going.{goes_nowhere}
use Rattle.wbt_flusher.proofs.Marks.{pays_scan}
use Rattle.wbt_flusher.proofs.Turning.{no_mark, one_mark}
use Rattle.wbt_flusher.proofs.plan.FlusherPlan.mark_again.Goals as goal

pub returns-then-scan-clause-goes : goal.returns-then-scan-clause-goes
returns-then-scan-clause-goes g c told log written = goes_nowhere c.args.self.now c.args.hands.now.kit.now c.args.seats.now c.requires.fits told c.args.work.now log written

pub returns-then-scan-clause-asked : goal.returns-then-scan-clause-asked
returns-then-scan-clause-asked g c = asked_none c.args.self.now.cpu (g.G.Gate.said c.args.hands.now.gate.now) c.args.seats.now c.args.seats.now refl

pub returns-then-not-may_step-clause-asked : goal.returns-then-not-may_step-clause-asked
returns-then-not-may_step-clause-asked g c = asked_none c.args.self.now.cpu (g.G.Gate.said c.args.hands.now.gate.now) c.args.seats.now c.args.seats.now refl

pub returns-clause-asked : goal.returns-clause-asked
returns-clause-asked g c =
    asked_once c.args.self.now.cpu (g.G.Gate.said c.args.hands.now.gate.now) c.may_step.result c.args.seats.now c.mark.new.seats c.may_step.ensures c.if-not-may_step.false
    (once_made (setting c.args.hands.now.kit.now.throttle.layout) (mark c.args.self.now.cpu c.args.scan.inode) c.mark.ensures.marks.found c.args.self.now.cpu c.args.seats.now c.mark.new.seats refl c.requires.fits.held c.mark.ensures.marks.makes)

pub returns-then-not-may_step-clause-goes : goal.returns-then-not-may_step-clause-goes
returns-then-not-may_step-clause-goes g c told log written = goes_nowhere c.args.self.now c.args.hands.now.kit.now c.args.seats.now c.requires.fits told c.args.work.now log written

-- ---- kinds of steps

pub returns-then-scan-clause-kinds : goal.returns-then-scan-clause-kinds
returns-then-scan-clause-kinds g c = no_mark c.args.self.now.cpu c.args.seats.now c.args.seats.now refl

pub returns-then-not-may_step-clause-kinds : goal.returns-then-not-may_step-clause-kinds
returns-then-not-may_step-clause-kinds g c = no_mark c.args.self.now.cpu c.args.seats.now c.args.seats.now refl

pub returns-clause-kinds : goal.returns-clause-kinds
returns-clause-kinds g c =
    let cpu = c.args.self.now.cpu in
    let m = c.mark.ensures.marks in
    one_mark cpu c.args.seats.now c.mark.new.seats (makes_as cpu (setting c.args.hands.now.kit.now.throttle.layout) (mark cpu c.args.scan.inode) m.found c.args.seats.now c.mark.new.seats refl m.makes)

pub returns-clause-paid : goal.returns-clause-paid
returns-clause-paid g c is = pays_scan c.args.self.now c.args.work.now.batch.items c.args.scan c.mark.new.seats c.requires.scan c.mark.ensures.pays
