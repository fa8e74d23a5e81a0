use Rattle.std.proofs.Common.{refl}
use Rattle.wbt_flusher.proofs.Common.{asked_more, asked_none, asked_once, once_made, unmark, setting, Makes, Seated, context_of, MayTake, makes_as}
use Rattle.wbt_flusher.proofs.Going.{goes_nowhere, kept_more}
use Rattle.std.proofs.Common.{sym, ap, ◌∙◌, subst}
use Rattle.wbt_published.specs.Passes as est
use Rattle.wbt_rules.specs.Flusher.{quota_of}
use Rattle.wbt_run_steps.specs.Reads.{ReadsEstimate}
use Rattle.wbt_flusher.specs.Turns.{begun_scan}
use Rattle.wbt_flusher.specs.declared.work.FlusherWork.{FlusherWork}
use Rattle.wbt_flusher.proofs.Turning.{no_take, one_take, still_after}
use Rattle.wbt_flusher.proofs.plan.FlusherPlan.begin_scan.Goals as goal

pub returns-then-not-may_step-clause-goes : goal.returns-then-not-may_step-clause-goes
returns-then-not-may_step-clause-goes g c told log written = goes_nowhere c.args.self.now c.args.hands.now.kit.now c.args.seats.now c.requires.fits told c.args.work.now log written

pub returns-then-not-may_step-clause-asked : goal.returns-then-not-may_step-clause-asked
returns-then-not-may_step-clause-asked g c = asked_none c.args.self.now.cpu (g.G.Gate.said c.args.hands.now.gate.now) c.args.seats.now c.args.seats.now refl

pub returns-clause-asked : goal.returns-clause-asked
returns-clause-asked g c =
    asked_more c.args.self.now.cpu (g.G.Gate.said c.args.hands.now.gate.now) c.args.seats.now c.unmark.new.seats c.set_quota.new.seats
    (asked_once c.args.self.now.cpu (g.G.Gate.said c.args.hands.now.gate.now) c.may_step.result c.args.seats.now c.unmark.new.seats c.may_step.ensures c.if-not-may_step.false
    (once_made (setting c.args.hands.now.kit.now.throttle.layout) (unmark c.args.self.now.cpu c.args.inode) c.unmark.ensures.unmarks.0 c.args.self.now.cpu c.args.seats.now c.unmark.new.seats refl c.requires.fits.held c.unmark.ensures.unmarks.1))
    (asked_none c.args.self.now.cpu (g.G.Gate.said c.args.hands.now.gate.now) c.unmark.new.seats c.set_quota.new.seats c.set_quota.ensures.only_est.cpu)

pub returns-clause-goes : goal.returns-clause-goes
returns-clause-goes g c =
    kept_more c.args.self.now c.args.hands.now.kit.now c.args.seats.now c.unmark.new.seats c.set_quota.new.seats c.args.work.now c.unmark.new.work c.set_quota.new.work c.unmark.ensures.goes c.set_quota.ensures.goes

pub returns-clause-begins : goal.returns-clause-begins
returns-clause-begins g c so log written =
    let plan = c.args.self.now in
    let kit = c.args.hands.now.kit.now in
    let u = c.unmark.ensures in
    let q = c.set_quota.ensures in
    let newest = q.quota.0 in
    record {
      its = c.requires.inode;
      found = u.unmarks.0;
      unmarks = subst (λ (s : Seated). Makes (setting kit.throttle.layout) (unmark plan.cpu c.args.inode) u.unmarks.0 c.args.seats.now.cpu s) (sym q.only_est.cpu) u.unmarks.1;
      estimate = newest;
      reads = subst (λ (s : est.Seats). ReadsEstimate kit.published.firsts (context_of plan c.args.inode) newest s c.set_quota.new.seats.est) u.only.est q.quota.1;
      share = q.only_est.share ∙ u.only.share;
      queue_is = q.only_est.queue ∙ u.only.queue;
      work = q.quota.2 ∙ ap (λ (w : FlusherWork). record w { phase = begun_scan plan w c.args.inode (quota_of plan.shares newest.avg w.hard) }) u.begun;
    }

-- ---- kinds of steps

pub returns-then-not-may_step-clause-kinds : goal.returns-then-not-may_step-clause-kinds
returns-then-not-may_step-clause-kinds g c = no_take c.args.self.now.cpu c.args.seats.now c.args.seats.now refl

pub returns-clause-kinds : goal.returns-clause-kinds
returns-clause-kinds g c =
    let cpu = c.args.self.now.cpu in
    let u = c.unmark.ensures.unmarks in
    still_after cpu MayTake c.args.seats.now c.unmark.new.seats c.set_quota.new.seats
    (one_take cpu c.args.seats.now c.unmark.new.seats (makes_as cpu (setting c.args.hands.now.kit.now.throttle.layout) (unmark cpu c.args.inode) u.0 c.args.seats.now c.unmark.new.seats refl u.1))
    c.set_quota.ensures.only_est.cpu
