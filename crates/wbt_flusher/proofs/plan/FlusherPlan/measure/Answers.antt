use Rattle.std.proofs.Common.{◌≡◌, ℕ, ◌<◌, set, Contains, refl, sym, subst, ap, ◌∙◌, [], ◌∷◌, rules}
use Rattle.wbt_flusher.proofs.Common.{sight, tallies_of, tally_in, count, setting, known_of, Seated, Cpu, asked_more, asked_none, asked_once, once_made, context_at, AreCounts}
use Rattle.wbt_flusher.proofs.Going.{goes_nowhere, went_more, quiet_more}
use Rattle.std.proofs.Common.{refl}
use Rattle.wbt_counter.specs.declared.counter.Counter.TheVariants.{Context}
use Rattle.wbt_estimate.specs.Estimate.{updated}
use Rattle.wbt_fraction.specs.Several as share
use Rattle.wbt_published.specs.Known.{after_publish}
use Rattle.wbt_published.specs.Passes as est
use Rattle.wbt_flusher.specs.Loads.{Gets}
use Rattle.wbt_flusher.specs.Reads.{ReadsShare, is_updated, sample_of}
use Rattle.wbt_flusher.proofs.Fitting.{loaded_count, may_load}
use Rattle.wbt_flusher.proofs.Keeping.{debts_same}
use Rattle.wbt_flusher.proofs.Loading.{count_loaded}
use Rattle.wbt_flusher.proofs.Turning.{no_counts, one_count, still_before, still_after}
use Rattle.wbt_flusher.proofs.plan.FlusherPlan.measure.Goals as goal

pub load_count-count-requires : goal.load_count-count-requires
load_count-count-requires g c = record {
  seats = c.newest-old.ensures.fits.seats_are;
  held = may_load c.args.self.now c.args.hands.now.kit.now c.newest-old.new.seats c.requires.suits c.newest-old.ensures.fits;
  counter = subst (λ (n : ℕ). c.args.context < n) c.requires.suits.contexts_are c.requires.context;
}

pub read_share-share-requires-clause-fits : goal.read_share-share-requires-clause-fits
read_share-share-requires-clause-fits g c =
    (loaded_count c.args.self.now c.args.hands.now.kit.now c.newest-old.new.seats c.load_count-count.new.seats c.newest-old.ensures.fits (Context c.args.context) c.load_count-count.result c.load_count-count.ensures.loads).fits

pub returns-then-as_slice-context-clause-goes : goal.returns-then-as_slice-context-clause-goes
returns-then-as_slice-context-clause-goes g c told written has = goes_nowhere c.args.self.now c.args.hands.now.kit.now c.args.seats.now c.requires.fits told c.args.work.now c.args.pen.now.log written

pub returns-clause-goes : goal.returns-clause-goes
returns-clause-goes g c told written has =
    let plan = c.args.self.now in
    let kit = c.args.hands.now.kit.now in
    let log = c.args.pen.now.log in
    let was = c.args.work.now in
    let s0 = c.args.seats.now in
    let s1 = c.newest-old.new.seats in
    let s2 = c.load_count-count.new.seats in
    let s3 = c.read_share-share.new.seats in
    let s4 = c.written-written.new.seats in
    let s5 = c.publish.new.seats in
    let is = c.read_share-share.new.work in
    went_more plan kit told (sight was s0 log written) (sight is s4 log written) (sight is s5 c.publish.new.pen.log written)
    (went_more plan kit told (sight was s0 log written) (sight is s3 log written) (sight is s4 log written)
    (went_more plan kit told (sight was s0 log written) (sight was s2 log written) (sight is s3 log written)
    (quiet_more plan kit s0 s1 s2 c.newest-old.ensures.goes
    (loaded_count plan kit s1 s2 c.newest-old.ensures.fits (Context c.args.context) c.load_count-count.result c.load_count-count.ensures.loads).goes told was log written)
    (c.read_share-share.ensures.goes told log written))
    (c.written-written.ensures.goes told is log written))
    (c.publish.ensures.goes is told written (subst (λ (m : ℕ). Contains told.estimates m) (sym c.sample-sample.ensures.moment) has))

pub returns-then-as_slice-context-clause-asked : goal.returns-then-as_slice-context-clause-asked
returns-then-as_slice-context-clause-asked g c = asked_none c.args.self.now.cpu (g.G.Gate.said c.args.hands.now.gate.now) c.args.seats.now c.args.seats.now refl

pub returns-then-now-old-clause-asked : goal.returns-then-now-old-clause-asked
returns-then-now-old-clause-asked g c = asked_none c.args.self.now.cpu (g.G.Gate.said c.args.hands.now.gate.now) c.args.seats.now c.newest-old.new.seats c.newest-old.ensures.only_est.cpu

pub returns-then-not-may_step-clause-asked : goal.returns-then-not-may_step-clause-asked
returns-then-not-may_step-clause-asked g c = asked_none c.args.self.now.cpu (g.G.Gate.said c.args.hands.now.gate.now) c.args.seats.now c.newest-old.new.seats c.newest-old.ensures.only_est.cpu

pub returns-clause-asked : goal.returns-clause-asked
returns-clause-asked g c =
    let kit = c.args.hands.now.kit.now in
    let n = c.newest-old in
    let l = c.load_count-count in
    let p = c.publish in
    asked_more c.args.self.now.cpu (g.G.Gate.said c.args.hands.now.gate.now) c.args.seats.now n.new.seats p.new.seats
    (asked_none c.args.self.now.cpu (g.G.Gate.said c.args.hands.now.gate.now) c.args.seats.now c.newest-old.new.seats c.newest-old.ensures.only_est.cpu)
    (asked_more c.args.self.now.cpu (g.G.Gate.said c.args.hands.now.gate.now) n.new.seats l.new.seats p.new.seats
    (asked_once c.args.self.now.cpu (g.G.Gate.said c.args.hands.now.gate.now) c.may_step.result n.new.seats l.new.seats c.may_step.ensures c.if-not-may_step.false
    (once_made (setting kit.throttle.layout) (count (Cpu c.args.self.now.cpu) (Context c.args.context)) l.ensures.loads.found c.args.self.now.cpu n.new.seats l.new.seats refl n.ensures.fits.held l.ensures.loads.makes))
    (asked_none c.args.self.now.cpu (g.G.Gate.said c.args.hands.now.gate.now) l.new.seats p.new.seats (p.ensures.only_est.cpu ∙ c.written-written.ensures.cpu ∙ c.read_share-share.ensures.only_share.cpu)))

pub returns-clause-debts : goal.returns-clause-debts
returns-clause-debts g c =
    let plan = c.args.self.now in
    let n = c.newest-old in
    let l = c.load_count-count in
    let p = c.publish in
    debts_same plan l.new.seats p.new.seats (p.ensures.only_est.cpu ∙ c.written-written.ensures.cpu ∙ c.read_share-share.ensures.only_share.cpu)
    ∙ (loaded_count plan c.args.hands.now.kit.now n.new.seats l.new.seats n.ensures.fits (Context c.args.context) l.result l.ensures.loads).debts
    ∙ debts_same plan c.args.seats.now n.new.seats n.ensures.only_est.cpu

pub returns-clause-measures : goal.returns-clause-measures
returns-clause-measures g c so written =
    let plan = c.args.self.now in
    let k = c.args.context in
    let n = c.newest-old in
    let l = c.load_count-count in
    let only = l.ensures.loads.only in
    let r = c.read_share-share in
    let w = c.written-written in
    let p = c.publish in
    let newest = n.result in
    let held = (tally_in 0 (tallies_of c.args.work.now k)).held in
    let cpu : p.new.seats.cpu ≡ l.new.seats.cpu = p.ensures.only_est.cpu ∙ w.ensures.cpu ∙ r.ensures.only_share.cpu in
    let est_is : w.new.seats.est ≡ n.new.seats.est = w.ensures.est ∙ r.ensures.only_share.est ∙ only.est in
    let share_is : l.new.seats.share ≡ c.args.seats.now.share = only.share ∙ n.ensures.only_est.share in
    let estimate = updated newest c.sample-sample.result in
    let device : (context_at plan k).device ≡ plan.device = search rules in
    is_updated device (record {
      newest = newest;
      read = n.new.seats.est;
      reads = n.ensures.reads;
      old_enough = c.if-now-old.false;
      count = l.result;
      gets = subst (λ (z : Seated × Seated). Gets plan.cpu (record { counter = Context k; count = l.result } ∷ []) [] z.0 z.1) (λ i. (n.ensures.only_est.cpu i, sym cpu i))
          (count_loaded plan c.args.hands.now.kit.now n.new.seats l.new.seats n.ensures.fits (Context k) l.result l.ensures.loads).gets;
      fraction = r.result;
      shares = r.new.seats.share;
      reads_share = subst (λ (s : share.Seats). ReadsShare 0 k r.result held s r.new.seats.share) share_is r.ensures.reads;
      written = w.result;
      domains = ap (λ (s : share.Seats). s.domains) p.ensures.only_est.share ∙ w.ensures.domains;
      totals = ap (λ (s : share.Seats). s.totals.notes) p.ensures.only_est.share ∙ w.ensures.noted;
      estimate = estimate;
      estimate_is = ap (updated newest) (c.sample-sample.ensures.value ∙ ap (λ (d : ℕ). sample_of plan c.args.now c.args.global.now r.result d w.result newest.avg) c.reading.ensures);
      published = p.ensures.published ∙ ap (λ (s : est.Seats). record s { known = set s.known k (after_publish estimate (known_of k s)) }) est_is;
      holds = record { only = r.ensures.only_tallies; tallies = r.ensures.holds };
      queue = p.ensures.only_est.queue ∙ w.ensures.queue ∙ r.ensures.only_share.queue ∙ only.queue ∙ n.ensures.only_est.queue;
      told = p.ensures.told;
    })

pub returns-then-not-may_step-clause-stops : goal.returns-then-not-may_step-clause-stops
returns-then-not-may_step-clause-stops g c so written =
    let plan = c.args.self.now in
    let n = c.newest-old in
    let device : (context_at plan c.args.context).device ≡ plan.device = search rules in
    record { of_device = device; newest = n.result; reads = n.ensures.reads; old_enough = c.if-now-old.false; only = n.ensures.only_est; work = refl; told = refl }

-- ---- kinds of steps

pub returns-then-as_slice-context-clause-kinds : goal.returns-then-as_slice-context-clause-kinds
returns-then-as_slice-context-clause-kinds g c = no_counts c.args.self.now.cpu c.args.seats.now c.args.seats.now refl

pub returns-then-now-old-clause-kinds : goal.returns-then-now-old-clause-kinds
returns-then-now-old-clause-kinds g c = no_counts c.args.self.now.cpu c.args.seats.now c.newest-old.new.seats c.newest-old.ensures.only_est.cpu

pub returns-then-not-may_step-clause-kinds : goal.returns-then-not-may_step-clause-kinds
returns-then-not-may_step-clause-kinds g c = no_counts c.args.self.now.cpu c.args.seats.now c.newest-old.new.seats c.newest-old.ensures.only_est.cpu

pub returns-clause-kinds : goal.returns-clause-kinds
returns-clause-kinds g c =
    let cpu = c.args.self.now.cpu in
    let n = c.newest-old in
    let l = c.load_count-count in
    let p = c.publish in
    still_before cpu AreCounts c.args.seats.now n.new.seats p.new.seats n.ensures.only_est.cpu
    (still_after cpu AreCounts n.new.seats l.new.seats p.new.seats (one_count cpu n.new.seats l.new.seats l.ensures.kinds)
    (p.ensures.only_est.cpu ∙ c.written-written.ensures.cpu ∙ c.read_share-share.ensures.only_share.cpu))
