use Rattle.std.proofs.Common.{◌≡◌, ℕ, ◌<◌, refl, rules, ◌∙◌, subst}
use Rattle.wbt_counter.specs.declared.counter.Counter.TheVariants.{Context}
use Rattle.wbt_flusher.proofs.Common.{count, setting, Cpu, asked_more, asked_none, asked_once, once_made, context_at, sight, AreCounts}
use Rattle.wbt_flusher.specs.Weighs.{WeighsInBoth, is_weighed}
use Rattle.wbt_flusher.proofs.Fitting.{loaded_count, may_load}
use Rattle.wbt_flusher.proofs.Going.{goes_nowhere, kept_more}
use Rattle.wbt_flusher.proofs.Keeping.{debts_same}
use Rattle.wbt_flusher.proofs.Loading.{count_loaded}
use Rattle.wbt_flusher.proofs.Turning.{no_counts, one_count, still_after}
use Rattle.wbt_flusher.proofs.plan.FlusherPlan.weigh.Goals as goal

pub load_count-count-requires : goal.load_count-count-requires
load_count-count-requires g c = record {
  seats = c.requires.fits.seats_are;
  held = may_load c.args.self.now c.args.hands.now.kit.now c.args.seats.now c.requires.suits c.requires.fits;
  counter = subst (λ (n : ℕ). c.args.context < n) c.requires.suits.contexts_are c.requires.context;
}

pub weigh_in_both-requires-clause-fits : goal.weigh_in_both-requires-clause-fits
weigh_in_both-requires-clause-fits g c =
    (loaded_count c.args.self.now c.args.hands.now.kit.now c.args.seats.now c.load_count-count.new.seats c.requires.fits (Context c.args.context) c.load_count-count.result c.load_count-count.ensures.loads).fits

pub returns-then-as_slice-context-clause-goes : goal.returns-then-as_slice-context-clause-goes
returns-then-as_slice-context-clause-goes g c told log written = goes_nowhere c.args.self.now c.args.hands.now.kit.now c.args.seats.now c.requires.fits told c.args.work.now log written

pub returns-then-not-may_step-clause-goes : goal.returns-then-not-may_step-clause-goes
returns-then-not-may_step-clause-goes g c told log written = goes_nowhere c.args.self.now c.args.hands.now.kit.now c.args.seats.now c.requires.fits told c.args.work.now log written

pub returns-clause-goes : goal.returns-clause-goes
returns-clause-goes g c =
    let plan = c.args.self.now in
    let kit = c.args.hands.now.kit.now in
    let was = c.args.work.now in
    let l = c.load_count-count in
    let b = c.weigh_in_both in
    kept_more plan kit c.args.seats.now l.new.seats b.new.seats was was b.new.work
    (λ told log written. (loaded_count plan kit c.args.seats.now l.new.seats c.requires.fits (Context c.args.context) l.result l.ensures.loads).goes told was log written) b.ensures.goes

pub returns-then-as_slice-context-clause-asked : goal.returns-then-as_slice-context-clause-asked
returns-then-as_slice-context-clause-asked g c = asked_none c.args.self.now.cpu (g.G.Gate.said c.args.hands.now.gate.now) c.args.seats.now c.args.seats.now refl

pub returns-then-not-may_step-clause-asked : goal.returns-then-not-may_step-clause-asked
returns-then-not-may_step-clause-asked g c = asked_none c.args.self.now.cpu (g.G.Gate.said c.args.hands.now.gate.now) c.args.seats.now c.args.seats.now refl

pub returns-clause-asked : goal.returns-clause-asked
returns-clause-asked g c =
    let kit = c.args.hands.now.kit.now in
    let cpu = c.args.self.now.cpu in
    let l = c.load_count-count in
    let b = c.weigh_in_both in
    asked_more cpu (g.G.Gate.said c.args.hands.now.gate.now) c.args.seats.now l.new.seats b.new.seats
    (asked_once cpu (g.G.Gate.said c.args.hands.now.gate.now) c.may_step.result c.args.seats.now l.new.seats c.may_step.ensures c.if-not-may_step.false
    (once_made (setting kit.throttle.layout) (count (Cpu cpu) (Context c.args.context)) l.ensures.loads.found cpu c.args.seats.now l.new.seats refl c.requires.fits.held l.ensures.loads.makes))
    (asked_none cpu (g.G.Gate.said c.args.hands.now.gate.now) l.new.seats b.new.seats b.ensures.only_share.cpu)

pub returns-clause-debts : goal.returns-clause-debts
returns-clause-debts g c =
    let plan = c.args.self.now in
    let l = c.load_count-count in
    let b = c.weigh_in_both in
    debts_same plan l.new.seats b.new.seats b.ensures.only_share.cpu
    ∙ (loaded_count plan c.args.hands.now.kit.now c.args.seats.now l.new.seats c.requires.fits (Context c.args.context) l.result l.ensures.loads).debts

pub returns-clause-weighs : goal.returns-clause-weighs
returns-clause-weighs g c log written =
    let plan = c.args.self.now in
    let kit = c.args.hands.now.kit.now in
    let k = c.args.context in
    let l = c.load_count-count in
    let b = c.weigh_in_both in
    let device : (context_at plan k).device ≡ plan.device = search rules in
    is_weighed device (record {
      count = l.result;
      counted = l.new.seats;
      loaded = count_loaded plan kit c.args.seats.now l.new.seats c.requires.fits (Context k) l.result l.ensures.loads;
      weighs = subst (λ (n : ℕ). WeighsInBoth plan kit k n b.result (sight c.args.work.now l.new.seats log written) (sight b.new.work b.new.seats log written)) c.reading.ensures (b.ensures.weighs log written);
    })

-- ---- kinds of steps

pub returns-then-as_slice-context-clause-kinds : goal.returns-then-as_slice-context-clause-kinds
returns-then-as_slice-context-clause-kinds g c = no_counts c.args.self.now.cpu c.args.seats.now c.args.seats.now refl

pub returns-then-not-may_step-clause-kinds : goal.returns-then-not-may_step-clause-kinds
returns-then-not-may_step-clause-kinds g c = no_counts c.args.self.now.cpu c.args.seats.now c.args.seats.now refl

pub returns-clause-kinds : goal.returns-clause-kinds
returns-clause-kinds g c =
    let cpu = c.args.self.now.cpu in
    let l = c.load_count-count in
    let b = c.weigh_in_both in
    still_after cpu AreCounts c.args.seats.now l.new.seats b.new.seats (one_count cpu c.args.seats.now l.new.seats l.ensures.kinds) b.ensures.only_share.cpu
