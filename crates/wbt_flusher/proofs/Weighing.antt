-- Contexts of a strict device that are weighed.
use Rattle.std.proofs.Common.{◌≡◌, ℕ, suc, ◌+◌, ◌||◌, Bool, true, false, ◌⊎◌, inl, inr, refl, sym, ap, ◌∙◌, subst, arith, true≢false, ⊎_elim, ◌↔◌, IsTrue}
use Rattle.wbt_flusher.proofs.Common.{CpuRecord, CpuJournal, setting, Seated, Triple, Kit, Seats, record_of, record_is, GoesAt, GoesKept, Sight, sight, OnlyTallies, WeighsBefore}
use Rattle.wbt_kit.proofs.Common.{held_of, Holds}
use Rattle.wbt_table.specs.Held.{triple_of}
use Rattle.wbt_flusher.specs.Weighs.{WeighsNext, limits_held}
use Rattle.wbt_flusher.specs.declared.plan.FlusherPlan.{FlusherPlan}
use Rattle.wbt_flusher.specs.declared.work.FlusherWork.{FlusherWork}
use Rattle.wbt_flusher.proofs.Going.{went_more}

-- ---- booleans

pub or_none : (b : Bool) → b ≡ (b || false)
or_none true = refl
or_none false = refl

pub or_neither : (a b : Bool) → (a || b) ≡ false → (a ≡ false) × (b ≡ false)
or_neither true b is = absurd (true≢false is)
or_neither false b is = (refl, is)

-- either way
pub by_over : {A : Type 0} (b : Bool) → (b ≡ true → A) → (b ≡ false → A) → A
by_over true over calm = over refl
by_over false over calm = calm refl

-- one of two tests is true exactly where what the first tells is so, or the second is true
pub over_both : (a b over : Bool) (A : Type 0) → over ≡ (a || b) → (IsTrue a ↔ A) → IsTrue over ↔ (A ⊎ (b ≡ true))
over_both true b over A is means = ((λ so. inl (means.0 refl)), (λ so. is))
over_both false b over A is means = ((λ so. inr (sym is ∙ so)), (λ so. ⊎_elim (λ any. absurd (true≢false (sym (means.1 any)))) (λ own. is ∙ own) so))

-- ---- limits

-- what the flusher's CPU tells that it holds it held before nothing but shares changed
pub held_before : (plan : FlusherPlan) (kit : Kit) (domain : ℕ) (triple : Triple) (old new : Seats) → new.cpu ≡ old.cpu
    → Holds new.cpu.cpus plan.cpu (λ r. triple ≡ triple_of (held_of (setting kit.throttle.layout) domain r.triples)) → triple.limits ≡ limits_held plan kit domain old
held_before plan kit domain triple old new same held =
    ap (λ (t : Triple). t.limits) held.2
    ∙ ap (λ (r : CpuRecord). (held_of (setting kit.throttle.layout) domain r.triples).limits) (sym (record_is new.cpu.cpus plan.cpu held.0 held.1))
    ∙ ap (λ (s : Seated). (held_of (setting kit.throttle.layout) domain (record_of plan.cpu s.cpus).triples).limits) same

-- ---- contexts one after another

pub weighs_more : (plan : FlusherPlan) (kit : Kit) (k : ℕ) (before last over : Bool) (old mid new : Sight) → WeighsBefore plan kit k before old mid → WeighsNext plan kit k last mid new
    → over ≡ (before || last) → WeighsBefore plan kit (k + 1) over old new
weighs_more plan kit k before last over old mid new weighed one is =
    let next : suc k ≡ k + 1 = omega arith in
    subst (λ (n : ℕ). WeighsBefore plan kit n over old new) next (mid, before, last, weighed, one, is)

-- ---- after estimates

pub only_more : (old mid new : FlusherWork) → OnlyTallies old mid → OnlyTallies mid new → OnlyTallies old new
only_more old mid new p q = record {
  phase = q.phase ∙ p.phase;
  batch = q.batch ∙ p.batch;
  faults = q.faults ∙ p.faults;
  hard = q.hard ∙ p.hard;
  waiting = q.waiting ∙ p.waiting;
  some_wait = q.some_wait ∙ p.some_wait;
  wheel = q.wheel ∙ p.wheel;
  places = q.places ∙ p.places;
}

pub weighed : (now : ℕ) (plan : FlusherPlan) (kit : Kit) (old mid new : Seats) (before behind : CpuJournal) (was between is : FlusherWork) → GoesAt now plan kit old mid before behind was between
    → GoesKept plan kit mid new between is → GoesAt now plan kit old new before behind was is
weighed now plan kit old mid new before behind was between is p q told written has =
    went_more plan kit told (sight was old before written) (sight between mid behind written) (sight is new behind written) (p told written has) (q told behind written)
