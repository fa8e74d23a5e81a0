-- What callers, and tests, know of a seat after a call.
use Rattle.std.proofs.Common.{◌≡◌, ◌≢◌, ℕ, ◌+◌, ◌<◌, Bool, false, true≢false, cond, List, [], ◌∷◌, Some, sym, refl, ap, ◌∙◌, subst, arith, eq-eqb}
use mathlib.Core.Logic.{dite}
use native.Mathlib.Decide.{ℕ_discrete}
use Rattle.std.specs.Bool.{IsTrue}
use Rattle.wbt_table.proofs.Common.{set_here, Owed, times_in, CpuRecord, Setting, writer_in, claimed, look_record, one_if, setting, Cpus, Has, Holds, Shape, Seated, Changes, CanDirty, CanComplete, looked_at}
use Rattle.wbt_table.specs.declared.layout.Layout.{Layout}
use Rattle.wbt_table.specs.declared.answer.Claim.{Claim}
use Rattle.wbt_table.specs.declared.answer.Claim.TheVariants.{Mine, NotDirty, Missed, Stopped}
use Rattle.wbt_table.specs.Calls.{Comes, Claims, Halts, before_its_look, after_its_look, tried}
use Rattle.wbt_table.specs.Callers.{StepsFor, MayWrite, HasClaimed}
use Rattle.wbt_table.proofs.Lists.{at_less}
use Rattle.wbt_table.proofs.Turning.{one_record}
use Rattle.wbt_table.proofs.Seating.{has_changed, still_at}

nothing_owed : (debts : List Owed) → ((debts ≢ []) → ⊥) → debts ≡ []
nothing_owed [] none = refl
nothing_owed (owed ∷ more) none = absurd (none (λ e. cc))

-- a CPU that is said to owe nothing
pub owes_none : (debts : List Owed) (b : Bool) → b ≡ false → (debts ≢ [] → IsTrue b) → debts ≡ []
owes_none debts b is tells = nothing_owed debts (λ some. true≢false (sym (tells some) ∙ is))

pub after_changes : (t : Shape) (c : ℕ) (f : CpuRecord → CpuRecord) (old new : Seated) → StepsFor t c old → Changes c f old new → StepsFor t c new
after_changes t c f old new steps change = record {
  at = still_at t c f old new steps.at change;
  held = (f steps.held.0, has_changed c f old new steps.held.0 change steps.held.1);
}

-- what is to be said of a page step: its CPU, by whatever name
pub after_its_changes : (t : Shape) (c d : ℕ) (f : CpuRecord → CpuRecord) (old new : Seated) → c ≡ d → StepsFor t d old → Changes c f old new → StepsFor t d new
after_its_changes t c d f old new is steps change = after_changes t d f old new steps (subst (λ (i : ℕ). Changes i f old new) is change)

pub after_comes : (t : Shape) (c : ℕ) (P : CpuRecord → CpuRecord → Type 0) (old new : Seated) → StepsFor t c old → Comes c P old new → StepsFor t c new
after_comes t c P old new steps comes =
    let here = comes.cpus steps.held.0 steps.held.1 in record {
      at = record { table = comes.table ∙ steps.at.table; layout = comes.layout ∙ steps.at.layout };
      held = (here.0, subst (λ (l : Cpus). Has l c here.0) (sym here.2) (set_here old.cpus c (Some here.0) (at_less old.cpus c (Some steps.held.0) steps.held.1)));
    }

halts_keep : (t : Shape) (set' : Setting) (c p : ℕ) (said : ℕ → Bool → Type 0) (old new : Seated) → StepsFor t c old → Halts set' c p said old new → StepsFor t c new
halts_keep t set' c p said old new steps (before_its_look same) = subst (StepsFor t c) (sym same) steps
halts_keep t set' c p said old new steps (after_its_look n is change logs asked) = after_changes t c (looked_at set' c p n) old new steps change

pub claims_keep : (t : Shape) (set' : Setting) (c p : ℕ) (said : ℕ → Bool → Type 0) (answer : Claim) (old new : Seated) → StepsFor t c old
    → Claims set' c p said answer old new → StepsFor t c new
claims_keep t set' c p said Mine old new steps claims = after_changes t c (tried set' c p claims.0 claims.0) old new steps claims.2
claims_keep t set' c p said (NotDirty bits) old new steps claims = after_changes t c (looked_at set' c p claims.0) old new steps claims.3
claims_keep t set' c p said (Missed first second) old new steps claims = after_changes t c (tried set' c p first second) old new steps claims.2
claims_keep t set' c p said Stopped old new steps claims = halts_keep t set' c p said old new steps claims.1

module _ (set' : Setting) (c p n : ℕ) (r : CpuRecord) where
  pub tried_holds : 0 < times_in p (tried set' c p n n r).held
  tried_holds = subst (λ (b : Bool). 0 < times_in p (cond b (claimed p (look_record set' p n r)) (look_record set' p n r)).held) (sym (eq-eqb n n refl))
      (subst (λ (b : Bool). 0 < one_if b + times_in p (look_record set' p n r).held) (sym (eq-eqb p p refl)) (omega arith))

pub claims_mine : (t : Shape) (set' : Setting) (c p : ℕ) (said : ℕ → Bool → Type 0) (old new : Seated) → StepsFor t c old
    → Claims set' c p said Mine old new → HasClaimed c p new
claims_mine t set' c p said old new steps claims = let n : ℕ = claims.0 in
    (tried set' c p n n steps.held.0, has_changed c (tried set' c p n n) old new steps.held.0 claims.2 steps.held.1, tried_holds set' c p n steps.held.0)

pub may_complete : (set' : Setting) (c p : ℕ) (seat : Seated) (b : Bool) → p < set'.pages → HasClaimed c p seat → b ≡ false
    → Holds seat.cpus c (λ r. (IsTrue b → r.debts ≢ []) × (r.debts ≢ [] → IsTrue b)) → Holds seat.cpus c (CanComplete set' p)
may_complete set' c p seat b less mine is owes = let same : owes.0 ≡ mine.0 = one_record seat.cpus c owes.0 mine.0 owes.1 mine.1 in
    (mine.0, mine.1, record { page_is = less; holds_it = mine.2; owes_none = ap (λ (r : CpuRecord). r.debts) (sym same) ∙ owes_none owes.0.debts b is owes.2.1 })

pub may_dirty : (key : Layout) (c w p n : ℕ) (seat : Seated) (b : Bool) → seat.layout ≡ key → MayWrite key c w p → n ≢ 0
    → Holds seat.cpus ((setting seat.layout).seat w) (λ r. n ≡ (writer_in (setting seat.layout) w r.writers).left) → b ≡ false
    → Holds seat.cpus c (λ r. (IsTrue b → r.debts ≢ []) × (r.debts ≢ [] → IsTrue b)) → Holds seat.cpus ((setting key).seat w) (CanDirty (setting key) w p)
may_dirty key c w p n seat b at may some left is owes =
    let left' : Holds seat.cpus ((setting key).seat w) (λ r. n ≡ (writer_in (setting key) w r.writers).left) =
    subst (λ (k : Layout). Holds seat.cpus ((setting k).seat w) (λ r. n ≡ (writer_in (setting k) w r.writers).left)) at left in
    let r : CpuRecord = left'.0 in
    let same : owes.0 ≡ r = one_record seat.cpus c owes.0 r owes.1 (subst (λ (i : ℕ). Has seat.cpus i r) may.seat left'.1) in
    let e = left'.2 in (
      r,
      left'.1,
      record {
        writer_is = may.there;
        page_is = may.page;
        its_context = may.home;
        some_left = omega arith;
        owes_none = ap (λ (q : CpuRecord). q.debts) (sym same) ∙ owes_none owes.0.debts b is owes.2.1;
      },
    )

pub one_further : (P : ℕ → Type 0) (n k : ℕ) → ((j : ℕ) → j < n → P j) → P n → k < n + 1 → P k
one_further P n k below here less = dite (ℕ_discrete k n) (λ e. subst P (sym e) here) (λ ne. below k (omega arith))
