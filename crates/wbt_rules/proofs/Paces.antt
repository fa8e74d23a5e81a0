-- Before which of its pages a task rests for its pace.
use Rattle.std.proofs.Common.{◌≡◌, ℕ, zero, suc, ◌+◌, ◌%◌, ◌<◌, ◌≤◌, inl, inr, ⊎_elim, Bool, if◌then◌else◌, Option, None, Some, refl, sym, ap, ◌∙◌, arith}
use Rattle.std.proofs.Math.Nat.{mod-eq_of_lt, mod_self, mod-lt, suc-mod, zero-mod}
use Rattle.std.proofs.lemmas.Bool.{cases_lt, le-leb, lt-leb}
use Rattle.wbt_rules.specs.Pace.{pause_of, since_rest, since_at, RestsAtMultiples}
use Rattle.wbt_trace.specs.declared.trace.Pace.{Pace}

rests : (pace : Pace) (since : ℕ) → pace.pages ≤ since → pause_of (Some pace) since ≡ Some pace.ticks
rests pace since up = ap (λ (b : Bool). if b then Some pace.ticks else None) (le-leb pace.pages since up)

goes_on : (pace : Pace) (since : ℕ) → since < pace.pages → pause_of (Some pace) since ≡ None
goes_on pace since low = ap (λ (b : Bool). if b then Some pace.ticks else None) (lt-leb pace.pages since low)

-- a multiple comes right after the last remainder
multiple : (pages k : ℕ) → k % pages + 1 ≡ pages → suc k % pages ≡ 0
multiple pages k last = suc-mod k pages ∙ ap (λ (n : ℕ). n % pages) (let s : suc (k % pages) ≡ pages = omega (arith, last) in s) ∙ mod_self pages

next : (pages k : ℕ) → k % pages + 1 < pages → suc k % pages ≡ k % pages + 1
next pages k low = suc-mod k pages ∙ mod-eq_of_lt (let s : suc (k % pages) < pages = omega (arith, low) in s) ∙ (let s : suc (k % pages) ≡ k % pages + 1 = omega arith in s)

counted : (pace : Pace) (k : ℕ) → 1 ≤ pace.pages → since_at (Some pace) (suc k) ≡ k % pace.pages + 1
unfolding since_at
counted pace zero some =
    ap (λ (o : Option ℕ). since_rest o 0 + 1) (goes_on pace 0 some) ∙ ap (λ (n : ℕ). n + 1) (sym (zero-mod pace.pages))
counted pace (suc k) some =
    let is : since_at (Some pace) (suc k) ≡ k % pace.pages + 1 = counted pace k some in
    let below : k % pace.pages < pace.pages = mod-lt k some in
    ⊎_elim
    (λ (low : k % pace.pages + 1 < pace.pages).
    ap (λ (o : Option ℕ). since_rest o (since_at (Some pace) (suc k)) + 1) (goes_on pace (since_at (Some pace) (suc k)) (omega (arith, is, low)))
    ∙ ap (λ (n : ℕ). n + 1) (is ∙ sym (next pace.pages k low)))
    (λ (up : pace.pages ≤ k % pace.pages + 1).
    ap (λ (o : Option ℕ). since_rest o (since_at (Some pace) (suc k)) + 1) (rests pace (since_at (Some pace) (suc k)) (omega (arith, is, up)))
    ∙ ap (λ (n : ℕ). n + 1) (sym (multiple pace.pages k (omega (arith, up, below)))))
    (cases_lt (k % pace.pages + 1) pace.pages)

pub rests_at_multiples : RestsAtMultiples
unfolding since_at
rests_at_multiples pace zero some = inr (inl refl, goes_on pace 0 some)
rests_at_multiples pace (suc k) some =
    let is : since_at (Some pace) (suc k) ≡ k % pace.pages + 1 = counted pace k some in
    let below : k % pace.pages < pace.pages = mod-lt k some in
    ⊎_elim
    (λ (low : k % pace.pages + 1 < pace.pages).
    inr (inr (omega (arith, next pace.pages k low)), goes_on pace (since_at (Some pace) (suc k)) (omega (arith, is, low))))
    (λ (up : pace.pages ≤ k % pace.pages + 1).
    inl (omega arith, multiple pace.pages k (omega (arith, up, below)), rests pace (since_at (Some pace) (suc k)) (omega (arith, is, up))))
    (cases_lt (k % pace.pages + 1) pace.pages)
