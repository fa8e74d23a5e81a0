-- A value that is one of two by a test, a list of which one place is changed, and one whose items each hold with one more at its end.
use Rattle.std.proofs.Common.{◌≡◌, ◌≢◌, ℕ, ◌<◌, ◌≤◌, Bool, true, false, cond, List, [], ◌∷◌, ◌++◌, length, get_or, count_by, All, refl, sym, ◌∙◌, ap, subst, arith}
use Rattle.std.proofs.Math.ListN.{set}
use Rattle.std.proofs.lemmas.List.{get_or-set_same, get_or-set_other, set-set}
use Rattle.std.proofs.lemmas.List.Sums.{get_or-le-sum_by}
use mathlib.Core.Logic.{dite}
use native.Mathlib.Decide.{ℕ_discrete}
use Rattle.std.proofs.lemmas.List.Elements.{All-nil, All-cons, All-append}
use Rattle.wbt_replay_order.proofs.Common.{one_if}

pub either : {A : Type 0} (P : A → Type 0) (b : Bool) (x y : A) → (b ≡ true → P x) → (b ≡ false → P y) → P (cond b x y)
either P true x y p q = p refl
either P false x y p q = q refl

-- what holds of x at i, and of the others elsewhere
pub set_each : {A : Type 0} (P : ℕ → A → Type 0) (xs : List A) (i : ℕ) (x d : A) → i < length xs → P i x → ((j : ℕ) → j ≢ i → P j (get_or xs j d)) → (j : ℕ) → P j (get_or (set xs i x) j d)
set_each {A} P xs i x d less here others j = dite (ℕ_discrete j i)
    (λ e. subst (λ (n : ℕ). P n (get_or (set xs i x) n d)) (sym e) (subst (P i) (sym (get_or-set_same xs i x d less)) here))
    (λ n. subst (P j) (sym (get_or-set_other xs i j x d n)) (others j n))

-- an item that was set is set again, to what a function makes of it
pub twice : {A : Type 0} (f : A → A) (xs : List A) (i : ℕ) (x d : A) → i < length xs → set (set xs i x) i (f (get_or (set xs i x) i d)) ≡ set xs i (f x)
twice {A} f xs i x d less = ap (λ (y : A). set (set xs i x) i (f y)) (get_or-set_same xs i x d less) ∙ set-set xs i x (f x)

pub all_push : {A : Type 0} (P : A → Type 0) (xs : List A) (x : A) → All P xs → P x → All P (xs ++ x ∷ [])
all_push P xs x all here = All-append P xs (x ∷ []) all (All-cons P x [] here (All-nil P))

pub one_when : (b : Bool) → b ≡ true → one_if b ≡ 1
one_when true is = refl
one_when false is = absurd (cc is)

pub none_when : (b : Bool) → b ≡ false → one_if b ≡ 0
none_when true is = absurd (cc is)
none_when false is = refl

no_more : (b : Bool) (n : ℕ) → cond b 1 0 ≤ n → n ≡ 0 → b ≡ false
no_more true n le e = absurd (omega arith)
no_more false n le e = refl

-- where none is counted, each isn't
pub none_counts : {A : Type 0} (p : A → Bool) (d : A) (xs : List A) → count_by p xs ≡ 0 → (k : ℕ) → k < length xs → p (get_or xs k d) ≡ false
none_counts {A} p d xs none k less = no_more (p (get_or xs k d)) (count_by p xs) (get_or-le-sum_by (λ (x : A). cond (p x) 1 0) xs k d less) none
