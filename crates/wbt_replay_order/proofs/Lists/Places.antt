-- One place of a list changed.
use Rattle.std.proofs.Common.{◌≡◌, ℕ, zero, suc, ◌<◌, Bool, true, false, cond, eqb, List, [], ◌∷◌, length, get_or, All, inl, inr, refl, sym, ◌∙◌, ap, subst, eq-eqb, ne_eqb}
use Rattle.std.proofs.Math.ListN.{set}
use Rattle.std.proofs.lemmas.Bool.{cond-true, cond-false}
use Rattle.std.proofs.lemmas.List.{get_or-set_same, get_or-set_other, set-set}
use mathlib.Core.Logic.{dite}
use native.Mathlib.Decide.{ℕ_discrete}
use Rattle.std.proofs.lemmas.List.Elements.{All-head, All-tail, All-cons, All-nil}
use Rattle.wbt_replay_order.proofs.Common.{AreAmong}
use Rattle.wbt_replay_order.proofs.Facts.Lists.{twice}

-- what holds of all of a list holds of those among it, and a list is among itself
pub among_all : {A : Type 0} (P : A → Type 0) (these those : List A) → AreAmong these those → All P those → All P these
among_all P [] those among all = All-nil P
among_all P (x ∷ these) [] among all = absurd among
among_all P (x ∷ these) (y ∷ those) (inl here) all =
    All-cons P x these (subst P (sym here.0) (All-head P y those all)) (among_all P these those here.1 (All-tail P y those all))
among_all P (x ∷ these) (y ∷ those) (inr behind) all = among_all P (x ∷ these) those behind (All-tail P y those all)

pub among_itself : {A : Type 0} (xs : List A) → AreAmong xs xs
among_itself [] = tt
among_itself (x ∷ xs) = inl (refl, among_itself xs)

pub cond_ap : {A B : Type 0} (f : A → B) (b : Bool) (x y : A) → f (cond b x y) ≡ cond b (f x) (f y)
cond_ap f true x y = refl
cond_ap f false x y = refl

pub get_set : {A : Type 0} (xs : List A) (i j : ℕ) (x d : A) → i < length xs → get_or (set xs i x) j d ≡ cond (eqb j i) x (get_or xs j d)
get_set {A} xs i j x d less = dite (ℕ_discrete j i)
    (λ e. subst (λ (k : ℕ). get_or (set xs i x) k d ≡ cond (eqb k i) x (get_or xs k d)) (sym e)
    (get_or-set_same xs i x d less ∙ sym (cond-true (eqb i i) x (get_or xs i d) (eq-eqb i i refl))))
    (λ n. get_or-set_other xs i j x d n ∙ sym (cond-false (eqb j i) x (get_or xs j d) (ne_eqb j i n)))

-- the last one set stays
pub set_last : {A : Type 0} (xs : List A) (i : ℕ) (x y : A) → set (set xs i x) i y ≡ set xs i y
set_last xs i x y = set-set xs i x y

-- and once more
pub thrice : {A : Type 0} (f g : A → A) (xs : List A) (i : ℕ) (x d : A) → i < length xs
    → set (set (set xs i x) i (f (get_or (set xs i x) i d))) i (g (get_or (set (set xs i x) i (f (get_or (set xs i x) i d))) i d)) ≡ set xs i (g (f x))
thrice {A} f g xs i x d less = ap (λ (l : List A). set l i (g (get_or l i d))) (twice f xs i x d less) ∙ twice g xs i (f x) d less

-- and after that once more
pub four_times : {A : Type 0} (f g h : A → A) (xs : List A) (i : ℕ) (x d : A) → i < length xs
    → (let l : List A = set (set xs i x) i (f (get_or (set xs i x) i d)) in let m : List A = set l i (g (get_or l i d)) in set m i (h (get_or m i d))) ≡ set xs i (h (g (f x)))
four_times {A} f g h xs i x d less = ap (λ (l : List A). set l i (h (get_or l i d))) (thrice f g xs i x d less) ∙ twice h xs i (g (f x)) d less

-- one item of a list changes, and what is asked of it doesn't
pub still : {A B : Type 0} (f : A → B) (xs : List A) (i : ℕ) (x d : A) → f x ≡ f (get_or xs i d) → (j : ℕ) → f (get_or (set xs i x) j d) ≡ f (get_or xs j d)
still {A} {B} f [] i x d same j = refl
still {A} {B} f (y ∷ ys) zero x d same zero = same
still {A} {B} f (y ∷ ys) zero x d same (suc j) = refl
still {A} {B} f (y ∷ ys) (suc i) x d same zero = refl
still {A} {B} f (y ∷ ys) (suc i) x d same (suc j) = still f ys i x d same j
