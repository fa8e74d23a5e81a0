-- The front of a list, and what is taken from it.
use Rattle.std.proofs.Common.{◌≡◌, List, [], ◌∷◌, Option, Some, None, refl, sym, ◌∙◌, ap}
use Rattle.std.specs.Prelude.{MatchOption, OnOk, Result, Ok, Err}
use Rattle.wbt_num.specs.Front.{first}

cons_first : {A : Type 0} (q more : List A) (v x : A) → q ≡ v ∷ more → first q ≡ Some x → v ≡ x
cons_first q more v x is front = let same : Some v ≡ Some x = sym (ap first is) ∙ front in cc same

pub taken : {A : Type 0} (q more : List A) (r : Option A) (x : A) → MatchOption r ((q ≡ []) × (more ≡ [])) (λ v. q ≡ v ∷ more) → first q ≡ Some x → q ≡ x ∷ more
taken q more None x is front = absurd (let none : None ≡ Some x = sym (ap first is.0) ∙ front in cc none)
taken q more (Some v) x is front = is ∙ ap (λ w. w ∷ more) (cons_first q more v x is front)

pub is_empty : {A : Type 0} (q : List A) → first q ≡ None → q ≡ []
is_empty [] is = refl
is_empty (x ∷ q) is = absurd (cc is)

-- what holds after a call that found memory, said of an equal value
pub on_same : {A E X : Type 0} (r : Result A E) (x y z : X) → y ≡ z → OnOk r (x ≡ y) → OnOk r (x ≡ z)
on_same (Ok a) x y z same is = is ∙ same
on_same (Err e) x y z same is = tt
