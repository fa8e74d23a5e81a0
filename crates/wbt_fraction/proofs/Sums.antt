-- Sums over lists, where one item becomes another.
use Rattle.std.proofs.Common.{◌≡◌, ℕ, zero, suc, ◌+◌, ◌≤◌, List, [], ◌∷◌, ◌++◌, map, set, sym, refl, ap, arith}
use mathlib.Core.Option.{some, some-injective, some-ne-none}
use lib.ListN.{get_elem?}
use Rattle.wbt_fraction.specs.Sums.{total}

module _ {V : Type 0} where
  pub total_set : (f : V → ℕ) (views : List V) (id : ℕ) (v w : V) → get_elem? views id ≡ some v
      → total f (set views id w) + f v ≡ total f views + f w
  unfolding total
  total_set f [] id v w at = absurd (some-ne-none v (sym at))
  total_set f (x ∷ xs) zero v w at =
      let same : f x ≡ f v = ap f (some-injective x v at) in
      omega arith
  total_set f (x ∷ xs) (suc id) v w at =
      let rest = total_set f xs id v w at in
      omega arith

  pub total_same : (f : V → ℕ) (views : List V) (id : ℕ) (v w : V) → get_elem? views id ≡ some v → f w ≡ f v
      → total f (set views id w) ≡ total f views
  total_same f views id v w at same =
      let t = total_set f views id v w at in
      omega arith

  pub total_append : (f : V → ℕ) (a b : List V) → total f (a ++ b) ≡ total f a + total f b
  unfolding total
  total_append f [] b = omega arith
  total_append f (x ∷ xs) b =
      let rest = total_append f xs b in
      omega arith

  pub one_of_all : (f : V → ℕ) (views : List V) (id : ℕ) (v : V) → get_elem? views id ≡ some v → f v ≤ total f views
  unfolding total
  one_of_all f [] id v at = absurd (some-ne-none v (sym at))
  one_of_all f (x ∷ xs) zero v at =
      let same : f x ≡ f v = ap f (some-injective x v at) in
      omega arith
  one_of_all f (x ∷ xs) (suc id) v at =
      let rest = one_of_all f xs id v at in
      omega arith

  pub sum_of_two : (f g : V → ℕ) (views : List V) → total (λ v. f v + g v) views ≡ total f views + total g views
  unfolding total
  sum_of_two f g [] = refl
  sum_of_two f g (x ∷ xs) =
      let rest = sum_of_two f g xs in
      omega arith

  pub total_as : (f g : V → ℕ) (items : List V) → ((v : V) → f v ≡ g v) → total f items ≡ total g items
  unfolding total
  total_as f g [] same = refl
  total_as f g (x ∷ xs) same =
      let here = same x in
      let rest = total_as f g xs same in
      omega arith

  -- one view became two
  pub parted : (f : V → ℕ) (views : List V) (id : ℕ) (v left right : V) → get_elem? views id ≡ some v
      → total f (set views id left ++ right ∷ []) + f v ≡ total f views + f left + f right
  unfolding total
  parted f views id v left right at =
      let one = total_set f views id v left at in
      let two = total_append f (set views id left) (right ∷ []) in
      omega arith

  -- of two views one got all, and the other was left with nothing
  pub merged : (f : V → ℕ) (views : List V) (id other : ℕ) (v w both spent : V) → get_elem? views id ≡ some v → get_elem? (set views id both) other ≡ some w
      → total f (set (set views id both) other spent) + f w + f v ≡ total f views + f both + f spent
  merged f views id other v w both spent at there =
      let one = total_set f views id v both at in
      let two = total_set f (set views id both) other w spent there in
      omega arith

  pub set_there : (views : List V) (id : ℕ) (v w : V) → get_elem? views id ≡ some v → get_elem? (set views id w) id ≡ some w
  set_there [] id v w at = absurd (some-ne-none v (sym at))
  set_there (x ∷ xs) zero v w at = refl
  set_there (x ∷ xs) (suc id) v w at = set_there xs id v w at

  pub only_one : (first : V) (j : ℕ) (v : V) → get_elem? (first ∷ []) j ≡ some v → first ≡ v
  only_one first zero v at = some-injective first v at
  only_one first (suc j) v at = absurd (some-ne-none v (sym at))

pub total_map : {A B : Type 0} (f : A → B) (h : B → ℕ) (items : List A) → total h (map f items) ≡ total (λ a. h (f a)) items
unfolding total
total_map f h [] = refl
total_map f h (x ∷ xs) = ap (λ n. h (f x) + n) (total_map f h xs)

-- who has all stakes has all notes, since a view without a stake has none
module _ {V N : Type 0} (stakes : V → ℕ) (notes : V → List N) where
  abbrev pub Idle : List V → Type 0
  Idle views = (j : ℕ) (v : V) → get_elem? views j ≡ some v → stakes v ≡ 0 → notes v ≡ []

  no_notes : (h : N → ℕ) (items : List N) → items ≡ [] → total h items ≡ 0
  unfolding total
  no_notes h items none = ap (total h) none

  nothing : (h : N → ℕ) (views : List V) → Idle views → total stakes views ≡ 0 → total (λ v. total h (notes v)) views ≡ 0
  unfolding total
  nothing h [] idle none = refl
  nothing h (x ∷ xs) idle none =
      let empty : stakes x ≡ 0 = omega arith in
      let here = no_notes h (notes x) (idle 0 x refl empty) in
      let rest = nothing h xs (λ j v at. idle (suc j) v at) (omega arith) in
      omega arith

  pub all_noted : (h : N → ℕ) (views : List V) (id : ℕ) (v : V) → Idle views → get_elem? views id ≡ some v
      → total stakes views ≡ stakes v → total (λ u. total h (notes u)) views ≡ total h (notes v)
  unfolding total
  all_noted h [] id v idle at all = absurd (some-ne-none v (sym at))
  all_noted h (x ∷ xs) zero v idle at all =
      let is = some-injective x v at in
      let mine : stakes x ≡ stakes v = ap stakes is in
      let same : total h (notes x) ≡ total h (notes v) = ap (λ u. total h (notes u)) is in
      let rest = nothing h xs (λ j u atu. idle (suc j) u atu) (omega arith) in
      omega arith
  all_noted h (x ∷ xs) (suc id) v idle at all =
      let less = one_of_all stakes xs id v at in
      let empty : stakes x ≡ 0 = omega arith in
      let here = no_notes h (notes x) (idle 0 x refl empty) in
      let rest = all_noted h xs id v (λ j u atu. idle (suc j) u atu) at (omega arith) in
      omega arith
