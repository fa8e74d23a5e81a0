-- What stands in at most one view, by CPU: a split moves it, a join brings it back, a step changes it.
use Rattle.std.proofs.Common.{◌≡◌, ◌≢◌, ℕ, zero, suc, ◌⊎◌, cond, eqb, List, [], ◌∷◌, ◌++◌, length, get_or, replicate, set, Option, Some, None, sym, refl, ap, ◌∙◌, subst, inl, inr, ⊎_elim, eq-eqb, ne_eqb, length-set}
use mathlib.Core.Option.{some, some-injective, some-ne-none}
use lib.ListN.{get_elem?}
use Rattle.wbt_table.proofs.Common.{at_set, set_else, or_else, merged}
use Rattle.wbt_table.specs.declared.rule.View.{View}
use Rattle.wbt_table.specs.Rule.{without_cpu, apart}
use Rattle.wbt_table.proofs.Seating.{none_some}

pub either_of : {A : Type 0} (a b : Option A) (x : A) → or_else a b ≡ Some x → (a ≡ Some x) ⊎ (b ≡ Some x)
either_of a (Some y) x e = inr e
either_of a None x e = inl e

-- the last place of a longer list
pub snoc_cases : (l : List View) (a b : View) (j : ℕ) → get_elem? (l ++ a ∷ []) j ≡ some b → (get_elem? l j ≡ some b) ⊎ ((j ≡ length l) × (a ≡ b))
snoc_cases [] a b zero e = inr (refl, some-injective a b e)
snoc_cases [] a b (suc j) e = absurd (some-ne-none b (sym e))
snoc_cases (x ∷ xs) a b zero e = inl e
snoc_cases (x ∷ xs) a b (suc j) e = ⊎_elim (λ h. inl h) (λ t. inr (ap suc t.0, t.1)) (snoc_cases xs a b j e)

-- None is at no place as a record
pub nones-at : {A : Type 0} (n d : ℕ) (x : A) → get_elem? (replicate n None) d ≡ some (Some x) → ⊥
nones-at zero d x e = some-ne-none (Some x) (sym e)
nones-at (suc n) zero x e = none_some x (some-injective None (Some x) e)
nones-at (suc n) (suc d) x e = nones-at n d x e

-- what is read at a place stands there
pub read_at : {A : Type 0} (l : List (Option A)) (c : ℕ) (x : A) → get_or l c None ≡ Some x → get_elem? l c ≡ some (Some x)
read_at [] c x e = absurd (none_some x e)
read_at (y ∷ l) zero x e = ap some e
read_at (y ∷ l) (suc c) x e = read_at l c x e

pub apart-at : {A : Type 0} (l : List (Option A)) (c d : ℕ) (x : A) → get_elem? (apart c l) d ≡ some (Some x) → (d ≡ c) × (get_elem? l d ≡ some (Some x))
apart-at l c d x e = ⊎_elim
    (λ t. (t.0, subst (λ (i : ℕ). get_elem? l i ≡ some (Some x)) (sym t.0) (read_at l c x t.1)))
    (λ t. absurd (nones-at (length l) d x t.1))
    (at_set (replicate (length l) None) c d (get_or l c None) (Some x) e)

pub merged-at : {A : Type 0} (l m : List (Option A)) (d : ℕ) (x : A) → get_elem? (merged l m) d ≡ some (Some x)
    → (get_elem? l d ≡ some (Some x)) ⊎ (get_elem? m d ≡ some (Some x))
merged-at [] m d x e = inl e
merged-at (y ∷ ys) [] d x e = inl e
merged-at (y ∷ ys) (z ∷ zs) zero x e = ⊎_elim (λ h. inl (ap some h)) (λ h. inr (ap some h)) (either_of y z x (some-injective (or_else y z) (Some x) e))
merged-at (y ∷ ys) (z ∷ zs) (suc d) x e = merged-at ys zs d x e

-- each CPU has what stands in the view of its owner, and in no other
module _ {A : Type 0} (get : View → List (Option A)) (what : ℕ → A) where
  abbrev pub AreHeld : (views : List View) (owner : ℕ → ℕ) → Type 0
  AreHeld views owner = (j c : ℕ) (v : View) (x : A) → get_elem? views j ≡ some v → get_elem? (get v) c ≡ some (Some x) → (owner c ≡ j) × (what c ≡ x)

  module _ (views : List View) (owner : ℕ → ℕ) (held : AreHeld views owner) where
    -- a CPU of a view goes to a new one
    pub held_apart : (id c : ℕ) (v left right : View) → get_elem? views id ≡ some v → owner c ≡ id → get left ≡ without_cpu c (get v) → get right ≡ apart c (get v)
        → AreHeld (set views id left ++ right ∷ []) (λ d. cond (eqb d c) (length views) (owner d))
    held_apart id c v left right at here l r j d u x at_u has = let n : ℕ = length views in ⊎_elim
        (λ old. ⊎_elim
        (λ t. let has' : get_elem? (set (get v) c None) d ≡ some (Some x) = subst (λ (z : List (Option A)). get_elem? z d ≡ some (Some x)) (ap get (sym t.1) ∙ l) has in ⊎_elim
        (λ e. absurd (none_some x e.1))
        (λ e. let there = held id d v x at e.1 in (subst (λ b. cond b n (owner d) ≡ j) (sym (ne_eqb d c e.0)) (there.0 ∙ sym t.0), there.1))
        (at_set (get v) c d None (Some x) has'))
        (λ t. let there = held j d u x t.1 has in let ne : d ≢ c = λ e. t.0 (sym there.0 ∙ ap owner e ∙ here) in
        (subst (λ b. cond b n (owner d) ≡ j) (sym (ne_eqb d c ne)) there.0, there.1))
        (at_set views id j left u old))
        (λ new. let t = apart-at (get v) c d x (subst (λ (z : List (Option A)). get_elem? z d ≡ some (Some x)) (ap get (sym new.1) ∙ r) has) in
        let there = held id d v x at t.1 in
        (subst (λ b. cond b n (owner d) ≡ j) (sym (eq-eqb d c t.0)) (sym (length-set views id left) ∙ sym new.0), there.1))
        (snoc_cases (set views id left) right u j at_u)

    -- a new view has no CPU
    pub held_alone : (id n : ℕ) (v left right : View) → get_elem? views id ≡ some v → get left ≡ get v → get right ≡ replicate n None
        → AreHeld (set views id left ++ right ∷ []) owner
    held_alone id n v left right at l r j d u x at_u has = ⊎_elim
        (λ old. ⊎_elim
        (λ t. let there = held id d v x at (subst (λ (z : List (Option A)). get_elem? z d ≡ some (Some x)) (ap get (sym t.1) ∙ l) has) in (there.0 ∙ sym t.0, there.1))
        (λ t. held j d u x t.1 has)
        (at_set views id j left u old))
        (λ new. absurd (nones-at n d x (subst (λ (z : List (Option A)). get_elem? z d ≡ some (Some x)) (ap get (sym new.1) ∙ r) has)))
        (snoc_cases (set views id left) right u j at_u)

    -- one view gets what another had
    pub held_together : (id other : ℕ) (v w both spent : View) → get_elem? views id ≡ some v → other ≢ id → get_elem? (set views id both) other ≡ some w
        → get both ≡ merged (get v) (get w) → get spent ≡ [] → AreHeld (set (set views id both) other spent) (λ d. cond (eqb (owner d) other) id (owner d))
    held_together id other v w both spent at ne there is none j d u x at_u has =
        let theirs : get_elem? views other ≡ some w = sym (set_else views id other both ne) ∙ there in
        let miss : owner d ≢ other → owner d ≡ j → cond (eqb (owner d) other) id (owner d) ≡ j =
        λ m o. subst (λ b. cond b id (owner d) ≡ j) (sym (ne_eqb (owner d) other m)) o in ⊎_elim
        (λ t. absurd (some-ne-none (Some x) (sym (subst (λ (z : List (Option A)). get_elem? z d ≡ some (Some x)) (ap get (sym t.1) ∙ none) has))))
        (λ t. ⊎_elim
        (λ e. let has' : get_elem? (merged (get v) (get w)) d ≡ some (Some x) = subst (λ (z : List (Option A)). get_elem? z d ≡ some (Some x)) (ap get (sym e.1) ∙ is) has in ⊎_elim
        (λ h. let f = held id d v x at h in (miss (λ q. ne (sym q ∙ f.0)) (f.0 ∙ sym e.0), f.1))
        (λ h. let f = held other d w x theirs h in (subst (λ b. cond b id (owner d) ≡ j) (sym (eq-eqb (owner d) other f.0)) (sym e.0), f.1))
        (merged-at (get v) (get w) d x has'))
        (λ e. let f = held j d u x e.1 has in (miss (λ q. t.0 (sym f.0 ∙ q)) f.0, f.1))
        (at_set views id j both u t.1))
        (at_set (set views id both) other j spent u at_u)

-- the timer has what stands in the view of its owner
module _ {A : Type 0} (get : View → Option A) (what : A) where
  abbrev pub IsHeldOnce : (views : List View) (owner : ℕ) → Type 0
  IsHeldOnce views owner = (j : ℕ) (v : View) (x : A) → get_elem? views j ≡ some v → get v ≡ Some x → (owner ≡ j) × (what ≡ x)

  module _ (views : List View) (owner : ℕ) (held : IsHeldOnce views owner) where
    pub timer_stays : (id : ℕ) (v left right : View) → get_elem? views id ≡ some v → get left ≡ get v → get right ≡ None → IsHeldOnce (set views id left ++ right ∷ []) owner
    timer_stays id v left right at l r j u x at_u is = ⊎_elim
        (λ old. ⊎_elim
        (λ t. let there = held id v x at (sym l ∙ ap get t.1 ∙ is) in (there.0 ∙ sym t.0, there.1))
        (λ t. held j u x t.1 is)
        (at_set views id j left u old))
        (λ new. absurd (none_some x (sym r ∙ ap get new.1 ∙ is)))
        (snoc_cases (set views id left) right u j at_u)

    pub timer_goes : (id : ℕ) (v left right : View) → get_elem? views id ≡ some v → owner ≡ id → get left ≡ None → get right ≡ get v
        → IsHeldOnce (set views id left ++ right ∷ []) (length views)
    timer_goes id v left right at here l r j u x at_u is = ⊎_elim
        (λ old. ⊎_elim
        (λ t. absurd (none_some x (sym l ∙ ap get t.1 ∙ is)))
        (λ t. absurd (t.0 (sym (held j u x t.1 is).0 ∙ here)))
        (at_set views id j left u old))
        (λ new. (sym (length-set views id left) ∙ sym new.0, (held id v x at (sym r ∙ ap get new.1 ∙ is)).1))
        (snoc_cases (set views id left) right u j at_u)

    pub timer_together : (id other : ℕ) (v w both spent : View) → get_elem? views id ≡ some v → other ≢ id → get_elem? (set views id both) other ≡ some w
        → get both ≡ or_else (get v) (get w) → get spent ≡ None → IsHeldOnce (set (set views id both) other spent) (cond (eqb owner other) id owner)
    timer_together id other v w both spent at ne there is none j u x at_u has =
        let theirs : get_elem? views other ≡ some w = sym (set_else views id other both ne) ∙ there in
        let miss : owner ≢ other → owner ≡ j → cond (eqb owner other) id owner ≡ j =
        λ m o. subst (λ b. cond b id owner ≡ j) (sym (ne_eqb owner other m)) o in ⊎_elim
        (λ t. absurd (none_some x (sym none ∙ ap get t.1 ∙ has)))
        (λ t. ⊎_elim
        (λ e. ⊎_elim
        (λ h. let f = held id v x at h in (miss (λ q. ne (sym q ∙ f.0)) (f.0 ∙ sym e.0), f.1))
        (λ h. let f = held other w x theirs h in (subst (λ b. cond b id owner ≡ j) (sym (eq-eqb owner other f.0)) (sym e.0), f.1))
        (either_of (get v) (get w) x (sym is ∙ ap get e.1 ∙ has)))
        (λ e. let f = held j u x e.1 has in (miss (λ q. t.0 (sym f.0 ∙ q)) f.0, f.1))
        (at_set views id j both u t.1))
        (at_set (set views id both) other j spent u at_u)
