-- What is kept of the newest versions, as things are seen.
use Rattle.std.proofs.Common.{◌≡◌, ℕ, Bool, true, false, ◌==◌, ◌&&◌, ◌||◌, not, nat_le, max, Option, Some, None, List, [], ◌∷◌, get_or, replicate, refl, ap, ◌∙◌, arith, tests, ◌⊎◌, inl, inr}
use Rattle.std.specs.List.{list_all}
use Rattle.std.proofs.lemmas.Bool.{cases_eq}
use Rattle.std.proofs.lemmas.Grind.{common_steps, get_or-set_at}
use Rattle.std.proofs.lemmas.List.{get_or-set_other, length-set, length-replicate, get_or-replicate}
use Rattle.wbt_audit_walk.proofs.Common.{seen_at}
use Rattle.wbt_audit_walk.specs.Newest.{is_older, AreNewest, with_seen, AreApart}

le_max : (a b v : ℕ) → (nat_le b v && nat_le a v) ≡ nat_le (max a b) v
le_max a b v = grind (arith, tests, common_steps)

le_zero : (v : ℕ) → true ≡ nat_le 0 v
le_zero v = grind (arith, tests, common_steps)

is_eq : (p q : ℕ) → p ≡ q → (p == q) ≡ true
is_eq p q e = grind (arith, tests, e)

is_apart : (p q : ℕ) → (p ≡ q → ⊥) → (p == q) ≡ false
is_apart p q e = grind (arith, tests, e)

same_step : (s : Bool) (n w v : ℕ) (all : Bool) → s ≡ true → all ≡ nat_le n v → ((not s || nat_le w v) && all) ≡ nat_le (max n w) v
same_step s n w v all is before = rw (is, before) (le_max n w v)

other_step : (s b all : Bool) (r : Bool) → s ≡ false → all ≡ r → ((not s || b) && all) ≡ r
other_step s b all r is before = rw is before

module _ {A K : Type 0} (same : K → K → Bool) (place : K → Option ℕ) (key : A → K) (version : A → ℕ) (things : ℕ) (apart : AreApart same place things) where
  -- nothing was seen
  pub none_seen : AreNewest same place key version things [] (replicate things 0)
  none_seen = record {
    room = length-replicate {A = ℕ} things 0;
    each = λ x p is v. rw (get_or-replicate {A = ℕ} things p 0 0 (apart.within x p is)) (le_zero v);
  }

  at_one : (seen : List A) (newest : List ℕ) (a : A) → AreNewest same place key version things seen newest → (q : ℕ) → place (key a) ≡ Some q
      → (x : K) (p : ℕ) → place x ≡ Some p → (v : ℕ) → (p ≡ q) ⊎ (p ≡ q → ⊥)
      → list_all (is_older same key version x v) (a ∷ seen) ≡ nat_le (get_or (with_seen q (version a) newest) p 0) v
  at_one seen newest a are q is x p there v (inl e) =
      rw (get_or-set_at {X = ℕ} newest q p (max (get_or newest q 0) (version a)) 0 e (rw are.room (apart.within (key a) q is)))
      (same_step (same x (key a)) (get_or newest q 0) (version a) v (list_all (is_older same key version x v) seen)
      (apart.apart x (key a) p q there is ∙ is_eq p q e) (are.each x p there v ∙ ap (λ i. nat_le (get_or newest i 0) v) e))
  at_one seen newest a are q is x p there v (inr e) =
      rw (get_or-set_other {A = ℕ} newest q p (max (get_or newest q 0) (version a)) 0 e)
      (other_step (same x (key a)) (nat_le (version a) v) (list_all (is_older same key version x v) seen) (nat_le (get_or newest p 0) v)
      (apart.apart x (key a) p q there is ∙ is_apart p q e) (are.each x p there v))

  one_at : (seen : List A) (newest : List ℕ) (a : A) → AreNewest same place key version things seen newest → (where_is : Option ℕ) → place (key a) ≡ where_is
      → AreNewest same place key version things (a ∷ seen) (seen_at where_is (version a) newest)
  one_at seen newest a are None is = record {
    room = are.room;
    each = λ x p there v. other_step (same x (key a)) (nat_le (version a) v) (list_all (is_older same key version x v) seen) (nat_le (get_or newest p 0) v) (apart.other x (key a) p there is) (are.each x p there v);
  }
  one_at seen newest a are (Some q) is = record {
    room = length-set newest q (max (get_or newest q 0) (version a)) ∙ are.room;
    each = λ x p there v. at_one seen newest a are q is x p there v (cases_eq p q);
  }

  pub one_seen : (seen : List A) (newest : List ℕ) (a : A) → AreNewest same place key version things seen newest
      → AreNewest same place key version things (a ∷ seen) (seen_at (place (key a)) (version a) newest)
  one_seen seen newest a are = one_at seen newest a are (place (key a)) refl
