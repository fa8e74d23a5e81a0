-- Things by their numbers stand apart.
use Rattle.std.proofs.Common.{◌≡◌, ℕ, ◌<◌, ◌+◌, ◌*◌, Bool, true, false, ◌==◌, ◌&&◌, nat_lt, if◌then◌else◌, Option, Some, None, refl, sym, arith, tests, ◌⊎◌, inl, inr}
use Rattle.std.proofs.lemmas.Nat.{mul-add-lt, rows}
use Rattle.wbt_audit_walk.proofs.Common.{is_same, Counter, below, counter_place}
use Rattle.wbt_counter.specs.declared.counter.Counter.TheVariants.{Domain, Context}
use Rattle.wbt_audit_walk.specs.Newest.{AreApart}
use Rattle.wbt_audit_walk.specs.Places.{behind, pair_at, pair_place, place_of_pair, same_pairs}

pub some_is : (a b : ℕ) → Some a ≡ Some b → a ≡ b
some_is a b e = cc

-- what a test of a number says of its place
place_is : (test : Bool) (number p : ℕ) → (if test then Some number else None) ≡ Some p → (number ≡ p) × (test ≡ true)
place_is true number p is = (some_is number p is, refl)
place_is false number p is = cc

none_is : (test : Bool) (number : ℕ) → (if test then Some number else None) ≡ None → test ≡ false
none_is true number is = cc
none_is false number is = refl

lt_is : (n c : ℕ) → nat_lt n c ≡ true → n < c
lt_is n c is = grind (arith, tests, is)

pub below_is : (count number p : ℕ) → below count number ≡ Some p → (number ≡ p) × (p < count)
below_is count number p is =
    let parts = place_is (nat_lt number count) number p is in
    (parts.0, rw (sym parts.0) (lt_is number count parts.1))

-- of two numbers below a count only one
differ : (count x y p : ℕ) → below count x ≡ Some p → below count y ≡ None → (x == y) ≡ false
differ count x y p is none =
    let there = below_is count x p is in
    let no : nat_lt y count ≡ false = none_is (nat_lt y count) y none in
    grind (arith, tests, there, no)

flip : (x y : ℕ) → (x == y) ≡ false → (y == x) ≡ false
flip x y is = grind (arith, tests, is)

pub numbers_apart : (count : ℕ) → AreApart (λ x y. y == x) (below count) count
numbers_apart count = record {
  within = λ x p is. (below_is count x p is).1;
  apart = λ x y p q xs ys. let a = below_is count x p xs in let b = below_is count y q ys in grind (arith, tests, a, b);
  other = λ x y p xs none. flip x y (differ count x y p xs none);
}

-- ---- counters

behind_is : (count : ℕ) (place : Option ℕ) (p : ℕ) → behind count place ≡ Some p → (q : ℕ) × (place ≡ Some q) × (p ≡ count + q)
behind_is count None p is = cc
behind_is count (Some q) p is = (q, refl, some_is p (count + q) (sym is))

behind_none : (count : ℕ) (place : Option ℕ) → behind count place ≡ None → place ≡ None
behind_none count None is = refl
behind_none count (Some q) is = cc

after_those : (count q p : ℕ) → p < count → (p == count + q) ≡ false
after_those count q p lt = grind (arith, tests, lt)

before_those : (count q p : ℕ) → p < count → (count + q == p) ≡ false
before_those count q p lt = grind (arith, tests, lt)

same_behind : (count c k a b p q : ℕ) → c ≡ a → k ≡ b → p ≡ count + a → q ≡ count + b → (c == k) ≡ (p == q)
same_behind count c k a b p q one two three four = grind (arith, tests, one, two, three, four)

module _ (domains contexts : ℕ) where
  counter_within : (x : Counter) (p : ℕ) → counter_place domains contexts x ≡ Some p → p < domains + contexts
  counter_within (Domain d) p is = let there = below_is domains d p is in grind (arith, there)
  counter_within (Context c) p is =
      let at = behind_is domains (below contexts c) p is in
      let there = below_is contexts c at.0 at.1 in grind (arith, there, at.2)

  counter_apart : (x y : Counter) (p q : ℕ) → counter_place domains contexts x ≡ Some p → counter_place domains contexts y ≡ Some q → is_same x y ≡ (p == q)
  counter_apart (Domain d) (Domain e) p q xs ys =
      rw ((below_is domains d p xs).0, (below_is domains e q ys).0)
  counter_apart (Domain d) (Context c) p q xs ys =
      let at = behind_is domains (below contexts c) q ys in
      rw at.2 (sym (after_those domains at.0 p (below_is domains d p xs).1))
  counter_apart (Context c) (Domain d) p q xs ys =
      let at = behind_is domains (below contexts c) p xs in
      rw at.2 (sym (before_those domains at.0 q (below_is domains d q ys).1))
  counter_apart (Context c) (Context k) p q xs ys =
      let at = behind_is domains (below contexts c) p xs in
      let to = behind_is domains (below contexts k) q ys in
      same_behind domains c k at.0 to.0 p q (below_is contexts c at.0 at.1).0 (below_is contexts k to.0 to.1).0 at.2 to.2

  counter_other : (x y : Counter) (p : ℕ) → counter_place domains contexts x ≡ Some p → counter_place domains contexts y ≡ None → is_same x y ≡ false
  counter_other (Domain d) (Domain e) p xs none = differ domains d e p xs none
  counter_other (Domain d) (Context c) p xs none = refl
  counter_other (Context c) (Domain d) p xs none = refl
  counter_other (Context c) (Context k) p xs none =
      let at = behind_is domains (below contexts c) p xs in
      differ contexts c k at.0 at.1 (behind_none domains (below contexts k) none)

  pub counters_apart : AreApart is_same (counter_place domains contexts) (domains + contexts)
  counters_apart = record { within = counter_within; apart = counter_apart; other = counter_other }

-- ---- pairs of a domain and a context

pub pair_is : (contexts : ℕ) (row place : Option ℕ) (p : ℕ) → pair_at contexts row place ≡ Some p
    → (d : ℕ) × (row ≡ Some d) × (c : ℕ) × (place ≡ Some c) × (p ≡ d * contexts + c)
pair_is contexts None place p is = cc
pair_is contexts (Some d) place p is = let at = behind_is (d * contexts) place p is in (d, refl, at.0, at.1, at.2)

-- a pair that isn't there lacks its domain or its context
pair_none : (contexts : ℕ) (row place : Option ℕ) → pair_at contexts row place ≡ None → (row ≡ None) ⊎ (place ≡ None)
pair_none contexts None place is = inl refl
pair_none contexts (Some d) place is = inr (behind_none (d * contexts) place is)

same_pair : (contexts d e b c : ℕ) → b < contexts → c < contexts → (e == d && c == b) ≡ (d * contexts + b == e * contexts + c)
same_pair contexts d e b c lt less = grind (arith, tests, rows, lt, less)

pair_by : (contexts d e b c x y z w p q : ℕ) → b < contexts → c < contexts → x ≡ d → y ≡ e → z ≡ b → w ≡ c → p ≡ d * contexts + b → q ≡ e * contexts + c
    → (y == x && w == z) ≡ (p == q)
pair_by contexts d e b c x y z w p q lt less one two three four five six = rw (one, two, three, four, five, six) (same_pair contexts d e b c lt less)

no_left : (a b : Bool) → a ≡ false → (a && b) ≡ false
no_left a b is = rw is

no_right : (a b : Bool) → b ≡ false → (a && b) ≡ false
no_right true b is = is
no_right false b is = refl

module _ (domains contexts : ℕ) where
  pair_within : (x : ℕ × ℕ) (p : ℕ) → pair_place domains contexts x.0 x.1 ≡ Some p → p < domains * contexts
  pair_within x p is =
      let at = pair_is contexts (below domains x.0) (below contexts x.1) p is in
      let row = below_is domains x.0 at.0 at.1 in
      let place = below_is contexts x.1 at.2 at.3 in
      omega (arith, at.4, mul-add-lt at.0 contexts at.2 domains row.1 place.1)

  pair_apart : (x y : ℕ × ℕ) (p q : ℕ) → pair_place domains contexts x.0 x.1 ≡ Some p → pair_place domains contexts y.0 y.1 ≡ Some q
      → same_pairs x y ≡ (p == q)
  pair_apart x y p q xs ys =
      let at = pair_is contexts (below domains x.0) (below contexts x.1) p xs in
      let to = pair_is contexts (below domains y.0) (below contexts y.1) q ys in
      let a = below_is domains x.0 at.0 at.1 in
      let b = below_is contexts x.1 at.2 at.3 in
      let c = below_is domains y.0 to.0 to.1 in
      let d = below_is contexts y.1 to.2 to.3 in
      pair_by contexts at.0 to.0 at.2 to.2 x.0 y.0 x.1 y.1 p q b.1 d.1 a.0 c.0 b.0 d.0 at.4 to.4

  lacking : (x y : ℕ × ℕ) (p : ℕ) → pair_place domains contexts x.0 x.1 ≡ Some p → (below domains y.0 ≡ None) ⊎ (below contexts y.1 ≡ None)
      → same_pairs x y ≡ false
  lacking x y p xs (inl none) =
      let at = pair_is contexts (below domains x.0) (below contexts x.1) p xs in
      no_left (y.0 == x.0) (y.1 == x.1) (flip x.0 y.0 (differ domains x.0 y.0 at.0 at.1 none))
  lacking x y p xs (inr none) =
      let at = pair_is contexts (below domains x.0) (below contexts x.1) p xs in
      no_right (y.0 == x.0) (y.1 == x.1) (flip x.1 y.1 (differ contexts x.1 y.1 at.2 at.3 none))

  pub pairs_apart : AreApart same_pairs (place_of_pair domains contexts) (domains * contexts)
  pairs_apart = record {
    within = pair_within;
    apart = pair_apart;
    other = λ x y p xs none. lacking x y p xs (pair_none contexts (below domains y.0) (below contexts y.1) none);
  }
