-- Sums over views, where one view becomes another; and what fits the words.
use Rattle.std.proofs.Common.{◌≡◌, ◌≢◌, ℕ, zero, suc, ◌+◌, ◌≤◌, List, [], ◌∷◌, ◌++◌, set, sym, refl, ap, subst, arith}
use mathlib.Core.Option.{some, some-injective, some-ne-none}
use lib.ListN.{get_elem?}
use Rattle.atomic_table.proofs.Lists.{set_else}
use Rattle.wbt_signals.specs.Signals.{AllFit, Fits, spent, total}
use Rattle.wbt_signals.specs.declared.rule.View.{View}

pub total_set : (of : View → ℕ) (views : List View) (id : ℕ) (v w : View) → get_elem? views id ≡ some v
    → total of (set views id w) + of v ≡ total of views + of w
unfolding total
total_set of [] id v w at = absurd (some-ne-none v (sym at))
total_set of (x ∷ xs) zero v w at = let same : of x ≡ of v = ap of (some-injective x v at) in omega arith
total_set of (x ∷ xs) (suc id) v w at = let rest = total_set of xs id v w at in omega arith

pub total_one : (of : View → ℕ) (views : List View) (w : View) → total of (views ++ w ∷ []) ≡ total of views + of w
unfolding total
total_one of [] w = omega arith
total_one of (x ∷ xs) w = let rest = total_one of xs w in omega arith

pub at_most : (of : View → ℕ) (views : List View) (id : ℕ) (v : View) → get_elem? views id ≡ some v → of v ≤ total of views
unfolding total
at_most of [] id v at = absurd (some-ne-none v (sym at))
at_most of (x ∷ xs) zero v at = let same : of x ≡ of v = ap of (some-injective x v at) in omega arith
at_most of (x ∷ xs) (suc id) v at = let rest = at_most of xs id v at in omega arith

-- beside a view with all stakes no other has any
pub others_poor : (views : List View) (id j : ℕ) (v w : View) → get_elem? views id ≡ some v → get_elem? views j ≡ some w → j ≢ id
    → total (λ u. u.stakes) views ≡ v.stakes → w.stakes ≡ 0
others_poor views id j v w at there apart whole =
    let less = total_set (λ u. u.stakes) views id v spent at in
    let most = at_most (λ u. u.stakes) (set views id spent) j w (trans_at views id j w apart there) in
    omega (arith, less, most, whole)
  where
    trans_at : (views : List View) (id j : ℕ) (w : View) → j ≢ id → get_elem? views j ≡ some w → get_elem? (set views id spent) j ≡ some w
    trans_at views id j w apart there = subst (λ o. o ≡ some w) (sym (set_else views id j spent apart)) there

module _ (workers bell writers there : ℕ) where
  pub fits_set : (views : List View) (id : ℕ) (w : View) → AllFit workers bell writers there views → Fits workers bell writers there w
      → AllFit workers bell writers there (set views id w)
  fits_set [] id w all one = tt
  fits_set (x ∷ xs) zero w all one = (one, all.1)
  fits_set (x ∷ xs) (suc id) w all one = (all.0, fits_set xs id w all.1 one)

  pub fits_one : (views : List View) (w : View) → AllFit workers bell writers there views → Fits workers bell writers there w
      → AllFit workers bell writers there (views ++ w ∷ [])
  fits_one [] w all one = (one, tt)
  fits_one (x ∷ xs) w all one = (all.0, fits_one xs w all.1 one)

  pub fits_at : (views : List View) (id : ℕ) (v : View) → AllFit workers bell writers there views → get_elem? views id ≡ some v
      → Fits workers bell writers there v
  fits_at [] id v all at = absurd (some-ne-none v (sym at))
  fits_at (x ∷ xs) zero v all at = subst (λ (u : View). Fits workers bell writers there u) (some-injective x v at) all.0
  fits_at (x ∷ xs) (suc id) v all at = fits_at xs id v all.1 at

  -- of this number a view with no stake has none
  abbrev Staked : (of : View → ℕ) → Type 0
  Staked of = (v : View) → Fits workers bell writers there v → v.stakes ≡ 0 → of v ≡ 0

  none_left : (of : View → ℕ) (views : List View) → Staked of → AllFit workers bell writers there views → total (λ v. v.stakes) views ≡ 0
      → total of views ≡ 0
  unfolding total
  none_left of [] staked all none = refl
  none_left of (x ∷ xs) staked all none =
      let empty : x.stakes ≡ 0 = omega arith in
      let here = staked x all.0 empty in
      let rest = none_left of xs staked all.1 (omega arith) in
      omega arith

  -- a view with all stakes has all of such a number
  own_all : (of : View → ℕ) (views : List View) (id : ℕ) (v : View) → Staked of → AllFit workers bell writers there views
      → get_elem? views id ≡ some v → total (λ u. u.stakes) views ≡ v.stakes → total of views ≡ of v
  unfolding total
  own_all of [] id v staked all at whole = absurd (some-ne-none v (sym at))
  own_all of (x ∷ xs) zero v staked all at whole =
      let is = some-injective x v at in
      let mine : x.stakes ≡ v.stakes = ap (λ (u : View). u.stakes) is in
      let same : of x ≡ of v = ap of is in
      let rest = none_left of xs staked all.1 (omega arith) in
      omega arith
  own_all of (x ∷ xs) (suc id) v staked all at whole =
      let less = at_most (λ u. u.stakes) xs id v at in
      let empty : x.stakes ≡ 0 = omega arith in
      let here = staked x all.0 empty in
      let rest = own_all of xs id v staked all.1 at (omega arith) in
      omega arith

  module _ (views : List View) (id : ℕ) (v : View) (all : AllFit workers bell writers there views) (at : get_elem? views id ≡ some v) (whole : total (λ u. u.stakes) views ≡ v.stakes) where
    -- as of rings, of workers that still write, and of those that are there
    pub own_rings : total (λ u. u.rings) views ≡ v.rings
    own_rings = own_all (λ u. u.rings) views id v (λ u fits empty. (fits.poor empty).0) all at whole

    pub own_writes : total (λ u. u.writes) views ≡ v.writes
    own_writes = own_all (λ u. u.writes) views id v (λ u fits empty. (fits.poor empty).1) all at whole

    pub own_there : total (λ u. u.there) views ≡ v.there
    own_there = own_all (λ u. u.there) views id v (λ u fits empty. (fits.poor empty).2) all at whole

-- a bell that was rung fits all, and so does a count that fell
pub fits_moved : (workers bell writers there bell' writers' there' : ℕ) (views : List View) → (bell ≢ 0 → bell' ≢ 0) → (writers ≡ 0 → writers' ≡ 0)
    → (there ≡ 0 → there' ≡ 0) → AllFit workers bell writers there views → AllFit workers bell' writers' there' views
fits_moved workers bell writers there bell' writers' there' [] rung less gone all = tt
fits_moved workers bell writers there bell' writers' there' (x ∷ xs) rung less gone all = (
  record {
    poor = all.0.poor;
    known = all.0.known;
    heard = λ heard. rung (all.0.heard heard);
    quiet = λ quiet. less (all.0.quiet quiet);
    gone = λ left. gone (all.0.gone left);
  },
  fits_moved workers bell writers there bell' writers' there' xs rung less gone all.1,
)
