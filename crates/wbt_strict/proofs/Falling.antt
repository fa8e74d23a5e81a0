-- The strict ratio never rises with the context's pages.
use Rattle.std.proofs.Common.{ℕ, ◌*◌, ◌≤◌, min, Bool, true, false, cond, eqb, leb, ltb, ℤ, pos, negsuc, ◌+ℤ◌, sym, ◌∙◌, arith, ⊎_elim, leb-true, ltb-true, true≢false}
use Rattle.std.proofs.lemmas.Bool.{cases_Bool, cond-true, cond-false, le-leb, lt-ltb}
use Rattle.wbt_limits.specs.Limits.{setpoint}
use Rattle.wbt_position.specs.Polynom.{distance, scaled, between_0_and_2048, polynom_value}
use Rattle.wbt_position.proofs.Rising.{polynom_never_rises}
use Rattle.wbt_strict.specs.declared.position.TheConstants.{FEW_PAGES}
use Rattle.wbt_strict.specs.Position.{context_middle, by_own_pages, strict_ratio}
use Rattle.wbt_strict.specs.Laws.{StrictNeverRises}

between_most : (n : ℤ) → between_0_and_2048 n ≤ 2048
between_most (pos n) = omega arith
between_most (negsuc n) = omega arith

polynom_most : (setpoint dirty limit : ℕ) → polynom_value setpoint dirty limit ≤ 2048
unfolding polynom_value
polynom_most setpoint dirty limit =
    let x : ℤ = distance setpoint dirty limit in between_most (scaled (scaled x x) x +ℤ pos 1024)

none_or_less : (b : Bool) (x y : ℕ) → x ≤ y → cond b 0 x ≤ cond b 0 y
none_or_less true x y h = omega arith
none_or_less false x y h = h

none_or_below : (b : Bool) (x p : ℕ) → x ≤ p → cond b 0 x ≤ p
none_or_below true x p h = omega arith
none_or_below false x p h = h

-- below the context's threshold
module _ (p middle wb_thresh : ℕ) where
  below : (wb_dirty : ℕ) → ℕ
  below wb_dirty = cond (eqb middle 0) 0 (cond (eqb middle wb_thresh) 0 (min p (polynom_value middle wb_dirty wb_thresh)))

  below_falls : (wb_dirty more : ℕ) → wb_dirty ≤ more → below more ≤ below wb_dirty
  unfolding below
  below_falls wb_dirty more h = none_or_less (eqb middle 0) _ _ (none_or_less (eqb middle wb_thresh) _ _
      (let q = polynom_never_rises middle wb_thresh wb_dirty more h in omega arith))

  pub own_at_most : (wb_dirty : ℕ) → by_own_pages p middle wb_thresh wb_dirty ≤ p
  own_at_most wb_dirty = none_or_below (leb wb_thresh wb_dirty) _ p (none_or_below (eqb middle 0) _ p (none_or_below (eqb middle wb_thresh) _ p (omega arith)))

  own_falls : (wb_dirty more : ℕ) → wb_dirty ≤ more → by_own_pages p middle wb_thresh more ≤ by_own_pages p middle wb_thresh wb_dirty
  unfolding below
  own_falls wb_dirty more h = ⊎_elim
      (λ t. let none = cond-true (leb wb_thresh more) 0 (below more) t in omega arith)
      (λ t. let is_more = cond-false (leb wb_thresh more) 0 (below more) t in
      ⊎_elim
      (λ u. let reached = leb-true wb_thresh wb_dirty u in absurd (true≢false (sym (le-leb wb_thresh more (omega arith)) ∙ t)))
      (λ u. let is_less = cond-false (leb wb_thresh wb_dirty) 0 (below wb_dirty) u in let falls = below_falls wb_dirty more h in omega arith)
      (cases_Bool (leb wb_thresh wb_dirty)))
      (cases_Bool (leb wb_thresh more))

-- with few pages the ratio is at least that of more
few_falls : (few p own_less own_more wb_dirty more : ℕ) → wb_dirty ≤ more → p ≤ 2048 → own_more ≤ p → own_more ≤ own_less
    → cond (ltb more few) (min (2 * p) 2048) own_more ≤ cond (ltb wb_dirty few) (min (2 * p) 2048) own_less
few_falls few p own_less own_more wb_dirty more h small below falls = ⊎_elim
    (λ t. let here = cond-true (ltb wb_dirty few) (min (2 * p) 2048) own_less t in
    ⊎_elim
    (λ u. let there = cond-true (ltb more few) (min (2 * p) 2048) own_more u in omega arith)
    (λ u. let there = cond-false (ltb more few) (min (2 * p) 2048) own_more u in omega arith)
    (cases_Bool (ltb more few)))
    (λ t. let here = cond-false (ltb wb_dirty few) (min (2 * p) 2048) own_less t in
    ⊎_elim
    (λ u. let less = ltb-true more few u in absurd (true≢false (sym (lt-ltb wb_dirty few (omega arith)) ∙ t)))
    (λ u. let there = cond-false (ltb more few) (min (2 * p) 2048) own_more u in omega arith)
    (cases_Bool (ltb more few)))
    (cases_Bool (ltb wb_dirty few))

pub strict_never_rises : StrictNeverRises
unfolding strict_ratio
strict_never_rises read wb_dirty more h =
    let p : ℕ = polynom_value (setpoint read.limits) read.dirty read.limits.hard in
    let middle : ℕ = context_middle read in
    none_or_less (leb read.limits.hard read.dirty) _ _
    (few_falls FEW_PAGES p (by_own_pages p middle read.wb_thresh wb_dirty) (by_own_pages p middle read.wb_thresh more) wb_dirty more h
    (polynom_most (setpoint read.limits) read.dirty read.limits.hard) (own_at_most p middle read.wb_thresh more)
    (own_falls p middle read.wb_thresh wb_dirty more h))
