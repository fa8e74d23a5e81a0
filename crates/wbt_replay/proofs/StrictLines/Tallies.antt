-- The tallies of the contexts' pages, step by step.
use Rattle.std.proofs.Common.{◌≡◌, ◌≢◌, ℕ, suc, ◌+◌, ◌<◌, ◌≤◌, max, ℤ, pos, ◌+ℤ◌, unsigned_abs, List, [], ◌∷◌, length, replicate, drop, set, get_or, eqb, refl, sym, ◌∙◌, ap, subst, arith, eq-eqb, ne_eqb}
use Rattle.std.proofs.Math.Seq.{drop-cons}
use Rattle.std.proofs.lemmas.Bool.{cond-true, cond-false}
use Rattle.std.proofs.lemmas.Int.{ints}
use Rattle.std.proofs.lemmas.List.{get_or-set_same, get_or-set_other, get_or-replicate, length-set, length-replicate, drop_all}
use mathlib.Core.Logic.{dite}
use native.Mathlib.Decide.{ℕ_discrete}
use Rattle.wbt_replay_order.proofs.Common.{at_least_zero, StepEntry, pages_after, most_pages, no_tally}
use Rattle.wbt_replay_order.specs.declared.tally.Tally.{Tally}
use Rattle.wbt_replay_order.specs.Definition.Strict.{most_from}
use Rattle.wbt_replay_order.specs.Kept.Strict.{tallied, IsTally, AreTallies, AreMost}

-- a context has had as many pages as it begins with
pub most_at_first : (k : ℕ) (pages : ℤ) (steps : List StepEntry) → at_least_zero pages ≤ most_from k pages steps
most_at_first k pages [] = omega arith
most_at_first k pages (x ∷ steps) = omega arith

-- ---- one context

module _ (k : ℕ) (steps : List StepEntry) (made : ℕ) (x : StepEntry) (rest : List StepEntry) (now : drop made steps ≡ x ∷ rest) (next : drop (suc made) steps ≡ rest)
    (tally : Tally) (h : IsTally k steps made tally) where
  left : max tally.most (max (at_least_zero tally.pages) (most_from k (pages_after k x tally.pages) rest)) ≡ most_pages k steps
  left = ap (λ (l : List StepEntry). max tally.most (most_from k tally.pages l)) (sym now) ∙ h.reaches

  -- a step of the context
  tally_here : x.context ≡ k → unsigned_abs x.change ≤ 128 → IsTally k steps (suc made) (tallied x.change tally)
  tally_here is small =
      let pages : ℤ = tally.pages +ℤ x.change in
      let same : pages_after k x tally.pages ≡ pages = cond-true (eqb x.context k) pages tally.pages (eq-eqb x.context k is) in
      let before : max tally.most (max (at_least_zero tally.pages) (most_from k pages rest)) ≡ most_pages k steps =
      ap (λ (n : ℤ). max tally.most (max (at_least_zero tally.pages) (most_from k n rest))) (sym same) ∙ left in
      record {
        reaches = ap (λ (l : List StepEntry). max (max tally.most (at_least_zero pages)) (most_from k pages l)) next
            ∙ omega (arith, before, h.had, most_at_first k pages rest);
        had = omega arith;
        near = omega (arith, ints, small, h.near);
      }

  -- a step of another one
  tally_apart : x.context ≢ k → IsTally k steps (suc made) tally
  tally_apart other =
      let same : pages_after k x tally.pages ≡ tally.pages = cond-false (eqb x.context k) (tally.pages +ℤ x.change) tally.pages (ne_eqb x.context k other) in
      let before : max tally.most (max (at_least_zero tally.pages) (most_from k tally.pages rest)) ≡ most_pages k steps =
      ap (λ (n : ℤ). max tally.most (max (at_least_zero tally.pages) (most_from k n rest))) (sym same) ∙ left in
      record {
        reaches = ap (λ (l : List StepEntry). max tally.most (most_from k tally.pages l)) next ∙ omega (arith, before, h.had);
        had = h.had;
        near = omega (arith, h.near);
      }

-- ---- all contexts

pub first_tallies : (contexts : ℕ) (steps : List StepEntry) → AreTallies contexts steps 0 (replicate contexts no_tally)
first_tallies contexts steps = (
  length-replicate contexts no_tally,
  λ k less.
      subst (IsTally k steps 0) (sym (get_or-replicate contexts k no_tally no_tally less))
      (record { reaches = let first = most_at_first k (pos 0) steps in omega (arith, first); had = omega arith; near = omega arith }),
)

module _ (contexts : ℕ) (steps : List StepEntry) (made : ℕ) (x : StepEntry) (rest : List StepEntry) (now : drop made steps ≡ x ∷ rest) (next : drop (suc made) steps ≡ rest)
    (tallies : List Tally) (all : AreTallies contexts steps made tallies) where
  pub step_tallied : x.context < contexts → unsigned_abs x.change ≤ 128
      → AreTallies contexts steps (suc made) (set tallies x.context (tallied x.change (get_or tallies x.context no_tally)))
  step_tallied there small =
      let new : Tally = tallied x.change (get_or tallies x.context no_tally) in (
        length-set tallies x.context new ∙ all.0,
        λ k less. dite (ℕ_discrete k x.context)
            (λ same.
            subst (λ (n : ℕ). IsTally n steps (suc made) (get_or (set tallies x.context new) n no_tally)) (sym same)
            (subst (IsTally x.context steps (suc made)) (sym (get_or-set_same tallies x.context new no_tally (omega (arith, there, all.0))))
            (tally_here x.context steps made x rest now next (get_or tallies x.context no_tally) (all.1 x.context there) refl small)))
            (λ apart.
            subst (IsTally k steps (suc made)) (sym (get_or-set_other tallies x.context k new no_tally apart))
            (tally_apart k steps made x rest now next (get_or tallies k no_tally) (all.1 k less) (λ e. apart (sym e)))),
      )

  pub step_passed : contexts ≤ x.context → AreTallies contexts steps (suc made) tallies
  step_passed past = (
    all.0,
    λ k less. tally_apart k steps made x rest now next (get_or tallies k no_tally) (all.1 k less) (λ e. omega (arith, e, less, past)),
  )

-- the next step of a list, counted or passed over
module _ (contexts : ℕ) (steps : List StepEntry) (i : ℕ) (d : StepEntry) (tallies new : List Tally) (less : i < length steps) (all : AreTallies contexts steps i tallies) where
  abbrev x : StepEntry
  x = get_or steps i d

  to_next : AreTallies contexts steps (suc i) new → AreTallies contexts steps (i + 1) new
  to_next h = let next : suc i ≡ i + 1 = omega arith in subst (λ (n : ℕ). AreTallies contexts steps n new) next h

  pub counted_next : (got after : Tally) → x.context < contexts → unsigned_abs x.change ≤ 128 → got ≡ get_or tallies x.context no_tally → after ≡ tallied x.change got
      → new ≡ set tallies x.context after → AreTallies contexts steps (i + 1) new
  counted_next got after there small got_is after_is new_is =
      to_next (subst (AreTallies contexts steps (suc i)) (sym (new_is ∙ ap (set tallies x.context) (after_is ∙ ap (tallied x.change) got_is)))
      (step_tallied contexts steps i x (drop (suc i) steps) (drop-cons steps i d less) refl tallies all there small))

  pub passed_next : contexts ≤ x.context → new ≡ tallies → AreTallies contexts steps (i + 1) new
  passed_next past new_is =
      to_next (subst (AreTallies contexts steps (suc i)) (sym new_is) (step_passed contexts steps i x (drop (suc i) steps) (drop-cons steps i d less) refl tallies all past))

pub last_tallies : (contexts : ℕ) (steps : List StepEntry) (made : ℕ) (tallies : List Tally) → length steps ≤ made → AreTallies contexts steps made tallies
    → AreMost contexts steps tallies
last_tallies contexts steps made tallies over all = (
  all.0,
  λ k less.
      let t : Tally = get_or tallies k no_tally in
      let h = all.1 k less in
      let done : max t.most (at_least_zero t.pages) ≡ most_pages k steps =
      ap (λ (l : List StepEntry). max t.most (most_from k t.pages l)) (sym (drop_all made steps over)) ∙ h.reaches in
      omega (arith, done, h.had),
)
