use Rattle.std.proofs.Common.{◌≡◌, ◌<◌, ◌≤◌, ◌⊎◌, ℕ, length, List, arith, ap, refl, sym, subst, inl, inr}
use Rattle.std.proofs.lemmas.Bool.{cases_eq, MatchBool-at_true, MatchBool-at_false}
use Rattle.wbt_expiry.specs.Lists.{IsUpTo}
use Rattle.wbt_expiry.specs.Paths.{next_of, path_of, times_in, Ends}
use Rattle.wbt_expiry.proofs.Paths.{on_path, ends_on, begins, first_stands}
use Rattle.wbt_expiry.proofs.Times.{times_other, times_more}
use Rattle.wbt_expiry.proofs.walks.least_on.Goals as goal
use Rattle.wbt_expiry.proofs.walks.least_on.Goals.{then-comes_before, else-comes_before}

up_to_itself : (dues : List ℕ) (x : ℕ) → IsUpTo dues x x
up_to_itself dues x = inr (refl, omega arith)

up_to_both : (dues : List ℕ) (x y z : ℕ) → IsUpTo dues x y → IsUpTo dues y z → IsUpTo dues x z
up_to_both dues x y z (inl earlier) (inl also) = inl (omega arith)
up_to_both dues x y z (inl earlier) (inr same) = inl (omega (arith, same.0))
up_to_both dues x y z (inr same) (inl earlier) = inl (omega (arith, same.0))
up_to_both dues x y z (inr same) (inr also) = inr (omega (arith, same.0, also.0), omega (arith, same.1, also.1))

-- a number of the path that begins here is the first one or on the rest
seen_or_next :
    (nexts : List ℕ) (at x : ℕ) → Ends nexts at → at < length nexts → 1 ≤ times_in x (path_of nexts at)
    → (x ≡ at) ⊎ (1 ≤ times_in x (path_of nexts (next_of nexts at)))
seen_or_next nexts at x ends within stands = elim (cases_eq x at) [
  | inl same ↦ inl same
  | inr differ ↦ inr (omega (arith, stands, ap (times_in x) (ends_on nexts at ends within).0, times_other x at (path_of nexts (next_of nexts at)) differ))
]

seen_more :
    (nexts dues : List ℕ) (least at now x : ℕ) → Ends nexts at → at < length nexts → IsUpTo dues now least → IsUpTo dues now at
    → IsUpTo dues least x ⊎ (1 ≤ times_in x (path_of nexts at))
    → IsUpTo dues now x ⊎ (1 ≤ times_in x (path_of nexts (next_of nexts at)))
seen_more nexts dues least at now x ends within up here (inl seen) = inl (up_to_both dues now least x up seen)
seen_more nexts dues least at now x ends within up here (inr stands) = elim (seen_or_next nexts at x ends within stands) [
  | inl same ↦ inl (subst (λ (y : ℕ). IsUpTo dues now y) (sym same) here)
  | inr later ↦ inr later
]

pub walk-init : goal.walk-init
walk-init c =
    let goes = ends_on c.args.nexts.now c.args.first c.requires.ends c.requires.first in
    record {
      there = first_stands c.args.nexts.now c.args.first c.requires.ends c.requires.first;
      ends = goes.1;
      part = λ x. omega (arith, ap (times_in x) goes.0, times_more x c.args.first (path_of c.args.nexts.now (next_of c.args.nexts.now c.args.first)));
      seen = λ x stands. elim (seen_or_next c.args.nexts.now c.args.first x c.requires.ends c.requires.first stands) [
        | inl same ↦ inl (subst (λ (y : ℕ). IsUpTo c.args.dues.now c.args.first y) (sym same) (up_to_itself c.args.dues.now c.args.first))
        | inr later ↦ inr later
      ];
    }

pub comes_before-requires-clause-other : goal.comes_before-requires-clause-other
comes_before-requires-clause-other c =
    omega (
      arith,
      c.requires.dues,
      on_path c.args.nexts.now c.args.first (path_of c.args.nexts.now c.args.first) c.walk.least c.requires.ends c.walk.invariant.there,
    )

pub walk-smaller : goal.walk-smaller
walk-smaller c = omega (arith, ap (λ (l : List ℕ). length l) (ends_on c.args.nexts.now c.walk.at c.walk.invariant.ends c.walk-test.true).0)

pub walk-preserved : goal.walk-preserved
walk-preserved c =
    let goes = ends_on c.args.nexts.now c.walk.at c.walk.invariant.ends c.walk-test.true in
    let at_stands : 1 ≤ times_in c.walk.at (path_of c.args.nexts.now c.args.first) =
    omega (arith, c.walk.invariant.part c.walk.at, first_stands c.args.nexts.now c.walk.at c.walk.invariant.ends c.walk-test.true) in
    let there : 1 ≤ times_in c.if-comes_before.least (path_of c.args.nexts.now c.args.first) = elim c.if-comes_before.branch [
      | then-comes_before w ↦ rw w.least-is at_stands
      | else-comes_before w ↦ rw w.least-is c.walk.invariant.there
    ] in
    let up : IsUpTo c.args.dues.now c.if-comes_before.least c.walk.least = elim c.if-comes_before.branch [
      | then-comes_before w ↦ rw w.least-is (MatchBool-at_true _ _ w.if-comes_before.true c.comes_before.ensures)
      | else-comes_before w ↦ rw w.least-is (up_to_itself c.args.dues.now c.walk.least)
    ] in
    let here : IsUpTo c.args.dues.now c.if-comes_before.least c.walk.at = elim c.if-comes_before.branch [
      | then-comes_before w ↦ rw w.least-is (up_to_itself c.args.dues.now c.walk.at)
      | else-comes_before w ↦ rw w.least-is (MatchBool-at_false _ _ w.if-comes_before.false c.comes_before.ensures)
    ] in
    record {
      there = there;
      ends = goes.1;
      part = λ x. omega (arith, c.walk.invariant.part x, ap (times_in x) goes.0, times_more x c.walk.at (path_of c.args.nexts.now (next_of c.args.nexts.now c.walk.at)));
      seen = λ x stands. seen_more c.args.nexts.now c.args.dues.now c.walk.least c.walk.at c.if-comes_before.least x c.walk.invariant.ends c.walk-test.true up here
          (c.walk.invariant.seen x stands);
    }

pub returns-clause-least : goal.returns-clause-least
returns-clause-least c = λ other stands. elim (c.walk.invariant.seen other stands) [
  | inl seen ↦ seen
  | inr later ↦ absurd (omega (arith, c.walk-test.false, begins c.args.nexts.now c.walk.at other later))
]
