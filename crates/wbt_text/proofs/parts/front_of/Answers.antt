use Rattle.std.proofs.Common.{get_or, subst, sym, arith}
use Rattle.std.proofs.lemmas.List.{take_more}
use Rattle.wbt_text.specs.Cut.{HasNoDigit, IsDigit}
use Rattle.wbt_text.proofs.Cuts.{no_digit_push}
use Rattle.wbt_text.proofs.parts.front_of.Goals as goal
use Rattle.wbt_text.proofs.parts.front_of.Goals.{else-text-i-ge48-via-then-text-i-ge48+else-text-i-le57, else-text-i-ge48-via-else-text-i-ge48}

pub loop-i-preserved : goal.loop-i-preserved
loop-i-preserved c =
    let more = take_more c.args.text.now c.loop-i.i 0 c.loop-i-test.true in
    let other : IsDigit (get_or c.args.text.now c.loop-i.i 0) → ⊥ = λ digit.
    elim c.else-text-i-ge48.branch [
      | else-text-i-ge48-via-then-text-i-ge48+else-text-i-le57 w ↦ omega (arith, digit.1, w.if-text-i-le57.false)
      | else-text-i-ge48-via-else-text-i-ge48 w ↦ omega (arith, digit.0, w.if-text-i-ge48.false)
    ]
    in subst HasNoDigit (sym more) (no_digit_push _ _ c.loop-i.invariant other)
