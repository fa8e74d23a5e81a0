use Rattle.std.proofs.Common.{get_or, take, arith}
use Rattle.std.proofs.lemmas.List.{length-take}
use Rattle.std.proofs.lemmas.Int.Digits.{digits_more, digits_value_more}
use Rattle.std.proofs.lemmas.Str.Parse.{digits_value_short}
use Rattle.wbt_text.proofs.Decimals.{own, digit_is, not_digit}
use Rattle.wbt_journal_reader.proofs.number.value_of.Goals as goal
use Rattle.wbt_journal_reader.proofs.number.value_of.Goals.{then-digit-lt48-via-then-digit-lt48, then-digit-lt48-via-else-digit-lt48+then-digit-gt57}

pub returns-then-digit-lt48-clause-none : goal.returns-then-digit-lt48-clause-none
returns-then-digit-lt48-clause-none c = λ all.
    let d = not_digit c.args.text.now c.loop-digit.digit-index c.loop-digit-test.true all in
    elim c.then-digit-lt48.branch [
      | then-digit-lt48-via-then-digit-lt48 w ↦ absurd (omega (arith, w.if-digit-lt48.true))
      | then-digit-lt48-via-else-digit-lt48+then-digit-gt57 w ↦ absurd (omega (arith, w.if-digit-gt57.true))
    ]

pub overflow_mul-value : goal.overflow_mul-value
overflow_mul-value c =
    let i = c.loop-digit.digit-index in
    let small = digits_value_short own (take i c.args.text.now) 19 c.loop-digit.invariant.digits (omega (arith, length-take i c.args.text.now, c.requires, c.loop-digit-test.true)) in
    omega (arith, small, c.loop-digit.invariant.value)

pub overflow_add-value : goal.overflow_add-value
overflow_add-value c =
    let i = c.loop-digit.digit-index in
    let small = digits_value_short own (take i c.args.text.now) 19 c.loop-digit.invariant.digits (omega (arith, length-take i c.args.text.now, c.requires, c.loop-digit-test.true)) in
    omega (arith, small, c.loop-digit.invariant.value, c.from.ensures, c.if-digit-gt57.false)

pub loop-digit-preserved : goal.loop-digit-preserved
loop-digit-preserved c =
    let text = c.args.text.now in
    let i = c.loop-digit.digit-index in
    let is = digit_is (get_or text i 0) (omega (arith, c.if-digit-lt48.false)) (omega (arith, c.if-digit-gt57.false)) in
    record {
      digits = digits_more 10 text i c.loop-digit-test.true c.loop-digit.invariant.digits (omega (arith, is, c.if-digit-gt57.false));
      value = omega (arith, digits_value_more 10 text i c.loop-digit-test.true, is, c.loop-digit.invariant.value, c.from.ensures);
    }
