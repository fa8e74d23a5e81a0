use Rattle.std.proofs.Common.{◌≡◌, ◌≢◌, ℕ, ◌^◌, ◌<◌, List, length, get_or, Result, Ok, sym, ◌∙◌, ap, subst, arith, decimal}
use Rattle.std.specs.Result.{OkIff}
use Rattle.std.specs.Str.Parse.{AllDigits, digits_value, ParsesUnsigned}
use Rattle.std.proofs.lemmas.Fmt.{decimal-digits_value, decimal_nonempty, first_decimal, parse-decimal}
use Rattle.std.proofs.lemmas.Str.Parse.{parse_plain}
use Rattle.wbt_text.proofs.Decimals.{own}
use Rattle.wbt_top_plain.proofs.number.number_within.Goals as goal

-- a number above 0 begins with a digit that is no zero
lead : (n : ℕ) (bytes text : List ℕ) → bytes ≡ text → text ≡ decimal n → 0 < n → n < 2 ^ 64 → 48 < get_or bytes 0 0
lead n bytes text seen is some small =
    let first = first_decimal n some small in
    let same : get_or bytes 0 0 ≡ get_or (decimal n) 0 0 = ap (λ (l : List ℕ). get_or l 0 0) (seen ∙ is) in omega (arith, first, same)

-- what stands for a number and has no sign and no zero in front is that number's text
spelled : {E : Type 0} (ds : List ℕ) (r : Result ℕ E) (n : ℕ) → ParsesUnsigned 64 10 ds r → r ≡ Ok n → get_or ds 0 0 ≢ 43 → get_or ds 0 0 ≢ 48 → ds ≡ decimal n
spelled ds r n parses is no_sign no_zero =
    let told = subst (λ (x : Result ℕ _). OkIff x (AllDigits 10 ds × (0 < length ds) × (digits_value 10 ds < 2 ^ 64)) (digits_value 10 ds)) is (parse_plain own 64 ds r parses no_sign) in
    sym (decimal-digits_value own ds told.0.0 told.0.1 (λ zero. absurd (no_zero zero)) told.0.2) ∙ ap decimal (sym told.1)

pub returns-then-is_empty-clause-none : goal.returns-then-is_empty-clause-none
returns-then-is_empty-clause-none c = λ n is. let few = is.few in
    let some = decimal_nonempty n (omega (arith, few, c.ranges.most)) in
    let long = ap length (c.as_bytes-text.ensures.value ∙ is.spelled) in grind (arith, c.is_empty.ensures, c.if-is_empty.true)

pub returns-then-text-eq48-clause-none : goal.returns-then-text-eq48-clause-none
returns-then-text-eq48-clause-none c = λ n is. let enough = is.enough in let few = is.few in
    let low = lead n _ _ c.as_bytes-text.ensures.value is.spelled (omega (arith, enough, c.requires)) (omega (arith, few, c.ranges.most)) in omega (arith, low, c.if-text-eq48.true)

pub returns-then-text-eq43-clause-none : goal.returns-then-text-eq43-clause-none
returns-then-text-eq43-clause-none c = λ n is. let enough = is.enough in let few = is.few in
    let low = lead n _ _ c.as_bytes-text.ensures.value is.spelled (omega (arith, enough, c.requires)) (omega (arith, few, c.ranges.most)) in omega (arith, low, c.if-text-eq43.true)

pub returns-in_default-clause-none : goal.returns-in_default-clause-none
returns-in_default-clause-none c = λ n is. let few = is.few in let small : n < 2 ^ 64 = omega (arith, few, c.ranges.most) in
    c.in_default.not-Ok n (parse-decimal 64 n c.args.word.now c.parse.result small small is.spelled c.parse.ensures.value.0)

pub returns-then-n-least-clause-none : goal.returns-then-n-least-clause-none
returns-then-n-least-clause-none c = λ n is. let enough = is.enough in let few = is.few in let small : n < 2 ^ 64 = omega (arith, few, c.ranges.most) in
    let same : c.in-Ok.n ≡ n = cc (parse-decimal 64 n c.args.word.now c.parse.result small small is.spelled c.parse.ensures.value.0, c.in-Ok.is) in
    omega (arith, same, enough, c.if-n-least.true)

pub returns-then-n-most-clause-none : goal.returns-then-n-most-clause-none
returns-then-n-most-clause-none c = λ n is. let few = is.few in let small : n < 2 ^ 64 = omega (arith, few, c.ranges.most) in
    let same : c.in-Ok.n ≡ n = cc (parse-decimal 64 n c.args.word.now c.parse.result small small is.spelled c.parse.ensures.value.0, c.in-Ok.is) in
    omega (arith, same, few, c.if-n-most.true)

pub returns-clause-found : goal.returns-clause-found
returns-clause-found c =
    let at : get_or c.as_bytes-text.result.now 0 0 ≡ get_or c.args.word.now 0 0 = ap (λ (l : List ℕ). get_or l 0 0) c.as_bytes-text.ensures.value in
    record {
      spelled = spelled c.args.word.now c.parse.result c.in-Ok.n c.parse.ensures.value.0 c.in-Ok.is (λ sign. c.if-text-eq43.false (at ∙ sign)) (λ zero. c.if-text-eq48.false (at ∙ zero));
      enough = omega (arith, c.if-n-least.false);
      few = omega (arith, c.if-n-most.false);
    }
