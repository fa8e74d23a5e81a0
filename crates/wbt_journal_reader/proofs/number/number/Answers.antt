use Rattle.std.proofs.Common.{◌≡◌, ◌≢◌, ◌<◌, ◌≤◌, ◌⊎◌, inl, inr, ◌==◌, Bool, false, ℕ, List, [], ◌∷◌, length, get_or, sym, ◌∙◌, ap, subst, arith}
use Rattle.std.specs.Str.Parse.{AllDigits}
use Rattle.std.proofs.lemmas.Fmt.{decimal_nonempty}
use Rattle.wbt_journal_reader.specs.Fields.{IsNumber}
use Rattle.wbt_journal_reader.proofs.Digits.{all_digits, few_digits, no_leading, found, value_of_number}
use Rattle.wbt_journal_reader.proofs.number.number.Goals as goal

pub returns-then-is_empty-clause-none : goal.returns-then-is_empty-clause-none
returns-then-is_empty-clause-none c = λ n is. let some = decimal_nonempty n is.0 in let e = ap length is.1 in grind (arith, c.is_empty.ensures, c.if-is_empty.true)

pub returns-then-text-gt-MOST_DIGITS-clause-none : goal.returns-then-text-gt-MOST_DIGITS-clause-none
returns-then-text-gt-MOST_DIGITS-clause-none c = λ n is. omega (arith, few_digits n is.0, ap length is.1, c.if-text-gt-MOST_DIGITS.true)

pub returns-then-text-gt1-clause-none : goal.returns-then-text-gt1-clause-none
returns-then-text-gt1-clause-none c = λ n is.
    let one = no_leading n is.0 (ap (λ (l : List ℕ). get_or l 0 0) (sym is.1) ∙ c.if-text-eq48.true) in
    omega (arith, one, ap length is.1, c.if-text-gt1.true)

pub returns-in-None-clause-none : goal.returns-in-None-clause-none
returns-in-None-clause-none c = λ n is. c.in-None.ensures.none (subst (AllDigits 10) (sym is.1) (all_digits n is.0))

pub returns-then-value-clause-none : goal.returns-then-value-clause-none
returns-then-value-clause-none c = λ n is. omega (arith, is.0, value_of_number c.args.text.now n is, c.in-Some.ensures.found.1, c.if-value.true)

some : (b : Bool) (xs : List ℕ) → b ≡ (length xs == 0) → b ≡ false → 0 < length xs
some b [] is no_bytes = absurd (cc (is, no_bytes))
some b (x ∷ xs) is no_bytes = omega arith

lead_of : (xs : List ℕ) → ((get_or xs 0 0 ≡ 48) × (length xs ≤ 1)) ⊎ (get_or xs 0 0 ≢ 48) → 0 < length xs → get_or xs 0 0 ≡ 48 → length xs ≡ 1
lead_of xs (inl one) more is = omega (arith, one.1)
lead_of xs (inr other) more is = absurd (other is)

pub returns-else-value-clause-found : goal.returns-else-value-clause-found
returns-else-value-clause-found c =
    let more = some c.is_empty.result c.args.text.now c.is_empty.ensures c.if-is_empty.false in
    let value = c.in-Some.ensures.found in
    let is = found c.args.text.now value.0 more (lead_of c.args.text.now c.else-text-eq48.either more) (omega (arith, value.1, c.if-value.false)) in
    subst (IsNumber c.args.text.now) (sym value.1) is
