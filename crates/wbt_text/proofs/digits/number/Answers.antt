use Rattle.std.proofs.Common.{◌≡◌, ◌≢◌, ◌<◌, ◌≤◌, ◌⊎◌, inl, inr, ◌==◌, Bool, false, ℕ, List, [], ◌∷◌, length, get_or, sym, ◌∙◌, ap, arith}
use Rattle.wbt_text.proofs.Decimals.{found_of, none_of, some_digits, few_digits, no_leading}
use Rattle.wbt_text.proofs.digits.number.Goals as goal

pub returns-then-is_empty-clause-none : goal.returns-then-is_empty-clause-none
returns-then-is_empty-clause-none c = λ n is. let some = some_digits n is.0 in let e = ap length is.1 in grind (arith, c.is_empty.ensures, c.if-is_empty.true)

pub returns-then-text-gt-MOST_DIGITS-clause-none : goal.returns-then-text-gt-MOST_DIGITS-clause-none
returns-then-text-gt-MOST_DIGITS-clause-none c = λ n is. omega (arith, few_digits n is.0, ap length is.1, c.if-text-gt-MOST_DIGITS.true)

pub returns-then-text-gt1-clause-none : goal.returns-then-text-gt1-clause-none
returns-then-text-gt1-clause-none c = λ n is.
    let one = no_leading n is.0 (ap (λ (l : List ℕ). get_or l 0 0) (sym is.1) ∙ c.if-text-eq48.true) in
    omega (arith, one, ap length is.1, c.if-text-gt1.true)

some : (b : Bool) (xs : List ℕ) → b ≡ (length xs == 0) → b ≡ false → 0 < length xs
some b [] is no_bytes = absurd (cc (is, no_bytes))
some b (x ∷ xs) is no_bytes = omega arith

lead_of : (xs : List ℕ) → ((get_or xs 0 0 ≡ 48) × (length xs ≤ 1)) ⊎ (get_or xs 0 0 ≢ 48) → 0 < length xs → get_or xs 0 0 ≡ 48 → length xs ≡ 1
lead_of xs (inl one) more is = omega (arith, one.1)
lead_of xs (inr other) more is = absurd (other is)

pub returns-clause-found : goal.returns-clause-found
returns-clause-found c =
    let more = some c.is_empty.result c.args.text.now c.is_empty.ensures c.if-is_empty.false in
    found_of c.value_of.result c.args.text.now more c.if-text-gt-MOST_DIGITS.false (lead_of c.args.text.now c.else-text-eq48.either more) c.value_of.ensures.found

pub returns-clause-none : goal.returns-clause-none
returns-clause-none c = none_of c.value_of.result c.args.text.now c.value_of.ensures.none
