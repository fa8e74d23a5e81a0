-- What tests say that don't hold.
use Rattle.std.proofs.Common.{◌≡◌, ℕ, ◌<◌, ◌≤◌, Bool, true, false, ◌||◌, ◌==◌, nat_lt, nat_le, Option, Some, None, is_some, unwrap_or, refl, arith, rules, IsTrue}
use Rattle.std.proofs.lemmas.Bool.Decides.{nat_tests}

pub left_off : (a b : Bool) → (a || b) ≡ false → a ≡ false
left_off true b is = cc
left_off false b is = refl

pub right_off : (a b : Bool) → (a || b) ≡ false → b ≡ false
right_off true b is = cc
right_off false b is = is

pub not_below : (a b : ℕ) → nat_lt a b ≡ false → b ≤ a
not_below a b is = grind (arith, nat_tests)

pub not_to : (a b : ℕ) → nat_le a b ≡ false → b < a
not_to a b is = grind (arith, nat_tests)

pub not_none : (n : ℕ) → (n == 0) ≡ false → 1 ≤ n
not_none n is = grind (arith, nat_tests)

-- and what facts say of tests
pub below_off : (a b : ℕ) → b ≤ a → nat_lt a b ≡ false
below_off a b le = grind (arith, nat_tests)

pub to_off : (a b : ℕ) → b < a → nat_le a b ≡ false
to_off a b less = grind (arith, nat_tests)

pub none_off : (n : ℕ) → 1 ≤ n → (n == 0) ≡ false
none_off n some = grind (arith, nat_tests)

pub both_off : (a b : Bool) → a ≡ false → b ≡ false → (a || b) ≡ false
both_off true b is other = is
both_off false b is other = other

pub not_given : (o : Option ℕ) → is_some o ≡ false → unwrap_or o 0 ≡ 0
not_given None is = refl
not_given (Some n) is = cc

pub holds : (b : Bool) → b ≡ true → IsTrue b
holds true is = search rules
holds false is = absurd (cc is)
