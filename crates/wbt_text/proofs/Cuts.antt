-- Texts that are cut at a byte.
use Rattle.std.proofs.Common.{arith, ◌≡◌, ◌≢◌, ℕ, ◌+◌, ◌<◌, ◌≤◌, Bool, true, false, not, ◌&&◌, eqb, leb, List, [], ◌∷◌, ◌++◌, length, get_or, take, drop, refl, sym, ◌∙◌, ap, subst, take-append-drop}
use Rattle.std.proofs.lemmas.List.{drop_more}
use Rattle.std.proofs.lemmas.Bool.Decides.{nat_tests}
use Rattle.wbt_text.specs.Cut.{Without, HasNoDigit, IsDigit, BeginsWithDigit}

pub without_push : (byte : ℕ) (xs : List ℕ) (x : ℕ) → Without byte xs → x ≢ byte → Without byte (xs ++ x ∷ [])
without_push byte [] x all other = (other, tt)
without_push byte (y ∷ ys) x all other = (all.0, without_push byte ys x all.1 other)

-- the front up to the first such byte is one
pub cut_once : (byte : ℕ) (f g r s : List ℕ) → Without byte f → Without byte g → f ++ byte ∷ r ≡ g ++ byte ∷ s → (f ≡ g) × (r ≡ s)
cut_once byte [] [] r s a b is = (refl, cc)
cut_once byte [] (y ∷ ys) r s a b is = let same : y ≡ byte = cc in absurd (b.0 same)
cut_once byte (x ∷ xs) [] r s a b is = let same : x ≡ byte = cc in absurd (a.0 same)
cut_once byte (x ∷ xs) (y ∷ ys) r s a b is =
    let heads : x ≡ y = cc in
    let tails : xs ++ byte ∷ r ≡ ys ++ byte ∷ s = cc in
    let rest = cut_once byte xs ys r s a.1 b.1 tails in
    ((λ i. heads i ∷ rest.0 i), rest.1)

-- a text without the byte isn't cut
pub no_cut : (byte : ℕ) (text f r : List ℕ) → Without byte text → text ≡ f ++ byte ∷ r → ⊥
no_cut byte [] [] r all is = cc
no_cut byte [] (y ∷ ys) r all is = cc
no_cut byte (x ∷ xs) [] r all is = let same : x ≡ byte = cc in all.0 same
no_cut byte (x ∷ xs) (y ∷ ys) r all is = let tails : xs ≡ ys ++ byte ∷ r = cc in no_cut byte xs ys r all.1 tails

pub split_at_byte : (text : List ℕ) (i byte : ℕ) → i < length text → get_or text i 0 ≡ byte → text ≡ take i text ++ byte ∷ drop (i + 1) text
split_at_byte text i byte less is = sym (take-append-drop i text) ∙ ap (λ l. take i text ++ l) (drop_more text i 0 less ∙ (λ j. is j ∷ drop (i + 1) text))

-- the front up to the first digit is one
pub front_once : (f g r : List ℕ) (c : ℕ) (s : List ℕ) → HasNoDigit f → HasNoDigit g → BeginsWithDigit r → IsDigit c → f ++ r ≡ g ++ (c ∷ s) → (f ≡ g) × (r ≡ c ∷ s)
front_once [] [] r c s a b begins digit is = (refl, is)
front_once [] (y ∷ ys) [] c s a b begins digit is = cc
front_once [] (y ∷ ys) (z ∷ zs) c s a b begins digit is = let same : z ≡ y = cc in absurd (b.0 (subst IsDigit same begins))
front_once (x ∷ xs) [] r c s a b begins digit is = let same : c ≡ x = cc in absurd (a.0 (subst IsDigit same digit))
front_once (x ∷ xs) (y ∷ ys) r c s a b begins digit is =
    let heads : x ≡ y = cc in
    let tails : xs ++ r ≡ ys ++ (c ∷ s) = cc in
    let rest = front_once xs ys r c s a.1 b.1 begins digit tails in
    ((λ i. heads i ∷ rest.0 i), rest.1)

pub no_digit_push : (xs : List ℕ) (x : ℕ) → HasNoDigit xs → (IsDigit x → ⊥) → HasNoDigit (xs ++ x ∷ [])
no_digit_push [] x all other = (other, tt)
no_digit_push (y ∷ ys) x all other = (all.0, no_digit_push ys x all.1 other)

-- texts that end with one byte alike are alike before it
pub space_off : (f g : List ℕ) → f ++ 32 ∷ [] ≡ g ++ 32 ∷ [] → f ≡ g
space_off [] [] is = refl
space_off [] (y ∷ []) is = cc
space_off [] (y ∷ z ∷ ys) is = cc
space_off (x ∷ []) [] is = cc
space_off (x ∷ z ∷ xs) [] is = cc
space_off (x ∷ xs) (y ∷ ys) is =
    let heads : x ≡ y = cc in
    let tails : xs ++ 32 ∷ [] ≡ ys ++ 32 ∷ [] = cc in
    let rest = space_off xs ys tails in (λ i. heads i ∷ rest i)

pub without_append : (byte : ℕ) (xs ys : List ℕ) → Without byte xs → Without byte ys → Without byte (xs ++ ys)
without_append byte [] ys a b = b
without_append byte (x ∷ xs) ys a b = (a.0, without_append byte xs ys a.1 b)

-- ---- tests of words, which compute

-- whether the byte isn't in the text
abbrev pub lacks : (byte : ℕ) (text : List ℕ) → Bool
lacks byte [] = true
lacks byte (x ∷ xs) = not (eqb x byte) && lacks byte xs

apart : (x byte : ℕ) (b : Bool) → (not (eqb x byte) && b) ≡ true → (x ≢ byte) × (b ≡ true)
apart x byte true is = (λ same. grind (arith, nat_tests), refl)
apart x byte false is = grind (arith, nat_tests)

pub from_lacks : (byte : ℕ) (xs : List ℕ) → lacks byte xs ≡ true → Without byte xs
from_lacks byte [] is = tt
from_lacks byte (x ∷ xs) is = let both = apart x byte (lacks byte xs) is in (both.0, from_lacks byte xs both.1)

-- whether no byte of the text is a digit
abbrev pub lacks_digits : (text : List ℕ) → Bool
lacks_digits [] = true
lacks_digits (x ∷ xs) = not (leb 48 x && leb x 57) && lacks_digits xs

no_digit : (x : ℕ) (b : Bool) → (not (leb 48 x && leb x 57) && b) ≡ true → ((48 ≤ x) × (x ≤ 57) → ⊥) × (b ≡ true)
no_digit x true is = (λ digit. grind (arith, nat_tests, digit.0, digit.1), refl)
no_digit x false is = grind (arith, nat_tests)

pub from_lacks_digits : (xs : List ℕ) → lacks_digits xs ≡ true → HasNoDigit xs
from_lacks_digits [] is = tt
from_lacks_digits (x ∷ xs) is = let both = no_digit x (lacks_digits xs) is in (both.0, from_lacks_digits xs both.1)
