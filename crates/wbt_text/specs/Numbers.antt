-- Numbers in a text: in base ten, with no zero in front, and one space between two of them.
use Rattle.std.specs.Prelude.{◌≡◌, ℕ, ◌^◌, ◌<◌, List, [], ◌∷◌, ◌++◌}
use Rattle.std.specs.Fmt.{decimal}
use Rattle.wbt_text.specs.declared.digits.TheConstants.{MOST_DIGITS}

-- The number has at most 18 digits, so that it fits a u64 whatever its digits are.
abbrev pub IsShort : (n : ℕ) → Type 0
IsShort n = n < 10 ^ MOST_DIGITS

-- The text is that of the number.
abbrev pub IsNumber : (text : List ℕ) (n : ℕ) → Type 0
IsNumber text n = IsShort n × (text ≡ decimal n)

-- Each number is short.
abbrev pub AllShort : (ns : List ℕ) → Type 0
AllShort [] = Unit {0}
AllShort (n ∷ ns) = IsShort n × AllShort ns

-- the text of a number and those after it
abbrev pub spaced : (n : ℕ) (ns : List ℕ) → List ℕ
spaced n [] = decimal n
spaced n (m ∷ ms) = decimal n ++ 32 ∷ spaced m ms

-- the text of numbers
abbrev pub numbers_text : (ns : List ℕ) → List ℕ
numbers_text [] = []
numbers_text (n ∷ ns) = spaced n ns

-- The text is that of these numbers, one at least.
abbrev pub AreNumbers : (text ns : List ℕ) → Type 0
AreNumbers text [] = ⊥
AreNumbers text (n ∷ ns) = AllShort (n ∷ ns) × (text ≡ spaced n ns)
