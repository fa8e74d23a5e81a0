-- Texts and the bytes that they lack.
use Rattle.std.specs.Prelude.{◌≢◌, ℕ, ◌≤◌, List, [], ◌∷◌}

-- The byte isn't in the text.
abbrev pub Without : (byte : ℕ) (text : List ℕ) → Type 0
Without byte [] = Unit {0}
Without byte (x ∷ xs) = (x ≢ byte) × Without byte xs

-- '0' to '9'
abbrev pub IsDigit : (byte : ℕ) → Type 0
IsDigit byte = (48 ≤ byte) × (byte ≤ 57)

-- No byte of the text is a digit.
abbrev pub HasNoDigit : (text : List ℕ) → Type 0
HasNoDigit [] = Unit {0}
HasNoDigit (x ∷ xs) = ¬ (IsDigit x) × HasNoDigit xs

-- The text is empty, or begins with a digit.
abbrev pub BeginsWithDigit : (text : List ℕ) → Type 0
BeginsWithDigit [] = Unit {0}
BeginsWithDigit (x ∷ xs) = IsDigit x
