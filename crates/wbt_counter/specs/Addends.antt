-- What atomic operations add to words and take from them, modulo 2^64.
use Rattle.std.specs.Prelude.{ℕ, ◌+◌, ◌-◌, ◌%◌, ◌^◌, ℤ, pos, negsuc, neg_ℤ, ◌+ℤ◌, ◌-ℤ◌, ◌≤ℤ◌, ◌<ℤ◌}

-- a CPU's own number has room in its word
pub record HasRoom (local : ℤ) : Type 0 where
  pub not_too_low : neg_ℤ (pos (2 ^ 32)) ≤ℤ local
  pub not_too_high : local <ℤ pos (2 ^ 32)

-- the number that an own word holds
abbrev pub local_in : (word : ℕ) → ℤ
local_in word = pos word -ℤ pos (2 ^ 32)

-- a change as a word: one below zero is what wraps to it
abbrev pub addend_of : (change : ℤ) → ℕ
addend_of (pos n) = n
addend_of (negsuc n) = 2 ^ 64 - 1 - n

-- what a fold adds to the shared word: one version, and its pages
abbrev pub fold_addend : (delta : ℤ) → ℕ
fold_addend delta = addend_of (pos (2 ^ 24) +ℤ delta)

-- a word after an addition, and after a subtraction
abbrev pub word_plus : (word addend : ℕ) → ℕ
word_plus word addend = (word + addend) % 2 ^ 64

-- a word after a subtraction, which wraps below zero
abbrev pub word_minus : (word taken : ℕ) → ℕ
word_minus word taken = (word + (2 ^ 64 - taken)) % 2 ^ 64
