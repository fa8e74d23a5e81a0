-- The laws of words: what additions make of them, their ranges, and that they tell their numbers.
use Rattle.std.specs.Prelude.{◌≡◌, ℕ, suc, ◌^◌, ◌<◌, ◌≤◌, ◌∷◌, length, ℤ, pos, ◌+ℤ◌, ◌-ℤ◌, unsigned_abs}
use Rattle.wbt_counter.specs.Word.{IsPackable, packed, own_word}
use Rattle.wbt_counter.specs.Addends.{HasRoom, local_in, addend_of, fold_addend, word_plus, word_minus}
use Rattle.wbt_counter.specs.History.{History, sum_of}
use Rattle.wbt_counter.specs.Account.{Account, IsCounter}

-- one addition to the shared word makes the next version with the next sum
abbrev pub FoldAdds : Type 0
FoldAdds = (version : ℕ) (sum delta : ℤ) → suc version < 2 ^ 40 → IsPackable sum → IsPackable (sum +ℤ delta)
    → word_plus (packed version sum) (fold_addend delta) ≡ packed (suc version) (sum +ℤ delta)

-- so the word of a history becomes that of the history with one fold more
abbrev pub FoldFollows : Type 0
FoldFollows = (folds : History) (i : ℕ) (delta : ℤ) → length ((i, delta) ∷ folds) < 2 ^ 40
    → IsPackable (sum_of folds) → IsPackable (sum_of ((i, delta) ∷ folds))
    → word_plus (packed (length folds) (sum_of folds)) (fold_addend delta)
    ≡ packed (length ((i, delta) ∷ folds)) (sum_of ((i, delta) ∷ folds))

-- an addition to an own word makes the word of the sum, whichever sign the change has
abbrev pub OwnAdds : Type 0
OwnAdds = (local change : ℤ) → HasRoom local → HasRoom (local +ℤ change)
    → word_plus (own_word local) (addend_of change) ≡ own_word (local +ℤ change)

-- a subtraction takes a number from it
abbrev pub OwnTakes : Type 0
OwnTakes = (local taken : ℤ) → HasRoom local → HasRoom (local -ℤ taken)
    → word_minus (own_word local) (addend_of taken) ≡ own_word (local -ℤ taken)

-- taken as a whole, nothing is left
abbrev pub OwnEmpties : Type 0
OwnEmpties = (local : ℤ) → HasRoom local → word_minus (own_word local) (addend_of local) ≡ own_word (pos 0)

-- the ranges of words
abbrev pub SharedWordFits : Type 0
SharedWordFits = (version : ℕ) (count : ℤ) → version < 2 ^ 40 → IsPackable count → packed version count < 2 ^ 64

-- an own word has 33 bits at most
abbrev pub OwnWordFits : Type 0
OwnWordFits = (local : ℤ) → HasRoom local → own_word local < 2 ^ 33

-- words tell their numbers one to one
abbrev pub SharedWordTells : Type 0
SharedWordTells = (version version' : ℕ) (count count' : ℤ) → IsPackable count → IsPackable count'
    → packed version count ≡ packed version' count' → (version ≡ version') × (count ≡ count')

-- an own word holds the number that was put into it
abbrev pub OwnWordHolds : Type 0
OwnWordHolds = (local : ℤ) → HasRoom local → local_in (own_word local) ≡ local

-- two own words that are the same hold the same number
abbrev pub OwnWordTells : Type 0
OwnWordTells = (local local' : ℤ) → HasRoom local → HasRoom local' → own_word local ≡ own_word local' → local ≡ local'

-- a CPU's own number is never above the batch, whatever is owed
abbrev pub OwnIsNear : Type 0
OwnIsNear = (batch cpus exact : ℕ) (folds : History) (own : ℕ → ℤ) (accounts : ℕ → Account)
    → IsCounter batch cpus exact folds own accounts → (i : ℕ) → unsigned_abs (own i) ≤ batch

-- and has room then
abbrev pub NearHasRoom : Type 0
NearHasRoom = (batch : ℕ) (local : ℤ) → batch < 2 ^ 32 → unsigned_abs local ≤ batch → HasRoom local
