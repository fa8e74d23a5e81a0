-- What the CPUs' records tell of a counter: its versions, its sums, and each CPU's own number.
use Rattle.std.specs.Prelude.{◌≡◌, ℕ, length, ℤ, unsigned_abs}
use Rattle.wbt_counter.specs.declared.record.Debt.TheVariants.{Event}
use Rattle.wbt_counter.specs.Sums.{total}
use Rattle.wbt_counter.specs.History.{History, sum_at, folds_by, AreFolds}
use Rattle.wbt_counter.specs.Account.{Account, IsCounter}
use Rattle.wbt_counter.specs.Recorded.{recorded_sum, own_told}

-- all CPUs' folds are as many as the history
abbrev pub FoldsAreAll : Type 0
FoldsAreAll = (batch cpus : ℕ) (folds : History) → AreFolds batch cpus folds
    → total cpus (λ i. length (folds_by i folds)) ≡ length folds

-- the sum at a version is that of all recorded folds up to it
abbrev pub SumsAreRecorded : Type 0
SumsAreRecorded = (batch cpus : ℕ) (folds : History) → AreFolds batch cpus folds → (v : ℕ)
    → sum_at v folds ≡ recorded_sum cpus v (λ i. folds_by i folds)

-- a CPU's own number is the one that its account tells
abbrev pub OwnIsTold : Type 0
OwnIsTold = (batch cpus exact : ℕ) (folds : History) (own : ℕ → ℤ) (accounts : ℕ → Account)
    → IsCounter batch cpus exact folds own accounts → (i : ℕ) → own i ≡ own_told (accounts i)

-- an event that is owed is of one page
abbrev pub EventsAreUnits : Type 0
EventsAreUnits = (batch cpus exact : ℕ) (folds : History) (own : ℕ → ℤ) (accounts : ℕ → Account)
    → IsCounter batch cpus exact folds own accounts
    → (i : ℕ) (a : ℤ) → (accounts i).owes ≡ Event a → unsigned_abs a ≡ 1
