-- What the CPUs' records tell of a counter, without its history.
use Rattle.std.specs.Prelude.{ℕ, cond, nat_le, List, [], ◌∷◌, ℤ, pos, ◌+ℤ◌, ◌-ℤ◌}
use Rattle.wbt_counter.specs.Sums.{total_ℤ}
use Rattle.wbt_counter.specs.Account.{Account, amount, to_clear}

-- the sum of a CPU's folds, and of those up to the version v
abbrev pub sum_made : (made : List (ℕ × ℤ)) → ℤ
sum_made [] = pos 0
sum_made (fold ∷ older) = fold.1 +ℤ sum_made older

-- the sum of a CPU's folds that made a version up to v
abbrev pub sum_up_to : (v : ℕ) (made : List (ℕ × ℤ)) → ℤ
sum_up_to v [] = pos 0
sum_up_to v (fold ∷ older) = cond (nat_le fold.0 v) fold.1 (pos 0) +ℤ sum_up_to v older

-- the sum of all CPUs' folds up to the version v
abbrev pub recorded_sum : (cpus v : ℕ) (made : ℕ → List (ℕ × ℤ)) → ℤ
recorded_sum cpus v made = total_ℤ cpus (λ i. sum_up_to v (made i))

-- the own number that an account tells: what its events add, less its folds and an event that is owed, and with a number that is
-- folded and not cleared
abbrev pub own_told : (account : Account) → ℤ
own_told account = ((account.net -ℤ sum_made account.folds) -ℤ amount account.owes) +ℤ to_clear account.owes
