use Rattle.std.proofs.Common.{◌≡◌, ◌*◌, ◌^◌, ◌≤◌, unsigned_abs}
use Rattle.wbt_counter.specs.Account.{amount, to_clear}
use Rattle.wbt_counter.specs.Addends.{local_in}
use Rattle.wbt_counter.specs.Sums.{total_ℤ}
use Rattle.wbt_table.specs.Layout.{own_at}
use Rattle.wbt_table.specs.Census.{word_at, debt_at}
use Rattle.caller_of_throttle.proofs.count.exact.Given as goal

abbrev pub invariant-loop-cpu : goal.invariant-loop-cpu
invariant-loop-cpu l = (l.local ≡ total_ℤ l.cpu (λ i. local_in (word_at l.census (own_at l.census.layout l.counter i))))
    × (l.events ≡ total_ℤ l.cpu (λ i. amount (debt_at l.census i l.counter)))
    × (l.clears ≡ total_ℤ l.cpu (λ i. to_clear (debt_at l.census i l.counter)))
    × (unsigned_abs l.local ≤ l.cpu * 2 ^ 63) × (unsigned_abs l.events ≤ l.cpu * 2 ^ 63) × (unsigned_abs l.clears ≤ l.cpu * 2 ^ 63)
