-- What a pass with all stakes learns where a queue held so many numbers.
use Rattle.std.proofs.Common.{◌≡◌, ℕ, ◌^◌, List, [], ◌∷◌, length, sum_by, refl, arith}
use Rattle.wbt_queue.specs.declared.known.Known.{Known}
use Rattle.wbt_queue.specs.Passes.{Held, LeavesJust, AreAllTaken}

pub whole_leaves : (count : ℕ) (known : Known) → Held count known → known.stakes ≡ 2 ^ 32 → LeavesJust count known
whole_leaves count known held all = (held.0, held.1, held.2.whole all)

none_weighs : (weight : ℕ → ℕ) (numbers : List ℕ) → length numbers ≡ 0 → sum_by weight numbers ≡ 0
none_weighs weight [] none = refl
none_weighs weight (x ∷ xs) none = absurd (omega arith)

pub whole_taken : (known : Known) → Held 0 known → known.stakes ≡ 2 ^ 32 → AreAllTaken known
whole_taken known held all weight =
    let left = held.2.whole all weight in
    let none = none_weighs weight held.0 held.1 in
    omega arith
