-- The number that additions make where everything is halved at once in each new period.
use Rattle.std.specs.Prelude.{ℕ, zero, suc, ◌+◌, ◌-◌, List, [], ◌∷◌}
use Rattle.wbt_flex.specs.Eager.{halved}

-- events that were added, beside the period at which they were added
abbrev pub Stamped : Type 0
Stamped = ℕ × ℕ

-- the number at a period, from the additions, the newest first
unfoldable pub number : (start : ℕ) (added : List Stamped) (period : ℕ) → ℕ
number start [] period = halved period start
number start (add ∷ older) period = halved (period - add.0) (number start older add.0 + add.1)

-- the period of the newest addition
unfoldable pub latest : (added : List Stamped) → ℕ
latest [] = 0
latest (add ∷ older) = add.0

-- a domain begins with one event, so that nothing is divided by 0; its parts begin with none. Place 0 is the domain's
unfoldable pub start_of : (at : ℕ) → ℕ
start_of zero = 1
start_of (suc part) = 0
