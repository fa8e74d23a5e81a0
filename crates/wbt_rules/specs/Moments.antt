-- Which periods of the proportions have come by a moment. All are in ticks.
use Rattle.std.specs.Prelude.{ℕ, ◌+◌, ◌-◌, ◌*◌, ◌/◌, nat_lt, if◌then◌else◌}
use Rattle.wbt_rules.specs.declared.moments.TheConstants.{PERIOD_TICKS}

-- how many have come by a moment, of which the first comes at `period`
abbrev pub periods_by : (now period : ℕ) → ℕ
periods_by now period = if nat_lt now period then 0 else (now - period) / PERIOD_TICKS + 1

-- the moment of the first that comes after it
abbrev pub next_period : (now period : ℕ) → ℕ
next_period now period = period + PERIOD_TICKS * periods_by now period
