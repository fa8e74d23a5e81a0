-- When a task rests between its pages.
use Rattle.std.specs.Prelude.{◌≡◌, ℕ, zero, suc, ◌+◌, ◌%◌, ◌<◌, ◌≤◌, ◌⊎◌, nat_le, if◌then◌else◌, get_or, Option, None, Some}
use Rattle.wbt_trace.specs.declared.trace.Pace.{Pace}
use Rattle.wbt_trace.specs.declared.trace.Trace.{Trace}

-- when the task rests between its pages, where its line says it
abbrev pub pace_of : (trace : Trace) (task : ℕ) → Option Pace
pace_of trace task = (get_or trace.tasks task (record { cpu = 0; pace = None })).pace

-- for how many ticks it rests right before its next page, that has written so many since it began or rested so
abbrev pub pause_of : (pace : Option Pace) (since : ℕ) → Option ℕ
pause_of None since = None
pause_of (Some pace) since = if nat_le pace.pages since then Some pace.ticks else None

-- how many pages these are after one more
abbrev pub since_after : (pace : Option Pace) (since : ℕ) → ℕ
since_after None since = 0
since_after (Some pace) since = since + 1

-- how many these are once the task has rested, where that is due
abbrev pub since_rest : (pause : Option ℕ) (since : ℕ) → ℕ
since_rest None since = since
since_rest (Some ticks) since = 0

-- how many these are right before it looks whether a rest is due, for a task that has written so many pages in all
unfoldable pub since_at : (pace : Option Pace) (written : ℕ) → ℕ
since_at pace zero = 0
since_at pace (suc written) = since_after pace (since_rest (pause_of pace (since_at pace written)) (since_at pace written))

-- a task rests for its pace right before each page whose number, from 0, is a multiple of the pace's pages above 0, and before no other
abbrev pub RestsAtMultiples : Type 0
RestsAtMultiples = (pace : Pace) (page : ℕ) → 1 ≤ pace.pages
    → ((0 < page) × (page % pace.pages ≡ 0) × (pause_of (Some pace) (since_at (Some pace) page) ≡ Some pace.ticks))
    ⊎ (((page ≡ 0) ⊎ (0 < page % pace.pages)) × (pause_of (Some pace) (since_at (Some pace) page) ≡ None))
