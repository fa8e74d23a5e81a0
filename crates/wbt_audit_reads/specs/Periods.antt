-- The periods that each domain has had.
use Rattle.std.specs.Prelude.{◌≡◌, ℕ, ◌+◌, ◌-◌, ◌<◌, ◌≤◌, Option, Some, None, List, length, get_or}
use Rattle.wbt_journal.specs.Reads.{periods_from}
use Rattle.wbt_journal.specs.declared.timer.TimerEntry.{TimerEntry}
use Rattle.wbt_journal.specs.declared.timer.TimerEntry.TheVariants as timer
use Rattle.wbt_audit_walk.specs.Places.{below}
use Rattle.wbt_audit_walk.specs.Rows.{row_of, push_cell}
use Rattle.wbt_audit_walk.specs.declared.places.Places.{Places}

-- no period is before an earlier one of the list
abbrev pub IsRising : (periods : List ℕ) → Type 0
IsRising periods = (i j : ℕ) → i ≤ j → j < length periods → get_or periods i 0 ≤ get_or periods j 0

-- the last of these periods, 0 where there is none
abbrev pub last_in : (periods : List ℕ) → ℕ
last_in periods = get_or periods (length periods - 1) 0

-- by domain there are the periods that it has had by these entries
abbrev pub ArePeriods : (places : Places) (entries : List TimerEntry) (periods : List (List ℕ)) → Type 0
ArePeriods places entries periods = (domain p : ℕ) → below places.domains domain ≡ Some p → row_of periods p ≡ periods_from domain 0 entries

-- so many periods more at a domain's place
abbrev pub period_more_at : (place : Option ℕ) (k : ℕ) (periods : List (List ℕ)) → List (List ℕ)
period_more_at None k periods = periods
period_more_at (Some place) k periods = push_cell periods place (last_in (row_of periods place) + k)

-- the periods after an entry of the timer
abbrev pub one_period_more : (places : Places) (entry : TimerEntry) (periods : List (List ℕ)) → List (List ℕ)
one_period_more places (timer.Limits domain now limits) periods = periods
one_period_more places (timer.Period domain k) periods = period_more_at (below places.domains domain) k periods
