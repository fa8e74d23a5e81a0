-- The timer between its turns.
use Rattle.std.specs.Prelude.{◌≡◌, ℕ, zero, suc, [], ◌∷◌, ◌++◌, ◌+◌, ◌*◌, ◌^◌, ◌<◌, ◌≤◌, All, List, length, map, get_or}
use Rattle.wbt_num.specs.declared.limits.TheConstants.{MAX_LIMIT}
use Rattle.wbt_trace.specs.declared.trace.Trace.{Trace}
use Rattle.wbt_fraction.specs.Several.{no_seat, Seats as ShareSeats}
use Rattle.wbt_grant.specs.declared.record.TimerRecord.{TimerRecord}
use Rattle.wbt_journal.specs.Machine.{domains}
use Rattle.wbt_journal.specs.Timer.{LastLine}
use Rattle.wbt_rules.specs.declared.moments.TheConstants.{TIMER_REST, PERIOD_TICKS}
use Rattle.wbt_rules.specs.Thresholds.{DomainFits, first_limits}
use Rattle.wbt_run_laws.specs.Ticks.{Ticked}
use Rattle.wbt_timer.specs.declared.side.DomainSide.{DomainSide}

-- the timer as contracts see it: what it has of its trace, the moment of its last turn, that of the next periods, and what it keeps
-- of each domain
pub record Side : Type 0 where
  pub machine : Trace
  pub last : ℕ
  pub period : ℕ
  pub domains : List DomainSide

-- the settings, available pages and cgroups are the trace's
pub record IsTimerOf (trace : Trace) (side : Side) : Type 0 where
  pub settings : side.machine.settings ≡ trace.settings
  pub avail : side.machine.avail ≡ trace.avail
  pub cgroups : side.machine.cgroups ≡ trace.cgroups

-- the moment of the next turn
abbrev pub next_of : (side : Side) → ℕ
next_of side = side.last + TIMER_REST

-- numbers in range
pub record IsSide (side : Side) : Type 0 where
  pub fits : (domain : ℕ) → domain < domains side.machine → DomainFits side.machine domain
  pub many : length side.domains ≡ domains side.machine
  pub few : length side.domains < 2 ^ 31
  pub last_in_range : side.last < 2 ^ 62
  pub period_near : side.period ≤ side.last + PERIOD_TICKS
  pub hards : All (λ (s : DomainSide). s.hard ≤ MAX_LIMIT) side.domains
  pub published : All (λ (s : DomainSide). s.at ≤ side.last) side.domains
  pub owed : All (λ (s : DomainSide). PERIOD_TICKS * s.owed ≤ side.period) side.domains

-- ---- at the opening

-- what the timer keeps of a domain at the opening: its first hard limit, and that no period is owed
abbrev pub first_side : (trace : Trace) (now domain : ℕ) → DomainSide
first_side trace now domain = record { hard = (first_limits trace now domain).hard; at = now; owed = 0 }

-- those of so many domains
abbrev pub first_sides : (trace : Trace) (now count : ℕ) → List DomainSide
first_sides trace now zero = []
first_sides trace now (suc n) = first_sides trace now n ++ first_side trace now n ∷ []

-- nothing is owed, and the first periods begin when their time has come
pub record IsFirstSide (trace : Trace) (now : ℕ) (side : Side) : Type 0 where
  pub last : side.last ≡ now
  pub period : side.period ≡ now + PERIOD_TICKS
  pub domains_are : side.domains ≡ first_sides trace now (domains trace)

-- ---- what is known of the timer between two turns

-- its last line of a domain
abbrev pub line_of : (s : DomainSide) → LastLine
line_of s = record { now = s.at; hard = s.hard }

-- its last lines of all domains
abbrev pub lines_of : (side : Side) → List LastLine
lines_of side = map line_of side.domains

-- with its record, and with what its seat noted of shares
abbrev pub ticked : (r : TimerRecord) (side : Side) (share : ShareSeats) → Ticked
ticked r side share = record { held = r; lines = lines_of side; shares = λ domain. (get_or share.domains domain no_seat).notes }
