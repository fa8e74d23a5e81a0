-- The timer's entries: the limits of each domain at the opening, and how each later line follows the domain's one before.
use Rattle.std.specs.Prelude.{◌≡◌, ℕ, zero, suc, ◌+◌, ◌-◌, ◌/◌, ◌≤◌, Bool, true, false, ◌&&◌, ◌==◌, nat_le, nat_lt, if◌then◌else◌, Option, Some, None, List, [], ◌∷◌, ◌++◌, length, slice_get, set}
use Rattle.wbt_limits.specs.declared.domain.Pair.{Pair}
use Rattle.wbt_num.specs.declared.limits.Limits.{Limits}
use Rattle.wbt_rules.specs.declared.moments.TheConstants.{TIMER_REST}
use Rattle.wbt_trace.specs.declared.trace.Cgroup.{Cgroup}
use Rattle.wbt_trace.specs.declared.trace.Trace.{Trace}
use Rattle.wbt_journal.specs.declared.timer.TimerEntry.{TimerEntry}
use Rattle.wbt_journal.specs.declared.timer.TimerEntry.TheVariants as timer
use Rattle.wbt_journal.specs.Machine.{domains}
use Rattle.wbt_rules.specs.Thresholds.{global_at, cgroup_with}
use Rattle.wbt_journal.specs.Walk.{unless}

-- ---- thresholds that a line may have

-- in the global domain those of the available pages; in a cgroup's between those of its file pages alone and with all its headroom
pub record AreThresholds (low high : ℕ) (bg : ℕ) (limits : Limits) : Type 0 where
  pub at_least : low ≤ limits.thresh
  pub at_most : limits.thresh ≤ high
  pub background : limits.bg ≤ bg

-- decides whether a threshold is between two others and the background threshold no greater than its own bound
abbrev pub are_thresholds : (low high : ℕ) (bg : ℕ) (limits : Limits) → Bool
are_thresholds low high bg limits = nat_le low limits.thresh && (nat_le limits.thresh high && nat_le limits.bg bg)

-- the threshold and the background threshold of the global domain
pub record IsGlobal (pair : Pair) (limits : Limits) : Type 0 where
  pub thresh : limits.thresh ≡ pair.thresh
  pub background : limits.bg ≡ pair.bg

-- decides whether limits have the global thresholds
abbrev pub is_global : (pair : Pair) (limits : Limits) → Bool
is_global pair limits = limits.thresh == pair.thresh && limits.bg == pair.bg

-- a cgroup's thresholds are in the range that its file pages and its headroom allow
abbrev pub IsCgroup : (trace : Trace) (now : ℕ) (which : Option Cgroup) (limits : Limits) → Type 0
IsCgroup trace now None limits = ⊥
IsCgroup trace now (Some cgroup) limits =
    AreThresholds (cgroup_with trace now cgroup.filepages).thresh (cgroup_with trace now (cgroup.filepages + cgroup.headroom)).thresh limits.thresh limits

-- decides whether limits have thresholds that a cgroup may have
abbrev pub is_cgroup : (trace : Trace) (now : ℕ) (which : Option Cgroup) (limits : Limits) → Bool
is_cgroup trace now None limits = false
is_cgroup trace now (Some cgroup) limits =
    are_thresholds (cgroup_with trace now cgroup.filepages).thresh (cgroup_with trace now (cgroup.filepages + cgroup.headroom)).thresh limits.thresh limits

-- of the domain of a number
abbrev pub HasThresholds : (trace : Trace) (now domain : ℕ) (limits : Limits) → Type 0
HasThresholds trace now zero limits = IsGlobal (global_at trace now) limits
HasThresholds trace now (suc cgroup) limits = IsCgroup trace now (slice_get trace.cgroups cgroup) limits

-- decides whether limits have thresholds that their domain may have at a moment
abbrev pub has_thresholds : (trace : Trace) (now domain : ℕ) (limits : Limits) → Bool
has_thresholds trace now zero limits = is_global (global_at trace now) limits
has_thresholds trace now (suc cgroup) limits = is_cgroup trace now (slice_get trace.cgroups cgroup) limits

-- ---- how a hard limit follows

-- one that was below the threshold is the threshold; any other falls by at most a 32nd of what it was above
abbrev pub HardBy : (at_least : Bool) (before thresh hard : ℕ) → Type 0
HardBy true before thresh hard = (hard ≤ before) × (before ≤ hard + (before - thresh) / 32)
HardBy false before thresh hard = hard ≡ thresh

-- a hard limit follows the domain's hard limit of the line before
abbrev pub HardFollows : (before : ℕ) (limits : Limits) → Type 0
HardFollows before limits = HardBy (nat_le limits.thresh before) before limits.thresh limits.hard

-- decides whether a hard limit follows, by whether the one before was at least the threshold
abbrev pub hard_by : (at_least : Bool) (before thresh hard : ℕ) → Bool
hard_by true before thresh hard = nat_le hard before && nat_le before (hard + (before - thresh) / 32)
hard_by false before thresh hard = hard == thresh

-- decides whether a hard limit follows the domain's hard limit of the line before
abbrev pub hard_follows : (before : ℕ) (limits : Limits) → Bool
hard_follows before limits = hard_by (nat_le limits.thresh before) before limits.thresh limits.hard

-- ---- line by line

-- the last line of a domain: its moment and its hard limit
pub record LastLine : Type 0 where
  pub now : ℕ
  pub hard : ℕ

-- the last lines of the domains that have one, by number; while the opening goes on there are fewer than domains
pub record Opens (trace : Trace) (opened : ℕ) (lines : List LastLine) (domain now : ℕ) (limits : Limits) : Type 0 where
  pub next : domain ≡ length lines
  pub at_once : now ≡ opened
  pub thresholds : HasThresholds trace now domain limits
  pub hard : limits.hard ≡ limits.thresh

-- decides whether a line is that of the opening of the next domain
abbrev pub opens : (trace : Trace) (opened : ℕ) (lines : List LastLine) (domain now : ℕ) (limits : Limits) → Bool
opens trace opened lines domain now limits =
    domain == length lines && (now == opened && (has_thresholds trace now domain limits && limits.hard == limits.thresh))

-- a line of a domain that there is, `TIMER_REST` ticks or more after the one before
abbrev pub LineFollows : (trace : Trace) (before : Option LastLine) (domain now : ℕ) (limits : Limits) → Type 0
LineFollows trace None domain now limits = ⊥
LineFollows trace (Some before) domain now limits =
    (before.now + TIMER_REST ≤ now) × (HasThresholds trace now domain limits) × HardFollows before.hard limits

-- decides whether a line may follow the domain's line before
abbrev pub line_follows : (trace : Trace) (before : Option LastLine) (domain now : ℕ) (limits : Limits) → Bool
line_follows trace None domain now limits = false
line_follows trace (Some before) domain now limits =
    nat_le (before.now + TIMER_REST) now && (has_thresholds trace now domain limits && hard_follows before.hard limits)

-- while the opening goes on, the next line is that of the next domain
abbrev pub LimitsBy : (is_opening : Bool) (trace : Trace) (opened : ℕ) (lines : List LastLine) (domain now : ℕ)
    (limits : Limits) → Type 0
LimitsBy true trace opened lines domain now limits = Opens trace opened lines domain now limits
LimitsBy false trace opened lines domain now limits = LineFollows trace (slice_get lines domain) domain now limits

-- decides whether a line of limits may come
abbrev pub limits_by : (is_opening : Bool) (trace : Trace) (opened : ℕ) (lines : List LastLine) (domain now : ℕ)
    (limits : Limits) → Bool
limits_by true trace opened lines domain now limits = opens trace opened lines domain now limits
limits_by false trace opened lines domain now limits = line_follows trace (slice_get lines domain) domain now limits

-- whether a domain still lacks its line of the opening
abbrev pub is_opening : (trace : Trace) (lines : List LastLine) → Bool
is_opening trace lines = nat_lt (length lines) (domains trace)

-- no period begins before every domain has its limits
pub record MayBegin (trace : Trace) (lines : List LastLine) (domain : ℕ) : Type 0 where
  pub opened : is_opening trace lines ≡ false
  pub named : nat_lt domain (domains trace) ≡ true

-- an entry of the timer may come after the lines so far
abbrev pub TimerGoesOn : (trace : Trace) (opened : ℕ) (lines : List LastLine) (entry : TimerEntry) → Type 0
TimerGoesOn trace opened lines (timer.Limits domain now limits) = LimitsBy (is_opening trace lines) trace opened lines domain now limits
TimerGoesOn trace opened lines (timer.Period domain k) = MayBegin trace lines domain

-- the last lines with one of a domain: in the place of the one before, or added as the next domain's
abbrev pub put_line : (domain : ℕ) (line : LastLine) (lines : List LastLine) → List LastLine
put_line domain line lines = if nat_lt domain (length lines) then set lines domain line else lines ++ line ∷ []

-- the last lines of the domains after an entry; a period leaves them
abbrev pub lines_after : (lines : List LastLine) (entry : TimerEntry) → List LastLine
lines_after lines (timer.Limits domain now limits) = put_line domain (record { now = now; hard = limits.hard }) lines
lines_after lines (timer.Period domain k) = lines

-- the fault of a timer's entry that may not come
abbrev pub timer_fault : (trace : Trace) (opened : ℕ) (lines : List LastLine) (entry : TimerEntry) → Option ℕ
timer_fault trace opened lines (timer.Limits domain now limits) = unless (limits_by (is_opening trace lines) trace opened lines domain now limits) 0
timer_fault trace opened lines (timer.Period domain k) =
    unless (if is_opening trace lines then false else nat_lt domain (domains trace)) 0

-- each entry of the timer has one line
abbrev pub one_line : (entry : TimerEntry) → ℕ
one_line entry = 1
