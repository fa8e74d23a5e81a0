-- The thresholds of a domain at a moment, and its limits under them.
use Rattle.std.specs.Prelude.{ℕ, zero, suc, ◌^◌, ◌<◌, ◌≤◌, nat_le, if◌then◌else◌, Some, None, List, [], ◌∷◌, length, get_or}
use Rattle.wbt_num.specs.declared.limits.Limits.{Limits}
use Rattle.wbt_limits.specs.Cgroup.{available_to_cgroup}
use Rattle.wbt_limits.specs.Thresholds.{thresholds_of, followed_limit, limits_under}
use Rattle.wbt_limits.specs.declared.domain.Pair.{Pair}
use Rattle.wbt_trace.specs.declared.trace.Avail.{Avail}
use Rattle.wbt_trace.specs.declared.trace.Cgroup.{Cgroup}
use Rattle.wbt_trace.specs.declared.trace.Trace.{Trace}

-- the available pages of the last line that isn't after a moment
abbrev pub avail_among : (now before : ℕ) (avails : List Avail) → ℕ
avail_among now before [] = before
avail_among now before (line ∷ more) = if nat_le line.from now then avail_among now line.pages more else avail_among now before more

-- how many pages are available at a moment
abbrev pub avail_at : (trace : Trace) (now : ℕ) → ℕ
avail_at trace now = avail_among now 0 trace.avail

-- the thresholds of the global domain at a moment, in pages
abbrev pub global_at : (trace : Trace) (now : ℕ) → Pair
global_at trace now = thresholds_of (avail_at trace now) trace.settings None

-- of a cgroup that has so many pages available
abbrev pub cgroup_with : (trace : Trace) (now avail : ℕ) → Pair
cgroup_with trace now avail = thresholds_of avail trace.settings (Some (avail_at trace now))

-- the cgroup of a domain's number from 1 on
abbrev pub cgroup_of : (trace : Trace) (cgroup : ℕ) → Cgroup
cgroup_of trace cgroup = get_or trace.cgroups cgroup (record { filepages = 0; headroom = 0 })

-- of any domain, where the global domain and the domain itself read so many pages
abbrev pub thresholds_at : (trace : Trace) (moment domain global reading : ℕ) → Pair
thresholds_at trace moment zero global reading = global_at trace moment
thresholds_at trace moment (suc cgroup) global reading =
    let g = cgroup_of trace cgroup in
    cgroup_with trace moment (available_to_cgroup g.filepages g.headroom reading (avail_at trace moment) global)

-- the limits under these thresholds, with the hard limit that follows the one before
abbrev pub limits_after : (pair : Pair) (before reading : ℕ) → Limits
limits_after pair before reading = limits_under pair (followed_limit before pair.thresh reading)

-- the limits under these thresholds at first: the hard limit is the threshold
abbrev pub limits_at_first : (pair : Pair) → Limits
limits_at_first pair = record { thresh = pair.thresh; bg = pair.bg; hard = pair.thresh }

-- the first limits of a domain, of which no page is counted
abbrev pub first_limits : (trace : Trace) (moment domain : ℕ) → Limits
first_limits trace moment domain = limits_at_first (thresholds_at trace moment domain 0 0)

-- The domain's cgroup is there, with pages that can be added.
abbrev pub DomainFits : (trace : Trace) (domain : ℕ) → Type 0
DomainFits trace zero = Unit {0}
DomainFits trace (suc cgroup) =
    (cgroup < length trace.cgroups) × ((cgroup_of trace cgroup).filepages ≤ 2 ^ 40) × ((cgroup_of trace cgroup).headroom ≤ 2 ^ 40)
