-- What follows from the limits of a domain, in pages.
use Rattle.std.specs.Prelude.{ℕ, ◌+◌, ◌/◌, ◌<◌}
use Rattle.wbt_num.specs.declared.limits.Limits.{Limits}

-- up to here writers run free: the middle of background threshold and threshold
abbrev pub freerun : (limits : Limits) → ℕ
freerun limits = (limits.thresh + limits.bg) / 2

-- where the control holds the domain: the middle of freerun and hard limit
abbrev pub setpoint : (limits : Limits) → ℕ
setpoint limits = (freerun limits + limits.hard) / 2

-- background writeback starts where a domain's reading is above its background threshold
abbrev pub IsOverBackground : (reading : ℕ) (limits : Limits) → Type 0
IsOverBackground reading limits = limits.bg < reading
