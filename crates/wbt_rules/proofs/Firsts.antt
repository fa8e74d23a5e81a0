-- The first limits of a domain are lawful.
use Rattle.std.proofs.Common.{ℕ, zero, suc, ◌≤◌, Option, arith}
use Rattle.wbt_num.specs.Limits.{IsLawful}
use Rattle.wbt_num.specs.declared.limits.Settings.{Settings}
use Rattle.wbt_num.specs.declared.limits.TheConstants.{MAX_LIMIT}
use Rattle.wbt_limits.specs.Thresholds.{thresholds_of}
use Rattle.wbt_limits.proofs.Rising.{threshold_in_range, thresholds_lawful}
use Rattle.wbt_trace.specs.declared.trace.Trace.{Trace}
use Rattle.wbt_rules.specs.Thresholds.{limits_at_first, first_limits}

thresh_in_range : (avail : ℕ) (settings : Settings) (other : Option ℕ) → (thresholds_of avail settings other).thresh ≤ MAX_LIMIT
unfolding thresholds_of
thresh_in_range avail settings other = threshold_in_range settings.ratio settings.bytes avail other

lawful_at_first : (avail : ℕ) (settings : Settings) (other : Option ℕ) → IsLawful (limits_at_first (thresholds_of avail settings other))
lawful_at_first avail settings other =
    thresholds_lawful avail settings other (thresholds_of avail settings other).thresh (omega arith) (thresh_in_range avail settings other)

pub first_lawful : (trace : Trace) (moment d : ℕ) → IsLawful (first_limits trace moment d)
first_lawful trace moment zero = lawful_at_first _ trace.settings _
first_lawful trace moment (suc cgroup) = lawful_at_first _ trace.settings _
