-- The position ratio of a context of a strict device, in 1024ths. Counts are in pages.
use Rattle.std.specs.Prelude.{ℕ, ◌+◌, ◌*◌, ◌/◌, min, ◌==◌, nat_lt, nat_le, if◌then◌else◌}
use Rattle.wbt_limits.specs.Context.{context_background}
use Rattle.wbt_limits.specs.Limits.{setpoint}
use Rattle.wbt_position.specs.declared.ratio.DomainRead.{DomainRead}
use Rattle.wbt_position.specs.Polynom.{polynom_value}
use Rattle.wbt_strict.specs.declared.position.TheConstants.{FEW_PAGES}

-- where the control holds the context: the middle of its background threshold and its threshold
abbrev pub context_middle : (read : DomainRead) → ℕ
context_middle read = (read.wb_thresh + context_background read.wb_thresh read.limits.bg read.limits.thresh) / 2

-- what the context's own pages leave of the ratio p: nothing from its threshold on, nor where no page lies between its middle and
-- its threshold, or below its middle
abbrev pub by_own_pages : (p middle wb_thresh wb_dirty : ℕ) → ℕ
by_own_pages p middle wb_thresh wb_dirty =
    if nat_le wb_thresh wb_dirty then 0
    else if middle == 0 then 0
    else if middle == wb_thresh then 0
    else min p (polynom_value middle wb_dirty wb_thresh)

-- a context with few pages goes twice as fast as the domain's pages allow
unfoldable pub strict_ratio : (read : DomainRead) (wb_dirty : ℕ) → ℕ
strict_ratio read wb_dirty =
    let p : ℕ = polynom_value (setpoint read.limits) read.dirty read.limits.hard in
    if nat_le read.limits.hard read.dirty then 0
    else if nat_lt wb_dirty FEW_PAGES then min (2 * p) 2048
    else by_own_pages p (context_middle read) read.wb_thresh wb_dirty
