-- The position ratio, in 1024ths: the polynomial of the domain's dirty pages, and then how the context stands on a line
-- of its own. Counts are in pages, averages in pages a second.
use Rattle.std.specs.Prelude.{ℕ, ◌+◌, ◌-◌, ◌*◌, ◌/◌, ◌^◌, min, max, bit_or, nat_lt, nat_le, if◌then◌else◌}
use Rattle.wbt_limits.specs.Limits.{setpoint}
use Rattle.wbt_position.specs.declared.ratio.DomainRead.{DomainRead}
use Rattle.wbt_position.specs.Polynom.{polynom_value}

-- the context's weight: its threshold, at most the domain's, and at least an eighth of what is free below the limit
abbrev pub weight_of : (read : DomainRead) → ℕ
weight_of read = max (min read.wb_thresh read.limits.thresh) ((read.limits.hard - read.dirty) / 8)

-- a weight as a part of the domain's threshold, in 65536ths
abbrev pub share_of : (weight thresh : ℕ) → ℕ
share_of weight thresh = weight * 2 ^ 16 / bit_or thresh 1

-- that share of the domain's setpoint is the context's
abbrev pub context_setpoint : (setpoint share : ℕ) → ℕ
context_setpoint setpoint share = setpoint * share / 2 ^ 16

-- how many pages above its setpoint a context's line ends: the same share of what the context's weight leaves of the
-- threshold, and of what its device writes in eight seconds
abbrev pub context_span : (thresh weight avg share : ℕ) → ℕ
context_span thresh weight avg share = ((thresh - weight) + 8 * avg) * share / 2 ^ 16

-- The line falls with the context's pages, from p at its setpoint to 0 a span above; in the last quarter it stays at a
-- quarter of p.
abbrev pub on_line : (p setpoint span wb_dirty : ℕ) → ℕ
on_line p setpoint span wb_dirty =
    let end : ℕ = setpoint + span in
    if nat_lt wb_dirty (end - span / 4) then p * (end - wb_dirty) / bit_or (end - setpoint) 1 else p / 4

-- a context with fewer pages than half its weight goes faster, up to eight times
abbrev pub near_empty : (p half wb_dirty : ℕ) → ℕ
near_empty p half wb_dirty =
    if nat_lt wb_dirty half then (if nat_lt (half / 8) wb_dirty then p * half / wb_dirty else p * 8) else p

-- both, cut at 2 ^ 32 - 1
abbrev pub bent : (p setpoint span half wb_dirty : ℕ) → ℕ
bent p setpoint span half wb_dirty = min (near_empty (on_line p setpoint span wb_dirty) half wb_dirty) (2 ^ 32 - 1)

-- the ratio: 0 from the hard limit on
unfoldable pub position_ratio : (read : DomainRead) (wb_dirty avg : ℕ) → ℕ
position_ratio read wb_dirty avg =
    let p : ℕ = polynom_value (setpoint read.limits) read.dirty read.limits.hard in
    let weight : ℕ = weight_of read in
    let share : ℕ = share_of weight read.limits.thresh in
    if nat_le read.limits.hard read.dirty then 0
    else bent p (context_setpoint (setpoint read.limits) share) (context_span read.limits.thresh weight avg share)
    (weight / 2) wb_dirty
