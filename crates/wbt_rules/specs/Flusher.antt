-- When a flusher writes, how much at once, and when the disk has written its batch.
use Rattle.std.specs.Prelude.{ℕ, ◌≤◌, Bool, true, nat_lt, nat_le, min, Option, None, Some, IfSome}
use Rattle.wbt_num.specs.declared.limits.Limits.{Limits}
use Rattle.wbt_limits.specs.Flusher.{chunk_of}
use Rattle.wbt_trace.specs.declared.trace.Device.{Device}
use Rattle.wbt_trace.specs.declared.trace.Trace.{Trace}
use Rattle.wbt_rules.specs.Things.{device_at, flusher_device}

-- `IsOverBackground` of `wbt_limits` as a test: the domain reads more pages than its background threshold
abbrev pub is_over_background : (reading : ℕ) (limits : Limits) → Bool
is_over_background reading limits = nat_lt limits.bg reading

-- the disk has written the batch: the moment that it answered isn't after this one
abbrev pub HasLanded : (until now : ℕ) → Type 0
HasLanded until now = until ≤ now

-- decides whether the disk has written the batch
abbrev pub has_landed : (until now : ℕ) → Bool
has_landed until now = nat_le until now

-- ---- how much it writes at once

-- no more pages than a device's line says
abbrev pub IsWithinChunk : (chunk : Option ℕ) (pages : ℕ) → Type 0
IsWithinChunk chunk pages = IfSome chunk (λ most. pages ≤ most)

-- decides whether a batch has no more pages than a device's line says
abbrev pub is_within_chunk : (chunk : Option ℕ) (pages : ℕ) → Bool
is_within_chunk None pages = true
is_within_chunk (Some most) pages = nat_le pages most

-- so many pages, or as many as the line says, where these are fewer
abbrev pub quota_by : (chunk : Option ℕ) (most : ℕ) → ℕ
quota_by None most = most
quota_by (Some pages) most = min most pages

-- with how many pages a scan for the device ends, where that writes `avg` pages a second and the hard limit was `hard`
unfoldable pub quota_of : (device : Device) (avg hard : ℕ) → ℕ
quota_of device avg hard = quota_by device.chunk (chunk_of avg hard)

-- what the line of the flusher's device says
abbrev pub chunk_at : (trace : Trace) (flusher : ℕ) → Option ℕ
chunk_at trace flusher = (device_at trace (flusher_device trace flusher)).chunk
