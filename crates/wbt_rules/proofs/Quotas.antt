-- With how many pages a scan ends.
use Rattle.std.proofs.Common.{ℕ, ◌≤◌, Option, Some, None, IfSome, arith}
use Rattle.wbt_limits.specs.Flusher.{chunk_of}
use Rattle.wbt_trace.specs.Lawful.{IsChunk}
use Rattle.wbt_trace.specs.declared.trace.Device.{Device}
use Rattle.wbt_rules.specs.Flusher.{IsWithinChunk, quota_by, quota_of}

within_by : (chunk : Option ℕ) (most : ℕ) → IsWithinChunk chunk (quota_by chunk most)
within_by None most = tt
within_by (Some pages) most = omega arith

some_by : (chunk : Option ℕ) (most : ℕ) → IfSome chunk IsChunk → 1 ≤ most → 1 ≤ quota_by chunk most
some_by None most is some = some
some_by (Some pages) most is some = let one = is.0 in omega arith

most_by : (chunk : Option ℕ) (most : ℕ) → quota_by chunk most ≤ most
most_by None most = omega arith
most_by (Some pages) most = omega arith

some_chunk : (avg hard : ℕ) → 1 ≤ chunk_of avg hard
some_chunk avg hard = omega arith

-- the device's line isn't passed
pub quota_within : (device : Device) (avg hard : ℕ) → IsWithinChunk device.chunk (quota_of device avg hard)
unfolding quota_of
quota_within device avg hard = within_by device.chunk (chunk_of avg hard)

pub quota_some : (device : Device) (avg hard : ℕ) → IfSome device.chunk IsChunk → 1 ≤ quota_of device avg hard
unfolding quota_of
quota_some device avg hard is = some_by device.chunk (chunk_of avg hard) is (some_chunk avg hard)

pub quota_most : (device : Device) (avg hard : ℕ) → quota_of device avg hard ≤ chunk_of avg hard
unfolding quota_of
quota_most device avg hard = most_by device.chunk (chunk_of avg hard)

-- nor do fewer pages pass it
pub within_less : (chunk : Option ℕ) (m n : ℕ) → m ≤ n → IsWithinChunk chunk n → IsWithinChunk chunk m
within_less None m n less within = tt
within_less (Some pages) m n less within = let w : n ≤ pages = within in omega arith
