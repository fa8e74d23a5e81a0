-- The bound of a context of a strict device, in pages.
use Rattle.std.specs.Prelude.{ℕ, ◌+◌, ◌*◌, max}
use Rattle.wbt_counter.specs.Batch.{stat_error}
use Rattle.wbt_strict.specs.declared.position.TheConstants.{FEW_PAGES}

-- up to which reading of the context its writers are granted pages, where `most` is the greatest threshold that its checks use
abbrev pub greatest_reading : (most cpus : ℕ) → ℕ
greatest_reading most cpus = max (max most FEW_PAGES) (stat_error cpus)

-- a reading may be off by the error, and each writer has a cap at most besides
abbrev pub strict_bound : (most cpus writers cap : ℕ) → ℕ
strict_bound most cpus writers cap = greatest_reading most cpus + stat_error cpus + writers * cap
