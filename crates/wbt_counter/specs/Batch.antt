-- Batches of counters and the statistical error, in pages.
use Rattle.std.specs.Prelude.{ℕ, ◌+◌, ◌*◌, max}
use Rattle.wbt_num.specs.Arithmetic.{log2}

-- how far a CPU's own number of a domain's counter, or of a context's, may grow before it is folded
unfoldable pub domain_batch : (cpus : ℕ) → ℕ
domain_batch cpus = max 32 (2 * cpus)

unfoldable pub context_batch : (cpus : ℕ) → ℕ
context_batch cpus = 8 * (1 + log2 cpus)

-- how far a reading of a context's counter may be from the count: each CPU keeps a batch to itself
abbrev pub stat_error : (cpus : ℕ) → ℕ
stat_error cpus = cpus * context_batch cpus
