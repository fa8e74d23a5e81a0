-- Of which numbers error and bounds are answered, and the statuses of others.
use Rattle.std.specs.Prelude.{ℕ, ◌≤◌, if◌then◌else◌, nat_lt}
use Rattle.wbt_num.specs.declared.limits.TheConstants.{MAX_LIMIT}
use Rattle.wbt_num.specs.declared.most.TheConstants.{MOST_CONTEXTS, MOST_CPUS, MOST_WRITERS}
use Rattle.wbt_calls.specs.Ranges.{is_out}
use Rattle.wbt_calls.specs.declared.ranges.TheConstants.{MOST_LEFT}
use Rattle.wbt_calls.specs.declared.status.TheConstants.{OK, BAD_CPUS, BAD_CAP, BAD_WRITERS, BAD_CONTEXTS, BAD_LIMIT}

-- of a number of CPUs
abbrev pub status_of_cpus : (cpus : ℕ) → ℕ
status_of_cpus cpus = if is_out cpus MOST_CPUS then BAD_CPUS else OK

-- what an error requires
abbrev pub AreCpusTaken : (cpus : ℕ) → Type 0
AreCpusTaken cpus = (1 ≤ cpus) × (cpus ≤ MOST_CPUS)

-- of a domain; a context of a strict device is one context, of which none is counted
abbrev pub status_of_bound : (hard cpus writers cap contexts : ℕ) → ℕ
status_of_bound hard cpus writers cap contexts =
    if nat_lt MAX_LIMIT hard then BAD_LIMIT
    else if is_out cpus MOST_CPUS then BAD_CPUS
    else if nat_lt MOST_WRITERS writers then BAD_WRITERS
    else if is_out cap MOST_LEFT then BAD_CAP
    else if nat_lt MOST_CONTEXTS contexts then BAD_CONTEXTS
    else OK

-- what a bound requires, and a cap of some page
pub record IsBoundTaken (hard cpus writers cap contexts : ℕ) : Type 0 where
  pub limit : hard ≤ MAX_LIMIT
  pub machine : AreCpusTaken cpus
  pub few_writers : writers ≤ MOST_WRITERS
  pub left : (1 ≤ cap) × (cap ≤ MOST_LEFT)
  pub few_contexts : contexts ≤ MOST_CONTEXTS
