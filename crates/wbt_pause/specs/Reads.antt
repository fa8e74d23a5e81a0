-- What a check reads: the global domain, where there is one the cgroup's, and the writeback context.
use Rattle.std.specs.Prelude.{ℕ, ◌*◌, ◌^◌, ◌<◌, ◌≤◌, ◌⊎◌, max, min, Bool, true, false, ◌&&◌, ◌||◌, IfSome, IsSomeAnd}
use Rattle.std.specs.Option.{option_map_or}
use Rattle.wbt_num.specs.Limits.{IsLawful}
use Rattle.wbt_num.specs.declared.most.TheConstants.{MOST_CPUS}
use Rattle.wbt_estimate.specs.declared.estimate.Estimate.{Estimate}
use Rattle.wbt_position.specs.declared.ratio.DomainRead.{DomainRead}
use Rattle.wbt_pause.specs.declared.reads.Reads.{Reads}
use Rattle.wbt_pause.specs.declared.reads.Task.{Task}

-- a test that every domain passes, one that some domain passes, and the least of a number of each
abbrev pub every_domain : (test : DomainRead → Bool) (reads : Reads) → Bool
every_domain test reads = test reads.global && option_map_or test reads.cgroup true

-- whether the global domain or the cgroup's passes a test
abbrev pub some_domain : (test : DomainRead → Bool) (reads : Reads) → Bool
some_domain test reads = test reads.global || option_map_or test reads.cgroup false

-- the least that a number has among the domains: that of the global domain where there is no cgroup
abbrev pub least_of : (number : DomainRead → ℕ) (reads : Reads) → ℕ
least_of number reads =
    option_map_or (λ cgroup. min (number reads.global) (number cgroup)) reads.cgroup (number reads.global)

-- a fact of every domain, and of some domain
abbrev pub EachDomain : (P : DomainRead → Type 0) (reads : Reads) → Type 0
EachDomain P reads = P reads.global × IfSome reads.cgroup P

-- a fact of the global domain or of the cgroup's
abbrev pub SomeDomain : (P : DomainRead → Type 0) (reads : Reads) → Type 0
SomeDomain P reads = P reads.global ⊎ IsSomeAnd reads.cgroup P

-- reads of a machine: lawful limits, a count of pages, at least one CPU, and a cap of at least one page
pub record IsReadable (reads : Reads) : Type 0 where
  pub limits : EachDomain (λ domain. IsLawful domain.limits) reads
  pub pages : reads.wb_dirty < 2 ^ 33
  pub cpus : (1 ≤ reads.cpus) × (reads.cpus ≤ MOST_CPUS)
  pub cap : 1 ≤ reads.cap

-- a writer whose counts leave room to be added and multiplied by 1000
pub record IsCounted (task : Task) : Type 0 where
  pub dirtied : task.nr_dirtied < 2 ^ 52
  pub allowance : task.nr_dirtied_pause < 2 ^ 52

-- an estimate that a decision can divide by; each sound estimate is one
pub record IsUsable (estimate : Estimate) : Type 0 where
  pub average : (1 ≤ estimate.avg) × (estimate.avg < 2 ^ 44)
  pub ratelimit : 1 ≤ estimate.ratelimit

-- a writer's counts grow no further: what it dirtied doesn't rise, and its allowance is at most 2 ^ 42, what it was, or
-- twice what was dirtied
pub record StaysSmall (before after : Task) : Type 0 where
  pub dirtied : after.nr_dirtied ≤ before.nr_dirtied
  pub allowance : after.nr_dirtied_pause ≤ max (2 ^ 42) (max before.nr_dirtied_pause (2 * before.nr_dirtied))
