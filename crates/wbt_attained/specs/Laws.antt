-- What is claimed of the closer bound.
use Rattle.std.specs.Prelude.{◌≡◌, ℕ, List}
use Rattle.wbt_grant.specs.Setting.{Setting}
use Rattle.wbt_grant.specs.State.{State, domain_count, opening}
use Rattle.wbt_grant.specs.Bound.{greatest_hard}
use Rattle.wbt_grant.specs.Closer.{closer_bound}
use Rattle.wbt_grant.specs.Kinds.{Step, run, AreAllowed}
use Rattle.wbt_attained.specs.Alone.{alone, IsAlone}

-- the count of the global domain is its closer bound
abbrev pub IsAtBound : (set : Setting) (s : State) → Type 0
IsAtBound set s = domain_count set s.book 0 ≡ closer_bound set (greatest_hard set s.timer.published) 0

-- some allowed list of steps and grants leads there
abbrev pub IsAttained : (set : Setting) → Type 0
IsAttained set = (steps : List Step) × AreAllowed set steps (opening set) × IsAtBound set (run set steps (opening set))

-- on every such machine the closer bound is attained: no smaller one holds there
abbrev pub Attained : Type 0
Attained = (cpus batches cap : ℕ) → IsAlone cpus batches cap → IsAttained (alone cpus batches cap)

-- some allowed list of steps and grants leads to so many pages
abbrev pub Reaches : (pages cpus batches cap : ℕ) → Type 0
Reaches pages cpus batches cap = let set : Setting = alone cpus batches cap in
    (steps : List Step) × AreAllowed set steps (opening set) × (domain_count set (run set steps (opening set)).book 0 ≡ pages)

-- with a hard limit of 640 pages and a cap of 1024
pub record AttainedOnFewCpus : Type 0 where
  pub one : Reaches 1696 1 20 1024
  pub two : Reaches 2752 2 20 1024
  pub four : Reaches 4864 4 20 1024
  pub eight : Reaches 9088 8 20 1024
