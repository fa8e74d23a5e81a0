-- That the strict rule is kept, and what it bounds.
use Rattle.std.specs.Prelude.{◌≡◌, ℕ, ◌≤◌, List, ◌++◌}
use Rattle.wbt_position.specs.declared.ratio.DomainRead.{DomainRead}
use Rattle.wbt_grant.specs.Setting.{Setting, IsSetting}
use Rattle.wbt_grant.specs.State.{State, context_count, opening}
use Rattle.wbt_grant.specs.Kinds.{Step, Allowed, after, run, AreAllowed}
use Rattle.wbt_grant.specs.Rule.{Rule}
use Rattle.wbt_strict.specs.Bound.{greatest_reading, strict_bound}
use Rattle.wbt_strict.specs.Position.{strict_ratio}
use Rattle.wbt_strict.specs.Rule.{StrictRule, IsStrict, AreStrict, writers_in_context}

-- where a step may be made, and is strict if it is a grant in the context, the strict rule holds after it
abbrev pub StepKeepsStrict : Type 0
StepKeepsStrict = (set : Setting) (k most : ℕ) (step : Step) (s : State) → IsSetting set → Rule set s → Allowed set step s
    → IsStrict set k most step s → StrictRule set k most s → StrictRule set k most (after set step s)

-- after every step of a list of strict steps and grants the context has at most as many pages as its bound says
abbrev pub StrictIsBounded : Type 0
StrictIsBounded = (set : Setting) (k most : ℕ) (before rest : List Step) → IsSetting set → AreAllowed set (before ++ rest) (opening set)
    → AreStrict set k (greatest_reading most set.cpus) (before ++ rest) (opening set)
    → context_count set (run set before (opening set)).book k ≤ strict_bound most set.cpus (writers_in_context set k) set.cap

-- the more pages a context has, the slower its writers, where nothing else changes
abbrev pub StrictNeverRises : Type 0
StrictNeverRises = (read : DomainRead) (wb_dirty more : ℕ) → wb_dirty ≤ more → strict_ratio read more ≤ strict_ratio read wb_dirty

-- a domain at its setpoint, and a context with a threshold of 1000 pages in it
abbrev pub half_way : DomainRead
half_way = record { limits = record { thresh = 19995; bg = 9985; hard = 19995 }; dirty = 17492; wb_thresh = 1000 }

-- position ratios of this context, in 1024ths, at four counts of its pages
pub record RowsOfStrictPosition : Type 0 where
  pub few_pages : strict_ratio half_way 7 ≡ 2048
  pub at_its_middle : strict_ratio half_way 749 ≡ 1024
  pub below_its_threshold : strict_ratio half_way 999 ≡ 14
  pub at_its_threshold : strict_ratio half_way 1000 ≡ 0
