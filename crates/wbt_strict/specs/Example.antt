-- Grants in a context of the small throttle: one after a reading of the context, and one without.
use Rattle.std.specs.Prelude.{◌≡◌, List, [], ◌∷◌, ◌++◌}
use Rattle.wbt_counter.specs.declared.counter.Counter.TheVariants.{Domain, Context}
use Rattle.wbt_grant.specs.declared.who.Who.TheVariants.{Writer}
use Rattle.wbt_grant.specs.State.{opening}
use Rattle.wbt_grant.specs.Kinds.{Step, count, grant, run, Allowed, AreAllowed}
use Rattle.wbt_grant.specs.Example.{small, load, one_page}
use Rattle.wbt_strict.specs.Bound.{greatest_reading, strict_bound}
use Rattle.wbt_strict.specs.Rule.{IsStrict, AreStrict, writers_in_context}

-- a page is dirtied, and the writer loads what a grant needs of the domain
abbrev pub checked : List Step
checked = one_page 0 ++ load (Writer 0) 0 0 ++ count (Writer 0) (Domain 0) ∷ []

-- with a reading of its context before the grant
abbrev pub strict_steps : List Step
strict_steps = checked ++ count (Writer 0) (Context 0) ∷ grant 0 4 ∷ []

-- such steps may be made, and are strict, and the law speaks of them; a grant without the reading may be made too, and isn't
pub record StrictGrants : Type 0 where
  pub may_be_made : AreAllowed small strict_steps (opening small)
  pub are_strict : AreStrict small 0 (greatest_reading 0 small.cpus) strict_steps (opening small)
  pub its_bound : strict_bound 0 small.cpus (writers_in_context small 0) small.cap ≡ 68
  pub may_be_made_without : Allowed small (grant 0 4) (run small checked (opening small))
  pub is_not_strict : IsStrict small 0 (greatest_reading 0 small.cpus) (grant 0 4) (run small checked (opening small)) → ⊥
