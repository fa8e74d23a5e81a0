-- What a list of steps added to a part and to the domain, and the periods that it made.
use Rattle.std.specs.Prelude.{ℕ, ◌+◌, ◌==◌, if◌then◌else◌, List, [], ◌∷◌, sum_by}
use Rattle.wbt_flex.specs.Proportions.{may_age}
use Rattle.wbt_flex.specs.Eager.{Lazy, Step, add_domain, add_part, lazy_step, new_period}

-- events that a step adds to a part
abbrev pub part_events : (part : ℕ) (step : Step) → ℕ
part_events part (add_part other n) = if part == other then n else 0
part_events part _ = 0

-- and those of a list of steps
abbrev pub added_to_part : (part : ℕ) (steps : List Step) → ℕ
added_to_part part steps = sum_by (part_events part) steps

-- events that a step adds to the domain
abbrev pub domain_events : (step : Step) → ℕ
domain_events (add_domain n) = n
domain_events _ = 0

-- and those of a list of steps
abbrev pub added_to_domain : (steps : List Step) → ℕ
added_to_domain steps = sum_by domain_events steps

-- periods that a step makes: none where they don't go by
abbrev pub period_made : (lazy : Lazy) (step : Step) → ℕ
period_made lazy (new_period k) = if may_age lazy.domain.events lazy.domain.period k then k else 0
period_made lazy _ = 0

-- and a list of steps
unfoldable pub periods_made : (lazy : Lazy) (steps : List Step) → ℕ
periods_made lazy [] = 0
periods_made lazy (step ∷ steps) = period_made lazy step + periods_made (lazy_step lazy step) steps
