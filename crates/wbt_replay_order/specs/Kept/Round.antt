-- Whose turn may come in the rotation at all: CPUs without jobs are passed over.
use Rattle.std.specs.Prelude.{◌≡◌, ℕ, ◌+◌, ◌<◌, ◌≤◌, true, List, [], length, get_or}
use Rattle.wbt_trace.specs.declared.trace.Trace.{Trace}
use Rattle.wbt_replay_moves.specs.Definition.State.{State}
use Rattle.wbt_replay_order.specs.Definition.Opening.{first_cpu}
use Rattle.wbt_replay_order.specs.Definition.Order.{actor_at, chance_of, is_nothing}

-- The CPUs of the places from one on, up to another one, have no jobs.
pub record IsNext (trace : Trace) (place to : ℕ) : Type 0 where
  pub after : place ≤ to
  pub within : to ≤ trace.cpus
  pub idle : (i : ℕ) → place ≤ i → i < to → (first_cpu trace i).jobs ≡ []

-- for each place of the rotation
pub record IsRound (trace : Trace) (round : List ℕ) : Type 0 where
  pub many : length round ≡ trace.cpus + 1
  pub each : (place : ℕ) → place ≤ trace.cpus → IsNext trace place (get_or round place 0)

-- The actors at the places from one on, up to another one, can't do anything.
pub record CanPass (s : State) (place to : ℕ) : Type 0 where
  pub after : place ≤ to
  pub within : to ≤ length s.cpus
  pub nothing : (i : ℕ) → place ≤ i → i < to → is_nothing (chance_of (actor_at i s) s) ≡ true

-- for each place
pub record CanPassAll (s : State) (round : List ℕ) : Type 0 where
  pub many : length round ≡ length s.cpus + 1
  pub each : (place : ℕ) → place ≤ length s.cpus → CanPass s place (get_or round place 0)
