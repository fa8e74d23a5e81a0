-- Whose turn comes in a run's rotation, where no order line is left.
use Rattle.std.specs.Prelude.{◌≡◌, ◌⊎◌, ℕ, ◌+◌, ◌-◌, ◌<◌, if◌then◌else◌, nat_lt, false, [], ◌∷◌, ◌++◌, length, Some, None}
use Rattle.wbt_trace.specs.declared.trace.Trace.{Trace}
use Rattle.wbt_journal.specs.declared.step.StepEntry.{StepEntry}
use Rattle.wbt_replay_moves.specs.Definition.State.{State}
use Rattle.wbt_replay_moves.specs.declared.state.Actor.{Actor}
use Rattle.wbt_replay_order.specs.Definition.Order.{actor_at, is_ended, place_after}
use Rattle.wbt_replay_order.specs.Definition.Run.{state_at}
use Rattle.wbt_replay_turns.specs.Able.{InTurn, Can, NobodyCan}
use Rattle.wbt_replay_turns.specs.Lines.{number_of}

-- the place that comes so many places after one, where so many go round
abbrev pub round_to : (count from further : ℕ) → ℕ
round_to count from further = if nat_lt (from + further) count then from + further else from + further - count

-- the actor that comes so many places after the one whose turn it was: the CPUs go round by number, and then the timer
abbrev pub actor_after : (s : State) (further : ℕ) → Actor
actor_after s further = actor_at (round_to (length s.cpus + 1) (place_after s.rotation s) further) s

-- The actor that comes so many places later can do something, and none before it can.
pub record IsFirst (trace : Trace) (s : State) (further : ℕ) : Type 0 where
  pub within : further < length s.cpus + 1
  pub can : Can trace s (actor_after s further)
  pub others : (fewer : ℕ) → fewer < further → ¬ Can trace s (actor_after s fewer)

-- The actor has its turn, which isn't over.
pub record IsUnderWay (s : State) (who : Actor) : Type 0 where
  pub turn : s.rotation ≡ Some who
  pub next : InTurn s who

-- The actor moves: it has the turn then, and a step that is made is its own.
pub record Moves (trace : Trace) (s u : State) (who : Actor) : Type 0 where
  pub turn : u.rotation ≡ Some who
  pub step : (u.steps ≡ s.steps) ⊎ ((step : StepEntry) × (u.steps ≡ s.steps ++ step ∷ []) × (step.who ≡ number_of trace who))

-- Whose turn it is before a move without order lines, and after it.
pub record MovesTurn (trace : Trace) (s u : State) : Type 0 where
  -- An actor finishes its turn before another one has its own.
  pub finishes : (who : Actor) → IsUnderWay s who → Moves trace s u who
  -- Then the first that can do something has its turn, in the order of the rotation.
  pub passes : ((who : Actor) → ¬ IsUnderWay s who) → (further : ℕ) → IsFirst trace s further → Moves trace s u (actor_after s further)
  -- Where nobody can do anything, the rotation starts again with CPU 0.
  pub restarts : NobodyCan trace s → (u.rotation ≡ None) × (u.steps ≡ s.steps)

-- So are the turns of the trace's run, wherever no order line is left.
abbrev pub TurnsAreFair : (trace : Trace) → Type 0
TurnsAreFair trace = (moves : ℕ) → is_ended (state_at trace moves) ≡ false → (state_at trace moves).orders ≡ []
    → MovesTurn trace (state_at trace moves) (state_at trace (moves + 1))
