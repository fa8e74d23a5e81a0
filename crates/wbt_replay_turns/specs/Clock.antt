-- When the clock of a run moves: by a tick line, or where nobody can do anything, and at no other time.
use Rattle.std.specs.Prelude.{◌≡◌, ◌≢◌, ◌⊎◌, ℕ, ◌+◌, ◌<◌, ◌≤◌, Bool, false, List, [], ◌∷◌, length}
use Rattle.wbt_trace.specs.declared.trace.Trace.{Trace}
use Rattle.wbt_replay_moves.specs.Definition.State.{State, task_of, flusher_of, is_drained}
use Rattle.wbt_replay_moves.specs.declared.state.ReplayPhase.TheVariants as phase
use Rattle.wbt_replay_moves.specs.declared.state.Stretch.{Stretch}
use Rattle.wbt_replay_moves.specs.declared.state.Stretch.TheVariants as stretch
use Rattle.wbt_replay_order.specs.Definition.Opening.{opening_moment}
use Rattle.wbt_replay_order.specs.Definition.Order.{is_ended}
use Rattle.wbt_replay_order.specs.Definition.Run.{state_at}
use Rattle.wbt_replay_turns.specs.Able.{NobodyCan}

-- ---- what ends at a moment

-- A task rests until the moment, and hasn't ended.
pub record RestsUntil (s : State) (moment task : ℕ) : Type 0 where
  pub there : task < length s.tasks
  pub ongoing : (task_of task s).ended ≡ false
  pub until : (task_of task s).rest ≡ moment

-- A flusher rests until the moment.
pub record IsIdleUntil (s : State) (moment flusher : ℕ) : Type 0 where
  pub there : flusher < length s.flushers
  pub kept : Bool
  pub until : (flusher_of flusher s).phase ≡ phase.Idle moment kept

-- A flusher's disk writes a batch until the moment.
pub record FliesUntil (s : State) (moment flusher : ℕ) : Type 0 where
  pub there : flusher < length s.flushers
  pub inode : ℕ
  pub pages : ℕ
  pub until : (flusher_of flusher s).phase ≡ phase.Flying inode pages moment

-- The timer waits until the moment for its next turn, while a task runs.
pub record WaitsUntil (s : State) (moment : ℕ) : Type 0 where
  pub running : is_drained s ≡ false
  pub until : s.timer.next ≡ moment

-- At the moment a task's rest ends, a flusher's rest or flight, or the timer's wait.
pub data EndsAt (s : State) (moment : ℕ) : Type 0 where
  rest : (task : ℕ) → RestsUntil s moment task → EndsAt s moment
  idle : (flusher : ℕ) → IsIdleUntil s moment flusher → EndsAt s moment
  flight : (flusher : ℕ) → FliesUntil s moment flusher → EndsAt s moment
  wait : WaitsUntil s moment → EndsAt s moment

-- It is the least moment ahead at which something ends.
pub record IsNextMoment (s : State) (moment : ℕ) : Type 0 where
  pub ahead : s.now < moment
  pub ends : EndsAt s moment
  pub least : (other : ℕ) → s.now < other → EndsAt s other → moment ≤ other

-- ---- the clock

-- A tick line comes first of the order lines.
abbrev pub TicksNext : (orders : List Stretch) → Type 0
TicksNext [] = ⊥
TicksNext (stretch.Tick ticks ∷ more) = Unit {0}
TicksNext (stretch.Steps who steps ∷ more) = ⊥

-- The clock has moved by so many ticks, without a step, and these order lines are left.
pub record HasTicked (s u : State) (ticks : ℕ) (more : List Stretch) : Type 0 where
  pub now : u.now ≡ s.now + ticks
  pub orders : u.orders ≡ more
  pub steps : u.steps ≡ s.steps

-- The clock before a move, and after it.
pub record MovesClock (trace : Trace) (s u : State) : Type 0 where
  -- A tick line moves it by its ticks, once.
  pub ticks : (ticks : ℕ) (more : List Stretch) → s.orders ≡ stretch.Tick ticks ∷ more → HasTicked s u ticks more
  -- Where no order line is left and nobody can do anything, it moves to the next moment at which something ends.
  pub rests : s.orders ≡ [] → NobodyCan trace s → IsNextMoment s u.now
  -- Nothing else moves it.
  pub alone : u.now ≢ s.now → TicksNext s.orders ⊎ ((s.orders ≡ []) × NobodyCan trace s)

-- The clock of the trace's run begins at the opening's moment, never goes back, and each of the run's moves leaves it so.
pub record ClockIsRight (trace : Trace) : Type 0 where
  pub first : (state_at trace 0).now ≡ opening_moment
  pub onward : (moves : ℕ) → (state_at trace moves).now ≤ (state_at trace (moves + 1)).now
  pub moves : (moves : ℕ) → is_ended (state_at trace moves) ≡ false → MovesClock trace (state_at trace moves) (state_at trace (moves + 1))
