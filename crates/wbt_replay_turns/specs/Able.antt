-- What an actor can do at a moment: it goes on with its turn, or a task or a flusher of it is ready for one.
use Rattle.std.specs.Prelude.{◌≡◌, ◌⊎◌, ℕ, ◌<◌, ◌≤◌, true, false, length}
use Rattle.wbt_trace.specs.declared.trace.Trace.{Trace}
use Rattle.wbt_replay_moves.specs.Definition.State.{State, cpu_of, task_of, flusher_of, is_drained}
use Rattle.wbt_replay_moves.specs.declared.state.Actor.{Actor}
use Rattle.wbt_replay_moves.specs.declared.state.Actor.TheVariants as actor
use Rattle.wbt_replay_moves.specs.declared.state.ReplayPhase.{ReplayPhase}
use Rattle.wbt_replay_moves.specs.declared.state.ReplayPhase.TheVariants as phase
use Rattle.wbt_replay_order.specs.Kept.Facts.{IsTaskOn, IsFlusherOn}

-- A task of the CPU is ready for a turn: it hasn't ended, and its rest has.
pub record IsReadyTask (trace : Trace) (s : State) (cpu task : ℕ) : Type 0 where
  pub on : IsTaskOn trace cpu task
  pub ongoing : (task_of task s).ended ≡ false
  pub rested : (task_of task s).rest ≤ s.now

-- In this phase a flusher is ready for a turn: its rest or its flight has ended, or it has an inode. In the drain, when all tasks have ended, it
-- drops a rest that isn't kept.
abbrev pub IsReadyIn : (s : State) (phase : ReplayPhase) → Type 0
IsReadyIn s (phase.Idle until kept) = (until ≤ s.now) ⊎ ((is_drained s ≡ true) × (kept ≡ false))
IsReadyIn s (phase.Taken inode) = Unit {0}
IsReadyIn s (phase.Scanning scan) = Unit {0}
IsReadyIn s (phase.Flying inode pages until) = until ≤ s.now
IsReadyIn s phase.Finished = ⊥

-- A flusher of the CPU is ready for a turn.
pub record IsReadyFlusher (trace : Trace) (s : State) (cpu flusher : ℕ) : Type 0 where
  pub on : IsFlusherOn trace cpu flusher
  pub phase : IsReadyIn s (flusher_of flusher s).phase

-- A CPU's turn isn't over, or a task or a flusher of it is ready.
pub data HasWork (trace : Trace) (s : State) (cpu : ℕ) : Type 0 where
  turn : 1 ≤ length (cpu_of cpu s).todo → HasWork trace s cpu
  task : (number : ℕ) → IsReadyTask trace s cpu number → HasWork trace s cpu
  flusher : (number : ℕ) → IsReadyFlusher trace s cpu number → HasWork trace s cpu

-- The CPU is there, isn't stopped, and has work.
pub record CpuCan (trace : Trace) (s : State) (cpu : ℕ) : Type 0 where
  pub there : cpu < trace.cpus
  pub ongoing : (cpu_of cpu s).stopped ≡ false
  pub work : HasWork trace s cpu

-- The timer's turn isn't over, or its wait is; and a task runs.
pub record TimerCan (s : State) : Type 0 where
  pub running : is_drained s ≡ false
  pub work : (1 ≤ length s.timer.todo) ⊎ (s.timer.next ≤ s.now)

-- The actor's turn isn't over: it has something to do next.
abbrev pub InTurn : (s : State) (who : Actor) → Type 0
InTurn s (actor.Cpu cpu) = ((cpu_of cpu s).stopped ≡ false) × (1 ≤ length (cpu_of cpu s).todo)
InTurn s actor.Timer = (is_drained s ≡ false) × (1 ≤ length s.timer.todo)

-- The actor can do something.
abbrev pub Can : (trace : Trace) (s : State) (who : Actor) → Type 0
Can trace s (actor.Cpu cpu) = CpuCan trace s cpu
Can trace s actor.Timer = TimerCan s

-- No CPU can do anything, nor can the timer.
abbrev pub NobodyCan : (trace : Trace) (s : State) → Type 0
NobodyCan trace s = (who : Actor) → ¬ Can trace s who
