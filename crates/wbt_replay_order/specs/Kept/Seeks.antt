-- Where a search for a turn finds the things that it asks for.
use Rattle.std.specs.Prelude.{ℕ, zero, suc, ◌+◌, true, false, Option, Some, None, ◌<◌, ◌≤◌, ◌^◌, length, get_or, All}
use Rattle.wbt_trace.specs.declared.trace.Trace.{Trace}
use Rattle.wbt_replay_moves.specs.Definition.State.{State, cpu_of}
use Rattle.wbt_replay_moves.specs.Kept.Fit.{CanBegin}
use Rattle.wbt_replay_moves.specs.declared.state.Actor.{Actor}
use Rattle.wbt_replay_moves.specs.declared.state.Cpu.{Cpu}
use Rattle.wbt_replay_moves.specs.declared.state.ReplayJob.{ReplayJob}
use Rattle.wbt_replay_moves.specs.declared.state.ReplayJob.TheVariants as job
use Rattle.wbt_replay_moves.specs.declared.state.Whose.TheVariants as whose
use Rattle.wbt_replay_order.specs.Definition.Order.{actor_at, after, chance_of, is_nothing}
use Rattle.wbt_replay_order.specs.declared.chance.Found.{Found}

-- The job's flusher is there.
abbrev pub HasJob : (s : State) (j : ReplayJob) → Type 0
HasJob s job.Writer = Unit {0}
HasJob s (job.Flusher flusher) = flusher < length s.flushers

-- the task is there
abbrev pub HasTask : (s : State) (task : ℕ) → Type 0
HasTask s task = task < length s.tasks

-- A search over the CPU's jobs and tasks starts within them, and finds each.
pub record CanSeek (s : State) (c : Cpu) : Type 0 where
  pub few_jobs : length c.jobs < 2 ^ 31
  pub few_tasks : length c.tasks < 2 ^ 31
  pub next : 1 ≤ length c.jobs → c.next < length c.jobs
  pub next_task : 1 ≤ length c.tasks → c.next_task < length c.tasks
  pub jobs : All (HasJob s) c.jobs
  pub tasks : All (HasTask s) c.tasks

-- for each CPU
pub record CanSeekAll (s : State) : Type 0 where
  pub each : (i : ℕ) → i < length s.cpus → CanSeek s (cpu_of i s)
  pub few : length s.cpus < 2 ^ 31

-- A turn of the CPU's job can begin, or of the task at a place among the CPU's tasks.
abbrev pub JobBegins : (trace : Trace) (cpu place : ℕ) (j : ReplayJob) (s : State) → Type 0
JobBegins trace cpu place job.Writer s =
    (place < length (cpu_of cpu s).tasks) × (length (cpu_of cpu s).tasks < 2 ^ 31) × CanBegin trace s (whose.Task (get_or (cpu_of cpu s).tasks place 0))
JobBegins trace cpu place (job.Flusher flusher) s = CanBegin trace s (whose.Flusher flusher)

-- what an actor was found to be able to do
abbrev pub found_at : (actor : Actor) (s : State) → Found
found_at actor s = record { actor = actor; chance = chance_of actor s }

-- the first actor that can do something, of those at so many places of the rotation from one on
unfoldable pub seek_actor : (s : State) (tries place : ℕ) → Option Found
seek_actor s zero place = None
seek_actor s (suc tries) place =
    elim (is_nothing (chance_of (actor_at place s) s)) [
      | true ↦ seek_actor s tries (after (length s.cpus + 1) place)
      | false ↦ Some (found_at (actor_at place s) s)
    ]
