-- What the voices of all workers tell when they are together.
use Rattle.std.specs.Prelude.{◌≡◌, ◌⊎◌, ℕ, ◌+◌, ◌-◌, ◌^◌, ◌<◌, Bool, true, List, [], ◌∷◌, map, length, get_or}
use Rattle.atomic_table.specs.Seated.{TableId}
use Rattle.wbt_journal.specs.Each.{Each}
use Rattle.wbt_signals.specs.Signals.{Known, both_voices, new_voice}
use Rattle.wbt_run_worker.specs.declared.side.CpuSide.{CpuSide}
use Rattle.wbt_run_worker.specs.declared.side.End.TheVariants.{Faulted, Spent, Refused, Stopped}
use Rattle.wbt_run_worker.specs.declared.side.Post.{Post}
use Rattle.wbt_run_worker.specs.declared.side.Stand.TheVariants.{Out}
use Rattle.wbt_run_worker.specs.declared.worker.Worker.{Worker}
use Rattle.wbt_run_drain.specs.Ends.{SomeEnds}

-- a worker with a new voice, which hasn't said so
pub record IsVoiced {D : Type 0} (signals : TableId) (worker : Worker D) : Type 0 where
  pub voice : worker.voice ≡ new_voice signals worker.voice.workers
  pub writes : worker.writes ≡ true

-- a voice that handed out so many
abbrev pub handed_out : (many : ℕ) (voice : Known) → Known
handed_out many voice = record voice { stakes = voice.stakes - many; writes = voice.writes - many; there = voice.there - many }

-- the first voice, and so many that it handed out, are all there are
pub record AreVoiced {D : Type 0} (signals : TableId) (voice : Known) (workers : List (Worker D)) : Type 0 where
  pub each : Each (IsVoiced signals) workers
  pub its : voice.signals ≡ signals
  pub stakes : voice.stakes + length workers ≡ 2 ^ 32
  pub rings : voice.rings ≡ 0

-- one voice after it took in all of these
abbrev pub all_voices : (into : Known) (voices : List Known) → Known
all_voices into [] = into
all_voices into (from ∷ more) = all_voices (both_voices into from) more

-- the voices of workers, in order
abbrev pub voices_of : {D : Type 0} (workers : List (Worker D)) → List Known
voices_of {D} workers = map (λ (worker : Worker D). worker.voice) workers

-- Where a CPU's side ended as it was told to stop, there is the cause: the timer was refused memory, or a worker was, or a disk failed for the eighth time, or a CPU is spent.
abbrev pub StopsForCause : {D : Type 0} (refused : Bool) (sides : List (CpuSide D)) → Type 0
StopsForCause {D} refused sides = (cpu : ℕ) (other : CpuSide D) → cpu < length sides → (get_or sides cpu other).end ≡ Stopped
    → (refused ≡ true) ⊎ (SomeEnds Refused sides ⊎ (SomeEnds Faulted sides ⊎ SomeEnds Spent sides))

-- no flusher is turned no more in the drain as it was told to stop
abbrev pub OutForCause : {D : Type 0} (sides : List (CpuSide D)) → Type 0
OutForCause {D} sides = Each (λ (side : CpuSide D). Each (λ (post : Post D). post.stand ≡ Out Stopped → ⊥) side.posts.items) sides
