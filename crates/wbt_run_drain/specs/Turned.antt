-- A flusher's turn in the drain, and what is seen of a pass over the flushers of all CPUs.
use Rattle.std.specs.Prelude.{◌≡◌, ◌⊎◌, ℕ, ◌<◌, ◌≤◌, Bool, true, List, set, get_or, length, min, Option}
use Rattle.wbt_flusher.specs.Answers.{FlusherAnswers, IsReady}
use Rattle.wbt_flusher.specs.Cut.{FlusherEnds, FlusherFails, FlusherStops, FlusherWaits}
use Rattle.wbt_flusher.specs.Plans.{Suits}
use Rattle.wbt_flusher.specs.Sights.{Sight, sight}
use Rattle.wbt_flusher.specs.Took.{FlusherTook}
use Rattle.wbt_flusher.specs.Turns.{FaultsRise}
use Rattle.wbt_flusher.specs.declared.plan.FlusherPlan.{FlusherPlan}
use Rattle.wbt_io.specs.Faults.{HasRisen}
use Rattle.wbt_kit.specs.declared.kit.Kit.{Kit}
use Rattle.wbt_kit.specs.declared.kit.Seats.{Seats}
use Rattle.wbt_kit.specs.declared.turn.Turn.{Turn}
use Rattle.wbt_kit.specs.declared.turn.Turn.TheVariants as turn
use Rattle.wbt_journal.specs.Each.{Each}
use Rattle.wbt_run_steps.specs.Kinds.{StepsInTurn}
use Rattle.wbt_table.specs.Layout.{domains}
use Rattle.wbt_run_worker.specs.Answers.{job_by}
use Rattle.wbt_run_worker.specs.declared.round.JobOutcome.{JobOutcome}
use Rattle.wbt_run_worker.specs.declared.round.JobOutcome.TheVariants as job
use Rattle.wbt_run_worker.specs.declared.side.CpuSide.{CpuSide}
use Rattle.wbt_run_worker.specs.declared.side.End.{End}
use Rattle.wbt_run_worker.specs.declared.side.End.TheVariants.{Ended, Halted, Refused}
use Rattle.wbt_run_worker.specs.declared.side.Post.{Post}
use Rattle.wbt_run_worker.specs.declared.side.Stand.{Stand}
use Rattle.wbt_run_worker.specs.declared.side.Stand.TheVariants.{Open, Done, Out}

-- ---- a turn

-- the flusher of this place may take a turn
pub record MayTurn {D : Type 0} (kit : Kit) (at : ℕ) (side : CpuSide D) (seats : Seats) : Type 0 where
  pub there : at < length side.posts.items
  pub suits : (post : Post D) → get_or side.posts.items at post ≡ post → Suits post.flusher.plan kit
  pub ready : (post : Post D) → get_or side.posts.items at post ≡ post → IsReady post.flusher.plan kit post.flusher.work seats

-- where a flusher stands after a turn
abbrev pub stand_by : (answer : JobOutcome) (stand : Stand) → Stand
stand_by job.Over stand = Done
stand_by (job.Ends end) stand = Out end
stand_by other stand = stand

-- how its side ended then: one that was halted ends it, and so does memory that was refused
abbrev pub end_by : (answer : JobOutcome) (end : End) → End
end_by (job.Ends Halted) end = Halted
end_by (job.Ends Refused) end = Refused
end_by other end = end

-- Just one turn in the drain, from state to state: a whole one, a first part of one that was cut off, or nothing but puts of inodes that waited
pub record IsOneTurn (told : ℕ → Type 0) (said : ℕ → ℕ → Bool → Type 0) (plan : FlusherPlan) (kit : Kit) (answer : Turn) (old new : Sight) : Type 0 where
  pub took : answer ≡ turn.Stepped → FlusherTook plan kit true told said old new
  pub halts : answer ≡ turn.Halted → FlusherStops plan kit true told said old new
  pub fails : answer ≡ turn.Faulted → FlusherFails plan kit old new
  pub waits : (now until : ℕ) → (answer ≡ turn.Resting now until) ⊎ (answer ≡ turn.Spent) → FlusherWaits plan kit old new
  pub done : answer ≡ turn.Done → FlusherEnds plan kit old new

-- The flusher of this place took a turn and answered so: its CPU's steps are those of a whole turn, or where it was halted a first part of
-- them. Of its side nothing changed but the flusher, what was told, where the flusher stands, and how the side ended.
pub record HasTurned {D : Type 0} (told : ℕ → Type 0) (said : ℕ → ℕ → Bool → Type 0) (written : D → Option ℕ) (faults : D → ℕ) (kit : Kit) (at : ℕ) (answer : JobOutcome)
    (old new : CpuSide D) (seats seats' : Seats) : Type 0 where
  pub was : Post D
  pub is : Post D
  pub turn : Turn
  pub was_there : get_or old.posts.items at was ≡ was
  pub posts : new.posts.items ≡ set old.posts.items at is
  pub writers : new.writers ≡ old.writers
  pub plan : is.flusher.plan ≡ was.flusher.plan
  pub later : faults was.flusher.disk ≤ faults is.flusher.disk
  pub counted : FaultsRise was.flusher.work.faults is.flusher.work.faults (faults was.flusher.disk) (faults is.flusher.disk)
  pub answers : FlusherAnswers was.flusher.plan kit true told said (HasRisen (faults was.flusher.disk) (faults is.flusher.disk)) turn
      (sight was.flusher.work seats old.log (written was.flusher.disk)) (sight is.flusher.work seats' new.log (written is.flusher.disk))
  pub one : IsOneTurn told said was.flusher.plan kit turn (sight was.flusher.work seats old.log (written was.flusher.disk)) (sight is.flusher.work seats' new.log (written is.flusher.disk))
  pub steps : StepsInTurn (domains kit.throttle.layout) was.flusher.plan.cpu turn seats seats'
  pub answer_is : answer ≡ job_by turn
  pub stands : is.stand ≡ stand_by answer was.stand
  pub ends : new.end ≡ end_by answer old.end

-- ---- a pass

-- the flusher is turned no more
abbrev pub IsLast : (answer : JobOutcome) → Type 0
IsLast job.Over = Unit {0}
IsLast (job.Ends end) = Unit {0}
IsLast other = ⊥

-- in how many ticks the first of the flushers that rest is ready, after a turn more
abbrev pub rest_after : (answer : JobOutcome) (ticks : ℕ) → ℕ
rest_after (job.Resting later) ticks = min ticks later
rest_after other ticks = ticks

-- only the side of this CPU changed, and it has as many flushers
pub record OnlySide {D : Type 0} (cpu : ℕ) (old new : List (CpuSide D)) : Type 0 where
  pub side : CpuSide D
  pub sides : new ≡ set old cpu side
  pub many : length side.posts.items ≡ length (get_or old cpu side).posts.items

-- where the side goes on, none of its flushers is to be turned again: each is done, or out
abbrev pub IsOver : {D : Type 0} (side : CpuSide D) → Type 0
IsOver {D} side = side.end ≡ Ended → Each (λ (post : Post D). post.stand ≡ Open → ⊥) side.posts.items

-- ---- the ends of the sides

-- no side was refused memory
abbrev pub NoneRefused : {D : Type 0} (sides : List (CpuSide D)) → Type 0
NoneRefused {D} sides = Each (λ (side : CpuSide D). side.end ≡ Refused → ⊥) sides

-- none was that wasn't before
abbrev pub NoneRefusedMore : {D : Type 0} (old new : List (CpuSide D)) → Type 0
NoneRefusedMore {D} old new = (cpu : ℕ) (other : CpuSide D) → cpu < length old → (get_or new cpu other).end ≡ Refused → (get_or old cpu other).end ≡ Refused

-- of no two sides both were refused memory that weren't before: the drain stops at the first
abbrev pub StopsAtRefusal : {D : Type 0} (old new : List (CpuSide D)) → Type 0
StopsAtRefusal {D} old new = (one two : ℕ) (other : CpuSide D) → one < length old → two < length old
    → (get_or new one other).end ≡ Refused → (get_or new two other).end ≡ Refused
    → ((get_or old one other).end ≡ Refused → ⊥) → ((get_or old two other).end ≡ Refused → ⊥) → one ≡ two

-- each side that goes on has no flusher that is to be turned again, whatever became of the others
abbrev pub AreOver : {D : Type 0} (sides : List (CpuSide D)) → Type 0
AreOver {D} sides = Each IsOver sides
