-- A worker's rounds, from the first to the last, and what the last one is where its side ended so.
use Rattle.std.specs.Prelude.{◌≡◌, ℕ, Bool, false, cond, Option, Some, None, List, [], ◌∷◌, ◌++◌}
use Rattle.wbt_journal.specs.Each.{Each}
use Rattle.wbt_kit.specs.declared.kit.Kit.{Kit}
use Rattle.wbt_kit.specs.declared.kit.Seats.{Seats}
use Rattle.wbt_run_worker.specs.Rounds.{Rotates}
use Rattle.wbt_run_worker.specs.Team.{Team, team_of}
use Rattle.wbt_run_worker.specs.declared.round.Round.{Round}
use Rattle.wbt_run_worker.specs.declared.round.Round.TheVariants.{Idle, Ends}
use Rattle.wbt_run_worker.specs.declared.side.CpuSide.{CpuSide}
use Rattle.wbt_run_worker.specs.declared.side.End.{End}
use Rattle.wbt_run_worker.specs.declared.side.End.TheVariants.{Ended, Stopped}
use Rattle.wbt_run_worker.specs.declared.side.Job.{Job}
use Rattle.wbt_run_worker.specs.declared.worker.Worker.{Worker}

-- how a side stands between two rounds: its writers and flushers, whose turn is next, and its seats
pub record Stance : Type 0 where
  pub team : Team
  pub next : Job
  pub seats : Seats

-- the stance of a side on its seats
abbrev pub stance_of : {D : Type 0} (written : D → Option ℕ) (faults : D → ℕ) (side : CpuSide D) (seats : Seats) → Stance
stance_of written faults side seats = record { team = team_of written faults side; next = side.next; seats = seats }

-- rounds, one after another, the first one first
abbrev pub AreRounds : (told : ℕ → Type 0) (said : ℕ → ℕ → Bool → Type 0) (kit : Kit) (rounds : List Round) (old new : Stance) → Type 0
AreRounds told said kit [] old new = new ≡ old
AreRounds told said kit (answer ∷ more) old new =
    (mid : Stance) × Rotates told said kit answer old.next mid.next old.team mid.team old.seats mid.seats × AreRounds told said kit more mid new

-- after such a round there may be another
abbrev pub GoesOn : (answer : Round) → Type 0
GoesOn (Ends end) = ⊥
GoesOn other = Unit {0}

-- the last round of a side that ended so: an idle one in which nobody writes, or one that was cut off so
abbrev pub IsLast : (end : End) (answer : Round) → Type 0
IsLast Ended (Idle ticks writes) = writes ≡ false
IsLast Ended other = ⊥
IsLast end answer = answer ≡ Ends end

-- Such rounds, of which only the last cut the side off. One that heard the bell, or that hasn't ended, may have made none.
abbrev pub EndBy : (end : Option End) (rounds : List Round) → Type 0
EndBy None rounds = Each GoesOn rounds
EndBy (Some Stopped) rounds = Each GoesOn rounds
EndBy (Some end) rounds = (before : List Round) × (last : Round) × (rounds ≡ before ++ last ∷ []) × Each GoesOn before × IsLast end last

-- a worker's rounds, of which the last one is why its side ended, if it has
pub record HasRun (told : ℕ → Type 0) (said : ℕ → ℕ → Bool → Type 0) (kit : Kit) (end : Option End) (old new : Stance) : Type 0 where
  pub rounds : List Round
  pub are : AreRounds told said kit rounds old new
  pub ends : EndBy end rounds

-- how a worker's side ended, if it has
abbrev pub end_of : {D : Type 0} (worker : Worker D) → Option End
end_of worker = cond worker.in_turn None (Some worker.side.end)
