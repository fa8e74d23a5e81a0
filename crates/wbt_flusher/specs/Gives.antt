-- What giving the next page of a batch back came to.
use Rattle.std.specs.Prelude.{ℕ, ◌+◌, Bool}
use Rattle.wbt_kit.specs.declared.kit.Kit.{Kit}
use Rattle.wbt_kit.specs.declared.kit.Seats.{Seats}
use Rattle.wbt_flusher.specs.Answers.{IsBack, IsReady}
use Rattle.wbt_flusher.specs.Cut.{StopsAtReturn}
use Rattle.wbt_flusher.specs.Sights.{Sight}
use Rattle.wbt_flusher.specs.Took.{GivesPage, MissesReturn}
use Rattle.wbt_flusher.specs.declared.back.Given.{Given}
use Rattle.wbt_flusher.specs.declared.back.Given.TheVariants.{Passed, Missed, Stopped}
use Rattle.wbt_flusher.specs.declared.plan.FlusherPlan.{FlusherPlan}
use Rattle.wbt_flusher.specs.declared.work.FlusherWork.{FlusherWork}
use Rattle.wbt_flusher.specs.declared.work.Return.{Return}

-- what giving a page back did, by its answer
abbrev pub Gives : (plan : FlusherPlan) (kit : Kit) (said : ℕ → ℕ → Bool → Type 0) (giving : Return) (given : Given) (old new : Sight) → Type 0
Gives plan kit said giving Passed old new = GivesPage plan kit giving old new
Gives plan kit said giving Missed old new = MissesReturn plan kit giving old new
Gives plan kit said giving Stopped old new = StopsAtReturn plan kit said giving old new

-- where the flusher stands then
abbrev pub StandsAfter : (plan : FlusherPlan) (kit : Kit) (giving : Return) (given : Given) (work : FlusherWork) (seats : Seats) → Type 0
StandsAfter plan kit giving Passed work seats = IsBack plan kit (record giving { returned = giving.returned + 1 }) work seats
StandsAfter plan kit giving Missed work seats = IsReady plan kit work seats
StandsAfter plan kit giving Stopped work seats = Unit {0}
