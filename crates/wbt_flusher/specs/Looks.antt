-- What a look at a scan's next page came to.
use Rattle.std.specs.Prelude.{◌≡◌, ℕ, ◌+◌, ◌⊎◌, Bool, [], ◌∷◌, ◌++◌}
use Rattle.wbt_kit.specs.declared.kit.Seats.{Seats}
use Rattle.wbt_flusher.specs.Did.{IsStopped}
use Rattle.wbt_flusher.specs.Turns.{IsScan}
use Rattle.wbt_flusher.specs.declared.plan.FlusherPlan.{FlusherPlan}
use Rattle.wbt_flusher.specs.declared.scan.Looked.{Looked}
use Rattle.wbt_flusher.specs.declared.scan.Looked.TheVariants.{Passed, Missed, Stopped}
use Rattle.wbt_flusher.specs.declared.work.Phase.TheVariants.{Scanning}
use Rattle.wbt_rules.specs.Places.{page_of}
use Rattle.wbt_rules.specs.declared.scan.Scan.{Scan}
use Rattle.wbt_flusher.specs.declared.work.FlusherWork.{FlusherWork}

-- the scan went on by one page, which it claimed or not
pub record HasPassed (plan : FlusherPlan) (scan next : Scan) (old new : FlusherWork) : Type 0 where
  pub phase : new.phase ≡ Scanning next
  pub stands : IsScan plan new.batch.items next
  pub next_is : next ≡ record scan { passed = scan.passed + 1; noted = next.noted }
  pub faults : new.faults ≡ old.faults
  pub batch : (new.batch.items ≡ old.batch.items ++ page_of scan ∷ []) ⊎ (new.batch.items ≡ old.batch.items)

-- what a look did, by its answer
abbrev pub Looks : (plan : FlusherPlan) (said : ℕ → ℕ → Bool → Type 0) (scan : Scan) (looked : Looked) (seats : Seats) (old new : FlusherWork) → Type 0
Looks plan said scan (Passed next) seats old new = HasPassed plan scan next old new
Looks plan said scan Missed seats old new = new ≡ old
Looks plan said scan Stopped seats old new = (new ≡ old) × IsStopped plan said seats
