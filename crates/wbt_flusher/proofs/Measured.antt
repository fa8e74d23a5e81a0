-- An idle flusher after its loads and updates.
use Rattle.std.proofs.Common.{◌≡◌, ℕ, [], ◌∷◌, None, ◌∙◌}
use Rattle.wbt_flusher.proofs.Common.{CpuJournal, here, Kit, Seats, GoesAt, GoesQuiet, IsReady, Moments, Fits, KeepsDebts, sight, HasLists, IsIdle, OnlyTallies}
use Rattle.wbt_flusher.specs.declared.plan.FlusherPlan.{FlusherPlan}
use Rattle.wbt_flusher.specs.declared.work.FlusherWork.{FlusherWork}
use Rattle.wbt_flusher.proofs.Ending.{steady_same}
use Rattle.wbt_flusher.proofs.Going.{went_more, goes_kept, ready_went, owes_still}
use Rattle.wbt_flusher.proofs.Keeping.{kept_by}

-- the domains were read, the hard limit was kept, and the estimates were updated
pub measured : (now : ℕ) (plan : FlusherPlan) (kit : Kit) (old mid new : Seats) (before behind : CpuJournal) (was hard is : FlusherWork) → GoesQuiet plan kit old mid → Fits plan kit mid
    → hard.phase ≡ was.phase → hard.batch.items ≡ was.batch.items → hard.faults ≡ was.faults → hard.tallies.items ≡ was.tallies.items → hard.wheel ≡ was.wheel → GoesAt now plan kit mid new before behind hard is → GoesAt now plan kit old new before behind was is
measured now plan kit old mid new before behind was hard is tests fits phase batch faults tallies wheel goes told written has =
    went_more plan kit told (sight was old before written) (sight hard mid before written) (sight is new behind written)
    (went_more plan kit told (sight was old before written) (sight was mid before written) (sight hard mid before written) (tests told was before written)
    (goes_kept plan kit mid was hard fits (kept_by plan mid was hard phase batch faults tallies wheel) told before written))
    (goes told written has)

pub ready_measured : (now : ℕ) (plan : FlusherPlan) (kit : Kit) (old new : Seats) (before behind : CpuJournal) (was hard is : FlusherWork) → GoesAt now plan kit old new before behind was is
    → hard.phase ≡ was.phase → hard.batch ≡ was.batch → hard.faults ≡ was.faults → OnlyTallies hard is → HasLists plan is → IsReady plan kit was old → KeepsDebts plan old new → IsReady plan kit is new
ready_measured now plan kit old new before behind was hard is goes phase batch faults only lists ready debts =
    let told : Moments = record { batches = []; estimates = now ∷ [] } in
    ready_went plan kit told (sight was old before None) (sight is new behind None) (goes told None (here now [])) ready
    (steady_same plan was is lists (only.phase ∙ phase) ((λ i. (only.batch i).items) ∙ (λ i. (batch i).items)) (only.faults ∙ faults) ready.steady) (owes_still plan old new debts ready.owes_none)

pub idle_measured : (was hard is : FlusherWork) → hard.phase ≡ was.phase → hard.batch ≡ was.batch → OnlyTallies hard is → IsIdle was → IsIdle is
idle_measured was hard is phase batch only idle = record {
  until = idle.until;
  kept = idle.kept;
  phase = only.phase ∙ phase ∙ idle.phase;
  batch = (λ i. (only.batch i).items) ∙ (λ i. (batch i).items) ∙ idle.batch;
}
