-- A scan's batch stays within its quota.
use Rattle.std.proofs.Common.{◌≡◌, ℕ, ◌+◌, ◌<◌, ◌≤◌, inl, inr, ◌⊎◌, List, [], ◌∷◌, ◌++◌, length, ap, ◌∙◌, subst, arith}
use Rattle.std.proofs.lemmas.List.{length-append}
use Rattle.wbt_flusher.proofs.Common.{IsPhase, IsSteady, IsWithinQuota, Scan}
use Rattle.wbt_flusher.specs.declared.plan.FlusherPlan.{FlusherPlan}
use Rattle.wbt_flusher.specs.declared.work.FlusherWork.{FlusherWork}
use Rattle.wbt_flusher.specs.declared.work.Phase.{Phase}
use Rattle.wbt_flusher.specs.declared.work.Phase.TheVariants.{Idle, Scanning, Flying, Returning, Failed}

-- between two turns it is below it
pub scan_below : (plan : FlusherPlan) (work : FlusherWork) (scan : Scan) → IsSteady plan work → work.phase ≡ Scanning scan → length work.batch.items < scan.quota
scan_below plan work scan steady at = (subst (λ (p : Phase). IsPhase plan work.batch.items p) at steady.phase).2

-- a page of a scan makes its batch longer by one at most
pub one_more : (was is : List ℕ) (page : ℕ) → (is ≡ was ++ page ∷ []) ⊎ (is ≡ was) → length is ≤ length was + 1
one_more was is page (inl longer) = let e : length is ≡ length was + 1 = ap (λ (l : List ℕ). length l) longer ∙ length-append was (page ∷ []) in omega arith
one_more was is page (inr same) = let e : length is ≡ length was = ap (λ (l : List ℕ). length l) same in omega arith

-- a flusher that is steady is within it
pub steady_within : (plan : FlusherPlan) (batch : List ℕ) (phase : Phase) → IsPhase plan batch phase → IsWithinQuota phase batch
steady_within plan batch (Idle until kept) is = tt
steady_within plan batch (Scanning scan) is = let below = is.2 in omega arith
steady_within plan batch (Flying flight) is = tt
steady_within plan batch (Returning giving) is = tt
steady_within plan batch Failed is = tt
