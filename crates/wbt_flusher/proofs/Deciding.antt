-- An idle flusher after its notices, where it took an inode that waited, or none.
use Rattle.std.proofs.Common.{◌≡◌, ℕ, [], ◌∷◌, Option, None, refl, ap, ◌∙◌, arith}
use Rattle.wbt_flusher.proofs.Common.{Waiting, CpuJournal, here, Kit, Seats, OnlyQueue, pairs_of, GoesAt, IsReady, Moments, Fits, list_by, sight, HasLists, IsIdle}
use Rattle.wbt_flusher.specs.Ages.{told_at}
use Rattle.wbt_flusher.specs.declared.plan.FlusherPlan.{FlusherPlan}
use Rattle.wbt_flusher.specs.declared.work.FlusherWork.{FlusherWork}
use Rattle.wbt_flusher.proofs.Acting.{Kept}
use Rattle.wbt_flusher.proofs.Ageing.{told_pairs, wheel_more}
use Rattle.wbt_flusher.proofs.Ending.{steady_same}
use Rattle.wbt_flusher.proofs.Going.{at_more, goes_kept, owes_still, ready_went}
use Rattle.wbt_flusher.proofs.Keeping.{debts_same}

-- nothing but what the wheel was told changed
told_kept : (plan : FlusherPlan) (seats : Seats) (was : FlusherWork) (wheel : Option Waiting) → pairs_of wheel ≡ list_by was → Kept plan seats was (record was { wheel = wheel })
told_kept plan seats was wheel same = record {
  phase = refl;
  faults = refl;
  waits = same;
  held = λ page. refl;
  rescans = λ page owes own. own;
  marks = λ inode owes own. own;
  owing_is = λ domain there. omega arith;
  total_is = λ context there. omega arith;
}

pub told_goes : (now : ℕ) (plan : FlusherPlan) (kit : Kit) (seats : Seats) (log : CpuJournal) (was : FlusherWork) (wheel : Option Waiting) → Fits plan kit seats → wheel ≡ told_at now was.wheel
    → GoesAt now plan kit seats seats log log was (record was { wheel = wheel })
told_goes now plan kit seats log was wheel fits is told written has =
    goes_kept plan kit seats was (record was { wheel = wheel }) fits (told_kept plan seats was wheel (ap pairs_of is ∙ told_pairs now was.wheel)) told log written

pub idle_listed : (was is : FlusherWork) → is ≡ record was { wheel = is.wheel } → IsIdle was → IsIdle is
idle_listed was is only idle = record {
  until = idle.until;
  kept = idle.kept;
  phase = ap (λ (w : FlusherWork). w.phase) only ∙ idle.phase;
  batch = ap (λ (w : FlusherWork). w.batch.items) only ∙ idle.batch;
}

pub ready_listed : (now : ℕ) (plan : FlusherPlan) (kit : Kit) (old new : Seats) (before behind : CpuJournal) (was is : FlusherWork) → GoesAt now plan kit old new before behind was is → is ≡ record was { wheel = is.wheel }
    → HasLists plan is → new.cpu ≡ old.cpu → IsReady plan kit was old → IsReady plan kit is new
ready_listed now plan kit old new before behind was is goes only lists cpu ready =
    let told : Moments = record { batches = []; estimates = now ∷ [] } in
    ready_went plan kit told (sight was old before None) (sight is new behind None) (goes told None (here now [])) ready
    (steady_same plan was is lists (ap (λ (w : FlusherWork). w.phase) only) (ap (λ (w : FlusherWork). w.batch.items) only) (ap (λ (w : FlusherWork). w.faults) only) ready.steady)
    (owes_still plan old new (debts_same plan old new cpu) ready.owes_none)

-- where its scan may begin
pub record AtInode (now : ℕ) (plan : FlusherPlan) (kit : Kit) (old new : Seats) (before behind : CpuJournal) (was is : FlusherWork) : Type 0 where
  pub goes : GoesAt now plan kit old new before behind was is
  pub only : is ≡ record was { wheel = is.wheel }
  pub ready : IsReady plan kit is new
  pub idle : IsIdle is

module _ (now : ℕ) (plan : FlusherPlan) (kit : Kit) (old new : Seats) (before mid : CpuJournal) (was : FlusherWork) (wheel : Option Waiting) (noticed : FlusherWork) (ready : IsReady plan kit was old) (idle : IsIdle was)
    (told : wheel ≡ told_at now was.wheel) (notices : GoesAt now plan kit old new before mid (record was { wheel = wheel }) noticed) (only : noticed ≡ record (record was { wheel = wheel }) { wheel = noticed.wheel })
    (queue : OnlyQueue old new) where
  pub at_inode : (behind : CpuJournal) (taken : FlusherWork) → GoesAt now plan kit new new mid behind noticed taken → taken ≡ record noticed { wheel = taken.wheel } → HasLists plan taken
      → AtInode now plan kit old new before behind was taken
  at_inode behind taken takes only' lists =
      let first = at_more now plan kit old old new before before mid was (record was { wheel = wheel }) noticed (told_goes now plan kit old before was wheel ready.fits told) notices in
      let goes = at_more now plan kit old new new before mid behind was noticed taken first takes in
      let its : taken ≡ record was { wheel = taken.wheel } = wheel_more was noticed taken only only' in
      record {
        goes = goes;
        only = its;
        ready = ready_listed now plan kit old new before behind was taken goes its lists queue.cpu ready;
        idle = idle_listed was taken its idle;
      }
