-- How often the disk failed.
use Rattle.std.proofs.Common.{◌≡◌, ℕ, ◌<◌, length, sym, refl, subst, arith}
use Rattle.wbt_flusher.proofs.Common.{CpuJournal, MOST_FAULTS, Scan, Turn, Faulted, IsPlan, HasLists, IsPhase, IsScan, IsSteady}
use Rattle.wbt_flusher.specs.Took.{ReturnsBatch}
use Rattle.wbt_flusher.specs.Turns.{FaultsRise}
use Rattle.wbt_flusher.specs.declared.plan.FlusherPlan.{FlusherPlan}
use Rattle.wbt_flusher.specs.declared.work.FlusherWork.{FlusherWork}
use Rattle.wbt_flusher.proofs.Handing.{turns_back}

-- a turn that doesn't fault and leaves the count leaves it below the last
pub not_last : (answer : Turn) (was is : ℕ) → (answer ≡ Faulted → ⊥) → is ≡ was → was < MOST_FAULTS → (answer ≡ Faulted → is ≡ MOST_FAULTS) × (is ≡ MOST_FAULTS → answer ≡ Faulted)
not_last answer was is stands same few = (λ faults. absurd (stands faults), λ all. absurd (omega arith))

-- the count that was before a part that left it
pub rise_from : (was mid is before now : ℕ) → mid ≡ was → FaultsRise mid is before now → FaultsRise was is before now
rise_from was mid is before now same rise = subst (λ (n : ℕ). FaultsRise n is before now) same rise

-- a batch that is given back is steady
pub turned_back : (plan : FlusherPlan) (scan : Scan) (was is : FlusherWork) (before behind : CpuJournal) → IsPlan plan → HasLists plan is → IsScan plan was.batch.items scan → 0 < length was.batch.items
    → ReturnsBatch plan scan was is before behind → IsSteady plan is
turned_back plan scan was is before behind plan_is lists stands some back = record {
  lists = lists;
  phase = subst (λ (w : FlusherWork). IsPhase plan w.batch.items w.phase) (sym back.work) (turns_back plan scan _ was.batch.items plan_is stands some refl refl);
  few_faults = subst (λ (w : FlusherWork). w.faults < MOST_FAULTS) (sym back.work) back.not_last;
}
