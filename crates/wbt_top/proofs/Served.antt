-- How a run over threads ends where the sink doesn't fail.
use Rattle.std.proofs.Common.{◌≡◌, ◌↔◌, Result, Ok, Err, IsOk, refl, sym, subst}
use Rattle.wbt_top.specs.Threads.{IsServed}
use Rattle.wbt_top.specs.declared.ran.RanEnd.{RanEnd}
use Rattle.wbt_top.specs.declared.ran.RanEnd.TheVariants as ran
use Rattle.wbt_top_plain.specs.declared.status.Status.{Status}
use Rattle.wbt_top_plain.specs.declared.status.Status.TheVariants as status

pub no_memory_is_served : (result : Status) → result ≡ status.NoMemory → IsServed result
no_memory_is_served result is = subst IsServed (sym is) tt

-- where the sink doesn't fail, a run ends as one that is served
pub served : {A : Type 0} (written : Result A RanEnd) (result : Status) → ((result ≡ status.Good) ↔ IsOk written) → ((result ≡ status.DiskFault) ↔ (written ≡ Err ran.DiskFault))
    → ((result ≡ status.Spent) ↔ (written ≡ Err ran.Spent)) → ((result ≡ status.NoMemory) ↔ (written ≡ Err ran.NoMemory)) → (written ≡ Err ran.WriteFault → ⊥) → IsServed result
served (Ok x) result good disk spent memory fault = subst IsServed (sym (good.1 refl)) tt
served (Err ran.WriteFault) result good disk spent memory fault = absurd (fault refl)
served (Err ran.DiskFault) result good disk spent memory fault = subst IsServed (sym (disk.1 refl)) tt
served (Err ran.Spent) result good disk spent memory fault = subst IsServed (sym (spent.1 refl)) tt
served (Err ran.NoMemory) result good disk spent memory fault = no_memory_is_served result (memory.1 refl)
