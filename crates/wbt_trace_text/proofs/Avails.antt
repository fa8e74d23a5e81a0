-- Lines of available pages.
use Rattle.std.proofs.Common.{◌≡◌, List, [], ◌∷◌, ◌++◌, Some, refl}
use Rattle.wbt_trace.specs.Sofar.{last_from}
use Rattle.wbt_trace.specs.declared.trace.Avail.{Avail}

pub last_from_push : (lines : List Avail) (a : Avail) → last_from (lines ++ a ∷ []) ≡ Some a.from
last_from_push [] a = refl
last_from_push (x ∷ []) a = refl
last_from_push (x ∷ y ∷ lines) a = last_from_push (y ∷ lines) a
