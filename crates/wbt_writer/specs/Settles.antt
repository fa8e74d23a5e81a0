-- The debts of a CPU to counters are paid.
use Rattle.std.specs.Prelude.{◌≡◌}
use Rattle.wbt_counter.specs.declared.record.Fold.{Fold}
use Rattle.wbt_journal.specs.Told.{Told, folded}
use Rattle.wbt_kit.specs.declared.kit.Kit.{Kit}
use Rattle.wbt_table.specs.Layout.{HasCounter}

-- a fold of a counter that there is
pub record IsFoldAt (kit : Kit) (entry : Told) : Type 0 where
  pub fold : Fold
  pub told : entry ≡ folded fold
  pub counter : HasCounter kit.throttle.layout fold.counter
