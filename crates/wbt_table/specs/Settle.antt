-- What the inner steps of settling find and leave, slot by slot: the context's counter first, then the global domain's, then the
-- cgroup's.
use Rattle.std.specs.Prelude.{◌≡◌, ◌≢◌, ℕ, suc, ◌≤◌, Bool, true, false, cond, ◌==◌, Option, Some, None, List, [], ◌∷◌, ◌++◌}
use Rattle.wbt_counter.specs.declared.counter.Counter.{Counter}
use Rattle.wbt_counter.specs.declared.counter.Counter.TheVariants.{Domain, Context}
use Rattle.wbt_counter.specs.declared.record.Fold.{Fold}
use Rattle.wbt_counter.specs.declared.record.Owed.{Owed}
use Rattle.wbt_grant.specs.declared.record.CpuRecord.{CpuRecord}
use Rattle.wbt_grant.specs.Setting.{Setting}
use Rattle.wbt_table.specs.declared.layout.Layout.{Layout}
use Rattle.wbt_table.specs.declared.state.CpuState.{CpuState}
use Rattle.wbt_table.specs.declared.state.Due.{Due}
use Rattle.wbt_table.specs.declared.state.Slot.{Slot}
use Rattle.wbt_table.specs.declared.state.Slot.TheVariants.{First, Second, Third}
use Rattle.wbt_table.specs.declared.settle.Paid.{Paid}
use Rattle.wbt_table.specs.Layout.{HasCounter}
use Rattle.wbt_table.specs.History.{log_of, LogsSteps}
use Rattle.wbt_table.specs.Seat.{Seated, LogComes}
use Rattle.wbt_table.specs.Calls.{Made, record_of, PayInOrder, Asked, told_fold}

-- the place of a counter, and of a slot, in the order in which they are paid
abbrev pub rank : (x : Counter) → ℕ
rank (Context k) = 0
rank (Domain d) = cond (d == 0) 1 2

-- the place of a slot among these, 0 to 2
abbrev pub rank_of : (slot : Slot) → ℕ
rank_of First = 0
rank_of Second = 1
rank_of Third = 2

-- what the code keeps, with another debt in a slot
abbrev pub with_due : (slot : Slot) (due : Option Due) (state : CpuState) → CpuState
with_due First due state = record state { first = due }
with_due Second due state = record state { second = due }
with_due Third due state = record state { third = due }

-- no debt to a counter before a place
abbrev pub AreFrom : (least : ℕ) (debts : List Owed) → Type 0
AreFrom least [] = Unit {0}
AreFrom least (owed ∷ more) = (least ≤ rank owed.counter) × AreFrom least more

-- nothing is owed before the slot, or to it and before
abbrev pub OwesFrom : (slot : Slot) (r : CpuRecord) → Type 0
OwesFrom slot r = AreFrom (rank_of slot) r.debts

-- nothing is owed to the slot or before it
abbrev pub OwesLater : (slot : Slot) (r : CpuRecord) → Type 0
OwesLater slot r = AreFrom (suc (rank_of slot)) r.debts

-- this is owed to the slot, and stands first
pub record OwesFirst (key : Layout) (slot : Slot) (owed : Owed) (r : CpuRecord) : Type 0 where
  pub there : HasCounter key owed.counter
  pub in_slot : rank owed.counter ≡ rank_of slot
  pub more : List Owed
  pub debts : r.debts ≡ owed ∷ more
  pub later : AreFrom (suc (rank_of slot)) more

-- a fold that is told is of a counter of the slot
abbrev pub IsFoldOf : (slot : Slot) (told : Option Fold) → Type 0
IsFoldOf slot None = Unit {0}
IsFoldOf slot (Some one) = rank one.counter ≡ rank_of slot

-- what paying a slot makes of the record
pub record PaysSlot (set : Setting) (c : ℕ) (slot : Slot) (said : ℕ → Bool → Type 0) (paid : Paid) (r new : CpuRecord) : Type 0 where
  pub made : List Made
  pub becomes : new ≡ record_of set made r
  pub in_order : PayInOrder set c made r
  pub asked : Asked set said made r
  pub all_paid : paid.all ≡ true → OwesLater slot new
  pub stopped : paid.all ≡ false → said new.steps false
  pub left : paid.all ≡ false → new.debts ≢ []
  pub folds : new.folds ≡ told_fold paid.fold ++ r.folds
  pub its_fold : IsFoldOf slot paid.fold

-- and of the log
abbrev pub PaysLogged : (set : Setting) (c : ℕ) (slot : Slot) (said : ℕ → Bool → Type 0) (paid : Paid) (before after : Seated) (r new : CpuRecord) → Type 0
PaysLogged set c slot said paid before after r new =
    (pays : PaysSlot set c slot said paid r new) × LogComes c (LogsSteps set (log_of set c) pays.made) before after
