-- What a CPU owes to counters is paid in the order in which it is owed, by whole numbers.
use Rattle.std.specs.Prelude.{◌≡◌, ℕ, ◌⊎◌, List, [], ◌∷◌, ◌++◌, map, Option, Some, None, ◌-ℤ◌}
use Rattle.wbt_counter.specs.Counters.{folds_of, without_debt}
use Rattle.wbt_counter.specs.Recorded.{sum_made}
use Rattle.wbt_counter.specs.declared.counter.Counter.{Counter}
use Rattle.wbt_counter.specs.declared.record.Fold.{Fold}
use Rattle.wbt_counter.specs.declared.record.Owed.{Owed}
use Rattle.wbt_grant.specs.Setting.{Setting}
use Rattle.wbt_grant.specs.State.{account_of}
use Rattle.wbt_grant.specs.declared.record.CpuRecord.{CpuRecord}
use Rattle.wbt_table.specs.Calls.{IsOf, Made, PayInOrder, is_context, is_global, is_group, record_of, told_fold}

-- the counters to which something is owed, in order
abbrev pub owed_to : (debts : List Owed) → List Counter
owed_to debts = map (λ (o : Owed). o.counter) debts

-- to each counter one thing is owed at most: behind a debt there is no other to its counter
abbrev pub AreOnce : (debts : List Owed) → Type 0
AreOnce [] = Unit {0}
AreOnce (o ∷ more) = (without_debt o.counter more ≡ more) × AreOnce more

-- a fold of the counter, or none
abbrev pub IsFoldOf : (x : Counter) (fold : Option Fold) → Type 0
IsFoldOf x None = Unit {0}
IsFoldOf x (Some fold) = fold.counter ≡ x

-- the counter is paid, with a fold of it or with none, and then this is done
abbrev pub PaysOne : (x : Counter) (folds : List Fold) (Then : List Fold → Type 0) → Type 0
PaysOne x folds Then = (fold : Option Fold) × (later : List Fold) × IsFoldOf x fold × (folds ≡ told_fold fold ++ later) × Then later

-- Counters are paid in the order in which they were owed, each with one fold of it at most: all of them, or a first part; then the next one,
-- of which the fold may be made, is owed still, and so are all behind it.
abbrev pub ArePaidInTurn : (owed : List Counter) (folds : List Fold) (left : List Counter) → Type 0
ArePaidInTurn [] folds left = (folds ≡ []) × (left ≡ [])
ArePaidInTurn (x ∷ more) folds left = PaysOne x folds (λ later. ArePaidInTurn more later left) ⊎ PaysOne x folds (λ later. (later ≡ []) × (left ≡ x ∷ more))

-- each fold is of all that the CPU's events added to its counter and that no fold before it took
abbrev pub AreWhole : (set : Setting) (r : CpuRecord) (folds older : List Fold) → Type 0
AreWhole set r [] older = Unit {0}
AreWhole set r (f ∷ folds) older = (f.delta ≡ (account_of set f.counter r).net -ℤ sum_made (folds_of f.counter older)) × AreWhole set r folds (f ∷ older)

-- at most one of a context's counter, then one of the global domain's, then one of a cgroup's
pub record AreSorted (folds : List Fold) : Type 0 where
  pub first : Option Fold
  pub second : Option Fold
  pub third : Option Fold
  pub are : folds ≡ told_fold first ++ (told_fold second ++ told_fold third)
  pub of_context : IsOf is_context first
  pub of_global : IsOf is_global second
  pub of_group : IsOf is_group third

-- The record came from one to another by additions, folds and clears alone, each of which was due first where it was made.
pub record ArePaid (set : Setting) (cpu : ℕ) (folds : List Fold) (was is : CpuRecord) : Type 0 where
  pub made : List Made
  pub becomes : is ≡ record_of set made was
  pub first_is_due : PayInOrder set cpu made was
  pub in_turn : ArePaidInTurn (owed_to was.debts) folds (owed_to is.debts)
  pub whole : AreWhole set was folds was.folds
  pub sorted : AreSorted folds
