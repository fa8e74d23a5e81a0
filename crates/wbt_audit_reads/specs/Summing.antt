-- Sums of folds by counter and version.
use Rattle.std.specs.Prelude.{◌≡◌, ℕ, ◌+◌, ◌-◌, ◌==◌, nat_le, nat_lt, if◌then◌else◌, Option, Some, None, ℤ, pos, ◌+ℤ◌, List, [], ◌∷◌, length, replicate}
use Rattle.wbt_counter.specs.declared.counter.Counter.{Counter}
use Rattle.wbt_counter.specs.declared.record.Fold.{Fold}
use Rattle.wbt_journal.specs.Counts.{of_counter, sum_to}
use Rattle.wbt_audit_reads.specs.Counting.{sum_at}
use Rattle.wbt_audit_walk.specs.Places.{counter_place}
use Rattle.wbt_audit_walk.specs.Rows.{row_of, cell, push_cell, put_cell}
use Rattle.wbt_audit_walk.specs.declared.places.Places.{Places}

-- the place of a counter in a row of domains and contexts
abbrev pub place_by : (places : Places) (x : Counter) → Option ℕ
place_by places x = counter_place places.domains places.contexts x

-- by counter and version there are the sums of these folds up to the version
abbrev pub AreSumsBy : (places : Places) (folds : List Fold) (sums : List (List ℤ)) → Type 0
AreSumsBy places folds sums = (x : Counter) (p : ℕ) → place_by places x ≡ Some p → (version : ℕ) → cell sums p version ≡ sum_at x folds version

-- ---- zeros

-- by counter there is a zero for each version that these folds give it, and for version 0
abbrev pub AreZeros : (places : Places) (folds : List Fold) (sums : List (List ℤ)) → Type 0
AreZeros places folds sums = (x : Counter) (p : ℕ) → place_by places x ≡ Some p → row_of sums p ≡ replicate (1 + length (of_counter x folds)) (pos 0)

-- one zero more at a place, if there is one
abbrev pub zero_more_at : (place : Option ℕ) (sums : List (List ℤ)) → List (List ℤ)
zero_more_at None sums = sums
zero_more_at (Some place) sums = push_cell sums place (pos 0)

-- one zero more for the counter of a fold
abbrev pub one_zero_more : (places : Places) (fold : Fold) (sums : List (List ℤ)) → List (List ℤ)
one_zero_more places fold sums = zero_more_at (place_by places fold.counter) sums

-- ---- folds by their version

-- the sum of the folds of a version
abbrev pub sum_of : (version : ℕ) (folds : List Fold) → ℤ
sum_of version [] = pos 0
sum_of version (fold ∷ folds) = if fold.version == version then fold.delta +ℤ sum_of version folds else sum_of version folds

-- a value that there is, with more added
abbrev pub add_to : (there : Option ℤ) (sums : List (List ℤ)) (place version : ℕ) (more : ℤ) → List (List ℤ)
add_to None sums place version more = sums
add_to (Some sum) sums place version more = put_cell sums place version (sum +ℤ more)

-- more is added to a value, where it is there
abbrev pub add_cell : (sums : List (List ℤ)) (place version : ℕ) (more : ℤ) → List (List ℤ)
add_cell sums place version more = add_to (cell sums place version) sums place version more

-- a fold's pages are added at its version, at a place if there is one
abbrev pub fold_at : (place : Option ℕ) (fold : Fold) (sums : List (List ℤ)) → List (List ℤ)
fold_at None fold sums = sums
fold_at (Some place) fold sums = add_cell sums place fold.version fold.delta

-- a fold's pages are added at its version
abbrev pub with_fold : (places : Places) (fold : Fold) (sums : List (List ℤ)) → List (List ℤ)
with_fold places fold sums = fold_at (place_by places fold.counter) fold sums

-- of each counter with so many folds there is the sum of these at each of its versions
abbrev pub part_at : (x : Counter) (all folds : List Fold) (version : ℕ) → Option ℤ
part_at x all folds version = if nat_le version (length (of_counter x all)) then Some (sum_of version (of_counter x folds)) else None

-- by counter and version there is the sum of these folds of just that version
abbrev pub AreParts : (places : Places) (all folds : List Fold) (sums : List (List ℤ)) → Type 0
AreParts places all folds sums = (x : Counter) (p : ℕ) → place_by places x ≡ Some p → (version : ℕ) → cell sums p version ≡ part_at x all folds version

-- where the sums were zeros, they become those of each version's folds
abbrev pub Adds : (places : Places) (folds : List Fold) (old new : List (List ℤ)) → Type 0
Adds places folds old new = AreParts places folds [] old → AreParts places folds folds new

-- ---- versions up to another

-- the sum before a version is added to that of the version
abbrev pub before_at : (before : Option ℤ) (place version : ℕ) (sums : List (List ℤ)) → List (List ℤ)
before_at None place version sums = sums
before_at (Some before) place version sums = add_cell sums place version before

-- the sum of the version before is added to that of a version
abbrev pub with_before : (place version : ℕ) (sums : List (List ℤ)) → List (List ℤ)
with_before place version sums = before_at (cell sums place (version - 1)) place version sums

-- by versions the sums of these folds, and the sums up to the version from some on
abbrev pub Parts : (folds : List Fold) (most : ℕ) (row : ℕ → Option ℤ) → Type 0
Parts folds most row = (version : ℕ) → row version ≡ (if nat_le version most then Some (sum_of version folds) else None)

-- by versions the sums of these folds up to the version
abbrev pub Sums : (folds : List Fold) (most : ℕ) (row : ℕ → Option ℤ) → Type 0
Sums folds most row = (version : ℕ) → row version ≡ (if nat_le version most then Some (sum_to version folds) else None)

-- in a row the sums of the versions are added up; no other row changes
pub record AddsUp (place : ℕ) (old new : List (List ℤ)) : Type 0 where
  pub here : (folds : List Fold) (most : ℕ) → Parts folds most (cell old place) → Sums folds most (cell new place)
  pub other : (row : ℕ) → (row ≡ place → ⊥) → row_of new row ≡ row_of old row

-- in every row the sums of the versions are added up
abbrev pub AddsUpAll : (places : Places) (old new : List (List ℤ)) → Type 0
AddsUpAll places old new = (folds : List Fold) → AreParts places folds folds old → AreSumsBy places folds new

-- the versions below one are added up
abbrev pub mixed : (folds : List Fold) (upto version : ℕ) → ℤ
mixed folds upto version = if nat_lt version upto then sum_to version folds else sum_of version folds

-- by versions the sums of these folds, of which those below one are added up
abbrev pub Mixed : (folds : List Fold) (most upto : ℕ) (row : ℕ → Option ℤ) → Type 0
Mixed folds most upto row = (version : ℕ) → row version ≡ (if nat_le version most then Some (mixed folds upto version) else None)

-- so far
pub record AddsSome (place upto : ℕ) (old new : List (List ℤ)) : Type 0 where
  pub here : (folds : List Fold) (most : ℕ) → Parts folds most (cell old place) → Mixed folds most upto (cell new place)
  pub other : (row : ℕ) → (row ≡ place → ⊥) → row_of new row ≡ row_of old row

-- the rows below one are added up
abbrev pub all_mixed : (x : Counter) (folds : List Fold) (p upto version : ℕ) → Option ℤ
all_mixed x folds p upto version = if nat_lt p upto then sum_at x folds version else part_at x folds folds version

-- in the rows below one the sums of the versions are added up
abbrev pub AddsSomeRows : (places : Places) (upto : ℕ) (old new : List (List ℤ)) → Type 0
AddsSomeRows places upto old new =
    (folds : List Fold) → AreParts places folds folds old → (x : Counter) (p : ℕ) → place_by places x ≡ Some p → (version : ℕ) → cell new p version ≡ all_mixed x folds p upto version
