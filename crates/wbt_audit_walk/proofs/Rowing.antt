-- Values in rows, where one is put or pushed.
use Rattle.std.proofs.Common.{◌≡◌, ℕ, zero, suc, ◌<◌, Some, List, [], ◌∷◌, ◌++◌, length, set, refl, ap, ◌∙◌, arith}
use Rattle.std.specs.List.{slice_get}
use Rattle.std.proofs.lemmas.Grind.{get_or-set_at}
use Rattle.std.proofs.lemmas.List.{get_or-set_other}
use Rattle.wbt_audit_walk.proofs.Common.{row_of, cell}
use Rattle.wbt_audit_walk.specs.Rows.{put_cell}

-- ---- in one row

pub slice_get-set_same : {A : Type 0} (xs : List A) (i : ℕ) (b c : A) → slice_get xs i ≡ Some b → slice_get (set xs i c) i ≡ Some c
slice_get-set_same [] i b c is = cc
slice_get-set_same (x ∷ xs) zero b c is = refl
slice_get-set_same (x ∷ xs) (suc i) b c is = slice_get-set_same xs i b c is

pub slice_get-set_other : {A : Type 0} (xs : List A) (i j : ℕ) (c : A) → (j ≡ i → ⊥) → slice_get (set xs i c) j ≡ slice_get xs j
slice_get-set_other [] i j c apart = refl
slice_get-set_other (x ∷ xs) zero zero c apart = absurd (apart refl)
slice_get-set_other (x ∷ xs) zero (suc j) c apart = refl
slice_get-set_other (x ∷ xs) (suc i) zero c apart = refl
slice_get-set_other (x ∷ xs) (suc i) (suc j) c apart = slice_get-set_other xs i j c (λ e. apart (ap suc e))

pub slice_get-push : {A : Type 0} (xs : List A) (a : A) → slice_get (xs ++ a ∷ []) (length xs) ≡ Some a
slice_get-push [] a = refl
slice_get-push (x ∷ xs) a = slice_get-push xs a

-- ---- in rows

-- a row with a value is there
there_is : {A : Type 0} (rows : List (List A)) (row place : ℕ) (b : A) → cell rows row place ≡ Some b → row < length rows
there_is [] row place b is = cc
there_is (r ∷ rows) zero place b is = omega arith
there_is (r ∷ rows) (suc row) place b is = let k = there_is rows row place b is in omega arith

pub row-set_same : {A : Type 0} (rows : List (List A)) (row : ℕ) (new : List A) → row < length rows → row_of (set rows row new) row ≡ new
row-set_same rows row new lt = get_or-set_at rows row row new [] refl lt

pub row-set_other : {A : Type 0} (rows : List (List A)) (row other : ℕ) (new : List A) → (other ≡ row → ⊥) → row_of (set rows row new) other ≡ row_of rows other
row-set_other rows row other new apart = get_or-set_other rows row other new [] apart

pub cell-put_same : {A : Type 0} (rows : List (List A)) (row place : ℕ) (b c : A) → cell rows row place ≡ Some b → cell (put_cell rows row place c) row place ≡ Some c
cell-put_same rows row place b c is =
    ap (λ r. slice_get r place) (row-set_same rows row (set (row_of rows row) place c) (there_is rows row place b is))
    ∙ slice_get-set_same (row_of rows row) place b c is

pub cell-put_place : {A : Type 0} (rows : List (List A)) (row place other : ℕ) (b c : A) → cell rows row place ≡ Some b → (other ≡ place → ⊥)
    → cell (put_cell rows row place c) row other ≡ cell rows row other
cell-put_place rows row place other b c is apart =
    ap (λ r. slice_get r other) (row-set_same rows row (set (row_of rows row) place c) (there_is rows row place b is))
    ∙ slice_get-set_other (row_of rows row) place other c apart

pub cell-put_row : {A : Type 0} (rows : List (List A)) (row other place at : ℕ) (c : A) → (other ≡ row → ⊥)
    → cell (put_cell rows row place c) other at ≡ cell rows other at
cell-put_row rows row other place at c apart = ap (λ r. slice_get r at) (row-set_other rows row other (set (row_of rows row) place c) apart)
