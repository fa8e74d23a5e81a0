-- Columns that are written one after another.
use Rattle.std.proofs.Common.{◌≡◌, ℕ, ◌+◌, ◌<◌, ◌≤◌, List, [], ◌∷◌, ◌++◌, length, take, drop, set, get_or, sym, ◌∙◌, ap, subst, arith, append_assoc, append-nil, unsigned_abs}
use Rattle.std.proofs.lemmas.List.{take_more_set, drop-set-lt, drop_more, take_all, drop_all}
use Rattle.wbt_journal.specs.declared.columns.Column.{Column}
use Rattle.wbt_journal.specs.declared.step.StepEntry.{StepEntry}
use Rattle.wbt_journal.specs.declared.timer.TimerEntry.{TimerEntry}
use Rattle.wbt_journal.specs.Steps.{column_after, columns_after, first_columns}
use Rattle.wbt_journal.specs.Near.{AreNear}

-- ---- what is near

near_front : (most : ℕ) (xs ys : List Column) → AreNear most (xs ++ ys) → AreNear most xs
near_front most [] ys near = tt
near_front most (x ∷ xs) ys near = (near.0, near_front most xs ys near.1)

near_back : (most : ℕ) (xs ys : List Column) → AreNear most (xs ++ ys) → AreNear most ys
near_back most [] ys near = near
near_back most (x ∷ xs) ys near = near_back most xs ys near.1

near_append : (most : ℕ) (xs ys : List Column) → AreNear most xs → AreNear most ys → AreNear most (xs ++ ys)
near_append most [] ys first second = second
near_append most (x ∷ xs) ys first second = (first.0, near_append most xs ys first.1 second)

pub near_more : (least most : ℕ) (xs : List Column) → least ≤ most → AreNear least xs → AreNear most xs
near_more least most [] more near = tt
near_more least most (x ∷ xs) more near = (omega (arith, near.0, more), near_more least most xs more near.1)

pub near_at : (most : ℕ) (xs : List Column) (i : ℕ) (d : Column) → i < length xs → AreNear most (drop i xs) → unsigned_abs (get_or xs i d).count ≤ most
near_at most xs i d less near = (subst (AreNear most) (drop_more xs i d less) near).0

-- ---- one step of the walk: those in front of i are written, those from i on are still to do

pub near_done : (most before : ℕ) (xs : List Column) (i : ℕ) (x : Column) → i < length xs → unsigned_abs x.count ≤ before → before ≤ most
    → AreNear most (take i xs) → AreNear most (take (i + 1) (set xs i x))
near_done most before xs i x less here within near =
    subst (AreNear most) (sym (take_more_set xs i x less)) (near_append most (take i xs) (x ∷ []) near (omega (arith, here, within), tt))

pub near_left : (most : ℕ) (xs : List Column) (i : ℕ) (x d : Column) → i < length xs → AreNear most (drop i xs) → AreNear most (drop (i + 1) (set xs i x))
near_left most xs i x d less near =
    subst (AreNear most) (sym (drop-set-lt (i + 1) xs i x (omega arith))) (subst (AreNear most) (drop_more xs i d less) near).1

pub written : (homes : List ℕ) (step : StepEntry) (xs : List Column) (i : ℕ) (x d : Column) → i < length xs → x ≡ column_after homes i step (get_or xs i d)
    → take (i + 1) (set xs i x) ++ columns_after homes (i + 1) step (drop (i + 1) (set xs i x)) ≡ take i xs ++ columns_after homes i step (drop i xs)
written homes step xs i x d less is =
    ap (λ front. front ++ columns_after homes (i + 1) step (drop (i + 1) (set xs i x))) (take_more_set xs i x less)
    ∙ ap (λ back. take i xs ++ x ∷ [] ++ columns_after homes (i + 1) step back) (drop-set-lt (i + 1) xs i x (omega arith))
    ∙ append_assoc (take i xs) (x ∷ []) (columns_after homes (i + 1) step (drop (i + 1) xs))
    ∙ ap (λ y. take i xs ++ y ∷ columns_after homes (i + 1) step (drop (i + 1) xs)) is
    ∙ ap (λ back. take i xs ++ columns_after homes i step back) (sym (drop_more xs i d less))

-- all are written
pub all_written : (homes : List ℕ) (step : StepEntry) (xs ys : List Column) (i : ℕ) → length xs ≤ i → take i xs ++ columns_after homes i step (drop i xs) ≡ ys → xs ≡ ys
all_written homes step xs ys i past is =
    sym (take_all i xs past) ∙ sym (append-nil (take i xs)) ∙ ap (λ back. take i xs ++ columns_after homes i step back) (sym (drop_all i xs past)) ∙ is

-- before the first step
pub first_near : (domain : ℕ) (timer : List TimerEntry) (bases : List ℕ) → AreNear 0 (first_columns domain timer bases)
first_near domain timer [] = tt
first_near domain timer (base ∷ bases) = (omega arith, first_near (domain + 1) timer bases)
