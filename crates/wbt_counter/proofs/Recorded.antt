-- What the CPUs' records tell of a counter.
use Rattle.std.proofs.Common.{◌≡◌, ℕ, suc, ◌+◌, ◌<◌, ◌≤◌, Bool, true, false, cond, eqb, leb, List, [], ◌∷◌, length, ℤ, pos, ◌+ℤ◌, unsigned_abs, sym, refl, ap, ◌∙◌, subst, arith, eq-eqb, ne_eqb, leb-true, ⊎_elim}
use Rattle.std.proofs.lemmas.Int.{ints}
use Rattle.std.proofs.lemmas.Bool.{cases_Bool, cond-true, cond-false, le-leb, lt-leb, leb-false}
use Rattle.wbt_counter.specs.declared.record.Debt.{Debt}
use Rattle.wbt_counter.specs.declared.record.Debt.TheVariants.{Event}
use Rattle.wbt_counter.specs.Sums.{total_ℤ}
use Rattle.wbt_counter.specs.History.{History, sum_of, sum_at, folded_by, folds_by, fold_count}
use Rattle.wbt_counter.specs.Account.{InBatch}
use Rattle.wbt_counter.specs.Recorded.{sum_made, sum_up_to}
use Rattle.wbt_counter.specs.RecordLaws.{FoldsAreAll, SumsAreRecorded, OwnIsTold, EventsAreUnits}
use Rattle.wbt_counter.proofs.Sums.{total_same, total_ℤ_same, total_ℤ_sum, total_ℤ_change, total_ℤ_nothing}
use Rattle.wbt_counter.proofs.Counting.{by_words}
use Rattle.wbt_counter.proofs.Versions.{all_folds}

-- a CPU's list has as many folds as are counted
as_many : (b : Bool) (n : ℕ) (delta : ℤ) (rest : List (ℕ × ℤ)) → length (cond b ((n, delta) ∷ rest) rest) ≡ cond b 1 0 + length rest
as_many true n delta rest = omega arith
as_many false n delta rest = omega arith

counted : (i : ℕ) (folds : History) → length (folds_by i folds) ≡ fold_count i folds
counted i [] = refl
counted i (fold ∷ older) =
    let first = as_many (eqb fold.0 i) (suc (length older)) fold.1 (folds_by i older) in
    let more = counted i older in omega arith

pub folds_are_all : FoldsAreAll
folds_are_all batch cpus folds are =
    total_same cpus (λ i. length (folds_by i folds)) (λ i. fold_count i folds) (λ i less. counted i folds)
    ∙ all_folds batch cpus folds are

-- the first fold of a list, by whether it is there
first_sum : (b : Bool) (v n : ℕ) (delta : ℤ) (rest : List (ℕ × ℤ))
    → sum_up_to v (cond b ((n, delta) ∷ rest) rest) ≡ cond b (cond (leb n v) delta (pos 0)) (pos 0) +ℤ sum_up_to v rest
first_sum true v n delta rest = refl
first_sum false v n delta rest = omega (arith, ints)

-- of the CPUs, c alone has z
one_cpu : (cpus c : ℕ) (z : ℤ) → c < cpus → total_ℤ cpus (λ i. cond (eqb c i) z (pos 0)) ≡ z
one_cpu cpus c z less =
    let change = total_ℤ_change cpus (λ i. cond (eqb c i) z (pos 0)) (λ i. pos 0) c less
    (λ k n. cond-false (eqb c k) z (pos 0) (ne_eqb c k (λ e. n (sym e)))) in
    let here = cond-true (eqb c c) z (pos 0) (eq-eqb c c refl) in
    let none = total_ℤ_nothing cpus (λ i. pos 0) (λ k. refl) in omega (arith, ints)

-- from the last version on the sum is that of all folds
late : (folds : History) (v : ℕ) → length folds ≤ v → sum_at v folds ≡ sum_of folds
late [] v h = refl
late (fold ∷ older) v h =
    cond-false (leb v (length older)) (sum_at v older) (fold.1 +ℤ sum_of older) (lt-leb v (length older) (omega arith))

pub sums_are_recorded : SumsAreRecorded
sums_are_recorded batch cpus [] are v = sym (total_ℤ_nothing cpus (λ i. pos 0) (λ i. refl))
sums_are_recorded batch cpus (fold ∷ older) are v =
    let n : ℕ = suc (length older) in
    let w : ℤ = cond (leb n v) fold.1 (pos 0) in
    let first = λ (i : ℕ). cond (eqb fold.0 i) w (pos 0) in
    let rest = λ (i : ℕ). sum_up_to v (folds_by i older) in
    let each = total_ℤ_same cpus (λ i. sum_up_to v (folds_by i (fold ∷ older))) (λ i. first i +ℤ rest i)
    (λ i less. first_sum (eqb fold.0 i) v n fold.1 (folds_by i older)) in
    let split = total_ℤ_sum cpus first rest in
    let one = one_cpu cpus fold.0 w are.0 in
    let more = sums_are_recorded batch cpus older are.2 v in
    ⊎_elim
    (λ t. let early = leb-true v (length older) t in
    let here = cond-true (leb v (length older)) (sum_at v older) (fold.1 +ℤ sum_of older) t in
    let nothing = cond-false (leb n v) fold.1 (pos 0) (lt-leb n v (omega arith)) in omega (arith, ints))
    (λ t. let past = leb-false v (length older) t in
    let here = cond-false (leb v (length older)) (sum_at v older) (fold.1 +ℤ sum_of older) t in
    let all = cond-true (leb n v) fold.1 (pos 0) (le-leb n v (omega arith)) in
    let last = late older v (omega arith) in omega (arith, ints))
    (cases_Bool (leb v (length older)))

-- the sum of a CPU's folds
first_made : (b : Bool) (n : ℕ) (delta : ℤ) (rest : List (ℕ × ℤ)) (z : ℤ) → z ≡ sum_made rest
    → cond b (delta +ℤ z) z ≡ sum_made (cond b ((n, delta) ∷ rest) rest)
first_made true n delta rest z e = ap (λ (y : ℤ). delta +ℤ y) e
first_made false n delta rest z e = e

folded_is_made : (i : ℕ) (folds : History) → folded_by i folds ≡ sum_made (folds_by i folds)
folded_is_made i [] = refl
folded_is_made i (fold ∷ older) =
    first_made (eqb fold.0 i) (suc (length older)) fold.1 (folds_by i older) (folded_by i older) (folded_is_made i older)

pub own_is_told : OwnIsTold
own_is_told batch cpus exact folds own accounts law i =
    let net = law.unfolded_is i in
    let words = by_words (own i) (accounts i).owes in
    let made : folded_by i folds ≡ sum_made (accounts i).folds = folded_is_made i folds ∙ ap sum_made (sym (law.recorded i)) in
    omega (arith, ints)

unit : (batch : ℕ) (local a : ℤ) → InBatch batch local (Event a) → unsigned_abs a ≡ 1
unit batch local a h = h.1

pub events_are_units : EventsAreUnits
events_are_units batch cpus exact folds own accounts law i a owes =
    unit batch (own i) a (subst (λ (d : Debt). InBatch batch (own i) d) owes (law.in_batch i))
