-- Folds whose versions are right over all CPUs are right one by one.
use Rattle.std.proofs.Common.{◌≡◌, ℕ, ◌+◌, ◌≤◌, Bool, true, false, ◌&&◌, ◌||◌, nat_le, nat_lt, ◌==◌, List, [], ◌∷◌, ◌++◌, length, map, flat_map, count_by, refl, sym, ◌∙◌, ap, subst, arith, append_assoc, zero-add}
use Rattle.std.specs.List.{list_any}
use Rattle.std.proofs.lemmas.Grind.{flat_map-append}
use Rattle.std.proofs.lemmas.List.Sums.{sum_by-cons}
use Rattle.std.proofs.lemmas.Bool.Decides.{Decides-eqb, nat_tests}
use Rattle.wbt_counter.specs.Counters.{is_same}
use Rattle.wbt_counter.specs.Sums.{one_if}
use Rattle.wbt_counter.specs.declared.counter.Counter.{Counter}
use Rattle.wbt_counter.specs.declared.counter.Counter.TheVariants as counter
use Rattle.wbt_counter.specs.declared.record.Fold.{Fold}
use Rattle.wbt_trace.specs.declared.trace.Trace.{Trace}
use Rattle.wbt_journal.specs.declared.entry.CpuJournal.{CpuJournal}
use Rattle.wbt_journal.specs.Counts.{fold_in, folds_in, of_counter, is_version, FoldsUp, folds_after}
use Rattle.wbt_journal.specs.Each.{Each}
use Rattle.wbt_journal.specs.Items.{Item, begins, tells, items_from, all_told}
use Rattle.wbt_journal.specs.Laws.{IsFullFold, VersionsAreOnce, FoldsOnceAreUp}
use Rattle.wbt_journal.specs.Told.{Told, folded, told}
use Rattle.wbt_journal.specs.Walk.{Along}

-- ---- the folds of items

abbrev fold_of : Item → List Fold
fold_of (begins cpu) = []
fold_of (tells cpu entry) = fold_in entry

abbrev folds_of : List Item → List Fold
folds_of items = flat_map fold_of items

of_part : (cpu : ℕ) (part : List Told) (rest : List Item) → folds_of (map (tells cpu) part ++ rest) ≡ folds_in part ++ folds_of rest
of_part cpu [] rest = refl
of_part cpu (entry ∷ part) rest =
    ap (λ more. fold_in entry ++ more) (of_part cpu part rest) ∙ sym (append_assoc (fold_in entry) (folds_in part) (folds_of rest))

of_parts : (cpu : ℕ) (parts : List CpuJournal) → folds_of (items_from cpu (map told parts)) ≡ folds_in (flat_map told parts)
of_parts cpu [] = refl
of_parts cpu (part ∷ parts) =
    of_part cpu (told part) (items_from (cpu + 1) (map told parts)) ∙ ap (λ more. folds_in (told part) ++ more) (of_parts (cpu + 1) parts)
    ∙ sym (flat_map-append fold_in (told part) (flat_map told parts))

-- ---- one version

same_self : (x : Counter) → is_same x x ≡ true
same_self (counter.Domain domain) = (Decides-eqb domain domain).1 refl
same_self (counter.Context context) = (Decides-eqb context context).1 refl

version_self : (fold : Fold) → is_version fold.counter fold.version fold ≡ true
version_self fold =
    ap (λ same. same && (fold.version == fold.version)) (same_self fold.counter) ∙ (Decides-eqb fold.version fold.version).1 refl

-- what is there counts one
one_counted : (p : Fold → Bool) (fold : Fold) (more : List Fold) → count_by p (fold ∷ more) ≡ one_if (p fold) + count_by p more
one_counted p fold more = sum_by-cons (λ x. one_if (p x)) fold more

counted : (p : Fold → Bool) (fold : Fold) (more : List Fold) → p fold ≡ true → count_by p (fold ∷ more) ≡ 1 + count_by p more
counted p fold more is = one_counted p fold more ∙ ap (λ b. one_if b + count_by p more) is

none_by : (p : Fold → Bool) (fold : Fold) (seen : List Fold) (b : Bool) → p fold ≡ b → count_by p (fold ∷ seen) ≡ 0 → (count_by p seen ≡ 0 → list_any p seen ≡ false) → (p fold || list_any p seen) ≡ false
none_by p fold seen true is none rest = absurd (omega (arith, none, counted p fold seen is))
none_by p fold seen false is none rest =
    ap (λ b. b || list_any p seen) is ∙ rest (sym (one_counted p fold seen ∙ ap (λ b. one_if b + count_by p seen) is ∙ zero-add (count_by p seen)) ∙ none)

none_seen : (p : Fold → Bool) (seen : List Fold) → count_by p seen ≡ 0 → list_any p seen ≡ false
none_seen p [] none = refl
none_seen p (fold ∷ seen) none = none_by p fold seen (p fold) refl none (none_seen p seen)

in_range : (v n count : ℕ) → one_if (nat_lt 0 v && nat_le v n) ≡ count → 1 ≤ count → (1 ≤ v) × (v ≤ n) × (count ≡ 1)
in_range v n count is some = (grind (arith, nat_tests), grind (arith, nat_tests), grind (arith, nat_tests))

-- a fold that goes from those ahead to those seen
moved : (p : Fold → Bool) (fold : Fold) (seen more : List Fold) → count_by p seen + count_by p (fold ∷ more) ≡ count_by p (fold ∷ seen) + count_by p more
moved p fold seen more = omega (arith, one_counted p fold more, one_counted p fold seen)

-- ---- along the items

up : (trace : Trace) (all seen : List Fold) (items : List Item) → VersionsAreOnce all → Each (IsFullFold trace) (folds_of items)
    → ((x : Counter) (v : ℕ) → count_by (is_version x v) all ≡ count_by (is_version x v) seen + count_by (is_version x v) (folds_of items))
    → Along (FoldsUp trace all) folds_after seen items
up trace all seen [] once full adds = tt
up trace all seen (begins cpu ∷ items) once full adds = (tt, up trace all seen items once full adds)
up trace all seen (tells cpu (folded fold) ∷ items) once full adds =
    let x = fold.counter in
    let v = fold.version in
    let p = is_version x v in
    let here : count_by p all ≡ count_by p seen + (1 + count_by p (folds_of items)) =
    adds x v ∙ ap (λ n. count_by p seen + n) (counted p fold (folds_of items) (version_self fold)) in
    let range = in_range v (length (of_counter x all)) (count_by p all) (once x v) (omega (arith, here)) in (
      record {
        named = full.0.named;
        full = full.0.full;
        some = range.0;
        within = range.1;
        new = none_seen p seen (omega (arith, here, range.2));
      },
      up trace all (fold ∷ seen) items once full.1 (λ y w. adds y w ∙ moved (is_version y w) fold seen (folds_of items)),
    )
up trace all seen (tells cpu other ∷ items) once full adds = (tt, up trace all seen items once full adds)

pub once_is_up : FoldsOnceAreUp
once_is_up trace j once full =
    let same = of_parts 0 j.cpus in
    up trace (folds_in (all_told j)) [] (items_from 0 (map told j.cpus)) once (subst (Each (IsFullFold trace)) (sym same) full)
    (λ x v. ap (count_by (is_version x v)) (sym same) ∙ sym (zero-add (count_by (is_version x v) (folds_of (items_from 0 (map told j.cpus))))))
