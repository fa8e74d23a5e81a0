-- A CPU's part is fixed by what it tells.
use Rattle.std.proofs.Common.{◌≡◌, ℕ, ◌+◌, ◌<◌, ◌≤◌, List, [], ◌∷◌, ◌++◌, length, drop, flat_map, slice_get, Some, refl, sym, ◌∙◌, ap, arith, inl, inr}
use Rattle.std.proofs.lemmas.List.{drop_more, drop_all}
use Rattle.std.proofs.lemmas.Option.{slice_get_cases}
use Rattle.wbt_journal.specs.Told.{Told, wrote, folded, checked, claimed, batch, done, share, estimated, fault, gave_back, noticed, aged, took, told_entry, one_checked, one_estimated, told, InOrder, NamesInOrder}
use Rattle.wbt_journal.specs.declared.entry.Entry.{Entry}
use Rattle.wbt_journal.specs.declared.entry.Entry.TheVariants as entry
use Rattle.wbt_journal.specs.declared.entry.CheckEntry.{CheckEntry}
use Rattle.wbt_journal.specs.declared.entry.EstEntry.{EstEntry}
use Rattle.wbt_journal.specs.declared.entry.CpuJournal.{CpuJournal}

-- the entries that tell this, which name checks and estimates from these numbers on
abbrev pub entries_from : ℕ → ℕ → List Told → List Entry
entries_from c e [] = []
entries_from c e (wrote t p fresh ∷ more) = entry.Write t p fresh ∷ entries_from c e more
entries_from c e (folded f ∷ more) = entry.Folded f ∷ entries_from c e more
entries_from c e (checked x ∷ more) = entry.Check c ∷ entries_from (c + 1) e more
entries_from c e (claimed f p ∷ more) = entry.Claimed f p ∷ entries_from c e more
entries_from c e (batch f n now until ∷ more) = entry.Batch f n now until ∷ entries_from c e more
entries_from c e (done f p ∷ more) = entry.Done f p ∷ entries_from c e more
entries_from c e (share d w n ∷ more) = entry.Share d w n ∷ entries_from c e more
entries_from c e (estimated x ∷ more) = entry.Est e ∷ entries_from c (e + 1) more
entries_from c e (fault f n ∷ more) = entry.Fault f n ∷ entries_from c e more
entries_from c e (gave_back f p absorbed ∷ more) = entry.Back f p absorbed ∷ entries_from c e more
entries_from c e (noticed f i since ∷ more) = entry.Noticed f i since ∷ entries_from c e more
entries_from c e (aged f i due now ∷ more) = entry.Aged f i due now ∷ entries_from c e more
entries_from c e (took f i ∷ more) = entry.Taken f i ∷ entries_from c e more

abbrev pub checks_of : List Told → List CheckEntry
checks_of [] = []
checks_of (checked x ∷ more) = x ∷ checks_of more
checks_of (other ∷ more) = checks_of more

abbrev pub estimates_of : List Told → List EstEntry
estimates_of [] = []
estimates_of (estimated x ∷ more) = x ∷ estimates_of more
estimates_of (other ∷ more) = estimates_of more

-- the numbers aren't past the lists
within : (n m c e : ℕ) (xs : List Entry) → InOrder n m c e xs → (c ≤ n) × (e ≤ m)
within n m c e [] all = (omega (arith, all.0), omega (arith, all.1))
within n m c e (entry.Check i ∷ more) all = let rest = within n m (c + 1) e more all.1 in (omega (arith, rest.0), rest.1)
within n m c e (entry.Est i ∷ more) all = let rest = within n m c (e + 1) more all.1 in (rest.0, omega (arith, rest.1))
within n m c e (other ∷ more) all = within n m c e more all

-- the item at a place, and the list from there
pub record Here {A : Type 0} (xs : List A) (i : ℕ) : Type 0 where
  pub item : A
  pub is : slice_get xs i ≡ Some item
  pub from : drop i xs ≡ item ∷ drop (i + 1) xs

here : {A : Type 0} (xs : List A) (i : ℕ) → i < length xs → Here xs i
here xs i less = elim (slice_get_cases xs i).1 [
  | inl found ↦ record { item = found.0; is = found.2; from = drop_more xs i found.0 less ∙ ap (λ x. x ∷ drop (i + 1) xs) found.3 }
  | inr past ↦ absurd (omega (arith, past.0, less))
]

abbrev pub all_told : List CheckEntry → List EstEntry → List Entry → List Told
all_told cs es xs = flat_map (told_entry cs es) xs

pub record Back (cs : List CheckEntry) (es : List EstEntry) (c e : ℕ) (xs : List Entry) : Type 0 where
  pub entries : entries_from c e (all_told cs es xs) ≡ xs
  pub checks : checks_of (all_told cs es xs) ≡ drop c cs
  pub estimates : estimates_of (all_told cs es xs) ≡ drop e es

abbrev one_more : (cs : List CheckEntry) (es : List EstEntry) (c e : ℕ) (x : Entry) (xs : List Entry) → Type 0
one_more cs es c e x xs = Back cs es c e (x ∷ xs)

pub back : (cs : List CheckEntry) (es : List EstEntry) (c e : ℕ) (xs : List Entry) → InOrder (length cs) (length es) c e xs → Back cs es c e xs
back cs es c e [] all = record { entries = refl; checks = sym (drop_all c cs (omega (arith, all.0))); estimates = sym (drop_all e es (omega (arith, all.1))) }
back cs es c e (entry.Check i ∷ more) all =
    let rest = back cs es (c + 1) e more all.1 in
    let at = here cs c (omega (arith, (within (length cs) (length es) (c + 1) e more all.1).0)) in
    let told_here : all_told cs es (entry.Check i ∷ more) ≡ checked at.item ∷ all_told cs es more = ap (λ k. one_checked (slice_get cs k) ++ all_told cs es more) all.0 ∙ ap (λ o. one_checked o ++ all_told cs es more) at.is in
    record {
      entries = ap (entries_from c e) told_here ∙ (λ j. entry.Check (sym all.0 j) ∷ rest.entries j);
      checks = ap checks_of told_here ∙ ap (λ l. at.item ∷ l) rest.checks ∙ sym at.from;
      estimates = ap estimates_of told_here ∙ rest.estimates;
    }
back cs es c e (entry.Est i ∷ more) all =
    let rest = back cs es c (e + 1) more all.1 in
    let at = here es e (omega (arith, (within (length cs) (length es) c (e + 1) more all.1).1)) in
    let told_here : all_told cs es (entry.Est i ∷ more) ≡ estimated at.item ∷ all_told cs es more = ap (λ k. one_estimated (slice_get es k) ++ all_told cs es more) all.0 ∙ ap (λ o. one_estimated o ++ all_told cs es more) at.is in
    record {
      entries = ap (entries_from c e) told_here ∙ (λ j. entry.Est (sym all.0 j) ∷ rest.entries j);
      checks = ap checks_of told_here ∙ rest.checks;
      estimates = ap estimates_of told_here ∙ ap (λ l. at.item ∷ l) rest.estimates ∙ sym at.from;
    }
back cs es c e (other ∷ more) all = let rest = back cs es c e more all in record { entries = ap (λ l. other ∷ l) rest.entries; checks = rest.checks; estimates = rest.estimates }

pub part_once : (p q : CpuJournal) → NamesInOrder p → NamesInOrder q → told p ≡ told q → p ≡ q
part_once p q a b is =
    let one = back p.checks p.estimates 0 0 p.entries a in
    let two = back q.checks q.estimates 0 0 q.entries b in
    let entries : p.entries ≡ q.entries = sym one.entries ∙ ap (entries_from 0 0) is ∙ two.entries in
    let checks : p.checks ≡ q.checks = sym one.checks ∙ ap checks_of is ∙ two.checks in
    let estimates : p.estimates ≡ q.estimates = sym one.estimates ∙ ap estimates_of is ∙ two.estimates in
    (λ i. record { entries = entries i; checks = checks i; estimates = estimates i })
