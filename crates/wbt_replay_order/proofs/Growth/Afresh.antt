-- Along a CPU's part no count is older than what the part told before, with one more entry at its end.
use Rattle.std.proofs.Common.{◌≡◌, ℕ, zero, suc, ◌+◌, ◌<◌, ◌≤◌, true, List, [], ◌∷◌, ◌++◌, length, map, flat_map, Option, Some, None, refl, sym, ◌∙◌, ap, subst, arith}
use Rattle.std.specs.List.{slice_get, list_all}
use Rattle.std.proofs.lemmas.List.{append-nil, map-append}
use Rattle.wbt_replay_order.proofs.Common.{is_same, Counter, Fold, Load, Version, fold_in, loads_in, loads_of, is_fresh_count, CountsAreFresh, versions_after, Each, effect, of_part, tells, Told, InOrder, one_checked, one_estimated, told_entry, Along, CheckEntry, Entry, EstEntry, flat_append, and_both}
use Rattle.wbt_journal.specs.Counts.{versions_in, version_of_fold, versions_of, is_behind}
use Rattle.wbt_journal.specs.Effects.{listed}
use Rattle.wbt_journal.specs.Walk.{after}
use Rattle.wbt_journal.specs.declared.entry.Entry.TheVariants as entry
use Rattle.wbt_run_laws.proofs.Lists.{not_ahead, list_all_append}

-- ---- the walk

abbrev pub told_in : (checks : List CheckEntry) (ests : List EstEntry) (entries : List Entry) → List Told
told_in checks ests entries = flat_map (told_entry checks ests) entries

abbrev pub FreshIn : (told : List Told) → Type 0
FreshIn told = Along CountsAreFresh versions_after [] (map (tells 0) told)

-- what the CPU has seen
abbrev pub seen_in : (told : List Told) → List Version
seen_in told = after versions_after [] (map (tells 0) told)

along_both : {S A : Type 0} (Ok : S → A → Type 0) (next : S → A → S) (s : S) (xs ys : List A) → Along Ok next s xs → Along Ok next (after next s xs) ys → Along Ok next s (xs ++ ys)
along_both Ok next s [] ys a b = b
along_both Ok next s (x ∷ xs) ys a b = (a.0, along_both Ok next (next s x) xs ys a.1 b)

-- with more at its end
pub told_more : (checks : List CheckEntry) (ests : List EstEntry) (entries : List Entry) (e : Entry) → told_in checks ests (entries ++ e ∷ []) ≡ told_in checks ests entries ++ told_entry checks ests e
told_more checks ests entries e =
    flat_append (told_entry checks ests) entries (e ∷ []) ∙ ap (λ (l : List Told). told_in checks ests entries ++ l) (append-nil (told_entry checks ests e))

pub fresh_more : (told new : List Told) → FreshIn told → Along CountsAreFresh versions_after (seen_in told) (map (tells 0) new) → FreshIn (told ++ new)
fresh_more told new h more =
    subst (Along CountsAreFresh versions_after []) (sym (map-append (tells 0) told new))
    (along_both CountsAreFresh versions_after [] (map (tells 0) told) (map (tells 0) new) h more)

pub fresh_logged : (checks : List CheckEntry) (ests : List EstEntry) (entries : List Entry) (e : Entry) → FreshIn (told_in checks ests entries)
    → Along CountsAreFresh versions_after (seen_in (told_in checks ests entries)) (map (tells 0) (told_entry checks ests e)) → FreshIn (told_in checks ests (entries ++ e ∷ []))
fresh_logged checks ests entries e h more = subst FreshIn (sym (told_more checks ests entries e)) (fresh_more (told_in checks ests entries) (told_entry checks ests e) h more)

-- ---- lists of checks and estimates that grow

pub slice_more : {A : Type 0} (xs ys : List A) (i : ℕ) → i < length xs → slice_get (xs ++ ys) i ≡ slice_get xs i
slice_more [] ys i less = absurd (omega (arith, less))
slice_more (x ∷ xs) ys zero less = refl
slice_more (x ∷ xs) ys (suc i) less = slice_more xs ys i (omega (arith, less))

pub slice_last : {A : Type 0} (xs : List A) (x : A) → slice_get (xs ++ x ∷ []) (length xs) ≡ Some x
slice_last [] x = refl
slice_last (y ∷ xs) x = slice_last xs x

in_order_most : (n m check est : ℕ) (entries : List Entry) → InOrder n m check est entries → (check ≤ n) × (est ≤ m)
in_order_most n m check est [] h = (omega (arith, h.0), omega (arith, h.1))
in_order_most n m check est (entry.Check place ∷ more) h = let rest = in_order_most n m (check + 1) est more h.1 in (omega (arith, rest.0), rest.1)
in_order_most n m check est (entry.Est place ∷ more) h = let rest = in_order_most n m check (est + 1) more h.1 in (rest.0, omega (arith, rest.1))
in_order_most n m check est (other ∷ more) h = in_order_most n m check est more h

module _ (checks checks2 : List CheckEntry) (ests ests2 : List EstEntry) (same_checks : (i : ℕ) → i < length checks → slice_get checks2 i ≡ slice_get checks i)
    (same_ests : (i : ℕ) → i < length ests → slice_get ests2 i ≡ slice_get ests i) where
  pub told_same : (check est : ℕ) (entries : List Entry) → InOrder (length checks) (length ests) check est entries → told_in checks2 ests2 entries ≡ told_in checks ests entries
  told_same check est [] h = refl
  told_same check est (entry.Check place ∷ more) h =
      let most = in_order_most (length checks) (length ests) (check + 1) est more h.1 in
      ap (λ (which : Option CheckEntry). one_checked which ++ told_in checks2 ests2 more) (same_checks place (omega (arith, h.0, most.0)))
      ∙ ap (λ (l : List Told). one_checked (slice_get checks place) ++ l) (told_same (check + 1) est more h.1)
  told_same check est (entry.Est place ∷ more) h =
      let most = in_order_most (length checks) (length ests) check (est + 1) more h.1 in
      ap (λ (which : Option EstEntry). one_estimated which ++ told_in checks2 ests2 more) (same_ests place (omega (arith, h.0, most.1)))
      ∙ ap (λ (l : List Told). one_estimated (slice_get ests place) ++ l) (told_same check (est + 1) more h.1)
  told_same check est (other ∷ more) h = ap (λ (l : List Told). told_entry checks ests other ++ l) (told_same check est more h)

pub fresh_checked : (check : CheckEntry) (checks : List CheckEntry) (ests : List EstEntry) (entries : List Entry) → InOrder (length checks) (length ests) 0 0 entries
    → Each (λ (load : Load). is_fresh_count (seen_in (told_in checks ests entries)) load ≡ true) (loads_of check) → FreshIn (told_in checks ests entries)
    → FreshIn (told_in (checks ++ check ∷ []) ests (entries ++ entry.Check (length checks) ∷ []))
fresh_checked check checks ests entries order fresh h =
    let longer : List CheckEntry = checks ++ check ∷ [] in
    let same = told_same checks longer ests ests (slice_more checks (check ∷ [])) (λ i less. refl) 0 0 entries order in
    fresh_logged longer ests entries (entry.Check (length checks)) (subst FreshIn (sym same) h)
    (subst (λ (which : Option CheckEntry). Along CountsAreFresh versions_after (seen_in (told_in longer ests entries)) (map (tells 0) (one_checked which))) (sym (slice_last checks check))
    (subst (λ (l : List Told). Each (λ (load : Load). is_fresh_count (seen_in l) load ≡ true) (loads_of check)) (sym same) fresh, tt))

pub fresh_estimated : (est : EstEntry) (checks : List CheckEntry) (ests : List EstEntry) (entries : List Entry) → InOrder (length checks) (length ests) 0 0 entries
    → FreshIn (told_in checks ests entries) → FreshIn (told_in checks (ests ++ est ∷ []) (entries ++ entry.Est (length ests) ∷ []))
fresh_estimated est checks ests entries order h =
    let longer : List EstEntry = ests ++ est ∷ [] in
    let same = told_same checks checks ests longer (λ i less. refl) (slice_more ests (est ∷ [])) 0 0 entries order in
    fresh_logged checks longer entries (entry.Est (length ests)) (subst FreshIn (sym same) h)
    (subst (λ (which : Option EstEntry). Along CountsAreFresh versions_after (seen_in (told_in checks longer entries)) (map (tells 0) (one_estimated which))) (sym (slice_last ests est)) (tt, tt))

-- ---- what is behind a version

module _ (x : Counter) (version : ℕ) where
  abbrev pub FoldBehind : (fold : Fold) → Type 0
  FoldBehind fold = is_same x fold.counter ≡ true → fold.version ≤ version

  abbrev pub LoadBehind : (load : Load) → Type 0
  LoadBehind load = is_same x load.counter ≡ true → load.count.version ≤ version

  folds_behind : (which : Option Fold) → Each FoldBehind (listed which) → list_all (is_behind x version) (of_part [] version_of_fold which) ≡ true
  folds_behind None each = refl
  folds_behind (Some fold) each = and_both _ _ (not_ahead (is_same x fold.counter) fold.version version each.0) refl

  loads_behind : (loads : List Load) → Each LoadBehind loads → list_all (is_behind x version) (versions_of loads) ≡ true
  loads_behind [] each = refl
  loads_behind (load ∷ loads) each = and_both _ _ (not_ahead (is_same x load.counter) load.count.version version each.0) (loads_behind loads each.1)

  pub all_behind : (told : List Told) (seen : List Version) → list_all (is_behind x version) seen ≡ true → Each (λ (e : Told). Each FoldBehind (fold_in e)) told
      → Each (λ (e : Told). Each LoadBehind (loads_in e)) told → list_all (is_behind x version) (after versions_after seen (map (tells 0) told)) ≡ true
  all_behind [] seen h folds loads = h
  all_behind (e ∷ told) seen h folds loads =
      all_behind told (versions_in e ++ seen)
      (list_all_append (is_behind x version) (versions_in e) seen
      (list_all_append (is_behind x version) (of_part [] version_of_fold (effect e).fold) (versions_of (loads_in e)) (folds_behind (effect e).fold folds.0) (loads_behind (loads_in e) loads.0)) h)
      folds.1 loads.1
