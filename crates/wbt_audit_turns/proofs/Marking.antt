-- Marks change the faults of decisions and of where checks stand alone.
use Rattle.std.proofs.Common.{◌≡◌, ℕ, zero, suc, ◌+◌, Bool, ◌&&◌, ◌||◌, ◌==◌, not, cond, nat_le, nat_lt, Option, Some, None, List, [], ◌∷◌, ◌++◌, length, map, flat_map, refl, sym, ◌∙◌, ap, count_by}
use Rattle.std.specs.Prelude.{slice_get}
use Rattle.std.specs.List.{sum_by, list_any, list_all}
use Rattle.std.proofs.lemmas.List.{map-append}
use Rattle.std.proofs.lemmas.List.Sums.{sum_by-cons}
use Rattle.wbt_audit_walk.proofs.Common.{TaskLine, Trace, CheckEntry, CpuJournal, Entry, EstEntry, Ending, Journal, with_mark, with_marks, reads_of, fold_in, folds_in, fold_fault, folds_after, count_fault, versions_after, Estimate, DomainLine, effect, of_part, opened_at, estimates_of, estimate_in, decision_at, sight_after, estimate_fault, flushers_after, first_flushers, Item, begins, tells, items_from, items_of, item_size, parts_of, all_told, is_even_below, is_bounded, is_nothing, has_all_steps, MOST_FAULTS, contexts, domains, pages_of_task, page_fault, writes_after, triple_fault, triples_after, fraction_fault, periods_after, periods_from, added_to, Told, wrote, folded, checked, claimed, batch, done, share, estimated, fault, gave_back, noticed, aged, took, told, told_entry, first_cpu_line, turn_fault, wait_fault, lists_after, first_lists, first_fault, first_failed, first_of, unless}
use Rattle.wbt_journal.specs.declared.entry.Entry.TheVariants as entry
use Rattle.wbt_journal.specs.declared.journal.Ending.TheVariants as ending
use Rattle.wbt_journal.specs.Checks.{part_with_marks}
use Rattle.wbt_journal.specs.Estimates.{Named, is_no_newer, next_fault, Sight, no_sight}
use Rattle.wbt_journal.specs.Leaves.{dirties, claims, completes, redirties, absorbs, left_dirty, left_writeback, is_even, is_left_from, is_page, is_fault_of, some_failed, is_page_step, wrote_all, writes_of, ends_by}
use Rattle.wbt_num.specs.declared.most.TheConstants.{MOST_PAGE_STEPS}
use Rattle.wbt_journal.specs.Machine.{pages}
use Rattle.wbt_journal.specs.Reads.{share_fault, Period, is_new_enough, added_by}
use Rattle.wbt_journal.specs.Told.{one_checked, one_estimated}
use Rattle.wbt_journal.specs.Verdict.{census_at, first_left_line}
use Rattle.wbt_audit_turns.specs.Marks as marks
use Rattle.wbt_audit_turns.specs.Marks.{FaultsStay, MarksChangeNoOther}

module _ (trace : Trace) where
  abbrev pub marked : (told : Told) → Told
  marked told = marks.marked trace told

  abbrev pub marked_item : (item : Item) → Item
  marked_item item = marks.marked_item trace item

  -- what is the same of a check with its mark is the same of each entry
  pub by_check : {A : Type 0} (f : Told → A) → ((check : CheckEntry) → f (checked (with_mark trace check)) ≡ f (checked check)) → (told : Told) → f (marked told) ≡ f told
  by_check f same (checked check) = same check
  by_check f same (wrote task page fresh) = refl
  by_check f same (folded fold) = refl
  by_check f same (claimed flusher page) = refl
  by_check f same (batch flusher pages now until) = refl
  by_check f same (done flusher page) = refl
  by_check f same (share domain context n) = refl
  by_check f same (estimated est) = refl
  by_check f same (fault flusher pages) = refl
  by_check f same (gave_back flusher page absorbed) = refl
  by_check f same (noticed flusher inode since) = refl
  by_check f same (aged flusher inode due now) = refl
  by_check f same (took flusher inode) = refl

  -- ---- the lists of a journal

  one_marked : (checks : List CheckEntry) (place : ℕ) → one_checked (slice_get (map (with_mark trace) checks) place) ≡ map marked (one_checked (slice_get checks place))
  one_marked [] place = refl
  one_marked (check ∷ checks) zero = refl
  one_marked (check ∷ checks) (suc place) = one_marked checks place

  est_marked : (which : Option EstEntry) → one_estimated which ≡ map marked (one_estimated which)
  est_marked None = refl
  est_marked (Some est) = refl

  entry_marked : (checks : List CheckEntry) (estimates : List EstEntry) (e : Entry) → told_entry (map (with_mark trace) checks) estimates e ≡ map marked (told_entry checks estimates e)
  entry_marked checks estimates (entry.Write task page fresh) = refl
  entry_marked checks estimates (entry.Folded fold) = refl
  entry_marked checks estimates (entry.Check place) = one_marked checks place
  entry_marked checks estimates (entry.Claimed flusher page) = refl
  entry_marked checks estimates (entry.Batch flusher pages now until) = refl
  entry_marked checks estimates (entry.Done flusher page) = refl
  entry_marked checks estimates (entry.Share domain context n) = refl
  entry_marked checks estimates (entry.Est place) = est_marked (slice_get estimates place)
  entry_marked checks estimates (entry.Fault flusher pages) = refl
  entry_marked checks estimates (entry.Back flusher page absorbed) = refl
  entry_marked checks estimates (entry.Noticed flusher inode since) = refl
  entry_marked checks estimates (entry.Aged flusher inode due now) = refl
  entry_marked checks estimates (entry.Taken flusher inode) = refl

  entries_marked : (checks : List CheckEntry) (estimates : List EstEntry) (es : List Entry)
      → flat_map (told_entry (map (with_mark trace) checks) estimates) es ≡ map marked (flat_map (told_entry checks estimates) es)
  entries_marked checks estimates [] = refl
  entries_marked checks estimates (e ∷ es) =
      (λ i. entry_marked checks estimates e i ++ entries_marked checks estimates es i)
      ∙ sym (map-append marked (told_entry checks estimates e) (flat_map (told_entry checks estimates) es))

  part_marked : (part : CpuJournal) → told (part_with_marks trace part) ≡ map marked (told part)
  part_marked part = entries_marked part.checks part.estimates part.entries

  parts_marked : (parts : List CpuJournal) → map told (map (part_with_marks trace) parts) ≡ map (map marked) (map told parts)
  parts_marked [] = refl
  parts_marked (part ∷ parts) = λ i. part_marked part i ∷ parts_marked parts i

  all_marked : (parts : List CpuJournal) → flat_map told (map (part_with_marks trace) parts) ≡ map marked (flat_map told parts)
  all_marked [] = refl
  all_marked (part ∷ parts) = (λ i. part_marked part i ++ all_marked parts i) ∙ sym (map-append marked (told part) (flat_map told parts))

  tells_marked : (cpu : ℕ) (part : List Told) → map (tells cpu) (map marked part) ≡ map marked_item (map (tells cpu) part)
  tells_marked cpu [] = refl
  tells_marked cpu (told ∷ part) = ap (λ rest. tells cpu (marked told) ∷ rest) (tells_marked cpu part)

  items_marked : (cpu : ℕ) (parts : List (List Told)) → items_from cpu (map (map marked) parts) ≡ map marked_item (items_from cpu parts)
  items_marked cpu [] = refl
  items_marked cpu (part ∷ parts) = ap (λ rest. begins cpu ∷ rest)
      ((λ i. tells_marked cpu part i ++ items_marked (cpu + 1) parts i) ∙ sym (map-append marked_item (map (tells cpu) part) (items_from (cpu + 1) parts)))

  pub items_are : (j : Journal) → items_of (with_marks trace j) ≡ map marked_item (items_of j)
  items_are j = ap (items_from 0) (parts_marked j.cpus) ∙ items_marked 0 (parts_of j)

  pub all_are : (j : Journal) → all_told (with_marks trace j) ≡ map marked (all_told j)
  all_are j = all_marked j.cpus

  -- ---- what is the same of marked lists

  flat_same : {A : Type 0} (f : Told → List A) → ((check : CheckEntry) → f (checked (with_mark trace check)) ≡ f (checked check)) → (xs : List Told) → flat_map f (map marked xs) ≡ flat_map f xs
  flat_same f same [] = refl
  flat_same f same (x ∷ xs) = λ i. by_check f same x i ++ flat_same f same xs i

  sum_same : (f : Told → ℕ) → ((check : CheckEntry) → f (checked (with_mark trace check)) ≡ f (checked check)) → (xs : List Told) → sum_by f (map marked xs) ≡ sum_by f xs
  sum_same f same [] = refl
  sum_same f same (x ∷ xs) = sum_by-cons f (marked x) (map marked xs) ∙ (λ i. by_check f same x i + sum_same f same xs i) ∙ sym (sum_by-cons f x xs)

  any_same : (f : Told → Bool) → ((check : CheckEntry) → f (checked (with_mark trace check)) ≡ f (checked check)) → (xs : List Told) → list_any f (map marked xs) ≡ list_any f xs
  any_same f same [] = refl
  any_same f same (x ∷ xs) = λ i. by_check f same x i || any_same f same xs i

  pub size_same : (x : Item) → item_size (marked_item x) ≡ item_size x
  size_same (begins cpu) = refl
  size_same (tells cpu told) = by_check (λ t. item_size (tells cpu t)) (λ check. refl) told

  sizes_same : (xs : List Item) → sum_by item_size (map marked_item xs) ≡ sum_by item_size xs
  sizes_same [] = refl
  sizes_same (x ∷ xs) = sum_by-cons item_size (marked_item x) (map marked_item xs) ∙ (λ i. size_same x i + sizes_same xs i) ∙ sym (sum_by-cons item_size x xs)

  -- a walk whose faults and states are the same of an item with its mark
  walk_same : {S : Type 0} (new old : S → Item → Option ℕ) (next : S → Item → S) → ((s : S) (x : Item) → new s (marked_item x) ≡ old s x) → ((s : S) (x : Item) → next s (marked_item x) ≡ next s x)
      → (line : ℕ) (s : S) (xs : List Item) → first_fault new next item_size line s (map marked_item xs) ≡ first_fault old next item_size line s xs
  walk_same new old next faults nexts line s [] = refl
  walk_same new old next faults nexts line s (x ∷ xs) =
      (λ i. elim (faults s x i) as (λ c. Option ℕ) [ None ↦ first_fault new next item_size (line + size_same x i) (nexts s x i) (map marked_item xs) | Some at ↦ Some (line + at) ])
      ∙ by (walk_same new old next faults nexts (line + item_size x) (next s x) xs) (old s x)
    where
      by : first_fault new next item_size (line + item_size x) (next s x) (map marked_item xs) ≡ first_fault old next item_size (line + item_size x) (next s x) xs → (o : Option ℕ)
          → elim o as (λ c. Option ℕ) [ None ↦ first_fault new next item_size (line + item_size x) (next s x) (map marked_item xs) | Some at ↦ Some (line + at) ]
          ≡ elim o as (λ c. Option ℕ) [ None ↦ first_fault old next item_size (line + item_size x) (next s x) xs | Some at ↦ Some (line + at) ]
      by rest None = rest
      by rest (Some at) = refl

  -- what is the same of a check's item with its mark is the same of each item
  by_item : {A : Type 0} (f : Item → A) → ((cpu : ℕ) (check : CheckEntry) → f (tells cpu (checked (with_mark trace check))) ≡ f (tells cpu (checked check))) → (x : Item) → f (marked_item x) ≡ f x
  by_item f same (begins cpu) = refl
  by_item f same (tells cpu told) = by_check (λ t. f (tells cpu t)) (same cpu) told

  -- ---- each fault

  module _ (j : Journal) where
    abbrev all : List Told
    all = all_told j

    abbrev marked_all : List Told
    marked_all = map marked all

    abbrev line : ℕ
    line = first_cpu_line j

    pub census_same : census_at (with_marks trace j) ≡ census_at j
    census_same = ap (λ (xs : List Item). first_cpu_line j + sum_by item_size xs + length j.left) (items_are j) ∙ ap (λ n. first_cpu_line j + n + length j.left) (sizes_same (items_of j))

    left_same : first_left_line (with_marks trace j) ≡ first_left_line j
    left_same = ap (λ (xs : List Item). first_cpu_line j + sum_by item_size xs) (items_are j) ∙ ap (λ n. first_cpu_line j + n) (sizes_same (items_of j))

    folds_same : folds_in marked_all ≡ folds_in all
    folds_same = flat_same fold_in (λ check. refl) all

    folds_stay : first_fault (fold_fault trace (folds_in (all_told (with_marks trace j)))) folds_after item_size line [] (items_of (with_marks trace j))
        ≡ first_fault (fold_fault trace (folds_in all)) folds_after item_size line [] (items_of j)
    folds_stay = (λ i. first_fault (fold_fault trace (folds_in (all_are j i))) folds_after item_size line [] (items_are j i))
        ∙ (λ i. first_fault (fold_fault trace (folds_same i)) folds_after item_size line [] (map marked_item (items_of j)))
        ∙ walk_same (fold_fault trace (folds_in all)) (fold_fault trace (folds_in all)) folds_after
        (λ s. by_item (fold_fault trace (folds_in all) s) (λ cpu check. refl))
        (λ s. by_item (folds_after s) (λ cpu check. refl)) line [] (items_of j)

    counts_stay : first_fault (count_fault trace (folds_in (all_told (with_marks trace j)))) versions_after item_size line [] (items_of (with_marks trace j))
        ≡ first_fault (count_fault trace (folds_in all)) versions_after item_size line [] (items_of j)
    counts_stay = (λ i. first_fault (count_fault trace (folds_in (all_are j i))) versions_after item_size line [] (items_are j i))
        ∙ (λ i. first_fault (count_fault trace (folds_same i)) versions_after item_size line [] (map marked_item (items_of j)))
        ∙ walk_same (count_fault trace (folds_in all)) (count_fault trace (folds_in all)) versions_after
        (λ s. by_item (count_fault trace (folds_in all) s) (λ cpu check. refl))
        (λ s. by_item (versions_after s) (λ cpu check. refl)) line [] (items_of j)

    triples_stay : first_fault (triple_fault j.timer) triples_after item_size line [] (items_of (with_marks trace j))
        ≡ first_fault (triple_fault j.timer) triples_after item_size line [] (items_of j)
    triples_stay = (λ i. first_fault (triple_fault j.timer) triples_after item_size line [] (items_are j i))
        ∙ walk_same (triple_fault j.timer) (triple_fault j.timer) triples_after
        (λ s. by_item (triple_fault j.timer s) (λ cpu check. refl))
        (λ s. by_item (triples_after s) (λ cpu check. refl)) line [] (items_of j)

    added_same : (domain context : ℕ) → added_to domain context marked_all ≡ added_to domain context all
    added_same domain context = sum_same (added_by domain context) (λ check. refl) all

    -- where so much was added for a context in a domain
    abbrev read_by : (added : ℕ → ℕ → ℕ) (seen : List Period) (check : CheckEntry) → Option ℕ
    read_by added seen check = first_failed (λ (read : DomainLine). (nat_le 1 read.share.den && (nat_le read.share.num read.share.den
        && (list_any (λ period. period == read.share.period) (periods_from read.domain 0 j.timer) && nat_le read.share.num (added read.domain check.context))))
        && is_new_enough seen check.context read) 0 (reads_of check)

    abbrev fraction_by : (added : ℕ → ℕ → ℕ) (seen : List Period) (x : Item) → Option ℕ
    fraction_by added seen (begins cpu) = None
    fraction_by added seen (tells cpu entry) = first_of (of_part None (read_by added seen) (effect entry).check) (of_part None (share_fault trace) (effect entry).share)

    fraction_same : (seen : List Period) (x : Item) → fraction_fault trace j.timer marked_all seen (marked_item x) ≡ fraction_fault trace j.timer all seen x
    fraction_same seen (begins cpu) = refl
    fraction_same seen (tells cpu told) = (λ i. fraction_by (λ domain context. added_same domain context i) seen (tells cpu (marked told)))
        ∙ by_check (λ t. fraction_fault trace j.timer all seen (tells cpu t)) (λ check. refl) told

    fractions_stay : first_fault (fraction_fault trace j.timer (all_told (with_marks trace j))) periods_after item_size line [] (items_of (with_marks trace j))
        ≡ first_fault (fraction_fault trace j.timer all) periods_after item_size line [] (items_of j)
    fractions_stay = (λ i. first_fault (fraction_fault trace j.timer (all_are j i)) periods_after item_size line [] (items_are j i))
        ∙ walk_same (fraction_fault trace j.timer marked_all) (fraction_fault trace j.timer all) periods_after fraction_same
        (λ s. by_item (periods_after s) (λ cpu check. refl)) line [] (items_of j)

    pub estimates_same : (context : ℕ) → estimates_of context marked_all ≡ estimates_of context all
    estimates_same context = flat_same (estimate_in context) (λ check. refl) all

    -- where these are the estimates of a context
    abbrev name_by : (estimates : ℕ → List Estimate) (names : List Named) (check : CheckEntry) → Option ℕ
    name_by estimates names check = unless (nat_lt check.context (contexts trace) && (nat_le check.estimate (length (estimates check.context))
        && list_all (is_no_newer check.context check.estimate) names)) (decision_at check)

    abbrev estimate_by : (estimates : ℕ → List Estimate) (s : Sight) (x : Item) → Option ℕ
    estimate_by estimates s (begins cpu) = None
    estimate_by estimates s (tells cpu entry) =
        first_of (of_part None (next_fault trace (opened_at j.timer) s.estimates) (effect entry).estimate) (of_part None (name_by estimates s.names) (effect entry).check)

    estimate_same : (s : Sight) (x : Item) → estimate_fault trace (opened_at j.timer) marked_all s (marked_item x) ≡ estimate_fault trace (opened_at j.timer) all s x
    estimate_same s (begins cpu) = refl
    estimate_same s (tells cpu told) = (λ i. estimate_by (λ context. estimates_same context i) s (tells cpu (marked told)))
        ∙ by_check (λ t. estimate_fault trace (opened_at j.timer) all s (tells cpu t)) (λ check. refl) told

    estimates_stay : first_fault (estimate_fault trace (opened_at j.timer) (all_told (with_marks trace j))) sight_after item_size line no_sight (items_of (with_marks trace j))
        ≡ first_fault (estimate_fault trace (opened_at j.timer) all) sight_after item_size line no_sight (items_of j)
    estimates_stay = (λ i. first_fault (estimate_fault trace (opened_at j.timer) (all_are j i)) sight_after item_size line no_sight (items_are j i))
        ∙ walk_same (estimate_fault trace (opened_at j.timer) marked_all) (estimate_fault trace (opened_at j.timer) all) sight_after estimate_same
        (λ s. by_item (sight_after s) (λ cpu check. refl)) line no_sight (items_of j)

    waits_stay : first_fault (wait_fault trace) (lists_after trace) item_size line (first_lists trace.flushers) (items_of (with_marks trace j))
        ≡ first_fault (wait_fault trace) (lists_after trace) item_size line (first_lists trace.flushers) (items_of j)
    waits_stay = (λ i. first_fault (wait_fault trace) (lists_after trace) item_size line (first_lists trace.flushers) (items_are j i))
        ∙ walk_same (wait_fault trace) (wait_fault trace) (lists_after trace)
        (λ s. by_item (wait_fault trace s) (λ cpu check. refl))
        (λ s. by_item (lists_after trace s) (λ cpu check. refl)) line (first_lists trace.flushers) (items_of j)

    pages_stay : first_fault (page_fault trace) writes_after item_size line [] (items_of (with_marks trace j))
        ≡ first_fault (page_fault trace) writes_after item_size line [] (items_of j)
    pages_stay = (λ i. first_fault (page_fault trace) writes_after item_size line [] (items_are j i))
        ∙ walk_same (page_fault trace) (page_fault trace) writes_after
        (λ s. by_item (page_fault trace s) (λ cpu check. refl))
        (λ s. by_item (writes_after s) (λ cpu check. refl)) line [] (items_of j)

    flights_stay : first_fault (turn_fault trace) (flushers_after trace) item_size line (first_flushers trace.flushers) (items_of (with_marks trace j))
        ≡ first_fault (turn_fault trace) (flushers_after trace) item_size line (first_flushers trace.flushers) (items_of j)
    flights_stay = (λ i. first_fault (turn_fault trace) (flushers_after trace) item_size line (first_flushers trace.flushers) (items_are j i))
        ∙ walk_same (turn_fault trace) (turn_fault trace) (flushers_after trace)
        (λ s. by_item (turn_fault trace s) (λ cpu check. refl))
        (λ s. by_item (flushers_after trace s) (λ cpu check. refl)) line (first_flushers trace.flushers) (items_of j)

    -- ---- what is counted over all entries

    count_same : (p : Told → Bool) → ((check : CheckEntry) → p (checked (with_mark trace check)) ≡ p (checked check)) → (xs : List Told) → count_by p (map marked xs) ≡ count_by p xs
    count_same p same xs = sum_same (λ t. cond (p t) 1 0) (λ check. ap (λ b. cond b 1 0) (same check)) xs

    even_same : (page : ℕ) → is_even marked_all j.left page ≡ is_even all j.left page
    even_same page =
        let d = count_same (dirties page) (λ check. refl) all in
        let c = count_same (claims page) (λ check. refl) all in
        let f = count_same (completes page) (λ check. refl) all in
        let r = count_same (redirties page) (λ check. refl) all in
        let a = count_same (absorbs page) (λ check. refl) all in
        (λ i. (d i + r i == c i + left_dirty page j.left) && (c i == f i + r i + a i + left_writeback page j.left))

    even_below_same : (n : ℕ) → is_even_below marked_all j.left n ≡ is_even_below all j.left n
    even_below_same zero = refl
    even_below_same (suc n) = λ i. even_same n i && even_below_same n i

    failed_same : (n : ℕ) → some_failed marked_all n ≡ some_failed all n
    failed_same zero = refl
    failed_same (suc n) = let c = count_same (is_fault_of n) (λ check. refl) all in (λ i. nat_le MOST_FAULTS (c i) || failed_same n i)

    wrote_same : (task : ℕ) (lines : List TaskLine) → wrote_all trace marked_all task lines ≡ wrote_all trace all task lines
    wrote_same task [] = refl
    wrote_same task (of ∷ lines) = let c = count_same (writes_of task) (λ check. refl) all in (λ i. nat_le (length (pages_of_task trace task)) (c i) && wrote_same (task + 1) lines i)

    steps_same : (parts : List (List Told)) → list_any has_all_steps (map (map marked) parts) ≡ list_any has_all_steps parts
    steps_same [] = refl
    steps_same (part ∷ parts) = let c = count_same is_page_step (λ check. refl) part in (λ i. nat_le MOST_PAGE_STEPS (c i) || steps_same parts i)

    ending_same : (e : Ending) → ends_by trace (map (map marked) (parts_of j)) marked_all j.left e ≡ ends_by trace (parts_of j) all j.left e
    ending_same ending.Done = λ i. not (failed_same (length trace.flushers) i) && (wrote_same 0 trace.tasks i && is_nothing j.left)
    ending_same ending.Halted = λ i. not (failed_same (length trace.flushers) i)
    ending_same ending.Spent = λ i. not (failed_same (length trace.flushers) i) && steps_same (parts_of j) i
    ending_same ending.Faulted = failed_same (length trace.flushers)

    ends_same : ends_by trace (parts_of (with_marks trace j)) (all_told (with_marks trace j)) j.left j.ending ≡ ends_by trace (parts_of j) all j.left j.ending
    ends_same = (λ i. ends_by trace (parts_marked j.cpus i) (all_are j i) j.left j.ending) ∙ ending_same j.ending

    evens_same : is_even_below (all_told (with_marks trace j)) j.left (pages trace) ≡ is_even_below all j.left (pages trace)
    evens_same = (λ i. is_even_below (all_are j i) j.left (pages trace)) ∙ even_below_same (pages trace)

    parts_long : (parts : List CpuJournal) → length (map (part_with_marks trace) parts) ≡ length parts
    parts_long [] = refl
    parts_long (part ∷ parts) = ap suc (parts_long parts)

    pub stay : FaultsStay trace j
    stay = record {
      folds = λ i. first_of (unless (parts_long j.cpus i == trace.cpus) (census_same i)) (folds_stay i);
      counts = counts_stay;
      triples = triples_stay;
      fractions = fractions_stay;
      estimates = estimates_stay;
      timer = refl;
      waits = waits_stay;
      writes = λ i. first_of (pages_stay i) (first_failed (is_page trace) (left_same i) j.left);
      ledger = λ i. unless (is_left_from 0 j.left && evens_same i) (census_same i);
      flights = flights_stay;
      bounded = λ i. unless (is_bounded trace j.timer j.left (domains trace)) (census_same i);
      ending = λ i. unless (ends_same i) (census_same i + (2 + length j.strict));
    }

pub marks_change_no_other : MarksChangeNoOther
marks_change_no_other trace j = stay trace j
