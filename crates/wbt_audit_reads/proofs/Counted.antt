-- What the code of the point on counts keeps, step by step.
use Rattle.std.proofs.Common.{◌≡◌, ℕ, ◌+◌, Bool, true, false, ◌&&◌, nat_le, if◌then◌else◌, Option, Some, None, ℤ, List, [], ◌∷◌, ◌++◌, length, get_or, replicate, refl, ap, sym, subst, ◌∙◌, append_assoc, append-nil}
use Rattle.std.specs.Ordering.{int_eq}
use Rattle.wbt_audit_walk.proofs.Common.{is_same, Counter, Fold, Trace, Load, cgroup_reads, count_fault, loads_of, of_counter, read_loads, versions_after, effect, of_part, begins, tells, domains, contexts, Told, wrote, folded, checked, claimed, batch, done, share, estimated, fault, gave_back, noticed, aged, took, first_failed, CheckEntry, DomainLine, seen_at, counter_place, IsJudged, Judges}
use Rattle.wbt_journal.specs.Counts.{Version, is_fresh_count, is_sum, load_of_read, sum_to, version_of_fold, versions_in, versions_of}
use Rattle.wbt_journal.specs.Machine.{has_counter}
use Rattle.wbt_audit_reads.specs.Counting.{AreSums, AreSeen, KeepsCounts, Sees, JudgesCheck, is_sum_of, load_test, one_version, test_at, versions_by}
use Rattle.wbt_audit_reads.specs.Folding.{AreOf, place_in}
use Rattle.wbt_audit_reads.specs.Summing.{AreSumsBy}
use Rattle.wbt_audit_reads.specs.declared.counts.Counts.{Counts}
use Rattle.wbt_audit_walk.specs.declared.places.Places.{Places}
use Rattle.wbt_audit_reads.proofs.Folded.{has_place, lacks_place, of_places, to_places}
use Rattle.wbt_audit_walk.proofs.Placing.{counters_apart}
use Rattle.wbt_audit_walk.proofs.Seeing.{none_seen, one_seen}

-- ---- what is seen

pub nothing_seen : (trace : Trace) → AreSeen trace [] (replicate (domains trace + contexts trace) 0)
nothing_seen trace =
    none_seen is_same (place_in trace) (λ (v : Version). v.counter) (λ (v : Version). v.version) (domains trace + contexts trace) (counters_apart (domains trace) (contexts trace))

pub forgot : (trace : Trace) (all : List Fold) (old : Counts) (newest : List ℕ) (s : List Version) (cpu : ℕ) → newest ≡ replicate (length old.newest) 0
    → KeepsCounts trace all old s → IsJudged (count_fault trace all) versions_after (KeepsCounts trace all (record old { newest = newest })) s (begins cpu) None
forgot trace all old newest s cpu is keeps = record {
  answer = refl;
  goes_on = λ none. record {
    places = keeps.places;
    sums = keeps.sums;
    newest = subst (AreSeen trace []) (sym (is ∙ ap (λ n. replicate n 0) keeps.newest.room)) (nothing_seen trace);
  };
}

pub saw_at : (old : Counts) (newest : List ℕ) (x : Counter) (version : ℕ) (place : Option ℕ) → counter_place old.places.domains old.places.contexts x ≡ place
    → newest ≡ seen_at place version old.newest → Sees old (record old { newest = newest }) (one_version x version)
saw_at old newest x version place here is trace all seen keeps =
    let there : place_in trace x ≡ place = of_places trace old.places x place keeps.places here in record {
      places = keeps.places;
      sums = keeps.sums;
      newest =
          subst (AreSeen trace (one_version x version ++ seen)) (ap (λ p. seen_at p version old.newest) there ∙ sym is)
          (one_seen is_same (place_in trace) (λ (v : Version). v.counter) (λ (v : Version). v.version) (domains trace + contexts trace)
          (counters_apart (domains trace) (contexts trace)) seen old.newest (record { counter = x; version = version }) keeps.newest);
    }

pub saw_both : (one two three : Counts) (vs ws : List Version) → Sees one two vs → Sees two three ws → Sees one three (ws ++ vs)
saw_both one two three vs ws first second trace all seen keeps =
    subst (KeepsCounts trace all three) (sym (append_assoc ws vs seen)) (second trace all (vs ++ seen) (first trace all seen keeps))

pub all_versions : (global : DomainLine) (cgroup : Option DomainLine) (load : Load)
    → versions_of (load_of_read global ∷ []) ++ (versions_of (read_loads (cgroup_reads cgroup)) ++ one_version load.counter load.count.version)
    ≡ versions_of (read_loads (global ∷ cgroup_reads cgroup) ++ load ∷ [])
all_versions global None load = refl
all_versions global (Some read) load = refl

-- ---- a count

is_sum_of-if : (t : Bool) (sum value : ℤ) → is_sum_of (if t then Some sum else None) value ≡ (t && int_eq value sum)
is_sum_of-if true sum value = refl
is_sum_of-if false sum value = refl

no_left : (a b : Bool) → a ≡ false → (a && b) ≡ false
no_left a b is = rw is

module _ (trace : Trace) (all : List Fold) (kept : Counts) (seen : List Version) (keeps : KeepsCounts trace all kept seen) where
  test_by : (load : Load) (place : Option ℕ) → counter_place kept.places.domains kept.places.contexts load.counter ≡ place
      → (is_sum trace all load && is_fresh_count seen load) ≡ test_at kept place load.count
  test_by load None here =
      no_left (is_sum trace all load) (is_fresh_count seen load)
      (no_left (has_counter trace load.counter) _ (lacks_place trace load.counter (of_places trace kept.places load.counter None keeps.places here)))
  test_by load (Some p) here =
      let there : place_in trace load.counter ≡ Some p = of_places trace kept.places load.counter (Some p) keeps.places here in
      let sum_is : Bool =
      nat_le load.count.version (length (of_counter load.counter all)) && int_eq load.count.value (sum_to load.count.version (of_counter load.counter all)) in
      ap (λ b. (b && sum_is) && is_fresh_count seen load) (has_place trace load.counter p there)
      ∙ ap (λ b. sum_is && b) (keeps.newest.each load.counter p there load.count.version)
      ∙ ap (λ b. b && nat_le (get_or kept.newest p 0) load.count.version)
      (sym (is_sum_of-if (nat_le load.count.version (length (of_counter load.counter all))) (sum_to load.count.version (of_counter load.counter all)) load.count.value)
      ∙ ap (λ s. is_sum_of s load.count.value) (sym (keeps.sums load.counter p there load.count.version)))

  test_is : (load : Load) → (is_sum trace all load && is_fresh_count seen load) ≡ load_test kept load
  test_is load = test_by load (counter_place kept.places.domains kept.places.contexts load.counter) refl

failed_alike : {A : Type 0} (f g : A → Bool) (line : ℕ) (xs : List A) → ((x : A) → f x ≡ g x) → first_failed f line xs ≡ first_failed g line xs
failed_alike f g line [] are = refl
failed_alike f g line (x ∷ xs) are =
    ap (λ b. elim b [ true ↦ first_failed f (line + 1) xs | false ↦ Some line ]) (are x)
    ∙ ap (λ (o : Option ℕ). elim (g x) [ true ↦ o | false ↦ Some line ]) (failed_alike f g (line + 1) xs are)

-- ---- an act

pub only_check : (entry : Told) (check : CheckEntry) → (effect entry).check ≡ Some check → (effect entry).fold ≡ None
only_check (folded fold) check is = cc
only_check (wrote task page fresh) check is = refl
only_check (checked other) check is = refl
only_check (claimed flusher page) check is = refl
only_check (batch flusher pages now until) check is = refl
only_check (done flusher page) check is = refl
only_check (share domain context n) check is = refl
only_check (estimated est) check is = refl
only_check (fault flusher pages) check is = refl
only_check (gave_back flusher page absorbed) check is = refl
only_check (noticed flusher inode since) check is = refl
only_check (aged flusher inode due now) check is = refl
only_check (took flusher inode) check is = refl

-- the versions that an entry tells, by what it does
versions_by_both : (entry : Told) (fold : Option Fold) (check : Option CheckEntry) → (effect entry).fold ≡ fold → (effect entry).check ≡ check
    → versions_in entry ≡ of_part [] version_of_fold fold ++ versions_of (of_part [] loads_of check)
versions_by_both entry fold check one two =
    ap (λ f. of_part [] version_of_fold f ++ versions_of (of_part [] loads_of (effect entry).check)) one
    ∙ ap (λ c. of_part [] version_of_fold fold ++ versions_of (of_part [] loads_of c)) two

module _ (trace : Trace) (all : List Fold) (old new : Counts) (cpu : ℕ) (entry : Told) where
  pub unchecked : (fold : Option Fold) → (effect entry).check ≡ None → (effect entry).fold ≡ fold → Sees old new (versions_by fold)
      → Judges (count_fault trace all) versions_after (KeepsCounts trace all old) (KeepsCounts trace all new) (tells cpu entry) None
  unchecked fold none is sees s keeps = record {
    answer = ap (λ (c : Option CheckEntry). first_failed (λ load. is_sum trace all load && is_fresh_count s load) 0 (of_part [] loads_of c)) none;
    goes_on = λ _.
        subst (λ vs. KeepsCounts trace all new (vs ++ s)) (sym (versions_by_both entry fold None is none ∙ append-nil (versions_by fold))) (sees trace all s keeps);
  }

  pub check_judged : (check : CheckEntry) (found : Option ℕ) → (effect entry).check ≡ Some check → JudgesCheck old new check found
      → Judges (count_fault trace all) versions_after (KeepsCounts trace all old) (KeepsCounts trace all new) (tells cpu entry) found
  check_judged check found is judges s keeps = record {
    answer =
        ap (λ (c : Option CheckEntry). first_failed (λ load. is_sum trace all load && is_fresh_count s load) 0 (of_part [] loads_of c)) is
        ∙ failed_alike (λ load. is_sum trace all load && is_fresh_count s load) (load_test old) 0 (loads_of check) (test_is trace all old s keeps)
        ∙ sym judges.0;
    goes_on = λ none.
        subst (λ vs. KeepsCounts trace all new (vs ++ s)) (sym (versions_by_both entry None (Some check) (only_check entry check is) is))
        (judges.1 none trace all s keeps);
  }

-- ---- at first

pub sums_by : (trace : Trace) (places : Places) (all : List Fold) (sums : List (List ℤ)) → AreOf trace places → AreSumsBy places all sums → AreSums trace all sums
sums_by trace places all sums are by x p is version = by x p (to_places trace places x p are is) version

pub seen_first : (trace : Trace) (places : Places) (newest : List ℕ) → AreOf trace places → newest ≡ replicate (places.domains + places.contexts) 0 → AreSeen trace [] newest
seen_first trace places newest are is =
    subst (AreSeen trace []) (sym (is ∙ ap (λ d. replicate (d + places.contexts) 0) are.domains ∙ ap (λ c. replicate (domains trace + c) 0) are.contexts)) (nothing_seen trace)
