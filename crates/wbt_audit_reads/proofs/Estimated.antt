-- What the code of the point on estimates keeps, step by step.
use Rattle.std.proofs.Common.{◌≡◌, ℕ, zero, suc, ◌+◌, ◌<◌, ◌≤◌, ◌^◌, Bool, true, false, ◌&&◌, ◌==◌, nat_lt, nat_le, if◌then◌else◌, Option, Some, None, List, [], ◌∷◌, ◌++◌, length, get_or, set, replicate, refl, ap, sym, subst, ◌∙◌, arith, tests, ◌⊎◌, inl, inr, append-nil, length-append}
use Rattle.std.specs.List.{slice_get, list_all}
use Rattle.std.proofs.lemmas.Bool.{cases_eq, cases_lt}
use Rattle.std.proofs.lemmas.Grind.{flat_map-append}
use Rattle.std.proofs.lemmas.List.{length-map, length-replicate, get_or-replicate}
use Rattle.std.proofs.lemmas.Option.{slice_get-get_or, slice_get_past, get_or_from_slice_get}
use Rattle.wbt_audit_walk.proofs.Common.{Estimate, Trace, first_estimate, effect, of_part, decision_at, estimate_fault, estimate_in, estimates_of, sight_after, begins, tells, contexts, Told, wrote, folded, checked, claimed, batch, done, share, estimated, fault, gave_back, noticed, aged, took, first_of, unless, CheckEntry, EstEntry, seen_at, below, IsJudged, Judges}
use Rattle.wbt_trace.specs.declared.trace.Context.{Context}
use Rattle.wbt_rules.proofs.Openings.{first_in_range}
use Rattle.wbt_rules.specs.First.{first_by, first_estimates}
use Rattle.wbt_journal.specs.Estimates.{Named, Sight, follows, is_no_newer, name_fault, newest_of, next_fault}
use Rattle.wbt_audit_reads.specs.Estimating.{AreCounts, AreLast, AreNamed, IsName, IsNext, JudgesName, JudgesNext, KeepsEstimates, capped, counted_by, may_by, may_name, name_of}
use Rattle.wbt_audit_walk.specs.Newest.{with_seen}
use Rattle.wbt_audit_reads.specs.declared.estimates.Estimates.{Estimates}
use Rattle.wbt_audit_walk.proofs.Placing.{numbers_apart}
use Rattle.wbt_audit_walk.proofs.Rowing.{slice_get-set_same, slice_get-set_other}
use Rattle.wbt_audit_walk.proofs.Seeing.{none_seen, one_seen}

-- ---- tests

is_eq : (p q : ℕ) → p ≡ q → (p == q) ≡ true
is_eq p q e = grind (arith, tests, e)

is_apart : (p q : ℕ) → (p ≡ q → ⊥) → (p == q) ≡ false
is_apart p q e = grind (arith, tests, e)

lt_is : (v n : ℕ) → v < n → nat_lt v n ≡ true
lt_is v n lt = grind (arith, tests, lt)

lt_not : (v n : ℕ) → n ≤ v → nat_lt v n ≡ false
lt_not v n le = grind (arith, tests, le)

none_is_true : (answer : Bool) (line : ℕ) → unless answer line ≡ None → answer ≡ true
none_is_true true line is = refl
none_is_true false line is = cc

none_some : {A : Type 0} (a : A) → None ≡ Some a → ⊥
none_some a e = cc

some_same : {A : Type 0} (a b : A) → Some a ≡ Some b → a ≡ b
some_same a b e = cc

-- a test of what is found is that of the value
found_is : {A : Type 0} (t : Bool) (a b : A) → (if t then Some a else None) ≡ Some b → (t ≡ true) × (a ≡ b)
found_is true a b e = (refl, some_same a b e)
found_is false a b e = absurd (none_some b e)

none_is : {A : Type 0} (t : Bool) (a : A) → (if t then Some a else None) ≡ None → t ≡ false
none_is true a e = absurd (none_some a (sym e))
none_is false a e = refl

no_left : (a b : Bool) → a ≡ false → (a && b) ≡ false
no_left a b is = rw is

first_of-none : (o : Option ℕ) → first_of o None ≡ o
first_of-none None = refl
first_of-none (Some line) = refl

-- ---- an estimate

newest_other : (trace : Trace) (opened x : ℕ) (est : EstEntry) (seen : List EstEntry) (b : Bool) → (est.context == x) ≡ b
    → newest_of trace opened x (est ∷ seen) ≡ (if b then est.estimate else newest_of trace opened x seen)
newest_other trace opened x est seen b is = ap (λ t. if t then est.estimate else newest_of trace opened x seen) is

module _ (trace : Trace) (opened : ℕ) (all : List Told) (old : Estimates) (s : Sight) (keeps : KeepsEstimates trace opened all old s) (est : EstEntry) where
  pub no_context : (new : Estimates) → slice_get old.last.items est.context ≡ None → IsNext trace opened all new s est (Some 0)
  no_context new none = record {
    answer =
        ap (λ b. unless b 0)
        (no_left (nat_lt est.context (contexts trace)) (follows (newest_of trace opened est.context s.estimates) est.estimate)
        (none_is (nat_lt est.context (contexts trace)) (newest_of trace opened est.context s.estimates) (sym (keeps.last est.context) ∙ none)));
    keeps = λ e. absurd (none_some 0 (sym e));
  }

  next_test : (last : Estimate) → slice_get old.last.items est.context ≡ Some last
      → (nat_lt est.context (contexts trace) && follows (newest_of trace opened est.context s.estimates) est.estimate) ≡ follows last est.estimate
  next_test last is =
      let found = found_is (nat_lt est.context (contexts trace)) (newest_of trace opened est.context s.estimates) last (sym (keeps.last est.context) ∙ is) in
      ap (λ b. b && follows (newest_of trace opened est.context s.estimates) est.estimate) found.0 ∙ ap (λ l. follows l est.estimate) found.1

  pub no_next : (new : Estimates) (last : Estimate) → slice_get old.last.items est.context ≡ Some last → follows last est.estimate ≡ false
      → IsNext trace opened all new s est (Some 0)
  no_next new last is isnt = record {
    answer = ap (λ b. unless b 0) (next_test last is ∙ isnt);
    keeps = λ e. absurd (none_some 0 (sym e));
  }

  last_at : (last : Estimate) → slice_get old.last.items est.context ≡ Some last → (x : ℕ) → (x ≡ est.context) ⊎ (x ≡ est.context → ⊥)
      → slice_get (set old.last.items est.context est.estimate) x ≡ (if nat_lt x (contexts trace) then Some (newest_of trace opened x (est ∷ s.estimates)) else None)
  last_at last is x (inl e) =
      let found = found_is (nat_lt est.context (contexts trace)) (newest_of trace opened est.context s.estimates) last (sym (keeps.last est.context) ∙ is) in
      ap (slice_get (set old.last.items est.context est.estimate)) e
      ∙ slice_get-set_same old.last.items est.context last est.estimate is
      ∙ ap Some (sym (newest_other trace opened x est s.estimates true (is_eq est.context x (sym e))))
      ∙ sym (ap (λ t. if t then Some (newest_of trace opened x (est ∷ s.estimates)) else None) (ap (λ y. nat_lt y (contexts trace)) e ∙ found.0))
  last_at last is x (inr apart) =
      slice_get-set_other old.last.items est.context x est.estimate apart
      ∙ keeps.last x
      ∙ ap (λ l. if nat_lt x (contexts trace) then Some l else None) (sym (newest_other trace opened x est s.estimates false (is_apart est.context x (λ e. apart (sym e)))))

  pub is_next : (new : Estimates) (last : Estimate) → slice_get old.last.items est.context ≡ Some last → follows last est.estimate ≡ true
      → new.counts.items ≡ old.counts.items → new.last.items ≡ set old.last.items est.context est.estimate → new.named ≡ old.named → IsNext trace opened all new s est None
  is_next new last is sure counts lasts named = record {
    answer = ap (λ b. unless b 0) (next_test last is ∙ sure);
    keeps = λ none. record {
      counts = subst (AreCounts (contexts trace) all) (sym counts) keeps.counts;
      last = λ x. ap (λ l. slice_get l x) lasts ∙ last_at last is x (cases_eq x est.context);
      named = subst (AreNamed trace s.names) (sym named) keeps.named;
    };
  }

-- ---- a name

module _ (trace : Trace) (opened : ℕ) (all : List Told) (old : Estimates) (s : Sight) (keeps : KeepsEstimates trace opened all old s) (check : CheckEntry) where
  le_capped : (v n : ℕ) → v < 2 ^ 64 → nat_le v (capped n) ≡ nat_le v n
  le_capped v n lt = grind (arith, tests, lt)

  name_by : (t : Bool) → nat_lt check.context (contexts trace) ≡ t → check.estimate < 2 ^ 64
      → (nat_lt check.context (contexts trace) && (nat_le check.estimate (length (estimates_of check.context all)) && list_all (is_no_newer check.context check.estimate) s.names))
      ≡ may_name old check
  name_by true is small =
      let there : below (contexts trace) check.context ≡ Some check.context = ap (λ b. if b then Some check.context else None) is in
      ap (λ b. b && (nat_le check.estimate (length (estimates_of check.context all)) && list_all (is_no_newer check.context check.estimate) s.names)) is
      ∙ ap (λ b. nat_le check.estimate (length (estimates_of check.context all)) && b) (keeps.named.each check.context check.context there check.estimate)
      ∙ ap (λ b. b && nat_le (get_or old.named check.context 0) check.estimate) (sym (le_capped check.estimate (length (estimates_of check.context all)) small))
      ∙ ap (λ c. may_by c old check)
      (sym (keeps.counts check.context ∙ ap (λ b. if b then Some (capped (length (estimates_of check.context all))) else None) is))
  name_by false is small =
      ap (λ b. b && (nat_le check.estimate (length (estimates_of check.context all)) && list_all (is_no_newer check.context check.estimate) s.names)) is
      ∙ ap (λ c. may_by c old check)
      (sym (keeps.counts check.context ∙ ap (λ b. if b then Some (capped (length (estimates_of check.context all))) else None) is))

  pub no_name : (new : Estimates) → check.estimate < 2 ^ 64 → may_name old check ≡ false → IsName trace opened all new s check (Some (decision_at check))
  no_name new small isnt = record {
    answer = ap (λ b. unless b (decision_at check)) (name_by (nat_lt check.context (contexts trace)) refl small ∙ isnt);
    keeps = λ e. absurd (none_some (decision_at check) (sym e));
  }

  named_there : may_name old check ≡ true → (t : Bool) → nat_lt check.context (contexts trace) ≡ t → t ≡ true
  named_there sure true is = refl
  named_there sure false is =
      ap (λ c. may_by c old check)
      (sym (keeps.counts check.context ∙ ap (λ b. if b then Some (capped (length (estimates_of check.context all))) else None) is))
      ∙ sure

  pub is_name : (new : Estimates) → check.estimate < 2 ^ 64 → may_name old check ≡ true → new.counts.items ≡ old.counts.items → new.last.items ≡ old.last.items
      → new.named ≡ with_seen check.context check.estimate old.named → IsName trace opened all new s check None
  is_name new small sure counts lasts named =
      let lt : nat_lt check.context (contexts trace) ≡ true = named_there sure (nat_lt check.context (contexts trace)) refl in
      let there : below (contexts trace) check.context ≡ Some check.context = ap (λ b. if b then Some check.context else None) lt in record {
        answer = ap (λ b. unless b (decision_at check)) (name_by (nat_lt check.context (contexts trace)) refl small ∙ sure);
        keeps = λ none. record {
          counts = subst (AreCounts (contexts trace) all) (sym counts) keeps.counts;
          last = subst (AreLast trace opened s.estimates) (sym lasts) keeps.last;
          named =
              subst (AreNamed trace (name_of check ∷ s.names)) (ap (λ p. seen_at p check.estimate old.named) there ∙ sym named)
              (one_seen (λ (x y : ℕ). y == x) (below (contexts trace)) (λ (n : Named). n.context) (λ (n : Named). n.version) (contexts trace)
              (numbers_apart (contexts trace)) s.names old.named (name_of check) keeps.named);
        };
      }

-- ---- an act

abbrev sight : (estimates : List EstEntry) (names : List Named) → Sight
sight estimates names = record { estimates = estimates; names = names }

only_estimate : (entry : Told) (est : EstEntry) → (effect entry).estimate ≡ Some est → (effect entry).check ≡ None
only_estimate (checked other) est is = cc
only_estimate (folded fold) est is = refl
only_estimate (wrote task page fresh) est is = refl
only_estimate (claimed flusher page) est is = refl
only_estimate (batch flusher pages now until) est is = refl
only_estimate (done flusher page) est is = refl
only_estimate (share domain context n) est is = refl
only_estimate (estimated other) est is = refl
only_estimate (fault flusher pages) est is = refl
only_estimate (gave_back flusher page absorbed) est is = refl
only_estimate (noticed flusher inode since) est is = refl
only_estimate (aged flusher inode due now) est is = refl
only_estimate (took flusher inode) est is = refl

module _ (trace : Trace) (opened : ℕ) (all : List Told) (cpu : ℕ) (entry : Told) where
  fault_by : (s : Sight) (est : Option EstEntry) (check : Option CheckEntry) → (effect entry).estimate ≡ est → (effect entry).check ≡ check
      → estimate_fault trace opened all s (tells cpu entry)
      ≡ first_of (of_part None (next_fault trace opened s.estimates) est) (of_part None (name_fault trace all s.names) check)
  fault_by s est check one two =
      ap (λ e. first_of (of_part None (next_fault trace opened s.estimates) e) (of_part None (name_fault trace all s.names) (effect entry).check)) one
      ∙ ap (λ c. first_of (of_part None (next_fault trace opened s.estimates) est) (of_part None (name_fault trace all s.names) c)) two

  sight_by : (s : Sight) (est : Option EstEntry) (check : Option CheckEntry) → (effect entry).estimate ≡ est → (effect entry).check ≡ check
      → sight_after s (tells cpu entry)
      ≡ record { estimates = of_part s.estimates (λ (e : EstEntry). e ∷ s.estimates) est; names = of_part s.names (λ (c : CheckEntry). name_of c ∷ s.names) check }
  sight_by s est check one two =
      ap (λ e. sight (of_part s.estimates (λ (x : EstEntry). x ∷ s.estimates) e) (of_part s.names (λ (c : CheckEntry). name_of c ∷ s.names) (effect entry).check)) one
      ∙ ap (λ c. sight (of_part s.estimates (λ (x : EstEntry). x ∷ s.estimates) est) (of_part s.names (λ (x : CheckEntry). name_of x ∷ s.names) c)) two

  pub next_judged : (old new : Estimates) (est : EstEntry) (found : Option ℕ) → (effect entry).estimate ≡ Some est → JudgesNext old new est found
      → Judges (estimate_fault trace opened all) sight_after (KeepsEstimates trace opened all old) (KeepsEstimates trace opened all new) (tells cpu entry) found
  next_judged old new est found is judges s keeps =
      let judged = judges trace opened all s keeps in
      let none = only_estimate entry est is in record {
        answer = fault_by s (Some est) None is none ∙ first_of-none (next_fault trace opened s.estimates est) ∙ judged.answer;
        goes_on = λ no_fault. subst (KeepsEstimates trace opened all new) (sym (sight_by s (Some est) None is none)) (judged.keeps no_fault);
      }

  pub name_judged : (old new : Estimates) (check : CheckEntry) (found : Option ℕ) → (effect entry).estimate ≡ None → (effect entry).check ≡ Some check
      → JudgesName old new check found
      → Judges (estimate_fault trace opened all) sight_after (KeepsEstimates trace opened all old) (KeepsEstimates trace opened all new) (tells cpu entry) found
  name_judged old new check found none is judges s keeps =
      let judged = judges trace opened all s keeps in record {
        answer = fault_by s None (Some check) none is ∙ judged.answer;
        goes_on = λ no_fault. subst (KeepsEstimates trace opened all new) (sym (sight_by s None (Some check) none is)) (judged.keeps no_fault);
      }

  pub passed : (kept : Estimates) → (effect entry).estimate ≡ None → (effect entry).check ≡ None
      → Judges (estimate_fault trace opened all) sight_after (KeepsEstimates trace opened all kept) (KeepsEstimates trace opened all kept) (tells cpu entry) None
  passed kept one two s keeps = record {
    answer = fault_by s None None one two;
    goes_on = λ no_fault. subst (KeepsEstimates trace opened all kept) (sym (sight_by s None None one two)) keeps;
  }

nothing_named : (trace : Trace) → AreNamed trace [] (replicate (contexts trace) 0)
nothing_named trace =
    none_seen (λ (x y : ℕ). y == x) (below (contexts trace)) (λ (n : Named). n.context) (λ (n : Named). n.version) (contexts trace) (numbers_apart (contexts trace))

pub forgot : (trace : Trace) (opened : ℕ) (all : List Told) (old new : Estimates) (s : Sight) (cpu : ℕ) → new.counts.items ≡ old.counts.items → new.last.items ≡ old.last.items
    → new.named ≡ replicate (length old.named) 0 → KeepsEstimates trace opened all old s
    → IsJudged (estimate_fault trace opened all) sight_after (KeepsEstimates trace opened all new) s (begins cpu) None
forgot trace opened all old new s cpu counts lasts named keeps = record {
  answer = refl;
  goes_on = λ none. record {
    counts = subst (AreCounts (contexts trace) all) (sym counts) keeps.counts;
    last = subst (AreLast trace opened s.estimates) (sym lasts) keeps.last;
    named = subst (AreNamed trace []) (sym (named ∙ ap (λ n. replicate n 0) keeps.named.room)) (nothing_named trace);
  };
}

-- ---- at first

slice_get-replicate : {A : Type 0} (n v : ℕ) (b : A) → (v < n) ⊎ (n ≤ v) → slice_get (replicate n b) v ≡ (if nat_lt v n then Some b else None)
slice_get-replicate n v b (inl lt) =
    slice_get-get_or (replicate n b) v b (rw (length-replicate n b) lt)
    ∙ ap Some (get_or-replicate n v b b lt)
    ∙ sym (ap (λ t. if t then Some b else None) (lt_is v n lt))
slice_get-replicate n v b (inr le) =
    slice_get_past (replicate n b) v (rw (length-replicate n b) le)
    ∙ sym (ap (λ t. if t then Some b else None) (lt_not v n le))

-- the estimate that the context at a place begins with, and none where there is no context
first_at_place : (trace : Trace) (opened x : ℕ) → (x < contexts trace) ⊎ (contexts trace ≤ x)
    → slice_get (first_estimates trace opened) x ≡ (if nat_lt x (contexts trace) then Some (first_estimate trace x opened) else None)
first_at_place trace opened x (inl lt) =
    let first = first_estimate trace x opened in
    slice_get-get_or (first_estimates trace opened) x first (rw (length-map trace.contexts (λ (line : Context). first_by line.estimate opened)) lt)
    ∙ ap Some (first_in_range trace x opened first lt)
    ∙ sym (ap (λ t. if t then Some first else None) (lt_is x (contexts trace) lt))
first_at_place trace opened x (inr le) =
    slice_get_past (first_estimates trace opened) x (rw (length-map trace.contexts (λ (line : Context). first_by line.estimate opened)) le)
    ∙ sym (ap (λ t. if t then Some (first_estimate trace x opened) else None) (lt_not x (contexts trace) le))

pub last_first : (trace : Trace) (opened : ℕ) (last : List Estimate) → last ≡ first_estimates trace opened → AreLast trace opened [] last
last_first trace opened last is x = ap (λ l. slice_get l x) is ∙ first_at_place trace opened x (cases_lt x (contexts trace))

pub named_first : (trace : Trace) (named : List ℕ) → named ≡ replicate (contexts trace) 0 → AreNamed trace [] named
named_first trace named is = subst (AreNamed trace []) (sym is) (nothing_named trace)

pub counts_first : (n : ℕ) (counts : List ℕ) → counts ≡ replicate n 0 → AreCounts n [] counts
counts_first n counts is x = ap (λ l. slice_get l x) is ∙ slice_get-replicate n x 0 (cases_lt x n)

-- ---- how many there are

count_next : (n : ℕ) → capped (capped n + 1) ≡ capped (n + 1)
count_next n = grind arith

set_past : {A : Type 0} (xs : List A) (i : ℕ) (c : A) → slice_get xs i ≡ None → slice_get (set xs i c) i ≡ None
set_past [] i c is = refl
set_past (x ∷ xs) zero c is = absurd (none_some x (sym is))
set_past (x ∷ xs) (suc i) c is = set_past xs i c is

estimates_more : (x : ℕ) (entries : List Told) (entry : Told) → estimates_of x (entries ++ entry ∷ []) ≡ estimates_of x entries ++ estimate_in x entry
estimates_more x entries entry =
    flat_map-append (estimate_in x) entries (entry ∷ []) ∙ ap (λ es. estimates_of x entries ++ es) (append-nil (estimate_in x entry))

-- the estimates of an entry for a context
abbrev told_to : (x : ℕ) (est : Option EstEntry) → List Estimate
told_to x est = of_part [] (λ (e : EstEntry). if e.context == x then e.estimate ∷ [] else []) est

module _ (n : ℕ) (entries : List Told) (counts : List ℕ) (are : AreCounts n entries counts) where
  same_counts : (x : ℕ) (est : Option EstEntry) → told_to x est ≡ []
      → slice_get counts x ≡ (if nat_lt x n then Some (capped (length (estimates_of x entries ++ told_to x est))) else None)
  same_counts x est none =
      are x ∙ ap (λ es. if nat_lt x n then Some (capped (length es)) else None) (sym (append-nil (estimates_of x entries)) ∙ ap (λ es. estimates_of x entries ++ es) (sym none))

  at_context : (est : EstEntry) (t : Bool) → nat_lt est.context n ≡ t
      → slice_get (set counts est.context (capped (get_or counts est.context 0 + 1))) est.context
      ≡ (if t then Some (capped (length (estimates_of est.context entries ++ est.estimate ∷ []))) else None)
  at_context est true is =
      let here : slice_get counts est.context ≡ Some (capped (length (estimates_of est.context entries))) =
      are est.context ∙ ap (λ b. if b then Some (capped (length (estimates_of est.context entries))) else None) is in
      slice_get-set_same counts est.context (capped (length (estimates_of est.context entries))) (capped (get_or counts est.context 0 + 1)) here
      ∙ ap (λ c. Some (capped (c + 1))) (get_or_from_slice_get counts est.context (capped (length (estimates_of est.context entries))) 0 here)
      ∙ ap Some (count_next (length (estimates_of est.context entries)))
      ∙ ap (λ c. Some (capped c)) (sym (length-append (estimates_of est.context entries) (est.estimate ∷ [])))
  at_context est false is =
      set_past counts est.context (capped (get_or counts est.context 0 + 1)) (are est.context ∙ ap (λ b. if b then Some (capped (length (estimates_of est.context entries))) else None) is)

  by_context : (est : EstEntry) (x : ℕ) → (x ≡ est.context) ⊎ (x ≡ est.context → ⊥)
      → slice_get (counted_by (Some est) counts) x ≡ (if nat_lt x n then Some (capped (length (estimates_of x entries ++ told_to x (Some est)))) else None)
  by_context est x (inl e) =
      ap (slice_get (counted_by (Some est) counts)) e
      ∙ at_context est (nat_lt est.context n) refl
      ∙ ap (λ b. if nat_lt est.context n then Some (capped (length (estimates_of est.context entries ++ (if b then est.estimate ∷ [] else [])))) else None) (sym (is_eq est.context est.context refl))
      ∙ ap (λ y. if nat_lt y n then Some (capped (length (estimates_of y entries ++ told_to y (Some est)))) else None) (sym e)
  by_context est x (inr apart) =
      slice_get-set_other counts est.context x (capped (get_or counts est.context 0 + 1)) apart
      ∙ same_counts x (Some est) (ap (λ b. if b then est.estimate ∷ [] else []) (is_apart est.context x (λ e. apart (sym e))))

  by_estimate : (est : Option EstEntry) (x : ℕ)
      → slice_get (counted_by est counts) x ≡ (if nat_lt x n then Some (capped (length (estimates_of x entries ++ told_to x est))) else None)
  by_estimate None x = same_counts x None refl
  by_estimate (Some est) x = by_context est x (cases_eq x est.context)

  pub counted_on : (entry : Told) (new : List ℕ) (est : Option EstEntry) → est ≡ (effect entry).estimate → new ≡ counted_by est counts
      → AreCounts n (entries ++ entry ∷ []) new
  counted_on entry new est is new_is x =
      ap (λ cs. slice_get cs x) new_is
      ∙ by_estimate est x
      ∙ ap (λ e. if nat_lt x n then Some (capped (length (estimates_of x entries ++ told_to x e))) else None) is
      ∙ ap (λ es. if nat_lt x n then Some (capped (length es)) else None) (sym (estimates_more x entries entry))

pub counted_none : (n : ℕ) (entries : List Told) (counts : List ℕ) → AreCounts n entries counts → AreCounts n (entries ++ []) counts
counted_none n entries counts are = subst (λ es. AreCounts n es counts) (sym (append-nil entries)) are
