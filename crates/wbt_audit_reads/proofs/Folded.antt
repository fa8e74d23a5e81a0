-- What the code of the point on folds keeps, fold by fold.
use Rattle.std.proofs.Common.{◌≡◌, ℕ, ◌+◌, ◌-◌, ◌<◌, ◌≤◌, Bool, true, false, not, ◌&&◌, ◌||◌, ◌==◌, nat_lt, nat_le, if◌then◌else◌, Option, Some, None, List, [], ◌∷◌, ◌++◌, length, replicate, take, get_or, unsigned_abs, refl, ap, sym, subst, ◌∙◌, arith, tests, ◌⊎◌, inl, inr, add-zero}
use Rattle.std.specs.List.{list_any, slice_get}
use Rattle.std.proofs.lemmas.Bool.{cases_eq, cases_lt, false≢true}
use Rattle.std.proofs.lemmas.List.{length-replicate, get_or-replicate, length-set, replicate_more}
use Rattle.std.proofs.lemmas.List.Filters.{length-filter_more}
use Rattle.std.proofs.lemmas.Option.{slice_get-get_or, slice_get_past}
use Rattle.wbt_audit_walk.proofs.Common.{is_same, Counter, Fold, Trace, of_counter, fold_fault, folds_after, effect, of_part, tells, domains, contexts, Told, unless, below, counter_place, row_of, cell, push_cell, IsJudged}
use Rattle.wbt_counter.specs.declared.counter.Counter.TheVariants.{Domain, Context}
use Rattle.wbt_journal.specs.Counts.{is_version, is_fold}
use Rattle.wbt_journal.specs.Effects.{listed}
use Rattle.wbt_journal.specs.Machine.{has_counter, batch_of}
use Rattle.wbt_audit_reads.specs.declared.folds.Seen.{Seen}
use Rattle.wbt_audit_walk.specs.declared.places.Places.{Places}
use Rattle.wbt_audit_reads.specs.Folding.{AreOf, place_in, mark_of, AreMarks, KeepsSeen, IsSeen, kept_batch, is_unseen, may_mark, mark_more_at, one_mark_more, HaveNone}
use Rattle.wbt_audit_walk.specs.Places.{behind}
use Rattle.wbt_audit_walk.specs.Rows.{put_cell}
use Rattle.wbt_audit_walk.proofs.Placing.{counters_apart}
use Rattle.wbt_audit_walk.proofs.Rowing.{row-set_same, row-set_other, cell-put_same, cell-put_place, cell-put_row}

none_some : (p : ℕ) → None ≡ Some p → ⊥
none_some p e = cc

none_is_some : (b : Bool) → None ≡ Some b → ⊥
none_is_some b e = cc

-- ---- an act

none_is_true : (answer : Bool) → unless answer 0 ≡ None → answer ≡ true
none_is_true true is = refl
none_is_true false is = cc

pub judged : (trace : Trace) (all s : List Fold) (cpu : ℕ) (entry : Told) (new : Seen) (fold : Fold) (answer : Bool) → (effect entry).fold ≡ Some fold
    → IsSeen trace all new s fold answer → IsJudged (fold_fault trace all) folds_after (KeepsSeen trace all new) s (tells cpu entry) (unless answer 0)
judged trace all s cpu entry new fold answer is seen = record {
  answer = ap (of_part None (λ (f : Fold). unless (is_fold trace all s f) 0)) is ∙ ap (λ b. unless b 0) (sym seen.answers);
  goes_on = λ none. subst (λ f. KeepsSeen trace all new (listed f ++ s)) (sym is) (seen.keeps (none_is_true answer none));
}

pub passed : (trace : Trace) (all s : List Fold) (cpu : ℕ) (entry : Told) (kept : Seen) → (effect entry).fold ≡ None
    → KeepsSeen trace all kept s → IsJudged (fold_fault trace all) folds_after (KeepsSeen trace all kept) s (tells cpu entry) None
passed trace all s cpu entry kept is keeps = record {
  answer = ap (of_part None (λ (f : Fold). unless (is_fold trace all s f) 0)) is;
  goes_on = λ none. subst (λ f. KeepsSeen trace all kept (listed f ++ s)) (sym is) keeps;
}

-- ---- tests

and_parts : (a b : Bool) → (a && b) ≡ true → (a ≡ true) × (b ≡ true)
and_parts true b is = (refl, is)
and_parts false b is = absurd (false≢true is)

no_left : (a b : Bool) → a ≡ false → (a && b) ≡ false
no_left a b is = rw is

no_right : (a b : Bool) → b ≡ false → (a && b) ≡ false
no_right true b is = is
no_right false b is = refl

both_true : (a b : Bool) → a ≡ true → b ≡ true → (a && b) ≡ true
both_true a b one two = rw one two

is_eq : (p q : ℕ) → p ≡ q → (p == q) ≡ true
is_eq p q e = grind (arith, tests, e)

is_apart : (p q : ℕ) → (p ≡ q → ⊥) → (p == q) ≡ false
is_apart p q e = grind (arith, tests, e)

is_at_least : (n : ℕ) → nat_le 1 n ≡ true → 1 ≤ n
is_at_least n is = grind (arith, tests, is)

lt_is : (v n : ℕ) → v < n → nat_lt v n ≡ true
lt_is v n lt = grind (arith, tests, lt)

lt_not : (v n : ℕ) → n ≤ v → nat_lt v n ≡ false
lt_not v n le = grind (arith, tests, le)

-- ---- places

has_below : (count number : ℕ) (t : Bool) (place : Option ℕ) → nat_lt number count ≡ t → below count number ≡ place → (p : ℕ) → place ≡ Some p → t ≡ true
has_below count number true place test is p some = refl
has_below count number false place test is p some =
    let none : below count number ≡ None = ap (λ b. if b then Some number else None) test in absurd (none_some p (sym none ∙ is ∙ some))

lacks_below : (count number : ℕ) (t : Bool) → nat_lt number count ≡ t → below count number ≡ None → t ≡ false
lacks_below count number false test is = refl
lacks_below count number true test is =
    let some : below count number ≡ Some number = ap (λ b. if b then Some number else None) test in absurd (none_some number (sym is ∙ some))

some_behind : (count : ℕ) (place : Option ℕ) (p : ℕ) → behind count place ≡ Some p → (q : ℕ) × (place ≡ Some q)
some_behind count None p is = absurd (none_some p is)
some_behind count (Some q) p is = (q, refl)

none_behind : (count : ℕ) (place : Option ℕ) → behind count place ≡ None → place ≡ None
none_behind count None is = refl
none_behind count (Some q) is = absurd (none_some (count + q) (sym is))

pub has_place : (trace : Trace) (x : Counter) (p : ℕ) → place_in trace x ≡ Some p → has_counter trace x ≡ true
has_place trace (Domain d) p is = has_below (domains trace) d (nat_lt d (domains trace)) (Some p) refl is p refl
has_place trace (Context c) p is =
    let at = some_behind (domains trace) (below (contexts trace) c) p is in
    has_below (contexts trace) c (nat_lt c (contexts trace)) (Some at.0) refl at.1 at.0 refl

pub lacks_place : (trace : Trace) (x : Counter) → place_in trace x ≡ None → has_counter trace x ≡ false
lacks_place trace (Domain d) is = lacks_below (domains trace) d (nat_lt d (domains trace)) refl is
lacks_place trace (Context c) is =
    lacks_below (contexts trace) c (nat_lt c (contexts trace)) refl (none_behind (domains trace) (below (contexts trace) c) is)

-- a place by the kept numbers is the trace's
pub of_places : (trace : Trace) (places : Places) (x : Counter) (place : Option ℕ) → AreOf trace places
    → counter_place places.domains places.contexts x ≡ place → place_in trace x ≡ place
of_places trace places x place are is =
    ap (λ d. counter_place d (contexts trace) x) (sym are.domains) ∙ ap (λ c. counter_place places.domains c x) (sym are.contexts) ∙ is

-- ---- a fold

-- a counter that the trace doesn't have
pub strange : (trace : Trace) (all seen : List Fold) (new : Seen) (fold : Fold) → place_in trace fold.counter ≡ None → IsSeen trace all new seen fold false
strange trace all seen new fold none = record {
  answers = sym (no_left (has_counter trace fold.counter) _ (lacks_place trace fold.counter none));
  keeps = λ is. absurd (false≢true is);
}

right_batch : (trace : Trace) (all seen : List Fold) (kept : Seen) (x : Counter) → KeepsSeen trace all kept seen → kept_batch kept x ≡ batch_of trace x
right_batch trace all seen kept (Domain d) keeps = keeps.domain_batch
right_batch trace all seen kept (Context c) keeps = keeps.context_batch

-- a fold that doesn't move a batch
pub partial : (trace : Trace) (all seen : List Fold) (old new : Seen) (fold : Fold) → KeepsSeen trace all old seen
    → (unsigned_abs fold.delta ≡ kept_batch old fold.counter → ⊥) → IsSeen trace all new seen fold false
partial trace all seen old new fold keeps apart = record {
  answers =
      sym (no_right (has_counter trace fold.counter) _
      (no_left (unsigned_abs fold.delta == batch_of trace fold.counter) _
      (is_apart (unsigned_abs fold.delta) (batch_of trace fold.counter) (λ e. apart (e ∙ sym (right_batch trace all seen old fold.counter keeps))))));
  keeps = λ is. absurd (false≢true is);
}

-- ---- the marks of a counter

is_unseen-if : (t b : Bool) → is_unseen (if t then Some b else None) ≡ (t && not b)
is_unseen-if true b = refl
is_unseen-if false b = refl

back_one : (version : ℕ) → nat_le 1 version ≡ true → version - 1 + 1 ≡ version
back_one version is = let some = is_at_least version is in omega (arith, some)

lt_back : (version n : ℕ) → nat_le 1 version ≡ true → nat_lt (version - 1) n ≡ nat_le version n
lt_back version n is = let some = is_at_least version is in grind (arith, tests, some)

-- what may be marked is a version that there is and wasn't seen
may_mark-by : (x : Counter) (all seen : List Fold) (version : ℕ) (t : Bool) → nat_le 1 version ≡ t
    → (t && is_unseen (mark_of x all seen (version - 1)))
    ≡ (t && (nat_le version (length (of_counter x all)) && not (list_any (is_version x version) seen)))
may_mark-by x all seen version false is = refl
may_mark-by x all seen version true is =
    is_unseen-if (nat_lt (version - 1) (length (of_counter x all))) (list_any (is_version x (version - 1 + 1)) seen)
    ∙ ap (λ b. b && not (list_any (is_version x (version - 1 + 1)) seen)) (lt_back version (length (of_counter x all)) is)
    ∙ ap (λ v. nat_le version (length (of_counter x all)) && not (list_any (is_version x v) seen)) (back_one version is)

unseen_is : (mark : Option Bool) → is_unseen mark ≡ true → mark ≡ Some false
unseen_is None is = absurd (false≢true is)
unseen_is (Some true) is = absurd (false≢true is)
unseen_is (Some false) is = refl

mark_other : (x : Counter) (all seen : List Fold) (fold : Fold) (version : ℕ) → is_version x (version + 1) fold ≡ false
    → mark_of x all (fold ∷ seen) version ≡ mark_of x all seen version
mark_other x all seen fold version apart =
    ap (λ b. if nat_lt version (length (of_counter x all)) then Some (b || list_any (is_version x (version + 1)) seen) else None) apart

mark_if : (t b c : Bool) → (if t then Some b else None) ≡ Some false → c ≡ true → (if t then Some (c || b) else None) ≡ Some true
mark_if true b c is sure = ap (λ d. Some (d || b)) sure
mark_if false b c is sure = absurd (none_is_some false is)

module _ (trace : Trace) (all seen : List Fold) (fold : Fold) (p : ℕ) (there : place_in trace fold.counter ≡ Some p) where
  same_is : (x : Counter) (q : ℕ) → place_in trace x ≡ Some q → is_same x fold.counter ≡ (q == p)
  same_is x q is = (counters_apart (domains trace) (contexts trace)).apart x fold.counter q p is there

  module _ (marks : List (List Bool)) (are : AreMarks trace all marks seen) (some : 1 ≤ fold.version) (unseen : cell marks p (fold.version - 1) ≡ Some false) where
    at_version : (x : Counter) (q : ℕ) → place_in trace x ≡ Some q → q ≡ p → (version : ℕ) → (version ≡ fold.version - 1) ⊎ (version ≡ fold.version - 1 → ⊥)
        → cell (put_cell marks p (fold.version - 1) true) q version ≡ mark_of x all (fold ∷ seen) version
    at_version x q is e version (inl v) =
        ap (λ r. cell (put_cell marks p (fold.version - 1) true) r version) e
        ∙ ap (λ w. cell (put_cell marks p (fold.version - 1) true) p w) v
        ∙ cell-put_same marks p (fold.version - 1) false true unseen
        ∙ sym (mark_if (nat_lt version (length (of_counter x all))) (list_any (is_version x (version + 1)) seen) (is_version x (version + 1) fold)
        (sym (are x q is version) ∙ ap (λ r. cell marks r version) e ∙ ap (cell marks p) v ∙ unseen)
        (both_true (is_same x fold.counter) (fold.version == version + 1) (same_is x q is ∙ is_eq q p e) (is_eq fold.version (version + 1) (omega (arith, v, some)))))
    at_version x q is e version (inr v) =
        ap (λ r. cell (put_cell marks p (fold.version - 1) true) r version) e
        ∙ cell-put_place marks p (fold.version - 1) version false true unseen v
        ∙ ap (λ r. cell marks r version) (sym e)
        ∙ are x q is version
        ∙ sym (mark_other x all seen fold version (no_right (is_same x fold.counter) (fold.version == version + 1) (is_apart fold.version (version + 1) (λ w. v (omega (arith, w))))))

    at_counter : (x : Counter) (q : ℕ) → place_in trace x ≡ Some q → (version : ℕ) → (q ≡ p) ⊎ (q ≡ p → ⊥)
        → cell (put_cell marks p (fold.version - 1) true) q version ≡ mark_of x all (fold ∷ seen) version
    at_counter x q is version (inl e) = at_version x q is e version (cases_eq version (fold.version - 1))
    at_counter x q is version (inr apart) =
        cell-put_row marks p q (fold.version - 1) version true apart
        ∙ are x q is version
        ∙ sym (mark_other x all seen fold version (no_left (is_same x fold.counter) (fold.version == version + 1) (same_is x q is ∙ is_apart q p apart)))

    marked : AreMarks trace all (put_cell marks p (fold.version - 1) true) (fold ∷ seen)
    marked x q is version = at_counter x q is version (cases_eq q p)

  -- a fold of a batch is none at fault exactly where its version may be marked
  pub counted : (old : Seen) (marks : List (List Bool)) (answer : Bool) → KeepsSeen trace all old seen → unsigned_abs fold.delta ≡ kept_batch old fold.counter
      → answer ≡ may_mark old.versions p fold.version → (answer ≡ true → marks ≡ put_cell old.versions p (fold.version - 1) true)
      → IsSeen trace all (record old { versions = marks }) seen fold answer
  counted old marks answer keeps full is put =
      let version_is : Bool =
      nat_le 1 fold.version && (nat_le fold.version (length (of_counter fold.counter all)) && not (list_any (is_version fold.counter fold.version) seen)) in
      let full_is : (unsigned_abs fold.delta == batch_of trace fold.counter) ≡ true =
      is_eq (unsigned_abs fold.delta) (batch_of trace fold.counter) (full ∙ right_batch trace all seen old fold.counter keeps) in record {
        answers =
            is
            ∙ ap (λ m. nat_le 1 fold.version && is_unseen m) (keeps.marks fold.counter p there (fold.version - 1))
            ∙ may_mark-by fold.counter all seen fold.version (nat_le 1 fold.version) refl
            ∙ sym (ap (λ b. b && version_is) full_is)
            ∙ sym (ap (λ b. b && ((unsigned_abs fold.delta == batch_of trace fold.counter) && version_is)) (has_place trace fold.counter p there));
        keeps = λ sure.
            let parts = and_parts (nat_le 1 fold.version) (is_unseen (cell old.versions p (fold.version - 1))) (sym is ∙ sure) in record {
              places = keeps.places;
              domain_batch = keeps.domain_batch;
              context_batch = keeps.context_batch;
              marks =
                  subst (λ m. AreMarks trace all m (fold ∷ seen)) (sym (put sure))
                  (marked old.versions keeps.marks (is_at_least fold.version parts.0) (unseen_is (cell old.versions p (fold.version - 1)) parts.1));
            };
      }

-- ---- no mark at first

slice_get-replicate : (n v : ℕ) (b : Bool) → (v < n) ⊎ (n ≤ v) → slice_get (replicate n b) v ≡ (if nat_lt v n then Some b else None)
slice_get-replicate n v b (inl lt) =
    slice_get-get_or (replicate n b) v b (rw (length-replicate n b) lt)
    ∙ ap Some (get_or-replicate n v b b lt)
    ∙ sym (ap (λ t. if t then Some b else None) (lt_is v n lt))
slice_get-replicate n v b (inr le) =
    slice_get_past (replicate n b) v (rw (length-replicate n b) le)
    ∙ sym (ap (λ t. if t then Some b else None) (lt_not v n le))

pub to_places : (trace : Trace) (places : Places) (x : Counter) (p : ℕ) → AreOf trace places → place_in trace x ≡ Some p
    → counter_place places.domains places.contexts x ≡ Some p
to_places trace places x p are is = ap (λ d. counter_place d places.contexts x) are.domains ∙ ap (λ c. counter_place (domains trace) c x) are.contexts ∙ is

pub no_marks : (trace : Trace) (places : Places) (all : List Fold) (marks : List (List Bool)) → AreOf trace places → HaveNone places all marks
    → AreMarks trace all marks []
no_marks trace places all marks are have x p is version =
    ap (λ r. slice_get r version) (have x p (to_places trace places x p are is))
    ∙ slice_get-replicate (length (of_counter x all)) version false (cases_lt version (length (of_counter x all)))

module _ (places : Places) where
  pub none_made : HaveNone places [] (replicate (places.domains + places.contexts) [])
  none_made x p is =
      get_or-replicate (places.domains + places.contexts) p [] [] ((counters_apart places.domains places.contexts).within x p is)

  -- as many more folds of a counter as the test says
  more_of : (folds : List Fold) (i : ℕ) (d fold : Fold) (x : Counter) (b : Bool) → i < length folds → fold ≡ get_or folds i d → is_same x fold.counter ≡ b
      → length (of_counter x (take (i + 1) folds)) ≡ length (of_counter x (take i folds)) + (if b then 1 else 0)
  more_of folds i d fold x b lt is same =
      length-filter_more (λ f. is_same x f.counter) folds i d lt
      ∙ ap (λ (f : Fold). length (of_counter x (take i folds)) + (if is_same x f.counter then 1 else 0)) (sym is)
      ∙ ap (λ t. length (of_counter x (take i folds)) + (if t then 1 else 0)) same

  at_place : (folds : List Fold) (marks : List (List Bool)) (i : ℕ) (d fold : Fold) (x : Counter) (p q : ℕ) → i < length folds → fold ≡ get_or folds i d
      → length marks ≡ places.domains + places.contexts → HaveNone places (take i folds) marks
      → counter_place places.domains places.contexts x ≡ Some p → counter_place places.domains places.contexts fold.counter ≡ Some q
      → (p ≡ q) ⊎ (p ≡ q → ⊥) → row_of (push_cell marks q false) p ≡ replicate (length (of_counter x (take (i + 1) folds))) false
  at_place folds marks i d fold x p q lt is room have there here (inl e) =
      let apart_is = counters_apart places.domains places.contexts in
      ap (row_of (push_cell marks q false)) e
      ∙ row-set_same marks q (row_of marks q ++ false ∷ []) (rw room (apart_is.within fold.counter q here))
      ∙ ap (λ r. row_of marks r ++ false ∷ []) (sym e)
      ∙ ap (λ r. r ++ false ∷ []) (have x p there)
      ∙ replicate_more (length (of_counter x (take i folds))) false
      ∙ ap (λ n. replicate n false) (sym (more_of folds i d fold x true lt is (apart_is.apart x fold.counter p q there here ∙ is_eq p q e)))
  at_place folds marks i d fold x p q lt is room have there here (inr apart) =
      let apart_is = counters_apart places.domains places.contexts in
      row-set_other marks q p (row_of marks q ++ false ∷ []) apart
      ∙ have x p there
      ∙ ap (λ n. replicate n false) (sym (more_of folds i d fold x false lt is (apart_is.apart x fold.counter p q there here ∙ is_apart p q apart) ∙ add-zero (length (of_counter x (take i folds)))))

  by_place : (folds : List Fold) (marks : List (List Bool)) (i : ℕ) (d fold : Fold) (place : Option ℕ) → i < length folds → fold ≡ get_or folds i d
      → length marks ≡ places.domains + places.contexts → HaveNone places (take i folds) marks → counter_place places.domains places.contexts fold.counter ≡ place
      → HaveNone places (take (i + 1) folds) (mark_more_at place marks)
  by_place folds marks i d fold None lt is room have here x p there =
      have x p there
      ∙ ap (λ n. replicate n false) (sym (more_of folds i d fold x false lt is ((counters_apart places.domains places.contexts).other x fold.counter p there here) ∙ add-zero (length (of_counter x (take i folds)))))
  by_place folds marks i d fold (Some q) lt is room have here x p there = at_place folds marks i d fold x p q lt is room have there here (cases_eq p q)

  one_made : (folds : List Fold) (marks : List (List Bool)) (i : ℕ) (d fold : Fold) → i < length folds → fold ≡ get_or folds i d
      → length marks ≡ places.domains + places.contexts → HaveNone places (take i folds) marks → HaveNone places (take (i + 1) folds) (one_mark_more places fold marks)
  one_made folds marks i d fold lt is room have = by_place folds marks i d fold (counter_place places.domains places.contexts fold.counter) lt is room have refl

  room_kept : (place : Option ℕ) (marks : List (List Bool)) → length (mark_more_at place marks) ≡ length marks
  room_kept None marks = refl
  room_kept (Some p) marks = length-set marks p (row_of marks p ++ false ∷ [])

  pub made_on : (d : Fold) (folds : List Fold) (marks new : List (List Bool)) (i : ℕ) → new ≡ one_mark_more places (get_or folds i d) marks → i < length folds
      → length marks ≡ places.domains + places.contexts → HaveNone places (take i folds) marks
      → (length new ≡ places.domains + places.contexts) × HaveNone places (take (i + 1) folds) new
  made_on d folds marks new i is lt room have =
      let fold : Fold = get_or folds i d in (
        ap length is ∙ room_kept (counter_place places.domains places.contexts fold.counter) marks ∙ room,
        λ x p there. ap (λ m. row_of m p) is ∙ one_made folds marks i d fold lt refl room have x p there,
      )
