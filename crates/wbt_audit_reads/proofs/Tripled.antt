-- What the code of the point on triples keeps, step by step.
use Rattle.std.proofs.Common.{◌≡◌, ℕ, ◌+◌, ◌<◌, Bool, true, false, ◌&&◌, ◌==◌, nat_lt, nat_le, Option, Some, None, List, [], ◌∷◌, ◌++◌, length, get_or, take, replicate, refl, ap, sym, subst, ◌∙◌, append_assoc, append-nil, arith, tests, if◌then◌else◌, ◌⊎◌, inl, inr}
use Rattle.std.specs.List.{slice_get}
use Rattle.std.proofs.lemmas.Bool.{cases_eq}
use Rattle.std.proofs.lemmas.Grind.{flat_map-append}
use Rattle.std.proofs.lemmas.List.{get_or-replicate, length-set, take_more}
use Rattle.wbt_audit_walk.proofs.Common.{Fold, Limits, Trace, CountsAreSums, cgroup_reads, loads_of, read_loads, reads_of, Load, Each, effect, of_part, begins, tells, domains, triple_fault, triples_after, Told, first_failed, CheckEntry, DomainLine, TimerEntry, seen_at, below, row_of, push_cell, IsJudged, Judges}
use Rattle.wbt_journal.specs.Counts.{IsSum}
use Rattle.wbt_journal.specs.Reads.{are_limits, is_new, is_published, triple_in, triples_of}
use Rattle.wbt_journal.specs.declared.timer.TimerEntry.TheVariants as timer
use Rattle.wbt_audit_reads.specs.Counting.{context_load}
use Rattle.wbt_audit_reads.specs.Folding.{AreOf}
use Rattle.wbt_audit_reads.specs.Reading.{AreSeen, ArePublished, KeepsTriples, Sees, JudgesCheck, triple_more_at, one_triple_more, place_by, test, test_at}
use Rattle.wbt_audit_walk.specs.declared.places.Places.{Places}
use Rattle.wbt_audit_reads.specs.declared.triples.Triples.{Triples}
use Rattle.wbt_audit_walk.proofs.Placing.{numbers_apart, below_is}
use Rattle.wbt_audit_walk.proofs.Rowing.{row-set_same, row-set_other}
use Rattle.wbt_audit_walk.proofs.Seeing.{none_seen, one_seen}

-- ---- what is seen

nothing_seen : (trace : Trace) → AreSeen trace [] (replicate (domains trace) 0)
nothing_seen trace =
    none_seen (λ (x y : ℕ). y == x) (below (domains trace)) (λ (r : DomainLine). r.domain) (λ (r : DomainLine). r.triple) (domains trace) (numbers_apart (domains trace))

pub forgot : (trace : Trace) (entries : List TimerEntry) (old : Triples) (newest : List ℕ) (s : List DomainLine) (cpu : ℕ) → newest ≡ replicate (length old.newest) 0
    → KeepsTriples trace entries old s → IsJudged (triple_fault entries) triples_after (KeepsTriples trace entries (record old { newest = newest })) s (begins cpu) None
forgot trace entries old newest s cpu is keeps = record {
  answer = refl;
  goes_on = λ none. record {
    places = keeps.places;
    published = keeps.published;
    newest = subst (AreSeen trace []) (sym (is ∙ ap (λ n. replicate n 0) keeps.newest.room)) (nothing_seen trace);
  };
}

pub saw_at : (old : Triples) (newest : List ℕ) (read : DomainLine) (place : Option ℕ) → place_by old.places read.domain ≡ place
    → newest ≡ seen_at place read.triple old.newest → Sees old (record old { newest = newest }) (read ∷ [])
saw_at old newest read place here is trace entries seen keeps =
    let there : below (domains trace) read.domain ≡ place = ap (λ d. below d read.domain) (sym keeps.places.domains) ∙ here in record {
      places = keeps.places;
      published = keeps.published;
      newest =
          subst (AreSeen trace (read ∷ seen)) (ap (λ p. seen_at p read.triple old.newest) there ∙ sym is)
          (one_seen (λ (x y : ℕ). y == x) (below (domains trace)) (λ (r : DomainLine). r.domain) (λ (r : DomainLine). r.triple) (domains trace)
          (numbers_apart (domains trace)) seen old.newest read keeps.newest);
    }

pub saw_both : (one two three : Triples) (vs ws : List DomainLine) → Sees one two vs → Sees two three ws → Sees one three (ws ++ vs)
saw_both one two three vs ws first second trace entries seen keeps =
    subst (KeepsTriples trace entries three) (sym (append_assoc ws vs seen)) (second trace entries (vs ++ seen) (first trace entries seen keeps))

-- ---- a read

-- the domains of a check whose counts are sums are there
reads_named : (trace : Trace) (all : List Fold) (global : DomainLine) (cgroup : Option DomainLine) (load : Load)
    → Each (IsSum trace all) (read_loads (global ∷ cgroup_reads cgroup) ++ load ∷ []) → Each (λ (r : DomainLine). nat_lt r.domain (domains trace) ≡ true) (global ∷ cgroup_reads cgroup)
reads_named trace all global None load each = (each.0.named, tt)
reads_named trace all global (Some read) load each = (each.0.named, (each.1.0.named, tt))

there_is : (count number : ℕ) → nat_lt number count ≡ true → below count number ≡ Some number
there_is count number is = ap (λ b. if b then Some number else None) is

module _ (trace : Trace) (entries : List TimerEntry) (kept : Triples) (seen : List DomainLine) (keeps : KeepsTriples trace entries kept seen) where
  test_is : (read : DomainLine) → nat_lt read.domain (domains trace) ≡ true → (is_published entries read && is_new seen read) ≡ test kept read
  test_is read is =
      let there : below (domains trace) read.domain ≡ Some read.domain = there_is (domains trace) read.domain is in
      let here : place_by kept.places read.domain ≡ Some read.domain = ap (λ d. below d read.domain) keeps.places.domains ∙ there in
      ap (λ b. is_published entries read && b) (keeps.newest.each read.domain read.domain there read.triple)
      ∙ ap (λ r. are_limits read.limits (slice_get r read.triple) && nat_le (get_or kept.newest read.domain 0) read.triple) (sym (keeps.published read.domain read.domain here))
      ∙ ap (λ p. test_at kept p read) (sym here)

failed_on : {A : Type 0} (P : A → Type 0) (f g : A → Bool) (line : ℕ) (xs : List A) → Each P xs → ((x : A) → P x → f x ≡ g x) → first_failed f line xs ≡ first_failed g line xs
failed_on P f g line [] each are = refl
failed_on P f g line (x ∷ xs) each are =
    ap (λ b. elim b [ true ↦ first_failed f (line + 1) xs | false ↦ Some line ]) (are x each.0)
    ∙ ap (λ (o : Option ℕ). elim (g x) [ true ↦ o | false ↦ Some line ]) (failed_on P f g (line + 1) xs each.1 are)

-- ---- an act

module _ (trace : Trace) (all : List Fold) (entries : List TimerEntry) (cpu : ℕ) (entry : Told) where
  pub unchecked : (kept : Triples) → (effect entry).check ≡ None
      → Judges (triple_fault entries) triples_after (KeepsTriples trace entries kept) (KeepsTriples trace entries kept) (tells cpu entry) None
  unchecked kept none s keeps = record {
    answer = ap (λ (c : Option CheckEntry). first_failed (λ read. is_published entries read && is_new s read) 0 (of_part [] reads_of c)) none;
    goes_on = λ _. subst (λ (c : Option CheckEntry). KeepsTriples trace entries kept (of_part [] reads_of c ++ s)) (sym none) keeps;
  }

  pub check_judged : (old new : Triples) (check : CheckEntry) (found : Option ℕ) → (effect entry).check ≡ Some check → CountsAreSums trace all (tells cpu entry)
      → JudgesCheck old new check found
      → Judges (triple_fault entries) triples_after (KeepsTriples trace entries old) (KeepsTriples trace entries new) (tells cpu entry) found
  check_judged old new check found is sums judges s keeps =
      let loads : Each (IsSum trace all) (loads_of check) = subst (λ (c : Option CheckEntry). Each (IsSum trace all) (of_part [] loads_of c)) is sums in
      let named = reads_named trace all check.global check.cgroup (context_load check) loads in record {
        answer =
            ap (λ (c : Option CheckEntry). first_failed (λ read. is_published entries read && is_new s read) 0 (of_part [] reads_of c)) is
            ∙ failed_on (λ (r : DomainLine). nat_lt r.domain (domains trace) ≡ true) (λ read. is_published entries read && is_new s read) (test old) 0 (reads_of check) named (test_is trace entries old s keeps)
            ∙ sym judges.0;
        goes_on = λ none. subst (λ (c : Option CheckEntry). KeepsTriples trace entries new (of_part [] reads_of c ++ s)) (sym is) (judges.1 none trace entries s keeps);
      }

-- ---- at first

pub seen_first : (trace : Trace) (places : Places) (newest : List ℕ) → AreOf trace places → newest ≡ replicate places.domains 0 → AreSeen trace [] newest
seen_first trace places newest are is = subst (AreSeen trace []) (sym (is ∙ ap (λ d. replicate d 0) are.domains)) (nothing_seen trace)

-- ---- what is published

module _ (places : Places) where
  pub none_published : ArePublished places [] (replicate places.domains [])
  none_published domain p is = get_or-replicate places.domains p [] [] ((numbers_apart places.domains).within domain p is)

  more_of : (entries : List TimerEntry) (i : ℕ) (d : TimerEntry) (domain : ℕ) → i < length entries
      → triples_of domain (take (i + 1) entries) ≡ triples_of domain (take i entries) ++ triple_in domain (get_or entries i d)
  more_of entries i d domain lt =
      ap (triples_of domain) (take_more entries i d lt)
      ∙ flat_map-append (triple_in domain) (take i entries) (get_or entries i d ∷ [])
      ∙ ap (λ ts. triples_of domain (take i entries) ++ ts) (append-nil (triple_in domain (get_or entries i d)))

  is_eq : (p q : ℕ) → p ≡ q → (p == q) ≡ true
  is_eq p q e = grind (arith, tests, e)

  is_apart : (p q : ℕ) → (p ≡ q → ⊥) → (p == q) ≡ false
  is_apart p q e = grind (arith, tests, e)

  at_place : (published : List (List Limits)) (front : List Limits) (of now : ℕ) (limits : Limits) (domain p q : ℕ) → length published ≡ places.domains
      → place_by places domain ≡ Some p → place_by places of ≡ Some q → row_of published p ≡ front → (p ≡ q) ⊎ (p ≡ q → ⊥)
      → row_of (push_cell published q limits) p ≡ front ++ triple_in domain (timer.Limits of now limits)
  at_place published front of now limits domain p q room there here is (inl e) =
      ap (row_of (push_cell published q limits)) e
      ∙ row-set_same published q (row_of published q ++ limits ∷ []) (rw room ((numbers_apart places.domains).within of q here))
      ∙ ap (λ r. row_of published r ++ limits ∷ []) (sym e)
      ∙ ap (λ r. r ++ limits ∷ []) is
      ∙ ap (λ b. front ++ (if b then limits ∷ [] else [])) (sym (is_eq of domain ((below_is places.domains of q here).0 ∙ sym e ∙ sym (below_is places.domains domain p there).0)))
  at_place published front of now limits domain p q room there here is (inr apart) =
      row-set_other published q p (row_of published q ++ limits ∷ []) apart
      ∙ is
      ∙ sym (append-nil front)
      ∙ ap (λ b. front ++ (if b then limits ∷ [] else []))
      (sym (is_apart of domain (λ e. apart (sym (below_is places.domains domain p there).0 ∙ sym e ∙ (below_is places.domains of q here).0))))

  by_place : (published : List (List Limits)) (front : List Limits) (of now : ℕ) (limits : Limits) (domain p : ℕ) (place : Option ℕ) → length published ≡ places.domains
      → place_by places domain ≡ Some p → place_by places of ≡ place → row_of published p ≡ front
      → row_of (triple_more_at place limits published) p ≡ front ++ triple_in domain (timer.Limits of now limits)
  by_place published front of now limits domain p None room there here is =
      is ∙ sym (append-nil front)
      ∙ ap (λ b. front ++ (if b then limits ∷ [] else [])) (sym ((numbers_apart places.domains).other domain of p there here))
  by_place published front of now limits domain p (Some q) room there here is = at_place published front of now limits domain p q room there here is (cases_eq p q)

  one_published : (published : List (List Limits)) (front : List Limits) (entry : TimerEntry) (domain p : ℕ) → length published ≡ places.domains
      → place_by places domain ≡ Some p → row_of published p ≡ front → row_of (one_triple_more places entry published) p ≡ front ++ triple_in domain entry
  one_published published front (timer.Limits of now limits) domain p room there is =
      by_place published front of now limits domain p (place_by places of) room there refl is
  one_published published front (timer.Period of k) domain p room there is = is ∙ sym (append-nil front)

  room_at : (place : Option ℕ) (limits : Limits) (published : List (List Limits)) → length (triple_more_at place limits published) ≡ length published
  room_at None limits published = refl
  room_at (Some p) limits published = length-set published p (row_of published p ++ limits ∷ [])

  room_kept : (entry : TimerEntry) (published : List (List Limits)) → length (one_triple_more places entry published) ≡ length published
  room_kept (timer.Limits of now limits) published = room_at (place_by places of) limits published
  room_kept (timer.Period of k) published = refl

  pub published_on : (d : TimerEntry) (entries : List TimerEntry) (published new : List (List Limits)) (i : ℕ) → new ≡ one_triple_more places (get_or entries i d) published
      → i < length entries → length published ≡ places.domains → ArePublished places (take i entries) published
      → (length new ≡ places.domains) × ArePublished places (take (i + 1) entries) new
  published_on d entries published new i is lt room are = (
    ap length is ∙ room_kept (get_or entries i d) published ∙ room,
    λ domain p there.
        ap (λ m. row_of m p) is
        ∙ one_published published (triples_of domain (take i entries)) (get_or entries i d) domain p room there (are domain p there)
        ∙ sym (more_of entries i d domain lt),
  )
