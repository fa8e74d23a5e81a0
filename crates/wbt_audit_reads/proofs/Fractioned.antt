-- What the code of the point on fractions keeps, step by step.
use Rattle.std.proofs.Common.{◌≡◌, ℕ, ◌+◌, ◌*◌, ◌<◌, ◌≤◌, Bool, true, false, ◌&&◌, ◌==◌, nat_lt, nat_le, if◌then◌else◌, Option, Some, None, List, [], ◌∷◌, ◌++◌, length, get_or, replicate, refl, ap, sym, subst, ◌∙◌, append_assoc, arith, tests, ◌⊎◌, inl, inr}
use Rattle.std.specs.List.{list_any}
use Rattle.std.proofs.lemmas.Bool.{cases_lt}
use Rattle.std.proofs.lemmas.List.{get_or_past}
use Rattle.wbt_audit_walk.proofs.Common.{Fold, Trace, CountsAreSums, Load, cgroup_reads, loads_of, read_loads, reads_of, Each, effect, of_part, begins, tells, domains, contexts, added_to, fraction_fault, periods_after, periods_from, Told, wrote, folded, checked, claimed, batch, done, share, estimated, fault, gave_back, noticed, aged, took, first_failed, first_of, unless, CheckEntry, DomainLine, TimerEntry, seen_at, below, row_of, IsJudged, Judges}
use Rattle.wbt_journal.specs.Counts.{IsSum}
use Rattle.wbt_journal.specs.Effects.{Share}
use Rattle.wbt_journal.specs.Reads.{Period, is_fraction, is_new_enough, periods_read, read_fault}
use Rattle.wbt_journal.specs.Reads as law
use Rattle.wbt_audit_reads.specs.Counting.{context_load}
use Rattle.wbt_audit_reads.specs.Folding.{AreOf}
use Rattle.wbt_audit_reads.specs.Fractioning.{AreRead, AreRising, JudgesCheck, KeepsFractions, Sees, pair_read, share_fault, test, test_at}
use Rattle.wbt_audit_reads.specs.Periods.{ArePeriods, IsRising}
use Rattle.wbt_audit_walk.specs.Places.{pair_at, place_of_pair, same_pairs}
use Rattle.wbt_audit_reads.specs.Sharing.{pair_by}
use Rattle.wbt_audit_reads.specs.declared.fractions.Fractions.{Fractions}
use Rattle.wbt_audit_walk.specs.declared.places.Places.{Places}
use Rattle.wbt_audit_reads.proofs.Perioded.{rising}
use Rattle.wbt_audit_walk.proofs.Placing.{pairs_apart}
use Rattle.wbt_audit_walk.proofs.Seeing.{none_seen, one_seen}

-- ---- what is read

nothing_read : (trace : Trace) → AreRead trace [] (replicate (domains trace * contexts trace) 0)
nothing_read trace =
    none_seen same_pairs (place_of_pair (domains trace) (contexts trace)) pair_read (λ (s : Period). s.period) (domains trace * contexts trace)
    (pairs_apart (domains trace) (contexts trace))

pub forgot : (trace : Trace) (entries : List TimerEntry) (all : List Told) (old : Fractions) (newest : List ℕ) (s : List Period) (cpu : ℕ)
    → newest ≡ replicate (length old.newest) 0 → KeepsFractions trace entries all old s
    → IsJudged (fraction_fault trace entries all) periods_after (KeepsFractions trace entries all (record old { newest = newest })) s (begins cpu) None
forgot trace entries all old newest s cpu is keeps = record {
  answer = refl;
  goes_on = λ none. record {
    places = keeps.places;
    rows = keeps.rows;
    periods = keeps.periods;
    added = keeps.added;
    newest = subst (AreRead trace []) (sym (is ∙ ap (λ n. replicate n 0) keeps.newest.room)) (nothing_read trace);
  };
}

-- a pair's place by the kept numbers is the trace's
pair_of : (trace : Trace) (places : Places) (domain context : ℕ) (place : Option ℕ) → AreOf trace places → pair_by places domain context ≡ place
    → place_of_pair (domains trace) (contexts trace) (domain, context) ≡ place
pair_of trace places domain context place are is =
    ap (λ d. place_of_pair d (contexts trace) (domain, context)) (sym are.domains) ∙ ap (λ c. place_of_pair places.domains c (domain, context)) (sym are.contexts) ∙ is

pub saw_at : (old : Fractions) (newest : List ℕ) (context : ℕ) (read : DomainLine) (place : Option ℕ) → pair_by old.places read.domain context ≡ place
    → newest ≡ seen_at place read.share.period old.newest → Sees old (record old { newest = newest }) (periods_read context (read ∷ []))
saw_at old newest context read place here is trace entries all seen keeps =
    let there : place_of_pair (domains trace) (contexts trace) (read.domain, context) ≡ place = pair_of trace old.places read.domain context place keeps.places here in record {
      places = keeps.places;
      rows = keeps.rows;
      periods = keeps.periods;
      added = keeps.added;
      newest =
          subst (AreRead trace (periods_read context (read ∷ []) ++ seen)) (ap (λ p. seen_at p read.share.period old.newest) there ∙ sym is)
          (one_seen same_pairs (place_of_pair (domains trace) (contexts trace)) pair_read (λ (s : Period). s.period) (domains trace * contexts trace)
          (pairs_apart (domains trace) (contexts trace)) seen old.newest (record { domain = read.domain; context = context; period = read.share.period }) keeps.newest);
    }

pub saw_both : (one two three : Fractions) (vs ws : List Period) → Sees one two vs → Sees two three ws → Sees one three (ws ++ vs)
saw_both one two three vs ws first second trace entries all seen keeps =
    subst (KeepsFractions trace entries all three) (sym (append_assoc ws vs seen)) (second trace entries all (vs ++ seen) (first trace entries all seen keeps))

-- ---- periods rise

lt_is : (v n : ℕ) → v < n → nat_lt v n ≡ true
lt_is v n lt = grind (arith, tests, lt)

none_rises : IsRising []
none_rises i j le lt = absurd (omega (arith, lt))

row_rises : (places : Places) (entries : List TimerEntry) (periods : List (List ℕ)) (row : ℕ) → length periods ≡ places.domains → ArePeriods places entries periods
    → (row < places.domains) ⊎ (places.domains ≤ row) → IsRising (row_of periods row)
row_rises places entries periods row rows are (inl lt) =
    subst IsRising (sym (are row row (ap (λ b. if b then Some row else None) (lt_is row places.domains lt)))) (rising row 0 entries)
row_rises places entries periods row rows are (inr le) = subst IsRising (sym (get_or_past periods row [] (rw rows le))) none_rises

pub rises : (trace : Trace) (entries : List TimerEntry) (all : List Told) (kept : Fractions) (seen : List Period) → KeepsFractions trace entries all kept seen → AreRising kept
rises trace entries all kept seen keeps row = row_rises kept.places entries kept.periods row keeps.rows keeps.periods (cases_lt row kept.places.domains)

-- ---- a read

-- what a check whose counts are sums names is there
named_reads : (trace : Trace) (folds : List Fold) (global : DomainLine) (cgroup : Option DomainLine) (load : Load)
    → Each (IsSum trace folds) (read_loads (global ∷ cgroup_reads cgroup) ++ load ∷ []) → Each (λ (r : DomainLine). nat_lt r.domain (domains trace) ≡ true) (global ∷ cgroup_reads cgroup)
named_reads trace folds global None load each = (each.0.named, tt)
named_reads trace folds global (Some read) load each = (each.0.named, (each.1.0.named, tt))

named_context : (trace : Trace) (folds : List Fold) (check : CheckEntry) (cgroup : Option DomainLine)
    → Each (IsSum trace folds) (read_loads (check.global ∷ cgroup_reads cgroup) ++ context_load check ∷ []) → nat_lt check.context (contexts trace) ≡ true
named_context trace folds check None each = each.1.0.named
named_context trace folds check (Some read) each = each.1.1.0.named

below_there : (count number : ℕ) → nat_lt number count ≡ true → below count number ≡ Some number
below_there count number is = ap (λ b. if b then Some number else None) is

module _ (trace : Trace) (entries : List TimerEntry) (all : List Told) (kept : Fractions) (seen : List Period) (keeps : KeepsFractions trace entries all kept seen)
    (context : ℕ) (context_is : nat_lt context (contexts trace) ≡ true) where
  test_is : (read : DomainLine) → nat_lt read.domain (domains trace) ≡ true → (is_fraction entries all context read && is_new_enough seen context read) ≡ test kept context read
  test_is read is =
      let p : ℕ = read.domain * contexts trace + context in
      let there : place_of_pair (domains trace) (contexts trace) (read.domain, context) ≡ Some p =
      ap (λ d. pair_at (contexts trace) d (below (contexts trace) context)) (below_there (domains trace) read.domain is)
      ∙ ap (λ c. pair_at (contexts trace) (Some read.domain) c) (below_there (contexts trace) context context_is) in
      let here : pair_by kept.places read.domain context ≡ Some p =
      ap (λ d. place_of_pair d kept.places.contexts (read.domain, context)) keeps.places.domains
      ∙ ap (λ c. place_of_pair (domains trace) c (read.domain, context)) keeps.places.contexts ∙ there in
      let row : row_of kept.periods read.domain ≡ periods_from read.domain 0 entries =
      keeps.periods read.domain read.domain (ap (λ d. below d read.domain) keeps.places.domains ∙ below_there (domains trace) read.domain is) in
      ap (λ b. is_fraction entries all context read && b) (keeps.newest.each (read.domain, context) p there read.share.period)
      ∙ ap (λ r. (nat_le 1 read.share.den && (nat_le read.share.num read.share.den
      && (list_any (λ period. period == read.share.period) r && nat_le read.share.num (added_to read.domain context all)))) && nat_le (get_or kept.newest p 0) read.share.period) (sym row)
      ∙ ap (λ a. (nat_le 1 read.share.den && (nat_le read.share.num read.share.den
      && (list_any (λ period. period == read.share.period) (row_of kept.periods read.domain) && nat_le read.share.num a))) && nat_le (get_or kept.newest p 0) read.share.period)
      (sym (keeps.added.each read.domain context p here))
      ∙ ap (λ o. test_at kept o read) (sym here)

failed_on : {A : Type 0} (P : A → Type 0) (f g : A → Bool) (line : ℕ) (xs : List A) → Each P xs → ((x : A) → P x → f x ≡ g x) → first_failed f line xs ≡ first_failed g line xs
failed_on P f g line [] each are = refl
failed_on P f g line (x ∷ xs) each are =
    ap (λ b. elim b [ true ↦ first_failed f (line + 1) xs | false ↦ Some line ]) (are x each.0)
    ∙ ap (λ (o : Option ℕ). elim (g x) [ true ↦ o | false ↦ Some line ]) (failed_on P f g (line + 1) xs each.1 are)

-- ---- an act

only_check : (entry : Told) (check : CheckEntry) → (effect entry).check ≡ Some check → (effect entry).share ≡ None
only_check (share domain context n) check is = cc
only_check (folded fold) check is = refl
only_check (wrote task page fresh) check is = refl
only_check (checked other) check is = refl
only_check (claimed flusher page) check is = refl
only_check (batch flusher pages now until) check is = refl
only_check (done flusher page) check is = refl
only_check (estimated est) check is = refl
only_check (fault flusher pages) check is = refl
only_check (gave_back flusher page absorbed) check is = refl
only_check (noticed flusher inode since) check is = refl
only_check (aged flusher inode due now) check is = refl
only_check (took flusher inode) check is = refl

first_of-none : (o : Option ℕ) → first_of o None ≡ o
first_of-none None = refl
first_of-none (Some line) = refl

share_by : (trace : Trace) (kept : Fractions) (which : Option Share) → AreOf trace kept.places → of_part None (law.share_fault trace) which ≡ share_fault kept which
share_by trace kept None are = refl
share_by trace kept (Some added) are =
    ap (λ d. unless (nat_lt added.domain d && nat_lt added.context (contexts trace)) 0) (sym are.domains)
    ∙ ap (λ c. unless (nat_lt added.domain kept.places.domains && nat_lt added.context c) 0) (sym are.contexts)

module _ (trace : Trace) (folds : List Fold) (entries : List TimerEntry) (all : List Told) (cpu : ℕ) (entry : Told) where
  fault_by : (s : List Period) (check : Option CheckEntry) (which : Option Share) → (effect entry).check ≡ check → (effect entry).share ≡ which
      → fraction_fault trace entries all s (tells cpu entry) ≡ first_of (of_part None (read_fault entries all s) check) (of_part None (law.share_fault trace) which)
  fault_by s check which one two =
      ap (λ c. first_of (of_part None (read_fault entries all s) c) (of_part None (law.share_fault trace) (effect entry).share)) one
      ∙ ap (λ h. first_of (of_part None (read_fault entries all s) check) (of_part None (law.share_fault trace) h)) two

  pub share_judged : (kept : Fractions) (which : Option Share) (found : Option ℕ) → (effect entry).check ≡ None → (effect entry).share ≡ which → found ≡ share_fault kept which
      → Judges (fraction_fault trace entries all) periods_after (KeepsFractions trace entries all kept) (KeepsFractions trace entries all kept) (tells cpu entry) found
  share_judged kept which found none is found_is s keeps = record {
    answer = fault_by s None which none is ∙ share_by trace kept which keeps.places ∙ sym found_is;
    goes_on = λ _.
        subst (λ (c : Option CheckEntry). KeepsFractions trace entries all kept (of_part [] (λ (k : CheckEntry). periods_read k.context (reads_of k)) c ++ s)) (sym none) keeps;
  }

  pub check_judged : (old new : Fractions) (check : CheckEntry) (found : Option ℕ) → (effect entry).check ≡ Some check → CountsAreSums trace folds (tells cpu entry)
      → AreRising old → JudgesCheck old new check found
      → Judges (fraction_fault trace entries all) periods_after (KeepsFractions trace entries all old) (KeepsFractions trace entries all new) (tells cpu entry) found
  check_judged old new check found is sums rise judges s keeps =
      let loads : Each (IsSum trace folds) (loads_of check) = subst (λ (c : Option CheckEntry). Each (IsSum trace folds) (of_part [] loads_of c)) is sums in
      let named = named_reads trace folds check.global check.cgroup (context_load check) loads in
      let context_is = named_context trace folds check check.cgroup loads in record {
        answer =
            fault_by s (Some check) None is (only_check entry check is)
            ∙ first_of-none (read_fault entries all s check)
            ∙ failed_on (λ (r : DomainLine). nat_lt r.domain (domains trace) ≡ true) (λ read. is_fraction entries all check.context read && is_new_enough s check.context read)
            (test old check.context) 0 (reads_of check) named (test_is trace entries all old s keeps check.context context_is)
            ∙ sym (judges.0 rise);
        goes_on = λ none.
            subst (λ (c : Option CheckEntry). KeepsFractions trace entries all new (of_part [] (λ (k : CheckEntry). periods_read k.context (reads_of k)) c ++ s)) (sym is)
            (judges.1 none trace entries all s keeps);
      }

pub read_first : (trace : Trace) (places : Places) (newest : List ℕ) → AreOf trace places → newest ≡ replicate (places.domains * places.contexts) 0 → AreRead trace [] newest
read_first trace places newest are is =
    subst (AreRead trace []) (sym (is ∙ ap (λ d. replicate (d * places.contexts) 0) are.domains ∙ ap (λ c. replicate (domains trace * c) 0) are.contexts)) (nothing_read trace)
