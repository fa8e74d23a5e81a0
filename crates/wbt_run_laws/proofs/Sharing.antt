-- The fractions that checks read are of the timer's periods, and of no more than was added.
use Rattle.std.proofs.Common.{◌≡◌, ℕ, zero, suc, ◌+◌, ◌-◌, ◌/◌, ◌^◌, ◌<◌, ◌≤◌, ◌⊎◌, max, Bool, true, false, ◌||◌, cond, eqb, ltb, List, [], ◌∷◌, ◌++◌, map, Contains, inl, inr, ⊎_elim, sym, refl, ap, ◌∙◌, subst, arith, eq-eqb}
use Rattle.std.specs.List.{list_any}
use Rattle.std.proofs.lemmas.Bool.{cond_both, ltb-true}
use native.Mathlib.Nat.{div-le_self}
use Rattle.wbt_run_laws.proofs.Common.{total, total_same, Fraction, begun, Falls, added_at, Note, Found, Added, Period, Limits, Trace, reads_of, Each, effect, tells, parts_of, all_told, domains, Told, CheckEntry, DomainLine, Journal, TimerEntry, first_lines, onto, IsKept, TellsKept, IsOwn, IsOwnCheck, period_line, begun_at_once, AreInOrder, part_at, Run, Worked}
use Rattle.wbt_flex.specs.Proportions.{fraction_of}
use Rattle.wbt_fraction.specs.Laws as law
use Rattle.wbt_fraction.specs.Notes.{at_of, found_of, periods, IsPast, IsComplete}
use Rattle.wbt_fraction.specs.Sums.{total as weigh}
use Rattle.wbt_fraction.specs.Numbers.{start_of}
use Rattle.wbt_fraction.specs.Words.{period_of, events_of, half_of}
use Rattle.wbt_fraction.proofs.Knowing.{all_past_periods, all_were_added, own_order}
use Rattle.wbt_journal.specs.Reads.{periods_from, added_by, added_to, IsFraction, FractionsAreOfPeriods}
use Rattle.wbt_journal.specs.declared.timer.TimerEntry.TheVariants as timer
use Rattle.wbt_run_laws.specs.Laws.{WorkedFractionsAreOfShares}
use Rattle.wbt_run_laws.specs.Notes.{AreKept}
use Rattle.wbt_run_laws.proofs.Counting.{many, set_cpus, in_parts, all_is, own_part}
use Rattle.wbt_run_laws.proofs.Effects.{if_both, if_weaker}
use Rattle.wbt_run_laws.proofs.Lists.{each_weaker, each_both, or_right}
use Rattle.wbt_run_laws.proofs.Parts.{each_cpu, each_item, entries_sum}

-- ---- notes

-- what holds of each note holds of one
has_it : (P : Note → Type 0) (notes : List Note) (note : Note) → law.Each P notes → Contains notes note → P note
unfolding law.Each
has_it P [] note each has = let low = has.1 in absurd (omega arith)
has_it P (x ∷ xs) note each (zero, low, is) = subst P is each.0
has_it P (x ∷ xs) note each (suc k, low, is) = has_it P xs note each.1 (k, (omega arith), is)

no_weight : (h : Note → ℕ) → weigh h [] ≡ 0
unfolding weigh
no_weight h = refl

part_starts : (part : ℕ) → start_of (suc part) ≡ 0
unfolding start_of
part_starts part = refl

none_begun : begun [] ≡ []
unfolding begun
none_begun = refl

none_falls : Falls []
unfolding Falls
none_falls = tt

pub nothing_in_order : AreInOrder []
nothing_in_order = record { some = subst (λ (l : List (ℕ × ℕ)). Each (λ (k : ℕ). 1 ≤ k) (map (λ (b : ℕ × ℕ). b.1) l)) (sym none_begun) tt; falls = subst Falls (sym none_begun) none_falls }

-- ---- periods

-- the sum of the first few of these, of which the newest comes first
abbrev total_of : (ks : List ℕ) → ℕ
total_of [] = 0
total_of (k ∷ older) = total_of older + k

abbrev IsSum : (period : ℕ) (ks : List ℕ) → Type 0
IsSum period [] = period ≡ 0
IsSum period (k ∷ older) = (period ≡ total_of older + k) ⊎ IsSum period older

all_sum : (ks : List ℕ) → IsSum (total_of ks) ks
all_sum [] = refl
all_sum (k ∷ older) = inl refl

periods_are : (history : List Note) → periods history ≡ total_of (begun_at_once history)
unfolding periods begun
periods_are [] = refl
periods_are (Found at word ∷ older) = periods_are older
periods_are (Added at word n ∷ older) = periods_are older
periods_are (Period word k ∷ older) = ap (λ (n : ℕ). n + k) (periods_are older)

past_is_sum : (period : ℕ) (history : List Note) → IsPast period history → IsSum period (begun_at_once history)
unfolding periods begun IsPast
past_is_sum period [] past = past
past_is_sum period (Found at word ∷ older) past = ⊎_elim
    (λ is. subst (λ (n : ℕ). IsSum n (begun_at_once older)) (sym (is ∙ periods_are older)) (all_sum (begun_at_once older)))
    (λ more. past_is_sum period older more) past
past_is_sum period (Added at word n ∷ older) past = ⊎_elim
    (λ is. subst (λ (n : ℕ). IsSum n (begun_at_once older)) (sym (is ∙ periods_are older)) (all_sum (begun_at_once older)))
    (λ more. past_is_sum period older more) past
past_is_sum period (Period word k ∷ older) past = ⊎_elim
    (λ is. inl (is ∙ ap (λ (n : ℕ). n + k) (periods_are older)))
    (λ more. inr (past_is_sum period older more)) past

-- ---- the timer's periods

abbrev IsPeriod : (period : ℕ) (found : List ℕ) → Type 0
IsPeriod period found = list_any (λ p. eqb p period) found ≡ true

first_of : (a b : Bool) → a ≡ true → (a || b) ≡ true
first_of true b is = refl
first_of false b is = absurd (differ is)
  where
    differ : false ≡ true → ⊥
    differ is = cc

-- the first period of a walk is among its periods
first_period : (domain period : ℕ) (entries : List TimerEntry) → IsPeriod period (periods_from domain period entries)
first_period domain period [] = first_of (eqb period period) false (eq-eqb period period refl)
first_period domain period (timer.Limits of now limits ∷ more) = first_period domain period more
first_period domain period (timer.Period of k ∷ more) = cond_both (eqb of domain) (period ∷ periods_from domain (period + k) more) (periods_from domain period more) (IsPeriod period)
    (λ is. first_of (eqb period period) (list_any (λ p. eqb p period) (periods_from domain (period + k) more)) (eq-eqb period period refl)) (λ not. first_period domain period more)

-- a sum of periods that were told, or that were before
abbrev IsTold : (domain period : ℕ) (entries : List TimerEntry) (older : List ℕ) → Type 0
IsTold domain period entries older =
    IsSum period (onto (period_line domain) entries older) → IsSum period older ⊎ IsPeriod period (periods_from domain (total_of older) entries)

told_by : (own : Bool) (domain period k : ℕ) (more : List TimerEntry) (older : List ℕ) → IsTold domain period more older → IsTold domain period more (k ∷ older)
    → IsSum period (onto (period_line domain) more (cond own (k ∷ []) [] ++ older))
    → IsSum period older ⊎ IsPeriod period (cond own (total_of older ∷ periods_from domain (total_of older + k) more) (periods_from domain (total_of older) more))
told_by false domain period k more older other own sum = other sum
told_by true domain period k more older other own sum =
    let rest : List ℕ = periods_from domain (total_of older + k) more in ⊎_elim
    (λ here. ⊎_elim
    (λ is. inr (or_right (eqb (total_of older) period) (list_any (λ p. eqb p period) rest) (subst (λ (n : ℕ). IsPeriod n rest) (sym is) (first_period domain (total_of older + k) more))))
    (λ before. inl before) here)
    (λ later. inr (or_right (eqb (total_of older) period) (list_any (λ p. eqb p period) rest) later))
    (own sum)

told_sum : (domain period : ℕ) (entries : List TimerEntry) (older : List ℕ) → IsTold domain period entries older
told_sum domain period [] older sum = inl sum
told_sum domain period (timer.Limits of now limits ∷ more) older sum = told_sum domain period more older sum
told_sum domain period (timer.Period of k ∷ more) older sum = told_by (eqb of domain) domain period k more older (told_sum domain period more older) (told_sum domain period more (k ∷ older)) sum

-- the opening begins no period
after_opening : (firsts : ℕ → Limits) (opened domain d n period : ℕ) (more : List TimerEntry) → periods_from domain period (first_lines firsts opened d n ++ more) ≡ periods_from domain period more
after_opening firsts opened domain d zero period more = refl
after_opening firsts opened domain d (suc n) period more = after_opening firsts opened domain (suc d) n period more

-- ---- fractions

at_most_max : (num events : ℕ) → (1 ≤ max 1 (max num events)) × (num ≤ max 1 (max num events))
at_most_max num events = (omega arith, omega arith)

module _ (trace : Trace) (j : Journal) (r : Run) (w : Worked trace j r) (d : ℕ) (low : d < domains trace) where
  abbrev complete : IsComplete (r.all_shares d)
  complete = w.shares_tell.complete d low

  in_order : AreInOrder (r.timer_last.shares d)
  in_order = w.timer_since.in_order d (subst AreInOrder (sym (w.timer_opens.shares d)) nothing_in_order)

  begun_are : begun (r.all_shares d) ≡ begun (r.timer_last.shares d)
  begun_are = w.shares_tell.begun_are d low

  -- the history's periods began in the order in which the timer tells them
  told_periods : begun_at_once complete.history ≡ onto (period_line d) r.ticked []
  told_periods =
      ap (λ (l : List (ℕ × ℕ)). map (λ (b : ℕ × ℕ). b.1) l) (sym (own_order (r.all_shares d) complete (subst Falls (sym begun_are) in_order.falls)) ∙ begun_are)
      ∙ w.timer_since.begun_are d
      ∙ ap (onto (period_line d) r.ticked) (ap begun_at_once (w.timer_opens.shares d) ∙ ap (λ (l : List (ℕ × ℕ)). map (λ (b : ℕ × ℕ). b.1) l) none_begun)

  pub period_is : (period : ℕ) → IsPast period complete.history → IsPeriod period (periods_from d 0 j.timer)
  period_is period past =
      subst (λ (l : List ℕ). IsPeriod period l)
      (sym (ap (periods_from d 0) w.timer_is ∙ after_opening r.set.firsts r.opened d 0 (domains trace) 0 r.ticked))
      (⊎_elim (λ none. subst (λ (n : ℕ). IsPeriod n (periods_from d 0 r.ticked)) (sym none) (first_period d 0 r.ticked)) (λ is. is)
      (told_sum d period r.ticked [] (subst (IsSum period) told_periods (past_is_sum period complete.history past))))

  -- what was added to a part is told
  pub added_is : (context : ℕ) → weigh (added_at (suc context)) (r.all_shares d) ≡ added_to d context (all_told j)
  added_is context =
      let h = added_at (suc context) in
      let none : weigh h (r.timer_last.shares d) ≡ 0 = w.timer_since.adds_none d context ∙ ap (weigh h) (w.timer_opens.shares d) ∙ no_weight h in
      let each = total_same trace.cpus (λ c. weigh h ((r.notes c).shares d)) (λ c. added_to d context (part_at j c))
      (λ c less. let adds = (w.since c less).shares.adds d context in
      let first : weigh h ((r.first_notes c).shares d) ≡ 0 = ap (weigh h) ((w.noted_nothing c less).shares d) ∙ no_weight h in omega arith) in
      let whole = w.shares_tell.weights d low h in
      let sum = ap (added_to d context) (all_is trace j r w) ∙ entries_sum (added_by d context) (parts_of j)
      ∙ ap (λ (n : ℕ). total n (λ c. added_to d context (part_at j c))) (many trace j r w ∙ set_cpus trace j r w) in
      omega arith

  -- a fraction that a CPU's writers kept
  pub fraction_is : (c : ℕ) → c < trace.cpus → (context : ℕ) (read : DomainLine) → read.domain ≡ d → IsKept ((r.notes c).shares d) context read.share → IsFraction j.timer (all_told j) context read
  fraction_is c there context read is (inl none) =
      let den : read.share.den ≡ 1 = ap (λ (f : Fraction). f.den) none in
      let num : read.share.num ≡ 0 = ap (λ (f : Fraction). f.num) none in
      record {
        some_whole = omega arith;
        at_most_whole = omega arith;
        of_period = subst (λ (n : ℕ). IsPeriod n (periods_from read.domain 0 j.timer)) (sym (ap (λ (f : Fraction). f.period) none)) (first_period read.domain 0 j.timer);
        of_added = omega arith;
      }
  fraction_is c there context read is (inr was) =
      let value : read.share ≡ fraction_of (half_of was.part) (half_of was.whole) = was.value in
      let num : ℕ = events_of was.part / 2 ^ (period_of was.whole - period_of was.part) in
      let bound = at_most_max num (events_of was.whole) in
      let n : read.share.num ≡ num = ap (λ (f : Fraction). f.num) value in
      let m : read.share.den ≡ max 1 (max num (events_of was.whole)) = ap (λ (f : Fraction). f.den) value in
      let has = w.shares_tell.have c d there low in
      let past = has_it (λ note. IsPast (period_of (found_of note)) complete.history) (r.all_shares d) (Found 0 was.whole) (all_past_periods (r.all_shares d) complete) (has (Found 0 was.whole) was.found_whole) in
      let most = has_it (λ note. events_of (found_of note) ≤ start_of (at_of note) + weigh (added_at (at_of note)) (r.all_shares d)) (r.all_shares d) (Found (suc context) was.part)
      (all_were_added (r.all_shares d) complete) (has (Found (suc context) was.part) was.found_part) in
      let starts = part_starts context in
      let added = added_is context in
      let smaller : num ≤ events_of was.part = div-le_self (events_of was.part) (2 ^ (period_of was.whole - period_of was.part)) in
      record {
        some_whole = let b = bound.0 in omega arith;
        at_most_whole = let b = bound.1 in omega arith;
        of_period = subst (λ (n : ℕ). IsPeriod n (periods_from read.domain 0 j.timer)) (sym (ap (λ (f : Fraction). f.period) value))
            (subst (λ (k : ℕ). IsPeriod (period_of was.whole) (periods_from k 0 j.timer)) (sym is) (period_is (period_of was.whole) past));
        of_added = subst (λ (k : ℕ). read.share.num ≤ added_to k context (all_told j)) (sym is) (omega arith);
      }

module _ (trace : Trace) (j : Journal) (r : Run) (w : Worked trace j r) (c : ℕ) (there : c < trace.cpus) where
  of_periods : (e : Told) → TellsKept (r.notes c).shares e × IsOwn trace c e → FractionsAreOfPeriods trace j.timer (all_told j) (tells c e)
  of_periods e both =
      let kept = λ (check : CheckEntry) (read : DomainLine). IsKept ((r.notes c).shares read.domain) check.context read.share in
      let there_is = λ (read : DomainLine). ltb read.domain (domains trace) ≡ true in
      let AreKept = λ (check : CheckEntry). Each (kept check) (reads_of check) in
      record {
        check = if_weaker (λ (check : CheckEntry). AreKept check × IsOwnCheck trace c check) (λ (check : CheckEntry). Each (IsFraction j.timer (all_told j) check.context) (reads_of check))
            (λ check has. each_weaker (λ (read : DomainLine). kept check read × there_is read) (IsFraction j.timer (all_told j) check.context)
            (λ read is. fraction_is trace j r w read.domain (ltb-true read.domain (domains trace) is.1) c there check.context read refl is.0) (reads_of check)
            (each_both (kept check) there_is (reads_of check) has.0 has.1.each_domain))
            (effect e).check (if_both AreKept (IsOwnCheck trace c) (effect e).check both.0 both.1.check);
        share = both.1.share;
      }

  -- nothing is kept at first but the fraction before the first read
  first_kept : AreKept (r.first_notes c)
  first_kept domain context = inl ((w.noted_nothing c there).kept domain context)

  part_fractions : Each (λ (e : Told). FractionsAreOfPeriods trace j.timer (all_told j) (tells c e)) (part_at j c)
  part_fractions = each_weaker (λ (e : Told). TellsKept (r.notes c).shares e × IsOwn trace c e) (λ (e : Told). FractionsAreOfPeriods trace j.timer (all_told j) (tells c e)) of_periods (part_at j c)
      (each_both (TellsKept (r.notes c).shares) (IsOwn trace c) (part_at j c) ((w.since c there).shares.fractions first_kept) (own_part trace j r w c there))

pub fractions_of_shares : WorkedFractionsAreOfShares
fractions_of_shares trace j r w = each_item (FractionsAreOfPeriods trace j.timer (all_told j)) (λ c. tt) 0 (parts_of j)
    (each_cpu (λ c part. Each (λ (e : Told). FractionsAreOfPeriods trace j.timer (all_told j) (tells c e)) part) (parts_of j) (λ c less. part_fractions trace j r w c (in_parts trace j r w c less)))
