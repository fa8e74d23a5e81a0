-- Fractions that checks print are of periods that the domain has had, and of no more than was counted in; with one entry more.
use Rattle.std.proofs.Common.{◌≡◌, ℕ, suc, ◌+◌, ◌<◌, ◌≤◌, max, Bool, true, false, ◌||◌, cond, eqb, List, [], ◌∷◌, ◌++◌, length, get_or, sum_by, refl, sym, ◌∙◌, ap, subst, arith, eq-eqb, ne_eqb}
use Rattle.std.proofs.Math.ListN.{set}
use Rattle.std.specs.List.{list_any}
use Rattle.std.proofs.lemmas.Bool.{cond-true, cond-false}
use Rattle.std.proofs.lemmas.List.{get_or-set_same, get_or-set_other, length-set, map-append, append-nil}
use Rattle.std.proofs.lemmas.List.Sums.{sum_by-cons, sum_by-append, sum_by-set}
use Rattle.std.proofs.lemmas.Nat.{shr_le}
use mathlib.Core.Logic.{dite}
use native.Mathlib.Decide.{ℕ_discrete}
use Rattle.wbt_replay_order.proofs.Common.{aged, fraction_of, Half, Limits, group_of, Trace, reads_of, Each, tells, domains, Told, CheckEntry, DomainLine, TimerEntry, is_check, items_told, Walks, each_weaker, walks_silent, no_cpu, no_domain, no_context, Cpu, Domain, Writeback}
use Rattle.wbt_flex.specs.declared.share.Fraction.{Fraction}
use Rattle.wbt_journal.specs.Items.{Item}
use Rattle.wbt_journal.specs.Reads.{periods_from, added_by, added_to, PeriodsGoOn, periods_after}
use Rattle.wbt_journal.specs.declared.timer.TimerEntry.TheVariants as timer
use Rattle.wbt_run_laws.specs.Notes.{KeepsPeriods}
use Rattle.wbt_run_laws.proofs.Entering.{others_read_none}
use Rattle.wbt_run_laws.proofs.Lists.{or_right}
use Rattle.wbt_run_laws.proofs.Walking.{walks_more}
use Rattle.wbt_replay_points.proofs.Lawful.Logs.{IsInOrder}
use Rattle.wbt_replay_points.proofs.Lawful.Same.{told_of}

-- ---- periods

-- the period of a domain after these entries
abbrev pub last_period : (d period : ℕ) (entries : List TimerEntry) → ℕ
last_period d period [] = period
last_period d period (timer.Limits of now limits ∷ more) = last_period d period more
last_period d period (timer.Period of k ∷ more) = cond (eqb of d) (last_period d (period + k) more) (last_period d period more)

abbrev pub HadPeriod : (d : ℕ) (entries : List TimerEntry) (period : ℕ) → Type 0
HadPeriod d entries period = list_any (λ (p : ℕ). eqb p period) (periods_from d 0 entries) ≡ true

or_left : (a b : Bool) → a ≡ true → (a || b) ≡ true
or_left a b is = ap (λ (c : Bool). c || b) is

-- it had its last one
had_last : (d from : ℕ) (entries : List TimerEntry) → list_any (λ (p : ℕ). eqb p (last_period d from entries)) (periods_from d from entries) ≡ true
had_last d from [] = or_left (eqb from from) false (eq-eqb from from refl)
had_last d from (timer.Limits of now limits ∷ more) = had_last d from more
had_last d from (timer.Period of k ∷ more) = by_domain (eqb of d) (had_last d (from + k) more) (had_last d from more)
  where
    by_domain : (b : Bool) → list_any (λ (p : ℕ). eqb p (last_period d (from + k) more)) (periods_from d (from + k) more) ≡ true
        → list_any (λ (p : ℕ). eqb p (last_period d from more)) (periods_from d from more) ≡ true
        → list_any (λ (p : ℕ). eqb p (cond b (last_period d (from + k) more) (last_period d from more))) (cond b (from ∷ periods_from d (from + k) more) (periods_from d from more)) ≡ true
    by_domain true own other = or_right (eqb from (last_period d (from + k) more)) (list_any (λ (p : ℕ). eqb p (last_period d (from + k) more)) (periods_from d (from + k) more)) own
    by_domain false own other = other

-- and has had each also with one entry more
had_more : (d from q : ℕ) (entries : List TimerEntry) (e : TimerEntry) → list_any (λ (p : ℕ). eqb p q) (periods_from d from entries) ≡ true
    → list_any (λ (p : ℕ). eqb p q) (periods_from d from (entries ++ e ∷ [])) ≡ true
had_more d from q [] (timer.Limits of now limits) had = had
had_more d from q [] (timer.Period of k) had = by_domain (eqb of d) had
  where
    by_domain : (b : Bool) → (eqb from q || false) ≡ true → list_any (λ (p : ℕ). eqb p q) (cond b (from ∷ (from + k) ∷ []) (from ∷ [])) ≡ true
    by_domain true is = by_first (eqb from q) is
      where
        by_first : (b : Bool) → (b || false) ≡ true → (b || (eqb (from + k) q || false)) ≡ true
        by_first true h = refl
        by_first false h = absurd (cc h)
    by_domain false is = is
had_more d from q (timer.Limits of now limits ∷ more) e had = had_more d from q more e had
had_more d from q (timer.Period of k ∷ more) e had = by_domain (eqb of d) (had_more d (from + k) q more e) (had_more d from q more e) had
  where
    by_domain : (b : Bool)
        → (list_any (λ (p : ℕ). eqb p q) (periods_from d (from + k) more) ≡ true → list_any (λ (p : ℕ). eqb p q) (periods_from d (from + k) (more ++ e ∷ [])) ≡ true)
        → (list_any (λ (p : ℕ). eqb p q) (periods_from d from more) ≡ true → list_any (λ (p : ℕ). eqb p q) (periods_from d from (more ++ e ∷ [])) ≡ true)
        → list_any (λ (p : ℕ). eqb p q) (cond b (from ∷ periods_from d (from + k) more) (periods_from d from more)) ≡ true
        → list_any (λ (p : ℕ). eqb p q) (cond b (from ∷ periods_from d (from + k) (more ++ e ∷ [])) (periods_from d from (more ++ e ∷ []))) ≡ true
    by_domain true own other is = by_first (eqb from q) own is
      where
        by_first : (b : Bool) → (list_any (λ (p : ℕ). eqb p q) (periods_from d (from + k) more) ≡ true → list_any (λ (p : ℕ). eqb p q) (periods_from d (from + k) (more ++ e ∷ [])) ≡ true)
            → (b || list_any (λ (p : ℕ). eqb p q) (periods_from d (from + k) more)) ≡ true → (b || list_any (λ (p : ℕ). eqb p q) (periods_from d (from + k) (more ++ e ∷ []))) ≡ true
        by_first true rest h = refl
        by_first false rest h = rest h
    by_domain false own other is = other is

pub last_limits : (d from : ℕ) (entries : List TimerEntry) (of now : ℕ) (limits : Limits) → last_period d from (entries ++ timer.Limits of now limits ∷ []) ≡ last_period d from entries
last_limits d from [] of now limits = refl
last_limits d from (timer.Limits o n l ∷ more) of now limits = last_limits d from more of now limits
last_limits d from (timer.Period o k ∷ more) of now limits =
    ap (λ (q : ℕ). cond (eqb o d) q (last_period d from (more ++ timer.Limits of now limits ∷ []))) (last_limits d (from + k) more of now limits)
    ∙ ap (cond (eqb o d) (last_period d (from + k) more)) (last_limits d from more of now limits)

last_more : (d from : ℕ) (entries : List TimerEntry) (of k : ℕ) → last_period d from (entries ++ timer.Period of k ∷ []) ≡ cond (eqb of d) (last_period d from entries + k) (last_period d from entries)
last_more d from [] of k = refl
last_more d from (timer.Limits o n l ∷ more) of k = last_more d from more of k
last_more d from (timer.Period o m ∷ more) of k =
    ap (λ (q : ℕ). cond (eqb o d) q (last_period d from (more ++ timer.Period of k ∷ []))) (last_more d (from + m) more of k)
    ∙ ap (cond (eqb o d) (cond (eqb of d) (last_period d (from + m) more + k) (last_period d (from + m) more))) (last_more d from more of k)
    ∙ by_both (eqb o d) (eqb of d)
  where
    by_both : (a b : Bool) → cond a (cond b (last_period d (from + m) more + k) (last_period d (from + m) more)) (cond b (last_period d from more + k) (last_period d from more))
        ≡ cond b (cond a (last_period d (from + m) more) (last_period d from more) + k) (cond a (last_period d (from + m) more) (last_period d from more))
    by_both true b = refl
    by_both false b = refl

-- ---- what was counted in

abbrev pub added_on : (d k : ℕ) (c : Cpu) → ℕ
added_on d k c = added_to d k (told_of c)

-- by all CPUs
abbrev pub added_all : (d k : ℕ) (cpus : List Cpu) → ℕ
added_all d k cpus = sum_by (added_on d k) cpus

pub same_sums : {A : Type 0} (f : A → ℕ) (x : A) (xs ys : List A) → length ys ≡ length xs → ((i : ℕ) → f (get_or ys i x) ≡ f (get_or xs i x)) → sum_by f ys ≡ sum_by f xs
same_sums f x [] [] long same = refl
same_sums f x [] (b ∷ ys) long same = absurd (omega (arith, long))
same_sums f x (a ∷ xs) [] long same = absurd (omega (arith, long))
same_sums f x (a ∷ xs) (b ∷ ys) long same =
    let rest = same_sums f x xs ys (omega (arith, long)) (λ i. same (suc i)) in
    let first : f b ≡ f a = same 0 in
    omega (arith, rest, first, sum_by-cons f a xs, sum_by-cons f b ys)

added_one : (d k : ℕ) (e : Told) → added_to d k (e ∷ []) ≡ added_by d k e
added_one d k e = let one = sum_by-cons (added_by d k) e [] in omega (arith, one)

-- one CPU tells an entry more
pub added_more : (d k : ℕ) (cpus : List Cpu) (cpu : ℕ) (c : Cpu) (e : Told) → cpu < length cpus → told_of c ≡ told_of (get_or cpus cpu no_cpu) ++ e ∷ []
    → added_all d k (set cpus cpu c) ≡ added_all d k cpus + added_by d k e
added_more d k cpus cpu c e there told =
    let change = sum_by-set (added_on d k) cpus cpu c no_cpu there in
    let more : added_on d k c ≡ added_on d k (get_or cpus cpu no_cpu) + added_to d k (e ∷ []) =
    ap (added_to d k) told ∙ sum_by-append (added_by d k) (told_of (get_or cpus cpu no_cpu)) (e ∷ []) in
    let one = added_one d k e in
    omega (arith, change, more, one)

-- ---- the state of shares

-- a part of the whole, of a period that the domain has had, and of no more than was counted in
pub record IsPrinted (cpus : List Cpu) (entries : List TimerEntry) (context : ℕ) (read : DomainLine) : Type 0 where
  pub some_whole : 1 ≤ read.share.den
  pub at_most_whole : read.share.num ≤ read.share.den
  pub of_period : HadPeriod read.domain entries read.share.period
  pub of_added : read.share.num ≤ added_all read.domain context cpus

abbrev pub IsPrintedIn : (cpus : List Cpu) (entries : List TimerEntry) (check : CheckEntry) → Type 0
IsPrintedIn cpus entries check = Each (IsPrinted cpus entries check.context) (reads_of check)

-- no period was read yet, and those of now
abbrev pub kept_none : (d k : ℕ) → Fraction
kept_none d k = record { period = 0; num = 0; den = 1 }

abbrev pub kept_of : (ds : List Domain) (d k : ℕ) → Fraction
kept_of ds d k = record { period = (get_or ds d no_domain).events.period; num = 0; den = 1 }

abbrev pub HasRead : (cpu : ℕ) (c : Cpu) (ds : List Domain) → Type 0
HasRead cpu c ds = Walks KeepsPeriods PeriodsGoOn periods_after kept_none (items_told cpu (told_of c)) (kept_of ds)

pub record AreShared (trace : Trace) (cpus : List Cpu) (ds : List Domain) (ks : List Writeback) (entries : List TimerEntry) : Type 0 where
  pub order : (i : ℕ) → IsInOrder (get_or cpus i no_cpu)
  pub many : length ds ≡ domains trace
  pub places : length ks ≡ length trace.contexts
  pub periods_are : (d : ℕ) → d < domains trace → (get_or ds d no_domain).events.period ≡ last_period d 0 entries
  pub part : (k : ℕ) → (get_or ks k no_context).part.events ≤ added_all 0 k cpus
  pub cgroup_part : (k : ℕ) → (get_or ks k no_context).cgroup_part.events ≤ added_all (group_of trace k) k cpus
  pub printed : (i : ℕ) → Each (IsPrintedIn cpus entries) (get_or cpus i no_cpu).checks
  pub read : (i : ℕ) → HasRead i (get_or cpus i no_cpu) ds

-- what is printed stays so, where more was counted in and more was told by the timer
pub printed_on : (cpus cpus2 : List Cpu) (entries entries2 : List TimerEntry) → ((d k : ℕ) → added_all d k cpus ≤ added_all d k cpus2) → ((d q : ℕ) → HadPeriod d entries q → HadPeriod d entries2 q)
    → (checks : List CheckEntry) → Each (IsPrintedIn cpus entries) checks → Each (IsPrintedIn cpus2 entries2) checks
printed_on cpus cpus2 entries entries2 more had checks each =
    each_weaker (IsPrintedIn cpus entries) (IsPrintedIn cpus2 entries2)
    (λ check all. each_weaker (IsPrinted cpus entries check.context) (IsPrinted cpus2 entries2 check.context)
    (λ read is. record {
      some_whole = is.some_whole;
      at_most_whole = is.at_most_whole;
      of_period = had read.domain read.share.period is.of_period;
      of_added = omega (arith, is.of_added, more read.domain check.context);
    }) (reads_of check) all) checks each

-- no period falls
pub read_on : (cpu : ℕ) (c : Cpu) (ds ds2 : List Domain) → ((d : ℕ) → (get_or ds d no_domain).events.period ≤ (get_or ds2 d no_domain).events.period) → HasRead cpu c ds → HasRead cpu c ds2
read_on cpu c ds ds2 up read =
    subst (λ (items : List Item). Walks KeepsPeriods PeriodsGoOn periods_after kept_none items (kept_of ds2)) (append-nil (items_told cpu (told_of c)))
    (walks_more KeepsPeriods PeriodsGoOn periods_after kept_none (kept_of ds) (kept_of ds2) (items_told cpu (told_of c)) [] read
    (walks_silent KeepsPeriods PeriodsGoOn periods_after (kept_of ds) (kept_of ds2) [] tt (λ seen keeps d k period low. keeps d k period (omega (arith, low, up d)))))

-- an entry more
read_more : (cpu : ℕ) (c c2 : Cpu) (ds : List Domain) (e : Told) → told_of c2 ≡ told_of c ++ e ∷ [] → Walks KeepsPeriods PeriodsGoOn periods_after (kept_of ds) (items_told cpu (e ∷ [])) (kept_of ds)
    → HasRead cpu c ds → HasRead cpu c2 ds
read_more cpu c c2 ds e told one read =
    subst (λ (l : List Told). Walks KeepsPeriods PeriodsGoOn periods_after kept_none (items_told cpu l) (kept_of ds)) (sym told)
    (subst (λ (items : List Item). Walks KeepsPeriods PeriodsGoOn periods_after kept_none items (kept_of ds)) (sym (map-append (tells cpu) (told_of c) (e ∷ [])))
    (walks_more KeepsPeriods PeriodsGoOn periods_after kept_none (kept_of ds) (kept_of ds) (items_told cpu (told_of c)) (items_told cpu (e ∷ [])) read one))

module _ (trace : Trace) (cpus : List Cpu) (ds : List Domain) (ks : List Writeback) (entries : List TimerEntry) (h : AreShared trace cpus ds ks entries) where
  -- ---- an entry more

  -- a CPU tells an entry, and has these checks then
  pub shared_more : (cpu : ℕ) (c : Cpu) (e : Told) → cpu < length cpus → told_of c ≡ told_of (get_or cpus cpu no_cpu) ++ e ∷ [] → IsInOrder c
      → Walks KeepsPeriods PeriodsGoOn periods_after (kept_of ds) (items_told cpu (e ∷ [])) (kept_of ds)
      → (Each (IsPrintedIn (set cpus cpu c) entries) (get_or cpus cpu no_cpu).checks → Each (IsPrintedIn (set cpus cpu c) entries) c.checks)
      → AreShared trace (set cpus cpu c) ds ks entries
  shared_more cpu c e there told order reads checks =
      let more : (d k : ℕ) → added_all d k cpus ≤ added_all d k (set cpus cpu c) = λ d k. (let grown = added_more d k cpus cpu c e there told in omega (arith, grown)) in
      record {
        order = λ i. dite (ℕ_discrete i cpu)
            (λ same. subst (λ (n : ℕ). IsInOrder (get_or (set cpus cpu c) n no_cpu)) (sym same) (subst IsInOrder (sym (get_or-set_same cpus cpu c no_cpu there)) order))
            (λ apart. subst IsInOrder (sym (get_or-set_other cpus cpu i c no_cpu apart)) (h.order i));
        many = h.many;
        places = h.places;
        periods_are = h.periods_are;
        part = λ k. omega (arith, h.part k, more 0 k);
        cgroup_part = λ k. omega (arith, h.cgroup_part k, more (group_of trace k) k);
        printed = λ i. dite (ℕ_discrete i cpu)
            (λ same. subst (λ (n : ℕ). Each (IsPrintedIn (set cpus cpu c) entries) (get_or (set cpus cpu c) n no_cpu).checks) (sym same)
            (subst (λ (x : Cpu). Each (IsPrintedIn (set cpus cpu c) entries) x.checks) (sym (get_or-set_same cpus cpu c no_cpu there))
            (checks (printed_on cpus (set cpus cpu c) entries entries more (λ d q had. had) (get_or cpus cpu no_cpu).checks (h.printed cpu)))))
            (λ apart. subst (λ (x : Cpu). Each (IsPrintedIn (set cpus cpu c) entries) x.checks) (sym (get_or-set_other cpus cpu i c no_cpu apart))
            (printed_on cpus (set cpus cpu c) entries entries more (λ d q had. had) (get_or cpus i no_cpu).checks (h.printed i)));
        read = λ i. dite (ℕ_discrete i cpu)
            (λ same. subst (λ (n : ℕ). HasRead n (get_or (set cpus cpu c) n no_cpu) ds) (sym same)
            (subst (λ (x : Cpu). HasRead cpu x ds) (sym (get_or-set_same cpus cpu c no_cpu there)) (read_more cpu (get_or cpus cpu no_cpu) c ds e told reads (h.read cpu))))
            (λ apart. subst (λ (x : Cpu). HasRead i x ds) (sym (get_or-set_other cpus cpu i c no_cpu apart)) (h.read i));
      }

  -- one that is no check
  pub shared_other : (cpu : ℕ) (c : Cpu) (e : Told) → cpu < length cpus → told_of c ≡ told_of (get_or cpus cpu no_cpu) ++ e ∷ [] → IsInOrder c → is_check e ≡ false
      → c.checks ≡ (get_or cpus cpu no_cpu).checks → AreShared trace (set cpus cpu c) ds ks entries
  shared_other cpu c e there told order none same =
      shared_more cpu c e there told order (others_read_none cpu e (kept_of ds) none) (λ each. subst (λ (l : List CheckEntry). Each (IsPrintedIn (set cpus cpu c) entries) l) (sym same) each)

  -- ---- periods

  -- the timer tells limits
  pub shared_limits : (of now : ℕ) (limits : Limits) → AreShared trace cpus ds ks (entries ++ timer.Limits of now limits ∷ [])
  shared_limits of now limits = record {
    order = h.order;
    many = h.many;
    places = h.places;
    periods_are = λ d less. h.periods_are d less ∙ sym (last_limits d 0 entries of now limits);
    part = h.part;
    cgroup_part = h.cgroup_part;
    printed = λ i. printed_on cpus cpus entries (entries ++ timer.Limits of now limits ∷ []) (λ d k. omega arith) (λ d q had. had_more d 0 q entries (timer.Limits of now limits) had) (get_or cpus i no_cpu).checks (h.printed i);
    read = h.read;
  }

  -- it begins periods
  pub shared_periods : (of k : ℕ) (v : Domain) → of < domains trace → v.events.period ≡ (get_or ds of no_domain).events.period + k → AreShared trace cpus (set ds of v) ks (entries ++ timer.Period of k ∷ [])
  shared_periods of k v less period =
      let there : of < length ds = omega (arith, less, h.many) in
      let up : (d : ℕ) → (get_or ds d no_domain).events.period ≤ (get_or (set ds of v) d no_domain).events.period =
      λ d. dite (ℕ_discrete d of)
      (λ same.
      let now : (get_or (set ds of v) d no_domain).events.period ≡ v.events.period = ap (λ (n : ℕ). (get_or (set ds of v) n no_domain).events.period) same ∙ ap (λ (x : Domain). x.events.period) (get_or-set_same ds of v no_domain there) in
      let was : (get_or ds d no_domain).events.period ≡ (get_or ds of no_domain).events.period = ap (λ (n : ℕ). (get_or ds n no_domain).events.period) same in
      omega (arith, now, was, period))
      (λ apart. let now = ap (λ (x : Domain). x.events.period) (get_or-set_other ds of d v no_domain apart) in omega (arith, now)) in
      record {
        order = h.order;
        many = length-set ds of v ∙ h.many;
        places = h.places;
        periods_are = λ d low. dite (ℕ_discrete d of)
            (λ same.
            ap (λ (n : ℕ). (get_or (set ds of v) n no_domain).events.period) same ∙ ap (λ (x : Domain). x.events.period) (get_or-set_same ds of v no_domain there) ∙ period
            ∙ ap (λ (n : ℕ). n + k) (h.periods_are of less) ∙ ap (λ (n : ℕ). last_period n 0 entries + k) (sym same)
            ∙ sym (last_more d 0 entries of k ∙ cond-true (eqb of d) (last_period d 0 entries + k) (last_period d 0 entries) (eq-eqb of d (sym same))))
            (λ apart.
            ap (λ (x : Domain). x.events.period) (get_or-set_other ds of d v no_domain apart) ∙ h.periods_are d low
            ∙ sym (last_more d 0 entries of k ∙ cond-false (eqb of d) (last_period d 0 entries + k) (last_period d 0 entries) (ne_eqb of d (λ e. apart (sym e)))));
        part = h.part;
        cgroup_part = h.cgroup_part;
        printed = λ i. printed_on cpus cpus entries (entries ++ timer.Period of k ∷ []) (λ d q. omega arith) (λ d q had. had_more d 0 q entries (timer.Period of k) had) (get_or cpus i no_cpu).checks (h.printed i);
        read = λ i. read_on i (get_or cpus i no_cpu) ds (set ds of v) up (h.read i);
      }

  -- ---- the fraction of a part

  -- what a check prints of a domain, of a part that has no more than was counted in
  pub printed_line : (d k : ℕ) (part : Half) (line : DomainLine) (cpus2 : List Cpu) → d < domains trace → line.domain ≡ d → line.share ≡ fraction_of part (get_or ds d no_domain).events
      → part.events ≤ added_all d k cpus → added_all d k cpus ≤ added_all d k cpus2 → IsPrinted cpus2 entries k line
  printed_line d k part line cpus2 less named share few more =
      let whole : Half = (get_or ds d no_domain).events in
      let small : (aged part whole.period).events ≤ part.events = shr_le part.events _ in
      let period_is : line.share.period ≡ whole.period = ap (λ (f : Fraction). f.period) share in
      let num_is : line.share.num ≡ (aged part whole.period).events = ap (λ (f : Fraction). f.num) share in
      let den_is : line.share.den ≡ max 1 (max (aged part whole.period).events whole.events) = ap (λ (f : Fraction). f.den) share in
      record {
        some_whole = omega (arith, den_is);
        at_most_whole = omega (arith, den_is, num_is);
        of_period = subst (λ (n : ℕ). HadPeriod n entries line.share.period) (sym named) (subst (HadPeriod d entries) (sym (period_is ∙ h.periods_are d less)) (had_last d 0 entries));
        of_added = subst (λ (n : ℕ). line.share.num ≤ added_all n k cpus2) (sym named) (omega (arith, num_is, small, few, more));
      }
