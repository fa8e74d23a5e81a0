-- The limits that a check prints are those that the timer has printed for the domain with that version, and no version goes back.
use Rattle.std.proofs.Common.{◌≡◌, ◌≢◌, ℕ, zero, suc, ◌+◌, ◌<◌, ◌≤◌, inl, inr, true, ◌&&◌, eqb, List, [], ◌∷◌, ◌++◌, length, map, flat_map, get_or, Option, Some, None, refl, sym, ◌∙◌, ap, subst, arith, append_assoc, eq-eqb, ne_eqb, length-append}
use Rattle.std.specs.List.{slice_get}
use Rattle.std.proofs.lemmas.Bool.{cond-true, cond-false, ltb-true}
use Rattle.std.proofs.lemmas.List.Elements.{All-contains}
use mathlib.Core.Logic.{dite}
use native.Mathlib.Decide.{ℕ_discrete}
use Rattle.wbt_replay_order.proofs.Common.{Limits, Trace, IsSetting, DomainLimits, Load, reads_of, read_loads, loads_of, Each, effect, tells, OfPart, EachPart, domains, Told, told, told_entry, one_checked, one_estimated, InOrder, CheckEntry, DomainLine, Entry, EstEntry, TimerEntry, parts_back, limits_of, WereHeld, and_both, flat_append, each_weaker, each_both, each_cpu, each_item, State, no_cpu, cpu_of, Cpu, AreDecided, triples_told, IsFollowed, setting_of, first_limits, first_entries, opening_moment, most_moves, state_at, part_of, last_state, journal_of, Facts, Sound}
use Rattle.wbt_grant.specs.Rule.{WasPublished, as_first, by_timer}
use Rattle.wbt_grant.specs.State as throttle
use Rattle.wbt_journal.specs.Lawful.{TriplesAreOfTimer, TriplesStayNew}
use Rattle.wbt_journal.specs.Reads.{triple_in, triples_of, same_limits, are_limits, is_published, TriplesArePublished, TriplesGoOn, triples_after}
use Rattle.wbt_journal.specs.declared.entry.Entry.TheVariants as entry
use Rattle.wbt_journal.specs.declared.timer.TimerEntry.TheVariants as timer
use Rattle.wbt_run_laws.specs.Held.{limits_in, IsLoaded}
use Rattle.wbt_run_laws.proofs.Effects.{each_told}
use Rattle.wbt_run_laws.proofs.Holding.{held_loaded, held_new}
use Rattle.wbt_run_laws.proofs.Lists.{all_of_each, each_unmap, each_flat}
use Rattle.wbt_run_laws.proofs.Triples.{IsLine, IsLater, published_all}
use Rattle.wbt_replay_points.proofs.Claims.Counted.{state_of, rule_at}
use Rattle.wbt_replay_points.proofs.Claims.Fresh.{may_decide}
use Rattle.wbt_replay_points.proofs.Claims.Named.{AllNamed, named_at}
use Rattle.wbt_replay_points.proofs.Claims.Sums as sums
use Rattle.wbt_replay_points.proofs.Claims.Sums.{IsNamed, named_from, part_at}
use Rattle.wbt_replay_points.proofs.Lawful.Told.{OfCheck, told_checks}

-- ---- lines of the timer

same_itself : (limits : Limits) → same_limits limits limits ≡ true
same_itself limits = and_both (eqb limits.thresh limits.thresh) (eqb limits.bg limits.bg && eqb limits.hard limits.hard) (eq-eqb limits.thresh limits.thresh refl)
    (and_both (eqb limits.bg limits.bg) (eqb limits.hard limits.hard) (eq-eqb limits.bg limits.bg refl) (eq-eqb limits.hard limits.hard refl))

-- those of the opening have the first limits of each domain, once
pub first_later : (trace : Trace) (d n : ℕ) → n ≤ d → triples_of d (first_entries trace n) ≡ []
first_later trace d zero low = refl
first_later trace d (suc n) low =
    let other : n ≢ d = λ (e : n ≡ d). omega (arith, low, e) in
    flat_append (triple_in d) (first_entries trace n) (timer.Limits n opening_moment (first_limits trace n) ∷ [])
    ∙ (ap (λ (l : List Limits). l ++ triples_of d (timer.Limits n opening_moment (first_limits trace n) ∷ [])) (first_later trace d n (omega (arith, low)))
    ∙ ap (λ (l : List Limits). l ++ []) (cond-false (eqb n d) (first_limits trace n ∷ []) [] (ne_eqb n d other)))

pub first_one : (trace : Trace) (d n : ℕ) → d < n → triples_of d (first_entries trace n) ≡ first_limits trace d ∷ []
first_one trace d zero less = absurd (omega (arith, less))
first_one trace d (suc n) less =
    let last : TimerEntry = timer.Limits n opening_moment (first_limits trace n) in
    flat_append (triple_in d) (first_entries trace n) (last ∷ [])
    ∙ dite (ℕ_discrete n d)
    (λ is. ap (λ (l : List Limits). l ++ triples_of d (last ∷ [])) (first_later trace d n (omega (arith, is)))
    ∙ (ap (λ (l : List Limits). l ++ []) (cond-true (eqb n d) (first_limits trace n ∷ []) [] (eq-eqb n d is)) ∙ ap (λ (k : ℕ). first_limits trace k ∷ []) is))
    (λ not.
    let other : n ≢ d = not in
    ap (λ (l : List Limits). l ++ triples_of d (last ∷ [])) (first_one trace d n (omega (arith, less, other)))
    ∙ ap (λ (l : List Limits). first_limits trace d ∷ l ++ []) (cond-false (eqb n d) (first_limits trace n ∷ []) [] (ne_eqb n d other)))

-- ---- what a part tells of limits

-- no more checks are named than there are
named_few : (n m check est : ℕ) (entries : List Entry) → InOrder n m check est entries → check ≤ n
named_few n m check est [] h = omega (arith, h.0)
named_few n m check est (entry.Check place ∷ more) h = (let rest = named_few n m (check + 1) est more h.1 in omega (arith, rest))
named_few n m check est (entry.Est place ∷ more) h = named_few n m check (est + 1) more h.1
named_few n m check est (other ∷ more) h = named_few n m check est more h

slice_here : (front rest : List CheckEntry) (c : CheckEntry) → slice_get (front ++ c ∷ rest) (length front) ≡ Some c
slice_here [] rest c = refl
slice_here (x ∷ front) rest c = slice_here front rest c

-- estimates tell nothing of limits
est_limits : (which : Option EstEntry) (more : List Told) → flat_map limits_in (one_estimated which ++ more) ≡ flat_map limits_in more
est_limits None more = refl
est_limits (Some est) more = refl

-- from a place on the entries tell the limits of the checks from it on
part_limits : (checks : List CheckEntry) (ests : List EstEntry) (front rest : List CheckEntry) → checks ≡ front ++ rest → (est : ℕ) (entries : List Entry)
    → InOrder (length checks) (length ests) (length front) est entries → flat_map limits_in (flat_map (told_entry checks ests) entries) ≡ triples_told rest
part_limits checks ests front [] is est [] h = refl
part_limits checks ests front (c ∷ rest) is est [] h = absurd (omega (arith, h.0, ap (λ (l : List CheckEntry). length l) is, length-append front (c ∷ rest)))
part_limits checks ests front [] is est (entry.Check place ∷ more) h =
    absurd (let few = named_few (length checks) (length ests) (length front + 1) est more h.1 in omega (arith, few, ap (λ (l : List CheckEntry). length l) is, length-append front []))
part_limits checks ests front (c ∷ rest) is est (entry.Check place ∷ more) h =
    let behind : List Told = flat_map (told_entry checks ests) more in
    let here : slice_get checks place ≡ Some c = ap (slice_get checks) h.0 ∙ (ap (λ (l : List CheckEntry). slice_get l (length front)) is ∙ slice_here front rest c) in
    let longer : length (front ++ c ∷ []) ≡ length front + 1 = length-append front (c ∷ []) in
    ap (λ (w : Option CheckEntry). flat_map limits_in (one_checked w ++ behind)) here
    ∙ ap (λ (l : List DomainLimits). map limits_of (reads_of c) ++ l)
    (part_limits checks ests (front ++ c ∷ []) rest (is ∙ sym (append_assoc front (c ∷ []) rest)) est more
    (subst (λ (n : ℕ). InOrder (length checks) (length ests) n est more) (sym longer) h.1))
part_limits checks ests front rest is est (entry.Est place ∷ more) h =
    est_limits (slice_get ests place) (flat_map (told_entry checks ests) more) ∙ part_limits checks ests front rest is (est + 1) more h.1
part_limits checks ests front rest is est (entry.Folded fold ∷ more) h = part_limits checks ests front rest is est more h
part_limits checks ests front rest is est (entry.Write task page fresh ∷ more) h = part_limits checks ests front rest is est more h
part_limits checks ests front rest is est (entry.Claimed flusher page ∷ more) h = part_limits checks ests front rest is est more h
part_limits checks ests front rest is est (entry.Batch flusher pages now until ∷ more) h = part_limits checks ests front rest is est more h
part_limits checks ests front rest is est (entry.Done flusher page ∷ more) h = part_limits checks ests front rest is est more h
part_limits checks ests front rest is est (entry.Share domain context n ∷ more) h = part_limits checks ests front rest is est more h
part_limits checks ests front rest is est (entry.Fault flusher pages ∷ more) h = part_limits checks ests front rest is est more h
part_limits checks ests front rest is est (entry.Back flusher page absorbed ∷ more) h = part_limits checks ests front rest is est more h
part_limits checks ests front rest is est (entry.Noticed flusher inode since ∷ more) h = part_limits checks ests front rest is est more h
part_limits checks ests front rest is est (entry.Aged flusher inode due now ∷ more) h = part_limits checks ests front rest is est more h
part_limits checks ests front rest is est (entry.Taken flusher inode ∷ more) h = part_limits checks ests front rest is est more h

-- the domains that a check reads are there
reads_named : (trace : Trace) (reads : List DomainLine) (own : Load) → Each (IsNamed trace) (read_loads reads ++ own ∷ []) → Each (λ (read : DomainLine). read.domain < domains trace) reads
reads_named trace [] own named = tt
reads_named trace (read ∷ reads) own named = (ltb-true read.domain (domains trace) named.0, reads_named trace reads own named.1)

each_part : (cpus : List Cpu) (cpu : ℕ) → ((i : ℕ) → i < length cpus → OfPart TriplesGoOn triples_after [] (cpu + i) (told (part_of (get_or cpus i no_cpu))))
    → EachPart (OfPart TriplesGoOn triples_after []) cpu (map told (map part_of cpus))
each_part [] cpu each = tt
each_part (c ∷ cpus) cpu each = (
  subst (λ (n : ℕ). OfPart TriplesGoOn triples_after [] n (told (part_of c))) (let same : cpu + 0 ≡ cpu = omega arith in same) (each 0 (omega arith)),
  each_part cpus (cpu + 1) (λ i less.
      subst (λ (n : ℕ). OfPart TriplesGoOn triples_after [] n (told (part_of (get_or cpus i no_cpu)))) (let same : cpu + suc i ≡ cpu + 1 + i = omega arith in same)
      (each (suc i) (omega (arith, less)))),
)

module _ (trace : Trace) (facts : Facts trace) (ok : IsSetting (setting_of trace)) (followed : IsFollowed trace) (decided : AreDecided trace)
    (seats : length (last_state trace).cpus ≡ trace.cpus) where
  abbrev s : State
  s = last_state trace

  abbrev t : throttle.State
  t = state_of trace followed most_moves

  abbrev entries : List TimerEntry
  entries = s.timer.entries

  abbrev later : List TimerEntry
  later = (followed.made most_moves).1.shows.lines.later

  abbrev parts : List (List Told)
  parts = sums.parts trace facts ok followed decided seats

  firsts_are : (d : ℕ) → (setting_of trace).firsts d ≡ first_limits trace d
  unfolding setting_of
  firsts_are d = refl

  -- ---- the lines that the timer has printed

  all_triples : (d : ℕ) → d < domains trace → triples_of d entries ≡ first_limits trace d ∷ triples_of d later
  all_triples d low =
      ap (triples_of d) (followed.made most_moves).1.shows.lines.entries_are ∙ (flat_append (triple_in d) (first_entries trace (domains trace)) later
      ∙ ap (λ (l : List Limits). l ++ triples_of d later) (first_one trace d (domains trace) low))

  first_is : (x : DomainLimits) → x.version ≡ 0 → x.limits ≡ (setting_of trace).firsts x.domain → x.domain < domains trace → IsLine entries x
  first_is x none first low =
      ap (λ (l : List Limits). slice_get l x.version) (all_triples x.domain low)
      ∙ (ap (slice_get (first_limits trace x.domain ∷ triples_of x.domain later)) none ∙ ap (λ (l : Limits). Some l) (sym (first ∙ firsts_are x.domain)))

  later_is : (x : DomainLimits) → IsLater [] later x → x.domain < domains trace → IsLine entries x
  later_is x is low =
      ap (λ (l : List Limits). slice_get l x.version) (all_triples x.domain low)
      ∙ (ap (slice_get (first_limits trace x.domain ∷ triples_of x.domain later)) (let version = is.1 in let same : x.version ≡ suc is.0 = omega (arith, version) in same) ∙ is.2)

  published_are : Each (λ (x : DomainLimits). x.domain < domains trace → IsLine entries x) t.timer.published
  published_are = subst (λ (l : List DomainLimits). Each (λ (x : DomainLimits). x.domain < domains trace → IsLine entries x) l) (sym (followed.made most_moves).1.shows.lines.published_are)
      (published_all (λ (x : DomainLimits). x.domain < domains trace → IsLine entries x) [] later tt later_is)

  line_of : (x : DomainLimits) → WasPublished (setting_of trace) t.timer.published x.domain x.version x.limits → x.domain < domains trace → IsLine entries x
  line_of x (as_first none first) low = first_is x none first low
  line_of x (by_timer has) low =
      All-contains (λ (u : DomainLimits). u.domain < domains trace → IsLine entries u) t.timer.published x
      (all_of_each (λ (u : DomainLimits). u.domain < domains trace → IsLine entries u) t.timer.published published_are) has low

  -- limits that a CPU has held
  loaded_line : (c : ℕ) (x : DomainLimits) → IsLoaded (setting_of trace).firsts (t.cpu c).triples x → x.domain < domains trace → IsLine entries x
  loaded_line c x (inl first) low = subst (IsLine entries) (sym first) (first_is (record { domain = x.domain; version = 0; limits = (setting_of trace).firsts x.domain }) refl refl low)
  loaded_line c x (inr has) low = line_of x (All-contains (λ (u : DomainLimits). WasPublished (setting_of trace) t.timer.published u.domain u.version u.limits) (t.cpu c).triples x
      ((rule_at trace ok followed most_moves).limits.were_published c) has) low

  -- ---- the triples of checks

  abbrev published : (read : DomainLine) → Type 0
  published read = is_published entries read ≡ true

  was_held : (c : ℕ) → c < trace.cpus → WereHeld (setting_of trace).firsts (triples_told (cpu_of c s).checks) [] (t.cpu c).triples
  was_held c less = ((followed.made most_moves).1.shows.triples c less).told

  checks_read : (c : ℕ) → c < trace.cpus → Each (λ (check : CheckEntry). Each published (reads_of check)) (cpu_of c s).checks
  checks_read c less =
      let checks : List CheckEntry = (cpu_of c s).checks in
      let was : DomainLimits → Type 0 = IsLoaded (setting_of trace).firsts (t.cpu c).triples in
      let each = each_flat was (λ (check : CheckEntry). map limits_of (reads_of check)) checks (held_loaded (setting_of trace).firsts (triples_told checks) [] (t.cpu c).triples (was_held c less)) in
      let named = named_from trace facts s c 0 checks (decided c less) in
      each_weaker (λ (check : CheckEntry). Each was (map limits_of (reads_of check)) × Each (IsNamed trace) (loads_of check)) (λ (check : CheckEntry). Each published (reads_of check))
      (λ check both.
      each_weaker (λ (read : DomainLine). was (limits_of read) × (read.domain < domains trace)) published
      (λ read is. ap (are_limits read.limits) (loaded_line c (limits_of read) is.0 is.1) ∙ same_itself read.limits) (reads_of check)
      (each_both (λ (read : DomainLine). was (limits_of read)) (λ (read : DomainLine). read.domain < domains trace) (reads_of check)
      (each_unmap was limits_of (reads_of check) both.0) (reads_named trace (reads_of check) _ both.1)))
      checks (each_both (λ (check : CheckEntry). Each was (map limits_of (reads_of check))) (λ (check : CheckEntry). Each (IsNamed trace) (loads_of check)) checks each named)

  pub triples_of_timer : TriplesAreOfTimer (journal_of trace)
  unfolding journal_of
  triples_of_timer =
      each_item (TriplesArePublished entries) (λ c. tt) 0 parts
      (each_cpu (λ c part. Each (λ (e : Told). TriplesArePublished entries (tells c e)) part) parts (λ c less.
      let low : c < trace.cpus = sums.inside trace facts ok followed decided seats c (subst (λ (n : ℕ). c < n) (sums.many trace facts ok followed decided seats) less) in
      let cpu : Cpu = cpu_of c s in
      subst (λ (part : List Told). Each (λ (e : Told). TriplesArePublished entries (tells c e)) part) (sym (part_at s.cpus c (omega (arith, low, seats))))
      (each_weaker (OfCheck (λ (check : CheckEntry). Each published (reads_of check))) (λ (e : Told). TriplesArePublished entries (tells c e))
      (λ e is. each_told published reads_of (effect e).check is) (told (part_of cpu))
      (told_checks (λ (check : CheckEntry). Each published (reads_of check)) cpu.checks cpu.estimates cpu.entries (checks_read c low)))))

  -- ---- their versions

  module _ (named : AllNamed s.cpus) where
    pub triples_stay : TriplesStayNew (journal_of trace)
    unfolding journal_of
    triples_stay =
        parts_back TriplesGoOn triples_after [] (λ seen cpu. refl) (λ seen cpu. tt) [] 0 (map told (map part_of s.cpus))
        (each_part s.cpus 0 (λ i less.
        let cpu : Cpu = get_or s.cpus i no_cpu in
        let low : i < trace.cpus = omega (arith, less, seats) in
        held_new (setting_of trace).firsts (told (part_of cpu)) (t.cpu i).triples ((rule_at trace ok followed most_moves).sequences.never_back i)
        (subst (λ (l : List DomainLimits). WereHeld (setting_of trace).firsts l [] (t.cpu i).triples)
        (sym (part_limits cpu.checks cpu.estimates [] cpu.checks refl 0 cpu.entries (named i).0)) (was_held i low)) (0 + i)))

pub triples_stay_new : (trace : Trace) (facts : Facts trace) (ok : IsSetting (setting_of trace)) (followed : IsFollowed trace) (decided : AreDecided trace)
    (seats : length (last_state trace).cpus ≡ trace.cpus) → ((moves : ℕ) → Sound trace (state_at trace moves)) → TriplesStayNew (journal_of trace)
triples_stay_new trace facts ok followed decided seats sound =
    triples_stay trace facts ok followed decided seats (named_at trace (may_decide trace ok followed sound) most_moves)
