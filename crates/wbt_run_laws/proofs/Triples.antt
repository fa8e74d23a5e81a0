-- The limits that checks read are the timer's.
use Rattle.std.proofs.Common.{◌≡◌, ◌≢◌, ℕ, zero, suc, ◌+◌, ◌<◌, ◌≤◌, true, ◌&&◌, eqb, ltb, Some, inl, inr, List, [], ◌∷◌, ◌++◌, flat_map, slice_get, sym, refl, ap, ◌∙◌, subst, arith, eq-eqb, ne_eqb}
use Rattle.std.proofs.lemmas.Bool.{cond-true, cond-false, ltb-true}
use Rattle.std.proofs.lemmas.List.Elements.{All-contains}
use mathlib.Core.Logic.{dite}
use native.Mathlib.Decide.{ℕ_discrete}
use Rattle.wbt_run_laws.proofs.Common.{one_if, Limits, DomainLimits, Trace, reads_of, Each, effect, tells, parts_of, domains, Told, after, CheckEntry, DomainLine, Journal, TimerEntry, first_lines, limits_in, IsOwn, IsOwnCheck, part_at, Run, Worked}
use Rattle.wbt_grant.specs.Rule.{WasPublished, as_first, by_timer}
use Rattle.wbt_grant.specs.State.{version_of}
use Rattle.wbt_grant.specs.declared.record.TimerRecord.{TimerRecord}
use Rattle.wbt_journal.specs.Reads.{reads_in, triple_in, triples_of, same_limits, are_limits, is_published, TriplesArePublished}
use Rattle.wbt_journal.specs.declared.timer.TimerEntry.TheVariants as timer
use Rattle.wbt_run_laws.specs.Closed.{opening_lines}
use Rattle.wbt_run_laws.specs.Held.{limits_of, IsLoaded}
use Rattle.wbt_run_laws.specs.Laws.{WorkedTriplesAreOfTimer}
use Rattle.wbt_run_laws.specs.Ticks.{published_after}
use Rattle.wbt_run_laws.proofs.Counting.{in_parts, record_held, own_part}
use Rattle.wbt_run_laws.proofs.Effects.{each_told, if_weaker}
use Rattle.wbt_run_laws.proofs.Holding.{held_loaded}
use Rattle.wbt_run_laws.proofs.Lists.{each_weaker, each_both, each_unmap, each_flat, all_of_each, flat_append, and_both}
use Rattle.wbt_run_laws.proofs.Parts.{each_cpu, each_item}

-- ---- tests

same_itself : (limits : Limits) → same_limits limits limits ≡ true
same_itself limits = and_both (eqb limits.thresh limits.thresh) (eqb limits.bg limits.bg && eqb limits.hard limits.hard) (eq-eqb limits.thresh limits.thresh refl)
    (and_both (eqb limits.bg limits.bg) (eqb limits.hard limits.hard) (eq-eqb limits.bg limits.bg refl) (eq-eqb limits.hard limits.hard refl))

-- ---- lines

-- the timer's entry of this version has these limits for their domain
abbrev pub IsLine : (entries : List TimerEntry) (t : DomainLimits) → Type 0
IsLine entries t = slice_get (triples_of t.domain entries) t.version ≡ Some t.limits

-- these limits stand in the k-th line of their domain, and have the version after k more
abbrev pub IsLater : (published : List DomainLimits) (entries : List TimerEntry) (t : DomainLimits) → Type 0
IsLater published entries t = (k : ℕ) × (t.version ≡ suc (version_of t.domain published + k)) × (slice_get (triples_of t.domain entries) k ≡ Some t.limits)

-- the triples of a domain, by whether a line is its own
own_line : (d of now : ℕ) (limits : Limits) (entries : List TimerEntry) → of ≡ d → triples_of d (timer.Limits of now limits ∷ entries) ≡ limits ∷ triples_of d entries
own_line d of now limits entries is = ap (λ (l : List Limits). l ++ triples_of d entries) (cond-true (eqb of d) (limits ∷ []) [] (eq-eqb of d is))

other_line : (d of now : ℕ) (limits : Limits) (entries : List TimerEntry) → of ≢ d → triples_of d (timer.Limits of now limits ∷ entries) ≡ triples_of d entries
other_line d of now limits entries other = ap (λ (l : List Limits). l ++ triples_of d entries) (cond-false (eqb of d) (limits ∷ []) [] (ne_eqb of d other))

-- a line's limits have the next version
newest_later : (published : List DomainLimits) (d now : ℕ) (limits : Limits) (entries : List TimerEntry)
    → IsLater published (timer.Limits d now limits ∷ entries) (record { domain = d; version = suc (version_of d published); limits = limits })
newest_later published d now limits entries =
    (0, omega arith, ap (λ (l : List Limits). slice_get l 0) (own_line d d now limits entries refl))

-- what is later behind a line is later
later_by : (published : List DomainLimits) (d now : ℕ) (limits : Limits) (entries : List TimerEntry) (t : DomainLimits)
    → IsLater (published_after published (timer.Limits d now limits)) entries t → IsLater published (timer.Limits d now limits ∷ entries) t
later_by published d now limits entries t is = dite (ℕ_discrete d t.domain)
    (λ own.
    let one : one_if (eqb t.domain d) ≡ 1 = cond-true (eqb t.domain d) 1 0 (eq-eqb t.domain d (sym own)) in
    let version = is.1 in
    (suc is.0, omega arith, ap (λ (l : List Limits). slice_get l (suc is.0)) (own_line t.domain d now limits entries own) ∙ is.2))
    (λ not.
    let other : d ≢ t.domain = not in
    let none : one_if (eqb t.domain d) ≡ 0 = cond-false (eqb t.domain d) 1 0 (ne_eqb t.domain d (λ e. other (sym e))) in
    let version = is.1 in
    (is.0, omega arith, ap (λ (l : List Limits). slice_get l is.0) (other_line t.domain d now limits entries other) ∙ is.2))

-- what holds of what was published and of what lines publish holds of all that is published behind them
pub published_all : (P : DomainLimits → Type 0) (published : List DomainLimits) (entries : List TimerEntry) → Each P published
    → ((t : DomainLimits) → IsLater published entries t → P t) → Each P (after published_after published entries)
published_all P published [] each later = each
published_all P published (timer.Limits d now limits ∷ entries) each later =
    published_all P (published_after published (timer.Limits d now limits)) entries
    (later (record { domain = d; version = suc (version_of d published); limits = limits }) (newest_later published d now limits entries), each)
    (λ t is. later t (later_by published d now limits entries t is))
published_all P published (timer.Period d k ∷ entries) each later = published_all P published entries each later

-- ---- the opening

none_first : (firsts : ℕ → Limits) (opened d from n : ℕ) → d < from → triples_of d (first_lines firsts opened from n) ≡ []
none_first firsts opened d from zero low = refl
none_first firsts opened d from (suc n) low =
    let other : from ≢ d = λ e. (let same = e in omega arith) in
    other_line d from opened (firsts from) (first_lines firsts opened (suc from) n) other ∙ none_first firsts opened d (suc from) n (omega arith)

one_first : (firsts : ℕ → Limits) (opened d from n : ℕ) → from ≤ d → d < from + n → triples_of d (first_lines firsts opened from n) ≡ firsts d ∷ []
one_first firsts opened d from zero low high = absurd (omega arith)
one_first firsts opened d from (suc n) low high = dite (ℕ_discrete from d)
    (λ is. own_line d from opened (firsts from) (first_lines firsts opened (suc from) n) is
    ∙ ap (λ (l : List Limits). firsts from ∷ l) (none_first firsts opened d (suc from) n (let same = is in omega arith))
    ∙ ap (λ (k : ℕ). firsts k ∷ []) is)
    (λ not. let other : from ≢ d = not in
    other_line d from opened (firsts from) (first_lines firsts opened (suc from) n) other ∙ one_first firsts opened d (suc from) n (omega arith) (omega arith))

-- ---- of a run

module _ (trace : Trace) (j : Journal) (r : Run) (w : Worked trace j r) where
  -- the first triple of a domain, and then those of the timer's lines
  all_triples : (d : ℕ) → d < domains trace → triples_of d j.timer ≡ r.set.firsts d ∷ triples_of d r.ticked
  all_triples d low =
      ap (triples_of d) w.timer_is ∙ flat_append (triple_in d) (opening_lines trace r.opened r.set.firsts) r.ticked
      ∙ ap (λ (l : List Limits). l ++ triples_of d r.ticked) (one_first r.set.firsts r.opened d 0 (domains trace) (omega arith) (omega arith))

  pub first_is : (d : ℕ) → d < domains trace → IsLine j.timer (record { domain = d; version = 0; limits = r.set.firsts d })
  first_is d low = ap (λ (l : List Limits). slice_get l 0) (all_triples d low)

  -- what the timer published is what its lines after the opening tell
  published_is : r.closed.timer.published ≡ after published_after [] r.ticked
  published_is = ap (λ (q : TimerRecord). q.published) w.closed.timer_is ∙ w.timer_since.published ∙ ap (λ (l : List DomainLimits). after published_after l r.ticked) w.timer_opens.published

  later_is : (t : DomainLimits) → IsLater [] r.ticked t → t.domain < domains trace → IsLine j.timer t
  later_is t is low =
      ap (λ (l : List Limits). slice_get l t.version) (all_triples t.domain low)
      ∙ ap (slice_get (r.set.firsts t.domain ∷ triples_of t.domain r.ticked)) (let version = is.1 in let same : t.version ≡ suc is.0 = omega arith in same)
      ∙ is.2

  pub published_are : Each (λ (t : DomainLimits). t.domain < domains trace → IsLine j.timer t) r.closed.timer.published
  published_are = subst (λ (l : List DomainLimits). Each (λ (t : DomainLimits). t.domain < domains trace → IsLine j.timer t) l) (sym published_is)
      (published_all (λ (t : DomainLimits). t.domain < domains trace → IsLine j.timer t) [] r.ticked tt later_is)

  line_of : (t : DomainLimits) → WasPublished r.set r.closed.timer.published t.domain t.version t.limits → t.domain < domains trace → IsLine j.timer t
  line_of t (as_first none first) low =
      ap (slice_get (triples_of t.domain j.timer)) none ∙ first_is t.domain low ∙ ap Some (sym first)
  line_of t (by_timer has) low =
      All-contains (λ (u : DomainLimits). u.domain < domains trace → IsLine j.timer u) r.closed.timer.published t
      (all_of_each (λ (u : DomainLimits). u.domain < domains trace → IsLine j.timer u) r.closed.timer.published published_are) has low

  loaded_line : (c : ℕ) (t : DomainLimits) → IsLoaded r.set.firsts (r.closed.cpu c).triples t → t.domain < domains trace → IsLine j.timer t
  loaded_line c t (inl first) low = subst (IsLine j.timer) (sym first) (first_is t.domain low)
  loaded_line c t (inr has) low = line_of t (All-contains (λ (u : DomainLimits). WasPublished r.set r.closed.timer.published u.domain u.version u.limits) (r.closed.cpu c).triples t
      (w.closed.holds.records_tell.were_published c) has) low

-- of a check's reads
module _ (trace : Trace) (entries : List TimerEntry) (P : DomainLimits → Type 0) (is_one : (t : DomainLimits) → P t → t.domain < domains trace → IsLine entries t) where
  published_by : (read : DomainLine) → P (limits_of read) → read.domain < domains trace → is_published entries read ≡ true
  published_by read p low = ap (are_limits read.limits) (is_one (limits_of read) p low) ∙ same_itself read.limits

  as_published : (c : ℕ) (e : Told) → Each P (limits_in e) × IsOwn trace c e → TriplesArePublished entries (tells c e)
  as_published c e both =
      let there_is = λ (read : DomainLine). ltb read.domain (domains trace) ≡ true in
      let named = each_told there_is reads_of (effect e).check
      (if_weaker (IsOwnCheck trace c) (λ (check : CheckEntry). Each there_is (reads_of check)) (λ check is. is.each_domain) (effect e).check both.1.check) in
      each_weaker (λ (read : DomainLine). P (limits_of read) × there_is read) (λ (read : DomainLine). is_published entries read ≡ true)
      (λ read is. published_by read is.0 (ltb-true read.domain (domains trace) is.1)) (reads_in e)
      (each_both (λ (read : DomainLine). P (limits_of read)) there_is (reads_in e) (each_unmap P limits_of (reads_in e) both.0) named)

pub triples_of_timer : WorkedTriplesAreOfTimer
triples_of_timer trace j r w =
    let parts : List (List Told) = parts_of j in
    each_item (TriplesArePublished j.timer) (λ c. tt) 0 parts
    (each_cpu (λ c part. Each (λ (e : Told). TriplesArePublished j.timer (tells c e)) part) parts (λ c less.
    let low = in_parts trace j r w c less in
    let was = IsLoaded r.set.firsts (r.closed.cpu c).triples in
    let read = held_loaded r.set.firsts (flat_map limits_in (part_at j c)) [] (r.closed.cpu c).triples (record_held trace j r w c low) in
    each_weaker (λ (e : Told). Each was (limits_in e) × IsOwn trace c e) (λ (e : Told). TriplesArePublished j.timer (tells c e))
    (as_published trace j.timer was (loaded_line trace j r w c) c) (part_at j c)
    (each_both (λ (e : Told). Each was (limits_in e)) (IsOwn trace c) (part_at j c) (each_flat was limits_in (part_at j c) read) (own_part trace j r w c low))))
