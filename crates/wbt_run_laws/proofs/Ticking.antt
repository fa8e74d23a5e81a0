-- Turns of the timer, one after another.
use Rattle.std.proofs.Common.{◌≡◌, ℕ, ◌+◌, ◌*◌, ◌<◌, ◌≤◌, List, [], ◌∷◌, ◌++◌, ◌⊎◌, ◌==◌, Bool, true, false, flat_map, inl, inr, sym, refl, ⊎_elim, ap, ◌∙◌, arith}
use Rattle.std.proofs.lemmas.Bool.{cases_eq, ne_eqb}
use Rattle.wbt_run_laws.proofs.Common.{one_if, DomainLimits, Each, TimerGoesOn, lines_after, after, TimerEntry, onto, period_line}
use Rattle.wbt_num.specs.declared.limits.TheConstants.{LAST_SEQUENCE}
use Rattle.wbt_grant.specs.State.{version_of}
use Rattle.wbt_grant.specs.declared.record.Raised.{Raised}
use Rattle.wbt_journal.specs.declared.timer.TimerEntry.TheVariants as timer
use Rattle.wbt_run_laws.specs.Ticks.{published_after, peak_for, Fate, has_line, gate_stopped, last_version, Peak, HasItsCause, IsLastBy, one_stop, raised_by, stops_in, told_by, told_so, times_raised, FewPeaksHaveNoLine, PeaksAreTold, TimerSinceNow, TimerSinceMore}
use Rattle.wbt_run_laws.proofs.Lists.{each_append, each_weaker, flat_append, onto_append}
use Rattle.wbt_run_laws.proofs.Walking.{after_append, walked_none, walked_more}

-- no version of what is published falls
version_rises : (d : ℕ) (published : List DomainLimits) (entries : List TimerEntry) → version_of d published ≤ version_of d (after published_after published entries)
version_rises d published [] = omega arith
version_rises d published (timer.Limits of now limits ∷ entries) =
    let rest = version_rises d (published_after published (timer.Limits of now limits)) entries in omega arith
version_rises d published (timer.Period of k ∷ entries) = version_rises d published entries

-- ---- peaks

pub stops_append : (a b : List Peak) → stops_in (a ++ b) ≡ stops_in a + stops_in b
stops_append [] b = omega arith
stops_append (peak ∷ a) b = let rest = stops_append a b in omega (arith, rest)

-- a cause stays one where no version of what is published falls
cause_stays : (fate : Fate) (domain : ℕ) (published published' : List DomainLimits) → version_of domain published ≤ version_of domain published' → IsLastBy fate domain published
    → IsLastBy fate domain published'
cause_stays has_line domain published published' up by = tt
cause_stays gate_stopped domain published published' up by = tt
cause_stays last_version domain published published' up by = omega (arith, up, by)

pub causes_stay : (published published' : List DomainLimits) (peaks : List Peak) → ((domain : ℕ) → version_of domain published ≤ version_of domain published')
    → Each (HasItsCause published) peaks → Each (HasItsCause published') peaks
causes_stay published published' peaks up each =
    each_weaker (HasItsCause published) (HasItsCause published') (λ peak. cause_stays peak.fate peak.raised.domain published published' (up peak.raised.domain)) peaks each

-- a peak without a stop, of a domain that has no last version, has its line
told_if : (fate : Fate) (raised : Raised) (published : List DomainLimits) → one_stop fate ≡ 0 → 2 * version_of raised.domain published < LAST_SEQUENCE
    → IsLastBy fate raised.domain published → raised ∷ [] ≡ told_so fate raised
told_if has_line raised published none low by = refl
told_if gate_stopped raised published none low by = absurd (omega (arith, none))
told_if last_version raised published none low by = absurd (omega (arith, low, by))

-- so peaks put onto a list are those that have a line
told_onto : (peaks : List Peak) (published : List DomainLimits) (older : List Raised) → stops_in peaks ≡ 0 → ((domain : ℕ) → 2 * version_of domain published < LAST_SEQUENCE)
    → Each (HasItsCause published) peaks → onto raised_by peaks older ≡ onto told_by peaks older
told_onto [] published older none low each = refl
told_onto (peak ∷ peaks) published older none low each =
    ap (λ (l : List Raised). onto raised_by peaks (l ++ older)) (told_if peak.fate peak.raised published (omega (arith, none)) (low peak.raised.domain) each.0)
    ∙ told_onto peaks published (told_by peak ++ older) (omega (arith, none)) low each.1

-- what is put onto a list depends only on what is told, where each tells one at most
abbrev put_each : (told older : List Raised) → List Raised
put_each [] older = older
put_each (x ∷ told) older = put_each told (x ∷ older)

module _ {E : Type 0} (tells : E → List Raised) (one : (e : E) → (tells e ≡ []) ⊎ ((x : Raised) × (tells e ≡ x ∷ []))) where
  onto_told : (entries : List E) (older : List Raised) → onto tells entries older ≡ put_each (flat_map tells entries) older
  onto_told [] older = refl
  onto_told (e ∷ entries) older = ⊎_elim
      (λ none. ap (λ (l : List Raised). onto tells entries (l ++ older)) none ∙ onto_told entries older ∙ ap (λ (l : List Raised). put_each (l ++ flat_map tells entries) older) (sym none))
      (λ some. ap (λ (l : List Raised). onto tells entries (l ++ older)) some.1 ∙ onto_told entries (some.0 ∷ older) ∙ ap (λ (l : List Raised). put_each (l ++ flat_map tells entries) older) (sym some.1))
      (one e)

pub ticked_now : TimerSinceNow
ticked_now trace opened ticked = record {
  published = refl;
  peaks = [];
  raised = refl;
  told_are = refl;
  stops_are = refl;
  causes = tt;
  follow = walked_none (TimerGoesOn trace opened) lines_after ticked.lines;
  begun_are = λ domain. refl;
  in_order = λ domain is. is;
  adds_none = λ domain context. refl;
}

pub ticked_more : TimerSinceMore
ticked_more trace opened m n a b old mid new p q = record {
  published = q.published ∙ ap (λ (l : List DomainLimits). after published_after l b) p.published ∙ sym (after_append published_after old.held.published a b);
  peaks = p.peaks ++ q.peaks;
  raised = q.raised ∙ ap (onto raised_by q.peaks) p.raised ∙ sym (onto_append raised_by p.peaks q.peaks old.held.raised);
  told_are = flat_append told_by p.peaks q.peaks ∙ ap (λ (l : List Raised). l ++ flat_map told_by q.peaks) p.told_are
      ∙ ap (λ (l : List Raised). flat_map peak_for a ++ l) q.told_are ∙ sym (flat_append peak_for a b);
  stops_are = let both = stops_append p.peaks q.peaks in omega (arith, both, p.stops_are, q.stops_are);
  causes = each_append (HasItsCause new.held.published) p.peaks q.peaks
      (causes_stay mid.held.published new.held.published p.peaks
      (λ domain. let up = version_rises domain mid.held.published b in let same = ap (version_of domain) q.published in omega (arith, up, same)) p.causes) q.causes;
  follow = walked_more (TimerGoesOn trace opened) lines_after old.lines mid.lines new.lines a b p.follow q.follow;
  begun_are = λ domain. q.begun_are domain ∙ ap (onto (period_line domain) b) (p.begun_are domain) ∙ sym (onto_append (period_line domain) a b _);
  in_order = λ domain is. q.in_order domain (p.in_order domain is);
  adds_none = λ domain context. q.adds_none domain context ∙ p.adds_none domain context;
}

-- a peak, and a line, tells one at most
one_by : (fate : Fate) (raised : Raised) → (told_so fate raised ≡ []) ⊎ ((x : Raised) × (told_so fate raised ≡ x ∷ []))
one_by has_line raised = inr (raised, refl)
one_by gate_stopped raised = inl refl
one_by last_version raised = inl refl

one_for : (entry : TimerEntry) → (peak_for entry ≡ []) ⊎ ((x : Raised) × (peak_for entry ≡ x ∷ []))
one_for (timer.Limits domain now limits) = inr (record { domain = domain; hard = limits.hard }, refl)
one_for (timer.Period domain k) = inl refl

pub peaks_are_told : PeaksAreTold
peaks_are_told trace opened added old new since low =
    since.raised ∙ told_onto since.peaks new.held.published old.held.raised since.stops_are low since.causes
    ∙ onto_told told_by (λ peak. one_by peak.fate peak.raised) since.peaks old.held.raised
    ∙ ap (λ (l : List Raised). put_each l old.held.raised) since.told_are
    ∙ sym (onto_told peak_for one_for added old.held.raised)

-- ---- how many peaks stand behind no line

times_append : (d : ℕ) (a b : List Raised) → times_raised d (a ++ b) ≡ times_raised d a + times_raised d b
times_append d [] b = omega arith
times_append d (peak ∷ a) b = let rest = times_append d a b in omega (arith, rest)

-- a peak that is put onto a list is raised once more
times_onto : (d : ℕ) (peaks : List Peak) (older : List Raised) → times_raised d (onto raised_by peaks older) ≡ times_raised d older + times_raised d (flat_map raised_by peaks)
times_onto d [] older = omega arith
times_onto d (peak ∷ peaks) older = let rest = times_onto d peaks (peak.raised ∷ older) in omega (arith, rest)

at_most_one : (b : Bool) → one_if b ≤ 1
at_most_one true = omega arith
at_most_one false = omega arith

-- one without a line was stopped, or is of another domain than one that hasn't its last version
one_without : (d : ℕ) (fate : Fate) (raised : Raised) (published : List DomainLimits) → 2 * version_of d published < LAST_SEQUENCE
    → IsLastBy fate raised.domain published → one_if (d == raised.domain) ≤ times_raised d (told_so fate raised) + one_stop fate
one_without d has_line raised published low by = omega arith
one_without d gate_stopped raised published low by = let one = at_most_one (d == raised.domain) in omega (arith, one)
one_without d last_version raised published low by = elim (cases_eq d raised.domain) [
  | inl same ↦ absurd (omega (arith, low, by, ap (λ (k : ℕ). version_of k published) same))
  | inr other ↦ omega (arith, ap one_if (ne_eqb d raised.domain other))
]

few_without : (d : ℕ) (peaks : List Peak) (published : List DomainLimits) → 2 * version_of d published < LAST_SEQUENCE → Each (HasItsCause published) peaks
    → times_raised d (flat_map raised_by peaks) ≤ times_raised d (flat_map told_by peaks) + stops_in peaks
few_without d [] published low each = omega arith
few_without d (peak ∷ peaks) published low each =
    let one = one_without d peak.fate peak.raised published low each.0 in
    let rest = few_without d peaks published low each.1 in
    omega (arith, one, rest, times_append d (told_by peak) (flat_map told_by peaks))

-- each line of limits is a version of its domain
versions_are : (d : ℕ) (published : List DomainLimits) (entries : List TimerEntry)
    → version_of d (after published_after published entries) ≡ version_of d published + times_raised d (flat_map peak_for entries)
versions_are d published [] = omega arith
versions_are d published (timer.Limits of now limits ∷ entries) =
    let rest = versions_are d (published_after published (timer.Limits of now limits)) entries in omega (arith, rest)
versions_are d published (timer.Period of k ∷ entries) = versions_are d published entries

pub few_have_no_line : FewPeaksHaveNoLine
few_have_no_line trace opened stops added old new since domain low =
    omega (
      arith,
      ap (times_raised domain) since.raised,
      times_onto domain since.peaks old.held.raised,
      few_without domain since.peaks new.held.published low since.causes,
      ap (times_raised domain) since.told_are,
      ap (version_of domain) since.published,
      versions_are domain old.held.published added,
      since.stops_are,
    )
