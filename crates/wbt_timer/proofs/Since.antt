-- A turn's lines go on along the journal's, and tell just what the timer did.
use Rattle.std.proofs.Common.{◌≡◌, ℕ, zero, suc, ◌+◌, ◌<◌, ◌≤◌, Bool, true, false, Option, Some, List, [], ◌∷◌, ◌++◌, map, flat_map, drop, length, get_or, slice_get, set, refl, sym, ap, ◌∙◌, subst, arith, append_assoc, length-append, if◌then◌else◌}
use Rattle.std.proofs.lemmas.Bool.{lt-ltb, le-ltb}
use Rattle.std.proofs.lemmas.List.{length-map, set_at}
use Rattle.wbt_kit.proofs.Common.{Count, Limits, Note, version_of, DomainLimits, Raised, TimerRecord, Trace, Each, domains, LastLine, is_opening, lines_after, after, TimerEntry, thresholds_at, Put, Done, Stopped, Last}
use Rattle.wbt_journal.specs.Timer.{LineFollows, LimitsBy, TimerGoesOn, put_line}
use Rattle.wbt_rules.specs.declared.moments.TheConstants.{TIMER_REST}
use Rattle.wbt_run_laws.specs.Grew.{onto}
use Rattle.wbt_run_laws.specs.Ticks.{Fate, has_line, gate_stopped, last_version, HasItsCause, IsLastBy, Peak, TimerSince, begun_at_once, one_stop, peak_for, period_line, published_after, raised_by, stops_in, told_by, told_so}
use Rattle.wbt_run_laws.specs.Walks.{Walked}
use Rattle.wbt_run_laws.proofs.Lists.{flat_append, onto_append}
use Rattle.wbt_run_laws.proofs.Walking.{after_append, walked_more, walked_none}
use Rattle.wbt_timer.specs.Side.{line_of}
use Rattle.wbt_timer.specs.Turn.{AreLast, AreThrough, Outcome, is_through, limits_by, limits_each, limits_of, line_for, lines_from, IsLastPut, pages_read, published_by, published_from, raised_from, side_after, with_limits}
use Rattle.wbt_timer.specs.declared.side.DomainSide.{DomainSide}
use Rattle.wbt_timer.proofs.Found.{has_thresholds, hard_follows}

at_front : {A : Type 0} (pre : List A) (x : A) (xs : List A) (n : ℕ) → length pre ≡ n → slice_get (pre ++ x ∷ xs) n ≡ Some x
at_front [] x xs zero is = refl
at_front [] x xs (suc n) is = absurd (omega (arith, is))
at_front (y ∷ pre) x xs zero is = absurd (omega (arith, is))
at_front (y ∷ pre) x xs (suc n) is = at_front pre x xs n (omega (arith, is))

-- ---- lines of a turn, each of a domain whose last one is 200 ticks old

module _ (trace : Trace) (opened now last global : ℕ) (late : last + TIMER_REST ≤ now) where
  abbrev Follows : (old : List LastLine) (entries : List TimerEntry) (new : List LastLine) → Type 0
  Follows old entries new = Walked (TimerGoesOn trace opened) lines_after old entries new

  one_follows : (lines : List LastLine) (d : ℕ) (s : DomainSide) (c : Count) → length lines ≡ domains trace → d < domains trace → s.at ≤ last
      → slice_get lines d ≡ Some (line_of s) → LimitsBy (is_opening trace lines) trace opened lines d now (limits_by trace now d global s.hard c)
  one_follows lines d s c many less early at =
      let l : Limits = limits_by trace now d global s.hard c in
      let opens : is_opening trace lines ≡ false = le-ltb (length lines) (domains trace) (omega (arith, many)) in
      subst (λ (b : Bool). LimitsBy b trace opened lines d now l) (sym opens)
      (subst (λ (o : Option LastLine). LineFollows trace o d now l) (sym at)
      (omega (arith, late, early), has_thresholds trace now d global (pages_read c) l less refl refl, hard_follows s.hard (thresholds_at trace now d global (pages_read c)) (pages_read c)))

  one_put : (pre : List LastLine) (x y : LastLine) (more : List LastLine) (d : ℕ) → length pre ≡ d → put_line d y (pre ++ x ∷ more) ≡ (pre ++ y ∷ []) ++ more
  one_put pre x y more d is =
      let there : d < length (pre ++ x ∷ more) = omega (arith, is, length-append pre (x ∷ more)) in
      ap (λ (b : Bool). if b then set (pre ++ x ∷ more) d y else (pre ++ x ∷ more) ++ y ∷ []) (lt-ltb d (length (pre ++ x ∷ more)) there)
      ∙ set_at pre x more y d is ∙ sym (append_assoc pre (y ∷ []) more)

  -- a domain's line, where its limits were published
  line_follows : (put : Put) (l : Limits) (pre : List LastLine) (d : ℕ) (s : DomainSide) (c : Count) (sides : List DomainSide) → length pre ≡ d
      → length (pre ++ line_of s ∷ map line_of sides) ≡ domains trace → d < domains trace → s.at ≤ last → l ≡ limits_by trace now d global s.hard c
      → Follows (pre ++ line_of s ∷ map line_of sides) (line_for put d now l) ((pre ++ line_of (side_after put now l s) ∷ []) ++ map line_of sides)
  line_follows Done l pre d s c sides is many less early its =
      let lines : List LastLine = pre ++ line_of s ∷ map line_of sides in
      record {
        allowed = (
          subst (λ (x : Limits). LimitsBy (is_opening trace lines) trace opened lines d now x) (sym its)
              (one_follows lines d s c many less early (at_front pre (line_of s) (map line_of sides) d is)),
          tt,
        );
        reached = one_put pre (line_of s) (record { now = now; hard = l.hard }) (map line_of sides) d is;
      }
  line_follows Stopped l pre d s c sides is many less early its = record { allowed = tt; reached = sym (append_assoc pre (line_of s ∷ []) (map line_of sides)) }
  line_follows Last l pre d s c sides is many less early its = record { allowed = tt; reached = sym (append_assoc pre (line_of s ∷ []) (map line_of sides)) }

  pub turn_follows : (pre : List LastLine) (d : ℕ) (outcomes : List Outcome) (sides : List DomainSide) (counts : List Count) → length pre ≡ d
      → limits_of outcomes ≡ limits_each trace now d global sides counts → d + length sides ≡ domains trace → Each (λ (s : DomainSide). s.at ≤ last) sides
      → Follows (pre ++ map line_of sides) (lines_from now d outcomes) (pre ++ map line_of (with_limits now outcomes sides))
  turn_follows pre d [] sides counts is same all early = walked_none (TimerGoesOn trace opened) lines_after (pre ++ map line_of sides)
  turn_follows pre d (o ∷ os) [] [] is same all early = absurd (let n = ap (λ (l : List Limits). length l) same in omega (arith, n))
  turn_follows pre d (o ∷ os) [] (c ∷ counts) is same all early = absurd (let n = ap (λ (l : List Limits). length l) same in omega (arith, n))
  turn_follows pre d (o ∷ os) (s ∷ sides) [] is same all early = absurd (let n = ap (λ (l : List Limits). length l) same in omega (arith, n))
  turn_follows pre d (o ∷ os) (s ∷ sides) (c ∷ counts) is same all early =
      let lines : List LastLine = pre ++ line_of s ∷ map line_of sides in
      let next : List LastLine = pre ++ line_of (side_after o.put now o.limits s) ∷ [] in
      let its : o.limits ≡ limits_by trace now d global s.hard c = ap (λ (l : List Limits). get_or l 0 o.limits) same in
      let many : length lines ≡ domains trace = omega (arith, is, all, length-append pre (line_of s ∷ map line_of sides), length-map sides line_of) in
      let one : Follows lines (line_for o.put d now o.limits) (next ++ map line_of sides) = line_follows o.put o.limits pre d s c sides is many (omega (arith, all)) early.0 its in
      let rest : Follows (next ++ map line_of sides) (lines_from now (suc d) os) (next ++ map line_of (with_limits now os sides)) =
      turn_follows next (suc d) os sides counts (omega (arith, is, length-append pre (line_of (side_after o.put now o.limits s) ∷ []))) (ap (λ (l : List Limits). drop 1 l) same) (omega (arith, all)) early.1 in
      subst (λ (new : List LastLine). Follows lines (line_for o.put d now o.limits ++ lines_from now (suc d) os) new)
      (append_assoc pre (line_of (side_after o.put now o.limits s) ∷ []) (map line_of (with_limits now os sides)))
      (walked_more (TimerGoesOn trace opened) lines_after lines (next ++ map line_of sides) (next ++ map line_of (with_limits now os sides))
      (line_for o.put d now o.limits) (lines_from now (suc d) os) one rest)

-- ---- what lines tell

-- they publish what was published
one_published : (put : Put) (d now : ℕ) (l : Limits) (older : List DomainLimits) → after published_after older (line_for put d now l) ≡ published_by put d l older
one_published Done d now l older = refl
one_published Stopped d now l older = refl
one_published Last d now l older = refl

pub all_published : (d now : ℕ) (os : List Outcome) (older : List DomainLimits) → published_from d os older ≡ after published_after older (lines_from now d os)
all_published d now [] older = refl
all_published d now (o ∷ os) older =
    all_published (suc d) now os (published_by o.put d o.limits older)
    ∙ ap (λ (l : List DomainLimits). after published_after l (lines_from now (suc d) os)) (sym (one_published o.put d now o.limits older))
    ∙ sym (after_append published_after older (line_for o.put d now o.limits) (lines_from now (suc d) os))

-- ---- the peaks that were raised for them

abbrev pub fate_of : (put : Put) → Fate
fate_of Done = has_line
fate_of Stopped = gate_stopped
fate_of Last = last_version

abbrev pub peak_of : (d : ℕ) (o : Outcome) → Peak
peak_of d o = record { raised = record { domain = d; hard = o.limits.hard }; fate = fate_of o.put }

abbrev pub peaks_from : (d : ℕ) (os : List Outcome) → List Peak
peaks_from d [] = []
peaks_from d (o ∷ os) = peak_of d o ∷ peaks_from (suc d) os

all_raised : (d : ℕ) (os : List Outcome) (older : List Raised) → raised_from d os older ≡ onto raised_by (peaks_from d os) older
all_raised d [] older = refl
all_raised d (o ∷ os) older = all_raised (suc d) os (record { domain = d; hard = o.limits.hard } ∷ older)

-- those with a line are the lines'
one_told : (put : Put) (d now : ℕ) (l : Limits) → told_so (fate_of put) (record { domain = d; hard = l.hard }) ≡ flat_map peak_for (line_for put d now l)
one_told Done d now l = refl
one_told Stopped d now l = refl
one_told Last d now l = refl

all_told : (d now : ℕ) (os : List Outcome) → flat_map told_by (peaks_from d os) ≡ flat_map peak_for (lines_from now d os)
all_told d now [] = refl
all_told d now (o ∷ os) =
    ap (λ (l : List Raised). l ++ flat_map told_by (peaks_from (suc d) os)) (one_told o.put d now o.limits)
    ∙ ap (λ (l : List Raised). flat_map peak_for (line_for o.put d now o.limits) ++ l) (all_told (suc d) now os)
    ∙ sym (flat_append peak_for (line_for o.put d now o.limits) (lines_from now (suc d) os))

-- the gate stopped the timer behind none of them where all went through, and behind one where it stopped the last
goes_on : (put : Put) → is_through put ≡ true → one_stop (fate_of put) ≡ 0
goes_on Done is = refl
goes_on Stopped is = absurd (let e = is in cc)
goes_on Last is = refl

pub stops_never : (d : ℕ) (os : List Outcome) → AreThrough os → stops_in (peaks_from d os) ≡ 0
stops_never d [] through = refl
stops_never d (o ∷ os) through = let first = goes_on o.put through.0 in let rest = stops_never (suc d) os through.1 in omega (arith, first, rest)

pub stops_once : (d : ℕ) (os : List Outcome) (l : Limits) → AreThrough os → stops_in (peaks_from d (os ++ record { limits = l; put = Stopped } ∷ [])) ≡ 1
stops_once d [] l through = refl
stops_once d (o ∷ os) l through = let first = goes_on o.put through.0 in let rest = stops_once (suc d) os l through.1 in omega (arith, first, rest)

-- lines of limits tell no period
none_begins : (put : Put) (domain now d : ℕ) (l : Limits) (older : List ℕ) → onto (period_line domain) (line_for put d now l) older ≡ older
none_begins Done domain now d l older = refl
none_begins Stopped domain now d l older = refl
none_begins Last domain now d l older = refl

no_period : (domain now d : ℕ) (os : List Outcome) (older : List ℕ) → onto (period_line domain) (lines_from now d os) older ≡ older
no_period domain now d [] older = refl
no_period domain now d (o ∷ os) older =
    onto_append (period_line domain) (line_for o.put d now o.limits) (lines_from now (suc d) os) older
    ∙ ap (onto (period_line domain) (lines_from now (suc d) os)) (none_begins o.put domain now d o.limits older) ∙ no_period domain now (suc d) os older

-- ---- why a peak has no line

version_by : (put : Put) (domain d : ℕ) (l : Limits) (older : List DomainLimits) → version_of domain older ≤ version_of domain (published_by put d l older)
version_by Done domain d l older = omega arith
version_by Stopped domain d l older = omega arith
version_by Last domain d l older = omega arith

version_rises : (domain d : ℕ) (os : List Outcome) (older : List DomainLimits) → version_of domain older ≤ version_of domain (published_from d os older)
version_rises domain d [] older = omega arith
version_rises domain d (o ∷ os) older =
    let one = version_by o.put domain d o.limits older in
    let rest = version_rises domain (suc d) os (published_by o.put d o.limits older) in omega arith

one_cause : (put : Put) (d : ℕ) (published published' : List DomainLimits) → IsLastPut put d published → version_of d published ≤ version_of d published' → IsLastBy (fate_of put) d published'
one_cause Done d published published' last up = tt
one_cause Stopped d published published' last up = tt
one_cause Last d published published' last up = omega (arith, last, up)

all_causes : (d : ℕ) (os : List Outcome) (older : List DomainLimits) → AreLast d os older → Each (HasItsCause (published_from d os older)) (peaks_from d os)
all_causes d [] older lasts = tt
all_causes d (o ∷ os) older lasts =
    (one_cause o.put d older (published_from d (o ∷ os) older) lasts.0 (version_rises d d (o ∷ os) older), all_causes (suc d) os (published_by o.put d o.limits older) lasts.1)

-- ---- so the limits of a turn go on with all turns before it

pub limits_since : (trace : Trace) (opened now last global : ℕ) (outcomes : List Outcome) (sides : List DomainSide) (counts : List Count) (r r' : TimerRecord) (shares : ℕ → List Note)
    → last + TIMER_REST ≤ now → limits_of outcomes ≡ limits_each trace now 0 global sides counts → length sides ≡ domains trace → Each (λ (s : DomainSide). s.at ≤ last) sides
    → r'.published ≡ published_from 0 outcomes r.published → r'.raised ≡ raised_from 0 outcomes r.raised → AreLast 0 outcomes r.published
    → TimerSince trace opened (stops_in (peaks_from 0 outcomes)) (lines_from now 0 outcomes) (record { held = r; lines = map line_of sides; shares = shares })
    (record { held = r'; lines = map line_of (with_limits now outcomes sides); shares = shares })
limits_since trace opened now last global outcomes sides counts r r' shares late same all early published raised lasts = record {
  published = published ∙ all_published 0 now outcomes r.published;
  peaks = peaks_from 0 outcomes;
  raised = raised ∙ all_raised 0 outcomes r.raised;
  told_are = all_told 0 now outcomes;
  stops_are = refl;
  causes = subst (λ (l : List DomainLimits). Each (HasItsCause l) (peaks_from 0 outcomes)) (sym published) (all_causes 0 outcomes r.published lasts);
  follow = turn_follows trace opened now last global late [] 0 outcomes sides counts refl same (omega (arith, all)) early;
  begun_are = λ domain. sym (no_period domain now 0 outcomes (begun_at_once (shares domain)));
  in_order = λ domain is. is;
  adds_none = λ domain context. refl;
}
