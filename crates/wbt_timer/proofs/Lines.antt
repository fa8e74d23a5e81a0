-- Limits, lines, publications, readings and sides of one count more.
use Rattle.std.proofs.Common.{◌≡◌, ℕ, zero, suc, ◌+◌, ◌<◌, ◌≤◌, List, [], ◌∷◌, ◌++◌, length, get_or, set, refl, sym, ap, ◌∙◌, subst, arith, append_assoc}
use Rattle.std.proofs.lemmas.List.{append-nil}
use Rattle.wbt_kit.proofs.Common.{Limits, Count, Reading, DomainLimits, Raised, Trace, TimerEntry}
use Rattle.wbt_timer.specs.Turn.{AreLast, IsLastPut, Outcome, global_in, limits_by, limits_each, line_for, lines_from, no_side, pages_read, published_by, published_from, raised_from, read_from, reading_of, side_after, with_limits}
use Rattle.wbt_timer.specs.declared.side.DomainSide.{DomainSide}

more_limits : (trace : Trace) (now d g : ℕ) (sides : List DomainSide) (counts : List Count) (c : Count) (at : ℕ) → length counts < length sides → d + length counts ≡ at
    → limits_each trace now d g sides (counts ++ c ∷ []) ≡ limits_each trace now d g sides counts ++ limits_by trace now at g (get_or sides (length counts) no_side).hard c ∷ []
more_limits trace now d g [] counts c at less is = absurd (omega arith)
more_limits trace now d g (s ∷ sides) [] c at less is =
    let same : d ≡ at = omega (arith, is) in
    ap (λ (k : ℕ). limits_by trace now k g s.hard c ∷ []) same
more_limits trace now d g (s ∷ sides) (x ∷ counts) c at less is =
    ap (λ (l : List Limits). limits_by trace now d g s.hard x ∷ l) (more_limits trace now (suc d) g sides counts c at (omega arith) (omega (arith, is)))

-- the limits of one count more, where the global domain reads what its first count says
pub limits_more : (trace : Trace) (now : ℕ) (sides : List DomainSide) (counts : List Count) (c : Count) → length counts < length sides
    → limits_each trace now 0 (global_in (counts ++ c ∷ [])) sides (counts ++ c ∷ [])
    ≡ limits_each trace now 0 (global_in counts) sides counts ++ limits_by trace now (length counts) (global_in (counts ++ c ∷ [])) (get_or sides (length counts) no_side).hard c ∷ []
limits_more trace now sides [] c less = more_limits trace now 0 (pages_read c) sides [] c 0 less refl
limits_more trace now sides (x ∷ counts) c less = more_limits trace now 0 (pages_read x) sides (x ∷ counts) c (length (x ∷ counts)) less (omega arith)

pub lines_more : (now d : ℕ) (os : List Outcome) (o : Outcome) (at : ℕ) → d + length os ≡ at → lines_from now d (os ++ o ∷ []) ≡ lines_from now d os ++ line_for o.put at now o.limits
lines_more now d [] o at is =
    let same : d ≡ at = omega (arith, is) in append-nil (line_for o.put d now o.limits) ∙ ap (λ (k : ℕ). line_for o.put k now o.limits) same
lines_more now d (x ∷ os) o at is =
    ap (λ (es : List TimerEntry). line_for x.put d now x.limits ++ es) (lines_more now (suc d) os o at (omega (arith, is)))
    ∙ sym (append_assoc (line_for x.put d now x.limits) (lines_from now (suc d) os) (line_for o.put at now o.limits))

pub published_more : (d : ℕ) (os : List Outcome) (o : Outcome) (older : List DomainLimits) (at : ℕ) → d + length os ≡ at
    → published_from d (os ++ o ∷ []) older ≡ published_by o.put at o.limits (published_from d os older)
published_more d [] o older at is = let same : d ≡ at = omega (arith, is) in ap (λ (k : ℕ). published_by o.put k o.limits older) same
published_more d (x ∷ os) o older at is = published_more (suc d) os o (published_by x.put d x.limits older) at (omega (arith, is))

pub raised_more : (d : ℕ) (os : List Outcome) (o : Outcome) (older : List Raised) (at : ℕ) → d + length os ≡ at
    → raised_from d (os ++ o ∷ []) older ≡ record { domain = at; hard = o.limits.hard } ∷ raised_from d os older
raised_more d [] o older at is = let same : d ≡ at = omega (arith, is) in ap (λ (k : ℕ). record { domain = k; hard = o.limits.hard } ∷ older) same
raised_more d (x ∷ os) o older at is = raised_more (suc d) os o (record { domain = d; hard = x.limits.hard } ∷ older) at (omega (arith, is))

pub lasts_more : (d : ℕ) (os : List Outcome) (o : Outcome) (older : List DomainLimits) (at : ℕ) → d + length os ≡ at → AreLast d os older
    → IsLastPut o.put at (published_from d os older) → AreLast d (os ++ o ∷ []) older
lasts_more d [] o older at is lasts last = let same : at ≡ d = omega (arith, is) in (subst (λ (k : ℕ). IsLastPut o.put k older) same last, tt)
lasts_more d (x ∷ os) o older at is lasts last = (lasts.0, lasts_more (suc d) os o (published_by x.put d x.limits older) at (omega (arith, is)) lasts.1 last)

pub read_more : (d : ℕ) (cs : List Count) (c : Count) (older : List Reading) (at : ℕ) → d + length cs ≡ at → read_from d (cs ++ c ∷ []) older ≡ reading_of at c ∷ read_from d cs older
read_more d [] c older at is = let same : d ≡ at = omega (arith, is) in ap (λ (k : ℕ). reading_of k c ∷ older) same
read_more d (x ∷ cs) c older at is = read_more (suc d) cs c (reading_of d x ∷ older) at (omega (arith, is))

-- ---- sides

pub with_long : (now : ℕ) (os : List Outcome) (sides : List DomainSide) → length (with_limits now os sides) ≡ length sides
with_long now [] sides = refl
with_long now (x ∷ os) [] = refl
with_long now (x ∷ os) (s ∷ sides) = ap suc (with_long now os sides)

pub with_later : (now : ℕ) (os : List Outcome) (sides : List DomainSide) (k : ℕ) → length os ≤ k → get_or (with_limits now os sides) k no_side ≡ get_or sides k no_side
with_later now [] sides k more = refl
with_later now (x ∷ os) [] k more = refl
with_later now (x ∷ os) (s ∷ sides) zero more = absurd (omega arith)
with_later now (x ∷ os) (s ∷ sides) (suc k) more = with_later now os sides k (omega arith)

pub with_more : (now : ℕ) (os : List Outcome) (sides : List DomainSide) (o : Outcome) → length os < length sides
    → with_limits now (os ++ o ∷ []) sides ≡ set (with_limits now os sides) (length os) (side_after o.put now o.limits (get_or (with_limits now os sides) (length os) no_side))
with_more now os [] o less = absurd (omega arith)
with_more now [] (s ∷ sides) o less = refl
with_more now (x ∷ os) (s ∷ sides) o less = ap (λ (r : List DomainSide). side_after x.put now x.limits s ∷ r) (with_more now os sides o (omega arith))

-- the global domain reads what its first count says
pub global_first : (counts : List Count) (c : Count) → length counts ≡ 0 → global_in (counts ++ c ∷ []) ≡ pages_read c
global_first [] c none = refl
global_first (x ∷ counts) c none = absurd (omega (arith, none))

pub global_stays : (counts : List Count) (c : Count) → 0 < length counts → global_in (counts ++ c ∷ []) ≡ global_in counts
global_stays [] c some = absurd (omega (arith, some))
global_stays (x ∷ counts) c some = refl
