-- Limits that a CPU held, while it loaded more.
use Rattle.std.proofs.Common.{◌≡◌, ℕ, ◌≤◌, inl, inr, ◌⊎◌, true, eqb, Option, None, List, [], ◌∷◌, ◌++◌, map, flat_map, All, Contains, sym, refl, ap, ◌∙◌, subst, arith, append-nil}
use Rattle.std.specs.List.{list_all}
use Rattle.std.proofs.lemmas.Bool.{cond_both, eqb-true}
use Rattle.std.proofs.lemmas.List.Elements.{All-contains}
use Rattle.wbt_run_laws.proofs.Common.{Limits, DomainLimits, reads_of, Each, effect, of_part, tells, Told, Along, CheckEntry, DomainLine, limits_in, WereHeld, Longer}
use Rattle.wbt_grant.specs.Rule.{NeverBack}
use Rattle.wbt_grant.specs.State.{newest_of}
use Rattle.wbt_journal.specs.Reads.{reads_in, is_no_newer, is_new, TriplesGoOn, triples_after}
use Rattle.wbt_run_laws.specs.Held.{limits_of, IsHeld, HeldOne, HeldMore, CheckTellsHeld, OthersTellNone, IsLoaded, HeldWereLoaded, HeldStayNew}
use Rattle.wbt_run_laws.proofs.Lists.{each_weaker, all_rest, here, there, longer_none, longer_more, longer_has, and_both, not_ahead}

-- ---- one after another

held_longer : (firsts : ℕ → Limits) (told old mid new : List DomainLimits) → Longer old mid → WereHeld firsts told mid new → WereHeld firsts told old new
held_longer firsts [] old mid new p q = longer_more old mid new p q
held_longer firsts (t ∷ told) old mid new p q = (q.0, longer_more old mid q.0 p q.1, q.2, q.3)

pub held_grew : (firsts : ℕ → Limits) (told old new : List DomainLimits) → WereHeld firsts told old new → Longer old new
held_grew firsts [] old new p = p
held_grew firsts (t ∷ told) old new p = longer_more old p.0 new p.1 (held_grew firsts told p.0 new p.3)

pub held_one : HeldOne
held_one firsts t old new longer is = (new, longer, is, longer_none new)

pub held_more : HeldMore
held_more firsts [] b old mid new p q = held_longer firsts b old mid new p q
held_more firsts (t ∷ a) b old mid new p q = (p.0, p.1, p.2, held_more firsts a b p.0 mid new p.3 q)

-- what is told in two parts was held in two
held_parts : (firsts : ℕ → Limits) (a b old new : List DomainLimits) → WereHeld firsts (a ++ b) old new
    → (mid : List DomainLimits) × WereHeld firsts a old mid × WereHeld firsts b mid new
held_parts firsts [] b old new p = (old, longer_none old, p)
held_parts firsts (t ∷ a) b old new p =
    let rest = held_parts firsts a b p.0 new p.3 in (rest.0, (p.0, p.1, p.2, rest.1), rest.2)

pub check_tells : CheckTellsHeld
check_tells firsts check old new p = subst (λ (l : List DomainLimits). WereHeld firsts l old new) (sym (append-nil (map limits_of (reads_of check)))) p

none_told : (added : List Told) → Each (λ (e : Told). (effect e).check ≡ None) added → flat_map limits_in added ≡ []
none_told [] none = refl
none_told (e ∷ added) none =
    ap (λ (part : Option CheckEntry). map limits_of (of_part [] reads_of part) ++ flat_map limits_in added) none.0 ∙ none_told added none.1

pub others_tell_none : OthersTellNone
others_tell_none firsts added old new none longer = subst (λ (l : List DomainLimits). WereHeld firsts l old new) (sym (none_told added none)) longer

-- ---- the newest of a domain

newest_loaded : (d : ℕ) (first : Limits) (triples : List DomainLimits)
    → (newest_of d first triples ≡ record { domain = d; version = 0; limits = first }) ⊎ Contains triples (newest_of d first triples)
newest_loaded d first [] = inl refl
newest_loaded d first (t ∷ older) = cond_both (eqb d t.domain) t (newest_of d first older)
    (λ (x : DomainLimits). (x ≡ record { domain = d; version = 0; limits = first }) ⊎ Contains (t ∷ older) x)
    (λ is. inr (here t older))
    (λ not. elim (newest_loaded d first older) [ inl first_is ↦ inl first_is | inr has ↦ inr (there t (newest_of d first older) older has) ])

newest_domain : (d : ℕ) (first : Limits) (triples : List DomainLimits) → (newest_of d first triples).domain ≡ d
newest_domain d first [] = refl
newest_domain d first (t ∷ older) =
    cond_both (eqb d t.domain) t (newest_of d first older) (λ (x : DomainLimits). x.domain ≡ d) (λ is. sym (eqb-true d t.domain is)) (λ not. newest_domain d first older)

loaded_by : (firsts : ℕ → Limits) (mid new : List DomainLimits) (t : DomainLimits) → Longer mid new → IsHeld firsts mid t → IsLoaded firsts new t
loaded_by firsts mid new t longer is = elim (newest_loaded t.domain (firsts t.domain) mid) [
  | inl first_is ↦ inl (sym is ∙ first_is)
  | inr has ↦ inr (longer_has mid new longer t (subst (λ (x : DomainLimits). Contains mid x) is has))
]

pub held_loaded : HeldWereLoaded
held_loaded firsts [] old new p = tt
held_loaded firsts (t ∷ told) old new p =
    (loaded_by firsts p.0 new t (held_grew firsts told p.0 new p.3) p.2, held_loaded firsts told p.0 new p.3)

-- ---- versions

never_rest : (more old : List DomainLimits) → NeverBack (more ++ old) → NeverBack old
never_rest [] old never = never
never_rest (t ∷ more) old never = never_rest more old never.1

never_was : (old new : List DomainLimits) → Longer old new → NeverBack new → NeverBack old
never_was old new longer never = never_rest longer.more old (subst NeverBack longer.longer never)

-- the version that is held of a domain
abbrev version_at : (firsts : ℕ → Limits) (d : ℕ) (triples : List DomainLimits) → ℕ
version_at firsts d triples = (newest_of d (firsts d) triples).version

rises_by : (firsts : ℕ → Limits) (d : ℕ) (t : DomainLimits) (old : List DomainLimits) → d ≡ t.domain → All (λ (u : DomainLimits). u.domain ≡ t.domain → u.version ≤ t.version) old
    → version_at firsts d old ≤ t.version
rises_by firsts d t old is all = elim (newest_loaded d (firsts d) old) [
  | inl first_is ↦ (let none : version_at firsts d old ≡ 0 = ap (λ (x : DomainLimits). x.version) first_is in omega arith)
  | inr has ↦ All-contains (λ (u : DomainLimits). u.domain ≡ t.domain → u.version ≤ t.version) old (newest_of d (firsts d) old) all has (newest_domain d (firsts d) old ∙ is)
]

rises : (firsts : ℕ → Limits) (d : ℕ) (more old : List DomainLimits) → NeverBack (more ++ old) → version_at firsts d old ≤ version_at firsts d (more ++ old)
rises firsts d [] old never = omega arith
rises firsts d (t ∷ more) old never = cond_both (eqb d t.domain) t (newest_of d (firsts d) (more ++ old)) (λ (x : DomainLimits). version_at firsts d old ≤ x.version)
    (λ is. rises_by firsts d t old (eqb-true d t.domain is) (all_rest (λ (u : DomainLimits). u.domain ≡ t.domain → u.version ≤ t.version) more old never.0))
    (λ not. rises firsts d more old never.1)

-- no version that is held falls
version_rises : (firsts : ℕ → Limits) (d : ℕ) (old new : List DomainLimits) → NeverBack new → Longer old new → version_at firsts d old ≤ version_at firsts d new
version_rises firsts d old new never longer =
    let up = rises firsts d longer.more old (subst NeverBack longer.longer never) in
    let same : version_at firsts d new ≡ version_at firsts d (longer.more ++ old) = ap (version_at firsts d) longer.longer in omega arith

-- ---- along a part

-- no version that was read is above the one that is held
abbrev AreSeen : (firsts : ℕ → Limits) (triples : List DomainLimits) (seen : List DomainLine) → Type 0
AreSeen firsts triples seen = Each (λ (s : DomainLine). s.triple ≤ version_at firsts s.domain triples) seen

still_seen : (firsts : ℕ → Limits) (old new : List DomainLimits) (seen : List DomainLine) → NeverBack new → Longer old new → AreSeen firsts old seen → AreSeen firsts new seen
still_seen firsts old new seen never longer = each_weaker (λ (s : DomainLine). s.triple ≤ version_at firsts s.domain old) (λ (s : DomainLine). s.triple ≤ version_at firsts s.domain new)
    (λ s low. let up = version_rises firsts s.domain old new never longer in omega arith) seen

new_by : (firsts : ℕ → Limits) (triples : List DomainLimits) (read : DomainLine) (seen : List DomainLine) → IsHeld firsts triples (limits_of read) → AreSeen firsts triples seen
    → is_new seen read ≡ true
new_by firsts triples read [] is low = refl
new_by firsts triples read (s ∷ seen) is low = and_both (is_no_newer read.domain read.triple s) (list_all (is_no_newer read.domain read.triple) seen)
    (not_ahead (eqb s.domain read.domain) s.triple read.triple (λ same.
    let of : version_at firsts s.domain triples ≡ version_at firsts read.domain triples = ap (λ (d : ℕ). version_at firsts d triples) (eqb-true s.domain read.domain same) in
    let its : version_at firsts read.domain triples ≡ read.triple = ap (λ (x : DomainLimits). x.version) is in
    let here' : s.triple ≤ version_at firsts s.domain triples = low.0 in omega arith))
    (new_by firsts triples read seen is low.1)

reads_new : (firsts : ℕ → Limits) (reads seen : List DomainLine) (old mid : List DomainLimits) → NeverBack mid → WereHeld firsts (map limits_of reads) old mid → AreSeen firsts old seen
    → Each (λ (read : DomainLine). is_new seen read ≡ true) reads × AreSeen firsts mid (reads ++ seen)
reads_new firsts [] seen old mid never held low = (tt, still_seen firsts old mid seen never held low)
reads_new firsts (read ∷ reads) seen old mid never held low =
    let at = held.0 in
    let longer = held_grew firsts (map limits_of reads) at mid held.3 in
    let there' = still_seen firsts old at seen (never_was at mid longer never) held.1 low in
    let rest = reads_new firsts reads seen at mid never held.3 there' in
    let its : version_at firsts read.domain at ≡ read.triple = ap (λ (x : DomainLimits). x.version) held.2 in
    let up = version_rises firsts read.domain at mid never longer in
    ((new_by firsts at read seen held.2 there', rest.0), ((let at_most : read.triple ≤ version_at firsts read.domain mid = omega arith in at_most), rest.1))

part_new : (firsts : ℕ → Limits) (cpu : ℕ) (added : List Told) (seen : List DomainLine) (old new : List DomainLimits) → NeverBack new → WereHeld firsts (flat_map limits_in added) old new
    → AreSeen firsts old seen → Along TriplesGoOn triples_after seen (map (tells cpu) added)
part_new firsts cpu [] seen old new never held low = tt
part_new firsts cpu (e ∷ added) seen old new never held low =
    let parts = held_parts firsts (limits_in e) (flat_map limits_in added) old new held in
    let longer = held_grew firsts (flat_map limits_in added) parts.0 new parts.2 in
    let first = reads_new firsts (reads_in e) seen old parts.0 (never_was parts.0 new longer never) parts.1 low in
    (first.0, part_new firsts cpu added (reads_in e ++ seen) parts.0 new never parts.2 first.1)

pub held_new : HeldStayNew
held_new firsts added triples never held cpu = part_new firsts cpu added [] [] triples never held tt
