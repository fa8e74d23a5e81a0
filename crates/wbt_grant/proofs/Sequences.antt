-- What the steps of publications and of loads do to sequences and thresh words, and to what was found in them.
use Rattle.std.proofs.Common.{◌≡◌, ◌≢◌, ℕ, suc, ◌+◌, ◌*◌, ◌/◌, ◌%◌, ◌<◌, ◌≤◌, Bool, true, false, not, eqb, List, ◌∷◌, All, sym, refl, ap, ◌∙◌, subst, arith, eq-eqb, ne_eqb, eqb-true, true≢false}
use Rattle.std.proofs.Math.Path.{fun_ext}
use Rattle.std.proofs.lemmas.Bool.{and_parts, cond-true, cond-false}
use Rattle.std.proofs.lemmas.List.Elements.{All-weaker}
use mathlib.Core.Logic.{dite}
use native.Mathlib.Decide.{ℕ_discrete}
use Rattle.wbt_num.specs.declared.limits.Limits.{Limits}
use Rattle.wbt_num.specs.Limits.{IsLawful}
use Rattle.wbt_counter.specs.Sums.{put, one_if}
use Rattle.wbt_counter.proofs.Sums.{put_each}
use Rattle.wbt_grant.specs.declared.record.DomainLimits.{DomainLimits}
use Rattle.wbt_grant.specs.declared.record.Draft.{Draft}
use Rattle.wbt_grant.specs.declared.record.Finding.{Finding}
use Rattle.wbt_grant.specs.declared.record.Finding.TheVariants.{Nothing, Sequence, Words}
use Rattle.wbt_grant.specs.declared.record.Loading.{Loading}
use Rattle.wbt_grant.specs.declared.record.Stage.{Stage}
use Rattle.wbt_grant.specs.declared.record.Stage.TheVariants.{Sealed, Unsealed, Drafted}
use Rattle.wbt_grant.specs.declared.record.CpuRecord.{CpuRecord}
use Rattle.wbt_grant.specs.declared.record.TimerRecord.{TimerRecord}
use Rattle.wbt_grant.specs.Setting.{Setting}
use Rattle.wbt_grant.specs.State.{found_of, stage_of, is_sealed, version_of, sequence_of, standing, standing_of}
use Rattle.wbt_grant.specs.Record.{with_found, beside, is_whole, thresh_found, with_stage, unsealing, drafting, publishing}
use Rattle.wbt_grant.specs.Rule.{NeverBack, IsAsFound, AreSequences}
use Rattle.wbt_grant.proofs.Entries.{entry_of-with}

-- ---- one entry of a list changes

pub found_here : (d : ℕ) (found : Finding) (loading : List Loading) → found_of d (with_found d found loading) ≡ found
found_here d found loading = let new : Loading = record { domain = d; found = found } in let absent : Loading = record { domain = d; found = Nothing } in
    ap (λ (l : Loading). l.found) (entry_of-with (λ l. l.domain) absent d new loading ∙ cond-true (eqb d d) new _ (eq-eqb d d refl))

found_there : (d e : ℕ) (found : Finding) (loading : List Loading) → e ≢ d → found_of e (with_found d found loading) ≡ found_of e loading
found_there d e found loading n = let new : Loading = record { domain = d; found = found } in let absent : Loading = record { domain = e; found = Nothing } in
    ap (λ (l : Loading). l.found) (entry_of-with (λ l. l.domain) absent e new loading ∙ cond-false (eqb e d) new _ (ne_eqb e d n))

pub stage_here : (d : ℕ) (stage : Stage) (drafts : List Draft) → stage_of d (with_stage d stage drafts) ≡ stage
stage_here d stage drafts = let new : Draft = record { domain = d; stage = stage } in let absent : Draft = record { domain = d; stage = Sealed } in
    ap (λ (x : Draft). x.stage) (entry_of-with (λ x. x.domain) absent d new drafts ∙ cond-true (eqb d d) new _ (eq-eqb d d refl))

pub stage_there : (d e : ℕ) (stage : Stage) (drafts : List Draft) → e ≢ d → stage_of e (with_stage d stage drafts) ≡ stage_of e drafts
stage_there d e stage drafts n = let new : Draft = record { domain = d; stage = stage } in let absent : Draft = record { domain = e; stage = Sealed } in
    ap (λ (x : Draft). x.stage) (entry_of-with (λ x. x.domain) absent e new drafts ∙ cond-false (eqb e d) new _ (ne_eqb e d n))

-- ---- versions

module _ (new : DomainLimits) (older : List DomainLimits) where
  pub version_here : version_of new.domain (new ∷ older) ≡ suc (version_of new.domain older)
  version_here = let one : one_if (eqb new.domain new.domain) ≡ 1 = ap one_if (eq-eqb new.domain new.domain refl) in omega arith

  pub version_there : (e : ℕ) → e ≢ new.domain → version_of e (new ∷ older) ≡ version_of e older
  version_there e n = let none : one_if (eqb e new.domain) ≡ 0 = ap one_if (ne_eqb e new.domain n) in omega arith

  pub version_grows : (e : ℕ) → version_of e older ≤ version_of e (new ∷ older)
  version_grows e = omega arith

-- ---- sequences, and the limits in thresh words, after each step of a publication

odd : Stage → ℕ
odd stage = one_if (not (is_sealed stage))

is_odd : (stage : Stage) → is_sealed stage ≡ false → odd stage ≡ 1
unfolding odd
is_odd stage t = ap (λ (b : Bool). one_if (not b)) t

is_even : (stage : Stage) → is_sealed stage ≡ true → odd stage ≡ 0
unfolding odd
is_even stage t = ap (λ (b : Bool). one_if (not b)) t

pub standing_sealed : (stage : Stage) (limits : Limits) → is_sealed stage ≡ true → standing stage limits ≡ limits
standing_sealed Sealed limits t = refl
standing_sealed Unsealed limits t = absurd (true≢false (sym t))
standing_sealed (Drafted other) limits t = absurd (true≢false (sym t))

pub odd_sequence : (timer : TimerRecord) (d : ℕ) → is_sealed (stage_of d timer.drafts) ≡ false → sequence_of timer d % 2 ≡ 1
unfolding odd
odd_sequence timer d unsealed = let one = is_odd (stage_of d timer.drafts) unsealed in omega arith

module _ (published : ℕ → Limits) (timer : TimerRecord) (d : ℕ) where
  pub sequence_unsealed : is_sealed (stage_of d timer.drafts) ≡ true
      → ◌≡◌ {A = ℕ → ℕ} (sequence_of (unsealing d timer)) (put (sequence_of timer) d (suc (sequence_of timer d)))
  unfolding odd
  sequence_unsealed sealed = fun_ext (put_each (sequence_of timer) d (suc (sequence_of timer d)) (λ e y. sequence_of (unsealing d timer) e ≡ y)
      (let before = is_even (stage_of d timer.drafts) sealed in
      let now : odd (stage_of d (with_stage d Unsealed timer.drafts)) ≡ 1 = ap odd (stage_here d Unsealed timer.drafts) in omega arith)
      (λ e n. let same : odd (stage_of e (with_stage d Unsealed timer.drafts)) ≡ odd (stage_of e timer.drafts)
      = ap odd (stage_there d e Unsealed timer.drafts n) in omega arith))

  pub sequence_drafted : (triple : Limits) → is_sealed (stage_of d timer.drafts) ≡ false
      → ◌≡◌ {A = ℕ → ℕ} (sequence_of (drafting d triple timer)) (sequence_of timer)
  unfolding odd
  sequence_drafted triple unsealed = fun_ext (λ e. dite (ℕ_discrete e d)
      (λ is. subst (λ (n : ℕ). sequence_of (drafting d triple timer) n ≡ sequence_of timer n) (sym is)
      (let before = is_odd (stage_of d timer.drafts) unsealed in
      let now : odd (stage_of d (with_stage d (Drafted triple) timer.drafts)) ≡ 1 = ap odd (stage_here d (Drafted triple) timer.drafts) in omega arith))
      (λ n. let same : odd (stage_of e (with_stage d (Drafted triple) timer.drafts)) ≡ odd (stage_of e timer.drafts)
      = ap odd (stage_there d e (Drafted triple) timer.drafts n) in omega arith))

  pub sequence_published : (triple : Limits) → is_sealed (stage_of d timer.drafts) ≡ false
      → ◌≡◌ {A = ℕ → ℕ} (sequence_of (publishing d triple timer)) (put (sequence_of timer) d (suc (sequence_of timer d)))
  unfolding odd
  sequence_published triple unsealed =
      let new : DomainLimits = record { domain = d; version = suc (version_of d timer.published); limits = triple } in
      fun_ext (put_each (sequence_of timer) d (suc (sequence_of timer d)) (λ e y. sequence_of (publishing d triple timer) e ≡ y)
      (let before = is_odd (stage_of d timer.drafts) unsealed in
      let more = version_here new timer.published in
      let now : odd (stage_of d (with_stage d Sealed timer.drafts)) ≡ 0 = ap odd (stage_here d Sealed timer.drafts) in omega arith)
      (λ e n. let same : odd (stage_of e (with_stage d Sealed timer.drafts)) ≡ odd (stage_of e timer.drafts)
      = ap odd (stage_there d e Sealed timer.drafts n) in
      let no_more = version_there new timer.published e n in omega arith))

  pub standing_unsealed : is_sealed (stage_of d timer.drafts) ≡ true
      → ◌≡◌ {A = ℕ → Limits} (standing_of published (unsealing d timer)) (standing_of published timer)
  standing_unsealed sealed = fun_ext (λ e. dite (ℕ_discrete e d)
      (λ is. subst (λ (n : ℕ). standing_of published (unsealing d timer) n ≡ standing_of published timer n) (sym is)
      (ap (λ (x : Stage). standing x (published d)) (stage_here d Unsealed timer.drafts)
      ∙ sym (standing_sealed (stage_of d timer.drafts) (published d) sealed)))
      (λ n. ap (λ (x : Stage). standing x (published e)) (stage_there d e Unsealed timer.drafts n)))

  pub standing_drafted : (triple : Limits)
      → ◌≡◌ {A = ℕ → Limits} (standing_of published (drafting d triple timer)) (put (standing_of published timer) d triple)
  standing_drafted triple = fun_ext (put_each (standing_of published timer) d triple (λ e y. standing_of published (drafting d triple timer) e ≡ y)
      (ap (λ (x : Stage). standing x (published d)) (stage_here d (Drafted triple) timer.drafts))
      (λ e n. ap (λ (x : Stage). standing x (published e)) (stage_there d e (Drafted triple) timer.drafts n)))

  pub standing_published : (triple : Limits) → stage_of d timer.drafts ≡ Drafted triple
      → ◌≡◌ {A = ℕ → Limits} (standing_of (put published d triple) (publishing d triple timer)) (standing_of published timer)
  standing_published triple in_hand = fun_ext (λ e. put_each published d triple
      (λ e y. standing (stage_of e (with_stage d Sealed timer.drafts)) y ≡ standing_of published timer e)
      (ap (λ (x : Stage). standing x triple) (stage_here d Sealed timer.drafts) ∙ sym (ap (λ (x : Stage). standing x (published d)) in_hand))
      (λ e n. ap (λ (x : Stage). standing x (published e)) (stage_there d e Sealed timer.drafts n)) e)

-- an even sequence is twice the version, and then the published limits stand in the words
pub sealed_at : (stage : Stage) (version : ℕ) → (2 * version + one_if (not (is_sealed stage))) % 2 ≡ 0 → is_sealed stage ≡ true
sealed_at Sealed version even = refl
sealed_at Unsealed version even = absurd (omega (arith, even))
sealed_at (Drafted limits) version even = absurd (omega (arith, even))

pub half_sequence : (stage : Stage) (version : ℕ) → is_sealed stage ≡ true → (2 * version + one_if (not (is_sealed stage))) / 2 ≡ version
unfolding odd
half_sequence stage version sealed = let none = is_even stage sealed in omega arith

-- ---- what was found stood there

-- the sequence doesn't fall, and a new thresh word comes under an odd sequence or a new one
found_moves : (set : Setting) (found : Finding) (q q' u u' : ℕ) → IsAsFound set q u found → q ≤ q'
    → ((n : ℕ) → n ≤ q → n ≡ q' → q' % 2 ≡ 0 → ⊥) → IsAsFound set q' u' found
found_moves set Nothing q q' u u' was less none = tt
found_moves set (Sequence w) q q' u u' was less none = omega (arith, was, less)
found_moves set (Words w t) q q' u u' was less none =
    (omega (arith, was.0, less), λ is even. absurd (none (set.coding.sequence_in w) was.0 is even))

-- a thresh word that is found stands there
pub found_beside : (set : Setting) (found : Finding) (q u : ℕ) → IsAsFound set q u found → IsAsFound set q u (beside u found)
found_beside set Nothing q u was = tt
found_beside set (Sequence w) q u was = (was, λ is even. refl)
found_beside set (Words w t) q u was = (was.0, λ is even. refl)

-- what is found under an even sequence, where the sequence word is as it was
pub whole_found : (set : Setting) (found : Finding) (q u word : ℕ) → IsAsFound set q u found → set.coding.sequence_in word ≡ q
    → is_whole set found word ≡ true → (q % 2 ≡ 0) × (thresh_found found ≡ u)
whole_found set Nothing q u word was its t = absurd (true≢false (sym t))
whole_found set (Sequence w) q u word was its t = absurd (true≢false (sym t))
whole_found set (Words w other) q u word was its t =
    let parts = and_parts (eqb w word) (eqb (set.coding.sequence_in word % 2) 0) t in
    let even : q % 2 ≡ 0 = subst (λ (n : ℕ). n % 2 ≡ 0) its (eqb-true (set.coding.sequence_in word % 2) 0 parts.1) in
    (even, was.1 (ap set.coding.sequence_in (eqb-true w word parts.0) ∙ its) even)

module _ (set : Setting) (sequence : ℕ → ℕ) (stands : ℕ → Limits) (peak : ℕ → ℕ) (published : List DomainLimits) (cpu : ℕ → CpuRecord)
    (old : AreSequences set sequence stands peak published cpu) where
  abbrev Stood : List Loading → Type 0
  Stood loading = (d : ℕ) → IsAsFound set (sequence d) (set.coding.thresh_word (stands d)) (found_of d loading)

  -- the record of one CPU changes
  pub record_keeps : (i : ℕ) (r : CpuRecord) → Stood r.loading → All (λ t. t.version ≤ version_of t.domain published) r.triples
      → NeverBack r.triples → AreSequences set sequence stands peak published (put cpu i r)
  record_keeps i r stood ahead back = record {
    few = old.few;
    numbered = old.numbered;
    standing_lawful = old.standing_lawful;
    standing_under_peak = old.standing_under_peak;
    as_found = put_each cpu i r (λ j y. Stood y.loading) stood (λ j n. old.as_found j);
    none_ahead = put_each cpu i r (λ j y. All (λ t. t.version ≤ version_of t.domain published) y.triples) ahead (λ j n. old.none_ahead j);
    never_back = put_each cpu i r (λ j y. NeverBack y.triples) back (λ j n. old.never_back j);
  }

  -- its loads and loaded limits stay
  pub same_keeps : (i : ℕ) (r : CpuRecord) → r.loading ≡ (cpu i).loading → r.triples ≡ (cpu i).triples
      → AreSequences set sequence stands peak published (put cpu i r)
  same_keeps i r loading triples = record_keeps i r (subst Stood (sym loading) (old.as_found i))
      (subst (λ (l : List DomainLimits). All (λ t. t.version ≤ version_of t.domain published) l) (sym triples) (old.none_ahead i))
      (subst NeverBack (sym triples) (old.never_back i))

  -- what it has found of one domain changes
  pub found_with : (i d : ℕ) (found : Finding) → IsAsFound set (sequence d) (set.coding.thresh_word (stands d)) found
      → Stood (with_found d found (cpu i).loading)
  found_with i d found was e = dite (ℕ_discrete e d)
      (λ is. subst (λ (n : ℕ). IsAsFound set (sequence n) (set.coding.thresh_word (stands n)) (found_of n (with_found d found (cpu i).loading))) (sym is)
      (subst (IsAsFound set (sequence d) (set.coding.thresh_word (stands d))) (sym (found_here d found (cpu i).loading)) was))
      (λ n. subst (IsAsFound set (sequence e) (set.coding.thresh_word (stands e))) (sym (found_there d e found (cpu i).loading n)) (old.as_found i e))

  -- peaks rise
  pub peak_keeps : (peak' : ℕ → ℕ) → ((d : ℕ) → peak d ≤ peak' d) → AreSequences set sequence stands peak' published cpu
  peak_keeps peak' more = record {
    few = old.few;
    numbered = old.numbered;
    standing_lawful = old.standing_lawful;
    standing_under_peak = λ d. omega (arith, old.standing_under_peak d, more d);
    as_found = old.as_found;
    none_ahead = old.none_ahead;
    never_back = old.never_back;
  }

  moved : (i d q u : ℕ) → sequence d ≤ q → ((n : ℕ) → n ≤ sequence d → n ≡ q → q % 2 ≡ 0 → ⊥)
      → IsAsFound set q u (found_of d (cpu i).loading)
  moved i d q u less none = found_moves set (found_of d (cpu i).loading) (sequence d) q (set.coding.thresh_word (stands d)) u (old.as_found i d) less none

  -- the sequence of a domain becomes the next
  next_found : (d i : ℕ) → (e : ℕ) → IsAsFound set (put sequence d (suc (sequence d)) e) (set.coding.thresh_word (stands e)) (found_of e (cpu i).loading)
  next_found d i = put_each sequence d (suc (sequence d)) (λ e q. IsAsFound set q (set.coding.thresh_word (stands e)) (found_of e (cpu i).loading))
      (moved i d (suc (sequence d)) (set.coding.thresh_word (stands d)) (omega arith) (λ n below is even. omega (arith, below, is)))
      (λ e n. old.as_found i e)

  pub unseal_keeps : (d : ℕ) → sequence d < set.last_sequence → AreSequences set (put sequence d (suc (sequence d))) stands peak published cpu
  unseal_keeps d room = record {
    few = put_each sequence d (suc (sequence d)) (λ e q. q ≤ set.last_sequence) (omega (arith, room)) (λ e n. old.few e);
    numbered = old.numbered;
    standing_lawful = old.standing_lawful;
    standing_under_peak = old.standing_under_peak;
    as_found = λ i. next_found d i;
    none_ahead = old.none_ahead;
    never_back = old.never_back;
  }

  -- limits are taken in hand under an odd sequence
  pub thresh_keeps : (d : ℕ) (triple : Limits) → sequence d % 2 ≡ 1 → IsLawful triple → triple.hard ≤ peak d
      → AreSequences set sequence (put stands d triple) peak published cpu
  thresh_keeps d triple odd_one lawful low = record {
    few = old.few;
    numbered = old.numbered;
    standing_lawful = put_each stands d triple (λ e y. IsLawful y) lawful (λ e n. old.standing_lawful e);
    standing_under_peak = put_each stands d triple (λ e y. y.hard ≤ peak e) low (λ e n. old.standing_under_peak e);
    as_found = λ i. put_each stands d triple (λ e y. IsAsFound set (sequence e) (set.coding.thresh_word y) (found_of e (cpu i).loading))
        (moved i d (sequence d) (set.coding.thresh_word triple) (omega arith) (λ n below is even. omega (arith, even, odd_one)))
        (λ e n. old.as_found i e);
    none_ahead = old.none_ahead;
    never_back = old.never_back;
  }

  -- the limits in hand are published, was the next version
  pub publish_keeps : (d : ℕ) (triple : Limits) → suc (sequence d) ≤ set.last_sequence
      → AreSequences set (put sequence d (suc (sequence d))) stands peak
      (record { domain = d; version = suc (version_of d published); limits = triple } ∷ published) cpu
  publish_keeps d triple room = let new : DomainLimits = record { domain = d; version = suc (version_of d published); limits = triple } in record {
    few = put_each sequence d (suc (sequence d)) (λ e q. q ≤ set.last_sequence) room (λ e n. old.few e);
    numbered = (refl, old.numbered);
    standing_lawful = old.standing_lawful;
    standing_under_peak = old.standing_under_peak;
    as_found = λ i. next_found d i;
    none_ahead = λ i. All-weaker (λ (t : DomainLimits). t.version ≤ version_of t.domain published)
        (λ (t : DomainLimits). t.version ≤ version_of t.domain (new ∷ published))
        (λ t less. omega (arith, less, version_grows new published t.domain)) (cpu i).triples (old.none_ahead i);
    never_back = old.never_back;
  }
