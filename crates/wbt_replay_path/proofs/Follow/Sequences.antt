-- What the loads of limits find: the words of the relation's state are those of the run's, and where they are read whole they are the
-- published limits.
use Rattle.std.proofs.Common.{◌≡◌, ◌≢◌, ℕ, ◌/◌, ◌%◌, ◌<◌, ◌≤◌, length, Bool, true, false, ◌&&◌, eqb, List, [], ◌∷◌, get_or, refl, sym, ◌∙◌, ap, subst, eq-eqb, eqb-true, ne_eqb}
use Rattle.std.proofs.Math.ListN.{set}
use Rattle.std.proofs.lemmas.Bool.{and_parts, cond-true, cond-false}
use Rattle.std.proofs.lemmas.List.{append-nil, get_or-set_same, get_or-set_other}
use mathlib.Core.Logic.{dite}
use native.Mathlib.Decide.{ℕ_discrete}
use Rattle.wbt_replay_order.proofs.Common.{Limits, MAX_LIMIT, Trace, CpuRecord, DomainLimits, Rule, Setting, held_of, stage_of, version_of, sequence_of, domains, CheckEntry, WereHeld, longer_none, and_both, word_of, held_after, State, no_held, domain_of, Domain, Found, Held, Todo, HasTriples, held_as, triples_told, Suits, Looked, Follows, Ranges}
use Rattle.wbt_grant.specs.declared.record.Finding.{Finding}
use Rattle.wbt_grant.specs.declared.record.Finding.TheVariants as finding
use Rattle.wbt_grant.specs.declared.record.Loading.{Loading}
use Rattle.wbt_grant.specs.Kinds.{sequence_now, thresh_now}
use Rattle.wbt_grant.specs.Record.{beside, is_whole as is_read, read_triple, triples_after, with_found}
use Rattle.wbt_grant.specs.SeatLaws.{AreReadWhole}
use Rattle.wbt_grant.specs.State as throttle
use Rattle.wbt_grant.specs.State.{found_of}
use Rattle.wbt_grant.proofs.Reading.{sequence_tells, limits_are_whole}
use Rattle.wbt_grant.proofs.Sequences.{found_here, half_sequence}
use Rattle.wbt_run_laws.specs.Notes.{Longer}
use Rattle.wbt_run_laws.proofs.Holding.{held_more}
use Rattle.wbt_replay_moves.specs.Definition.Counters.{is_whole}
use Rattle.wbt_replay_moves.specs.declared.todo.Step.TheVariants as item
use Rattle.wbt_replay_moves.specs.declared.todo.Todo.TheVariants as todo
use Rattle.wbt_replay_order.specs.Kept.Following.{HasFirst, HasMiddle, IsMiddleNext, IsLastNext}
use Rattle.wbt_replay_order.proofs.Facts.Lists.{either}

-- ---- what comes next

pub first_looked : (set : Setting) (page d : ℕ) (found : Found) (ts : List Todo) (r : CpuRecord) → IsMiddleNext d ts → HasFirst set d found r.loading → Looked set page found ts r
first_looked set page d found [] r next has = absurd next
first_looked set page d found (todo.Step (item.Middle e) ∷ ts) r next has = subst (λ (n : ℕ). HasFirst set n found r.loading) (sym next) has
first_looked set page d found (todo.Step item.Dirty ∷ ts) r next has = absurd next
first_looked set page d found (todo.Step (item.Add x a) ∷ ts) r next has = absurd next
first_looked set page d found (todo.Step (item.Fold x) ∷ ts) r next has = absurd next
first_looked set page d found (todo.Step (item.Clear x) ∷ ts) r next has = absurd next
first_looked set page d found (todo.Step (item.Mark n) ∷ ts) r next has = absurd next
first_looked set page d found (todo.Step (item.First e) ∷ ts) r next has = absurd next
first_looked set page d found (todo.Step (item.Limits e) ∷ ts) r next has = absurd next
first_looked set page d found (todo.Step (item.Count x) ∷ ts) r next has = absurd next
first_looked set page d found (todo.Step item.Unmark ∷ ts) r next has = absurd next
first_looked set page d found (todo.Step item.Look ∷ ts) r next has = absurd next
first_looked set page d found (todo.Step (item.Claim word) ∷ ts) r next has = absurd next
first_looked set page d found (todo.Step item.Complete ∷ ts) r next has = absurd next
first_looked set page d found (todo.Silent move ∷ ts) r next has = absurd next

pub middle_looked : (set : Setting) (page d : ℕ) (found : Found) (ts : List Todo) (r : CpuRecord) → IsLastNext d ts → HasMiddle set d found r.loading → Looked set page found ts r
middle_looked set page d found [] r next has = absurd next
middle_looked set page d found (todo.Step (item.Limits e) ∷ ts) r next has = subst (λ (n : ℕ). HasMiddle set n found r.loading) (sym next) has
middle_looked set page d found (todo.Step item.Dirty ∷ ts) r next has = absurd next
middle_looked set page d found (todo.Step (item.Add x a) ∷ ts) r next has = absurd next
middle_looked set page d found (todo.Step (item.Fold x) ∷ ts) r next has = absurd next
middle_looked set page d found (todo.Step (item.Clear x) ∷ ts) r next has = absurd next
middle_looked set page d found (todo.Step (item.Mark n) ∷ ts) r next has = absurd next
middle_looked set page d found (todo.Step (item.First e) ∷ ts) r next has = absurd next
middle_looked set page d found (todo.Step (item.Middle e) ∷ ts) r next has = absurd next
middle_looked set page d found (todo.Step (item.Count x) ∷ ts) r next has = absurd next
middle_looked set page d found (todo.Step item.Unmark ∷ ts) r next has = absurd next
middle_looked set page d found (todo.Step item.Look ∷ ts) r next has = absurd next
middle_looked set page d found (todo.Step (item.Claim word) ∷ ts) r next has = absurd next
middle_looked set page d found (todo.Step item.Complete ∷ ts) r next has = absurd next
middle_looked set page d found (todo.Silent move ∷ ts) r next has = absurd next

-- ---- tests

same_truth : (a b : Bool) → (a ≡ true → b ≡ true) → (b ≡ true → a ≡ true) → a ≡ b
same_truth true true to from = refl
same_truth true false to from = sym (to refl)
same_truth false true to from = from refl
same_truth false false to from = refl

module _ (trace : Trace) (setting : Setting) (suits : Suits trace setting) (s : State) (t : throttle.State) (ranges : Ranges trace setting s) (h : Follows trace setting s t)
    (d : ℕ) (inside : d < domains trace) where
  abbrev at : Domain
  at = domain_of d s

  low : at.limits.hard ≤ MAX_LIMIT
  low = (ranges.limits d inside).hard_in_range

  tells : sequence_of t.timer d ≡ at.sequence
  tells = ap (λ (k : ℕ × ℕ). k.1) (h.peak d inside)

  abbrev word : ℕ
  word = sequence_now setting d t

  word_is : word ≡ setting.coding.sequence_word at.sequence at.limits.hard
  word_is = ap (λ (q : ℕ). setting.coding.sequence_word q (t.published d).hard) tells
      ∙ ap (λ (l : Limits). setting.coding.sequence_word at.sequence l.hard) (h.published d inside)

  -- the first load
  pub first_found : (loading : List Loading) → HasFirst setting d (word_of at) (with_found d (finding.Sequence word) loading)
  first_found loading = record { first = found_here d (finding.Sequence word) loading ∙ ap (λ (n : ℕ). finding.Sequence n) word_is; hard = low }

  -- the second
  pub middle_found : (found : Found) (loading : List Loading) → HasFirst setting d found loading
      → HasMiddle setting d found (with_found d (beside (thresh_now setting d t) (found_of d loading)) loading)
  middle_found found loading has = record {
    thresh = thresh_now setting d t;
    both = found_here d (beside (thresh_now setting d t) (found_of d loading)) loading ∙ ap (λ (f : Finding). beside (thresh_now setting d t) f) has.first;
    hard = has.hard;
  }

  -- the last
  module _ (rule : Rule setting t) (i : ℕ) (found : Found) (has : HasMiddle setting d found (t.cpu i).loading) where
    abbrev first : ℕ
    first = setting.coding.sequence_word found.sequence found.hard

    same_word : eqb first word ≡ (eqb found.sequence at.sequence && eqb found.hard at.limits.hard)
    same_word = same_truth (eqb first word) (eqb found.sequence at.sequence && eqb found.hard at.limits.hard)
        (λ is.
        let same : first ≡ setting.coding.sequence_word at.sequence at.limits.hard = eqb-true first word is ∙ word_is in
        and_both (eqb found.sequence at.sequence) (eqb found.hard at.limits.hard)
        (eq-eqb found.sequence at.sequence
        (sym (suits.setting_is.sequences_hold found.sequence found.hard has.hard) ∙ (ap setting.coding.sequence_in same ∙ suits.setting_is.sequences_hold at.sequence at.limits.hard low)))
        (eq-eqb found.hard at.limits.hard (suits.hard_once found.sequence found.hard at.sequence at.limits.hard has.hard low same)))
        (λ are.
        let parts = and_parts (eqb found.sequence at.sequence) (eqb found.hard at.limits.hard) are in
        eq-eqb first word
        (ap (λ (q : ℕ). setting.coding.sequence_word q found.hard) (eqb-true found.sequence at.sequence parts.0)
        ∙ (ap (λ (q : ℕ). setting.coding.sequence_word at.sequence q) (eqb-true found.hard at.limits.hard parts.1) ∙ sym word_is)))

    whole_is : is_read setting (found_of d (t.cpu i).loading) word ≡ is_whole found at
    whole_is =
        ap (λ (f : Finding). is_read setting f word) has.both
        ∙ (ap (λ (b : Bool). b && eqb (setting.coding.sequence_in word % 2) 0) same_word
        ∙ ap (λ (q : ℕ). (eqb found.sequence at.sequence && eqb found.hard at.limits.hard) && eqb (q % 2) 0) (sequence_tells setting t suits.setting_is rule d ∙ tells))

    abbrev now : List DomainLimits
    now = triples_after setting d word (t.cpu i)

    abbrev read : DomainLimits
    read = read_triple setting d (found_of d (t.cpu i).loading) word

    not_read : is_whole found at ≡ false → now ≡ (t.cpu i).triples
    not_read is = cond-false (is_read setting (found_of d (t.cpu i).loading) word) (read ∷ (t.cpu i).triples) (t.cpu i).triples (whole_is ∙ is)

    was_read : is_whole found at ≡ true → now ≡ read ∷ (t.cpu i).triples
    was_read is = cond-true (is_read setting (found_of d (t.cpu i).loading) word) (read ∷ (t.cpu i).triples) (t.cpu i).triples (whole_is ∙ is)

    -- limits that were read whole
    read_is : is_whole found at ≡ true → read ≡ held_as d (record { version = at.sequence / 2; limits = at.limits })
    read_is is =
        let whole : AreReadWhole setting d t (t.cpu i) = limits_are_whole setting t suits.setting_is rule i d (whole_is ∙ is) in
        let half = half_sequence (stage_of d t.timer.drafts) (version_of d t.timer.published) whole.sealed in
        whole.published
        ∙ (ap (λ (v : ℕ). record { domain = d; version = v; limits = t.published d }) (sym half ∙ ap (λ (q : ℕ). q / 2) tells)
        ∙ ap (λ (l : Limits). record { domain = d; version = at.sequence / 2; limits = l }) (h.published d inside))

    -- what the CPU holds afterwards
    pub held_now : (old : Held) → held_of setting d (t.cpu i).triples ≡ held_as d old → held_of setting d now ≡ held_as d (held_after found at old)
    held_now old was = either (λ (x : Held). held_of setting d now ≡ held_as d x) (is_whole found at) (record { version = at.sequence / 2; limits = at.limits }) old
        (λ yes. ap (held_of setting d) (was_read yes) ∙ (cond-true (eqb d d) read (held_of setting d (t.cpu i).triples) (eq-eqb d d refl) ∙ read_is yes))
        (λ no. ap (held_of setting d) (not_read no) ∙ was)

    by_reading : (P : List DomainLimits → Type 0) → P (read ∷ (t.cpu i).triples) → P (t.cpu i).triples → P now
    by_reading P read_now as_before = either P (is_read setting (found_of d (t.cpu i).loading) word) (read ∷ (t.cpu i).triples) (t.cpu i).triples (λ is. read_now) (λ is. as_before)

    pub held_apart : (e : ℕ) → e ≢ d → held_of setting e now ≡ held_of setting e (t.cpu i).triples
    held_apart e apart = by_reading (λ (l : List DomainLimits). held_of setting e l ≡ held_of setting e (t.cpu i).triples)
        (cond-false (eqb e d) read (held_of setting e (t.cpu i).triples) (ne_eqb e d apart)) refl

    longer_now : Longer (t.cpu i).triples now
    longer_now = by_reading (λ (l : List DomainLimits). Longer (t.cpu i).triples l) (record { more = read ∷ []; longer = refl }) (longer_none (t.cpu i).triples)

    pub triples_now : (checks : List CheckEntry) (held : List Held) → d < length held → HasTriples trace setting checks held (t.cpu i).triples
        → HasTriples trace setting checks (set held d (held_after found at (get_or held d no_held))) now
    triples_now checks held there was = record {
      told = subst (λ (l : List DomainLimits). WereHeld setting.firsts l [] now) (append-nil (triples_told checks))
          (held_more setting.firsts (triples_told checks) [] [] (t.cpu i).triples now was.told longer_now);
      held_is = λ e known. dite (ℕ_discrete e d)
          (λ is. subst (λ (n : ℕ). held_of setting n now ≡ held_as n (get_or (set held d x) n no_held)) (sym is)
          (held_now (get_or held d no_held) (was.held_is d inside) ∙ ap (held_as d) (sym (get_or-set_same held d x no_held there))))
          (λ n. held_apart e n ∙ (was.held_is e known ∙ ap (held_as e) (sym (get_or-set_other held d e x no_held n))));
    }
      where
        x : Held
        x = held_after found at (get_or held d no_held)
