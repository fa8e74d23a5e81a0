-- The history that the views tell: after an operation, a split and a join.
use Rattle.std.proofs.Common.{◌≡◌, ◌≢◌, ⊎_elim, ℕ, zero, suc, ◌+◌, ◌<◌, ◌≤◌, List, [], ◌∷◌, ◌++◌, length, set, sym, refl, ap, ◌∙◌, subst, arith, length-set, length-append}
use mathlib.Core.Option.{some, some-injective, some-ne-none}
use lib.ListN.{get_elem?}
use Rattle.atomic_table.proofs.Lists.{at_set, set_else}
use Rattle.wbt_signals.specs.declared.rule.Act.{Act}
use Rattle.wbt_signals.specs.declared.rule.Note.{Note}
use Rattle.wbt_signals.specs.declared.rule.View.{View}
use Rattle.wbt_signals.specs.History.{Answers, AreOwned, IsHistory, IsNoted, IsPart, Owned, history_of, leaves, many, merged, notes_of, rings, stops}
use Rattle.wbt_signals.specs.Signals.{HasHistory, all_rings, all_there, all_writes, first_view, joined, left_view, right_view, spent, total}
use Rattle.wbt_signals.proofs.Histories.{at_end, handed, handed_else, handed_here, handed_history, handed_owned, handed_spent, is_part, is_there, mine, none_yet, not_mine, owned_more}
use Rattle.wbt_signals.proofs.Sums.{total_one, total_set}

first_has_none : (workers id : ℕ) (view : View) → get_elem? (first_view workers ∷ []) id ≡ some view → view.notes ≡ []
first_has_none workers zero view at = sym (ap (λ (v : View). v.notes) (some-injective (first_view workers) view at))
first_has_none workers (suc id) view at = absurd (some-ne-none view (sym at))

pub nothing_told : (workers : ℕ) → HasHistory workers (first_view workers ∷ [])
unfolding total many
nothing_told workers = record {
  past = [];
  lawful = tt;
  rings = refl;
  stops = omega arith;
  leaves = omega arith;
  owned = tt;
  theirs = first_has_none workers;
}

-- ---- an operation

-- a voice becomes this one by an operation
pub record Does (act : Act) (notes : List Note) (me w : View) : Type 0 where
  pub rings : w.rings ≡ me.rings + rings act
  pub stops : w.writes + stops act ≡ me.writes
  pub leaves : w.there + leaves act ≡ me.there
  pub noted : w.notes ≡ notes

module _ (workers : ℕ) (views : List View) (id : ℕ) (me : View) (act : Act) (h : HasHistory workers views) (at : get_elem? views id ≡ some me)
    (answers : Answers workers (history_of h.past) act) where
  abbrev pub its_note : Note
  its_note = record { place = length (history_of h.past); act = act }

  pub its_notes : List Note
  its_notes = its_note ∷ me.notes

  pub noted : IsNoted workers act me.notes its_notes
  unfolding its_notes
  noted = record {
    past = history_of h.past;
    lawful = h.lawful;
    had = subst (λ (l : List Note). IsPart l (history_of h.past)) (sym (h.theirs id me at)) (is_part id h.past);
    answers = answers;
    noted = refl;
  }

  abbrev its : Owned
  its = record { owner = id; note = its_note }

  theirs_then : (w : View) → w.notes ≡ its_notes → (j : ℕ) (view : View) → get_elem? (set views id w) j ≡ some view → view.notes ≡ notes_of j (its ∷ h.past)
  unfolding its_notes
  theirs_then w is j view there = ⊎_elim
      (λ (here : (j ≡ id) × (w ≡ view)).
      sym (ap (λ (v : View). v.notes) here.1) ∙ is ∙ ap (λ (l : List Note). its_note ∷ l) (h.theirs id me at ∙ ap (λ (k : ℕ). notes_of k h.past) (sym here.0))
      ∙ sym (mine j its h.past (sym here.0)))
      (λ (else_ : (j ≢ id) × (get_elem? views j ≡ some view)). h.theirs j view else_.1 ∙ sym (not_mine j its h.past (λ e. else_.0 (sym e))))
      (at_set views id j w view there)

  pub told : (w : View) → Does act its_notes me w → HasHistory workers (set views id w)
  unfolding many
  told w does =
      let by_rings = total_set (λ v. v.rings) views id me w at in
      let by_writes = total_set (λ v. v.writes) views id me w at in
      let by_there = total_set (λ v. v.there) views id me w at in
      let rang = does.rings in let was_rings = h.rings in
      let stopped = does.stops in let was_stops = h.stops in
      let left = does.leaves in let was_leaves = h.leaves in
      record {
        past = its ∷ h.past;
        lawful = (refl, answers, h.lawful);
        rings = omega (arith, by_rings, rang, was_rings);
        stops = omega (arith, by_writes, stopped, was_stops);
        leaves = omega (arith, by_there, left, was_leaves);
        owned = (
          subst (λ (n : ℕ). id < n) (sym (length-set views id w)) (is_there views id me at),
          owned_more (length views) (length (set views id w)) h.past (let e = length-set views id w in omega (arith, e)) h.owned,
        );
        theirs = theirs_then w does.noted;
      }

-- ---- a split

pub told_parts : (workers : ℕ) (views : List View) (id : ℕ) (v : View) → HasHistory workers views → get_elem? views id ≡ some v → 1 ≤ v.writes → 1 ≤ v.there
    → HasHistory workers (set views id (left_view v) ++ right_view v ∷ [])
told_parts workers views id v h at some_write some_there =
    let mid = set views id (left_view v) in
    let long : length mid ≡ length views = length-set views id (left_view v) in
    let rings_one = total_set (λ u. u.rings) views id v (left_view v) at in
    let rings_two = total_one (λ u. u.rings) mid (right_view v) in
    let writes_one = total_set (λ u. u.writes) views id v (left_view v) at in
    let writes_two = total_one (λ u. u.writes) mid (right_view v) in
    let there_one = total_set (λ u. u.there) views id v (left_view v) at in
    let there_two = total_one (λ u. u.there) mid (right_view v) in
    let was_rings = h.rings in let was_stops = h.stops in let was_leaves = h.leaves in
    record {
      past = h.past;
      lawful = h.lawful;
      rings = omega (arith, rings_one, rings_two, was_rings);
      stops = omega (arith, writes_one, writes_two, was_stops, some_write);
      leaves = omega (arith, there_one, there_two, was_leaves, some_there);
      owned = owned_more (length views) (length (mid ++ right_view v ∷ [])) h.past (let more = length-append mid (right_view v ∷ []) in omega (arith, more, long)) h.owned;
      theirs = λ j view there. ⊎_elim
          (λ (in_mid : get_elem? mid j ≡ some view). ⊎_elim
          (λ (here : (j ≡ id) × (left_view v ≡ view)).
          sym (ap (λ (u : View). u.notes) here.1) ∙ h.theirs id v at ∙ ap (λ (k : ℕ). notes_of k h.past) (sym here.0))
          (λ (else_ : (j ≢ id) × (get_elem? views j ≡ some view)). h.theirs j view else_.1)
          (at_set views id j (left_view v) view in_mid))
          (λ (last : (j ≡ length mid) × (right_view v ≡ view)).
          sym (ap (λ (u : View). u.notes) last.1) ∙ sym (none_yet (length views) j h.past (let e = last.0 in omega (arith, e, long)) h.owned))
          (at_end mid (right_view v) view j there);
    }

-- ---- a join

module _ (workers : ℕ) (views : List View) (id : ℕ) (v : View) (other : ℕ) (w : View) (h : HasHistory workers views) (at : get_elem? views id ≡ some v)
    (apart : other ≢ id) (there : get_elem? (set views id (joined v w)) other ≡ some w) where
  abbrev mid : List View
  mid = set views id (joined v w)

  abbrev after : List Owned
  after = handed other id h.past

  was_there : get_elem? views other ≡ some w
  was_there = sym (set_else views id other (joined v w) apart) ∙ there

  both : merged v.notes w.notes ≡ notes_of id after
  both = ap (λ (l : List Note). merged l w.notes) (h.theirs id v at) ∙ ap (λ (l : List Note). merged (notes_of id h.past) l) (h.theirs other w was_there)
      ∙ handed_here other id apart workers h.past h.lawful

  theirs_joined : (j : ℕ) (view : View) → get_elem? (set mid other spent) j ≡ some view → view.notes ≡ notes_of j after
  theirs_joined j view is = ⊎_elim
      (λ (gone : (j ≡ other) × (spent ≡ view)).
      sym (ap (λ (u : View). u.notes) gone.1) ∙ sym (handed_spent other id apart h.past) ∙ ap (λ (k : ℕ). notes_of k after) (sym gone.0))
      (λ (not_other : (j ≢ other) × (get_elem? mid j ≡ some view)). ⊎_elim
      (λ (here : (j ≡ id) × (joined v w ≡ view)).
      sym (ap (λ (u : View). u.notes) here.1) ∙ both ∙ ap (λ (k : ℕ). notes_of k after) (sym here.0))
      (λ (else_ : (j ≢ id) × (get_elem? views j ≡ some view)). h.theirs j view else_.1 ∙ sym (handed_else other id apart j h.past else_.0 not_other.0))
      (at_set views id j (joined v w) view not_other.1))
      (at_set mid other j spent view is)

  pub told_together : HasHistory workers (set mid other spent)
  told_together =
      let rings_one = total_set (λ u. u.rings) views id v (joined v w) at in
      let rings_two = total_set (λ u. u.rings) mid other w spent there in
      let writes_one = total_set (λ u. u.writes) views id v (joined v w) at in
      let writes_two = total_set (λ u. u.writes) mid other w spent there in
      let there_one = total_set (λ u. u.there) views id v (joined v w) at in
      let there_two = total_set (λ u. u.there) mid other w spent there in
      let was_rings = h.rings in let was_stops = h.stops in let was_leaves = h.leaves in
      let same : history_of after ≡ history_of h.past = handed_history other id h.past in
      let long : length (set mid other spent) ≡ length views = length-set mid other spent ∙ length-set views id (joined v w) in
      record {
        past = after;
        lawful = subst (λ (l : List Note). IsHistory workers l) (sym same) h.lawful;
        rings = (let e : all_rings (set mid other spent) ≡ many rings (history_of h.past) = omega (arith, rings_one, rings_two, was_rings) in e ∙ ap (λ (l : List Note). many rings l) (sym same));
        stops = ap (λ (l : List Note). all_writes (set mid other spent) + many stops l) same ∙ omega (arith, writes_one, writes_two, was_stops);
        leaves = ap (λ (l : List Note). all_there (set mid other spent) + many leaves l) same ∙ omega (arith, there_one, there_two, was_leaves);
        owned = subst (λ (n : ℕ). AreOwned n after) (sym long) (handed_owned (length views) other id h.past (is_there views id v at) h.owned);
        theirs = theirs_joined;
      }
