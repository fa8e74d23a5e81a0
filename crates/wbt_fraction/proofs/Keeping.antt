-- One step more keeps the rule of a domain.
use Rattle.std.proofs.Common.{◌≡◌, ◌≢◌, ℕ, suc, ◌+◌, ◌^◌, ◌<◌, ◌≤◌, Bool, true, false, cond, eqb, List, [], ◌∷◌, length, ◌⊎◌, get_or, set, sym, refl, ap, ◌∙◌, subst, ⊎_elim, arith, eq-eqb, ne_eqb, length-set}
use mathlib.Core.Logic.{dite}
use mathlib.Core.Option.{some}
use native.Mathlib.Decide.{ℕ_discrete}
use lib.ListN.{get_elem?}
use Rattle.std.proofs.lemmas.List.{get_or-set_same, get_or-set_other}
use Rattle.atomic_table.specs.Table.{State}
use Rattle.atomic_table.proofs.Lists.{at_set}
use Rattle.wbt_fraction.specs.declared.domain.note.Note.{Note}
use Rattle.wbt_fraction.specs.declared.domain.note.Note.TheVariants.{Found, Added, Period}
use Rattle.wbt_fraction.specs.declared.domain.note.Made.{Made}
use Rattle.wbt_fraction.specs.declared.domain.note.Trail.{Trail}
use Rattle.wbt_fraction.specs.declared.domain.rule.View.{View}
use Rattle.wbt_fraction.specs.declared.domain.rule.Layout.{Layout}
use Rattle.wbt_fraction.specs.Sums.{total}
use Rattle.wbt_fraction.specs.Words.{events_of}
use Rattle.wbt_fraction.specs.Numbers.{start_of}
use Rattle.wbt_fraction.specs.Notes.{at_of, found_of, periods, added_at, added_domain, added_part, Shows, MayStand, IsHistory, NoneAfter, IsPast, IsReached, IsComplete}
use Rattle.wbt_fraction.specs.History.{notes_of, word_at, left_by, IsAged, AreInOrder, AreAmong, made_after, went_on, Makes, IsWhole}
use Rattle.wbt_fraction.specs.Rule.{Kept}
use Rattle.wbt_fraction.proofs.Sums.{total_set, total_same, total_as, total_map, one_of_all, sum_of_two, all_noted}
use Rattle.wbt_fraction.proofs.Histories.{late, none_late, none_after, events_at_most, fails, past, past_is, all_past, reached_good}

pub each_word : (P : ℕ → ℕ → Type 0) (ws : List ℕ) (i x most : ℕ) → i < length ws → P i x
    → ((a : ℕ) → a ≤ most → a ≢ i → P a (get_or ws a 0)) → (a : ℕ) → a ≤ most → P a (get_or (set ws i x) a 0)
each_word P ws i x most less here others a h = dite (ℕ_discrete a i)
    (λ e. subst (λ b. P b (get_or (set ws i x) b 0)) (sym e) (subst (P i) (sym (get_or-set_same ws i x 0 less)) here))
    (λ ne. subst (P a) (sym (get_or-set_other ws i a x 0 ne)) (others a h ne))

pub notes_weigh : (h : Note → ℕ) (steps : List Made) → total h (notes_of steps) ≡ total (λ (m : Made). h m.note) steps
notes_weigh h steps = total_map (λ (m : Made). m.note) h steps

pub one_left : (steps : List Made) (m : Made) (ws : List ℕ) (most : ℕ) → at_of m.note < length ws
    → ((a : ℕ) → a ≤ most → get_or ws a 0 ≡ word_at a steps) → (a : ℕ) → a ≤ most → get_or (set ws (at_of m.note) m.left) a 0 ≡ word_at a (m ∷ steps)
unfolding word_at
one_left steps m ws most less stand = each_word (λ a w. w ≡ cond (eqb (at_of m.note) a) m.left (word_at a steps)) ws (at_of m.note) m.left most less
    (sym (ap (λ b. cond b m.left (word_at (at_of m.note) steps)) (eq-eqb (at_of m.note) (at_of m.note) refl)))
    (λ a low ne. stand a low ∙ sym (ap (λ b. cond b m.left (word_at a steps)) (ne_eqb (at_of m.note) a (λ e. ne (sym e)))))

module _ (key : Layout) (s : State (Unit {0}) View) (k : Kept key s) where
  pub notes_noted : (h : Note → ℕ) → total (λ u. total h (notes_of u.trail.own)) s.views ≡ total h (notes_of k.history)
  notes_noted h = total_as (λ (u : View). total h (notes_of u.trail.own)) (λ u. total (λ (m : Made). h m.note) u.trail.own) s.views (λ u. notes_weigh h u.trail.own)
      ∙ k.noted (λ (m : Made). h m.note) ∙ sym (notes_weigh h k.history)

module _ (key : Layout) (s : State (Unit {0}) View) (k : Kept key s) (id : ℕ) (v : View) (at : get_elem? s.views id ≡ some v) where
  pub among : AreAmong v.trail.own k.history
  among weight =
      let one = one_of_all (λ (u : View). total weight u.trail.own) s.views id v at in
      let all = k.noted weight in
      omega arith

  pub weighs_less : (h : Note → ℕ) → total h (notes_of v.trail.own) ≤ total h (notes_of k.history)
  weighs_less h =
      let one = one_of_all (λ (u : View). total h (notes_of u.trail.own)) s.views id v at in
      let all = notes_noted key s k h in
      omega arith

  pub none_newer : (period : ℕ) → periods (notes_of k.history) ≤ period → NoneAfter period (notes_of v.trail.own)
  none_newer period h =
      let none = none_late (notes_of k.history) period k.lawful h in
      let less = weighs_less (late period) in
      none_after (notes_of v.trail.own) period (omega arith)

  pub was_past : (period : ℕ) → IsReached period (notes_of v.trail.own) → IsPast period (notes_of k.history)
  was_past period reached =
      let all = all_past (notes_of k.history) k.lawful in
      let less = weighs_less (fails (past (notes_of k.history))) in
      past_is (notes_of k.history) period (reached_good (past (notes_of k.history)) (notes_of v.trail.own) period (omega arith) reached)

  all_own : v.stakes ≡ 2 ^ 32 → (weight : Made → ℕ) → total weight v.trail.own ≡ total weight k.history
  all_own all weight = sym (all_noted (λ (u : View). u.stakes) (λ u. u.trail.own) weight s.views id v k.idle at (k.stakes ∙ sym all)) ∙ k.noted weight

  pub complete : v.stakes ≡ 2 ^ 32 → IsComplete (notes_of v.trail.own) × IsWhole v.trail
  complete all = (
    record {
      history = notes_of k.history;
      same = λ h. notes_weigh h v.trail.own ∙ all_own all (λ (m : Made). h m.note) ∙ sym (notes_weigh h k.history);
      lawful = k.lawful;
    },
    record { history = k.history; same = all_own all; in_order = k.in_order; since = k.ends id v at },
  )

  pub makes : (note : Note) (left : ℕ) → at_of note ≤ key.parts → found_of note ≡ get_or s.words (at_of note) 0
      → (left ≡ left_by note) ⊎ IsAged note left k.history → Makes note left v.trail (went_on k.history note left v.trail)
  unfolding AreInOrder total
  makes note left low found leaves =
      let is = found ∙ k.stand (at_of note) low in record {
        past = k.history;
        since = k.ends id v at;
        found = is;
        is = refl;
        in_order = (refl, is, leaves, k.in_order);
        own = λ weight. let a = among weight in omega arith;
      }

  pub note_kept : (note : Note) (left : ℕ) (v' : View) → v'.trail ≡ went_on k.history note left v.trail → v'.stakes ≡ v.stakes → 1 ≤ v.stakes
      → v'.domain_room + added_domain note ≡ v.domain_room → v'.part_room + added_part note ≡ v.part_room
      → at_of note ≤ key.parts → found_of note ≡ get_or s.words (at_of note) 0 → (left ≡ left_by note) ⊎ IsAged note left k.history
      → MayStand note → Shows (note ∷ notes_of k.history) (at_of note) left
      → ((a : ℕ) → a ≤ key.parts → a ≢ at_of note → Shows (note ∷ notes_of k.history) a (get_or s.words a 0))
      → Kept key record { words = set s.words (at_of note) left; homes = s.homes; views = set s.views id v' }
  unfolding total IsHistory AreInOrder
  note_kept note left v' trail stakes some_stake domain_room part_room low found leaves may here others =
      let m : Made = made_after k.history note left in
      let long = k.long in
      let more : (h : Made → ℕ) → total h v'.trail.own ≡ h m + total h v.trail.own = λ h. ap (λ (t : Trail). total h t.own) trail in
      let more_notes : (h : Note → ℕ) → total h (notes_of v'.trail.own) ≡ h note + total h (notes_of v.trail.own) = λ h. ap (λ (t : Trail). total h (notes_of t.own)) trail in
      let known : v'.trail.known ≡ m ∷ k.history = ap (λ (t : Trail). t.known) trail in
      let is = found ∙ k.stand (at_of note) low in record {
        history = m ∷ k.history;
        noted = λ h.
            let t = total_set (λ (u : View). total h u.trail.own) s.views id v v' at in
            let all = k.noted h in
            let n = more h in
            omega arith;
        in_order = (refl, is, leaves, k.in_order);
        stand = one_left k.history m s.words key.parts (omega arith) k.stand;
        ends = λ j u atu. ⊎_elim
            (λ t. ([], sym (ap (λ (x : View). x.trail.known) (sym t.1) ∙ known)))
            (λ t. let e = k.ends j u t.1 in (m ∷ e.0, ap (λ (l : List Made). m ∷ l) e.1))
            (at_set s.views id j v' u atu);
        lawful = (subst (Shows (notes_of k.history) (at_of note)) (sym found) (k.words (at_of note) low), may, k.lawful);
        words = each_word (λ a w. Shows (note ∷ notes_of k.history) a w) s.words (at_of note) left key.parts (omega arith) here others;
        stakes = total_same (λ u. u.stakes) s.views id v v' at stakes ∙ k.stakes;
        idle = λ j u atu none. ⊎_elim
            (λ t. absurd (let same : v'.stakes ≡ u.stakes = ap (λ (x : View). x.stakes) t.1 in omega arith))
            (λ t. k.idle j u t.1 none)
            (at_set s.views id j v' u atu);
        domain_room =
            let n = more_notes added_domain in
            total_same (λ u. u.domain_room + total added_domain (notes_of u.trail.own)) s.views id v v' at (omega arith) ∙ k.domain_room;
        part_room =
            let n = more_notes added_part in
            total_same (λ u. u.part_room + total added_part (notes_of u.trail.own)) s.views id v v' at (omega arith) ∙ k.part_room;
        long = length-set s.words (at_of note) left ∙ k.long;
      }

at_most_all : (b : Bool) (n : ℕ) → cond b n 0 ≤ n
at_most_all true n = omega arith
at_most_all false n = omega arith

one_part : (a part n : ℕ) → cond (eqb a (suc part)) n 0 ≤ cond (eqb a 0) 0 n
one_part a part n = dite (ℕ_discrete a 0)
    (λ e. subst (λ b. cond b n 0 ≤ cond (eqb a 0) 0 n) (sym (ne_eqb a (suc part) (λ z. omega arith))) (omega arith))
    (λ ne. subst (λ b. cond (eqb a (suc part)) n 0 ≤ cond b 0 n) (sym (ne_eqb a 0 ne)) (at_most_all (eqb a (suc part)) n))

part_less : (part : ℕ) (note : Note) → added_at (suc part) note ≤ added_part note
part_less part (Found a word) = omega arith
part_less part (Added a word n) = one_part a part n
part_less part (Period word k) = omega arith

parts_less : (part : ℕ) (history : List Note) → total (added_at (suc part)) history ≤ total added_part history
unfolding total
parts_less part [] = omega arith
parts_less part (note ∷ older) =
    let here = part_less part note in
    let rest = parts_less part older in
    omega arith

module _ (key : Layout) (s : State (Unit {0}) View) (k : Kept key s) (id : ℕ) (v : View) (at : get_elem? s.views id ≡ some v) where
  pub domain_fits : (n : ℕ) → n ≤ v.domain_room → 0 ≤ key.parts → events_of (get_or s.words 0 0) + n < 2 ^ 40
  unfolding start_of
  domain_fits n room h =
      let most = events_at_most (notes_of k.history) 0 (get_or s.words 0 0) (k.words 0 h) in
      let all = k.domain_room in
      let split = sum_of_two (λ u. u.domain_room) (λ u. total added_domain (notes_of u.trail.own)) s.views in
      let sum = notes_noted key s k added_domain in
      let one = one_of_all (λ u. u.domain_room) s.views id v at in
      omega arith

  pub part_fits : (part n : ℕ) → n ≤ v.part_room → suc part ≤ key.parts → events_of (get_or s.words (suc part) 0) + n < 2 ^ 40
  unfolding start_of
  part_fits part n room h =
      let most = events_at_most (notes_of k.history) (suc part) (get_or s.words (suc part) 0) (k.words (suc part) h) in
      let all = k.part_room in
      let split = sum_of_two (λ u. u.part_room) (λ u. total added_part (notes_of u.trail.own)) s.views in
      let sum = notes_noted key s k added_part in
      let one = one_of_all (λ u. u.part_room) s.views id v at in
      let less = parts_less part (notes_of k.history) in
      omega arith
