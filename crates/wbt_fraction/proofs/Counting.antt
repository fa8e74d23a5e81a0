-- The totals: each kind of step, the first words, a split and a join keep their rule.
use Rattle.std.proofs.Common.{◌≡◌, ◌≢◌, ℕ, zero, suc, ◌+◌, ◌-◌, ◌%◌, ◌^◌, ◌<◌, ◌≤◌, ⊎_elim, nat_lt, cond, eqb, List, [], ◌∷◌, ◌++◌, length, get_or, set, map, replicate, sym, refl, ap, ap₂, ◌∙◌, subst, arith, eq-eqb, ne_eqb, length-set}
use mathlib.Core.Logic.{dite}
use mathlib.Core.Option.{some, none}
use mathlib.Core.List.{map-append}
use native.Mathlib.Decide.{ℕ_discrete}
use lib.ListN.{get_elem?}
use Rattle.atomic_table.specs.Table.{State, step, stepped, keeps, Allows, opening, Splits, Joins}
use Rattle.atomic_table.proofs.Lists.{at_set, at_snoc, set_else, set_again}
use Rattle.std.proofs.lemmas.List.{append-nil, set-get_or, length-replicate, get_or-set_same, get_or-set_other}
use Rattle.wbt_fraction.specs.declared.total.note.TotalNote.{TotalNote}
use Rattle.wbt_fraction.specs.declared.total.note.TotalNote.TheVariants.{Saw, Wrote}
use Rattle.wbt_fraction.specs.declared.total.note.Tally.{Tally}
use Rattle.wbt_fraction.specs.declared.total.note.TotalTrail.{TotalTrail}
use Rattle.wbt_fraction.specs.declared.total.rule.TotalView.{TotalView}
use Rattle.wbt_fraction.specs.declared.total.rule.Contexts.{Contexts}
use Rattle.wbt_fraction.specs.Sums.{total}
use Rattle.wbt_fraction.specs.History.{IsEnd}
use Rattle.wbt_fraction.specs.Totals.{at_of, found_of, reach_of, wrote_at, IsHistory, total_notes, AreTallied, tallied, MakesTally, IsEachTally, room_of, lowered, Kept, Sat, HasAllTallies, NoneAbove, Loaded, Counted, Told, first_view, left_view, right_view, sums, joined, spent}
use Rattle.wbt_fraction.proofs.Sums.{total_set, total_same, total_as, total_map, total_append, one_of_all, sum_of_two, all_noted, parted, merged, set_there, only_one}
use Rattle.wbt_fraction.proofs.Fitting.{replicate_at}
use Rattle.wbt_fraction.proofs.Seats.{later_ends}

lowered_here : (at n : ℕ) (rooms : List ℕ) → n ≤ get_or rooms at 0 → get_or (set rooms at (get_or rooms at 0 - n)) at 0 + n ≡ get_or rooms at 0
lowered_here at n [] h = omega arith
lowered_here zero n (r ∷ rooms) h = omega arith
lowered_here (suc at) n (r ∷ rooms) h = lowered_here at n rooms h

counted_here : (at word n : ℕ) → wrote_at at (Wrote at word n) ≡ n
counted_here at word n = ap (λ b. cond b n 0) (eq-eqb at at refl)

counted_else : (at a word n : ℕ) → a ≢ at → wrote_at at (Wrote a word n) ≡ 0
counted_else at a word n ne = ap (λ b. cond b n 0) (ne_eqb a at ne)

above : (at word : ℕ) → TotalNote → ℕ
above at word note = cond (eqb (at_of note) at) (reach_of note - word) 0

above_here : (at word : ℕ) (note : TotalNote) → at_of note ≡ at → above at word note ≡ reach_of note - word
unfolding above
above_here at word note e = ap (λ b. cond b (reach_of note - word) 0) (eq-eqb (at_of note) at e)

above_else : (at word : ℕ) (note : TotalNote) → at_of note ≢ at → above at word note ≡ 0
unfolding above
above_else at word note ne = ap (λ b. cond b (reach_of note - word) 0) (ne_eqb (at_of note) at ne)

reach_is : (note : TotalNote) (older : List TotalNote) → found_of note ≡ total (wrote_at (at_of note)) older → reach_of note ≡ total (wrote_at (at_of note)) (note ∷ older)
unfolding total
reach_is (Saw at word) older h = omega arith
reach_is (Wrote at word n) older h =
    let e = counted_here at word n in
    omega arith

none_above : (at word : ℕ) (history : List TotalNote) → IsHistory history → total (wrote_at at) history ≤ word → total (above at word) history ≡ 0
unfolding total IsHistory
none_above at word [] lawful h = refl
none_above at word (note ∷ older) lawful h =
    let rest = none_above at word older lawful.1 (omega arith) in
    let is = reach_is note older lawful.0 in
    let here : above at word note ≡ 0 = dite (ℕ_discrete (at_of note) at)
    (λ e.
    let low : total (wrote_at (at_of note)) (note ∷ older) ≤ word = subst (λ a. total (wrote_at a) (note ∷ older) ≤ word) (sym e) h in
    let hit = above_here at word note e in
    omega arith)
    (λ ne. above_else at word note ne) in
    omega arith

known : (at word : ℕ) (notes : List TotalNote) → total (above at word) notes ≡ 0 → NoneAbove at word notes
unfolding total NoneAbove
known at word [] h = tt
known at word (note ∷ older) h = ((λ e. let hit = above_here at word note e in omega arith), known at word older (omega arith))

-- a total's word, and the room for it, are among those of the table
pub in_reach : (key : Contexts) (words contexts at : ℕ) → key.contexts ≡ contexts → words ≡ contexts → at < contexts → (at < words) × (at < key.contexts)
in_reach key words contexts at is wide less = (omega arith, omega arith)

notes_weigh : (h : TotalNote → ℕ) (steps : List Tally) → total h (total_notes steps) ≡ total (λ (t : Tally). h t.note) steps
notes_weigh h steps = total_map (λ (t : Tally). t.note) h steps

notes_noted : (key : Contexts) (s : State (Unit {0}) TotalView) (k : Kept key s) (h : TotalNote → ℕ) → total (λ u. total h (total_notes u.trail.own)) s.views ≡ total h (total_notes k.history)
notes_noted key s k h = total_as (λ (u : TotalView). total h (total_notes u.trail.own)) (λ u. total (λ (t : Tally). h t.note) u.trail.own) s.views (λ u. notes_weigh h u.trail.own)
    ∙ k.noted (λ (t : Tally). h t.note) ∙ sym (notes_weigh h k.history)

all_own : (key : Contexts) (s : State (Unit {0}) TotalView) (k : Kept key s) (id : ℕ) (v : TotalView) → get_elem? s.views id ≡ some v → v.stakes ≡ 2 ^ 32
    → (weight : Tally → ℕ) → total weight v.trail.own ≡ total weight k.history
all_own key s k id v at all weight = sym (all_noted (λ (u : TotalView). u.stakes) (λ u. u.trail.own) weight s.views id v k.idle at (k.stakes ∙ sym all)) ∙ k.noted weight

all_notes : (key : Contexts) (s : State (Unit {0}) TotalView) (k : Kept key s) (id : ℕ) (v : TotalView) → get_elem? s.views id ≡ some v → v.stakes ≡ 2 ^ 32
    → (h : TotalNote → ℕ) → total h (total_notes v.trail.own) ≡ total h (total_notes k.history)
all_notes key s k id v at all h = notes_weigh h v.trail.own ∙ all_own key s k id v at all (λ (t : Tally). h t.note) ∙ sym (notes_weigh h k.history)

all_tallies : (key : Contexts) (s : State (Unit {0}) TotalView) (k : Kept key s) (id : ℕ) (v : TotalView) → get_elem? s.views id ≡ some v → v.stakes ≡ 2 ^ 32
    → HasAllTallies (total_notes v.trail.own) × IsEachTally v.trail
all_tallies key s k id v at all = (
  record { history = total_notes k.history; same = all_notes key s k id v at all; lawful = k.lawful },
  record { history = k.history; same = all_own key s k id v at all; in_order = k.in_order; since = k.ends id v at },
)

module _ (key : Contexts) (slots id : ℕ) (me : Sat) (some_stake : 1 ≤ me.0.stakes) where
  noted_one : (s : State (Unit {0}) TotalView) (k : Kept key s) → get_elem? s.views id ≡ some me.0 → (note : TotalNote) (v' : TotalView) (ws : List ℕ)
      → v'.trail ≡ tallied k.history note me.0.trail → v'.stakes ≡ me.0.stakes
      → ((a : ℕ) → room_of a v'.rooms + wrote_at a note ≡ room_of a me.0.rooms)
      → found_of note ≡ total (wrote_at (at_of note)) (total_notes k.history)
      → ((a : ℕ) → a < key.contexts → get_or ws a 0 ≡ wrote_at a note + total (wrote_at a) (total_notes k.history)) → length ws ≡ length s.words
      → Kept key record { words = ws; homes = s.homes; views = set s.views id v' }
  unfolding total IsHistory AreTallied
  noted_one s k at note v' ws trail stakes rooms found words long =
      let t1 : Tally = record { place = length k.history; note = note } in
      let more : (h : Tally → ℕ) → total h v'.trail.own ≡ h t1 + total h me.0.trail.own = λ h. ap (λ (t : TotalTrail). total h t.own) trail in
      let more_notes : (h : TotalNote → ℕ) → total h (total_notes v'.trail.own) ≡ h note + total h (total_notes me.0.trail.own) = λ h. ap (λ (t : TotalTrail). total h (total_notes t.own)) trail in
      let known_is : v'.trail.known ≡ t1 ∷ k.history = ap (λ (t : TotalTrail). t.known) trail in record {
        history = t1 ∷ k.history;
        noted = λ h.
            let t = total_set (λ (u : TotalView). total h u.trail.own) s.views id me.0 v' at in
            let all = k.noted h in
            let m = more h in
            omega arith;
        in_order = (refl, found, k.in_order);
        ends = λ j u atu. ⊎_elim
            (λ t. ([], sym (ap (λ (x : TotalView). x.trail.known) (sym t.1) ∙ known_is)))
            (λ t. let e = k.ends j u t.1 in (t1 ∷ e.0, ap (λ (l : List Tally). t1 ∷ l) e.1))
            (at_set s.views id j v' u atu);
        lawful = (found, k.lawful);
        words = words;
        stakes = total_same (λ u. u.stakes) s.views id me.0 v' at stakes ∙ k.stakes;
        idle = λ j u atu empty. ⊎_elim
            (λ t. absurd (let same : v'.stakes ≡ u.stakes = ap (λ (x : TotalView). x.stakes) t.1 in omega arith))
            (λ t. k.idle j u t.1 empty)
            (at_set s.views id j v' u atu);
        rooms = λ a h.
            let m = more_notes (wrote_at a) in
            let r = rooms a in
            total_same (λ u. room_of a u.rooms + total (wrote_at a) (total_notes u.trail.own)) s.views id me.0 v' at (omega arith) ∙ k.rooms a h;
        long = long ∙ k.long;
      }

  less_than_all : (s : State (Unit {0}) TotalView) (k : Kept key s) → get_elem? s.views id ≡ some me.0 → (h : TotalNote → ℕ) → total h (total_notes me.0.trail.own) ≤ total h (total_notes k.history)
  less_than_all s k at h =
      let one = one_of_all (λ (u : TotalView). total h (total_notes u.trail.own)) s.views id me.0 at in
      let all = notes_noted key s k h in
      omega arith

  makes : (s : State (Unit {0}) TotalView) (k : Kept key s) → get_elem? s.views id ≡ some me.0 → (note : TotalNote) → found_of note ≡ total (wrote_at (at_of note)) (total_notes k.history)
      → MakesTally note me.0.trail (tallied k.history note me.0.trail)
  unfolding AreTallied total
  makes s k at note found = record {
    past = k.history;
    since = k.ends id me.0 at;
    found = found;
    is = refl;
    in_order = (refl, found, k.in_order);
    own = λ weight.
        let one = one_of_all (λ (u : TotalView). total weight u.trail.own) s.views id me.0 at in
        let all = k.noted weight in
        omega arith;
  }

  known_all : (s : State (Unit {0}) TotalView) → get_elem? s.views id ≡ some me.0 → (i x : ℕ) (v' : TotalView) → Kept key (stepped s i x id me.1 v' keeps) → v'.stakes ≡ 2 ^ 32
      → HasAllTallies (total_notes v'.trail.own) × IsEachTally v'.trail
  known_all s at i x v' k all = all_tallies key (stepped s i x id me.1 v' keeps) k id v' (set_there s.views id me.0 v' at) all

  pub loads : (i : ℕ) → i < key.contexts → Allows (Kept key) slots id me i (λ n. n) (Loaded (step slots i 0 0 none) me)
  loads i h s k bare at small =
      let n : ℕ = get_or s.words i 0 in
      let is = k.words i h in
      let long = k.long in
      let v' : TotalView = record { trail = tallied k.history (Saw i n) me.0.trail; stakes = me.0.stakes; rooms = me.0.rooms } in
      let none_known = none_above i n (total_notes k.history) k.lawful (omega arith) in
      let less = less_than_all s k at (above i n) in
      let own = less_than_all s k at (wrote_at i) in
      let all = k.rooms i h in
      let parts = sum_of_two (λ (u : TotalView). room_of i u.rooms) (λ u. total (wrote_at i) (total_notes u.trail.own)) s.views in
      let sum = notes_noted key s k (wrote_at i) in
      let kept : Kept key (stepped s i n id me.1 v' keeps) =
      noted_one s k at (Saw i n) v' (set s.words i n) refl refl (λ a. omega arith) is
      (λ a less. dite (ℕ_discrete a i)
      (λ e. subst (λ x. get_or (set s.words i n) x 0 ≡ 0 + total (wrote_at x) (total_notes k.history)) (sym e) (let g = get_or-set_same s.words i n 0 (omega arith) in omega arith))
      (λ ne. let g = get_or-set_other s.words i a n 0 ne in let w = k.words a less in omega arith))
      (length-set s.words i n) in (
        v',
        keeps,
        tt,
        kept,
        (makes s k at (Saw i n) is, refl, known i n (total_notes me.0.trail.own) (omega arith), omega arith, (λ all. is ∙ sym (all_notes key s k id me.0 at all (wrote_at i))), omega arith, known_all s at i n v' kept),
      )

  pub counts : (i n : ℕ) → i < key.contexts → n ≤ room_of i me.0.rooms → Allows (Kept key) slots id me i (λ w. (w + n) % 2 ^ 64) (Counted (step slots i n 0 none) me)
  counts i n h room s k bare at small =
      let w : ℕ = get_or s.words i 0 in
      let is = k.words i h in
      let long = k.long in
      let v' : TotalView = record { trail = tallied k.history (Wrote i w n) me.0.trail; stakes = me.0.stakes; rooms = lowered i n me.0.rooms } in
      let all = k.rooms i h in
      let parts = sum_of_two (λ (u : TotalView). room_of i u.rooms) (λ u. total (wrote_at i) (total_notes u.trail.own)) s.views in
      let one = one_of_all (λ u. room_of i u.rooms) s.views id me.0 at in
      let sum = notes_noted key s k (wrote_at i) in
      let fits : (w + n) % 2 ^ 64 ≡ w + n = omega arith in
      let kept : Kept key (stepped s i ((w + n) % 2 ^ 64) id me.1 v' keeps) =
      subst (λ x. Kept key (stepped s i x id me.1 v' keeps)) (sym fits)
      (noted_one s k at (Wrote i w n) v' (set s.words i (w + n)) refl refl
      (λ a. dite (ℕ_discrete a i)
      (λ e. subst (λ x. room_of x (lowered i n me.0.rooms) + wrote_at x (Wrote i w n) ≡ room_of x me.0.rooms) (sym e)
      (let c = counted_here i w n in let l = lowered_here i n me.0.rooms room in omega arith))
      (λ ne. let c = counted_else a i w n (λ e. ne (sym e)) in let g = get_or-set_other me.0.rooms i a (room_of i me.0.rooms - n) 0 ne in omega arith))
      is
      (λ a less. dite (ℕ_discrete a i)
      (λ e. subst (λ x. get_or (set s.words i (w + n)) x 0 ≡ wrote_at x (Wrote i w n) + total (wrote_at x) (total_notes k.history)) (sym e)
      (let g = get_or-set_same s.words i (w + n) 0 (omega arith) in let c = counted_here i w n in omega arith))
      (λ ne. let g = get_or-set_other s.words i a (w + n) 0 ne in let c = counted_else a i w n (λ e. ne (sym e)) in let o = k.words a less in omega arith))
      (length-set s.words i (w + n))) in (
        v',
        keeps,
        tt,
        kept,
        (makes s k at (Wrote i w n) is, refl, known_all s at i ((w + n) % 2 ^ 64) v' kept),
      )

pub opened : (key : Contexts) → Kept key (opening (replicate key.contexts 0) [] (first_view key))
unfolding total IsHistory AreTallied
opened key = record {
  history = [];
  noted = λ h. refl;
  in_order = tt;
  ends = λ j v at. ([], ap (λ (u : TotalView). u.trail.known) (only_one (first_view key) j v at));
  lawful = tt;
  words = λ at h. replicate_at key.contexts at 0 h;
  stakes = refl;
  idle = λ j v at empty. ap (λ (u : TotalView). u.trail.own) (sym (only_one (first_view key) j v at));
  rooms = λ at h. let f = replicate_at key.contexts at (2 ^ 39) h in omega arith;
  long = length-replicate key.contexts 0;
}

moved : (rooms : List ℕ) (at : ℕ) → 2 ^ 33 ≤ get_or rooms at 0 → get_or (map (λ (r : ℕ). r - 2 ^ 33) rooms) at 0 + get_or (map (λ (r : ℕ). 2 ^ 33) rooms) at 0 ≡ get_or rooms at 0
moved [] at h = absurd (omega arith)
moved (r ∷ rooms) zero h = omega arith
moved (r ∷ rooms) (suc at) h = moved rooms at h

pub summed : (xs ys : List ℕ) (at : ℕ) → get_or (sums xs ys) at 0 ≡ get_or xs at 0 + get_or ys at 0
summed [] ys at = omega arith
summed (x ∷ xs) [] at = omega arith
summed (x ∷ xs) (y ∷ ys) zero = refl
summed (x ∷ xs) (y ∷ ys) (suc at) = summed xs ys at

module _ (key : Contexts) (id : ℕ) (v : TotalView) where
  pub splits : 2 ≤ v.stakes → ((i : ℕ) → i < key.contexts → 2 ^ 33 ≤ room_of i v.rooms) → Splits (Kept key) id v (left_view v) (right_view v)
  unfolding total
  splits stakes room s k at =
      let left : TotalView = left_view v in
      let right : TotalView = right_view v in
      let split : (f : TotalView → ℕ) → total f (set s.views id left ++ right ∷ []) + f v ≡ total f s.views + f left + f right = λ f. parted f s.views id v left right at in record {
        history = k.history;
        noted = λ h. let t = split (λ u. total h u.trail.own) in let all = k.noted h in omega arith;
        in_order = k.in_order;
        ends = λ j u atu. ⊎_elim
            (λ old. ⊎_elim
            (λ t. subst (λ (x : TotalView). IsEnd x.trail.known k.history) t.1 (k.ends id v at))
            (λ t. k.ends j u t.1)
            (at_set s.views id j left u old))
            (λ new. subst (λ (x : TotalView). IsEnd x.trail.known k.history) new (k.ends id v at))
            (at_snoc (set s.views id left) right u j atu);
        lawful = k.lawful;
        words = k.words;
        stakes = let t = split (λ u. u.stakes) in let all = k.stakes in omega arith;
        idle = λ j u atu empty. ⊎_elim
            (λ old. ⊎_elim
            (λ t. absurd (let same : left.stakes ≡ u.stakes = ap (λ (x : TotalView). x.stakes) t.1 in omega arith))
            (λ t. k.idle j u t.1 empty)
            (at_set s.views id j left u old))
            (λ new. ap (λ (x : TotalView). x.trail.own) (sym new))
            (at_snoc (set s.views id left) right u j atu);
        rooms = λ a h.
            let t = split (λ u. room_of a u.rooms + total (wrote_at a) (total_notes u.trail.own)) in
            let all = k.rooms a h in
            let m = moved v.rooms a (room a h) in
            omega arith;
        long = k.long;
      }

  pub joins : (other : ℕ) (w : TotalView) → Joins (Kept key) id v other w (joined v w) spent
  unfolding total
  joins other w s k at ne there =
      let both : TotalView = joined v w in
      let was : get_elem? s.views other ≡ some w = sym (set_else s.views id other both ne) ∙ there in
      let join : (f : TotalView → ℕ) → total f (set (set s.views id both) other spent) + f w + f v ≡ total f s.views + f both + f spent = λ f. merged f s.views id other v w both spent at there in
      let weighed : (h : Tally → ℕ) → total h both.trail.own ≡ total h w.trail.own + total h v.trail.own = λ h. total_append h w.trail.own v.trail.own in
      let weighed_notes : (h : TotalNote → ℕ) → total h (total_notes both.trail.own) ≡ total h (total_notes w.trail.own) + total h (total_notes v.trail.own) =
      λ h. ap (total h) (map-append (λ (t : Tally). t.note) w.trail.own v.trail.own) ∙ total_append h (total_notes w.trail.own) (total_notes v.trail.own) in record {
        history = k.history;
        noted = λ h. let t = join (λ u. total h u.trail.own) in let all = k.noted h in let sum = weighed h in omega arith;
        in_order = k.in_order;
        ends = λ j u atu. ⊎_elim
            (λ t. subst (λ (x : TotalView). IsEnd x.trail.known k.history) t.1 (k.history, sym (append-nil k.history)))
            (λ t. ⊎_elim
            (λ b. subst (λ (x : TotalView). IsEnd x.trail.known k.history) b.1
            (later_ends (nat_lt (length v.trail.known) (length w.trail.known)) v.trail.known w.trail.known k.history (k.ends id v at) (k.ends other w was)))
            (λ b. k.ends j u b.1)
            (at_set s.views id j both u t.1))
            (at_set (set s.views id both) other j spent u atu);
        lawful = k.lawful;
        words = k.words;
        stakes = let t = join (λ u. u.stakes) in let all = k.stakes in omega arith;
        idle = λ j u atu empty. ⊎_elim
            (λ t. ap (λ (x : TotalView). x.trail.own) (sym t.1))
            (λ t. ⊎_elim
            (λ b.
            let same : v.stakes + w.stakes ≡ u.stakes = ap (λ (x : TotalView). x.stakes) b.1 in
            let mine : v.trail.own ≡ [] = k.idle id v at (omega arith) in
            let theirs : w.trail.own ≡ [] = k.idle other w was (omega arith) in
            ap (λ (x : TotalView). x.trail.own) (sym b.1) ∙ ap₂ (λ (a b : List Tally). a ++ b) theirs mine)
            (λ b. k.idle j u b.1 empty)
            (at_set s.views id j both u t.1))
            (at_set (set s.views id both) other j spent u atu);
        rooms = λ a h.
            let t = join (λ u. room_of a u.rooms + total (wrote_at a) (total_notes u.trail.own)) in
            let all = k.rooms a h in
            let sum = weighed_notes (wrote_at a) in
            let m = summed v.rooms w.rooms a in
            omega arith;
        long = k.long;
      }

module _ (key : Contexts) (slots id : ℕ) (me : Sat) where
  pub tells : (i : ℕ) → i < key.contexts → Allows (Kept key) slots id me i (λ n. n) (Told (step slots i 0 0 none) me)
  unfolding all_tallies
  tells i h s k bare at small = (
    me.0,
    keeps,
    tt,
    subst (λ (z : List ℕ × List TotalView). Kept key record { words = z.0; homes = s.homes; views = z.1 })
        (λ x. (sym (set-get_or s.words i 0) x, sym (set_again s.views id me.0 at) x)) k,
    (
      refl,
      λ all. let know = all_tallies key s k id me.0 at all in (know.0, know.1, k.words i h ∙ sym (know.0.same (wrote_at i))),
    ),
  )
