-- The first words, a split and a join keep the rule of a domain.
use Rattle.std.proofs.Common.{◌≡◌, ℕ, zero, suc, ◌+◌, ◌^◌, ◌≤◌, Bool, true, false, cond, nat_lt, List, [], ◌∷◌, ◌++◌, length, get_or, replicate, set, sym, refl, ap, ap₂, ◌∙◌, subst, ⊎_elim, arith}
use mathlib.Core.Option.{some}
use mathlib.Core.List.{map-append}
use lib.ListN.{get_elem?}
use Rattle.std.proofs.lemmas.List.{length-replicate, append-nil}
use Rattle.atomic_table.specs.Table.{opening, Splits, Joins}
use Rattle.atomic_table.proofs.Lists.{at_set, at_snoc, set_else}
use Rattle.wbt_flex.specs.Eager.{halved}
use Rattle.wbt_fraction.specs.declared.domain.note.Note.{Note}
use Rattle.wbt_fraction.specs.declared.domain.note.Made.{Made}
use Rattle.wbt_fraction.specs.declared.domain.rule.View.{View}
use Rattle.wbt_fraction.specs.declared.domain.rule.Layout.{Layout}
use Rattle.wbt_fraction.specs.Sums.{total}
use Rattle.wbt_fraction.specs.Numbers.{number, latest, start_of}
use Rattle.wbt_fraction.specs.Notes.{additions, periods, InTime, IsPast, Shows, IsHistory, added_domain, added_part}
use Rattle.wbt_fraction.specs.History.{notes_of, word_at, AreInOrder, IsEnd}
use Rattle.wbt_fraction.specs.Rule.{Kept, first_view, left_view, right_view, joined, spent}
use Rattle.wbt_fraction.proofs.Sums.{total_append, parted, merged, only_one}

shows_one : Shows [] 0 1
unfolding number latest additions periods start_of InTime halved
shows_one = record { number_is = refl; stamped = omega arith; in_time = refl }

shows_none : (part : ℕ) → Shows [] (suc part) 0
unfolding number latest additions periods start_of InTime IsPast halved
shows_none part = record { number_is = refl; stamped = omega arith; in_time = refl }

abbrev zeros : (n : ℕ) → List ℕ
zeros n = replicate n 0

zeros_at : (n i : ℕ) → get_or (zeros n) i 0 ≡ zero
zeros_at zero i = refl
zeros_at (suc n) zero = refl
zeros_at (suc n) (suc i) = zeros_at n i

abbrev pub first_words : (parts : ℕ) → List ℕ
first_words parts = 1 ∷ replicate parts 0

shows_first : (parts at : ℕ) → Shows [] at (get_or (first_words parts) at 0)
shows_first parts zero = shows_one
shows_first parts (suc i) = subst (Shows [] (suc i)) (sym (zeros_at parts i)) (shows_none i)

stands_first : (parts at : ℕ) → get_or (first_words parts) at 0 ≡ word_at at []
unfolding word_at start_of
stands_first parts zero = refl
stands_first parts (suc i) = zeros_at parts i

pub opened : (key : Layout) → Kept key (opening (first_words key.parts) [] first_view)
unfolding total IsHistory AreInOrder
opened key =
    let long : length (zeros key.parts) ≡ key.parts = length-replicate key.parts 0 in record {
      history = [];
      noted = λ h. refl;
      in_order = tt;
      stand = λ at h. stands_first key.parts at;
      ends = λ j v at. ([], ap (λ (u : View). u.trail.known) (only_one first_view j v at));
      lawful = tt;
      words = λ at h. shows_first key.parts at;
      stakes = refl;
      idle = λ j v at none. ap (λ (u : View). u.trail.own) (sym (only_one first_view j v at));
      domain_room = refl;
      part_room = refl;
      long = omega arith;
    }

pub later_ends : {A : Type 0} (b : Bool) (one other all : List A) → IsEnd one all → IsEnd other all → IsEnd (cond b other one) all
later_ends true one other all a c = c
later_ends false one other all a c = a

module _ (key : Layout) (id : ℕ) (v : View) where
  pub splits : 2 ≤ v.stakes → 2 ^ 33 ≤ v.domain_room → 2 ^ 33 ≤ v.part_room → Splits (Kept key) id v (left_view v) (right_view v)
  unfolding total
  splits stakes domain_room part_room s k at =
      let left : View = left_view v in
      let right : View = right_view v in
      let split : (f : View → ℕ) → total f (set s.views id left ++ right ∷ []) + f v ≡ total f s.views + f left + f right = λ f. parted f s.views id v left right at in record {
        history = k.history;
        noted = λ h.
            let t = split (λ u. total h u.trail.own) in
            let all = k.noted h in
            omega arith;
        in_order = k.in_order;
        stand = k.stand;
        ends = λ j u atu. ⊎_elim
            (λ old. ⊎_elim
            (λ t. subst (λ (x : View). IsEnd x.trail.known k.history) t.1 (k.ends id v at))
            (λ t. k.ends j u t.1)
            (at_set s.views id j left u old))
            (λ new. subst (λ (x : View). IsEnd x.trail.known k.history) new (k.ends id v at))
            (at_snoc (set s.views id left) right u j atu);
        lawful = k.lawful;
        words = k.words;
        stakes =
            let t = split (λ u. u.stakes) in
            let all = k.stakes in
            omega arith;
        idle = λ j u atu none. ⊎_elim
            (λ old. ⊎_elim
            (λ t. absurd (let same : left.stakes ≡ u.stakes = ap (λ (x : View). x.stakes) t.1 in omega arith))
            (λ t. k.idle j u t.1 none)
            (at_set s.views id j left u old))
            (λ new. ap (λ (x : View). x.trail.own) (sym new))
            (at_snoc (set s.views id left) right u j atu);
        domain_room =
            let t = split (λ u. u.domain_room + total added_domain (notes_of u.trail.own)) in
            let all = k.domain_room in
            omega arith;
        part_room =
            let t = split (λ u. u.part_room + total added_part (notes_of u.trail.own)) in
            let all = k.part_room in
            omega arith;
        long = k.long;
      }

  pub joins : (other : ℕ) (w : View) → Joins (Kept key) id v other w (joined v w) spent
  unfolding total
  joins other w s k at ne there =
      let both : View = joined v w in
      let was : get_elem? s.views other ≡ some w = sym (set_else s.views id other both ne) ∙ there in
      let join : (f : View → ℕ) → total f (set (set s.views id both) other spent) + f w + f v ≡ total f s.views + f both + f spent = λ f. merged f s.views id other v w both spent at there in
      let weighed : (h : Made → ℕ) → total h both.trail.own ≡ total h w.trail.own + total h v.trail.own = λ h. total_append h w.trail.own v.trail.own in
      let weighed_notes : (h : Note → ℕ) → total h (notes_of both.trail.own) ≡ total h (notes_of w.trail.own) + total h (notes_of v.trail.own) =
      λ h. ap (total h) (map-append (λ (m : Made). m.note) w.trail.own v.trail.own) ∙ total_append h (notes_of w.trail.own) (notes_of v.trail.own) in record {
        history = k.history;
        noted = λ h.
            let t = join (λ u. total h u.trail.own) in
            let all = k.noted h in
            let sum = weighed h in
            omega arith;
        in_order = k.in_order;
        stand = k.stand;
        ends = λ j u atu. ⊎_elim
            (λ t. subst (λ (x : View). IsEnd x.trail.known k.history) t.1 (k.history, sym (append-nil k.history)))
            (λ t. ⊎_elim
            (λ b. subst (λ (x : View). IsEnd x.trail.known k.history) b.1
            (later_ends (nat_lt (length v.trail.known) (length w.trail.known)) v.trail.known w.trail.known k.history (k.ends id v at) (k.ends other w was)))
            (λ b. k.ends j u b.1)
            (at_set s.views id j both u t.1))
            (at_set (set s.views id both) other j spent u atu);
        lawful = k.lawful;
        words = k.words;
        stakes =
            let t = join (λ u. u.stakes) in
            let all = k.stakes in
            omega arith;
        idle = λ j u atu none. ⊎_elim
            (λ t. ap (λ (x : View). x.trail.own) (sym t.1))
            (λ t. ⊎_elim
            (λ b.
            let same : v.stakes + w.stakes ≡ u.stakes = ap (λ (x : View). x.stakes) b.1 in
            let mine : v.trail.own ≡ [] = k.idle id v at (omega arith) in
            let theirs : w.trail.own ≡ [] = k.idle other w was (omega arith) in
            ap (λ (x : View). x.trail.own) (sym b.1) ∙ ap₂ (λ (a b : List Made). a ++ b) theirs mine)
            (λ b. k.idle j u b.1 none)
            (at_set s.views id j both u t.1))
            (at_set (set s.views id both) other j spent u atu);
        domain_room =
            let t = join (λ u. u.domain_room + total added_domain (notes_of u.trail.own)) in
            let all = k.domain_room in
            let sum = weighed_notes added_domain in
            omega arith;
        part_room =
            let t = join (λ u. u.part_room + total added_part (notes_of u.trail.own)) in
            let all = k.part_room in
            let sum = weighed_notes added_part in
            omega arith;
        long = k.long;
      }
