-- What the loops over the devices have done after each turn.
use Rattle.std.proofs.Common.{◌≡◌, ℕ, zero, suc, ◌<◌, ◌≤◌, List, [], ◌∷◌, ◌++◌, Option, map, length, get_or, take, set, sym, refl, ap, ◌∙◌, subst, arith, ap₂, length-append}
use mathlib.Core.List.{map-append}
use Rattle.std.proofs.lemmas.List.{get_or-map, length-map, map-set, take_all}
use Rattle.std.proofs.lemmas.List.Elements.{All-set, All-append, All-cons, All-nil}
use Rattle.std.proofs.Math.Seq.{map-set_same, get_or-append_seam}
use Rattle.atomic_table.specs.Seated.{TableId}
use Rattle.crossbeam_queue.specs.declared.array_queue.Doing.{Doing}
use Rattle.crossbeam_queue.specs.declared.array_queue.Slotted.{Slotted}
use Rattle.crossbeam_queue.specs.Passes.{Pass, view, ruled_capacity}
use Rattle.wbt_queue.specs.declared.known.Known.{Known}
use Rattle.wbt_queue.specs.Known.{opening, newcomer, accompanied, knows_both}
use Rattle.wbt_queue.specs.Passes.{known_by, place_names, ring_names, ring_sizes, AreAtRest, all_joined}
use Rattle.wbt_num.proofs.Progress.{so_far, so_far-next, so_far-old, so_far-all, take_more}
use Rattle.wbt_queue.proofs.Rows.{place_name, ring_name}

one_more : {X Y : Type 0} (f : X → Y) (xs : List X) (all : List Y) (i : ℕ) (x : X) (d : Y) → map f xs ≡ take i all → i < length all → f x ≡ get_or all i d → map f (xs ++ x ∷ []) ≡ take (suc i) all
one_more f xs all i x d e low is = map-append f xs (x ∷ []) ∙ ap (λ l. l ++ f x ∷ []) e ∙ ap (λ y. take i all ++ y ∷ []) is ∙ sym (take_more i all d low)

rest_more : (places : List (Pass ℕ Known)) (place : Pass ℕ Known) → AreAtRest places → place.me.1 ≡ [] → AreAtRest (places ++ place ∷ [])
rest_more places place rest e = All-append (λ (p : Pass ℕ Known). p.me.1 ≡ []) places (place ∷ []) rest (All-cons (λ (p : Pass ℕ Known). p.me.1 ≡ []) place [] e (All-nil (λ (p : Pass ℕ Known). p.me.1 ≡ [])))

-- one place more is another: what is known so far
known_next : (all old : List Known) (i : ℕ) (places : List (Pass ℕ Known)) (x y : Pass ℕ Known) → known_by places ≡ so_far i all old → i < length all → i < length old → view y ≡ get_or all i opening → known_by (set places i y) ≡ so_far (suc i) all old
known_next all old i places x y e low low' is = map-set view places i y ∙ ap (λ l. set l i (view y)) e ∙ ap (λ k. set (so_far i all old) i k) is ∙ so_far-next i all old opening low low'

-- a place that no turn has come to yet knows what it knew
knew_still : (all old : List Known) (i : ℕ) (places : List (Pass ℕ Known)) (x : Pass ℕ Known) → known_by places ≡ so_far i all old → i < length places → i < length all → i < length old → x ≡ get_or places i x → view x ≡ get_or old i opening
knew_still all old i places x e here low low' at = ap view at ∙ sym (get_or-map view places i x opening here) ∙ ap (λ l. get_or l i opening) e ∙ so_far-old i all old opening low low'

long : (names : List TableId) (places : List (Pass ℕ Known)) → place_names places ≡ names → length places ≡ length names
long names places e = sym (length-map places place_name) ∙ ap length e

length_take : {X : Type 0} (xs : List X) (n : ℕ) → n ≤ length xs → length (take n xs) ≡ n
length_take xs zero h = refl
length_take [] (suc n) h = absurd (omega arith)
length_take (x ∷ xs) (suc n) h = ap suc (length_take xs n (omega arith))

-- passes for a further thread

pub record Forked (names : List TableId) (old : List Known) (i : ℕ) (places new : List (Pass ℕ Known)) : Type 0 where
  pub of_queues : place_names places ≡ names
  pub rest : AreAtRest places
  pub known : known_by places ≡ so_far i (map accompanied old) old
  pub new_of_queues : place_names new ≡ take i names
  pub new_rest : AreAtRest new
  pub new_known : known_by new ≡ take i (map newcomer old)

pub forked_first : (names : List TableId) (places : List (Pass ℕ Known)) → place_names places ≡ names → AreAtRest places → Forked names (known_by places) 0 places []
forked_first names places of_queues rest = record { of_queues = of_queues; rest = rest; known = refl; new_of_queues = refl; new_rest = All-nil (λ (p : Pass ℕ Known). p.me.1 ≡ []); new_known = refl }

pub forked_next : (names : List TableId) (old : List Known) (i : ℕ) (places new : List (Pass ℕ Known)) (x y z : Pass ℕ Known) → Forked names old i places new → i < length names → length old ≡ length names → x ≡ get_or places i x
    → (y.table_id ≡ x.table_id) × (y.me.1 ≡ []) × (view y ≡ accompanied (view x)) → (z.table_id ≡ x.table_id) × (z.me.1 ≡ []) × (view z ≡ newcomer (view x)) → Forked names old (suc i) (set places i y) (new ++ z ∷ [])
forked_next names old i places new x y z f low same at is_y is_z =
    let here : i < length places = let l = long names places f.of_queues in omega arith in
    let in_old : i < length old = omega arith in
    let in_all : i < length (map accompanied old) = subst (λ n. i < n) (sym (length-map old accompanied)) in_old in
    let in_new : i < length (map newcomer old) = subst (λ n. i < n) (sym (length-map old newcomer)) in_old in
    let knew = knew_still (map accompanied old) old i places x f.known here in_all in_old at in
    let name : z.table_id ≡ get_or names i x.table_id = is_z.0 ∙ ap place_name at ∙ sym (get_or-map place_name places i x x.table_id here) ∙ ap (λ l. get_or l i x.table_id) f.of_queues in
    record {
      of_queues = map-set_same place_name places i y x (is_y.0 ∙ ap place_name at) ∙ f.of_queues;
      rest = All-set (λ (p : Pass ℕ Known). p.me.1 ≡ []) places i y is_y.1 f.rest;
      known = known_next (map accompanied old) old i places x y f.known in_all in_old (is_y.2 ∙ ap accompanied knew ∙ sym (get_or-map accompanied old i opening opening in_old));
      new_of_queues = one_more place_name new names i z x.table_id f.new_of_queues low name;
      new_rest = rest_more new z f.new_rest is_z.1;
      new_known = one_more view new (map newcomer old) i z opening f.new_known in_new (is_z.2 ∙ ap newcomer knew ∙ sym (get_or-map newcomer old i opening opening in_old));
    }

pub forked_last : (names : List TableId) (old : List Known) (i : ℕ) (places new : List (Pass ℕ Known)) → Forked names old i places new → length names ≤ i → i ≤ length names → length old ≡ length names
    → (known_by places ≡ map accompanied old) × (place_names new ≡ names) × (known_by new ≡ map newcomer old)
forked_last names old i places new f most least same = (
  f.known ∙ so_far-all i (map accompanied old) old (length-map old accompanied ∙ omega arith) (omega arith),
  f.new_of_queues ∙ take_all i names most,
  f.new_known ∙ take_all i (map newcomer old) (subst (λ n. n ≤ i) (sym (length-map old newcomer)) (omega arith)),
)

-- how many passes there are so far
pub forked_count : (names : List TableId) (old : List Known) (i : ℕ) (places new : List (Pass ℕ Known)) → Forked names old i places new → i ≤ length names → length new ≡ i
forked_count names old i places new f low = sym (length-map new place_name) ∙ ap length f.new_of_queues ∙ length_take names i low

-- two passes brought together

all_joined-length : (old others : List Known) → length (all_joined old others) ≡ length old
all_joined-length [] others = refl
all_joined-length (x ∷ xs) [] = refl
all_joined-length (x ∷ xs) (y ∷ ys) = ap suc (all_joined-length xs ys)

all_joined-at : (old others : List Known) (i : ℕ) (d : Known) → i < length old → i < length others → get_or (all_joined old others) i d ≡ knows_both (get_or old i d) (get_or others i d)
all_joined-at [] others i d h g = absurd (omega arith)
all_joined-at (x ∷ xs) [] i d h g = absurd (omega arith)
all_joined-at (x ∷ xs) (y ∷ ys) zero d h g = refl
all_joined-at (x ∷ xs) (y ∷ ys) (suc i) d h g = all_joined-at xs ys i d (omega arith) (omega arith)

pub record Merged (names : List TableId) (old others : List Known) (i : ℕ) (places : List (Pass ℕ Known)) : Type 0 where
  pub of_queues : place_names places ≡ names
  pub rest : AreAtRest places
  pub known : known_by places ≡ so_far i (all_joined old others) old

pub merged_first : (names : List TableId) (others : List Known) (places : List (Pass ℕ Known)) → place_names places ≡ names → AreAtRest places → Merged names (known_by places) others 0 places
merged_first names others places of_queues rest = record { of_queues = of_queues; rest = rest; known = refl }

pub merged_next : (names : List TableId) (old : List Known) (i : ℕ) (places others : List (Pass ℕ Known)) (x y o : Pass ℕ Known) → Merged names old (known_by others) i places → i < length names → length old ≡ length names → length others ≡ length names
    → x ≡ get_or places i x → o ≡ get_or others i o → (y.table_id ≡ x.table_id) × (y.me.1 ≡ []) × (view y ≡ knows_both (view x) (view o)) → Merged names old (known_by others) (suc i) (set places i y)
merged_next names old i places others x y o m low same same' at at_o is =
    let here : i < length places = let l = long names places m.of_queues in omega arith in
    let in_old : i < length old = omega arith in
    let in_others : i < length (known_by others) = subst (λ n. i < n) (sym (length-map others view)) (omega arith) in
    let in_all : i < length (all_joined old (known_by others)) = subst (λ n. i < n) (sym (all_joined-length old (known_by others))) in_old in
    let knew = knew_still (all_joined old (known_by others)) old i places x m.known here in_all in_old at in
    let other : view o ≡ get_or (known_by others) i opening = ap view at_o ∙ sym (get_or-map view others i o opening (omega arith)) in
    let both : knows_both (view x) (view o) ≡ get_or (all_joined old (known_by others)) i opening = (λ z. knows_both (knew z) (other z)) ∙ sym (all_joined-at old (known_by others) i opening in_old in_others) in
    record {
      of_queues = map-set_same place_name places i y x (is.0 ∙ ap place_name at) ∙ m.of_queues;
      rest = All-set (λ (p : Pass ℕ Known). p.me.1 ≡ []) places i y is.1 m.rest;
      known = known_next (all_joined old (known_by others)) old i places x y m.known in_all in_old (is.2 ∙ both);
    }

pub merged_last : (names : List TableId) (old others : List Known) (i : ℕ) (places : List (Pass ℕ Known)) → Merged names old others i places → i ≡ length names → length old ≡ length names → known_by places ≡ all_joined old others
merged_last names old others i places m done same = m.known ∙ so_far-all i (all_joined old others) old (all_joined-length old others ∙ omega arith) (omega arith)

-- queues made one by one

module _ {Q A : Type 0} where
  pub record Made (sizes : List ℕ) (i : ℕ) (rings : List (Slotted (Option ℕ) (Doing ℕ Known) Q A)) (places : List (Pass ℕ Known)) : Type 0 where
    pub sizes_are : ring_sizes rings ≡ take i sizes
    pub of_queues : place_names places ≡ ring_names rings
    pub rest : AreAtRest places
    pub known : known_by places ≡ take i (map (λ _. opening) sizes)

  pub made_first : (sizes : List ℕ) → Made sizes 0 [] []
  made_first sizes = record { sizes_are = refl; of_queues = refl; rest = All-nil (λ (p : Pass ℕ Known). p.me.1 ≡ []); known = refl }

  pub made_next : (sizes : List ℕ) (i : ℕ) (rings : List (Slotted (Option ℕ) (Doing ℕ Known) Q A)) (places : List (Pass ℕ Known)) (ring : Slotted (Option ℕ) (Doing ℕ Known) Q A) (place : Pass ℕ Known) → Made sizes i rings places → i < length sizes → ruled_capacity ring ≡ get_or sizes i 0
      → (place.table_id ≡ ring.table.shared.table_id) × (place.me.1 ≡ []) × (view place ≡ opening) → Made sizes (suc i) (rings ++ ring ∷ []) (places ++ place ∷ [])
  made_next sizes i rings places ring place m low size is =
      let in_known : i < length (map (λ (_ : ℕ). opening) sizes) = subst (λ n. i < n) (sym (length-map sizes (λ _. opening))) low in
      record {
        sizes_are = one_more ruled_capacity rings sizes i ring 0 m.sizes_are low size;
        of_queues = map-append place_name places (place ∷ []) ∙ ap (λ l. l ++ place.table_id ∷ []) m.of_queues ∙ ap (λ n. ring_names rings ++ n ∷ []) is.0 ∙ sym (map-append ring_name rings (ring ∷ []));
        rest = rest_more places place m.rest is.1;
        known = one_more view places (map (λ _. opening) sizes) i place opening m.known in_known (is.2 ∙ sym (get_or-map (λ (_ : ℕ). opening) sizes i 0 opening low));
      }

  pub made_last : (sizes : List ℕ) (i : ℕ) (rings : List (Slotted (Option ℕ) (Doing ℕ Known) Q A)) (places : List (Pass ℕ Known)) → Made sizes i rings places → length sizes ≤ i → (ring_sizes rings ≡ sizes) × (known_by places ≡ map (λ _. opening) sizes)
  made_last sizes i rings places m most = (m.sizes_are ∙ take_all i sizes most, m.known ∙ take_all i (map (λ _. opening) sizes) (subst (λ n. n ≤ i) (sym (length-map sizes (λ _. opening))) most))

  pub made_count : (sizes : List ℕ) (i : ℕ) (rings : List (Slotted (Option ℕ) (Doing ℕ Known) Q A)) (places : List (Pass ℕ Known)) → Made sizes i rings places → i ≤ length sizes → (length rings ≡ i) × (length places ≡ i)
  made_count sizes i rings places m low = let n = sym (length-map rings ruled_capacity) ∙ ap length m.sizes_are ∙ length_take sizes i low in (n, sym (length-map places place_name) ∙ ap length m.of_queues ∙ length-map rings ring_name ∙ n)

-- the element that stands where the elements before it end
pub at_turn : {X : Type 0} (behind : List X) (x : X) (before all : List X) (i : ℕ) → before ++ x ∷ behind ≡ all → i ≡ length before → (x ≡ get_or all i x) × (i < length all)
at_turn behind x before all i e is =
    let long = ap length e in
    let parts = length-append before (x ∷ behind) in
    (sym (get_or-append_seam before x behind x) ∙ ap₂ (λ l n. get_or l n x) e (sym is), omega arith)
