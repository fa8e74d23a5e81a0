-- What the loops over the contexts have done after each turn.
use Rattle.std.proofs.Common.{◌≡◌, ℕ, zero, suc, ◌<◌, ◌≤◌, ◌==◌, List, [], ◌∷◌, ◌++◌, map, length, replicate, get_or, take, set, sym, refl, ap, ◌∙◌, subst, arith, length-append, ap₂}
use mathlib.Core.List.{map-append}
use Rattle.std.proofs.lemmas.List.{get_or-map, length-map, map-set, take_all}
use Rattle.std.proofs.Math.Seq.{map-set_same, get_or-append_seam}
use Rattle.atomic_table.specs.Seated.{TableId}
use Rattle.crossbeam_utils.specs.declared.atomic.seq_cell.Doing.{Doing}
use Rattle.crossbeam_utils.specs.declared.atomic.seq_cell.Wide.{Wide}
use Rattle.wbt_published.specs.declared.known.Known.{Known}
use Rattle.wbt_published.specs.declared.rule.Stored.{Stored}
use Rattle.wbt_published.specs.Known.{opening, left_with, handed_on, knows_both}
use Rattle.wbt_published.specs.Passes.{Seat, cell_names, names_of, known_by, all_left, all_handed, all_joined}
use Rattle.wbt_num.proofs.Progress.{so_far, so_far-next, so_far-old, so_far-all, take_more}
use Rattle.wbt_published.proofs.Rows.{seat_name, seat_known, cell_name}

one_more : {X Y : Type 0} (f : X → Y) (xs : List X) (all : List Y) (i : ℕ) (x : X) (d : Y) → map f xs ≡ take i all → i < length all → f x ≡ get_or all i d → map f (xs ++ x ∷ []) ≡ take (suc i) all
one_more f xs all i x d e low is = map-append f xs (x ∷ []) ∙ ap (λ l. l ++ f x ∷ []) e ∙ ap (λ y. take i all ++ y ∷ []) is ∙ sym (take_more i all d low)

-- one place more is another: what is known so far
known_next : (all old : List Known) (i : ℕ) (places : List Seat) (y : Seat) → known_by places ≡ so_far i all old → i < length all → i < length old → y.known ≡ get_or all i opening → known_by (set places i y) ≡ so_far (suc i) all old
known_next all old i places y e low low' is = map-set seat_known places i y ∙ ap (λ l. set l i y.known) e ∙ ap (λ k. set (so_far i all old) i k) is ∙ so_far-next i all old opening low low'

-- a place that no turn has come to yet knows what it knew
knew_still : (all old : List Known) (i : ℕ) (places : List Seat) (x : Seat) → known_by places ≡ so_far i all old → i < length places → i < length all → i < length old → x ≡ get_or places i x → x.known ≡ get_or old i opening
knew_still all old i places x e here low low' at = ap seat_known at ∙ sym (get_or-map seat_known places i x opening here) ∙ ap (λ l. get_or l i opening) e ∙ so_far-old i all old opening low low'

long : (names : List TableId) (places : List Seat) → names_of places ≡ names → length places ≡ length names
long names places e = sym (length-map places seat_name) ∙ ap length e

length_take : {X : Type 0} (xs : List X) (n : ℕ) → n ≤ length xs → length (take n xs) ≡ n
length_take xs zero h = refl
length_take [] (suc n) h = absurd (omega arith)
length_take (x ∷ xs) (suc n) h = ap suc (length_take xs n (omega arith))

-- the right to publish handed on, context by context

pub left-length : (owners : List ℕ) (owner : ℕ) (known : List Known) → length owners ≡ length known → length (all_left owners owner known) ≡ length known
left-length [] owner known e = e
left-length (o ∷ owners) owner [] e = refl
left-length (o ∷ owners) owner (k ∷ known) e = ap suc (left-length owners owner known (omega arith))

pub left-at : (owners : List ℕ) (owner : ℕ) (known : List Known) (i : ℕ) → i < length owners → i < length known → get_or (all_left owners owner known) i opening ≡ left_with (get_or owners i 0 == owner) (get_or known i opening)
left-at [] owner known i h g = absurd (omega arith)
left-at (o ∷ owners) owner [] i h g = absurd (omega arith)
left-at (o ∷ owners) owner (k ∷ known) zero h g = refl
left-at (o ∷ owners) owner (k ∷ known) (suc i) h g = left-at owners owner known i (omega arith) (omega arith)

pub handed-length : (owners : List ℕ) (owner : ℕ) (known : List Known) → length owners ≡ length known → length (all_handed owners owner known) ≡ length known
handed-length [] owner known e = e
handed-length (o ∷ owners) owner [] e = refl
handed-length (o ∷ owners) owner (k ∷ known) e = ap suc (handed-length owners owner known (omega arith))

pub handed-at : (owners : List ℕ) (owner : ℕ) (known : List Known) (i : ℕ) → i < length owners → i < length known → get_or (all_handed owners owner known) i opening ≡ handed_on (get_or owners i 0 == owner) (get_or known i opening)
handed-at [] owner known i h g = absurd (omega arith)
handed-at (o ∷ owners) owner [] i h g = absurd (omega arith)
handed-at (o ∷ owners) owner (k ∷ known) zero h g = refl
handed-at (o ∷ owners) owner (k ∷ known) (suc i) h g = handed-at owners owner known i (omega arith) (omega arith)

pub record Handed (names : List TableId) (owners : List ℕ) (owner : ℕ) (old : List Known) (i : ℕ) (places new : List Seat) : Type 0 where
  pub of_cells : names_of places ≡ names
  pub known : known_by places ≡ so_far i (all_left owners owner old) old
  pub new_of_cells : names_of new ≡ take i names
  pub new_known : known_by new ≡ take i (all_handed owners owner old)

pub handed_first : (names : List TableId) (owners : List ℕ) (owner : ℕ) (places : List Seat) → names_of places ≡ names → Handed names owners owner (known_by places) 0 places []
handed_first names owners owner places of_cells = record { of_cells = of_cells; known = refl; new_of_cells = refl; new_known = refl }

pub handed_next : (names : List TableId) (owners : List ℕ) (owner : ℕ) (old : List Known) (i : ℕ) (places new : List Seat) (x y z : Seat) → Handed names owners owner old i places new → i < length names → length old ≡ length names → length owners ≡ length names
    → x ≡ get_or places i x → (y.name ≡ x.name) × (z.name ≡ x.name) → y.known ≡ left_with (get_or owners i 0 == owner) x.known → z.known ≡ handed_on (get_or owners i 0 == owner) x.known
    → Handed names owners owner old (suc i) (set places i y) (new ++ z ∷ [])
handed_next names owners owner old i places new x y z f low same owned at is left right =
    let here : i < length places = let l = long names places f.of_cells in omega arith in
    let in_old : i < length old = omega arith in let in_owners : i < length owners = omega arith in let fit : length owners ≡ length old = omega arith in
    let in_left : i < length (all_left owners owner old) = subst (λ n. i < n) (sym (left-length owners owner old fit)) in_old in
    let in_handed : i < length (all_handed owners owner old) = subst (λ n. i < n) (sym (handed-length owners owner old fit)) in_old in
    let knew = knew_still (all_left owners owner old) old i places x f.known here in_left in_old at in
    let name : z.name ≡ get_or names i x.name = is.1 ∙ ap seat_name at ∙ sym (get_or-map seat_name places i x x.name here) ∙ ap (λ l. get_or l i x.name) f.of_cells in
    record {
      of_cells = map-set_same seat_name places i y x (is.0 ∙ ap seat_name at) ∙ f.of_cells;
      known = known_next (all_left owners owner old) old i places y f.known in_left in_old (left ∙ ap (left_with (get_or owners i 0 == owner)) knew ∙ sym (left-at owners owner old i in_owners in_old));
      new_of_cells = one_more seat_name new names i z x.name f.new_of_cells low name;
      new_known = one_more seat_known new (all_handed owners owner old) i z opening f.new_known in_handed (right ∙ ap (handed_on (get_or owners i 0 == owner)) knew ∙ sym (handed-at owners owner old i in_owners in_old));
    }

pub handed_last : (names : List TableId) (owners : List ℕ) (owner : ℕ) (old : List Known) (i : ℕ) (places new : List Seat) → Handed names owners owner old i places new → length names ≤ i → i ≤ length names → length old ≡ length names → length owners ≡ length names
    → (known_by places ≡ all_left owners owner old) × (names_of new ≡ names) × (known_by new ≡ all_handed owners owner old)
handed_last names owners owner old i places new f most least same owned = let fit : length owners ≡ length old = omega arith in (
  f.known ∙ so_far-all i (all_left owners owner old) old (left-length owners owner old fit ∙ omega arith) (omega arith),
  f.new_of_cells ∙ take_all i names most,
  f.new_known ∙ take_all i (all_handed owners owner old) (subst (λ n. n ≤ i) (sym (handed-length owners owner old fit)) (omega arith)),
)

-- how many passes there are so far
pub handed_count : (names : List TableId) (owners : List ℕ) (owner : ℕ) (old : List Known) (i : ℕ) (places new : List Seat) → Handed names owners owner old i places new → i ≤ length names → length new ≡ i
handed_count names owners owner old i places new f low = sym (length-map new seat_name) ∙ ap length f.new_of_cells ∙ length_take names i low

-- two passes brought together

joined-length : (old others : List Known) → length others ≡ length old → length (all_joined old others) ≡ length old
joined-length [] others e = refl
joined-length (x ∷ xs) [] e = absurd (omega arith)
joined-length (x ∷ xs) (y ∷ ys) e = ap suc (joined-length xs ys (omega arith))

pub joined-at : (old others : List Known) (i : ℕ) → i < length old → i < length others → get_or (all_joined old others) i opening ≡ knows_both (get_or old i opening) (get_or others i opening)
joined-at [] others i h g = absurd (omega arith)
joined-at (x ∷ xs) [] i h g = absurd (omega arith)
joined-at (x ∷ xs) (y ∷ ys) zero h g = refl
joined-at (x ∷ xs) (y ∷ ys) (suc i) h g = joined-at xs ys i (omega arith) (omega arith)

pub record Merged (names : List TableId) (old others : List Known) (i : ℕ) (places : List Seat) : Type 0 where
  pub of_cells : names_of places ≡ names
  pub known : known_by places ≡ so_far i (all_joined old others) old

pub merged_first : (names : List TableId) (others : List Known) (places : List Seat) → names_of places ≡ names → Merged names (known_by places) others 0 places
merged_first names others places of_cells = record { of_cells = of_cells; known = refl }

pub merged_next : (names : List TableId) (old : List Known) (i : ℕ) (places others : List Seat) (x y o : Seat) → Merged names old (known_by others) i places → i < length names → length old ≡ length names → length others ≡ length names
    → x ≡ get_or places i x → o ≡ get_or others i o → y.name ≡ x.name → y.known ≡ knows_both x.known o.known → Merged names old (known_by others) (suc i) (set places i y)
merged_next names old i places others x y o m low same same' at at_o name is =
    let here : i < length places = let l = long names places m.of_cells in omega arith in
    let in_old : i < length old = omega arith in
    let many = length-map others seat_known in
    let in_others : i < length (known_by others) = omega arith in
    let in_all : i < length (all_joined old (known_by others)) = subst (λ n. i < n) (sym (joined-length old (known_by others) (omega arith))) in_old in
    let knew = knew_still (all_joined old (known_by others)) old i places x m.known here in_all in_old at in
    let other : o.known ≡ get_or (known_by others) i opening = ap seat_known at_o ∙ sym (get_or-map seat_known others i o opening (omega arith)) in
    let both : knows_both x.known o.known ≡ get_or (all_joined old (known_by others)) i opening = (λ z. knows_both (knew z) (other z)) ∙ sym (joined-at old (known_by others) i in_old in_others) in
    record {
      of_cells = map-set_same seat_name places i y x (name ∙ ap seat_name at) ∙ m.of_cells;
      known = known_next (all_joined old (known_by others)) old i places y m.known in_all in_old (is ∙ both);
    }

pub merged_last : (names : List TableId) (old others : List Known) (i : ℕ) (places : List Seat) → Merged names old others i places → i ≡ length names → length old ≡ length names → length others ≡ length names → known_by places ≡ all_joined old others
merged_last names old others i places m done same same' = m.known ∙ so_far-all i (all_joined old others) old (joined-length old others (omega arith) ∙ omega arith) (omega arith)

-- cells made one by one

replicate-snoc : (i : ℕ) → replicate i opening ++ opening ∷ [] ≡ replicate (suc i) opening
replicate-snoc zero = refl
replicate-snoc (suc i) = ap (λ l. opening ∷ l) (replicate-snoc i)

module _ {Q A : Type 0} where
  pub record Made (i : ℕ) (cells : List (Wide Stored (Doing Stored Known) Q 8 A)) (places : List Seat) : Type 0 where
    pub count : length cells ≡ i
    pub of_cells : names_of places ≡ cell_names cells
    pub known : known_by places ≡ replicate i opening

  pub made_first : Made 0 [] []
  made_first = record { count = refl; of_cells = refl; known = refl }

  pub made_next : (i : ℕ) (cells : List (Wide Stored (Doing Stored Known) Q 8 A)) (places : List Seat) (cell : Wide Stored (Doing Stored Known) Q 8 A) (place : Seat) → Made i cells places → place.name ≡ cell.table.shared.table_id → place.known ≡ opening
      → Made (suc i) (cells ++ cell ∷ []) (places ++ place ∷ [])
  made_next i cells places cell place m name known = record {
    count = let n = m.count in omega (arith, length-append cells (cell ∷ []));
    of_cells = map-append seat_name places (place ∷ []) ∙ ap (λ l. l ++ place.name ∷ []) m.of_cells ∙ ap (λ n. cell_names cells ++ n ∷ []) name ∙ sym (map-append cell_name cells (cell ∷ []));
    known = map-append seat_known places (place ∷ []) ∙ ap (λ l. l ++ place.known ∷ []) m.known ∙ ap (λ k. replicate i opening ++ k ∷ []) known ∙ replicate-snoc i;
  }

  pub made_count : (i : ℕ) (cells : List (Wide Stored (Doing Stored Known) Q 8 A)) (places : List Seat) → Made i cells places → length places ≡ i
  made_count i cells places m = sym (length-map places seat_name) ∙ ap length m.of_cells ∙ length-map cells cell_name ∙ m.count

-- the element that stands where the elements before it end
pub at_turn : {X : Type 0} (behind : List X) (x : X) (before all : List X) (i : ℕ) → before ++ x ∷ behind ≡ all → i ≡ length before → (x ≡ get_or all i x) × (i < length all)
at_turn behind x before all i e is =
    let long = ap length e in
    let parts = length-append before (x ∷ behind) in
    (sym (get_or-append_seam before x behind x) ∙ ap₂ (λ l n. get_or l n x) e (sym is), omega arith)
