-- The cells of all contexts and the places of one pass, side by side, where one place changes.
use Rattle.std.proofs.Common.{◌≡◌, ℕ, ◌<◌, List, map, length, get_or, set, sym, ap, ◌∙◌, arith}
use Rattle.std.proofs.lemmas.List.{get_or-map, length-map, map-set}
use Rattle.std.proofs.Math.Seq.{map-set_same}
use Rattle.atomic_table.specs.Seated.{TableId}
use Rattle.crossbeam_utils.specs.declared.atomic.seq_cell.Doing.{Doing}
use Rattle.crossbeam_utils.specs.declared.atomic.seq_cell.Wide.{Wide}
use Rattle.wbt_published.specs.declared.known.Known.{Known}
use Rattle.wbt_published.specs.declared.rule.Stored.{Stored}
use Rattle.wbt_published.specs.Known.{opening}
use Rattle.wbt_published.specs.Passes.{Seat, Seats, cell_names, names_of, known_by, known_of}

abbrev pub seat_name : Seat → TableId
seat_name seat = seat.name

abbrev pub seat_known : Seat → Known
seat_known seat = seat.known

abbrev pub cell_name : {Q A : Type 0} → Wide Stored (Doing Stored Known) Q 8 A → TableId
cell_name cell = cell.table.shared.table_id

-- a pass as contracts see it
abbrev pub seats_of : (places : List Seat) → Seats
seats_of places = record { names = names_of places; known = known_by places }

pub as_long : {X Y Z : Type 0} (f : X → Z) (g : Y → Z) (xs : List X) (ys : List Y) → map f xs ≡ map g ys → length xs ≡ length ys
as_long f g xs ys e = sym (length-map xs f) ∙ ap length e ∙ length-map ys g

pub same_at : {X Y Z : Type 0} (f : X → Z) (g : Y → Z) (xs : List X) (ys : List Y) (i : ℕ) (x : X) (y : Y) → map f xs ≡ map g ys → i < length ys → x ≡ get_or xs i x → y ≡ get_or ys i y → f x ≡ g y
same_at f g xs ys i x y e low at_x at_y = let l = as_long f g xs ys e in let low' : i < length xs = omega arith in
    ap f at_x ∙ sym (get_or-map f xs i x (f x) low') ∙ ap (λ l. get_or l i (f x)) e ∙ get_or-map g ys i y (f x) low ∙ ap g (sym at_y)

module _ (pass : Seats) (places : List Seat) (is : seats_of places ≡ pass) (i : ℕ) (old new : Seat) (low : i < length places) (at : old ≡ get_or places i old) where
  pub knew : known_of i pass ≡ old.known
  knew = ap (known_of i) (sym is) ∙ get_or-map seat_known places i old opening low ∙ ap seat_known (sym at)

  pub changed : new.name ≡ old.name → (f : Known → Known) → new.known ≡ f old.known → seats_of (set places i new) ≡ record pass { known = set pass.known i (f (known_of i pass)) }
  changed same f e = let names = map-set_same seat_name places i new old (same ∙ ap seat_name at) ∙ ap (λ (p : Seats). p.names) is in
      let known = map-set seat_known places i new ∙ ap (λ (k : Known). set (known_by places) i k) (e ∙ ap f (sym knew)) ∙ ap (λ (p : Seats). set p.known i (f (known_of i pass))) is in
      λ z. record { names = names z; known = known z }

-- the place's cell stands beside it
module _ {Q A : Type 0} (cells : List (Wide Stored (Doing Stored Known) Q 8 A)) (places : List Seat) (i : ℕ) (names : names_of places ≡ cell_names cells) (low : i < length cells) where
  pub in_places : i < length places
  in_places = let l = as_long seat_name cell_name places cells names in omega arith

  pub fits : (cell : Wide Stored (Doing Stored Known) Q 8 A) (place : Seat) → cell ≡ get_or cells i cell → place ≡ get_or places i place → place.name ≡ cell.table.shared.table_id
  fits cell place cell_at place_at = same_at seat_name cell_name places cells i place cell names low place_at cell_at
