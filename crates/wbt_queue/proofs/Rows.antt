-- The queues of all devices and the places of one pass, side by side, where one place changes.
use Rattle.std.proofs.Common.{◌≡◌, ℕ, ◌<◌, List, [], Option, Some, None, IfSome, IfNone, All, map, length, get_or, set, sym, ap, ◌∙◌, subst, arith}
use Rattle.std.proofs.lemmas.List.{get_or-map, get_or-set_same, length-map, map-set}
use Rattle.std.proofs.Math.Seq.{map-set_same}
use Rattle.atomic_table.specs.Seated.{TableId}
use Rattle.crossbeam_queue.specs.declared.array_queue.Doing.{Doing}
use Rattle.crossbeam_queue.specs.declared.array_queue.Slotted.{Slotted}
use Rattle.crossbeam_queue.specs.Passes.{Pass, view, ruled_capacity}
use Rattle.wbt_queue.specs.declared.known.Known.{Known}
use Rattle.wbt_queue.specs.Known.{opening}
use Rattle.wbt_queue.specs.Passes.{Rings, Seats, IsPassOf, known_by, known_of}

abbrev pub place_name : Pass ℕ Known → TableId
place_name place = place.table_id

abbrev pub ring_name : {Q A : Type 0} → Slotted (Option ℕ) (Doing ℕ Known) Q A → TableId
ring_name ring = ring.table.shared.table_id

pub as_long : {X Y Z : Type 0} (f : X → Z) (g : Y → Z) (xs : List X) (ys : List Y) → map f xs ≡ map g ys → length xs ≡ length ys
as_long f g xs ys e = sym (length-map xs f) ∙ ap length e ∙ length-map ys g

pub same_at : {X Y Z : Type 0} (f : X → Z) (g : Y → Z) (xs : List X) (ys : List Y) (i : ℕ) (x : X) (y : Y) → map f xs ≡ map g ys → i < length xs → x ≡ get_or xs i x → y ≡ get_or ys i y → f x ≡ g y
same_at f g xs ys i x y e low at_x at_y = let l = as_long f g xs ys e in let low' : i < length ys = omega arith in
    ap f at_x ∙ sym (get_or-map f xs i x (f x) low) ∙ ap (λ l. get_or l i (f x)) e ∙ get_or-map g ys i y (f x) low' ∙ ap g (sym at_y)

-- a pass as contracts see it
abbrev pub seats_of : (places : List (Pass ℕ Known)) → Seats
seats_of places = record { names = map place_name places; known = known_by places }

module _ (pass : Seats) (places : List (Pass ℕ Known)) (is : seats_of places ≡ pass) (i : ℕ) (old new : Pass ℕ Known) (low : i < length places) (at : old ≡ get_or places i old) where
  pub knew : known_of i pass ≡ view old
  knew = ap (known_of i) (sym is) ∙ get_or-map view places i old opening low ∙ ap view (sym at)

  pub knows : known_of i (seats_of (set places i new)) ≡ view new
  knows = ap (λ l. get_or l i opening) (map-set view places i new) ∙ get_or-set_same (known_by places) i (view new) opening (subst (λ n. i < n) (sym (length-map places view)) low)

  pub names_stay : new.table_id ≡ old.table_id → map place_name (set places i new) ≡ pass.names
  names_stay same = map-set_same place_name places i new old (same ∙ ap place_name at) ∙ ap (λ (p : Seats). p.names) is

  pub changed : new.table_id ≡ old.table_id → (f : Known → Known) → view new ≡ f (view old) → seats_of (set places i new) ≡ record pass { known = set pass.known i (f (known_of i pass)) }
  changed same f e = let names = names_stay same in let known = map-set view places i new ∙ ap (λ (k : Known). set (known_by places) i k) (e ∙ ap f (sym knew)) ∙ ap (λ (p : Seats). set p.known i (f (known_of i pass))) is in
      λ z. record { names = names z; known = known z }

  pub unchanged : new.table_id ≡ old.table_id → view new ≡ view old → seats_of (set places i new) ≡ pass
  unchanged same e = let names = names_stay same in let known = map-set_same view places i new old (e ∙ ap view at) ∙ ap (λ (p : Seats). p.known) is in
      λ z. record { names = names z; known = known z }

-- the place's queue stands beside it
module _ {Q A : Type 0} (rings : List (Slotted (Option ℕ) (Doing ℕ Known) Q A)) (places : List (Pass ℕ Known)) (i : ℕ) (names : map place_name places ≡ map ring_name rings) (low : i < length rings) where
  pub in_places : i < length places
  in_places = let l = as_long place_name ring_name places rings names in omega arith

  pub fits : (ring : Slotted (Option ℕ) (Doing ℕ Known) Q A) (place : Pass ℕ Known) → All (λ (p : Pass ℕ Known). p.me.1 ≡ []) places → ring ≡ get_or rings i ring → place ≡ get_or places i place → (place.table_id ≡ ring.table.shared.table_id) × (place.me.1 ≡ [])
  fits ring place home ring_at place_at = (same_at place_name ring_name places rings i place ring names in_places place_at ring_at, subst (λ (p : Pass ℕ Known). p.me.1 ≡ []) (sym place_at) (home i place in_places))

-- the queues as contracts see them
abbrev pub rings_of : {Q A : Type 0} → List (Slotted (Option ℕ) (Doing ℕ Known) Q A) → Rings
rings_of rings = record { names = map ring_name rings; sizes = map ruled_capacity rings }

-- the device has a place in both lists
module _ {Q A : Type 0} (rings : List (Slotted (Option ℕ) (Doing ℕ Known) Q A)) (places : List (Pass ℕ Known)) (queues : Rings) (pass : Seats) (i : ℕ)
    (queues_seen : rings_of rings ≡ queues) (pass_seen : seats_of places ≡ pass) (of_these : IsPassOf queues pass) (less : i < length queues.sizes) where
  pub same_names : map place_name places ≡ map ring_name rings
  same_names = ap (λ (p : Seats). p.names) pass_seen ∙ of_these ∙ sym (ap (λ (q : Rings). q.names) queues_seen)

  pub ring_there : i < length rings
  ring_there = subst (λ n. i < n) (ap (λ (q : Rings). length q.sizes) (sym queues_seen) ∙ length-map rings ruled_capacity) less

  pub place_there : i < length places
  place_there = in_places rings places i same_names ring_there

pub size_at : {Q A : Type 0} (rings : List (Slotted (Option ℕ) (Doing ℕ Known) Q A)) (i : ℕ) (ring : Slotted (Option ℕ) (Doing ℕ Known) Q A) → i < length rings → ring ≡ get_or rings i ring → get_or (map ruled_capacity rings) i 0 ≡ ruled_capacity ring
size_at rings i ring low at = get_or-map ruled_capacity rings i ring 0 low ∙ ap ruled_capacity (sym at)

pub some_weaker : {T : Type 0} (r : Option T) (P Q : T → Type 0) → ((x : T) → P x → Q x) → IfSome r P → IfSome r Q
some_weaker None P Q f h = tt
some_weaker (Some x) P Q f h = f x h

pub none_weaker : {T : Type 0} (r : Option T) (P Q : Type 0) → (P → Q) → IfNone r P → IfNone r Q
none_weaker None P Q f h = f h
none_weaker (Some x) P Q f h = tt
