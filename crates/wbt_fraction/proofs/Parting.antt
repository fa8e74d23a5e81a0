-- Seats after a split and after a join, room by room, and a split that is taken back.
use Rattle.std.proofs.Common.{◌≡◌, ℕ, zero, suc, ◌+◌, ◌-◌, ◌^◌, ◌<◌, ◌≤◌, Bool, true, false, cond, nat_lt, List, [], ◌∷◌, length, map, get_or, sym, refl, ap, ap₂, ◌∙◌, arith}
use Rattle.std.proofs.lemmas.List.{get_or-map}
use Rattle.wbt_fraction.specs.declared.domain.note.Made.{Made}
use Rattle.wbt_fraction.specs.declared.total.note.Tally.{Tally}
use Rattle.wbt_fraction.specs.Seat.{Seated}
use Rattle.wbt_fraction.specs.Totals.{TotalSeated, room_of, sums}
use Rattle.wbt_fraction.specs.Several.{Shared, Seats, IsSeatOf, HasRoom, HasTotalRoom, IsJoined, AllJoined, IsTotalJoined, IsParted, AreAdded, room_in, stakes_in, left_of, right_of, total_left, total_right, no_seat}
use Rattle.wbt_fraction.specs.Laws.{SplitIsUndone, SplitterHasRoom, SplitterSplitsOn}
use Rattle.wbt_fraction.proofs.Fitting.{fits_length, default_of, room_at}
use Rattle.wbt_fraction.proofs.Counting.{summed}

abbrev less_room : ℕ → ℕ
less_room r = r - 2 ^ 33

abbrev new_room : ℕ → ℕ
new_room r = 2 ^ 33

module _ (shared : Shared) (old left right : Seats) (its : IsSeatOf shared old) (has : HasRoom old.domains) (total : HasTotalRoom shared.totals old.totals)
    (is_left : left ≡ record { domains = map left_of old.domains; totals = total_left old.totals }) (is_right : right ≡ record { domains = map right_of old.domains; totals = total_right old.totals }) where
  in_seats : (d : ℕ) → d < length shared.domains → d < length old.domains
  in_seats d less = let long = fits_length shared.domains old.domains its.0 in omega arith

  left_at : (d : ℕ) → d < length shared.domains → get_or left.domains d no_seat ≡ left_of (get_or old.domains d no_seat)
  left_at d less = ap (λ (s : Seats). get_or s.domains d no_seat) is_left ∙ get_or-map left_of old.domains d no_seat no_seat (in_seats d less)

  right_at : (d : ℕ) → d < length shared.domains → get_or right.domains d no_seat ≡ right_of (get_or old.domains d no_seat)
  right_at d less = ap (λ (s : Seats). get_or s.domains d no_seat) is_right ∙ get_or-map right_of old.domains d no_seat no_seat (in_seats d less)

  pub parts : IsParted shared old left right
  parts = record {
    rooms = λ d less.
        let some = room_at old.domains d has (in_seats d less) in
        let mine = ap (λ (s : Seated). s.room) (left_at d less) in
        let theirs = ap (λ (s : Seated). s.room) (right_at d less) in
        let enough = some.1 in
        (omega arith, theirs);
    stakes = λ d less.
        let some = room_at old.domains d has (in_seats d less) in
        let mine = ap (λ (s : Seated). s.stakes) (left_at d less) in
        let theirs = ap (λ (s : Seated). s.stakes) (right_at d less) in
        let enough = some.0 in
        (omega arith, theirs);
    totals = λ w less.
        let long = its.2 in
        let low : w < length old.totals.rooms = omega arith in
        let mine = ap (λ (s : Seats). room_of w s.totals.rooms) is_left ∙ get_or-map less_room old.totals.rooms w 0 0 low in
        let theirs = ap (λ (s : Seats). room_of w s.totals.rooms) is_right ∙ get_or-map new_room old.totals.rooms w 0 0 low in
        let enough = total.1 w less in
        (omega arith, theirs);
    total_stakes =
        let mine = ap (λ (s : Seats). s.totals.stakes) is_left in
        let theirs = ap (λ (s : Seats). s.totals.stakes) is_right in
        let enough = total.0 in
        (omega arith, theirs);
  }

joined_at : (old from new : List Seated) → AllJoined old from new → (d : ℕ)
    → (room_in d new ≡ room_in d old + room_in d from) × (stakes_in d new ≡ stakes_in d old + stakes_in d from)
joined_at [] [] [] all d = (refl, refl)
joined_at [] [] (n ∷ new) all d = absurd all
joined_at [] (f ∷ from) new all d = absurd all
joined_at (o ∷ old) [] new all d = absurd all
joined_at (o ∷ old) (f ∷ from) [] all d = absurd all
joined_at (o ∷ old) (f ∷ from) (n ∷ new) all zero = (all.0.room, all.0.stakes)
joined_at (o ∷ old) (f ∷ from) (n ∷ new) all (suc d) = joined_at old from new all.1 d

pub adds_up : (old from new : Seats) → AllJoined old.domains from.domains new.domains → new.totals.rooms ≡ sums old.totals.rooms from.totals.rooms → AreAdded old from new
adds_up old from new domains rooms = record {
  rooms = λ d. (joined_at old.domains from.domains new.domains domains d).0;
  stakes = λ d. (joined_at old.domains from.domains new.domains domains d).1;
  totals = λ w. ap (λ (l : List ℕ). get_or l w 0) rooms ∙ summed old.totals.rooms from.totals.rooms w;
}

pub sums_length : (xs ys : List ℕ) → length xs ≡ length ys → length (sums xs ys) ≡ length xs
sums_length [] ys long = sym long
sums_length (x ∷ xs) [] long = refl
sums_length (x ∷ xs) (y ∷ ys) long = ap suc (sums_length xs ys (omega arith))

same_either : {A : Type 0} (b : Bool) (a : A) → cond b a a ≡ a
same_either true a = refl
same_either false a = refl

one_back : (y n : Seated) → 2 ≤ y.stakes → 2 ^ 33 ≤ y.room → IsJoined (left_of y) (right_of y) n → n ≡ y
one_back y n stakes room is =
    let mine = is.stakes in
    let rooms = is.room in
    let all : n.stakes ≡ y.stakes = omega arith in
    let whole : n.room ≡ y.room = omega arith in
    let known = same_either (nat_lt (length y.trail.known) (length y.trail.known)) y.trail.known in
    let trail : n.trail ≡ y.trail = is.trail ∙ ap (λ (l : List Made). record { own = y.trail.own; known = l }) known in
    λ i. record { table = is.table i; notes = is.notes i; trail = trail i; stakes = all i; room = whole i }

each_back : (ys ns : List Seated) → HasRoom ys → AllJoined (map left_of ys) (map right_of ys) ns → ns ≡ ys
each_back [] [] has all = refl
each_back [] (n ∷ ns) has all = absurd all
each_back (y ∷ ys) [] has all = absurd all
each_back (y ∷ ys) (n ∷ ns) has all =
    let here = room_at (y ∷ ys) 0 has (omega arith) in
    ap₂ (λ (x : Seated) (xs : List Seated). x ∷ xs) (one_back y n here.0 here.1 all.0) (each_back ys ns (λ k d low. has (suc k) d (omega arith)) all.1)

rooms_back : (rooms : List ℕ) → ((i : ℕ) → i < length rooms → 2 ^ 33 ≤ get_or rooms i 0) → sums (map less_room rooms) (map new_room rooms) ≡ rooms
rooms_back [] has = refl
rooms_back (r ∷ rooms) has =
    let some = has 0 (omega arith) in
    let whole : (r - 2 ^ 33) + 2 ^ 33 ≡ r = omega arith in
    ap₂ (λ (x : ℕ) (xs : List ℕ). x ∷ xs) whole (rooms_back rooms (λ i low. has (suc i) (omega arith)))

totals_back : (old new : TotalSeated) → 2 ≤ old.stakes → ((i : ℕ) → i < length old.rooms → 2 ^ 33 ≤ get_or old.rooms i 0) → IsTotalJoined (total_left old) (total_right old) new → new ≡ old
totals_back old new stakes has is =
    let mine = is.stakes in
    let all : new.stakes ≡ old.stakes = omega arith in
    let rooms = is.rooms ∙ rooms_back old.rooms has in
    let known = same_either (nat_lt (length old.trail.known) (length old.trail.known)) old.trail.known in
    let trail : new.trail ≡ old.trail = is.trail ∙ ap (λ (l : List Tally). record { own = old.trail.own; known = l }) known in
    λ i. record { table = is.table i; notes = is.notes i; trail = trail i; stakes = all i; rooms = rooms i }

pub undone : SplitIsUndone
undone shared old new its has total domains totals =
    let long = its.2 in
    let first = each_back old.domains new.domains has domains in
    let second = totals_back old.totals new.totals total.0 (λ i low. total.1 i (omega arith)) totals in
    λ i. record { domains = first i; totals = second i }

-- ---- how often a seat can be split

pub has_room : SplitterHasRoom
has_room shared seat more its can = (
  (λ k d low.
      let long = fits_length shared.domains seat.domains its.0 in
      let less : k < length shared.domains = omega arith in
      let stakes = can.stakes k less in
      let room = can.rooms k less in
      let here = default_of seat.domains k d no_seat low in
      let same = ap (λ (s : Seated). s.stakes) here in
      let whole = ap (λ (s : Seated). s.room) here in
      (omega arith, omega arith)),
  ((let stakes = can.total_stakes in omega arith), (λ w less. let room = can.totals w less in omega arith)),
)

pub splits_on : SplitterSplitsOn
splits_on shared old left right parts more can = record {
  stakes = λ d less. let one = (parts.stakes d less).0 in let was = can.stakes d less in omega arith;
  rooms = λ d less. let one = (parts.rooms d less).0 in let was = can.rooms d less in omega arith;
  total_stakes = let one = parts.total_stakes.0 in let was = can.total_stakes in omega arith;
  totals = λ w less. let one = (parts.totals w less).0 in let was = can.totals w less in omega arith;
}
