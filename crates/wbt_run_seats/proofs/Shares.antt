-- Seats at shares of which one went, and after a join: notes, and stakes and rooms that stay enough.
use Rattle.std.proofs.Common.{◌≡◌, ℕ, zero, suc, ◌-◌, ◌^◌, ◌<◌, List, [], ◌∷◌, ◌++◌, length, map, get_or, refl, ◌∙◌, arith}
use Rattle.std.proofs.lemmas.List.{length-map}
use Rattle.wbt_fraction.specs.Seat.{Seated, HasAllNotes}
use Rattle.wbt_kit.proofs.Common.{IsSeatOf, AllJoined, right_of, total_right, no_seat}
use Rattle.wbt_fraction.specs.Several.{Shared, Seats, left_of, total_left}
use Rattle.wbt_fraction.proofs.Fitting.{lefts_fit, rights_fit}

-- ---- a seat goes

pub left_notes : (seats : List Seated) (d : ℕ) → (get_or (map left_of seats) d no_seat).notes ≡ (get_or seats d no_seat).notes
left_notes [] d = refl
left_notes (s ∷ seats) zero = refl
left_notes (s ∷ seats) (suc d) = left_notes seats d

pub right_notes : (seats : List Seated) (d : ℕ) → (get_or (map right_of seats) d no_seat).notes ≡ []
right_notes [] d = refl
right_notes (s ∷ seats) zero = refl
right_notes (s ∷ seats) (suc d) = right_notes seats d

pub share_left : (shared : Shared) (share : Seats) → IsSeatOf shared share → IsSeatOf shared (record { domains = map left_of share.domains; totals = total_left share.totals })
share_left shared share its = (lefts_fit shared.domains share.domains its.0, its.1, length-map share.totals.rooms (λ r. r - 2 ^ 33) ∙ its.2)

pub share_right : (shared : Shared) (share : Seats) → IsSeatOf shared share → IsSeatOf shared (record { domains = map right_of share.domains; totals = total_right share.totals })
share_right shared share its = (rights_fit shared.domains share.domains its.0, its.1, length-map share.totals.rooms (λ r. 2 ^ 33) ∙ its.2)

-- ---- a join

pub joined_notes : (old from new : List Seated) → AllJoined old from new → (d : ℕ)
    → (get_or new d no_seat).notes ≡ (get_or from d no_seat).notes ++ (get_or old d no_seat).notes
joined_notes [] [] [] all d = refl
joined_notes [] [] (n ∷ new) all d = absurd all
joined_notes [] (f ∷ from) new all d = absurd all
joined_notes (o ∷ old) [] new all d = absurd all
joined_notes (o ∷ old) (f ∷ from) [] all d = absurd all
joined_notes (o ∷ old) (f ∷ from) (n ∷ new) all zero = all.0.notes
joined_notes (o ∷ old) (f ∷ from) (n ∷ new) all (suc d) = joined_notes old from new all.1 d

pub joined_complete : (old from new : List Seated) → AllJoined old from new → (d : ℕ) → d < length new → HasAllNotes (get_or new d no_seat)
joined_complete [] [] [] all d less = absurd (omega arith)
joined_complete [] [] (n ∷ new) all d less = absurd all
joined_complete [] (f ∷ from) new all d less = absurd all
joined_complete (o ∷ old) [] new all d less = absurd all
joined_complete (o ∷ old) (f ∷ from) [] all d less = absurd all
joined_complete (o ∷ old) (f ∷ from) (n ∷ new) all zero less = all.0.complete
joined_complete (o ∷ old) (f ∷ from) (n ∷ new) all (suc d) less = joined_complete old from new all.1 d (omega arith)
