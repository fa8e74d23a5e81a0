-- Parts that come back, the last one first.
use Rattle.std.proofs.Common.{◌≡◌, ℕ, suc, ◌+◌, List, [], ◌∷◌, ◌++◌, length, map, replicate, refl, sym, ap, ap₂, ◌∙◌, subst, arith}
use Rattle.std.proofs.lemmas.List.{append-nil}
use Rattle.wbt_kit.proofs.Common.{AllJoined, right_of, total_right, TotalSeated, all_joined, nothing, joined_seat, AreJoined, HasOwners}
use Rattle.wbt_fraction.specs.Several.{IsTotalJoined, Seats as ShareSeats}
use Rattle.wbt_fraction.specs.Seat.{Seated as ShareSeat}
use Rattle.wbt_fraction.proofs.Parting.{undone as shares_undone}
use Rattle.wbt_published.specs.Passes.{Seats as EstPass}
use Rattle.wbt_published.proofs.Undoing.{undone as estimates_undone}
use Rattle.wbt_queue.specs.Passes as queue
use Rattle.wbt_kit.specs.declared.kit.Kit.{Kit}
use Rattle.wbt_kit.specs.declared.kit.Seats.{Seats}
use Rattle.wbt_kit.proofs.Joining.{split_is_undone}
use Rattle.wbt_run_seats.specs.Parts.{without, own_of, rest_of, parts_of, AreBack}
use Rattle.wbt_run_seats.proofs.Passes.{queue_back}
use Rattle.wbt_run_seats.proofs.Parting.{CanGoOn, rest_can, enough, known_long}

no_nothing : {A : Type 0} (xs : List A) (x : A) → xs ≡ xs ++ replicate 0 x
no_nothing xs x = sym (append-nil xs)

pub back_at_first : (seats : Seats) → AreBack seats seats
back_at_first seats = record {
  cpu = refl;
  share = refl;
  est = refl;
  queue = record { names = refl; many = refl; own = λ device. refl; joined = λ device. (0, no_nothing _ nothing) };
}

-- one part is back
pub one_back : (kit : Kit) (owners : HasOwners kit) (n : ℕ) (old mid part new : Seats) → CanGoOn kit 1 old → AreBack (without kit n old) mid
    → part ≡ own_of kit n old → AreJoined mid part new → AreBack old new
one_back kit owners n old mid part new can back is joined =
    let room = enough kit owners n 0 old can in
    record {
      cpu = joined.cpu ∙ ap₂ joined_seat back.cpu (ap (λ (s : Seats). s.cpu) is) ∙ split_is_undone n old.cpu;
      share = shares_undone kit.shares old.share new.share can.seats_are.share room.0 room.1
          (subst (λ (l : List ShareSeat). AllJoined l (map right_of old.share.domains) new.share.domains) (ap (λ (s : ShareSeats). s.domains) back.share)
          (subst (λ (l : List ShareSeat). AllJoined mid.share.domains l new.share.domains) (ap (λ (s : Seats). s.share.domains) is) joined.shares))
          (subst (λ (t : TotalSeated). IsTotalJoined t (total_right old.share.totals) new.share.totals) (ap (λ (s : ShareSeats). s.totals) back.share)
          (subst (λ (t : TotalSeated). IsTotalJoined mid.share.totals t new.share.totals) (ap (λ (s : Seats). s.share.totals) is) joined.totals));
      est = joined.est ∙ ap₂ (λ (m o : EstPass). record m { known = all_joined m.known o.known }) back.est (ap (λ (s : Seats). s.est) is)
          ∙ (λ i. record old.est { known = estimates_undone kit.owners n old.est.known (known_long kit owners n 0 old can) i });
      queue = queue_back old.queue mid.queue new.queue back.queue (joined.queue ∙ ap (λ (q : queue.Seats). record mid.queue { known = queue.all_joined mid.queue.known q.known }) (ap (λ (s : Seats). s.queue) is));
    }

pub empty_list : {A : Type 0} (xs : List A) → length xs ≡ 0 → xs ≡ []
empty_list [] is = refl
empty_list (x ∷ xs) is = absurd (omega arith)

-- the last of the parts is back
pub last_back : (kit : Kit) (owners : HasOwners kit) (n more : ℕ) (first mid part new : Seats) (rest : List Seats) → CanGoOn kit (more + suc n) first
    → AreBack (rest_of kit (suc n) first) mid → rest ++ part ∷ [] ≡ parts_of kit (suc n) first → AreJoined mid part new
    → AreBack (rest_of kit n first) new × (rest ≡ parts_of kit n first)
last_back kit owners n more first mid part new rest can back is joined =
    let ends = same_ends rest (parts_of kit n first) part (own_of kit n (rest_of kit n first)) is in
    let here : CanGoOn kit (suc more) (rest_of kit n first) = rest_can kit owners first n (suc more) (subst (λ (k : ℕ). CanGoOn kit k first) (omega arith) can) in
    (one_back kit owners n (rest_of kit n first) mid part new (fewer kit more (rest_of kit n first) here) back ends.1 joined, ends.0)
  where
    same_ends : (xs ys : List Seats) (x y : Seats) → xs ++ x ∷ [] ≡ ys ++ y ∷ [] → (xs ≡ ys) × (x ≡ y)
    same_ends [] [] x y e = (refl, cc)
    same_ends [] (v ∷ []) x y e = absurd (let n = ap (λ (l : List Seats). length l) e in omega arith)
    same_ends [] (v ∷ w ∷ ys) x y e = absurd (let n = ap (λ (l : List Seats). length l) e in omega arith)
    same_ends (u ∷ []) [] x y e = absurd (let n = ap (λ (l : List Seats). length l) e in omega arith)
    same_ends (u ∷ w ∷ xs) [] x y e = absurd (let n = ap (λ (l : List Seats). length l) e in omega arith)
    same_ends (u ∷ xs) (v ∷ ys) x y e =
        let tail : xs ++ x ∷ [] ≡ ys ++ y ∷ [] = cc in
        let head : u ≡ v = cc in
        let rest = same_ends xs ys x y tail in
        (ap₂ (λ (z : Seats) (l : List Seats). z ∷ l) head rest.0, rest.1)

    -- who can be split more often can be split once
    fewer : (kit : Kit) (more : ℕ) (seats : Seats) → CanGoOn kit (suc more) seats → CanGoOn kit 1 seats
    fewer kit more seats can =
        let splits = can.splits in
        record {
          seats_are = can.seats_are;
          splits = record {
            stakes = λ d less. let enough = splits.stakes d less in omega arith;
            rooms = λ d less. let enough = splits.rooms d less in omega arith;
            total_stakes = let enough = splits.total_stakes in omega arith;
            totals = λ w less. let enough = splits.totals w less in omega arith;
          };
        }
