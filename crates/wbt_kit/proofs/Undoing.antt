-- What was split and is joined again is what it was, part by part.
use Rattle.std.proofs.Common.{◌≡◌, ℕ, List, length, map, ap, ap₂, ◌∙◌, subst}
use Rattle.wbt_kit.proofs.Common.{IsSeatOf, AllJoined, right_of, total_right, TotalSeated, all_left, all_handed, all_joined, left_seat, right_seat, joined_seat, Seated}
use Rattle.wbt_fraction.specs.Several.{Shared, Seats as ShareSeats, HasRoom, HasTotalRoom, IsTotalJoined, left_of, total_left}
use Rattle.wbt_fraction.specs.Seat.{Seated as ShareSeat}
use Rattle.wbt_fraction.proofs.Parting.{undone as shares_undone}
use Rattle.wbt_published.specs.Passes.{Seats as EstPass}
use Rattle.wbt_published.proofs.Undoing.{undone as estimates_undone}
use Rattle.wbt_kit.proofs.Joining.{split_is_undone}

pub cpus_back : (cpu : ℕ) (old mid one new : Seated) → mid ≡ left_seat cpu old → one ≡ right_seat cpu old → new ≡ joined_seat mid one → new ≡ old
cpus_back cpu old mid one new left right joined = joined ∙ ap₂ joined_seat left right ∙ split_is_undone cpu old

pub shares_back : (shared : Shared) (old mid one new : ShareSeats) → IsSeatOf shared old → HasRoom old.domains → HasTotalRoom shared.totals old.totals
    → mid ≡ record { domains = map left_of old.domains; totals = total_left old.totals } → one ≡ record { domains = map right_of old.domains; totals = total_right old.totals }
    → AllJoined mid.domains one.domains new.domains → IsTotalJoined mid.totals one.totals new.totals → new ≡ old
shares_back shared old mid one new its room total left right domains totals =
    shares_undone shared old new its room total
    (subst (λ (l : List ShareSeat). AllJoined l (map right_of old.domains) new.domains) (ap (λ (s : ShareSeats). s.domains) left)
    (subst (λ (l : List ShareSeat). AllJoined mid.domains l new.domains) (ap (λ (s : ShareSeats). s.domains) right) domains))
    (subst (λ (t : TotalSeated). IsTotalJoined t (total_right old.totals) new.totals) (ap (λ (s : ShareSeats). s.totals) left)
    (subst (λ (t : TotalSeated). IsTotalJoined mid.totals t new.totals) (ap (λ (s : ShareSeats). s.totals) right) totals))

pub estimates_back : (owners : List ℕ) (cpu : ℕ) (old mid one new : EstPass) → length owners ≡ length old.known
    → mid ≡ record old { known = all_left owners cpu old.known } → one ≡ record old { known = all_handed owners cpu old.known }
    → new ≡ record mid { known = all_joined mid.known one.known } → new ≡ old
estimates_back owners cpu old mid one new long left right joined =
    joined ∙ ap₂ (λ (m o : EstPass). record m { known = all_joined m.known o.known }) left right
    ∙ (λ i. record old { known = estimates_undone owners cpu old.known long i })
