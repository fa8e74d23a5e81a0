use Rattle.std.proofs.Common.{length, List, sym, ap, ap₂, ◌∙◌, subst}
use Rattle.wbt_fraction.specs.Seat.{Shape, Seated}
use Rattle.wbt_fraction.specs.Several.{Shared, Seats, Fits, AllJoined}
use Rattle.wbt_fraction.specs.Totals.{sums}
use Rattle.wbt_fraction.proofs.Parting.{adds_up, sums_length}
use Rattle.wbt_fraction.proofs.shares.Shares.join.Goals as goal

pub returns-clause-seat : goal.returns-clause-seat
returns-clause-seat c =
    let into = c.into.inside.totals.rooms in
    let from = c.from.inside.totals.rooms in
    let mine = ap (λ (s : Seats). length s.totals.rooms) c.into.view_is ∙ c.requires.0.2 in
    let theirs = ap (λ (s : Seats). length s.totals.rooms) c.from.view_is ∙ c.requires.1.2 in (
      subst (λ (l : List Shape). Fits l c.join.new.into) (ap (λ (s : Shared). s.domains) c.self.view_is) c.join.ensures.seats,
      c.join-2.ensures.table ∙ ap (λ (s : Seats). s.totals.table) c.into.view_is ∙ c.requires.0.1,
      ap length c.join-2.ensures.rooms ∙ sums_length into from (mine ∙ sym theirs) ∙ mine,
    )

pub returns-clause-added : goal.returns-clause-added
returns-clause-added c =
    let new : Seats = record { domains = c.join.new.into; totals = c.join-2.new.into } in
    let mine = c.into.view_is in
    let theirs = c.from.view_is in
    adds_up c.args.into.now c.args.from new
    (subst (λ (z : List Seated × List Seated). AllJoined z.0 z.1 c.join.new.into) (λ i. ((mine i).domains, (theirs i).domains)) c.join.ensures.joined)
    (c.join-2.ensures.rooms ∙ ap₂ sums (ap (λ (s : Seats). s.totals.rooms) mine) (ap (λ (s : Seats). s.totals.rooms) theirs))
