use Rattle.std.proofs.Common.{sym, ap, ◌∙◌, arith}
use Rattle.wbt_fraction.specs.Seat.{Seated, Shape}
use Rattle.wbt_fraction.proofs.Seats.{splits}
use Rattle.wbt_fraction.proofs.domain.seat.Domain.split.Goals as goal

pub split_seat-requires : goal.split_seat-requires
split_seat-requires c =
    let e = ap (λ (t : Shape). t.table) c.self.view_is in
    let x = ap (λ (s : Seated). s.table) c.seat.view_is in
    let stakes = ap (λ (s : Seated). s.stakes) c.seat.view_is in
    let room = ap (λ (s : Seated). s.room) c.seat.view_is in
    let same = c.seat.invariant.2 in
    let h = c.requires.stakes in
    let r = c.requires.room in
    let wide = c.self.inside.words.wide in (
      x ∙ c.requires.seat ∙ sym e,
      omega arith,
      splits c.self.inside.words.table.shared.key c.seat.inside.place.id c.seat.inside.place.me.0 (omega arith) (omega arith) (omega arith),
    )
