use Rattle.std.proofs.Common.{sym, ap, ◌∙◌, arith}
use Rattle.wbt_fraction.specs.Totals.{TotalSeated, TotalShape}
use Rattle.wbt_fraction.proofs.Counting.{joins}
use Rattle.wbt_fraction.proofs.total.seat.Totals.join.Goals as goal

pub join_seat-requires : goal.join_seat-requires
join_seat-requires c =
    let e = ap (λ (t : TotalShape). t.table) c.self.view_is in
    let x = ap (λ (s : TotalSeated). s.table) c.into.view_is in
    let y = ap (λ (s : TotalSeated). s.table) c.from.view_is in
    let some = c.self.inside.words.some in
    let wide = c.self.inside.words.wide in (
      x ∙ c.requires.seats.0 ∙ sym e,
      y ∙ c.requires.seats.1 ∙ sym e,
      c.from.invariant.0,
      omega arith,
      joins c.self.inside.words.table.shared.key c.into.inside.place.id c.into.inside.place.me.0 c.from.inside.place.id c.from.inside.place.me.0,
    )
