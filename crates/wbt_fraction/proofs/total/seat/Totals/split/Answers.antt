use Rattle.std.proofs.Common.{ℕ, ◌^◌, ◌≤◌, List, sym, ap, ◌∙◌, subst, arith}
use Rattle.wbt_fraction.specs.Totals.{TotalSeated, TotalShape, room_of}
use Rattle.wbt_fraction.proofs.Counting.{splits}
use Rattle.wbt_fraction.proofs.total.seat.Totals.split.Goals as goal

pub split_seat-requires : goal.split_seat-requires
split_seat-requires c =
    let e = ap (λ (t : TotalShape). t.table) c.self.view_is in
    let n = ap (λ (t : TotalShape). t.contexts) c.self.view_is in
    let x = ap (λ (s : TotalSeated). s.table) c.seat.view_is in
    let stakes = ap (λ (s : TotalSeated). s.stakes) c.seat.view_is in
    let h = c.requires.stakes in
    let key = c.self.inside.words.key in
    let some = c.self.inside.words.some in
    let wide = c.self.inside.words.wide in (
      x ∙ c.requires.seat ∙ sym e,
      omega arith,
      splits c.self.inside.words.table.shared.key c.seat.inside.place.id c.seat.inside.place.me.0 (omega arith)
          (λ i less. subst (λ (l : List ℕ). 2 ^ 33 ≤ room_of i l) (sym (ap (λ (s : TotalSeated). s.rooms) c.seat.view_is)) (c.requires.room i (omega arith))),
    )
