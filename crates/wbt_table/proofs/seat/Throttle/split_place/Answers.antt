use Rattle.std.proofs.Common.{ℕ, sym, ap, ◌∙◌, subst, arith}
use Rattle.wbt_table.proofs.Common.{Has, Shape}
use Rattle.wbt_table.proofs.Living.{splits}
use Rattle.wbt_table.proofs.seat.Throttle.split_place.Goals as goal

pub split_seat-requires : goal.split_seat-requires
split_seat-requires g c = let h = c.requires.held in let is = c.requires.named in let e = ap (λ (t : Shape). t.table) c.self.view_is in let wide = c.self.inside.words.wide in (
  c.requires.seat ∙ sym e,
  omega arith,
  λ s kept at. splits c.self.inside.words.table.shared.key s kept c.args.place.now.id g.C.Moved.cpu c.args.place.now.me.0 h.0 at (subst (λ (n : ℕ). Has c.args.place.now.me.0.cpus n h.0) (sym is) h.1),
)
