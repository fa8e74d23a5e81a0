use Rattle.std.proofs.Common.{sym, ap, ◌∙◌, arith}
use Rattle.wbt_signals.specs.Signals.{Known}
use Rattle.wbt_signals.proofs.Keeping.{joins}
use Rattle.wbt_signals.proofs.signals.Signals.join.Goals as goal

pub join_seat-requires : goal.join_seat-requires
join_seat-requires c =
    let e = c.self.view_is in
    let x = ap (λ (s : Known). s.signals) c.into.view_is in
    let y = ap (λ (s : Known). s.signals) c.from.view_is in
    let three = c.self.inside.words.three in (
      x ∙ c.requires.voices.0 ∙ sym e,
      y ∙ c.requires.voices.1 ∙ sym e,
      c.from.invariant.0,
      omega arith,
      joins c.self.inside.words.table.shared.key c.into.inside.place.id c.into.inside.place.me.0 c.from.inside.place.id c.from.inside.place.me.0 c.into.invariant.1,
    )
