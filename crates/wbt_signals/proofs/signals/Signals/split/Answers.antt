use Rattle.std.proofs.Common.{sym, ap, ◌∙◌, arith}
use Rattle.wbt_signals.specs.Signals.{Known}
use Rattle.wbt_signals.proofs.Keeping.{splits}
use Rattle.wbt_signals.proofs.signals.Signals.split.Goals as goal

pub split_seat-requires : goal.split_seat-requires
split_seat-requires c =
    let e = c.self.view_is in
    let x = ap (λ (s : Known). s.signals) c.voice.view_is in
    let stakes = ap (λ (s : Known). s.stakes) c.voice.view_is in
    let writes = ap (λ (s : Known). s.writes) c.voice.view_is in
    let there = ap (λ (s : Known). s.there) c.voice.view_is in
    let h = c.requires.stakes in
    let k = c.requires.writes in
    let l = c.requires.there in
    let three = c.self.inside.words.three in
    (x ∙ c.requires.voice ∙ sym e, omega arith, splits c.self.inside.words.table.shared.key c.voice.inside.place.id c.voice.inside.place.me.0 (omega arith) (omega arith) (omega arith))
