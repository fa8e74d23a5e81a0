use Rattle.std.proofs.Common.{None, refl, arith}
use Rattle.wbt_limits.specs.Words.{sequence_word_of}
use Rattle.wbt_table.proofs.Common.{publish, sequence_at, GrantedStep, turn}
use Rattle.wbt_table.proofs.Limiting.{publish_moves}
use Rattle.wbt_table.specs.declared.layout.Layout.{Layout}
use Rattle.wbt_table.proofs.Ticking.{ticks, ticks_renamed, ticked_back}
use Rattle.wbt_table.proofs.words.Words.publish.Goals as goal

pub swap-requires : goal.swap-requires
swap-requires g c =
    let key : Layout = c.args.self.now.layout in
    let t = c.args.self.now.table.shared in
    let p = c.args.place.now in
    let h = c.requires.ready in
    let wide = c.args.self.now.wide in
    let inside = c.sequence_at-word.ensures.inside in
    let named : GrantedStep = turn key (publish c.args.domain c.args.triple) None in (
      c.requires.seat,
      omega arith,
      ticks_renamed t.table_id.slots p.id p.me (sequence_at key c.args.domain) c.sequence_at-word.result (λ n. sequence_word_of c.args.sequence c.args.triple.hard) (λ n. c.pack_hard.result) key t.key named g.C.Named.turn
          c.sequence_at-word.ensures.value (λ j n. c.pack_hard.ensures.value j) c.args.self.now.key c.requires.named
          (ticks key t.table_id.slots p.id p.me (publish c.args.domain c.args.triple) h.0 refl h.1 h.2 (sequence_at key c.args.domain) (λ n. sequence_word_of c.args.sequence c.args.triple.hard) (publish_moves key c.args.domain c.args.triple h.0 c.args.sequence c.requires.there h.3)),
    )

pub returns-clause-ticked : goal.returns-clause-ticked
returns-clause-ticked g c = ticked_back c.args.place.now.me c.swap.new.seat.me c.swap.result (turn c.args.self.now.layout (publish c.args.domain c.args.triple) None) g.C.Named.turn
    c.requires.named c.swap.ensures.2
