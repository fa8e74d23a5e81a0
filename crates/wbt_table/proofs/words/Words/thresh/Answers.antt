use Rattle.std.proofs.Common.{None, refl, arith}
use Rattle.wbt_table.proofs.Common.{thresh_word_of, thresh, thresh_at, GrantedStep, turn}
use Rattle.wbt_table.proofs.Limiting.{thresh_moves}
use Rattle.wbt_table.specs.declared.layout.Layout.{Layout}
use Rattle.wbt_table.proofs.Ticking.{ticks, ticks_renamed, ticked_back}
use Rattle.wbt_table.proofs.words.Words.thresh.Goals as goal

pub swap-requires : goal.swap-requires
swap-requires g c =
    let key : Layout = c.args.self.now.layout in
    let t = c.args.self.now.table.shared in
    let p = c.args.place.now in
    let h = c.requires.ready in
    let wide = c.args.self.now.wide in
    let inside = c.thresh_at-word.ensures.inside in
    let named : GrantedStep = turn key (thresh c.args.domain c.args.triple) None in (
      c.requires.seat,
      omega arith,
      ticks_renamed t.table_id.slots p.id p.me (thresh_at key c.args.domain) c.thresh_at-word.result (λ n. thresh_word_of c.args.triple) (λ n. c.pack_thresh.result) key t.key named g.C.Named.turn
          c.thresh_at-word.ensures.value (λ j n. c.pack_thresh.ensures j) c.args.self.now.key c.requires.named
          (ticks key t.table_id.slots p.id p.me (thresh c.args.domain c.args.triple) h.0 refl h.1 h.2 (thresh_at key c.args.domain) (λ n. thresh_word_of c.args.triple) (thresh_moves key c.args.domain c.args.triple h.0 c.requires.there)),
    )

pub returns-clause-ticked : goal.returns-clause-ticked
returns-clause-ticked g c = ticked_back c.args.place.now.me c.swap.new.seat.me c.swap.result (turn c.args.self.now.layout (thresh c.args.domain c.args.triple) None) g.C.Named.turn
    c.requires.named c.swap.ensures.2
