use Rattle.std.proofs.Common.{max, None, refl, arith}
use Rattle.wbt_table.proofs.Common.{peak, peak_at, GrantedStep, turn}
use Rattle.wbt_table.proofs.Limiting.{peak_moves}
use Rattle.wbt_table.specs.declared.layout.Layout.{Layout}
use Rattle.wbt_table.proofs.Ticking.{ticks, ticks_renamed, ticked_back}
use Rattle.wbt_table.proofs.words.Words.raise.Goals as goal

pub fetch_max-requires : goal.fetch_max-requires
fetch_max-requires g c =
    let key : Layout = c.args.self.now.layout in
    let t = c.args.self.now.table.shared in
    let p = c.args.place.now in
    let h = c.requires.ready in
    let wide = c.args.self.now.wide in
    let inside = c.peak_at-word.ensures.inside in
    let named : GrantedStep = turn key (peak c.args.domain c.args.hard) None in (
      c.requires.seat,
      omega arith,
      ticks_renamed t.table_id.slots p.id p.me (peak_at key c.args.domain) c.peak_at-word.result (λ n. max n c.args.hard) (λ n. max n c.args.hard) key t.key named g.C.Named.turn
          c.peak_at-word.ensures.value (refl) c.args.self.now.key c.requires.named
          (ticks key t.table_id.slots p.id p.me (peak c.args.domain c.args.hard) h.0 refl h.1 h.2 (peak_at key c.args.domain) (λ n. max n c.args.hard) (peak_moves key c.args.domain c.args.hard h.0 c.requires.there)),
    )

pub returns-clause-ticked : goal.returns-clause-ticked
returns-clause-ticked g c = ticked_back c.args.place.now.me c.fetch_max.new.seat.me c.fetch_max.result (turn c.args.self.now.layout (peak c.args.domain c.args.hard) None) g.C.Named.turn
    c.requires.named c.fetch_max.ensures.2
