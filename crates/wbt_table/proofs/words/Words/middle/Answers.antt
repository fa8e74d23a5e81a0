use Rattle.std.proofs.Common.{refl, arith}
use Rattle.wbt_table.proofs.Common.{middle, thresh_at, GrantedStep, given, turn}
use Rattle.wbt_table.proofs.Limiting.{middle_moves}
use Rattle.wbt_table.specs.declared.layout.Layout.{Layout}
use Rattle.wbt_table.proofs.Turning.{turns, renamed, named_back}
use Rattle.wbt_table.proofs.words.Words.middle.Goals as goal

pub load-requires : goal.load-requires
load-requires g c =
    let key : Layout = c.args.self.now.layout in
    let t = c.args.self.now.table.shared in
    let p = c.args.place.now in
    let h = c.requires.ready in
    let wide = c.args.self.now.wide in
    let inside = c.thresh_at-word.ensures.inside in
    let named : GrantedStep = turn key (middle c.args.cpu c.args.domain) c.args.grants in (
      c.requires.seat,
      omega arith,
      renamed t.table_id.slots p.id p.me (thresh_at key c.args.domain) c.thresh_at-word.result (λ n. n) (λ n. n) key t.key named g.C.Named.turn
          c.thresh_at-word.ensures.value (refl) c.args.self.now.key c.requires.named
          (turns key t.table_id.slots p.id p.me (middle c.args.cpu c.args.domain) c.args.grants h.0 refl h.1 h.2.0 h.2.1 (thresh_at key c.args.domain) (λ n. n) (middle_moves key c.args.cpu c.args.domain (given c.args.grants h.0) c.requires.there)),
    )

pub returns-clause-turned : goal.returns-clause-turned
returns-clause-turned g c = named_back c.args.place.now.me c.load.new.seat.me c.load.result (turn c.args.self.now.layout (middle c.args.cpu c.args.domain) c.args.grants) g.C.Named.turn
    c.requires.named c.load.ensures.2
