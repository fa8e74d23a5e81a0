use Rattle.std.proofs.Common.{refl, arith}
use Rattle.wbt_table.proofs.Common.{look, page_at, GrantedStep, given, turn}
use Rattle.wbt_table.proofs.Paging.{look_moves}
use Rattle.wbt_table.specs.declared.layout.Layout.{Layout}
use Rattle.wbt_table.proofs.Turning.{turns, renamed, named_back}
use Rattle.wbt_table.proofs.words.Words.look.Goals as goal

pub load-requires : goal.load-requires
load-requires g c =
    let key : Layout = c.args.self.now.layout in
    let t = c.args.self.now.table.shared in
    let p = c.args.place.now in
    let h = c.requires.ready in
    let wide = c.args.self.now.wide in
    let inside = c.page_at-word.ensures.inside in
    let named : GrantedStep = turn key (look c.args.cpu c.args.page) c.args.grants in (
      c.requires.seat,
      omega arith,
      renamed t.table_id.slots p.id p.me (page_at c.args.page) c.page_at-word.result (λ n. n) (λ n. n) key t.key named g.C.Named.turn
          c.page_at-word.ensures.value (refl) c.args.self.now.key c.requires.named
          (turns key t.table_id.slots p.id p.me (look c.args.cpu c.args.page) c.args.grants h.0 refl h.1 h.2.0 h.2.1 (page_at c.args.page) (λ n. n) (look_moves key c.args.cpu c.args.page (given c.args.grants h.0))),
    )

pub returns-clause-turned : goal.returns-clause-turned
returns-clause-turned g c = named_back c.args.place.now.me c.load.new.seat.me c.load.result (turn c.args.self.now.layout (look c.args.cpu c.args.page) c.args.grants) g.C.Named.turn
    c.requires.named c.load.ensures.2
