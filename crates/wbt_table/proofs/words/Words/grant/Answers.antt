use Rattle.std.proofs.Common.{None, refl, arith}
use Rattle.wbt_table.proofs.Common.{grant, GrantedStep, turn}
use Rattle.wbt_table.specs.declared.layout.Layout.{Layout}
use Rattle.wbt_table.proofs.Granting.{grant_moves}
use Rattle.wbt_table.proofs.Turning.{turns, renamed, named_back}
use Rattle.wbt_table.proofs.words.Words.grant.Goals as goal

pub load-requires : goal.load-requires
load-requires g c =
    let key : Layout = c.args.self.now.layout in
    let t = c.args.self.now.table.shared in
    let p = c.args.place.now in
    let h = c.requires.ready in
    let wide = c.args.self.now.wide in
    let named : GrantedStep = turn key (grant c.args.writer c.args.left) None in (
      c.requires.seat,
      omega arith,
      renamed t.table_id.slots p.id p.me 0 0 (λ n. n) (λ n. n) key t.key named g.C.Named.turn
          refl refl c.args.self.now.key c.requires.named
          (turns key t.table_id.slots p.id p.me (grant c.args.writer c.args.left) None h.0 refl h.1 h.2.0 h.2.1 0 (λ n. n) (grant_moves key c.args.writer c.args.left h.0)),
    )

pub returns-clause-turned : goal.returns-clause-turned
returns-clause-turned g c = named_back c.args.place.now.me c.load.new.seat.me c.load.result (turn c.args.self.now.layout (grant c.args.writer c.args.left) None) g.C.Named.turn
    c.requires.named c.load.ensures.2
