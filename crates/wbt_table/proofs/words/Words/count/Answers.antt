use Rattle.std.proofs.Common.{refl, arith}
use Rattle.wbt_table.proofs.Common.{count, shared_at, GrantedStep, given, turn}
use Rattle.wbt_table.proofs.Counting.{count_moves}
use Rattle.wbt_table.specs.declared.layout.Layout.{Layout}
use Rattle.wbt_table.proofs.Turning.{turns, renamed, named_back}
use Rattle.wbt_table.proofs.words.Words.count.Goals as goal

pub load-requires : goal.load-requires
load-requires g c =
    let key : Layout = c.args.self.now.layout in
    let t = c.args.self.now.table.shared in
    let p = c.args.place.now in
    let h = c.requires.ready in
    let wide = c.args.self.now.wide in
    let inside = c.shared_at-word.ensures.inside in
    let named : GrantedStep = turn key (count c.args.who c.args.counter) c.args.grants in (
      c.requires.seat,
      omega arith,
      renamed t.table_id.slots p.id p.me (shared_at key c.args.counter) c.shared_at-word.result (λ n. n) (λ n. n) key t.key named g.C.Named.turn
          c.shared_at-word.ensures.value (refl) c.args.self.now.key c.requires.named
          (turns key t.table_id.slots p.id p.me (count c.args.who c.args.counter) c.args.grants h.0 c.requires.by_cpu h.1 h.2.0 h.2.1 (shared_at key c.args.counter) (λ n. n) (count_moves key c.args.who c.args.counter (given c.args.grants h.0) c.requires.there)),
    )

pub returns-clause-turned : goal.returns-clause-turned
returns-clause-turned g c = named_back c.args.place.now.me c.load.new.seat.me c.load.result (turn c.args.self.now.layout (count c.args.who c.args.counter) c.args.grants) g.C.Named.turn
    c.requires.named c.load.ensures.2
