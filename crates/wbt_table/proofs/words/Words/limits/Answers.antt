use Rattle.std.proofs.Common.{refl, arith}
use Rattle.wbt_table.proofs.Common.{limits, sequence_at, GrantedStep, given, turn}
use Rattle.wbt_table.proofs.Limiting.{limits_moves}
use Rattle.wbt_table.specs.declared.layout.Layout.{Layout}
use Rattle.wbt_table.proofs.Turning.{turns, renamed, named_back}
use Rattle.wbt_table.proofs.words.Words.limits.Goals as goal

pub load-requires : goal.load-requires
load-requires g c =
    let key : Layout = c.args.self.now.layout in
    let t = c.args.self.now.table.shared in
    let p = c.args.place.now in
    let h = c.requires.ready in
    let wide = c.args.self.now.wide in
    let inside = c.sequence_at-word.ensures.inside in
    let named : GrantedStep = turn key (limits c.args.who c.args.domain) c.args.grants in (
      c.requires.seat,
      omega arith,
      renamed t.table_id.slots p.id p.me (sequence_at key c.args.domain) c.sequence_at-word.result (λ n. n) (λ n. n) key t.key named g.C.Named.turn
          c.sequence_at-word.ensures.value (refl) c.args.self.now.key c.requires.named
          (turns key t.table_id.slots p.id p.me (limits c.args.who c.args.domain) c.args.grants h.0 c.requires.by_cpu h.1 h.2.0 h.2.1 (sequence_at key c.args.domain) (λ n. n) (limits_moves key c.args.who c.args.domain (given c.args.grants h.0) c.requires.there)),
    )

pub returns-clause-turned : goal.returns-clause-turned
returns-clause-turned g c = named_back c.args.place.now.me c.load.new.seat.me c.load.result (turn c.args.self.now.layout (limits c.args.who c.args.domain) c.args.grants) g.C.Named.turn
    c.requires.named c.load.ensures.2
