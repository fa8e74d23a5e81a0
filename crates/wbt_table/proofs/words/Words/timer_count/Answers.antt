use Rattle.std.proofs.Common.{None, refl, arith}
use Rattle.wbt_table.proofs.Common.{CpuRecord, Timer, count, shared_at, GrantedStep, turn}
use Rattle.wbt_table.proofs.Counting.{count_moves}
use Rattle.wbt_table.specs.declared.layout.Layout.{Layout}
use Rattle.wbt_table.proofs.Ticking.{ticks, ticks_renamed, ticked_back, whatever_record}
use Rattle.wbt_table.proofs.words.Words.timer_count.Goals as goal

pub load-requires : goal.load-requires
load-requires g c =
    let key : Layout = c.args.self.now.layout in
    let t = c.args.self.now.table.shared in
    let p = c.args.place.now in
    let h = c.requires.ready in
    let wide = c.args.self.now.wide in
    let inside = c.shared_at-word.ensures.inside in
    let named : GrantedStep = turn key (count Timer c.args.counter) None in (
      c.requires.seat,
      omega arith,
      ticks_renamed t.table_id.slots p.id p.me (shared_at key c.args.counter) c.shared_at-word.result (λ n. n) (λ n. n) key t.key named g.C.Named.turn
          c.shared_at-word.ensures.value (refl) c.args.self.now.key c.requires.named
          (ticks key t.table_id.slots p.id p.me (count Timer c.args.counter) h.0 refl h.1 h.2 (shared_at key c.args.counter) (λ n. n) (whatever_record key (count Timer c.args.counter) h.0 (shared_at key c.args.counter) (λ n. n) (λ (r : CpuRecord). count_moves key Timer c.args.counter r c.requires.there))),
    )

pub returns-clause-ticked : goal.returns-clause-ticked
returns-clause-ticked g c = ticked_back c.args.place.now.me c.load.new.seat.me c.load.result (turn c.args.self.now.layout (count Timer c.args.counter) None) g.C.Named.turn
    c.requires.named c.load.ensures.2
