use Rattle.std.proofs.Common.{refl, arith, eqb, ◌≡◌}
use prog.Atomic.{either}
use Rattle.wbt_book.specs.PageWords.{back_in}
use Rattle.wbt_table.proofs.Common.{CpuRecord, back, last_found, page_at, GrantedStep, given, turn}
use Rattle.wbt_table.proofs.Counting.{of_record}
use Rattle.wbt_table.proofs.Paging.{back_moves, last_given}
use Rattle.wbt_table.specs.declared.layout.Layout.{Layout}
use Rattle.wbt_table.proofs.Turning.{turns, renamed, named_back}
use Rattle.wbt_table.proofs.words.Words.back.Goals as goal

pub compare_exchange-requires : goal.compare_exchange-requires
compare_exchange-requires g c =
    let key : Layout = c.args.self.now.layout in
    let t = c.args.self.now.table.shared in
    let p = c.args.place.now in
    let h = c.requires.ready in
    let wide = c.args.self.now.wide in
    let inside = c.page_at-word.ensures.inside in
    let last = of_record p.me.0.cpus c.args.cpu h.0 (λ (r : CpuRecord). last_found r.last ≡ c.args.found) h.1 c.requires.found in
    let named : GrantedStep = turn key (back c.args.cpu c.args.page) c.args.grants in (
      c.requires.seat,
      omega arith,
      renamed t.table_id.slots p.id p.me (page_at c.args.page) c.page_at-word.result (λ n. either (eqb n c.args.found) (back_in c.args.found c.args.page) n) (λ n. either (eqb n c.args.found) c.back_word.result n) key t.key named g.C.Named.turn
          c.page_at-word.ensures.value (λ j n. either (eqb n c.args.found) (c.back_word.ensures j) n) c.args.self.now.key c.requires.named
          (turns key t.table_id.slots p.id p.me (back c.args.cpu c.args.page) c.args.grants h.0 refl h.1 h.2.0 h.2.1 (page_at c.args.page) (λ n. either (eqb n c.args.found) (back_in c.args.found c.args.page) n) (back_moves key c.args.cpu c.args.page c.args.found (given c.args.grants h.0) (last_given c.args.grants h.0 c.args.found last))),
    )

pub returns-clause-turned : goal.returns-clause-turned
returns-clause-turned g c = named_back c.args.place.now.me c.compare_exchange.new.seat.me c.compare_exchange.result (turn c.args.self.now.layout (back c.args.cpu c.args.page) c.args.grants) g.C.Named.turn
    c.requires.named c.compare_exchange.ensures.2
