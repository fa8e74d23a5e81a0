use Rattle.std.proofs.Common.{refl, arith, bit_and}
use Rattle.wbt_table.proofs.Common.{all_but, complete, page_at, GrantedStep, given, turn}
use Rattle.wbt_book.specs.PageWords.{writeback_mask}
use Rattle.wbt_table.proofs.Paging.{complete_moves}
use Rattle.wbt_table.specs.declared.layout.Layout.{Layout}
use Rattle.wbt_table.proofs.Turning.{turns, renamed, named_back}
use Rattle.wbt_table.proofs.words.Words.complete.Goals as goal

pub fetch_and-requires : goal.fetch_and-requires
fetch_and-requires g c =
    let key : Layout = c.args.self.now.layout in
    let t = c.args.self.now.table.shared in
    let p = c.args.place.now in
    let h = c.requires.ready in
    let wide = c.args.self.now.wide in
    let inside = c.page_at-word.ensures.inside in
    let named : GrantedStep = turn key (complete c.args.cpu c.args.page) c.args.grants in (
      c.requires.seat,
      omega arith,
      renamed t.table_id.slots p.id p.me (page_at c.args.page) c.page_at-word.result (λ n. bit_and n (all_but (writeback_mask c.args.page))) (λ n. bit_and n (all_but c.writeback_mask.result)) key t.key named g.C.Named.turn
          c.page_at-word.ensures.value (λ j n. bit_and n (all_but (c.writeback_mask.ensures j))) c.args.self.now.key c.requires.named
          (turns key t.table_id.slots p.id p.me (complete c.args.cpu c.args.page) c.args.grants h.0 refl h.1 h.2.0 h.2.1 (page_at c.args.page) (λ n. bit_and n (all_but (writeback_mask c.args.page))) (complete_moves key c.args.cpu c.args.page (given c.args.grants h.0))),
    )

pub returns-clause-turned : goal.returns-clause-turned
returns-clause-turned g c = named_back c.args.place.now.me c.fetch_and.new.seat.me c.fetch_and.result (turn c.args.self.now.layout (complete c.args.cpu c.args.page) c.args.grants) g.C.Named.turn
    c.requires.named c.fetch_and.ensures.2
