use Rattle.std.proofs.Common.{refl, arith, bit_or}
use Rattle.wbt_book.specs.PageWords.{dirty_mask}
use Rattle.wbt_table.proofs.Common.{dirty, page_at, GrantedStep, given, turn}
use Rattle.wbt_table.proofs.Paging.{dirty_moves}
use Rattle.wbt_table.specs.declared.layout.Layout.{Layout}
use Rattle.wbt_table.proofs.Turning.{turns, renamed, named_back}
use Rattle.wbt_table.proofs.words.Words.dirty.Goals as goal

pub fetch_or-requires : goal.fetch_or-requires
fetch_or-requires g c =
    let key : Layout = c.args.self.now.layout in
    let t = c.args.self.now.table.shared in
    let p = c.args.place.now in
    let h = c.requires.ready in
    let wide = c.args.self.now.wide in
    let inside = c.page_at-word.ensures.inside in
    let named : GrantedStep = turn key (dirty c.args.writer c.args.page) c.args.grants in (
      c.requires.seat,
      omega arith,
      renamed t.table_id.slots p.id p.me (page_at c.args.page) c.page_at-word.result (λ n. bit_or n (dirty_mask c.args.page)) (λ n. bit_or n c.dirty_mask.result) key t.key named g.C.Named.turn
          c.page_at-word.ensures.value (λ j n. bit_or n (c.dirty_mask.ensures j)) c.args.self.now.key c.requires.named
          (turns key t.table_id.slots p.id p.me (dirty c.args.writer c.args.page) c.args.grants h.0 refl h.1 h.2.0 h.2.1 (page_at c.args.page) (λ n. bit_or n (dirty_mask c.args.page)) (dirty_moves key c.args.writer c.args.page (given c.args.grants h.0))),
    )

pub returns-clause-turned : goal.returns-clause-turned
returns-clause-turned g c = named_back c.args.place.now.me c.fetch_or.new.seat.me c.fetch_or.result (turn c.args.self.now.layout (dirty c.args.writer c.args.page) c.args.grants) g.C.Named.turn
    c.requires.named c.fetch_or.ensures.2
