use Rattle.std.proofs.Common.{refl, arith, eqb, ◌≡◌}
use prog.Atomic.{either}
use Rattle.wbt_book.specs.declared.event.Event.TheVariants as event
use Rattle.wbt_book.specs.PageWords.{word_after}
use Rattle.wbt_table.proofs.Common.{CpuRecord, claim, last_found, page_at, GrantedStep, given, turn}
use Rattle.wbt_table.proofs.Counting.{of_record}
use Rattle.wbt_table.proofs.Paging.{claim_moves, last_given}
use Rattle.wbt_table.specs.declared.layout.Layout.{Layout}
use Rattle.wbt_table.proofs.Turning.{turns, renamed, named_back}
use Rattle.wbt_table.proofs.words.Words.claim.Goals as goal

pub compare_exchange-requires : goal.compare_exchange-requires
compare_exchange-requires g c =
    let key : Layout = c.args.self.now.layout in
    let t = c.args.self.now.table.shared in
    let p = c.args.place.now in
    let h = c.requires.ready in
    let wide = c.args.self.now.wide in
    let inside = c.page_at-word.ensures.inside in
    let last = of_record p.me.0.cpus c.args.cpu h.0 (λ (r : CpuRecord). last_found r.last ≡ c.args.found) h.1 c.requires.found in
    let named : GrantedStep = turn key (claim c.args.cpu c.args.page) c.args.grants in (
      c.requires.seat,
      omega arith,
      renamed t.table_id.slots p.id p.me (page_at c.args.page) c.page_at-word.result (λ n. either (eqb n c.args.found) (word_after (event.Claim c.args.page) c.args.found) n) (λ n. either (eqb n c.args.found) c.claimed_word.result n) key t.key named g.C.Named.turn
          c.page_at-word.ensures.value (λ j n. either (eqb n c.args.found) (c.claimed_word.ensures j) n) c.args.self.now.key c.requires.named
          (turns key t.table_id.slots p.id p.me (claim c.args.cpu c.args.page) c.args.grants h.0 refl h.1 h.2.0 h.2.1 (page_at c.args.page) (λ n. either (eqb n c.args.found) (word_after (event.Claim c.args.page) c.args.found) n) (claim_moves key c.args.cpu c.args.page c.args.found (given c.args.grants h.0) (last_given c.args.grants h.0 c.args.found last))),
    )

pub returns-clause-turned : goal.returns-clause-turned
returns-clause-turned g c = named_back c.args.place.now.me c.compare_exchange.new.seat.me c.compare_exchange.result (turn c.args.self.now.layout (claim c.args.cpu c.args.page) c.args.grants) g.C.Named.turn
    c.requires.named c.compare_exchange.ensures.2
