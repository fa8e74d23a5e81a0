use Rattle.std.proofs.Common.{refl, arith, bit_or}
use Rattle.wbt_table.proofs.Common.{mark, mark_at, GrantedStep, given, turn}
use Rattle.wbt_table.proofs.Marking.{mark_moves}
use Rattle.wbt_table.specs.declared.layout.Layout.{Layout}
use Rattle.wbt_table.proofs.Turning.{turns, renamed, named_back}
use Rattle.wbt_table.proofs.words.Words.mark.Goals as goal

pub fetch_or-requires : goal.fetch_or-requires
fetch_or-requires g c =
    let key : Layout = c.args.self.now.layout in
    let t = c.args.self.now.table.shared in
    let p = c.args.place.now in
    let h = c.requires.ready in
    let wide = c.args.self.now.wide in
    let inside = c.mark_at-word.ensures.inside in
    let named : GrantedStep = turn key (mark c.args.cpu c.args.inode) c.args.grants in (
      c.requires.seat,
      omega arith,
      renamed t.table_id.slots p.id p.me (mark_at key c.args.inode) c.mark_at-word.result (λ n. bit_or n 1) (λ n. bit_or n 1) key t.key named g.C.Named.turn
          c.mark_at-word.ensures.value refl c.args.self.now.key c.requires.named
          (turns key t.table_id.slots p.id p.me (mark c.args.cpu c.args.inode) c.args.grants h.0 refl h.1 h.2.0 h.2.1 (mark_at key c.args.inode) (λ n. bit_or n 1) (mark_moves key c.args.cpu c.args.inode (given c.args.grants h.0) c.requires.there)),
    )

pub returns-clause-turned : goal.returns-clause-turned
returns-clause-turned g c = named_back c.args.place.now.me c.fetch_or.new.seat.me c.fetch_or.result (turn c.args.self.now.layout (mark c.args.cpu c.args.inode) c.args.grants) g.C.Named.turn
    c.requires.named c.fetch_or.ensures.2
