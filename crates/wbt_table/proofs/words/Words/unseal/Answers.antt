use Rattle.std.proofs.Common.{◌+◌, ◌%◌, ◌^◌, None, refl, arith}
use Rattle.wbt_table.proofs.Common.{unseal, sequence_at, GrantedStep, turn}
use Rattle.wbt_table.proofs.Limiting.{unseal_moves}
use Rattle.wbt_table.specs.declared.layout.Layout.{Layout}
use Rattle.wbt_table.proofs.Ticking.{ticks, ticks_renamed, ticked_back}
use Rattle.wbt_table.proofs.words.Words.unseal.Goals as goal

pub fetch_add-requires : goal.fetch_add-requires
fetch_add-requires g c =
    let key : Layout = c.args.self.now.layout in
    let t = c.args.self.now.table.shared in
    let p = c.args.place.now in
    let h = c.requires.ready in
    let wide = c.args.self.now.wide in
    let inside = c.sequence_at-word.ensures.inside in
    let named : GrantedStep = turn key (unseal c.args.domain) None in (
      c.requires.seat,
      omega arith,
      ticks_renamed t.table_id.slots p.id p.me (sequence_at key c.args.domain) c.sequence_at-word.result (λ n. (n + 2 ^ 32) % 2 ^ 64) (λ n. (n + 4294967296) % 2 ^ 64) key t.key named g.C.Named.turn
          c.sequence_at-word.ensures.value refl c.args.self.now.key c.requires.named
          (ticks key t.table_id.slots p.id p.me (unseal c.args.domain) h.0 refl h.1 h.2 (sequence_at key c.args.domain) (λ n. (n + 2 ^ 32) % 2 ^ 64) (unseal_moves key c.args.domain h.0 c.requires.there)),
    )

pub returns-clause-ticked : goal.returns-clause-ticked
returns-clause-ticked g c = ticked_back c.args.place.now.me c.fetch_add.new.seat.me c.fetch_add.result (turn c.args.self.now.layout (unseal c.args.domain) None) g.C.Named.turn
    c.requires.named c.fetch_add.ensures.2
