use Rattle.std.proofs.Common.{◌≡◌, ◌+◌, ◌-◌, ◌%◌, ◌^◌, refl, ap, ◌∙◌, arith, to_z-of_z}
use Rattle.wbt_table.proofs.Common.{to_clear, addend_of, debt_to, CpuRecord, clear, own_at, GrantedStep, given, turn}
use Rattle.wbt_table.proofs.Counting.{clear_moves, of_record, clears_given}
use Rattle.wbt_table.specs.declared.layout.Layout.{Layout}
use Rattle.wbt_table.proofs.Turning.{turns, renamed, named_back}
use Rattle.wbt_table.proofs.words.Words.clear.Goals as goal

pub fetch_sub-requires : goal.fetch_sub-requires
fetch_sub-requires g c =
    let key : Layout = c.args.self.now.layout in
    let t = c.args.self.now.table.shared in
    let p = c.args.place.now in
    let h = c.requires.ready in
    let wide = c.args.self.now.wide in
    let inside = c.own_at-word.ensures.inside in
    let owed = of_record p.me.0.cpus c.args.cpu h.0 (λ (r : CpuRecord). to_clear (debt_to c.args.counter r.debts) ≡ c.args.folded) h.1 c.requires.folded in
    let operand : c.addend_of.result ≡ addend_of c.args.folded = c.addend_of.ensures ∙ ap addend_of (to_z-of_z c.ranges.folded) in
    let named : GrantedStep = turn key (clear c.args.cpu c.args.counter) c.args.grants in (
      c.requires.seat,
      omega arith,
      renamed t.table_id.slots p.id p.me (own_at key c.args.counter c.args.cpu) c.own_at-word.result (λ n. (n + (2 ^ 64 - addend_of c.args.folded)) % 2 ^ 64) (λ n. (n + (2 ^ 64 - c.addend_of.result)) % 2 ^ 64) key t.key named g.C.Named.turn
          c.own_at-word.ensures.value (λ j n. (n + (2 ^ 64 - operand j)) % 2 ^ 64) c.args.self.now.key c.requires.named
          (turns key t.table_id.slots p.id p.me (clear c.args.cpu c.args.counter) c.args.grants h.0 refl h.1 h.2.0 h.2.1 (own_at key c.args.counter c.args.cpu) (λ n. (n + (2 ^ 64 - addend_of c.args.folded)) % 2 ^ 64) (clear_moves key c.args.cpu c.args.counter c.args.folded (given c.args.grants h.0) c.requires.there (clears_given c.args.grants h.0 c.args.counter c.args.folded owed))),
    )

pub returns-clause-turned : goal.returns-clause-turned
returns-clause-turned g c = named_back c.args.place.now.me c.fetch_sub.new.seat.me c.fetch_sub.result (turn c.args.self.now.layout (clear c.args.cpu c.args.counter) c.args.grants) g.C.Named.turn
    c.requires.named c.fetch_sub.ensures.2
