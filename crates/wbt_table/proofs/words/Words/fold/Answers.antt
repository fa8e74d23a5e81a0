use Rattle.std.proofs.Common.{◌≡◌, ◌+◌, ◌%◌, ◌^◌, refl, ap, ◌∙◌, arith, to_z-of_z}
use Rattle.wbt_counter.specs.Addends.{fold_addend}
use Rattle.wbt_table.proofs.Common.{CpuRecord, fold, own_told, setting, shared_at, GrantedStep, given, turn}
use Rattle.wbt_table.proofs.Counting.{fold_moves, of_record, own_given}
use Rattle.wbt_table.specs.declared.layout.Layout.{Layout}
use Rattle.wbt_table.proofs.Turning.{turns, renamed, named_back}
use Rattle.wbt_table.proofs.words.Words.fold.Goals as goal

pub fetch_add-requires : goal.fetch_add-requires
fetch_add-requires g c =
    let key : Layout = c.args.self.now.layout in
    let t = c.args.self.now.table.shared in
    let p = c.args.place.now in
    let h = c.requires.ready in
    let wide = c.args.self.now.wide in
    let inside = c.shared_at-word.ensures.inside in
    let owed = of_record p.me.0.cpus c.args.cpu h.0 (λ (r : CpuRecord). own_told (setting key) c.args.counter r ≡ c.args.delta) h.1 c.requires.delta in
    let operand : c.fold_addend.result ≡ fold_addend c.args.delta = c.fold_addend.ensures.value ∙ ap fold_addend (to_z-of_z c.ranges.delta) in
    let named : GrantedStep = turn key (fold c.args.cpu c.args.counter) c.args.grants in (
      c.requires.seat,
      omega arith,
      renamed t.table_id.slots p.id p.me (shared_at key c.args.counter) c.shared_at-word.result (λ n. (n + fold_addend c.args.delta) % 2 ^ 64) (λ n. (n + c.fold_addend.result) % 2 ^ 64) key t.key named g.C.Named.turn
          c.shared_at-word.ensures.value (λ j n. (n + operand j) % 2 ^ 64) c.args.self.now.key c.requires.named
          (turns key t.table_id.slots p.id p.me (fold c.args.cpu c.args.counter) c.args.grants h.0 refl h.1 h.2.0 h.2.1 (shared_at key c.args.counter) (λ n. (n + fold_addend c.args.delta) % 2 ^ 64) (fold_moves key c.args.cpu c.args.counter c.args.delta (given c.args.grants h.0) c.requires.there (own_given (setting key) c.args.grants h.0 c.args.counter c.args.delta owed))),
    )

pub returns-clause-turned : goal.returns-clause-turned
returns-clause-turned g c = named_back c.args.place.now.me c.fetch_add.new.seat.me c.fetch_add.result (turn c.args.self.now.layout (fold c.args.cpu c.args.counter) c.args.grants) g.C.Named.turn
    c.requires.named c.fetch_add.ensures.2
