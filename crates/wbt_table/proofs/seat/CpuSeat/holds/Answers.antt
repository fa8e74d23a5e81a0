use Rattle.std.proofs.Common.{true≢false, sym, ◌∙◌, arith}
use Rattle.atomic_table.proofs.Lists.{at_index}
use Rattle.wbt_table.proofs.Splitting.{holds_timer, holds_none, holds_cpu}
use Rattle.wbt_table.proofs.seat.CpuSeat.holds.Goals as goal

pub returns-then-cpu-len : goal.returns-then-cpu-len
returns-then-cpu-len c = let s = c.self.inside in
    let l = c.len.ensures in
    let is = c.if-cpu-len.true in
    let t = holds_timer s.place.table_id s.place.me s.cpus.items s.lefts.items s.timer c.args.self.now c.self.view_is c.self.invariant.seat c.args.cpu (omega arith) in
    (λ b. t.0 (sym c.is_some.ensures ∙ b), λ held. c.is_some.ensures ∙ t.1 held)

pub returns-then-cpu-len-2 : goal.returns-then-cpu-len-2
returns-then-cpu-len-2 c = let s = c.self.inside in
    let l = c.len-2.ensures in
    let more = c.if-cpu-len-2.true in
    (λ b. absurd (true≢false (sym b)), λ held. absurd (holds_none s.place.table_id s.place.me s.cpus.items s.lefts.items s.timer c.args.self.now c.self.view_is c.self.invariant.seat c.args.cpu (omega arith) held))

pub returns : goal.returns
returns c = let s = c.self.inside in
    let l = c.len.ensures in
    let l' = c.len-2.ensures in
    let ne = c.if-cpu-len.false in
    let le = c.if-cpu-len-2.false in
    let t = holds_cpu s.place.table_id s.place.me s.cpus.items s.lefts.items s.timer c.args.self.now c.self.view_is c.self.invariant.seat c.args.cpu c.index.result.now (at_index s.cpus.items c.args.cpu c.index.result.now (omega arith) c.index.ensures) in
    (λ b. t.0 (sym c.is_some-2.ensures ∙ b), λ held. c.is_some-2.ensures ∙ t.1 held)
