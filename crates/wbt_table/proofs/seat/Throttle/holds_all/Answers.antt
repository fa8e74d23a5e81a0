use Rattle.std.proofs.Common.{refl, sym, ap, ◌∙◌, arith, true≢false}
use Rattle.wbt_table.proofs.Common.{CpuRecord, Has, Shape, Seated}
use Rattle.wbt_table.specs.declared.layout.Layout.{Layout}
use Rattle.wbt_table.specs.Seat.{as_cpu}
use Rattle.wbt_table.proofs.Splitting.{cpu_of, no_timer}
use Rattle.wbt_table.proofs.Trying.{one_further}
use Rattle.wbt_table.proofs.seat.Throttle.holds_all.Goals as goal

pub loop-cpu-preserved : goal.loop-cpu-preserved
loop-cpu-preserved c i less = let s = c.self.inside in
    let e = ap (λ (t : Shape). t.layout.cpus) c.self.view_is in
    let k = ap (λ (l : Layout). l.cpus) c.requires.layout in
    let more = c.loop-cpu-test.true in
    let here = cpu_of c.args.seat.now c.loop-cpu.cpu (λ same. omega arith) (c.if-not-holds.ensures.0 refl) in
    one_further (λ j. (r : CpuRecord) × Has c.args.seat.now.cpus j r) c.loop-cpu.cpu i c.loop-cpu.invariant here less

pub returns-then-not-holds : goal.returns-then-not-holds
returns-then-not-holds c = let s = c.self.inside in
    let e = ap (λ (t : Shape). t.layout.cpus) c.self.view_is in
    let k = ap (λ (l : Layout). l.cpus) c.requires.layout in
    let more = c.loop-cpu-test.true in (
      λ is. absurd (true≢false (sym is)),
      λ all. let its = all.cpus c.loop-cpu.cpu (omega arith) in
          absurd (true≢false (sym (c.if-not-holds.ensures.1 (as_cpu its.0 its.1)))),
    )

pub returns : goal.returns
returns c = let s = c.seat.inside in
    let e = ap (λ (t : Shape). t.layout.cpus) c.self.view_is in
    let k = ap (λ (l : Layout). l.cpus) c.requires.layout in
    let more = c.loop-cpu-test.false in
    let timer = no_timer s.timer s.place.me.0.timer c.seat.invariant.seat.keeps_timer in
    let shown = ap (λ (z : Seated). z.timer) c.seat.view_is in (
      λ is. let t = timer.0 (sym c.is_some.ensures ∙ is) in record {
        cpus = λ i l. c.loop-cpu.invariant i (omega arith);
        timer = (t.0, sym shown ∙ t.1);
      },
      λ all. c.is_some.ensures ∙ timer.1 all.timer.0 (shown ∙ all.timer.1),
    )
