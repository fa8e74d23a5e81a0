use Rattle.std.proofs.Common.{true≢false, length, sym, ap, ◌∙◌, arith}
use Rattle.std.proofs.lemmas.List.{get_or_default}
use Rattle.wbt_run_worker.specs.declared.side.CpuSide.{CpuSide}
use Rattle.wbt_run_drain.proofs.Passing.{all_on, all_others, all_over, all_stop, stops_here, there_after}
use Rattle.wbt_run_drain.proofs.Turning.{went_more}
use Rattle.wbt_run_drain.proofs.drain.pass_all.Goals as goal

pub returns-then-ends_so-clause-went : goal.returns-then-ends_so-clause-went
returns-then-ends_so-clause-went g c = went_more c.args.trace.now c.args.sides.now c.cpus.sides c.pass_side-pass.new.sides c.args.seats.now c.cpus.seats c.pass_side-pass.new.seats
    c.cpus.invariant.went c.pass_side-pass.ensures.went

pub returns-then-ends_so-clause-stops : goal.returns-then-ends_so-clause-stops
returns-then-ends_so-clause-stops g c = stops_here (g.C.Clock.told c.args.hands.now.clock.now) (g.G.Gate.said c.args.hands.now.gate.now) g.D.Disk.written g.D.Disk.faults c.args.trace.now c.args.hands.now.kit.now
    c.cpus.cpu (length c.args.sides.now) c.args.sides.now c.cpus.sides c.pass_side-pass.new.sides c.args.seats.now c.cpus.seats c.pass_side-pass.new.seats
    c.cpus.pass.again c.pass_side-pass.result.again c.cpus.invariant c.pass_side-pass.ensures.standing c.pass_side-pass.ensures.went c.pass_side-pass.ensures.only
    c.pass_side-pass.ensures.before c.pass_side-pass.ensures.over

pub cpus-preserved : goal.cpus-preserved
cpus-preserved g c = all_on (g.C.Clock.told c.args.hands.now.clock.now) (g.G.Gate.said c.args.hands.now.gate.now) g.D.Disk.written g.D.Disk.faults c.args.trace.now c.args.hands.now.kit.now
    c.cpus.cpu (length c.args.sides.now) c.args.sides.now c.cpus.sides c.pass_side-pass.new.sides c.args.seats.now c.cpus.seats c.pass_side-pass.new.seats
    c.cpus.pass.again c.pass_side-pass.result.again c.cpus.invariant c.pass_side-pass.ensures.standing c.pass_side-pass.ensures.went c.pass_side-pass.ensures.only
    c.pass_side-pass.ensures.before c.pass_side-pass.ensures.over (λ other is.
    true≢false (sym (c.if-ends_so.ensures.1
    (ap (λ (s : CpuSide g.row.D.Denot). s.end) (get_or_default c.pass_side-pass.new.sides c.cpus.cpu c.index-sides-cpu.result other
    (there_after c.cpus.cpu c.cpus.sides c.pass_side-pass.new.sides c.pass_side-pass.ensures.only (omega (arith, c.cpus.invariant.many, c.cpus-test.true)))) ∙ is))))

pub returns-clause-over : goal.returns-clause-over
returns-clause-over g c = all_over (g.C.Clock.told c.args.hands.now.clock.now) (g.G.Gate.said c.args.hands.now.gate.now) g.D.Disk.written g.D.Disk.faults c.args.trace.now c.args.hands.now.kit.now
    c.cpus.cpu (length c.args.sides.now) c.args.sides.now c.cpus.sides c.args.seats.now c.cpus.seats c.cpus.pass.again c.cpus.invariant c.cpus-test.false

pub returns-clause-others : goal.returns-clause-others
returns-clause-others g c none _refused = all_others (g.C.Clock.told c.args.hands.now.clock.now) (g.G.Gate.said c.args.hands.now.gate.now) g.D.Disk.written g.D.Disk.faults c.args.trace.now c.args.hands.now.kit.now
    c.cpus.cpu (length c.args.sides.now) c.args.sides.now c.cpus.sides c.args.seats.now c.cpus.seats c.cpus.pass.again c.cpus.invariant c.cpus-test.false none

pub returns-clause-goes : goal.returns-clause-goes
returns-clause-goes g c _again = c.cpus.invariant.refused

pub returns-clause-stops : goal.returns-clause-stops
returns-clause-stops g c = all_stop (g.C.Clock.told c.args.hands.now.clock.now) (g.G.Gate.said c.args.hands.now.gate.now) g.D.Disk.written g.D.Disk.faults c.args.trace.now c.args.hands.now.kit.now
    c.cpus.cpu (length c.args.sides.now) c.args.sides.now c.cpus.sides c.args.seats.now c.cpus.seats c.cpus.pass.again c.cpus.invariant
