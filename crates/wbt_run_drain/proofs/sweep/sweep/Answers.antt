use Rattle.std.proofs.Common.{◌+◌, ◌<◌, ◌≤◌, List, length, refl, subst, arith, rules}
use Rattle.wbt_kit.proofs.Common.{Inode}
use Rattle.wbt_run_drain.proofs.Aged.{none_age}
use Rattle.wbt_run_drain.proofs.Queued.{nothing_waits}
use Rattle.wbt_run_drain.proofs.Sweeps.{swept_all, swept_next, swept_put, swept_went, sweeps_now}
use Rattle.wbt_run_drain.proofs.sweep.sweep.Goals as goal

pub inodes-init : goal.inodes-init
inodes-init g c = record {
  sweeps = sweeps_now (g.C.Clock.told c.args.hands.now.clock.now) (g.G.Gate.said c.args.hands.now.gate.now) g.D.Disk.written g.D.Disk.faults c.args.trace.now c.args.hands.now.kit.now c.args.sides.now c.args.seats.now
      c.requires.standing c.requires.ended c.requires.done;
  cleaned = λ inode less. absurd (omega arith);
  put = refl;
}

pub inodes-preserved : goal.inodes-preserved
inodes-preserved g c =
    let e = c.clean.ensures in
    let done = e.done c.if-not-clean.false in
    swept_next (g.C.Clock.told c.args.hands.now.clock.now) (g.G.Gate.said c.args.hands.now.gate.now) g.D.Disk.written g.D.Disk.faults c.args.trace.now c.args.hands.now.kit.now
    c.args.sides.now c.inodes.sides c.clean.new.sides c.args.seats.now c.inodes.seats c.clean.new.seats c.inodes.inode c.inodes.invariant e.went
    e.standing done.0 done.1 (e.cleaned c.if-not-clean.false) e.puts

pub returns-then-not-clean-clause-went : goal.returns-then-not-clean-clause-went
returns-then-not-clean-clause-went g c =
    swept_went (g.C.Clock.told c.args.hands.now.clock.now) (g.G.Gate.said c.args.hands.now.gate.now) g.D.Disk.written g.D.Disk.faults c.args.trace.now c.args.hands.now.kit.now
    c.args.sides.now c.inodes.sides c.clean.new.sides c.args.seats.now c.inodes.seats c.clean.new.seats c.inodes.inode c.inodes.invariant c.clean.ensures.went

pub returns-clause-cleaned : goal.returns-clause-cleaned
returns-clause-cleaned g c = λ ended.
    swept_all (g.C.Clock.told c.args.hands.now.clock.now) (g.G.Gate.said c.args.hands.now.gate.now) g.D.Disk.written g.D.Disk.faults c.args.trace.now c.args.hands.now.kit.now c.args.hands.now.kit.now.published.moment
    c.args.sides.now c.inodes.sides c.args.seats.now c.inodes.seats c.inodes.inode c.requires.lawful c.requires.kit
    (subst (λ (l : List Inode). length l ≤ c.inodes.inode) c.as_slice.ensures c.inodes-test.false) c.inodes.invariant

pub returns-then-not-clean-clause-emptied : goal.returns-then-not-clean-clause-emptied
returns-then-not-clean-clause-emptied g c ended = absurd (c.clean.ensures.ended c.if-not-clean.true ended)

pub returns-clause-emptied : goal.returns-clause-emptied
returns-clause-emptied g c ended =
    let i = c.inodes.invariant.sweeps in
    nothing_waits (g.C.Clock.told c.args.hands.now.clock.now) (g.G.Gate.said c.args.hands.now.gate.now) g.D.Disk.written g.D.Disk.faults c.args.trace.now c.args.hands.now.kit.now
    c.inodes.sides c.inodes.seats i.standing i.done

pub returns-then-not-clean-clause-aged : goal.returns-then-not-clean-clause-aged
returns-then-not-clean-clause-aged g c ended = absurd (c.clean.ensures.ended c.if-not-clean.true ended)

pub returns-clause-aged : goal.returns-clause-aged
returns-clause-aged g c ended =
    let i = c.inodes.invariant.sweeps in
    none_age (g.C.Clock.told c.args.hands.now.clock.now) (g.G.Gate.said c.args.hands.now.gate.now) g.D.Disk.written g.D.Disk.faults c.args.trace.now c.args.hands.now.kit.now
    c.inodes.sides c.inodes.seats i.standing ended i.done

pub returns-then-not-clean-clause-puts : goal.returns-then-not-clean-clause-puts
returns-then-not-clean-clause-puts g c = record {
  inodes = c.inodes.inode + 1;
  within = omega (arith, subst (λ (l : List Inode). c.inodes.inode < length l) c.as_slice.ensures c.inodes-test.true);
  were = swept_put (g.C.Clock.told c.args.hands.now.clock.now) (g.G.Gate.said c.args.hands.now.gate.now) g.D.Disk.written g.D.Disk.faults c.args.trace.now c.args.hands.now.kit.now
      c.args.sides.now c.inodes.sides c.clean.new.sides c.args.seats.now c.inodes.seats c.clean.new.seats c.inodes.inode c.inodes.invariant c.clean.ensures.went c.clean.ensures.puts;
  all = λ ended. absurd (c.clean.ensures.ended c.if-not-clean.true ended);
}

pub returns-clause-puts : goal.returns-clause-puts
returns-clause-puts g c =
    let over : length c.args.trace.now.inodes ≤ c.inodes.inode = subst (λ (l : List Inode). length l ≤ c.inodes.inode) c.as_slice.ensures c.inodes-test.false in
    let there : c.inodes.inode ≤ length c.args.trace.now.inodes = search rules in
    record { inodes = c.inodes.inode; within = there; were = c.inodes.invariant.put; all = λ ended. omega (arith, over, there) }
