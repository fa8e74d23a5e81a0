use Rattle.std.proofs.Common.{ℕ, ◌<◌, length, sym, subst}
use Rattle.wbt_run_drain.proofs.Looking.{placed}
use Rattle.wbt_run_drain.proofs.Putting.{not_put, put_looked, put_marked}
use Rattle.wbt_run_drain.proofs.Sweeps.{found_clean, looked, sweeps_now, turned, turned_went}
use Rattle.wbt_run_drain.proofs.sweep.clean.Goals as goal

pub marked-init : goal.marked-init
marked-init g c = (
  tt,
  tt,
  sweeps_now (g.C.Clock.told c.args.hands.now.clock.now) (g.G.Gate.said c.args.hands.now.gate.now) g.D.Disk.written g.D.Disk.faults c.args.trace.now c.args.hands.now.kit.now c.args.sides.now c.args.seats.now
      c.requires.standing c.requires.ended c.requires.done,
  not_put c.args.trace.now c.args.hands.now.kit.now c.args.inode c.args.seats.now.queue,
)

pub look-requires : goal.look-requires
look-requires g c = let i = c.marked.invariant.2 in
    record { lawful = c.requires.lawful; kit = c.requires.kit; seats = i.standing.seats_are; all = i.standing.all_held; inode = c.requires.inode }

pub turn_device-requires : goal.turn_device-requires
turn_device-requires g c =
    let i = looked (g.C.Clock.told c.args.hands.now.clock.now) (g.G.Gate.said c.args.hands.now.gate.now) g.D.Disk.written g.D.Disk.faults c.args.trace.now c.args.hands.now.kit.now c.args.hands.now.kit.now.published.moment
    c.requires.lawful c.requires.kit c.args.sides.now c.marked.sides c.args.seats.now c.marked.seats c.look.new.seats c.marked.invariant.2 c.look.ensures.untold c.look.ensures.queue in
    let placed_is = placed c.args.trace.now c.args.hands.now.kit.now.published.moment c.args.hands.now.kit.now c.args.inode c.requires.lawful c.requires.kit c.requires.inode in
    record {
      lawful = c.requires.lawful;
      kit = c.requires.kit;
      device = subst (λ (n : ℕ). n < length c.args.hands.now.kit.now.queues.sizes) (sym c.device_of.ensures) placed_is.device;
      standing = i.standing;
      ended = i.ended;
      done = i.done;
    }

pub marked-preserved : goal.marked-preserved
marked-preserved g c = (
  tt,
  tt,
  turned (g.C.Clock.told c.args.hands.now.clock.now) (g.G.Gate.said c.args.hands.now.gate.now) g.D.Disk.written g.D.Disk.faults c.args.trace.now c.args.hands.now.kit.now c.args.hands.now.kit.now.published.moment
      c.requires.lawful c.requires.kit c.args.sides.now c.marked.sides c.args.seats.now c.marked.seats c.look.new.seats c.marked.invariant.2 c.look.ensures.untold c.look.ensures.queue
      c.turn_device.new.sides c.turn_device.new.seats c.turn_device.ensures.went c.turn_device.ensures.standing c.turn_device.ensures.over
      (c.all_ended.ensures.0 c.if-not-all_ended.false),
  put_marked c.args.trace.now c.args.hands.now.kit.now c.args.inode c.device_of.result c.device_of.ensures c.args.seats.now.queue c.look.new.seats.queue c.turn_device.new.seats.queue
      (put_looked c.args.trace.now c.args.hands.now.kit.now c.args.inode c.args.seats.now.queue c.marked.seats.queue c.look.new.seats.queue c.look.ensures.queue c.marked.invariant.3)
      c.turn_device.ensures.puts,
)

pub returns-then-look-clause-standing : goal.returns-then-look-clause-standing
returns-then-look-clause-standing g c =
    (looked (g.C.Clock.told c.args.hands.now.clock.now) (g.G.Gate.said c.args.hands.now.gate.now) g.D.Disk.written g.D.Disk.faults c.args.trace.now c.args.hands.now.kit.now c.args.hands.now.kit.now.published.moment
    c.requires.lawful c.requires.kit c.args.sides.now c.marked.sides c.args.seats.now c.marked.seats c.look.new.seats c.marked.invariant.2 c.look.ensures.untold c.look.ensures.queue).standing

pub returns-then-look-clause-went : goal.returns-then-look-clause-went
returns-then-look-clause-went g c =
    (looked (g.C.Clock.told c.args.hands.now.clock.now) (g.G.Gate.said c.args.hands.now.gate.now) g.D.Disk.written g.D.Disk.faults c.args.trace.now c.args.hands.now.kit.now c.args.hands.now.kit.now.published.moment
    c.requires.lawful c.requires.kit c.args.sides.now c.marked.sides c.args.seats.now c.marked.seats c.look.new.seats c.marked.invariant.2 c.look.ensures.untold c.look.ensures.queue).went

pub returns-then-look-clause-done : goal.returns-then-look-clause-done
returns-then-look-clause-done g c = λ clear. let i = c.marked.invariant.2 in (i.ended, i.done)

pub returns-then-look-clause-cleaned : goal.returns-then-look-clause-cleaned
returns-then-look-clause-cleaned g c = λ clear.
    found_clean (g.C.Clock.told c.args.hands.now.clock.now) (g.G.Gate.said c.args.hands.now.gate.now) g.D.Disk.written g.D.Disk.faults c.args.trace.now c.args.hands.now.kit.now c.args.hands.now.kit.now.published.moment
    c.requires.lawful c.requires.kit c.args.sides.now c.marked.sides c.args.seats.now c.marked.seats c.look.new.seats c.marked.invariant.2 c.look.ensures.untold c.look.ensures.queue
    c.args.inode (λ owes. c.look.ensures.clean owes c.if-look.true)

pub returns-then-not-all_ended-clause-went : goal.returns-then-not-all_ended-clause-went
returns-then-not-all_ended-clause-went g c =
    turned_went (g.C.Clock.told c.args.hands.now.clock.now) (g.G.Gate.said c.args.hands.now.gate.now) g.D.Disk.written g.D.Disk.faults c.args.trace.now c.args.hands.now.kit.now c.args.hands.now.kit.now.published.moment
    c.requires.lawful c.requires.kit c.args.sides.now c.marked.sides c.args.seats.now c.marked.seats c.look.new.seats c.marked.invariant.2 c.look.ensures.untold c.look.ensures.queue
    c.turn_device.new.sides c.turn_device.new.seats c.turn_device.ensures.went

pub returns-then-look-clause-puts : goal.returns-then-look-clause-puts
returns-then-look-clause-puts g c =
    put_looked c.args.trace.now c.args.hands.now.kit.now c.args.inode c.args.seats.now.queue c.marked.seats.queue c.look.new.seats.queue c.look.ensures.queue c.marked.invariant.3

pub returns-then-not-all_ended-clause-puts : goal.returns-then-not-all_ended-clause-puts
returns-then-not-all_ended-clause-puts g c =
    put_marked c.args.trace.now c.args.hands.now.kit.now c.args.inode c.device_of.result c.device_of.ensures c.args.seats.now.queue c.look.new.seats.queue c.turn_device.new.seats.queue
    (put_looked c.args.trace.now c.args.hands.now.kit.now c.args.inode c.args.seats.now.queue c.marked.seats.queue c.look.new.seats.queue c.look.ensures.queue c.marked.invariant.3)
    c.turn_device.ensures.puts
