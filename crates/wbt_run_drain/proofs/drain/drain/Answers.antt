use Rattle.std.proofs.Common.{◌≡◌, Bool, true, false, not, refl, sym, ◌∙◌}
use Rattle.wbt_run_drain.proofs.Aged.{none_age}
use Rattle.wbt_run_drain.proofs.Passing.{none_later, stops_later}
use Rattle.wbt_run_drain.proofs.Queued.{nothing_waits}
use Rattle.wbt_run_drain.proofs.Turning.{went_more}
use Rattle.wbt_run_drain.proofs.drain.drain.Goals as goal

not_again : (b : Bool) → not b ≡ true → b ≡ false
not_again true is = sym is
not_again false is = refl

still_again : (b : Bool) → not b ≡ false → b ≡ true
still_again true is = refl
still_again false is = sym is

pub returns-then-not-pass-clause-went : goal.returns-then-not-pass-clause-went
returns-then-not-pass-clause-went g c = went_more c.args.trace.now c.args.sides.now c.passes.sides c.pass_all-pass.new.sides c.args.seats.now c.passes.seats c.pass_all-pass.new.seats
    c.passes.invariant.3 c.pass_all-pass.ensures.went

pub passes-preserved-then-not-pass-2 : goal.passes-preserved-then-not-pass-2
passes-preserved-then-not-pass-2 g c = (
  tt,
  tt,
  c.pass_all-pass.ensures.standing,
  went_more c.args.trace.now c.args.sides.now c.passes.sides c.pass_all-pass.new.sides c.args.seats.now c.passes.seats c.pass_all-pass.new.seats
      c.passes.invariant.3 c.pass_all-pass.ensures.went,
  none_later c.args.sides.now c.passes.sides c.pass_all-pass.new.sides (c.passes.invariant.2.many ∙ sym c.requires.standing.many) c.passes.invariant.4
      (c.pass_all-pass.ensures.goes (still_again c.pass_all-pass.result.again c.if-not-pass.false)),
)

pub passes-preserved : goal.passes-preserved
passes-preserved g c = (
  tt,
  tt,
  c.pass_all-pass.ensures.standing,
  went_more c.args.trace.now c.args.sides.now c.passes.sides c.pass_all-pass.new.sides c.args.seats.now c.passes.seats c.pass_all-pass.new.seats
      c.passes.invariant.3 c.pass_all-pass.ensures.went,
  none_later c.args.sides.now c.passes.sides c.pass_all-pass.new.sides (c.passes.invariant.2.many ∙ sym c.requires.standing.many) c.passes.invariant.4
      (c.pass_all-pass.ensures.goes (still_again c.pass_all-pass.result.again c.if-not-pass.false)),
)

pub returns-then-not-pass-clause-emptied : goal.returns-then-not-pass-clause-emptied
returns-then-not-pass-clause-emptied g c ended =
    let e = c.pass_all-pass.ensures in
    nothing_waits (g.C.Clock.told c.args.hands.now.clock.now) (g.G.Gate.said c.args.hands.now.gate.now) g.D.Disk.written g.D.Disk.faults c.args.trace.now c.args.hands.now.kit.now
    c.pass_all-pass.new.sides c.pass_all-pass.new.seats e.standing (e.over (not_again c.pass_all-pass.result.again c.if-not-pass.true) ended)

pub returns-then-not-pass-clause-aged : goal.returns-then-not-pass-clause-aged
returns-then-not-pass-clause-aged g c ended =
    let e = c.pass_all-pass.ensures in
    none_age (g.C.Clock.told c.args.hands.now.clock.now) (g.G.Gate.said c.args.hands.now.gate.now) g.D.Disk.written g.D.Disk.faults c.args.trace.now c.args.hands.now.kit.now
    c.pass_all-pass.new.sides c.pass_all-pass.new.seats e.standing ended (e.over (not_again c.pass_all-pass.result.again c.if-not-pass.true) ended)

pub returns-then-not-pass-clause-others : goal.returns-then-not-pass-clause-others
returns-then-not-pass-clause-others g c = c.pass_all-pass.ensures.others (not_again c.pass_all-pass.result.again c.if-not-pass.true)

pub returns-then-not-pass-clause-stops : goal.returns-then-not-pass-clause-stops
returns-then-not-pass-clause-stops g c = stops_later c.args.sides.now c.passes.sides c.pass_all-pass.new.sides (c.passes.invariant.2.many ∙ sym c.requires.standing.many)
    c.passes.invariant.4 c.pass_all-pass.ensures.stops
