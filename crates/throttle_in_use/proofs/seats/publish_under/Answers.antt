use Rattle.std.proofs.Common.{arith, ◌∙◌}
use Rattle.wbt_grant.specs.Kinds.{peak}
use Rattle.wbt_grant.specs.Seats.{timer_after}
use Rattle.throttle_in_use.proofs.Steps.{ticks_still}
use Rattle.throttle_in_use.proofs.seats.publish_under.Goals as goal

pub publish-requires-clause-may : goal.publish-requires-clause-may
publish-requires-clause-may g c = let r = c.requires.seat.timer in let raised = c.raise_peak.ensures in (
  timer_after (peak 0 c.args.limits.hard) raised.0 r.0,
  raised.1.timer r.0 r.1,
  record { lawful = c.requires.lawful; raised_before = omega arith },
)

pub returns : goal.returns
returns g c = let was = c.requires.seat in let r = was.timer in let raised = c.raise_peak.ensures in
    ticks_still c.args.throttle.now (g.G.Gate.said c.args.gate.now c.args.throttle.now.layout.cpus) c.raise_peak.new.seat c.publish.new.seat
    (record {
      at = record { table = raised.1.table ∙ was.at.table; layout = raised.1.layout ∙ was.at.layout };
      there = was.there;
      timer = (timer_after (peak 0 c.args.limits.hard) raised.0 r.0, raised.1.timer r.0 r.1);
    }) c.args.limits c.publish.result c.publish.ensures
