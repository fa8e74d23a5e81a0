use Rattle.throttle_in_use.specs.Seats.{Ticks}
use Rattle.wbt_throttle_versions_tests.proofs.versions.publish_often.Given as goal

abbrev pub invariant-loop-before : goal.invariant-loop-before
invariant-loop-before l = Ticks l.throttle l.seat
