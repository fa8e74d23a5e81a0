use Rattle.throttle_in_use.specs.Seats.{Loads}
use Rattle.wbt_throttle_versions_tests.proofs.versions.load_often.Given as goal

abbrev pub invariant-loop : goal.invariant-loop
invariant-loop l = Loads l.throttle l.cpu l.seat
