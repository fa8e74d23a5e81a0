use Rattle.std.proofs.Common.{◌≡◌, ◌≤◌, ◌*◌}
use Rattle.wbt_steps_tests.proofs.expiry.a_thousand_inodes_come_in_order.Given as goal

abbrev pub invariant-puts : goal.invariant-puts
invariant-puts g l = l.wheel.inodes ≡ 1000

abbrev pub invariant-turns : goal.invariant-turns
invariant-turns g l = (l.now ≤ 16384 * l.turn) × (l.taken ≤ l.turn)
