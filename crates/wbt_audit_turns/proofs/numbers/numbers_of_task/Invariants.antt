use Rattle.std.proofs.Common.{◌≡◌, ◌++◌, drop}
use Rattle.wbt_audit_walk.proofs.Common.{numbers_from}
use Rattle.wbt_audit_turns.proofs.numbers.numbers_of_task.Given as goal

abbrev pub invariant-loop-number : goal.invariant-loop-number
invariant-loop-number l = l.numbers ++ numbers_from l.task l.number (drop l.number l.names) ≡ numbers_from l.task 0 l.names
