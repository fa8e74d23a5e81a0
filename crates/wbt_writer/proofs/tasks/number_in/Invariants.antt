use Rattle.std.proofs.Common.{◌≡◌, drop}
use Rattle.wbt_writer.proofs.Common.{number_from}
use Rattle.wbt_writer.proofs.tasks.number_in.Given as goal

abbrev pub invariant-loop-number : goal.invariant-loop-number
invariant-loop-number l = number_from l.task l.context l.number (drop l.number l.names) ≡ number_from l.task l.context 0 l.names
