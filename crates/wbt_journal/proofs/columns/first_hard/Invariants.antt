use Rattle.std.proofs.Common.{◌≡◌, drop}
use Rattle.wbt_journal.specs.Steps.{first_hard}
use Rattle.wbt_journal.proofs.columns.first_hard.Given as goal

abbrev pub invariant-loop-entry : goal.invariant-loop-entry
invariant-loop-entry l = first_hard l.domain (drop l.entry-index l.timer) ≡ first_hard l.domain l.timer
