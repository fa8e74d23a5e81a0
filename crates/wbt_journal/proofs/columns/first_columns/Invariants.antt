use Rattle.std.proofs.Common.{◌≡◌, ◌++◌, drop}
use Rattle.wbt_journal.specs.Steps as spec
use Rattle.wbt_journal.proofs.columns.first_columns.Given as goal

abbrev pub invariant-loop-domain : goal.invariant-loop-domain
invariant-loop-domain l =
    l.columns.items ++ spec.first_columns l.domain l.timer (drop l.domain l.bases) ≡ spec.first_columns 0 l.timer l.bases
