use Rattle.std.proofs.Common.{◌≡◌, max, drop}
use Rattle.wbt_journal.specs.Leaves.{peak_of}
use Rattle.wbt_audit_turns.proofs.bound.peak_of.Given as goal

abbrev pub invariant-loop-entry : goal.invariant-loop-entry
invariant-loop-entry l = max l.peak (peak_of l.domain (drop l.entry-index l.timer)) ≡ peak_of l.domain l.timer
