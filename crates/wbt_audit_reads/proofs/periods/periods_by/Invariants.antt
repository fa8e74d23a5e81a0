-- There are the periods after the entries so far.
use Rattle.std.proofs.Common.{◌≡◌, length, take}
use Rattle.wbt_audit_reads.specs.Periods.{ArePeriods}
use Rattle.wbt_audit_reads.proofs.periods.periods_by.Given as goal

abbrev pub invariant-loop-entry : goal.invariant-loop-entry
invariant-loop-entry l = record {
  room : length l.periods ≡ l.places.domains;
  are : ArePeriods l.places (take l.entry-index l.timer) l.periods;
}
