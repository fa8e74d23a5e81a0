-- So many rows have been made.
use Rattle.std.proofs.Common.{◌≡◌, [], replicate}
use Rattle.wbt_audit_walk.proofs.table.Table.make.Given as goal

abbrev pub invariant-loop : goal.invariant-loop
invariant-loop g l = l.table.items ≡ replicate l.counter []
