use Rattle.std.proofs.Common.{◌≡◌, drop}
use Rattle.wbt_journal.specs.Leaves.{is_left_from}
use Rattle.wbt_audit_turns.proofs.ledger.is_left_in_order.Given as goal

abbrev pub invariant-loop-one : goal.invariant-loop-one
invariant-loop-one l = is_left_from l.from (drop l.one-index l.left) ≡ is_left_from 0 l.left
