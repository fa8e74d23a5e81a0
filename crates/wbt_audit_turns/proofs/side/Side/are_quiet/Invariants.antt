use Rattle.std.proofs.Common.{◌≡◌, drop}
use Rattle.std.specs.List.{list_all}
use Rattle.wbt_journal.specs.Side.{is_quiet}
use Rattle.wbt_audit_turns.specs.Sides.{side_of}
use Rattle.wbt_audit_turns.proofs.side.Side.are_quiet.Given as goal

abbrev pub invariant-loop-number : goal.invariant-loop-number
invariant-loop-number l = list_all (is_quiet (side_of l.self)) (drop l.number-index l.numbers) ≡ list_all (is_quiet (side_of l.self)) l.numbers
