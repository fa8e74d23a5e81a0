use Rattle.std.proofs.Common.{◌≡◌, drop}
use Rattle.std.specs.List.{list_all}
use Rattle.wbt_journal.specs.Checks.{is_writer_quiet}
use Rattle.wbt_audit_turns.proofs.side.Side.is_all_quiet.Given as goal

abbrev pub invariant-loop-writer : goal.invariant-loop-writer
invariant-loop-writer l = list_all is_writer_quiet (drop l.writer-index l.writer-items) ≡ list_all is_writer_quiet l.writer-items
