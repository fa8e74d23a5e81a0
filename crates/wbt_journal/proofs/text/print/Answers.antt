use Rattle.std.proofs.Common.{sym, ◌∙◌}
use Rattle.wbt_journal.specs.Text.{journal_text}
use Rattle.wbt_journal.proofs.Ways.{part_of}
use Rattle.wbt_journal.proofs.text.print.Goals as goal

pub returns-then-has_failed-clause-write_fault : goal.returns-then-has_failed-clause-write_fault
returns-then-has_failed-clause-write_fault g c = λ is. part_of (journal_text c.args.journal.now) _ _ _ c.in_ok-out.ensures c.journal.ensures c.send.ensures.puts (sym c.has_failed.ensures ∙ c.if-has_failed.true)
