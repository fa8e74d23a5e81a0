use Rattle.wbt_journal.specs.Pieces.{entry_text}
use Rattle.wbt_journal.proofs.Ways.{puts_more}
use Rattle.wbt_journal.proofs.out.Out.entries.Goals as goal

pub loop-entry-preserved : goal.loop-entry-preserved
loop-entry-preserved g c =
    puts_more (entry_text c.args.checks.now c.args.estimates.now) c.args.entries.now c.loop-entry.entry-index _ _ _ _ c.loop-entry-test.true c.loop-entry.invariant c.entry.ensures
