use Rattle.wbt_journal.specs.Pieces.{timer_text}
use Rattle.wbt_journal.proofs.Ways.{puts_more}
use Rattle.wbt_journal.proofs.out.Out.timer_entries.Goals as goal

pub loop-entry-preserved : goal.loop-entry-preserved
loop-entry-preserved g c =
    puts_more (timer_text) c.args.timer.now c.loop-entry.entry-index _ _ _ _ c.loop-entry-test.true c.loop-entry.invariant c.timer_entry.ensures
