use Rattle.wbt_journal.specs.Pieces.{left_text}
use Rattle.wbt_journal.proofs.Ways.{puts_more}
use Rattle.wbt_journal.proofs.out.Out.left.Goals as goal

pub loop-page-preserved : goal.loop-page-preserved
loop-page-preserved g c =
    puts_more (left_text) c.args.left.now c.loop-page.page-index _ _ _ _ c.loop-page-test.true c.loop-page.invariant c.left_page.ensures
