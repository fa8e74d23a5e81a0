use Rattle.wbt_journal.specs.Pieces.{strict_text}
use Rattle.wbt_journal.proofs.Ways.{puts_more}
use Rattle.wbt_journal.proofs.out.Out.strict.Goals as goal

pub loop-context-preserved : goal.loop-context-preserved
loop-context-preserved g c =
    puts_more (strict_text) c.args.strict.now c.loop-context.context-index _ _ _ _ c.loop-context-test.true c.loop-context.invariant c.strict_line.ensures
