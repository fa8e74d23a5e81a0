use Rattle.std.proofs.Common.{subst}
use Rattle.wbt_journal.specs.Ranges.{PartHasForm}
use Rattle.wbt_journal.proofs.Ranging.{so_far_next}
use Rattle.wbt_journal.proofs.ranges.parts_have_forms.Goals as goal

pub loop-part-preserved : goal.loop-part-preserved
loop-part-preserved c =
    so_far_next PartHasForm c.args.parts.now c.loop-part.part-index c.part-item.result c.loop-part-test.true (subst PartHasForm c.part-item.is c.part_has_forms.ensures) c.loop-part.invariant
