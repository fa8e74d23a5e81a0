use Rattle.std.proofs.Common.{sym, subst}
use Rattle.wbt_journal.specs.Near.{AreNear}
use Rattle.wbt_journal.proofs.Columned.{first_near}
use Rattle.wbt_journal.proofs.Texts.{whole_of}
use Rattle.wbt_journal.proofs.Ways.{puts_same, puts_parts}
use Rattle.wbt_journal.proofs.out.Out.journal.Goals as goal

pub steps_part-requires : goal.steps_part-requires
steps_part-requires g c = subst (AreNear 0) (sym c.requires) (first_near 0 c.args.journal.now.timer c.args.journal.now.bases)

pub returns : goal.returns
returns g c =
    puts_same _ _ _ _
    (whole_of c.args.journal.now _ _ _ _ _ _ c.args.columns.now c.as_slice.ensures c.as_slice-cpus.ensures c.as_slice-2.ensures c.as_slice-3.ensures c.as_slice-left.ensures c.as_slice-4.ensures c.requires)
    (puts_parts _ _ _ _ _ _ _ _ _ _ _ _ _ _ _ _ _ c.timer.ensures c.cpus.ensures c.steps_part.ensures c.left.ensures c.census.ensures c.totals.ensures c.strict.ensures c.ending.ensures)
