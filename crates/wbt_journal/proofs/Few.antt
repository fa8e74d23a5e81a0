-- There are no more writers in order than there are pairs.
use Rattle.std.proofs.Common.{◌≤◌, length, arith}
use Rattle.wbt_num.specs.declared.most.TheConstants.{MOST_WRITERS}
use Rattle.wbt_trace.specs.Lawful.{IsLawful}
use Rattle.wbt_trace.specs.declared.trace.Trace.{Trace}
use Rattle.wbt_trace.proofs.InOrder.{length_stays}
use Rattle.wbt_journal.specs.Side.{all_writers}

pub few_writers : (trace : Trace) → IsLawful trace → length (all_writers trace) ≤ MOST_WRITERS
few_writers trace lawful =
    omega (arith, length_stays (length trace.tasks) (length trace.contexts) trace.inodes trace.actions lawful.within.inodes.each lawful.within.actions, lawful.within.few_writers)
