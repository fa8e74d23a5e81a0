use Rattle.wbt_run_first.proofs.Giving.{fallen_given, fallen_none}
use Rattle.wbt_run.proofs.Handed.{done_back, eight_back, faults_back, handed_back}
use Rattle.wbt_run.proofs.working.work.Goals as goal

pub returns-clause-disks : goal.returns-clause-disks
returns-clause-disks g c =
    handed_back c.end.result _ _ _ _ _ _ c.end.ensures.told c.finish.ensures.finished.disks c.make_workers.ensures.written c.end.ensures.given.written

pub returns-clause-failures : goal.returns-clause-failures
returns-clause-failures g c =
    faults_back c.end.result _ _ _ _ _ _ c.end.ensures.told c.finish.ensures.finished.failures c.make_workers.ensures.fallen c.end.ensures.given.risen

pub returns-clause-faulted : goal.returns-clause-faulted
returns-clause-faulted g c =
    eight_back c.end.result _ _ _ _ _ _ _ c.end.ensures.ending c.finish.ensures.finished.faulted c.finish.ensures.finished.failures c.make_workers.ensures.fallen c.end.ensures.given.risen

pub returns-clause-fallen : goal.returns-clause-fallen
returns-clause-fallen g c = fallen_none _ _ _ c.make_workers.ensures.fallen (fallen_given _ _ _ c.end.ensures.given.risen)

pub returns-clause-emptied : goal.returns-clause-emptied
returns-clause-emptied g c = done_back c.end.result _ _ _ c.end.ensures.ending c.finish.ensures.finished.emptied
