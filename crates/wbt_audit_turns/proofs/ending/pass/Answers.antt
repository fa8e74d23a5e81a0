use Rattle.wbt_audit_walk.proofs.Common.{told_of}
use Rattle.wbt_audit_turns.proofs.Working.{page_written, disk_failed}
use Rattle.wbt_audit_turns.proofs.ending.pass.Goals as goal

pub returns-in-Some-clause-pages : goal.returns-in-Some-clause-pages
returns-in-Some-clause-pages c = λ trace rest all are.
    page_written trace c.args.pages.now c.write.new.pages (told_of c.in-Some.act) rest all c.write.auto.pages (rw c.in-Some.is at are) c.write.ensures

pub returns-in-Some-clause-chances : goal.returns-in-Some-clause-chances
returns-in-Some-clause-chances c = λ trace rest all have.
    disk_failed trace c.args.chances.now c.fail.new.chances (told_of c.in-Some.act) rest all c.fail.auto.chances (rw c.in-Some.is at have) c.fail.ensures
