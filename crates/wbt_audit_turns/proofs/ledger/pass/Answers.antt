use Rattle.wbt_audit_walk.proofs.Common.{told_of}
use Rattle.wbt_audit_turns.proofs.Balancing.{entered}
use Rattle.wbt_audit_turns.proofs.ledger.pass.Goals as goal

pub returns-in_ok-enter-in-Some : goal.returns-in_ok-enter-in-Some
returns-in_ok-enter-in-Some c = λ rest all are.
    entered c.args.tallies.now c.enter.new.tallies (told_of c.in-Some.act) rest all c.enter.auto.tallies (rw c.in-Some.is at are) c.in_ok-enter-in-Some.ensures
