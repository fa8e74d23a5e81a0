use Rattle.wbt_audit_walk.proofs.Common.{told_of}
use Rattle.wbt_audit_reads.proofs.Estimated.{counted_none, counted_on}
use Rattle.wbt_audit_reads.proofs.estimates.count_act.Goals as goal

pub returns-in-None : goal.returns-in-None
returns-in-None c = λ n entries are. rw c.in-None.is (counted_none n entries c.args.counts.now.items are)

pub returns-in-Some : goal.returns-in-Some
returns-in-Some c = λ n entries are.
    rw c.in-Some.is (counted_on n entries c.args.counts.now.items are (told_of c.in-Some.act) c.count_estimate.new.counts.items _ c.estimate.ensures c.count_estimate.ensures)
