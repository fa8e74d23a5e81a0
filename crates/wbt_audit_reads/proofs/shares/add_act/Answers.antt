use Rattle.wbt_audit_walk.proofs.Common.{told_of}
use Rattle.wbt_audit_reads.proofs.Shared.{added_none, added_on, on_ok}
use Rattle.wbt_audit_reads.proofs.shares.add_act.Goals as goal

pub returns-in-None : goal.returns-in-None
returns-in-None c = λ entries are. rw c.in-None.is (added_none c.args.places entries c.args.sums.now.items are)

pub returns-in-Some : goal.returns-in-Some
returns-in-Some c =
    on_ok c.add_share.result
    (λ is entries are. rw c.in-Some.is (added_on c.args.places entries c.args.sums.now.items are (told_of c.in-Some.act) c.add_share.new.sums.items _ c.share.ensures is))
    c.add_share.ensures
