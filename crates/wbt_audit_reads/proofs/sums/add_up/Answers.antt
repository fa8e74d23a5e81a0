use Rattle.std.proofs.Common.{◌≤◌, length, subst}
use Rattle.wbt_audit_reads.proofs.Summed.{up_first, up_on, up_last}
use Rattle.wbt_audit_reads.proofs.sums.add_up.Goals as goal

pub loop-version-init : goal.loop-version-init
loop-version-init c = up_first c.args.place c.args.sums.now

pub loop-version-preserved : goal.loop-version-preserved
loop-version-preserved c =
    up_on c.args.place c.loop-version.version c.args.sums.now c.loop-version.sums c.add_before.new.sums c.in_ok-add_before.ensures c.loop-version.auto.version
    c.loop-version.invariant

pub returns : goal.returns
returns c =
    up_last c.args.place c.loop-version.version c.args.sums.now c.loop-version.sums
    (subst (λ row. length row ≤ c.loop-version.version) c.row.ensures c.loop-version-test.false) c.loop-version.invariant
