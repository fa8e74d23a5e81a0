use Rattle.std.proofs.Common.{◌≤◌, subst}
use Rattle.wbt_audit_reads.proofs.Summed.{rows_first, rows_on, rows_last}
use Rattle.wbt_audit_reads.proofs.sums.add_up_all.Goals as goal

pub loop-place-init : goal.loop-place-init
loop-place-init c = rows_first c.args.places c.args.sums.now

pub loop-place-preserved : goal.loop-place-preserved
loop-place-preserved c =
    rows_on c.args.places c.loop-place.place c.args.sums.now c.loop-place.sums c.add_up.new.sums c.in_ok-add_up.ensures c.loop-place.invariant

pub returns : goal.returns
returns c =
    rows_last c.args.places c.loop-place.place c.args.sums.now c.loop-place.sums (subst (λ n. n ≤ c.loop-place.place) c.counters-place-end.ensures c.loop-place-test.false)
    c.loop-place.invariant
