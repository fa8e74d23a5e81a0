use Rattle.std.proofs.Common.{◌-◌, inr, arith}
use Rattle.wbt_pause.proofs.Polling.{root_fits, root_is_near, shifted}
use Rattle.wbt_pause.proofs.pauses.poll_interval.Goals as goal

pub returns-then-thresh-dirty-clause-within_root : goal.returns-then-thresh-dirty-clause-within_root
returns-then-thresh-dirty-clause-within_root c =
    let some = c.if-thresh-dirty.true in
    rw (shifted (c.args.thresh - c.args.dirty) c.ilog2.result c.ilog2.ensures.value c.ilog2.ensures.bound) (inr (root_fits (c.args.thresh - c.args.dirty) (omega arith)))

pub returns-then-thresh-dirty-clause-above_half_the_root : goal.returns-then-thresh-dirty-clause-above_half_the_root
returns-then-thresh-dirty-clause-above_half_the_root c =
    let some = c.if-thresh-dirty.true in
    rw (shifted (c.args.thresh - c.args.dirty) c.ilog2.result c.ilog2.ensures.value c.ilog2.ensures.bound) (root_is_near (c.args.thresh - c.args.dirty) (omega arith))
