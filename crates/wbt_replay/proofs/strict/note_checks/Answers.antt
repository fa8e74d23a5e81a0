use Rattle.std.proofs.Common.{◌<◌, length, arith}
use Rattle.wbt_replay_order.proofs.Facts.Parts.{noted_next}
use Rattle.wbt_replay.proofs.strict.note_checks.Goals as goal

pub loop-check-preserved : goal.loop-check-preserved
loop-check-preserved c =
    let checks = c.args.checks.now in
    let i = c.loop-check.check-index in
    let less : i < length checks = omega (arith, c.loop-check-test.true) in
    noted_next c.args.trace.now checks i _ c.args.parts.now c.loop-check.parts c.put.new.self c.part_of.result c.get.result c.max-part.result less
    (c.requires.checks i _ less) c.requires.many c.loop-check.invariant c.part_of.ensures (c.get.ensures 0) c.max-part.ensures c.put.ensures
