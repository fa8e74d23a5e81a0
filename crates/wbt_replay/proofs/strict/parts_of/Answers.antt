use Rattle.std.proofs.Common.{arith}
use Rattle.wbt_replay_order.proofs.Facts.Parts.{parts_more}
use Rattle.wbt_replay.proofs.strict.parts_of.Goals as goal

pub loop-cpu-preserved : goal.loop-cpu-preserved
loop-cpu-preserved c =
    parts_more c.args.trace.now c.args.cpus.now c.loop-cpu.cpu-index c.cpu-item.result c.as_slice-in-loop-cpu.result.now c.loop-cpu.parts c.note_checks.new.parts
    (omega (arith, c.loop-cpu-test.true)) c.cpu-item.is c.as_slice-in-loop-cpu.ensures c.loop-cpu.invariant c.note_checks.ensures
