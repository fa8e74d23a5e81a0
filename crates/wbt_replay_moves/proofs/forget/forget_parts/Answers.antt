use Rattle.std.proofs.Common.{◌∙◌, ap, sym}
use Rattle.std.proofs.Math.ListN.{set}
use Rattle.std.proofs.lemmas.List.Edits.{map_over_more}
use Rattle.wbt_replay_moves.specs.Definition.Forget.{bare}
use Rattle.wbt_replay_moves.proofs.forget.forget_parts.Goals as goal

pub loop-cpu-preserved : goal.loop-cpu-preserved
loop-cpu-preserved c =
    let i = c.loop-cpu.cpu-index in
    ap (set c.loop-cpu.cpus i) (c.forget_part.ensures ∙ ap bare (sym c.cpu-item.is))
    ∙ map_over_more bare c.args.cpus.now c.loop-cpu.cpus i c.cpu-item.result c.loop-cpu-test.true c.loop-cpu.invariant c.cpu-item.is
