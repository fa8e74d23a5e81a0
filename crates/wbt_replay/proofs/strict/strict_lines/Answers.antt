use Rattle.std.proofs.Common.{length, ◌∙◌, sym}
use Rattle.wbt_replay.proofs.StrictLines.Lines.{no_lines}
use Rattle.wbt_replay.proofs.strict.strict_lines.Goals as goal

pub returns-else-has_strict : goal.returns-else-has_strict
returns-else-has_strict c =
    c.new.ensures ∙ sym (no_lines c.args.trace.now c.args.steps.now c.args.cpus.now (length c.args.trace.now.contexts) (c.has_strict.ensures c.if-has_strict.false))
