use Rattle.std.proofs.Common.{◌++◌}
use Rattle.wbt_journal.specs.Line.{line_text, lines_text}
use Rattle.wbt_journal.specs.Lines.{read_line, cgroup_lines, count_line, decision_line}
use Rattle.wbt_journal.proofs.Texts.{check_text}
use Rattle.wbt_journal.proofs.Ways.{puts_same, puts_then}
use Rattle.wbt_journal.proofs.out.Out.check.Goals as goal

pub returns : goal.returns
returns g c =
    let check = c.args.check.now in
    puts_same _ _ _ _ (check_text check)
    (puts_then (line_text (read_line check.global)) (lines_text (cgroup_lines check.cgroup) ++ (line_text (count_line check) ++ line_text (decision_line check))) _ _ _ c.read.ensures
    (puts_then (lines_text (cgroup_lines check.cgroup)) (line_text (count_line check) ++ line_text (decision_line check)) _ _ _ c.cgroup.ensures
    (puts_then (line_text (count_line check)) (line_text (decision_line check)) _ _ _ c.count.ensures c.decision.ensures)))
