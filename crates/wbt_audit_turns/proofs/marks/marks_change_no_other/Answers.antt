use Rattle.wbt_audit_turns.proofs.Marking.{marks_change_no_other}
use Rattle.wbt_audit_turns.proofs.marks.marks_change_no_other.Goals as goal

pub returns : goal.returns
returns c = marks_change_no_other
