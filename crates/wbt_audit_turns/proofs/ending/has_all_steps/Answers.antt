use Rattle.std.proofs.Common.{ℕ, List, sym, ap, ◌∙◌, nat_le, count_by}
use Rattle.wbt_num.specs.declared.most.TheConstants.{MOST_PAGE_STEPS}
use Rattle.wbt_audit_walk.proofs.Common.{Entry}
use Rattle.wbt_audit_turns.specs.Worked.{is_step_entry}
use Rattle.wbt_audit_turns.proofs.Working.{steps_of}
use Rattle.wbt_audit_turns.proofs.ending.has_all_steps.Goals as goal

pub returns : goal.returns
returns c =
    ap (λ (n : ℕ). nat_le MOST_PAGE_STEPS n)
    (c.page_steps.ensures ∙ ap (λ (l : List Entry). count_by is_step_entry l) c.as_slice.ensures
    ∙ sym (steps_of c.args.part.now.checks c.args.part.now.estimates c.args.part.now.entries))
