use Rattle.std.proofs.Common.{rules, sym, ◌∙◌, SFits, to_z-of_z, w8}
use Rattle.wbt_journal.proofs.Keeping.{stays}
use Rattle.wbt_journal.proofs.kept.may_change.Goals as goal

pub returns-in_default : goal.returns-in_default
returns-in_default c = λ same.
    let fits : SFits w8 c.args.step.now.change = search rules in
    stays c.args.step.now c.in_default.not-Peak (sym (to_z-of_z fits) ∙ c.is_change.ensures same)
