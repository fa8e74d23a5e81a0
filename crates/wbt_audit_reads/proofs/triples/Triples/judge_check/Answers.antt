use Rattle.std.proofs.Common.{sym, ◌∙◌}
use Rattle.wbt_audit_reads.proofs.triples.Triples.judge_check.Goals as goal

pub returns-in-None : goal.returns-in-None
returns-in-None c = (sym c.in-None.is ∙ c.fault_of.ensures, λ none. c.see_check.ensures)

pub returns-in-Some : goal.returns-in-Some
returns-in-Some c = (sym c.in-Some.is ∙ c.fault_of.ensures, λ none. cc)
