use Rattle.std.proofs.Common.{false, sym, ◌∙◌}
use Rattle.wbt_audit_reads.proofs.Timed.{by_opening, opening_is}
use Rattle.wbt_audit_reads.proofs.timer.Lines.allow_limits.Goals as goal

pub returns-else-are_opening : goal.returns-else-are_opening
returns-else-are_opening c = λ opened lines keeps.
    by_opening c.args.trace.now opened c.args.self.now c.go_on.new.self lines c.args.domain c.args.now c.args.limits.now keeps c.go_on.result false
    (sym (opening_is c.args.trace.now opened c.args.self.now lines keeps) ∙ sym c.are_opening.ensures ∙ c.if-are_opening.false)
    (c.go_on.ensures opened lines keeps)
