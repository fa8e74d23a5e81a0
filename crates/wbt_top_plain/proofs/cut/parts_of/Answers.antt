use Rattle.std.proofs.Common.{◌∙◌, refl, sym, subst}
use Rattle.wbt_text.specs.Cut.{Without}
use Rattle.wbt_top_plain.proofs.Cutting.{ends, goes_on, tail_is}
use Rattle.wbt_top_plain.proofs.cut.parts_of.Goals as goal

pub returns-in-None-clause-without : goal.returns-in-None-clause-without
returns-in-None-clause-without c =
    (ends c.args.text.now c.lines.start c.lines.invariant (subst (Without 10) (tail_is c.args.text.now c.lines.start) c.in-None.ensures.none), refl)

pub lines-preserved : goal.lines-preserved
lines-preserved c = goes_on c.args.text.now c.lines.start c.in-Some.line.now c.in-Some.rest.now c.lines.invariant
    (sym (tail_is c.args.text.now c.lines.start) ∙ c.in-Some.ensures.found.0)
    (record { whole = c.in-Some.ensures.found.1; other = λ is. cc (c.is_journal.ensures.1 is, c.if-is_journal.false) })
