use Rattle.std.proofs.Common.{◌≡◌, rules}
use Rattle.wbt_law.specs.Rows.{word_at}
use Rattle.wbt_law.proofs.RowLaws.{row_parts}
use Rattle.wbt_law.proofs.row.row.Goals as goal

pub returns-else-eq-clause-none : goal.returns-else-eq-clause-none
returns-else-eq-clause-none c = λ ns is.
    let cut = c.in-Some.ensures.found in
    let parts = row_parts c.args.place c.args.text.now c.in-Some.word.now c.in-Some.rest.now ns cut.0 cut.1 is in
    let differ : c.in-Some.word.now ≡ word_at c.args.place → ⊥ = search rules in
    differ parts.0
