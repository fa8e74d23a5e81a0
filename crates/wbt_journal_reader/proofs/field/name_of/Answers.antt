use Rattle.std.proofs.Common.{arith}
use Rattle.wbt_journal_reader.proofs.Digits.{number_once}
use Rattle.wbt_journal_reader.proofs.field.name_of.Goals as goal

pub returns-then-n-from-clause-none : goal.returns-then-n-from-clause-none
returns-then-n-from-clause-none c = λ n small is.
    let same = number_once _ _ n c.in-Some.ensures.found (omega (arith, small)) is in omega (arith, same, small, c.if-n-from.true, c.from.ensures)
