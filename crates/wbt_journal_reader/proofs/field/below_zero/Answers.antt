use Rattle.std.proofs.Common.{arith, suc}
use Rattle.wbt_journal_reader.proofs.Digits.{number_once}
use Rattle.wbt_journal_reader.proofs.field.below_zero.Goals as goal

pub returns-then-n-gt-MOST_BELOW-clause-none : goal.returns-then-n-gt-MOST_BELOW-clause-none
returns-then-n-gt-MOST_BELOW-clause-none c = λ n small is.
    let same = number_once _ _ (suc n) c.in-Some.ensures.found (omega (arith, small)) is in omega (arith, same, small, c.if-n-gt-MOST_BELOW.true)

pub returns-then-n-eq0-clause-none : goal.returns-then-n-eq0-clause-none
returns-then-n-eq0-clause-none c = λ n small is.
    let same = number_once _ _ (suc n) c.in-Some.ensures.found (omega (arith, small)) is in omega (arith, same, c.if-n-eq0.true)
