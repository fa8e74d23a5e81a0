use Rattle.std.proofs.Common.{List, ℕ, ◌∙◌, ap, ◌∷◌, ◌++◌, drop, to_z-of_z}
use Rattle.wbt_journal.proofs.LastDigit.{below_zero}
use Rattle.wbt_journal.proofs.number.put_wide_signed.Goals as goal

pub returns-clause-text : goal.returns-clause-text
returns-clause-text c =
    let first = c.put_wide-first in
    let back = to_z-of_z c.ranges.number in
    c.put_byte.ensures.text ∙ ap (λ (ds : List ℕ). 45 ∷ ds) first.ensures.text
    ∙ ap (λ (ds : List ℕ). ds ++ drop c.args.end c.args.room.now) (below_zero c.args.number c.unsigned_abs.result (rw back at c.if-number-ge0.false) (rw back at c.unsigned_abs.ensures.value))
