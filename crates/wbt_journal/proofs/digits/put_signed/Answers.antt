use Rattle.std.proofs.Common.{◌++◌, ◌∙◌, ap, append-nil, to_z-of_z, arith}
use Rattle.std.proofs.lemmas.List.{drop_all}
use Rattle.std.specs.Fmt.{signed_decimal}
use Rattle.wbt_journal.proofs.digits.put_signed.Goals as goal

pub returns-clause-text : goal.returns-clause-text
returns-clause-text c =
    let text = signed_decimal c.args.number in
    let put = c.put_number.ensures.text in
    (rw (to_z-of_z c.ranges.number) at put) ∙ ap (λ t. text ++ t) (drop_all 40 c.args.room.now (omega arith)) ∙ append-nil text
