use Rattle.std.proofs.Common.{◌+◌, ◌/◌, ◌%◌, List, [], ◌∷◌, ◌++◌, ℕ, ◌∙◌, ap, arith, sym, append_assoc}
use Rattle.std.proofs.lemmas.Fmt.{decimal_step_wide}
use Rattle.std.specs.Fmt.{decimal}
use Rattle.wbt_forecast_rows.proofs.text.put_digits.Goals as goal

pub returns : goal.returns
returns c =
    let number = c.args.number in
    let before = c.args.text.now.items in
    let last : List ℕ = (48 + number % 10) ∷ [] in
    c.in_ok-push.ensures.items
    ∙ ap (λ (front : List ℕ). front ++ last) c.in_ok-put_short.ensures
    ∙ append_assoc before (decimal (number / 10)) last
    ∙ ap (λ (digits : List ℕ). before ++ digits) (sym (decimal_step_wide number (omega arith) (omega arith)))
