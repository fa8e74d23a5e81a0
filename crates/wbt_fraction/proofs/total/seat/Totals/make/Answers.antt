use Rattle.std.proofs.Common.{◌≡◌, ℕ, List, [], replicate, sym, ◌∙◌, subst, rules}
use Rattle.atomic_table.specs.Table.{opening}
use Rattle.wbt_fraction.specs.Totals.{Kept, first_view}
use Rattle.wbt_fraction.proofs.Counting.{opened}
use Rattle.wbt_fraction.proofs.total.seat.Totals.make.Goals as goal

pub of_words-requires : goal.of_words-requires
of_words-requires c =
    let zeros : List ℕ = replicate c.args.contexts 0 in
    let w : c.in_ok-words.words.items ≡ zeros = search rules in
    subst (λ (ws : List ℕ). Kept record { contexts = c.args.contexts } (opening ws [] (first_view record { contexts = c.args.contexts }))) (sym (c.as_slice.ensures.value ∙ w)) (opened record { contexts = c.args.contexts })
