use Rattle.std.proofs.Common.{ℕ, List, [], sym, ◌∙◌, subst}
use Rattle.atomic_table.specs.Table.{opening}
use Rattle.wbt_fraction.specs.Rule.{Kept, first_view}
use Rattle.wbt_fraction.proofs.Seats.{opened}
use Rattle.wbt_fraction.proofs.domain.seat.Domain.make.Goals as goal

pub of_words-requires : goal.of_words-requires
of_words-requires c =
    subst (λ (ws : List ℕ). Kept record { parts = c.args.parts } (opening ws [] first_view)) (sym (c.as_slice.ensures.value ∙ c.in_ok-words.ensures)) (opened record { parts = c.args.parts })
