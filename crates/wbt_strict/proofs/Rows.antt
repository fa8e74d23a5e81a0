-- Strict ratios, worked out.
use Rattle.std.proofs.Common.{refl}
use Rattle.wbt_position.specs.Polynom.{polynom_value}
use Rattle.wbt_strict.specs.Position.{strict_ratio}
use Rattle.wbt_strict.specs.Laws.{RowsOfStrictPosition}

pub rows_of_strict_position : RowsOfStrictPosition
unfolding strict_ratio polynom_value
rows_of_strict_position = record { few_pages = refl; at_its_middle = refl; below_its_threshold = refl; at_its_threshold = refl }
