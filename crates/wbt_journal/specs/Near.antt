-- Columns whose counts leave room for further steps.
use Rattle.std.specs.Prelude.{ℕ, ◌≤◌, List, [], ◌∷◌, unsigned_abs}
use Rattle.wbt_journal.specs.declared.columns.Column.{Column}

-- no count is further from 0 than this
abbrev pub AreNear : (most : ℕ) (columns : List Column) → Type 0
AreNear most [] = Unit {0}
AreNear most (column ∷ columns) = (unsigned_abs column.count ≤ most) × AreNear most columns
