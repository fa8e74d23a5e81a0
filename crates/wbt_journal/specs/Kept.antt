-- The end of a step's line, which is kept beside the columns that it tells.
use Rattle.std.specs.Prelude.{◌≡◌, ℕ, ◌+◌, ◌*◌, ◌≤◌, List, [], ◌∷◌, ◌++◌, flat_map}
use Rattle.wbt_journal.specs.declared.columns.Column.{Column}
use Rattle.wbt_journal.specs.declared.kept.TheConstants.{COLUMN}
use Rattle.wbt_journal.specs.declared.step.StepEntry.{StepEntry}
use Rattle.wbt_journal.specs.Pieces.{column_text}
use Rattle.wbt_journal.specs.Steps.{columns_after}

-- what stands on a step's line after its kind
abbrev pub end_text : (columns : List Column) → List ℕ
end_text columns = flat_map column_text columns ++ 10 ∷ []

-- The end that is kept is that of the columns, and there is memory for that of any columns that are as many.
pub record IsKept (columns : List Column) (text : List ℕ) (many room : ℕ) : Type 0 where
  pub told : text ≡ end_text columns
  pub fits : (many + 1) * COLUMN ≤ room

-- The step changes no column, whatever they are.
abbrev pub MayStay : (step : StepEntry) → Type 0
MayStay step = (homes : List ℕ) (domain : ℕ) (columns : List Column) → columns_after homes domain step columns ≡ columns
