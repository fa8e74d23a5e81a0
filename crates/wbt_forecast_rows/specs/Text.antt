-- The text of a forecast.
use Rattle.std.specs.Prelude.{ℕ, List, [], ◌∷◌, ◌++◌, flat_map, codes}
use Rattle.std.specs.Fmt.{decimal}
use Rattle.wbt_journal.specs.Line.{line_text}
use Rattle.wbt_journal.specs.Lines.{ending_line}
use Rattle.wbt_journal.specs.declared.journal.Ending.{Ending}
use Rattle.wbt_forecast_rows.specs.declared.forecast.Forecast.{Forecast}
use Rattle.wbt_forecast_rows.specs.declared.forecast.Totals.{Totals}
use Rattle.wbt_forecast_rows.specs.declared.rows.ContextRow.{ContextRow}
use Rattle.wbt_forecast_rows.specs.declared.rows.DomainRow.{DomainRow}
use Rattle.wbt_forecast_rows.specs.declared.rows.IntervalRow.{IntervalRow}
use Rattle.wbt_forecast_rows.specs.declared.rows.TaskRow.{TaskRow}

-- the text of numbers, a space before each
abbrev pub numbers_text : (numbers : List ℕ) → List ℕ
numbers_text numbers = flat_map (λ n. 32 ∷ decimal n) numbers

-- a line of a word and numbers
abbrev pub numbers_line : (word numbers : List ℕ) → List ℕ
numbers_line word numbers = word ++ (numbers_text numbers ++ 10 ∷ [])

-- the first line: the ticks of an interval
abbrev pub every_text : (every : ℕ) → List ℕ
every_text every = numbers_line (codes "forecast") (every ∷ [])

-- the line of a domain
abbrev pub domain_text : (row : DomainRow) → List ℕ
domain_text row = numbers_line (codes "domain") (row.domain ∷ row.count ∷ row.most ∷ row.hard ∷ row.bound ∷ [])

-- the line of a context
abbrev pub context_text : (row : ContextRow) → List ℕ
context_text row =
    numbers_line (codes "context") (row.context ∷ row.dirtied ∷ row.written ∷ row.bandwidth ∷ row.average ∷ row.ratelimit ∷ [])

-- the line of a task
abbrev pub task_text : (row : TaskRow) → List ℕ
task_text row = numbers_line (codes "task") (row.task ∷ row.pages ∷ row.checks ∷ row.pauses ∷ row.ticks ∷ row.longest ∷ [])

-- the lines of an interval: its number, its domains, its contexts and its tasks
abbrev pub row_text : (row : IntervalRow) → List ℕ
row_text row =
    numbers_line (codes "from") (row.number ∷ [])
    ++ (flat_map domain_text row.domains ++ (flat_map context_text row.contexts ++ flat_map task_text row.tasks))

-- the line of the sums
abbrev pub totals_text : (totals : Totals) → List ℕ
totals_text totals = numbers_line (codes "totals") (totals.dirtied ∷ totals.cleaned ∷ [])

-- the last line, as in a journal
abbrev pub ending_text : (ending : Ending) → List ℕ
ending_text ending = line_text (ending_line ending)

-- the last two lines
abbrev pub end_text : (totals : Totals) (ending : Ending) → List ℕ
end_text totals ending = totals_text totals ++ ending_text ending

-- the text of a forecast, as bytes
abbrev pub forecast_text : (forecast : Forecast) → List ℕ
forecast_text forecast = every_text forecast.every ++ (flat_map row_text forecast.rows ++ end_text forecast.totals forecast.ending)
