use Rattle.wbt_forecast_rows.specs.Laws.{RowsAreTold}
use Rattle.wbt_forecast_rows.proofs.Going.{row_so}
use Rattle.wbt_forecast_rows.proofs.laws.rows_are_told.Goals as goal

pub returns : goal.returns
unfolding RowsAreTold
returns c = row_so
