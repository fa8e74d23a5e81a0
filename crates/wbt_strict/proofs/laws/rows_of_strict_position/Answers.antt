use Rattle.wbt_strict.proofs.Rows.{rows_of_strict_position}
use Rattle.wbt_strict.proofs.laws.rows_of_strict_position.Goals as goal

pub returns : goal.returns
returns c = rows_of_strict_position
