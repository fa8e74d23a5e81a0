use Rattle.wbt_text.proofs.Deciding.{some_answer}
use Rattle.wbt_text.proofs.Leading.{one_answer}
use Rattle.wbt_law.specs.Draft.{start}
use Rattle.wbt_law.specs.Reading.{laws}
use Rattle.wbt_law.proofs.RowLaws.{clear, row_or_not}
use Rattle.wbt_law.proofs.read.law_has_one_answer.Goals as goal

pub returns-clause-some : goal.returns-clause-some
returns-clause-some c = some_answer laws start clear row_or_not

pub returns-clause-one : goal.returns-clause-one
returns-clause-one c = one_answer laws start clear
