use Rattle.wbt_text.proofs.Deciding.{some_answer}
use Rattle.wbt_text.proofs.Leading.{one_answer}
use Rattle.wbt_trace_text.specs.Reading.{traces}
use Rattle.wbt_trace.specs.Sofar.{start}
use Rattle.wbt_trace_text.proofs.Deciding.{line_or_not}
use Rattle.wbt_trace_text.proofs.LineLaws.{clear}
use Rattle.wbt_trace_text.proofs.read.text_has_one_answer.Goals as goal

pub returns-clause-some : goal.returns-clause-some
returns-clause-some c = some_answer traces start clear line_or_not

pub returns-clause-one : goal.returns-clause-one
returns-clause-one c = one_answer traces start clear
