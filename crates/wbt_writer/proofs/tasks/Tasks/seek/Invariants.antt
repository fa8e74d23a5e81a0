use Rattle.wbt_writer.specs.Choice.{AllRest, HasLeast}
use Rattle.wbt_writer.proofs.tasks.Tasks.seek.Given as goal

abbrev pub invariant-loop-at : goal.invariant-loop-at
invariant-loop-at l = record {
  rest : AllRest l.self l.now l.from l.at;
  least : HasLeast l.self l.from l.at l.least;
}
