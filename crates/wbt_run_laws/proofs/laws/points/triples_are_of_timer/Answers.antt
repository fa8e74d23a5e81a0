use Rattle.wbt_run_laws.proofs.Triples.{triples_of_timer}
use Rattle.wbt_run_laws.proofs.laws.points.triples_are_of_timer.Goals as goal

pub returns : goal.returns
returns c = triples_of_timer
