use Rattle.wbt_top.proofs.Free.{all_is_done, never_stops}
use Rattle.wbt_top.proofs.end.Ended.of_run.Goals as goal

pub returns-clause-ran : goal.returns-clause-ran
returns-clause-ran g c = record {
  good = λ good. c.run_top.ensures.done good never_stops;
  part = λ is. all_is_done _ _ _ _ _ _ _ _ (c.run_top.ensures.ran.part is);
  faulted = c.run_top.ensures.ran.faulted;
  spent = c.run_top.ensures.ran.spent;
}

pub returns-clause-bulk_done : goal.returns-clause-bulk_done
returns-clause-bulk_done g c = λ good. c.run_top.ensures.bulk_done good never_stops
