-- All points of a run's journal at once.
use Rattle.wbt_run_laws.specs.Laws.{WorkedIsLawful}
use Rattle.wbt_run_laws.proofs.Bounded.{left_is_bounded}
use Rattle.wbt_run_laws.proofs.Counting.{folds_up, counts_sum}
use Rattle.wbt_run_laws.proofs.Deciding.{checks_right, names_of_estimates}
use Rattle.wbt_run_laws.proofs.Ending.{ending_is_right}
use Rattle.wbt_run_laws.proofs.Estimating.{estimates_up}
use Rattle.wbt_run_laws.proofs.Ledger.{ledger_is_even}
use Rattle.wbt_run_laws.proofs.Lefts.{left_is_in_order, left_pages_there}
use Rattle.wbt_run_laws.proofs.Owning.{counts_fresh, triples_new, periods_new, names_new, writes_in_order, flushers_in_turn, waits_in_order, waits_are_own}
use Rattle.wbt_run_laws.proofs.Sharing.{fractions_of_shares}
use Rattle.wbt_run_laws.proofs.Timing.{timer_follows, timer_has_opened}
use Rattle.wbt_run_laws.proofs.Triples.{triples_of_timer}

pub is_lawful : WorkedIsLawful
is_lawful trace j r w = record {
  legal = record {
    names = w.names;
    folds = folds_up trace j r w;
    counts = counts_sum trace j r w;
    fresh = counts_fresh trace j r w;
    triples = triples_of_timer trace j r w;
    triples_go_on = triples_new trace j r w;
    fractions = fractions_of_shares trace j r w;
    periods = periods_new trace j r w;
    estimates = estimates_up trace j r w;
    named = names_of_estimates trace j r w;
    names_go_on = names_new trace j r w;
    checks = checks_right trace j r w;
    timer = timer_follows trace j r w;
    opened = timer_has_opened trace j r w;
    waits = waits_in_order trace j r w;
  };
  parts = w.parts;
  writes = writes_in_order trace j r w;
  left_pages = left_pages_there trace j r w;
  left = left_is_in_order trace j r w;
  ledger = ledger_is_even trace j r w;
  flights = flushers_in_turn trace j r w;
  own_waits = waits_are_own trace j r w;
  bounded = left_is_bounded trace j r w;
  ending = ending_is_right trace j r w;
}
