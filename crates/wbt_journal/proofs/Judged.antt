-- A journal without a fault is lawful, and a lawful one has none.
use Rattle.std.proofs.Common.{◌≡◌, ℕ, List, [], Option, Some, None, refl, ◌∙◌, ap}
use Rattle.wbt_trace.specs.declared.trace.Trace.{Trace}
use Rattle.wbt_journal.specs.declared.journal.Journal.{Journal}
use Rattle.wbt_journal.specs.Estimates.{opened_at}
use Rattle.wbt_journal.specs.Items.{parts_of, all_told}
use Rattle.wbt_journal.specs.Laws.{FaultlessIsLawful, LawfulIsFaultless}
use Rattle.wbt_journal.specs.Pages.{PagesAreNext, writes_after}
use Rattle.wbt_journal.specs.Verdict.{Verdict, lawful, judged_by, verdict_of, folds_fault, counts_fault, triples_fault, fractions_fault, estimates_fault, decisions_fault, checks_fault, timers_fault, waits_fault, pages_fault, ledger_fault, flights_fault, bound_fault, ending_fault}
use Rattle.wbt_journal.proofs.Parting.{parts_there}
use Rattle.wbt_journal.proofs.Events.{all_there, all_back, decides_back, stands_back, missing_back}
use Rattle.wbt_journal.proofs.Verdicts.{each_is_right}

no_fault : (point : ℕ) (o : Option ℕ) (other : Verdict) → judged_by point o other ≡ lawful → o ≡ None
no_fault point None other is = refl
no_fault point (Some line) other is = cc

no_other : (point : ℕ) (o : Option ℕ) (other : Verdict) → judged_by point o other ≡ lawful → other ≡ lawful
no_other point None other is = is
no_other point (Some line) other is = cc

none_first : (point : ℕ) (o : Option ℕ) (other : Verdict) → o ≡ None → other ≡ lawful → judged_by point o other ≡ lawful
none_first point o other none rest = ap (λ x. judged_by point x other) none ∙ rest

-- every point is without a fault
pub record NoFaults (trace : Trace) (j : Journal) : Type 0 where
  pub folds : folds_fault trace j ≡ None
  pub counts : counts_fault trace j ≡ None
  pub triples : triples_fault j ≡ None
  pub fractions : fractions_fault trace j ≡ None
  pub estimates : estimates_fault trace j ≡ None
  pub decisions : decisions_fault trace j ≡ None
  pub checks : checks_fault trace j ≡ None
  pub timer : timers_fault trace j ≡ None
  pub waits : waits_fault trace j ≡ None
  pub writes : pages_fault trace j ≡ None
  pub ledger : ledger_fault trace j ≡ None
  pub flights : flights_fault trace j ≡ None
  pub bounded : bound_fault trace j ≡ None
  pub ending : ending_fault trace j ≡ None

faultless : (trace : Trace) (j : Journal) → verdict_of trace j ≡ lawful → NoFaults trace j
unfolding verdict_of
faultless trace j is2 =
    let is3 = no_other 2 (folds_fault trace j) _ is2 in
    let is4 = no_other 3 (counts_fault trace j) _ is3 in
    let is5 = no_other 4 (triples_fault j) _ is4 in
    let is6 = no_other 5 (fractions_fault trace j) _ is5 in
    let is7 = no_other 6 (estimates_fault trace j) _ is6 in
    let is8 = no_other 7 (decisions_fault trace j) _ is7 in
    let is9 = no_other 8 (checks_fault trace j) _ is8 in
    let is10 = no_other 9 (timers_fault trace j) _ is9 in
    let is12 = no_other 10 (waits_fault trace j) _ is10 in
    let is13 = no_other 12 (pages_fault trace j) _ is12 in
    let is14 = no_other 13 (ledger_fault trace j) _ is13 in
    let is15 = no_other 14 (flights_fault trace j) _ is14 in
    let is16 = no_other 15 (bound_fault trace j) _ is15 in
    record {
      folds = no_fault 2 (folds_fault trace j) _ is2;
      counts = no_fault 3 (counts_fault trace j) _ is3;
      triples = no_fault 4 (triples_fault j) _ is4;
      fractions = no_fault 5 (fractions_fault trace j) _ is5;
      estimates = no_fault 6 (estimates_fault trace j) _ is6;
      decisions = no_fault 7 (decisions_fault trace j) _ is7;
      checks = no_fault 8 (checks_fault trace j) _ is8;
      timer = no_fault 9 (timers_fault trace j) _ is9;
      waits = no_fault 10 (waits_fault trace j) _ is10;
      writes = no_fault 12 (pages_fault trace j) _ is12;
      ledger = no_fault 13 (ledger_fault trace j) _ is13;
      flights = no_fault 14 (flights_fault trace j) _ is14;
      bounded = no_fault 15 (bound_fault trace j) _ is15;
      ending = no_fault 16 (ending_fault trace j) lawful is16;
    }

no_verdict : (trace : Trace) (j : Journal) → NoFaults trace j → verdict_of trace j ≡ lawful
unfolding verdict_of
no_verdict trace j none =
    none_first 2 (folds_fault trace j) _ none.folds (none_first 3 (counts_fault trace j) _ none.counts (none_first 4 (triples_fault j) _ none.triples
    (none_first 5 (fractions_fault trace j) _ none.fractions (none_first 6 (estimates_fault trace j) _ none.estimates (none_first 7 (decisions_fault trace j) _ none.decisions
    (none_first 8 (checks_fault trace j) _ none.checks (none_first 9 (timers_fault trace j) _ none.timer (none_first 10 (waits_fault trace j) _ none.waits
    (none_first 12 (pages_fault trace j) _ none.writes (none_first 13 (ledger_fault trace j) _ none.ledger (none_first 14 (flights_fault trace j) _ none.flights (none_first 15 (bound_fault trace j) _ none.bounded
    (none_first 16 (ending_fault trace j) lawful none.ending refl)))))))))))))

pub is_lawful : FaultlessIsLawful
is_lawful trace j names verdict =
    let none = faultless trace j verdict in
    let each = each_is_right trace j in
    let folds = each.folds.holds none.folds in
    let counts = each.counts.holds none.counts in
    let triples = each.triples.holds none.triples in
    let fractions = each.fractions.holds none.fractions in
    let estimates = each.estimates.holds none.estimates in
    let checks = each.checks.holds none.checks in
    let timer = each.timer.holds none.timer in
    let writes = each.writes.holds none.writes in
    let ledger = each.ledger.holds none.ledger in
    let flights = each.flights.holds none.flights in
    record {
      legal = record {
        names = names;
        folds = folds.1;
        counts = counts.0;
        fresh = counts.1;
        triples = triples.0;
        triples_go_on = triples.1;
        fractions = fractions.0;
        periods = fractions.1;
        estimates = estimates.0;
        named = estimates.1.0;
        names_go_on = estimates.1.1;
        checks = all_there trace (opened_at j.timer) (all_told j) j.ending 0 (parts_of j) (each.decisions.holds none.decisions) checks.0 checks.1;
        timer = timer.0;
        opened = timer.1;
        waits = each.waits.holds none.waits;
      };
      parts = folds.0;
      writes = writes.0;
      left_pages = writes.1;
      left = ledger.0;
      ledger = ledger.1;
      flights = flights.1;
      own_waits = flights.0;
      bounded = each.bounded.holds none.bounded;
      ending = each.ending.holds none.ending;
    }

pub is_faultless : LawfulIsFaultless
is_faultless trace j resters is =
    let each = each_is_right trace j in
    let legal = is.legal in
    let pages = parts_there (PagesAreNext trace) writes_after [] (λ tasks of. refl) [] 0 (parts_of j) is.writes in
    let by = all_back trace (opened_at j.timer) (all_told j) j.ending resters 0 (parts_of j) legal.checks pages in
    no_verdict trace j (record {
      folds = each.folds.none (is.parts, legal.folds);
      counts = each.counts.none (legal.counts, legal.fresh);
      triples = each.triples.none (legal.triples, legal.triples_go_on);
      fractions = each.fractions.none (legal.fractions, legal.periods);
      estimates = each.estimates.none (legal.estimates, (legal.named, legal.names_go_on));
      decisions = each.decisions.none (decides_back trace (opened_at j.timer) (all_told j) j.ending 0 (parts_of j) by);
      checks = each.checks.none (stands_back trace (opened_at j.timer) (all_told j) j.ending 0 (parts_of j) by, missing_back trace (opened_at j.timer) (all_told j) j.ending 0 (parts_of j) by);
      timer = each.timer.none (legal.timer, legal.opened);
      waits = each.waits.none legal.waits;
      writes = each.writes.none (is.writes, is.left_pages);
      ledger = each.ledger.none (is.left, is.ledger);
      flights = each.flights.none (is.own_waits, is.flights);
      bounded = each.bounded.none is.bounded;
      ending = each.ending.none is.ending;
    })
