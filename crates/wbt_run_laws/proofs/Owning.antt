-- The points that each part shows by itself.
use Rattle.std.proofs.Common.{ℕ, ◌<◌, List, [], sym, refl, ap, ◌∙◌, subst}
use Rattle.std.proofs.lemmas.List.{length-map}
use Rattle.wbt_run_laws.proofs.Common.{Due, Trace, items_from, parts_of, tells, Told, Along, after, Journal, IsOwn, list_after, WaitsInTurn, part_at, Run, Worked}
use Rattle.wbt_journal.specs.Flights.{first_flushers}
use Rattle.wbt_journal.specs.Laws.{IsOwnPart, IsOwnWhole}
use Rattle.wbt_journal.specs.Waits.{WaitsOnOwn, first_lists}
use Rattle.wbt_journal.specs.declared.journal.Ending.{Ending}
use Rattle.wbt_journal.proofs.Owning.{own_parts}
use Rattle.wbt_run_laws.specs.Laws.{WorkedCountsStayFresh, WorkedTriplesStayNew, WorkedPeriodsStayNew, WorkedNamesStayNew, WorkedWritesAreInOrder, WorkedFlushersAreInTurn, WorkedWaitsAreInOrder, WorkedWaitsAreOwn, WorkedNoneWaitsWhenDone}
use Rattle.wbt_run_laws.specs.Worked.{EndedBy}
use Rattle.wbt_run_laws.proofs.Counting.{in_parts, record_held}
use Rattle.wbt_run_laws.proofs.Flying.{all_fly}
use Rattle.wbt_run_laws.proofs.Holding.{held_new}
use Rattle.wbt_run_laws.proofs.Lists.{each_map, each_weaker}
use Rattle.wbt_run_laws.proofs.Parts.{each_cpu}
use Rattle.wbt_run_laws.proofs.Waiting.{all_reach, all_wait, first_list}

module _ (trace : Trace) (j : Journal) (r : Run) (w : Worked trace j r) where
  own_part : (c : ℕ) → c < trace.cpus → IsOwnPart trace c (part_at j c)
  own_part c less = let noted = w.since c less in record {
    fresh = (noted.since.grew.fresh c).allowed [] (λ version x none. refl);
    triples = held_new r.set.firsts (part_at j c) (r.closed.cpu c).triples (w.closed.holds.records_tell.triples_in_order c) (record_held trace j r w c less) c;
    periods = noted.shares.periods.allowed [] (λ domain context period late. refl);
    names_go_on = noted.estimates.names.allowed [] (λ context version late. refl);
    writes = noted.since.wrote.allowed [] (λ task. refl);
    waits = all_wait trace c (first_lists trace.flushers) (part_at j c) (length-map trace.flushers _) noted.since.own
        (λ f. subst (λ (pairs : List Due). Along (WaitsInTurn trace f) (list_after trace f) pairs (part_at j c)) (sym (first_list trace.flushers f)) (noted.since.waited f).allowed);
    own_waits = each_map (WaitsOnOwn trace) (tells c) (part_at j c) (each_weaker (IsOwn trace c) (λ (e : Told). WaitsOnOwn trace (tells c e)) (λ e own. own.wait) (part_at j c) noted.since.own);
    flights = all_fly trace c (first_flushers trace.flushers) (part_at j c) noted.since.own (λ f. (noted.since.flew f).allowed);
  }

  own_whole : IsOwnWhole trace (items_from 0 (parts_of j))
  own_whole = (own_parts trace (parts_of j)).0 (each_cpu (IsOwnPart trace) (parts_of j) (λ c less. own_part c (in_parts trace j r w c less)))

pub counts_fresh : WorkedCountsStayFresh
counts_fresh trace j r w = (own_whole trace j r w).fresh

pub triples_new : WorkedTriplesStayNew
triples_new trace j r w = (own_whole trace j r w).triples

pub periods_new : WorkedPeriodsStayNew
periods_new trace j r w = (own_whole trace j r w).periods

pub names_new : WorkedNamesStayNew
names_new trace j r w = (own_whole trace j r w).names_go_on

pub writes_in_order : WorkedWritesAreInOrder
writes_in_order trace j r w = (own_whole trace j r w).writes

pub flushers_in_turn : WorkedFlushersAreInTurn
flushers_in_turn trace j r w = (own_whole trace j r w).flights

pub waits_in_order : WorkedWaitsAreInOrder
waits_in_order trace j r w = (own_whole trace j r w).waits

pub waits_are_own : WorkedWaitsAreOwn
waits_are_own trace j r w = (own_whole trace j r w).own_waits

pub none_waits_when_done : WorkedNoneWaitsWhenDone
none_waits_when_done trace j r w done c f less =
    let since = (w.since c less).since in
    let ended = subst (λ (e : Ending). EndedBy trace r.last j.left e) done w.ended in
    all_reach trace c (first_lists trace.flushers) (part_at j c) (length-map trace.flushers _) since.own f
    ∙ ap (λ (pairs : List Due). after (list_after trace f) pairs (part_at j c)) (first_list trace.flushers f) ∙ (since.waited f).reached ∙ ended.2 c f less
