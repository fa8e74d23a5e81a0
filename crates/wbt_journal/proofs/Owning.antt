-- What each part shows by itself.
use Rattle.std.proofs.Common.{ℕ, List, [], map, refl}
use Rattle.wbt_trace.specs.declared.trace.Trace.{Trace}
use Rattle.wbt_journal.specs.Counts.{CountsAreFresh, versions_after}
use Rattle.wbt_journal.specs.Estimates.{NamesGoOn, names_after}
use Rattle.wbt_journal.specs.Flights.{Flies, flushers_after, first_flushers}
use Rattle.wbt_journal.specs.Each.{Each}
use Rattle.wbt_journal.specs.Items.{tells, items_from}
use Rattle.wbt_journal.specs.Lawful.{EachPart}
use Rattle.wbt_journal.specs.Laws.{OfPart, IsOwnPart, IsOwnWhole, OwnPartsAreWhole}
use Rattle.wbt_journal.specs.Pages.{PagesAreNext, writes_after}
use Rattle.wbt_journal.specs.Reads.{TriplesGoOn, triples_after, PeriodsGoOn, periods_after}
use Rattle.wbt_journal.specs.Told.{Told}
use Rattle.wbt_journal.specs.Waits.{Waits, WaitsOnOwn, lists_after, first_lists}
use Rattle.wbt_journal.proofs.Parting.{parts_there, parts_back, each_there, each_back, each_part, both_parts}

there : (trace : Trace) (parts : List (List Told)) → EachPart (IsOwnPart trace) 0 parts → IsOwnWhole trace (items_from 0 parts)
there trace parts each = record {
  fresh = parts_back CountsAreFresh versions_after [] (λ s cpu. refl) (λ s cpu. tt) [] 0 parts
      (each_part (IsOwnPart trace) (OfPart CountsAreFresh versions_after []) (λ cpu part own. own.fresh) 0 parts each);
  triples = parts_back TriplesGoOn triples_after [] (λ s cpu. refl) (λ s cpu. tt) [] 0 parts
      (each_part (IsOwnPart trace) (OfPart TriplesGoOn triples_after []) (λ cpu part own. own.triples) 0 parts each);
  periods = parts_back PeriodsGoOn periods_after [] (λ s cpu. refl) (λ s cpu. tt) [] 0 parts
      (each_part (IsOwnPart trace) (OfPart PeriodsGoOn periods_after []) (λ cpu part own. own.periods) 0 parts each);
  names_go_on = parts_back NamesGoOn names_after [] (λ s cpu. refl) (λ s cpu. tt) [] 0 parts
      (each_part (IsOwnPart trace) (OfPart NamesGoOn names_after []) (λ cpu part own. own.names_go_on) 0 parts each);
  writes = parts_back (PagesAreNext trace) writes_after [] (λ s cpu. refl) (λ s cpu. tt) [] 0 parts
      (each_part (IsOwnPart trace) (OfPart (PagesAreNext trace) writes_after []) (λ cpu part own. own.writes) 0 parts each);
  flights = parts_back (Flies trace) (flushers_after trace) (first_flushers trace.flushers) (λ s cpu. refl) (λ s cpu. tt) (first_flushers trace.flushers) 0 parts
      (each_part (IsOwnPart trace) (OfPart (Flies trace) (flushers_after trace) (first_flushers trace.flushers)) (λ cpu part own. own.flights) 0 parts each);
  waits = parts_back (Waits trace) (lists_after trace) (first_lists trace.flushers) (λ s cpu. refl) (λ s cpu. tt) (first_lists trace.flushers) 0 parts
      (each_part (IsOwnPart trace) (OfPart (Waits trace) (lists_after trace) (first_lists trace.flushers)) (λ cpu part own. own.waits) 0 parts each);
  own_waits = each_back (WaitsOnOwn trace) (λ cpu. tt) 0 parts
      (each_part (IsOwnPart trace) (λ cpu part. Each (WaitsOnOwn trace) (map (tells cpu) part)) (λ cpu part own. own.own_waits) 0 parts each);
}

back : (trace : Trace) (parts : List (List Told)) → IsOwnWhole trace (items_from 0 parts) → EachPart (IsOwnPart trace) 0 parts
back trace parts is =
    let A : ℕ → List Told → Type 0 = OfPart CountsAreFresh versions_after [] in
    let B : ℕ → List Told → Type 0 = OfPart PeriodsGoOn periods_after [] in
    let C : ℕ → List Told → Type 0 = OfPart NamesGoOn names_after [] in
    let D : ℕ → List Told → Type 0 = OfPart (PagesAreNext trace) writes_after [] in
    let E : ℕ → List Told → Type 0 = OfPart (Flies trace) (flushers_after trace) (first_flushers trace.flushers) in
    let F : ℕ → List Told → Type 0 = OfPart TriplesGoOn triples_after [] in
    let G : ℕ → List Told → Type 0 = OfPart (Waits trace) (lists_after trace) (first_lists trace.flushers) in
    let H : ℕ → List Told → Type 0 = λ cpu part. Each (WaitsOnOwn trace) (map (tells cpu) part) in
    let seven : ℕ → List Told → Type 0 = λ cpu part. G cpu part × H cpu part in
    let six : ℕ → List Told → Type 0 = λ cpu part. F cpu part × seven cpu part in
    let five : ℕ → List Told → Type 0 = λ cpu part. E cpu part × six cpu part in
    let four : ℕ → List Told → Type 0 = λ cpu part. D cpu part × five cpu part in
    let three : ℕ → List Told → Type 0 = λ cpu part. C cpu part × four cpu part in
    let two : ℕ → List Told → Type 0 = λ cpu part. B cpu part × three cpu part in
    each_part (λ cpu part. A cpu part × two cpu part) (IsOwnPart trace)
    (λ cpu part all. record {
      fresh = all.0;
      periods = all.1.0;
      names_go_on = all.1.1.0;
      writes = all.1.1.1.0;
      flights = all.1.1.1.1.0;
      triples = all.1.1.1.1.1.0;
      waits = all.1.1.1.1.1.1.0;
      own_waits = all.1.1.1.1.1.1.1;
    }) 0 parts
    (both_parts A two 0 parts (parts_there CountsAreFresh versions_after [] (λ s cpu. refl) [] 0 parts is.fresh)
    (both_parts B three 0 parts (parts_there PeriodsGoOn periods_after [] (λ s cpu. refl) [] 0 parts is.periods)
    (both_parts C four 0 parts (parts_there NamesGoOn names_after [] (λ s cpu. refl) [] 0 parts is.names_go_on)
    (both_parts D five 0 parts (parts_there (PagesAreNext trace) writes_after [] (λ s cpu. refl) [] 0 parts is.writes)
    (both_parts E six 0 parts (parts_there (Flies trace) (flushers_after trace) (first_flushers trace.flushers) (λ s cpu. refl) (first_flushers trace.flushers) 0 parts is.flights)
    (both_parts F seven 0 parts (parts_there TriplesGoOn triples_after [] (λ s cpu. refl) [] 0 parts is.triples)
    (both_parts G H 0 parts (parts_there (Waits trace) (lists_after trace) (first_lists trace.flushers) (λ s cpu. refl) (first_lists trace.flushers) 0 parts is.waits)
    (each_there (WaitsOnOwn trace) 0 parts is.own_waits))))))))

pub own_parts : OwnPartsAreWhole
own_parts trace parts = (there trace parts, back trace parts)
