-- The first fault of each point of a journal.
use Rattle.std.proofs.Common.{◌≡◌, ℕ, ◌+◌, true, List, [], ◌∷◌, length, map, Option, refl}
use Rattle.std.specs.Bool.{Decides}
use Rattle.std.proofs.lemmas.Bool.Decides.{Decides-and, Decides-eqb}
use Rattle.wbt_trace.specs.declared.trace.Trace.{Trace}
use Rattle.wbt_journal.specs.declared.journal.Ending.{Ending}
use Rattle.wbt_journal.specs.Checks.{decision_fault, StandsItem, stands_fault, NoneDue, none_due}
use Rattle.wbt_journal.specs.Checks as checks
use Rattle.wbt_journal.specs.Counts.{FoldsUp, fold_fault, folds_after, folds_in, CountsAreSums, CountsAreFresh, count_fault, versions_after}
use Rattle.wbt_journal.specs.Each.{Each}
use Rattle.wbt_journal.specs.Estimates.{opened_at, EstimatesFollow, estimates_after, ChecksNameEstimates, NamesGoOn, names_after, Sight, sight_after, no_sight, estimate_fault}
use Rattle.wbt_journal.specs.Flights.{Flies, flushers_after, first_flushers}
use Rattle.wbt_journal.specs.Items.{Item, tells, item_size, items_of, parts_of, all_told}
use Rattle.wbt_journal.specs.Lawful.{EachPart}
use Rattle.wbt_journal.specs.Laws.{FaultsAreRight}
use Rattle.wbt_journal.specs.Leaves.{is_page}
use Rattle.wbt_journal.specs.Machine.{pages, domains}
use Rattle.wbt_journal.specs.Pages.{PagesAreNext, page_fault, writes_after}
use Rattle.wbt_journal.specs.Reads.{TriplesArePublished, TriplesGoOn, triple_fault, triples_after, FractionsAreOfPeriods, PeriodsGoOn, fraction_fault, periods_after}
use Rattle.wbt_journal.specs.Side.{first_side, side_after_item}
use Rattle.wbt_journal.specs.Timer.{TimerGoesOn, timer_fault, lines_after, is_opening, one_line}
use Rattle.wbt_journal.specs.Told.{Told}
use Rattle.wbt_journal.specs.Waits.{Waits, WaitsOnOwn, wait_fault, lists_after, first_lists}
use Rattle.wbt_journal.specs.Verdict.{turn_fault, first_cpu_line, first_left_line, census_at, end_at, none_missing}
use Rattle.wbt_journal.specs.Walk.{Along, Tells, after}
use Rattle.wbt_journal.proofs.Faults.{is_true, is_false, test_tells, tells_like, both_tell, list_tells, walk_tells, along_both, along_one, along_each, each_along}
use Rattle.wbt_journal.proofs.CountFaults.{fold_tells, count_tells, triple_tells, fraction_tells, Estimating, estimate_tells}
use Rattle.wbt_journal.proofs.CheckFaults.{decision_tells, stands_tells, missing_decides}
use Rattle.wbt_journal.proofs.RunFaults.{timer_tells, page_tells, turn_tells, ledger_decides, left_decides, bound_decides, ending_decides}
use Rattle.wbt_journal.proofs.WaitFaults.{wait_tells}

-- a walk of items that are judged each by itself and each with what stands before it
two_walks : {S : Type 0} (P : Item → Type 0) (Q : S → Item → Type 0) (next : S → Item → S) (s : S) (xs : List Item) (o : Option ℕ)
    → Tells o (Along (λ t a. P a × Q t a) next s xs) → Tells o (Each P xs × Along Q next s xs)
two_walks P Q next s xs o told = tells_like o told
    (λ all. let both = along_both (λ t. P) Q next s xs all in (along_each P next s xs both.0, both.1))
    (λ both. along_one (λ t. P) Q next s xs (each_along P next s xs both.0) both.1)

-- ---- what is seen of estimates is two walks

estimates_there : (trace : Trace) (opened : ℕ) (all : List Told) (s : Sight) (xs : List Item) → Along (Estimating trace opened all) sight_after s xs
    → Along (EstimatesFollow trace opened) estimates_after s.estimates xs × (Each (ChecksNameEstimates trace all) xs × Along NamesGoOn names_after s.names xs)
estimates_there trace opened all s [] along = (tt, (tt, tt))
estimates_there trace opened all s (x ∷ xs) along =
    let rest = estimates_there trace opened all (sight_after s x) xs along.1 in
    ((along.0.0, rest.0), ((along.0.1.0, rest.1.0), (along.0.1.1, rest.1.1)))

estimates_back : (trace : Trace) (opened : ℕ) (all : List Told) (s : Sight) (xs : List Item)
    → Along (EstimatesFollow trace opened) estimates_after s.estimates xs → Each (ChecksNameEstimates trace all) xs → Along NamesGoOn names_after s.names xs
    → Along (Estimating trace opened all) sight_after s xs
estimates_back trace opened all s [] one two three = tt
estimates_back trace opened all s (x ∷ xs) one two three =
    ((one.0, (two.0, three.0)), estimates_back trace opened all (sight_after s x) xs one.1 two.1 three.1)

-- ---- the ends of parts

missing : (trace : Trace) (opened : ℕ) (end : Ending) (cpu : ℕ) (parts : List (List Told))
    → Decides (none_missing trace opened end cpu parts) (EachPart (λ of part. NoneDue end (after (side_after_item trace opened) (first_side trace) (map (tells of) part))) cpu parts)
missing trace opened end cpu [] = ((λ is. tt), λ p. refl)
missing trace opened end cpu (part ∷ parts) =
    Decides-and _ _ (missing_decides end (after (side_after_item trace opened) (first_side trace) (map (tells cpu) part))) (missing trace opened end (cpu + 1) parts)

-- ---- all points

pub each_is_right : FaultsAreRight
each_is_right trace j =
    let opened = opened_at j.timer in
    let all = all_told j in
    let folds = folds_in all in
    let items = items_of j in
    let line = first_cpu_line j in
    record {
      folds = both_tell _ _ (test_tells _ (census_at j) (Decides-eqb (length j.cpus) trace.cpus))
          (walk_tells (fold_fault trace folds) (FoldsUp trace folds) folds_after item_size (fold_tells trace folds) line [] items);
      counts = two_walks (CountsAreSums trace folds) CountsAreFresh versions_after [] items _
          (walk_tells (count_fault trace folds) (λ seen item. CountsAreSums trace folds item × CountsAreFresh seen item) versions_after item_size (count_tells trace folds) line [] items);
      triples = two_walks (TriplesArePublished j.timer) TriplesGoOn triples_after [] items _
          (walk_tells (triple_fault j.timer) (λ seen item. TriplesArePublished j.timer item × TriplesGoOn seen item) triples_after item_size (triple_tells j.timer) line [] items);
      fractions = two_walks (FractionsAreOfPeriods trace j.timer all) PeriodsGoOn periods_after [] items _
          (walk_tells (fraction_fault trace j.timer all) (λ seen item. FractionsAreOfPeriods trace j.timer all item × PeriodsGoOn seen item) periods_after item_size (fraction_tells trace j.timer all) line [] items);
      estimates = tells_like _ (walk_tells (estimate_fault trace opened all) (Estimating trace opened all) sight_after item_size (estimate_tells trace opened all) line no_sight items)
          (estimates_there trace opened all no_sight items) (λ e. estimates_back trace opened all no_sight items e.0 e.1.0 e.1.1);
      decisions = walk_tells (decision_fault trace opened all) (checks.Decides trace opened all) (side_after_item trace opened) item_size (decision_tells trace opened all) line (first_side trace) items;
      checks = both_tell _ _ (walk_tells (stands_fault trace) (StandsItem trace) (side_after_item trace opened) item_size (stands_tells trace) line (first_side trace) items)
          (test_tells _ (end_at j) (missing trace opened j.ending 0 (parts_of j)));
      timer = both_tell _ _ (walk_tells (timer_fault trace opened) (TimerGoesOn trace opened) lines_after one_line (timer_tells trace opened) 2 [] j.timer)
          (test_tells _ line (is_false (is_opening trace (after lines_after [] j.timer))));
      waits = walk_tells (wait_fault trace) (Waits trace) (lists_after trace) item_size (wait_tells trace) line (first_lists trace.flushers) items;
      writes = both_tell _ _ (walk_tells (page_fault trace) (PagesAreNext trace) writes_after item_size (page_tells trace) line [] items)
          (list_tells (is_page trace) (λ left. is_page trace left ≡ true) (λ left. is_true (is_page trace left)) (first_left_line j) j.left);
      ledger = test_tells _ (census_at j) (Decides-and _ _ (left_decides 0 j.left) (ledger_decides all j.left (pages trace)));
      flights = two_walks (WaitsOnOwn trace) (Flies trace) (flushers_after trace) (first_flushers trace.flushers) items _
          (walk_tells (turn_fault trace) (λ flushers item. WaitsOnOwn trace item × Flies trace flushers item) (flushers_after trace) item_size (turn_tells trace) line (first_flushers trace.flushers) items);
      bounded = test_tells _ (census_at j) (bound_decides trace j.timer j.left (domains trace));
      ending = test_tells _ (end_at j) (ending_decides trace (parts_of j) all j.left j.ending);
    }
