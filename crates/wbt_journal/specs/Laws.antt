-- What holds of the points of a lawful journal: the first fault of each is none exactly where the point holds.
use Rattle.std.specs.Prelude.{◌≡◌, ◌↔◌, ℕ, true, ◌&&◌, nat_le, nat_lt, List, [], length, map, count_by, unsigned_abs}
use Rattle.wbt_counter.specs.Sums.{one_if}
use Rattle.wbt_counter.specs.declared.counter.Counter.{Counter}
use Rattle.wbt_counter.specs.declared.record.Fold.{Fold}
use Rattle.wbt_trace.specs.declared.trace.Trace.{Trace}
use Rattle.wbt_journal.specs.declared.journal.Journal.{Journal}
use Rattle.wbt_journal.specs.Checks.{Decides, StandsItem, NoneDue}
use Rattle.wbt_journal.specs.Counts.{of_counter, is_version, folds_in, CountsAreFresh, versions_after}
use Rattle.wbt_journal.specs.Each.{Each}
use Rattle.wbt_journal.specs.Estimates.{opened_at, NamesGoOn, names_after}
use Rattle.wbt_journal.specs.Flights.{Flies, flushers_after, first_flushers}
use Rattle.wbt_journal.specs.Items.{Item, tells, items_from, items_of, parts_of, all_told}
use Rattle.wbt_journal.specs.Lawful.{EachPart, IsLawful, NamesAreInOrder, FoldsAreUp, CountsSumFolds, CountsStayFresh, TriplesAreOfTimer, TriplesStayNew, FractionsAreOfShares, PeriodsStayNew, EstimatesAreUp, NamesAreOfEstimates, NamesStayNew, TimerFollows, TimerHasOpened, WaitsAreInOrder, WritesAreInOrder, LeftPagesAreThere, LedgerIsEven, FlushersAreInTurn, WaitsAreOwn, LeftIsBounded, EndingIsRight}
use Rattle.wbt_journal.specs.Leaves.{LeftFrom}
use Rattle.wbt_journal.specs.Machine.{batch_of, has_counter, rests_last}
use Rattle.wbt_journal.specs.Pages.{PagesAreNext, writes_after}
use Rattle.wbt_journal.specs.Plain.{LineFits}
use Rattle.wbt_journal.specs.Reads.{TriplesGoOn, triples_after, PeriodsGoOn, periods_after}
use Rattle.wbt_journal.specs.Side.{first_side, is_own_task, side_after_item}
use Rattle.wbt_journal.specs.Text.{journal_lines, journal_text}
use Rattle.wbt_journal.specs.Told.{Told}
use Rattle.wbt_journal.specs.Verdict.{verdict_of, lawful, folds_fault, counts_fault, triples_fault, fractions_fault, estimates_fault, decisions_fault, checks_fault, timers_fault, waits_fault, pages_fault, ledger_fault, flights_fault, bound_fault, ending_fault}
use Rattle.wbt_journal.specs.Waits.{Waits, WaitsOnOwn, lists_after, first_lists}
use Rattle.wbt_journal.specs.Walk.{Along, Tells, after}

-- at the end of each part no check is missing
abbrev pub NoneMissing : (trace : Trace) (j : Journal) → Type 0
NoneMissing trace j =
    EachPart (λ cpu part. NoneDue j.ending (after (side_after_item trace (opened_at j.timer)) (first_side trace) (map (tells cpu) part))) 0 (parts_of j)

-- a writer's check is judged in a walk in which no task that rests last ever ends
abbrev pub DecisionsAreAsked : (trace : Trace) (j : Journal) → Type 0
DecisionsAreAsked trace j =
    Along (Decides trace (opened_at j.timer) (all_told j)) (side_after_item trace (opened_at j.timer)) (first_side trace) (items_of j)

-- each write and check stands where it may, in that same walk
abbrev pub ChecksStand : (trace : Trace) (j : Journal) → Type 0
ChecksStand trace j = Along (StandsItem trace) (side_after_item trace (opened_at j.timer)) (first_side trace) (items_of j)

-- the first fault of each point is none exactly where the point holds
pub record EachFaultIsRight (trace : Trace) (j : Journal) : Type 0 where
  pub folds : Tells (folds_fault trace j) ((length j.cpus ≡ trace.cpus) × FoldsAreUp trace j)
  pub counts : Tells (counts_fault trace j) (CountsSumFolds trace j × CountsStayFresh j)
  pub triples : Tells (triples_fault j) (TriplesAreOfTimer j × TriplesStayNew j)
  pub fractions : Tells (fractions_fault trace j) (FractionsAreOfShares trace j × PeriodsStayNew j)
  pub estimates : Tells (estimates_fault trace j) (EstimatesAreUp trace j × (NamesAreOfEstimates trace j × NamesStayNew j))
  pub decisions : Tells (decisions_fault trace j) (DecisionsAreAsked trace j)
  pub checks : Tells (checks_fault trace j) (ChecksStand trace j × NoneMissing trace j)
  pub timer : Tells (timers_fault trace j) (TimerFollows trace j × TimerHasOpened trace j)
  pub waits : Tells (waits_fault trace j) (WaitsAreInOrder trace j)
  pub writes : Tells (pages_fault trace j) (WritesAreInOrder trace j × LeftPagesAreThere trace j)
  pub ledger : Tells (ledger_fault trace j) (LeftFrom 0 j.left × LedgerIsEven trace j)
  pub flights : Tells (flights_fault trace j) (WaitsAreOwn trace j × FlushersAreInTurn trace j)
  pub bounded : Tells (bound_fault trace j) (LeftIsBounded trace j)
  pub ending : Tells (ending_fault trace j) (EndingIsRight trace j)

-- so it is for every trace and journal
abbrev pub FaultsAreRight : Type 0
FaultsAreRight = (trace : Trace) (j : Journal) → EachFaultIsRight trace j

-- A journal of which no point has a fault is lawful. Where a task's last action is a rest, the place at which it ends is open, and the
-- faults are those of the walk in which it never does. So a lawful journal has no fault where each such task has its CPU alone: after its
-- end nothing else of its CPU is judged.
abbrev pub FaultlessIsLawful : Type 0
FaultlessIsLawful = (trace : Trace) (j : Journal) → NamesAreInOrder j → verdict_of trace j ≡ lawful → IsLawful trace j

-- no other task runs on the task's CPU
abbrev pub HasCpuAlone : (trace : Trace) (task : ℕ) → Type 0
HasCpuAlone trace task = (cpu other : ℕ) → is_own_task trace cpu task ≡ true → is_own_task trace cpu other ≡ true → other ≡ task

-- each task whose last action is a rest has its CPU alone
abbrev pub RestersAreAlone : (trace : Trace) → Type 0
RestersAreAlone trace = (task : ℕ) → rests_last trace task ≡ true → HasCpuAlone trace task

-- a lawful journal has no fault where each task that rests last has its CPU alone
abbrev pub LawfulIsFaultless : Type 0
LawfulIsFaultless = (trace : Trace) (j : Journal) → RestersAreAlone trace → IsLawful trace j → verdict_of trace j ≡ lawful

-- ---- what is known of all CPUs' folds together

-- a fold of a counter of the trace that moves just a batch
pub record IsFullFold (trace : Trace) (fold : Fold) : Type 0 where
  pub named : has_counter trace fold.counter ≡ true
  pub full : unsigned_abs fold.delta ≡ batch_of trace fold.counter

-- with n folds of a counter each version from 1 to n stands once, and no other
abbrev pub VersionsAreOnce : (folds : List Fold) → Type 0
VersionsAreOnce folds = (x : Counter) (v : ℕ) → one_if (nat_lt 0 v && nat_le v (length (of_counter x folds))) ≡ count_by (is_version x v) folds

-- then the folds of a journal, each of a batch, stand as they may
abbrev pub FoldsOnceAreUp : Type 0
FoldsOnceAreUp = (trace : Trace) (j : Journal) → VersionsAreOnce (folds_in (all_told j)) → Each (IsFullFold trace) (folds_in (all_told j))
    → FoldsAreUp trace j

-- ---- what is known of each part by itself

-- a walk over a part's entries, from a state on
abbrev pub OfPart : {S : Type 0} (s : S → Item → Type 0) (next : S → Item → S) (start : S) (cpu : ℕ) (part : List Told)
    → Type 0
OfPart Ok next start cpu part = Along Ok next start (map (tells cpu) part)

-- what a CPU's part shows by itself
pub record IsOwnPart (trace : Trace) (cpu : ℕ) (part : List Told) : Type 0 where
  pub fresh : OfPart CountsAreFresh versions_after [] cpu part
  pub triples : OfPart TriplesGoOn triples_after [] cpu part
  pub periods : OfPart PeriodsGoOn periods_after [] cpu part
  pub names_go_on : OfPart NamesGoOn names_after [] cpu part
  pub writes : OfPart (PagesAreNext trace) writes_after [] cpu part
  pub flights : OfPart (Flies trace) (flushers_after trace) (first_flushers trace.flushers) cpu part
  pub waits : OfPart (Waits trace) (lists_after trace) (first_lists trace.flushers) cpu part
  pub own_waits : Each (WaitsOnOwn trace) (map (tells cpu) part)

-- and what it is of the whole
pub record IsOwnWhole (trace : Trace) (items : List Item) : Type 0 where
  pub fresh : Along CountsAreFresh versions_after [] items
  pub triples : Along TriplesGoOn triples_after [] items
  pub periods : Along PeriodsGoOn periods_after [] items
  pub names_go_on : Along NamesGoOn names_after [] items
  pub writes : Along (PagesAreNext trace) writes_after [] items
  pub flights : Along (Flies trace) (flushers_after trace) (first_flushers trace.flushers) items
  pub waits : Along (Waits trace) (lists_after trace) (first_lists trace.flushers) items
  pub own_waits : Each (WaitsOnOwn trace) items

-- the walks that begin anew with each part, and what is asked of each item by itself, hold of a journal exactly where they hold of
-- each part
abbrev pub OwnPartsAreWhole : Type 0
OwnPartsAreWhole = (trace : Trace) (parts : List (List Told)) → EachPart (IsOwnPart trace) 0 parts ↔ IsOwnWhole trace (items_from 0 parts)

-- ---- the text

-- a journal of a run of threads, whose numbers have at most 64 bits
pub record IsPrinted (j : Journal) : Type 0 where
  pub steps : j.steps ≡ []
  pub bases : j.bases ≡ []
  pub homes : j.homes ≡ []
  pub fits : Each LineFits (journal_lines j)

-- two of them that are lawful for one trace and have one text are equal
abbrev pub LawfulTextFixesJournal : Type 0
LawfulTextFixesJournal = (trace : Trace) (j k : Journal) → IsLawful trace j → IsLawful trace k → IsPrinted j → IsPrinted k → journal_text j ≡ journal_text k → j ≡ k
