-- What makes a journal lawful for a trace: point by point, and one field for each part of a point that is known at one place.
use Rattle.std.specs.Prelude.{◌≡◌, ℕ, ◌+◌, ◌<◌, true, false, List, [], ◌∷◌, length, map, flat_map}
use Rattle.wbt_trace.specs.declared.trace.Trace.{Trace}
use Rattle.wbt_journal.specs.declared.journal.Ending.{Ending}
use Rattle.wbt_journal.specs.declared.journal.Journal.{Journal}
use Rattle.wbt_journal.specs.Checks.{Decides, Stands, NoneDue}
use Rattle.wbt_journal.specs.Counts.{FoldsUp, folds_after, folds_in, CountsAreSums, CountsAreFresh, versions_after}
use Rattle.wbt_journal.specs.Each.{Each}
use Rattle.wbt_journal.specs.Estimates.{opened_at, EstimatesFollow, estimates_after, ChecksNameEstimates, NamesGoOn, names_after}
use Rattle.wbt_journal.specs.Flights.{Flies, flushers_after, first_flushers}
use Rattle.wbt_journal.specs.Items.{Item, tells, items_of, parts_of, all_told}
use Rattle.wbt_journal.specs.Leaves.{IsEvenBelow, LeftFrom, WasDirtied, WasCompleted, is_page, IsBounded, EndsBy}
use Rattle.wbt_journal.specs.Machine.{pages, domains}
use Rattle.wbt_journal.specs.Pages.{PagesAreNext, writes_after}
use Rattle.wbt_journal.specs.Reads.{TriplesArePublished, TriplesGoOn, triples_after, FractionsAreOfPeriods, PeriodsGoOn, periods_after}
use Rattle.wbt_journal.specs.Side.{Event, item, ends, Side, first_side, side_after}
use Rattle.wbt_journal.specs.Timer.{TimerGoesOn, lines_after, is_opening}
use Rattle.wbt_journal.specs.Told.{Told, NamesInOrder}
use Rattle.wbt_journal.specs.Waits.{Waits, WaitsOnOwn, lists_after, first_lists}
use Rattle.wbt_journal.specs.Walk.{Along, after}

-- what holds of each part, by its CPU's number
abbrev pub EachPart : (P : ℕ → List Told → Type 0) (cpu : ℕ) (lists : List (List Told)) → Type 0
EachPart P cpu [] = Unit {0}
EachPart P cpu (part ∷ parts) = P cpu part × EachPart P (cpu + 1) parts

-- ---- checks

-- the item of an event; none at the end of a task
abbrev pub item_of_event : (event : Event) → List Item
item_of_event (item i) = i ∷ []
item_of_event (ends task) = []

-- the entries of a CPU's part among events
abbrev pub items_among : (events : List Event) → List Item
items_among events = flat_map item_of_event events

-- an event's check decides as the law asks
abbrev pub DecidesEvent : (trace : Trace) (opened : ℕ) (all : List Told) (s : Side) (event : Event) → Type 0
DecidesEvent trace opened all s (item i) = Decides trace opened all s i
DecidesEvent trace opened all s (ends task) = Unit {0}

-- Along these events, which are the part's entries and the ends of tasks that rest last, each check stands where it is due and
-- decides as the law asks, and none is missing.
pub record ChecksAlong (trace : Trace) (opened : ℕ) (all : List Told) (ended : Ending) (cpu : ℕ) (part : List Told) (events : List Event) : Type 0 where
  pub are : items_among events ≡ map (tells cpu) part
  pub decide : Along (DecidesEvent trace opened all) (side_after trace opened) (first_side trace) events
  pub stand : Along (Stands trace) (side_after trace opened) (first_side trace) events
  pub none_missing : NoneDue ended (after (side_after trace opened) (first_side trace) events)

-- a task that rests last may be taken as ended at any place
abbrev pub HasChecks : (trace : Trace) (opened : ℕ) (all : List Told) (ended : Ending) (cpu : ℕ) (part : List Told) → Type 0
HasChecks trace opened all ended cpu part = (events : List Event) × ChecksAlong trace opened all ended cpu part events

-- ---- the points of a legal journal

-- each part's entries name its checks and estimates in order
abbrev pub NamesAreInOrder : (j : Journal) → Type 0
NamesAreInOrder j = Each NamesInOrder j.cpus

-- with n folds of a counter over all CPUs their versions are 1 to n, each once, and each fold moves a batch
abbrev pub FoldsAreUp : (trace : Trace) (j : Journal) → Type 0
FoldsAreUp trace j = Along (FoldsUp trace (folds_in (all_told j))) folds_after [] (items_of j)

-- each count is the sum of the folds up to its version
abbrev pub CountsSumFolds : (trace : Trace) (j : Journal) → Type 0
CountsSumFolds trace j = Each (CountsAreSums trace (folds_in (all_told j))) (items_of j)

-- and no older than what its CPU had seen
abbrev pub CountsStayFresh : (j : Journal) → Type 0
CountsStayFresh j = Along CountsAreFresh versions_after [] (items_of j)

-- each triple that a check read is the one that the timer published for the domain as this version, the first being 0
abbrev pub TriplesAreOfTimer : (j : Journal) → Type 0
TriplesAreOfTimer j = Each (TriplesArePublished j.timer) (items_of j)

-- and its version is no earlier than what its CPU had read
abbrev pub TriplesStayNew : (j : Journal) → Type 0
TriplesStayNew j = Along TriplesGoOn triples_after [] (items_of j)

-- each fraction is of a period that the domain has had, and of no more than was added
abbrev pub FractionsAreOfShares : (trace : Trace) (j : Journal) → Type 0
FractionsAreOfShares trace j = Each (FractionsAreOfPeriods trace j.timer (all_told j)) (items_of j)

-- and its period is no earlier than what its CPU had read
abbrev pub PeriodsStayNew : (j : Journal) → Type 0
PeriodsStayNew j = Along PeriodsGoOn periods_after [] (items_of j)

-- the estimates of a context follow one another, from the first of the opening
abbrev pub EstimatesAreUp : (trace : Trace) (j : Journal) → Type 0
EstimatesAreUp trace j = Along (EstimatesFollow trace (opened_at j.timer)) estimates_after [] (items_of j)

-- a check names one of them, or the first
abbrev pub NamesAreOfEstimates : (trace : Trace) (j : Journal) → Type 0
NamesAreOfEstimates trace j = Each (ChecksNameEstimates trace (all_told j)) (items_of j)

-- and none that is older than what its CPU had named
abbrev pub NamesStayNew : (j : Journal) → Type 0
NamesStayNew j = Along NamesGoOn names_after [] (items_of j)

-- checks stand exactly where they are due, and decide as the law asks
abbrev pub ChecksAreRight : (trace : Trace) (j : Journal) → Type 0
ChecksAreRight trace j = EachPart (HasChecks trace (opened_at j.timer) (all_told j) j.ending) 0 (parts_of j)

-- each line of the timer may follow those before it
abbrev pub TimerFollows : (trace : Trace) (j : Journal) → Type 0
TimerFollows trace j = Along (TimerGoesOn trace (opened_at j.timer)) lines_after [] j.timer

-- and each domain has its line of the opening
abbrev pub TimerHasOpened : (trace : Trace) (j : Journal) → Type 0
TimerHasOpened trace j = is_opening trace (after lines_after [] j.timer) ≡ false

-- each flusher's notices, and the inodes that it takes, keep a list of those that wait, in order of the moment at which they are due
abbrev pub WaitsAreInOrder : (trace : Trace) (j : Journal) → Type 0
WaitsAreInOrder trace j = Along (Waits trace) (lists_after trace) (first_lists trace.flushers) (items_of j)

-- ---- the points of a journal of a run

-- the pages that a task wrote are the first of its pages, in order, and it did so on its CPU
abbrev pub WritesAreInOrder : (trace : Trace) (j : Journal) → Type 0
WritesAreInOrder trace j = Along (PagesAreNext trace) writes_after [] (items_of j)

-- each page that is left is one of the trace
abbrev pub LeftPagesAreThere : (trace : Trace) (j : Journal) → Type 0
LeftPagesAreThere trace j = Each (λ left. is_page trace left ≡ true) j.left

-- each page was claimed as often as it was dirtied, and completed or given back as often as it was claimed, but for what is left
abbrev pub LedgerIsEven : (trace : Trace) (j : Journal) → Type 0
LedgerIsEven trace j = IsEvenBelow (all_told j) j.left (pages trace)

-- each flusher claims, hands over, and completes or gives back in turn
abbrev pub FlushersAreInTurn : (trace : Trace) (j : Journal) → Type 0
FlushersAreInTurn trace j = Along (Flies trace) (flushers_after trace) (first_flushers trace.flushers) (items_of j)

-- and notices inodes, and takes them, in its own CPU's part
abbrev pub WaitsAreOwn : (trace : Trace) (j : Journal) → Type 0
WaitsAreOwn trace j = Each (WaitsOnOwn trace) (items_of j)

-- no domain has more pages left than its bound
abbrev pub LeftIsBounded : (trace : Trace) (j : Journal) → Type 0
LeftIsBounded trace j = IsBounded trace j.timer j.left (domains trace)

-- the journal ends as its entries and what is left allow
abbrev pub EndingIsRight : (trace : Trace) (j : Journal) → Type 0
EndingIsRight trace j = EndsBy trace (parts_of j) (all_told j) j.left j.ending

-- ---- beside these points

-- each page that a write found dirty was dirtied by a write that the journal tells
abbrev pub FoundWereDirtied : (j : Journal) → Type 0
FoundWereDirtied j = Each (WasDirtied (all_told j)) (all_told j)

-- each page that a write dirtied was completed or is left; by the ledger alone it could have been absorbed, and no more
abbrev pub DirtiedWereCompleted : (trace : Trace) (j : Journal) → Type 0
DirtiedWereCompleted trace j = (page : ℕ) → page < pages trace → WasCompleted (all_told j) j.left page

-- ---- all points

-- the points that hold of the journal of every run, also of an ordered one
pub record IsLegal (trace : Trace) (j : Journal) : Type 0 where
  pub names : NamesAreInOrder j
  pub folds : FoldsAreUp trace j
  pub counts : CountsSumFolds trace j
  pub fresh : CountsStayFresh j
  pub triples : TriplesAreOfTimer j
  pub triples_go_on : TriplesStayNew j
  pub fractions : FractionsAreOfShares trace j
  pub periods : PeriodsStayNew j
  pub estimates : EstimatesAreUp trace j
  pub named : NamesAreOfEstimates trace j
  pub names_go_on : NamesStayNew j
  pub checks : ChecksAreRight trace j
  pub timer : TimerFollows trace j
  pub opened : TimerHasOpened trace j
  pub waits : WaitsAreInOrder trace j

-- the points of a journal of a run: it is legal, it has a part for each CPU, and its pages, flushers, bound and ending are right
pub record IsLawful (trace : Trace) (j : Journal) : Type 0 where
  pub legal : IsLegal trace j
  -- a part for each CPU
  pub parts : length j.cpus ≡ trace.cpus
  pub writes : WritesAreInOrder trace j
  pub left_pages : LeftPagesAreThere trace j
  pub left : LeftFrom 0 j.left
  pub ledger : LedgerIsEven trace j
  pub flights : FlushersAreInTurn trace j
  pub own_waits : WaitsAreOwn trace j
  pub bounded : LeftIsBounded trace j
  pub ending : EndingIsRight trace j
