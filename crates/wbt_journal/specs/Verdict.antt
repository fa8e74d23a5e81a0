-- The first fault of a journal: the least point that fails, and the line that shows it, counted from the journal's first.
use Rattle.std.specs.Prelude.{ℕ, ◌+◌, Bool, true, not, ◌&&◌, ◌==◌, Option, Some, None, List, [], ◌∷◌, length, map, sum_by}
use Rattle.wbt_trace.specs.declared.trace.Trace.{Trace}
use Rattle.wbt_journal.specs.declared.journal.Ending.{Ending}
use Rattle.wbt_journal.specs.declared.journal.Journal.{Journal}
use Rattle.wbt_journal.specs.Checks.{decision_fault, stands_fault, none_due}
use Rattle.wbt_journal.specs.Counts.{fold_fault, folds_after, folds_in, count_fault, versions_after}
use Rattle.wbt_journal.specs.Estimates.{opened_at, estimate_fault, sight_after, no_sight}
use Rattle.wbt_journal.specs.Flights.{ToldFlusher, flight_fault, flushers_after, first_flushers}
use Rattle.wbt_journal.specs.Items.{Item, tells, item_size, items_of, parts_of, all_told}
use Rattle.wbt_journal.specs.Leaves.{is_even_below, is_left_from, is_page, is_bounded, ends_by}
use Rattle.wbt_journal.specs.Machine.{pages, domains}
use Rattle.wbt_journal.specs.Pages.{page_fault, writes_after}
use Rattle.wbt_journal.specs.Reads.{triple_fault, triples_after, fraction_fault, periods_after}
use Rattle.wbt_journal.specs.Side.{first_side, side_after_item}
use Rattle.wbt_journal.specs.Timer.{timer_fault, lines_after, is_opening, one_line}
use Rattle.wbt_journal.specs.Told.{Told}
use Rattle.wbt_journal.specs.Waits.{wait_fault, stranger_fault, lists_after, first_lists}
use Rattle.wbt_journal.specs.Walk.{after, unless, first_of, first_failed, first_fault}

-- ---- lines

-- the line of the first CPU's part, where the journal's first is 1
abbrev pub first_cpu_line : (j : Journal) → ℕ
first_cpu_line j = 2 + length j.timer

-- the line of the first page that is left
abbrev pub first_left_line : (j : Journal) → ℕ
first_left_line j = first_cpu_line j + sum_by item_size (items_of j)

-- the line of the census
abbrev pub census_at : (j : Journal) → ℕ
census_at j = first_left_line j + length j.left

-- the line of the ending
abbrev pub end_at : (j : Journal) → ℕ
end_at j = census_at j + (2 + length j.strict)

-- ---- the first fault of each point

-- the first fault of folds; a wrong number of parts shows at the census
abbrev pub folds_fault : (trace : Trace) (j : Journal) → Option ℕ
folds_fault trace j = first_of (unless (length j.cpus == trace.cpus) (census_at j))
    (first_fault (fold_fault trace (folds_in (all_told j))) folds_after item_size (first_cpu_line j) [] (items_of j))

-- the first fault of counts that checks loaded
abbrev pub counts_fault : (trace : Trace) (j : Journal) → Option ℕ
counts_fault trace j = first_fault (count_fault trace (folds_in (all_told j))) versions_after item_size (first_cpu_line j) [] (items_of j)

-- the first fault of triples that checks read
abbrev pub triples_fault : (j : Journal) → Option ℕ
triples_fault j = first_fault (triple_fault j.timer) triples_after item_size (first_cpu_line j) [] (items_of j)

-- the first fault of fractions that checks read and of shares
abbrev pub fractions_fault : (trace : Trace) (j : Journal) → Option ℕ
fractions_fault trace j = first_fault (fraction_fault trace j.timer (all_told j)) periods_after item_size (first_cpu_line j) [] (items_of j)

-- the first fault of estimates and of what checks name
abbrev pub estimates_fault : (trace : Trace) (j : Journal) → Option ℕ
estimates_fault trace j = first_fault (estimate_fault trace (opened_at j.timer) (all_told j)) sight_after item_size (first_cpu_line j) no_sight (items_of j)

-- the first fault of what checks decided
abbrev pub decisions_fault : (trace : Trace) (j : Journal) → Option ℕ
decisions_fault trace j =
    first_fault (decision_fault trace (opened_at j.timer) (all_told j)) (side_after_item trace (opened_at j.timer)) item_size (first_cpu_line j) (first_side trace) (items_of j)

-- whether no part has a check that is still due at its end
abbrev pub none_missing : (trace : Trace) (opened : ℕ) (ended : Ending) (cpu : ℕ) (lists : List (List Told)) → Bool
none_missing trace opened ended cpu [] = true
none_missing trace opened ended cpu (part ∷ parts) =
    none_due ended (after (side_after_item trace opened) (first_side trace) (map (tells cpu) part)) && none_missing trace opened ended (cpu + 1) parts

-- the first write or check that stands where it may not; a check that is missing at last shows at the ending
abbrev pub checks_fault : (trace : Trace) (j : Journal) → Option ℕ
checks_fault trace j =
    first_of (first_fault (stands_fault trace) (side_after_item trace (opened_at j.timer)) item_size (first_cpu_line j) (first_side trace) (items_of j))
    (unless (none_missing trace (opened_at j.timer) j.ending 0 (parts_of j)) (end_at j))

-- where an opening's line is missing, the line that stands in its place
abbrev pub timers_fault : (trace : Trace) (j : Journal) → Option ℕ
timers_fault trace j =
    first_of (first_fault (timer_fault trace (opened_at j.timer)) lines_after one_line 2 [] j.timer)
    (unless (not (is_opening trace (after lines_after [] j.timer))) (first_cpu_line j))

-- the first fault of waiting lists
abbrev pub waits_fault : (trace : Trace) (j : Journal) → Option ℕ
waits_fault trace j = first_fault (wait_fault trace) (lists_after trace) item_size (first_cpu_line j) (first_lists trace.flushers) (items_of j)

-- the first fault of the pages that entries name, then of those that are left
abbrev pub pages_fault : (trace : Trace) (j : Journal) → Option ℕ
pages_fault trace j =
    first_of (first_fault (page_fault trace) writes_after item_size (first_cpu_line j) [] (items_of j)) (first_failed (is_page trace) (first_left_line j) j.left)

-- the ledger's fault shows at the census
abbrev pub ledger_fault : (trace : Trace) (j : Journal) → Option ℕ
ledger_fault trace j = unless (is_left_from 0 j.left && is_even_below (all_told j) j.left (pages trace)) (census_at j)

-- a flusher does what may not come, or does something in the part of another CPU
abbrev pub turn_fault : (trace : Trace) (flushers : List ToldFlusher) (item : Item) → Option ℕ
turn_fault trace flushers item = first_of (stranger_fault trace item) (flight_fault trace flushers item)

-- the first fault of flushers
abbrev pub flights_fault : (trace : Trace) (j : Journal) → Option ℕ
flights_fault trace j = first_fault (turn_fault trace) (flushers_after trace) item_size (first_cpu_line j) (first_flushers trace.flushers) (items_of j)

-- the fault of the bound shows at the census
abbrev pub bound_fault : (trace : Trace) (j : Journal) → Option ℕ
bound_fault trace j = unless (is_bounded trace j.timer j.left (domains trace)) (census_at j)

-- the fault of the ending shows at its line
abbrev pub ending_fault : (trace : Trace) (j : Journal) → Option ℕ
ending_fault trace j = unless (ends_by trace (parts_of j) (all_told j) j.left j.ending) (end_at j)

-- ---- the verdict

-- a journal without a fault, or the first point that fails
pub data Verdict : Type 0 where
  lawful : Verdict
  -- the number of the point, and the line
  broken : (point line : ℕ) → Verdict

-- a point's fault, or what the later points say where it has none
abbrev pub judged_by : (point : ℕ) (which : Option ℕ) (other : Verdict) → Verdict
judged_by point None other = other
judged_by point (Some line) other = broken point line

-- the verdict of a journal, by the least point that fails
unfoldable pub verdict_of : (trace : Trace) (j : Journal) → Verdict
verdict_of trace j =
    judged_by 2 (folds_fault trace j) (judged_by 3 (counts_fault trace j) (judged_by 4 (triples_fault j)
    (judged_by 5 (fractions_fault trace j) (judged_by 6 (estimates_fault trace j) (judged_by 7 (decisions_fault trace j)
    (judged_by 8 (checks_fault trace j) (judged_by 9 (timers_fault trace j) (judged_by 10 (waits_fault trace j)
    (judged_by 12 (pages_fault trace j) (judged_by 13 (ledger_fault trace j) (judged_by 14 (flights_fault trace j) (judged_by 15 (bound_fault trace j)
    (judged_by 16 (ending_fault trace j) lawful)))))))))))))
