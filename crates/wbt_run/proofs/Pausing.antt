-- No check that a CPU tells pauses longer than a pause may be.
use Rattle.std.proofs.Common.{ℕ, ◌<◌, ◌≤◌, List, [], ◌∷◌, sym, subst, arith}
use Rattle.wbt_run_worker.proofs.Common.{Each, effect, Told, CheckEntry, CpuJournal, Trace, first_notes, Kit, Seats, NotedSince, Notes, Shown, first_shown, empty_log, if_weaker, firsts_of}
use Rattle.wbt_kit.proofs.Common.{Estimate, tells, Side, item, side_after, Decision, Known, is_strict}
use Rattle.wbt_journal.specs.Checks.{asked_by, reads_by, task_numbers}
use Rattle.wbt_journal.specs.Items.{Item, begins}
use Rattle.wbt_journal.specs.Lawful.{items_among}
use Rattle.wbt_journal.specs.Side.{Event, ends}
use Rattle.wbt_journal.specs.Told.{told as told_by}
use Rattle.wbt_pause.proofs.Deciding.{longest_within_200}
use Rattle.wbt_strict.proofs.Deciding.{pauses_within_longest}
use Rattle.wbt_run_laws.specs.Noted.{AreDecided, DecidesByRead, DecidesItem}
use Rattle.wbt_run_laws.specs.Walks.{items_told}
use Rattle.wbt_run_drain.specs.Whole.{CpusWorked, log_at}
use Rattle.wbt_run.specs.Running.{IsShort, IsShortCheck, PauseShortly}
use Rattle.wbt_run.proofs.Causes.{each_of}

-- a decision of the law, in a context of a strict device and in any other
law_is_short : (trace : Trace) (s : Side) (check : CheckEntry) (estimate : Estimate) → (asked_by trace s check estimate).pause ≤ 200
law_is_short trace s check estimate =
    let within = pauses_within_longest (is_strict trace check.context) (reads_by trace check) estimate (task_numbers trace s check) check.now in
    let longest = longest_within_200 (reads_by trace check).wb_dirty estimate.avg in
    omega arith

abbrev IsShortItem : (i : Item) → Type 0
IsShortItem (tells cpu entry) = IsShort entry
IsShortItem (begins cpu) = Unit {0}

module _ (trace : Trace) (opened : ℕ) (known : ℕ → Known) where
  one_short : (s : Side) (i : Item) → DecidesItem trace opened known s i → IsShortItem i
  one_short s (begins cpu) decides = tt
  one_short s (tells cpu entry) decides = if_weaker (λ (check : CheckEntry). DecidesByRead trace opened (known check.context) s check) IsShortCheck
      (λ check by. subst (λ (d : Decision). d.pause ≤ 200) (sym by.decision) (law_is_short trace s check by.estimate)) (effect entry).check decides

  among_short : (s : Side) (events : List Event) → AreDecided trace opened known s events → Each IsShortItem (items_among events)
  among_short s [] decided = tt
  among_short s (item i ∷ events) decided =
      (one_short s i decided.0, among_short (side_after trace opened s (item i)) events decided.1)
  among_short s (ends task ∷ events) decided =
      among_short (side_after trace opened s (ends task)) events decided.1

told_short : (cpu : ℕ) (added : List Told) → Each IsShortItem (items_told cpu added) → Each IsShort added
told_short cpu [] all = tt
told_short cpu (entry ∷ added) all = (all.0, told_short cpu added all.1)

-- each check among these entries was decided by the law
pub pauses_short : (trace : Trace) (opened cpu : ℕ) (added : List Told) (old new : Shown) (before behind : Notes) → NotedSince trace opened cpu added old new before behind → Each IsShort added
pauses_short trace opened cpu added old new before behind since =
    told_short cpu added (subst (Each IsShortItem) since.since.side.are (among_short trace opened behind.estimates old.side since.since.side.events since.decided))

-- and so of each CPU
pub all_pause_short : (trace : Trace) (opened : ℕ) (kit : Kit) (logs : List CpuJournal) (first : ℕ → Seats) (last : ℕ → Shown) (notes : ℕ → Notes) (seats : Seats)
    → CpusWorked trace opened kit logs first last notes seats → PauseShortly logs
all_pause_short trace opened kit logs first last notes seats worked = each_of (λ (log : CpuJournal). Each IsShort (told_by log)) logs (λ cpu log less is.
    let one = worked.each cpu (subst (λ (n : ℕ). cpu < n) worked.many less) in
    subst (λ (l : CpuJournal). Each IsShort (told_by l)) (is empty_log)
    (pauses_short trace opened cpu (told_by (log_at logs cpu)) (first_shown trace (firsts_of (first cpu))) (last cpu) (first_notes (first cpu)) (notes cpu) one.since))
