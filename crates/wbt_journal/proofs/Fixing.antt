-- A lawful journal is fixed by its text: the mark that no line tells is the one that the decision asks.
use Rattle.std.proofs.Common.{◌≡◌, ℕ, ◌+◌, true, List, [], ◌∷◌, map, Option, Some, None, sym, subst, IfSome}
use Rattle.wbt_estimate.specs.declared.estimate.Estimate.{Estimate}
use Rattle.wbt_pause.specs.declared.decision.Decision.{Decision}
use Rattle.wbt_rules.specs.Strict.{is_strict}
use Rattle.wbt_strict.proofs.Marks.{exceeded_is}
use Rattle.wbt_strict.specs.Decision.{exceeded_for}
use Rattle.wbt_trace.specs.declared.trace.Trace.{Trace}
use Rattle.wbt_journal.specs.declared.entry.CheckEntry.{CheckEntry}
use Rattle.wbt_journal.specs.declared.entry.CpuJournal.{CpuJournal}
use Rattle.wbt_journal.specs.declared.journal.Ending.{Ending}
use Rattle.wbt_journal.specs.declared.journal.Journal.{Journal}
use Rattle.wbt_journal.specs.declared.journal.Left.{Left}
use Rattle.wbt_journal.specs.Checks.{reads_by, task_numbers, mark_of, DecidesBy, named_estimate}
use Rattle.wbt_journal.specs.Each.{Each}
use Rattle.wbt_journal.specs.Effects.{effect}
use Rattle.wbt_journal.specs.Estimates.{opened_at}
use Rattle.wbt_journal.specs.Items.{Item, begins, tells, items_of, all_told}
use Rattle.wbt_journal.specs.Lawful.{EachPart, DecidesEvent, items_among, ChecksAlong, HasChecks, IsLawful}
use Rattle.wbt_journal.specs.Laws.{IsPrinted, LawfulTextFixesJournal}
use Rattle.wbt_journal.specs.Leaves.{LeftFrom}
use Rattle.wbt_journal.specs.Pages.{PagesAreNext, writes_after}
use Rattle.wbt_journal.specs.Plain.{unmarked, MarkedBy, IsPlainPart, HasBits, IsPlain}
use Rattle.wbt_journal.specs.Side.{Event, item, ends, Side, first_side, side_after, is_own_task}
use Rattle.wbt_journal.specs.Told.{Told, told, NamesInOrder}
use Rattle.wbt_journal.specs.Walk.{Along}
use Rattle.wbt_journal.proofs.Faults.{some_gives, some_weaker}
use Rattle.wbt_journal.proofs.OneText.{text_once}
use Rattle.wbt_journal.proofs.Parting.{each_there}

-- ---- the mark of a decision follows from its kind and from what was read

abbrev HasMark : Trace → CheckEntry → Decision → Type 0
HasMark trace check decision = decision.exceeded ≡ exceeded_for (is_strict trace check.context) decision.kind (reads_by trace check)

same_mark : (trace : Trace) (check : CheckEntry) → HasMark trace check check.decision → check.decision.exceeded ≡ mark_of trace (unmarked check)
unfolding mark_of unmarked
same_mark trace check is = is

by_named : (trace : Trace) (s : Side) (check : CheckEntry) (o : Option Estimate) → DecidesBy trace s check o → check.decision.exceeded ≡ mark_of trace (unmarked check)
by_named trace s check None decides = absurd decides
by_named trace s check (Some estimate) decides =
    same_mark trace check (subst (HasMark trace check) (sym decides.asked) (exceeded_is (is_strict trace check.context) (reads_by trace check) estimate (task_numbers trace s check) check.now))

-- ---- of all checks

abbrev IsMarked : Trace → CheckEntry → Type 0
IsMarked trace check = check.decision.exceeded ≡ mark_of trace (unmarked check)

abbrev IsOwn : Trace → (cpu : ℕ) → CheckEntry → Type 0
IsOwn trace cpu check = is_own_task trace cpu check.task ≡ true

abbrev MarkIfOwn : Trace → Item → Type 0
MarkIfOwn trace (begins cpu) = Unit {0}
MarkIfOwn trace (tells cpu entry) = IfSome (effect entry).check (λ check. IsOwn trace cpu check → IsMarked trace check)

abbrev IsOwnCheck : Trace → Item → Type 0
IsOwnCheck trace (begins cpu) = Unit {0}
IsOwnCheck trace (tells cpu entry) = IfSome (effect entry).check (IsOwn trace cpu)

marks : (trace : Trace) (opened : ℕ) (all : List Told) (s : Side) (events : List Event) → Along (DecidesEvent trace opened all) (side_after trace opened) s events → Each (MarkIfOwn trace) (items_among events)
marks trace opened all s [] along = tt
marks trace opened all s (ends task ∷ more) along = marks trace opened all (side_after trace opened s (ends task)) more along.1
marks trace opened all s (item (begins cpu) ∷ more) along = (tt, marks trace opened all (side_after trace opened s (item (begins cpu))) more along.1)
marks trace opened all s (item (tells cpu entry) ∷ more) along = (
  some_weaker (λ check. IsOwn trace cpu check → DecidesBy trace s check (named_estimate trace opened all check)) (λ check. IsOwn trace cpu check → IsMarked trace check)
      (λ check decides own. by_named trace s check (named_estimate trace opened all check) (decides own)) (effect entry).check along.0,
  marks trace opened all (side_after trace opened s (item (tells cpu entry))) more along.1,
)

own_checks : (trace : Trace) (tasks : List ℕ) (xs : List Item) → Along (PagesAreNext trace) writes_after tasks xs → Each (IsOwnCheck trace) xs
own_checks trace tasks [] along = tt
own_checks trace tasks (begins cpu ∷ xs) along = (tt, own_checks trace (writes_after tasks (begins cpu)) xs along.1)
own_checks trace tasks (tells cpu entry ∷ xs) along = (along.0.check, own_checks trace (writes_after tasks (tells cpu entry)) xs along.1)

-- ---- of a part

mark_told : (trace : Trace) (cpu : ℕ) (part : List Told) → Each (MarkIfOwn trace) (map (tells cpu) part) → Each (IsOwnCheck trace) (map (tells cpu) part) → Each (MarkedBy (mark_of trace)) part
mark_told trace cpu [] first second = tt
mark_told trace cpu (entry ∷ part) first second = (some_gives (IsOwn trace cpu) (IsMarked trace) (effect entry).check first.0 second.0, mark_told trace cpu part first.1 second.1)

plain_parts : (trace : Trace) (opened : ℕ) (all : List Told) (end : Ending) (cpu : ℕ) (parts : List CpuJournal) → Each NamesInOrder parts → EachPart (HasChecks trace opened all end) cpu (map told parts)
    → EachPart (λ of part. Each (IsOwnCheck trace) (map (tells of) part)) cpu (map told parts) → Each (IsPlainPart (mark_of trace)) parts
plain_parts trace opened all end cpu [] names checks own = tt
plain_parts trace opened all end cpu (part ∷ parts) names checks own =
    let along : ChecksAlong trace opened all end cpu (told part) checks.0.0 = checks.0.1 in
    let marked = subst (Each (MarkIfOwn trace)) along.are (marks trace opened all (first_side trace) checks.0.0 along.decide) in
    (record { names = names.0; marks = mark_told trace cpu (told part) marked own.0 }, plain_parts trace opened all end (cpu + 1) parts names.1 checks.1 own.1)

bits : (page : ℕ) (left : List Left) → LeftFrom page left → Each HasBits left
bits page [] all = tt
bits page (left ∷ more) all = ((all.1, all.2), bits (left.page + 1) more all.3)

pub plain : (trace : Trace) (j : Journal) → IsLawful trace j → IsPrinted j → IsPlain (mark_of trace) j
plain trace j is printed = record {
  steps = printed.steps;
  bases = printed.bases;
  homes = printed.homes;
  parts = plain_parts trace (opened_at j.timer) (all_told j) j.ending 0 j.cpus is.legal.names is.legal.checks (each_there (IsOwnCheck trace) 0 (map told j.cpus) (own_checks trace [] (items_of j) is.writes));
  left = bits 0 j.left is.left;
  fits = printed.fits;
}

pub lawful_once : LawfulTextFixesJournal
lawful_once trace j k a b p q is = text_once (mark_of trace) j k (plain trace j a p) (plain trace k b q) is
