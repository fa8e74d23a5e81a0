-- The walk over a journal's checks, each with the mark that its line calls for.
use Rattle.std.proofs.Common.{◌≡◌, ℕ, ◌+◌, Bool, true, false, not, ◌&&◌, ◌||◌, Option, Some, None, List, [], ◌∷◌, ◌++◌, length, map, replicate, zero, suc, refl, sym, ap, ◌∙◌}
use Rattle.std.specs.List.{list_all}
use Rattle.wbt_audit_walk.proofs.Common.{Estimate, first, new_writer, Trace, first_estimate, nth_estimate, with_marks, effect, of_part, decision_at, estimates_of, opened_at, Item, begins, tells, all_told, item_size, items_from, items_of, parts_of, all_writers, Told, first_cpu_line, first_fault, first_of, unless, CheckEntry, Ending, Journal, Shows, item_of, rest}
use Rattle.wbt_task.specs.History.{new_cpu}
use Rattle.wbt_journal.specs.Checks.{decides_by, decision_fault, is_writer_quiet, none_due, stands_fault}
use Rattle.wbt_journal.specs.Side.{first_side, is_own_task, side_after_item}
use Rattle.wbt_journal.specs.Side as spec
use Rattle.wbt_journal.specs.Verdict.{checks_fault, decisions_fault, end_at, none_missing}
use Rattle.wbt_journal.specs.Walk.{after}
use Rattle.wbt_journal.specs.declared.journal.Ending.TheVariants as ending
use Rattle.wbt_audit_turns.specs.Checked.{HasPassed, decides, is_missing, next_side, standing_fault, stands}
use Rattle.wbt_audit_turns.specs.Judging.{IsJudgeOf, Passes, ends_due, from_line, some_due}
use Rattle.wbt_audit_turns.specs.Marks.{marked_item}
use Rattle.wbt_audit_turns.specs.Sides.{side_of}
use Rattle.wbt_audit_turns.specs.declared.checks.Judge.{Judge}
use Rattle.wbt_audit_walk.specs.declared.walk.Step.{Step}
use Rattle.wbt_audit_walk.specs.declared.walk.Walk.{Walk}
use Rattle.wbt_audit_turns.proofs.Marking.{all_are, census_same, estimates_same, items_are, size_same}

-- ---- tests

or_more : (a b c : Bool) → ((a || b) || c) ≡ (a || (b || c))
or_more true b c = refl
or_more false b c = refl

or_none : (a : Bool) → (a || false) ≡ a
or_none true = refl
or_none false = refl

not_both : (a b : Bool) → not (a && b) ≡ (not a || not b)
not_both true b = refl
not_both false b = refl

not_not : (a : Bool) → not (not a) ≡ a
not_not true = refl
not_not false = refl

none_after : (found : Option ℕ) → first_of found None ≡ found
none_after None = refl
none_after (Some at) = refl

-- ---- parts that end with a check that is due

all_quiet : (cap n : ℕ) → list_all is_writer_quiet (replicate n (new_writer cap)) ≡ true
unfolding new_writer first
all_quiet cap zero = refl
all_quiet cap (suc n) = all_quiet cap n

-- at first no check is due
none_at_first : (ending : Ending) (trace : Trace) → none_due ending (first_side trace) ≡ true
unfolding new_cpu
none_at_first ending.Done trace = all_quiet trace.cap (length (all_writers trace))
none_at_first ending.Halted trace = refl
none_at_first ending.Spent trace = refl
none_at_first ending.Faulted trace = refl

-- a fault in a line counts from the entry's first one
pub from_later : (holds : Bool) (line more at : ℕ) → at ≡ line + more → unless holds at ≡ from_line line (unless holds more)
from_later true line more at is = refl
from_later false line more at is = ap (λ (n : ℕ). Some n) is

module _ (trace : Trace) (opened : ℕ) (ended : Ending) where
  due_over_part : (cpu : ℕ) (part : List Told) (items : List Item) (s : spec.Side) → some_due trace opened ended s (map (tells cpu) part ++ items)
      ≡ some_due trace opened ended (after (side_after_item trace opened) s (map (tells cpu) part)) items
  due_over_part cpu [] items s = refl
  due_over_part cpu (entry ∷ part) items s = due_over_part cpu part items (side_after_item trace opened s (tells cpu entry))

  due_over_parts : (cpu : ℕ) (parts : List (List Told)) (s : spec.Side) → some_due trace opened ended s (items_from cpu parts)
      ≡ (not (none_due ended s) || not (none_missing trace opened ended cpu parts))
  due_over_parts cpu [] s = sym (or_none (not (none_due ended s)))
  due_over_parts cpu (part ∷ parts) s =
      let ends : spec.Side = after (side_after_item trace opened) (first_side trace) (map (tells cpu) part) in
      ap (λ (b : Bool). not (none_due ended s) || b)
      (due_over_part cpu part (items_from (cpu + 1) parts) (first_side trace) ∙ due_over_parts (cpu + 1) parts ends ∙ sym (not_both (none_due ended ends) (none_missing trace opened ended (cpu + 1) parts)))

  due_at_first : (parts : List (List Told)) → some_due trace opened ended (first_side trace) (items_from 0 parts) ≡ not (none_missing trace opened ended 0 parts)
  due_at_first parts = due_over_parts 0 parts (first_side trace) ∙ ap (λ (b : Bool). not b || not (none_missing trace opened ended 0 parts)) (none_at_first ended trace)

-- ---- items with marks

module _ (trace : Trace) {S : Type 0} (fault : S → Item → Option ℕ) (next : S → Item → S) where
  walk_marked : (line : ℕ) (s : S) (items : List Item) → first_fault fault next item_size line s (map (marked_item trace) items)
      ≡ first_fault (λ (s : S) (x : Item). fault s (marked_item trace x)) (λ (s : S) (x : Item). next s (marked_item trace x)) item_size line s items
  walk_marked line s [] = refl
  walk_marked line s (x ∷ xs) =
      (λ i. elim (fault s (marked_item trace x)) as (λ c. Option ℕ)
      [ None ↦ first_fault fault next item_size (line + size_same trace x i) (next s (marked_item trace x)) (map (marked_item trace) xs) | Some at ↦ Some (line + at) ])
      ∙ (λ i. elim (fault s (marked_item trace x)) as (λ c. Option ℕ)
      [ None ↦ walk_marked (line + item_size x) (next s (marked_item trace x)) xs i | Some at ↦ Some (line + at) ])

module _ (trace : Trace) (j : Journal) where
  abbrev opened : ℕ
  opened = opened_at j.timer

  named_same : (context : ℕ) → estimates_of context (all_told (with_marks trace j)) ≡ estimates_of context (all_told j)
  named_same context = ap (estimates_of context) (all_are trace j) ∙ estimates_same trace j context

  -- where these are the estimates of a context
  abbrev asked_of : (estimates : ℕ → List Estimate) (s : spec.Side) (cpu : ℕ) (check : CheckEntry) → Option ℕ
  asked_of estimates s cpu check =
      unless (not (is_own_task trace cpu check.task) || decides_by trace s check (nth_estimate check.estimate (first_estimate trace check.context opened ∷ estimates check.context))) (decision_at check)

  decision_same : (s : spec.Side) (x : Item) → decision_fault trace opened (all_told (with_marks trace j)) s x ≡ decision_fault trace opened (all_told j) s x
  decision_same s (begins cpu) = refl
  decision_same s (tells cpu entry) = λ i. of_part None (asked_of (λ context. named_same context i) s cpu) (effect entry).check

  first_decision : first_fault (decides trace j) (next_side trace j) item_size (first_cpu_line j) (first_side trace) (items_of j) ≡ decisions_fault trace (with_marks trace j)
  first_decision =
      sym (walk_marked trace (decision_fault trace opened (all_told j)) (side_after_item trace opened) (first_cpu_line j) (first_side trace) (items_of j))
      ∙ (λ i. first_fault (λ (s : spec.Side) (x : Item). sym (decision_same s x) i) (side_after_item trace opened) item_size (first_cpu_line j) (first_side trace) (sym (items_are trace j) i))

  first_standing : first_fault (stands trace) (next_side trace j) item_size (first_cpu_line j) (first_side trace) (items_of j) ≡ standing_fault trace j
  first_standing =
      sym (walk_marked trace (stands_fault trace) (side_after_item trace opened) (first_cpu_line j) (first_side trace) (items_of j))
      ∙ ap (first_fault (stands_fault trace) (side_after_item trace opened) item_size (first_cpu_line j) (first_side trace)) (sym (items_are trace j))

  first_missing : some_due trace opened j.ending (first_side trace) (map (marked_item trace) (items_of j)) ≡ is_missing trace j
  first_missing = ap (some_due trace opened j.ending (first_side trace)) (sym (items_are trace j)) ∙ due_at_first trace opened j.ending (parts_of (with_marks trace j))

  -- ---- the walk

  pub begins_passed : (judge : Judge) (walk : Walk) → IsJudgeOf trace j judge → side_of judge.side ≡ first_side trace → judge.stand ≡ None → judge.missing ≡ false
      → walk.line ≡ first_cpu_line j → rest walk ≡ items_of j → HasPassed trace j judge walk
  begins_passed judge walk is side stand missing line items = record {
    judges = is;
    decision = (λ i. first_fault (decides trace j) (next_side trace j) item_size (line i) (side i) (items i)) ∙ first_decision;
    stand = (λ i. first_of (stand i) (first_fault (stands trace) (next_side trace j) item_size (line i) (side i) (items i))) ∙ first_standing;
    missing = (λ i. missing i || some_due trace opened j.ending (side i) (map (marked_item trace) (items i))) ∙ first_missing;
  }

  goes_on : (line : ℕ) (found other : Option ℕ) → None ≡ from_line line found → other ≡ elim found [ None ↦ other | Some at ↦ Some (line + at) ]
  goes_on line None other is = refl
  goes_on line (Some at) other is = cc

  stops : (line at : ℕ) (found other : Option ℕ) → Some at ≡ from_line line found → Some at ≡ elim found [ None ↦ other | Some at ↦ Some (line + at) ]
  stops line at None other is = cc
  stops line at (Some where_it_is) other is = is

  stands_on : (line : ℕ) (kept found other : Option ℕ) → first_of (first_of kept (from_line line found)) other ≡ first_of kept (elim found [ None ↦ other | Some at ↦ Some (line + at) ])
  stands_on line None None other = refl
  stands_on line None (Some at) other = refl
  stands_on line (Some at) found other = refl

  module _ (old new : Judge) (walk on : Walk) (step : Step) (found : Option ℕ) (passed : HasPassed trace j old walk) (shows : Shows walk step on)
      (passes : Passes old new (all_told j) step.line (marked_item old.machine.trace.now (item_of step)) found) where
    abbrev is : IsJudgeOf trace j old
    is = passed.judges

    abbrev item : Item
    item = item_of step

    abbrev s : spec.Side
    s = side_of old.side

    answer : found ≡ from_line walk.line (decides trace j s item)
    answer = passes.answer ∙ (λ i. from_line (shows.line i) (decision_fault (is.trace_is i) (is.opened i) (all_told j) s (marked_item (is.trace_is i) item)))

    abbrev more_decisions : Option ℕ
    more_decisions = first_fault (decides trace j) (next_side trace j) item_size (walk.line + item_size item) (next_side trace j s item) (rest on)

    pub stops_passed : (at : ℕ) → found ≡ Some at → Some at ≡ decisions_fault trace (with_marks trace j)
    stops_passed at is_at = stops walk.line at (decides trace j s item) more_decisions (sym is_at ∙ answer)
        ∙ ap (first_fault (decides trace j) (next_side trace j) item_size walk.line s) (sym shows.item) ∙ passed.decision

    pub goes_passed : found ≡ None → IsJudgeOf trace j new → HasPassed trace j new on
    goes_passed none its =
        let side : side_of new.side ≡ next_side trace j s item = passes.side none ∙ (λ i. side_after_item (is.trace_is i) (is.opened i) s (marked_item (is.trace_is i) item)) in
        let stand : new.stand ≡ first_of old.stand (from_line walk.line (stands trace s item)) =
        passes.stand none ∙ (λ i. first_of old.stand (from_line (shows.line i) (stands_fault (is.trace_is i) s (marked_item (is.trace_is i) item)))) in
        let missing : new.missing ≡ (old.missing || ends_due j.ending s (marked_item trace item)) =
        passes.missing none ∙ (λ i. old.missing || ends_due (is.ending i) s (marked_item (is.trace_is i) item)) in
        record {
          judges = its;
          decision = (λ i. first_fault (decides trace j) (next_side trace j) item_size (shows.next_line i) (side i) (rest on))
              ∙ goes_on walk.line (decides trace j s item) more_decisions (sym none ∙ answer)
              ∙ ap (first_fault (decides trace j) (next_side trace j) item_size walk.line s) (sym shows.item) ∙ passed.decision;
          stand = (λ i. first_of (stand i) (first_fault (stands trace) (next_side trace j) item_size (shows.next_line i) (side i) (rest on)))
              ∙ stands_on walk.line old.stand (stands trace s item) (first_fault (stands trace) (next_side trace j) item_size (walk.line + item_size item) (next_side trace j s item) (rest on))
              ∙ ap (λ (items : List Item). first_of old.stand (first_fault (stands trace) (next_side trace j) item_size walk.line s items)) (sym shows.item) ∙ passed.stand;
          missing = (λ i. missing i || some_due trace opened j.ending (side i) (map (marked_item trace) (rest on)))
              ∙ or_more old.missing (ends_due j.ending s (marked_item trace item)) (some_due trace opened j.ending (next_side trace j s item) (map (marked_item trace) (rest on)))
              ∙ ap (λ (items : List Item). old.missing || some_due trace opened j.ending s (map (marked_item trace) items)) (sym shows.item) ∙ passed.missing;
        }

  -- ---- at the end

  pub ends_decided : (judge : Judge) (walk : Walk) → HasPassed trace j judge walk → rest walk ≡ [] → None ≡ decisions_fault trace (with_marks trace j)
  ends_decided judge walk passed none = ap (first_fault (decides trace j) (next_side trace j) item_size walk.line (side_of judge.side)) (sym none) ∙ passed.decision

  pub ends_standing : (judge last : Judge) (walk : Walk) (end : ℕ) → HasPassed trace j judge walk → rest walk ≡ [] → end ≡ end_at j
      → last ≡ record judge { missing = judge.missing || not (none_due judge.ending (side_of judge.side)) }
      → first_of last.stand (unless (not last.missing) end) ≡ checks_fault trace (with_marks trace j)
  ends_standing judge last walk end passed none at is =
      let stand : last.stand ≡ standing_fault trace j =
      ap (λ (l : Judge). l.stand) is ∙ sym (none_after judge.stand)
      ∙ ap (λ (items : List Item). first_of judge.stand (first_fault (stands trace) (next_side trace j) item_size walk.line (side_of judge.side) items)) (sym none) ∙ passed.stand in
      let missing : last.missing ≡ is_missing trace j =
      ap (λ (l : Judge). l.missing) is ∙ (λ i. judge.missing || not (none_due (passed.judges.ending i) (side_of judge.side)))
      ∙ ap (λ (items : List Item). judge.missing || some_due trace opened j.ending (side_of judge.side) (map (marked_item trace) items)) (sym none) ∙ passed.missing in
      let end_is : end ≡ end_at (with_marks trace j) = at ∙ ap (λ (n : ℕ). n + (2 + length j.strict)) (sym (census_same trace j)) in
      (λ i. first_of (stand i) (unless (not (missing i)) (end_is i)))
      ∙ ap (λ (b : Bool). first_of (standing_fault trace j) (unless b (end_at (with_marks trace j)))) (not_not (none_missing trace opened j.ending 0 (parts_of (with_marks trace j))))
