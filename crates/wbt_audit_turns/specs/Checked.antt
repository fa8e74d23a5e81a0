-- How far the audit of a journal's checks has come: what it keeps and what is still to come tell the faults of the whole.
use Rattle.std.specs.Prelude.{◌≡◌, ℕ, Bool, not, ◌||◌, Option, map}
use Rattle.wbt_trace.specs.declared.trace.Trace.{Trace}
use Rattle.wbt_journal.specs.Checks.{decision_fault, stands_fault, with_marks}
use Rattle.wbt_journal.specs.Estimates.{opened_at}
use Rattle.wbt_journal.specs.Items.{Item, all_told, item_size, items_of, parts_of}
use Rattle.wbt_journal.specs.Side.{first_side, side_after_item}
use Rattle.wbt_journal.specs.Side as spec
use Rattle.wbt_journal.specs.Verdict.{decisions_fault, first_cpu_line, none_missing}
use Rattle.wbt_journal.specs.Walk.{first_fault, first_of}
use Rattle.wbt_journal.specs.declared.journal.Journal.{Journal}
use Rattle.wbt_audit_turns.specs.Judging.{IsJudgeOf, some_due}
use Rattle.wbt_audit_turns.specs.Marks.{marked_item}
use Rattle.wbt_audit_turns.specs.Sides.{side_of}
use Rattle.wbt_audit_walk.specs.Walks.{rest}
use Rattle.wbt_audit_turns.specs.declared.checks.Judge.{Judge}
use Rattle.wbt_audit_walk.specs.declared.walk.Walk.{Walk}

-- what an item is told of, and what it makes of a side, with the mark that its line calls for

-- the fault of an item's decision
abbrev pub decides : (trace : Trace) (j : Journal) (s : spec.Side) (item : Item) → Option ℕ
decides trace j s item = decision_fault trace (opened_at j.timer) (all_told j) s (marked_item trace item)

-- the fault of an item that stands where it may not
abbrev pub stands : (trace : Trace) (s : spec.Side) (item : Item) → Option ℕ
stands trace s item = stands_fault trace s (marked_item trace item)

-- the side after an item
abbrev pub next_side : (trace : Trace) (j : Journal) (s : spec.Side) (item : Item) → spec.Side
next_side trace j s item = side_after_item trace (opened_at j.timer) s (marked_item trace item)

-- the first entry that may not stand where it does
abbrev pub standing_fault : (trace : Trace) (j : Journal) → Option ℕ
standing_fault trace j = first_fault (stands_fault trace) (side_after_item trace (opened_at j.timer)) item_size (first_cpu_line j) (first_side trace) (items_of (with_marks trace j))

-- whether a check is missing at the end of a part
abbrev pub is_missing : (trace : Trace) (j : Journal) → Bool
is_missing trace j = not (none_missing trace (opened_at j.timer) j.ending 0 (parts_of (with_marks trace j)))

-- the faults that were found so far, and those of what is still to come, are the faults of the whole
pub record HasPassed (trace : Trace) (j : Journal) (judge : Judge) (walk : Walk) : Type 0 where
  pub judges : IsJudgeOf trace j judge
  pub decision : first_fault (decides trace j) (next_side trace j) item_size walk.line (side_of judge.side) (rest walk) ≡ decisions_fault trace (with_marks trace j)
  pub stand : first_of judge.stand (first_fault (stands trace) (next_side trace j) item_size walk.line (side_of judge.side) (rest walk)) ≡ standing_fault trace j
  pub missing : (judge.missing || some_due trace (opened_at j.timer) j.ending (side_of judge.side) (map (marked_item trace) (rest walk))) ≡ is_missing trace j
