-- What the audit keeps of a journal's checks, and what a step adds to it.
use Rattle.std.specs.Prelude.{◌≡◌, ℕ, ◌+◌, Bool, false, not, ◌||◌, ◌==◌, if◌then◌else◌, Option, Some, None, List, [], ◌∷◌, length}
use Rattle.wbt_estimate.specs.declared.estimate.Estimate.{Estimate}
use Rattle.wbt_pause.specs.declared.decision.Decision.{Decision}
use Rattle.wbt_trace.specs.declared.trace.Trace.{Trace}
use Rattle.wbt_journal.specs.declared.entry.CheckEntry.{CheckEntry}
use Rattle.wbt_journal.specs.declared.journal.Ending.{Ending}
use Rattle.wbt_journal.specs.declared.journal.Journal.{Journal}
use Rattle.wbt_journal.specs.Checks.{asked_by, decides_by, decision_fault, is_in_range, named_estimate, stands_fault, none_due, task_numbers, with_mark}
use Rattle.wbt_journal.specs.Effects.{Write}
use Rattle.wbt_journal.specs.Estimates.{opened_at}
use Rattle.wbt_journal.specs.Items.{Item, begins, tells, all_told}
use Rattle.wbt_journal.specs.Side.{check_by, first_side, settle, side_after_item}
use Rattle.wbt_journal.specs.Side as spec
use Rattle.wbt_journal.specs.Told.{Told}
use Rattle.wbt_journal.specs.Walk.{first_of}
use Rattle.wbt_audit_turns.specs.Sides.{AreNamed, Fits, IsMachine, side_of}
use Rattle.wbt_audit_turns.specs.declared.checks.Judge.{Judge}

-- a fault in an entry that begins at a line
abbrev pub from_line : (line : ℕ) (fault : Option ℕ) → Option ℕ
from_line line None = None
from_line line (Some at) = Some (line + at)

-- at a part's beginning the part before it has ended: with a check that was still due, and wrongly so
abbrev pub ends_due : (ending : Ending) (s : spec.Side) (item : Item) → Bool
ends_due ending s (begins cpu) = not (none_due ending s)
ends_due ending s (tells cpu entry) = false

-- whether some part ends so, from a state on
abbrev pub some_due : (trace : Trace) (opened : ℕ) (ending : Ending) (s : spec.Side) (items : List Item) → Bool
some_due trace opened ending s [] = not (none_due ending s)
some_due trace opened ending s (item ∷ more) = ends_due ending s item || some_due trace opened ending (side_after_item trace opened s item) more

-- the judge is that of the journal
pub record IsJudgeOf (trace : Trace) (j : Journal) (judge : Judge) : Type 0 where
  pub machine : IsMachine judge.machine
  pub trace_is : judge.machine.trace.now ≡ trace
  pub opened : judge.machine.opened ≡ opened_at j.timer
  pub named : AreNamed (opened_at j.timer) (length trace.contexts) (all_told j) judge.named
  pub ending : judge.ending ≡ j.ending
  pub fits : Fits judge.machine judge.side

-- a step is answered by its decision's fault; where that is none, the judge has seen the step
pub record Passes (old new : Judge) (all : List Told) (line : ℕ) (item : Item) (found : Option ℕ) : Type 0 where
  pub answer : found ≡ from_line line (decision_fault old.machine.trace.now old.machine.opened all (side_of old.side) item)
  pub side : found ≡ None → side_of new.side ≡ side_after_item old.machine.trace.now old.machine.opened (side_of old.side) item
  pub stand : found ≡ None → new.stand ≡ first_of old.stand (from_line line (stands_fault old.machine.trace.now (side_of old.side) item))
  pub missing : found ≡ None → new.missing ≡ (old.missing || ends_due old.ending (side_of old.side) item)

-- the domains of which a context in this cgroup is asked for besides the global one; 0 stands for no cgroup
abbrev pub asked_group : (group : ℕ) → List ℕ
asked_group group = if group == 0 then [] else group ∷ []

-- a task's write of a page
abbrev pub written : (task page : ℕ) (fresh : Bool) → Write
written task page fresh = record { task = task; page = page; fresh = fresh }

-- what a check is to decide by an estimate; none where there is none, or a number isn't in the range of the control law
abbrev pub asked_in_range : (trace : Trace) (s : spec.Side) (check : CheckEntry) (which : Option Estimate) → Option Decision
asked_in_range trace s check None = None
asked_in_range trace s check (Some estimate) =
    if is_in_range check estimate (task_numbers trace s check) then Some (asked_by trace s check estimate) else None

-- whether a check, with the mark that its line calls for, decides as it is asked
abbrev pub is_asked : (trace : Trace) (opened : ℕ) (all : List Told) (s : spec.Side) (check : CheckEntry) → Bool
is_asked trace opened all s check = decides_by trace s (with_mark trace check) (named_estimate trace opened all check)

-- the side after a check of a task of its CPU
abbrev pub side_checked : (trace : Trace) (opened : ℕ) (check : CheckEntry) (s : spec.Side) → spec.Side
side_checked trace opened check s = settle trace opened check.task (check_by trace opened check.task check.context check.decision s)
