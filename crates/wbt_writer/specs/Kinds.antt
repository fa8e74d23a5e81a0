-- Of which kinds the steps of a write are.
use Rattle.std.specs.Prelude.{◌≡◌, ℕ, List, [], ◌∷◌, ◌++◌, pos}
use Rattle.wbt_counter.specs.declared.record.Owed.{Owed}
use Rattle.wbt_grant.specs.Record.{debts_of}
use Rattle.wbt_grant.specs.declared.who.StepKind.{StepKind}
use Rattle.wbt_grant.specs.declared.who.StepKind.TheVariants as kind
use Rattle.wbt_kit.specs.declared.kit.Kit.{Kit}
use Rattle.wbt_kit.specs.declared.kit.Seats.{Seats}
use Rattle.wbt_run_steps.specs.Kinds.{ArePayments, CutsTurn, Steps, StepsAs, TakesTurn, marking}
use Rattle.wbt_table.specs.Layout.{setting}
use Rattle.wbt_table.specs.declared.answer.Dirtied.{Dirtied}
use Rattle.wbt_table.specs.declared.answer.Dirtied.TheVariants as dirtied
use Rattle.wbt_turns.specs.Words.{IsCut}
use Rattle.wbt_writer.specs.Desk.{record_in}
use Rattle.wbt_writer.specs.declared.write.Wrote.{Wrote}
use Rattle.wbt_writer.specs.declared.write.Wrote.TheVariants.{Fresh, Stopped}

-- what is owed to counters after a page was dirtied: of one that was clean an event to each of its counters
abbrev pub OwesEvents : (kit : Kit) (cpu page : ℕ) (answer : Dirtied) (seats : Seats) → Type 0
OwesEvents kit cpu page dirtied.Fresh seats = (record_in cpu seats).debts ≡ debts_of (setting kit.throttle.layout) page (pos 1)
OwesEvents kit cpu page dirtied.Already seats = (record_in cpu seats).debts ≡ []

-- a page was dirtied, in one step
pub record StepsToDirty (kit : Kit) (cpu page : ℕ) (answer : Dirtied) (old new : Seats) : Type 0 where
  pub steps : StepsAs cpu (kind.Dirty ∷ []) old new
  pub owes : OwesEvents kit cpu page answer new

-- debts to counters are paid, and then an inode is marked
abbrev pub PaysAndMarks : (debts : List Owed) (word : List StepKind) → Type 0
PaysAndMarks debts word = (paid : List StepKind) × ArePayments debts paid × (word ≡ paid ++ marking)

-- what follows a write of a clean page, or a first part of it
abbrev pub StepsToFinish : (cpu : ℕ) (answer : Wrote) (old new : Seats) → Type 0
StepsToFinish cpu Fresh old new = Steps cpu (PaysAndMarks (record_in cpu old).debts) old new
StepsToFinish cpu Stopped old new = Steps cpu (IsCut (PaysAndMarks (record_in cpu old).debts)) old new
StepsToFinish cpu other old new = ⊥

-- a write is a whole turn, or one that the gate cut off
abbrev pub StepsToWrite : (domains cpu : ℕ) (answer : Wrote) (old new : Seats) → Type 0
StepsToWrite domains cpu Stopped old new = CutsTurn domains cpu old new
StepsToWrite domains cpu other old new = TakesTurn domains cpu old new
