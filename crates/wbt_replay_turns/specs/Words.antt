-- The steps that a run's journal has of each CPU, and of the timer, are those of turns.
use Rattle.std.specs.Prelude.{◌≡◌, ℕ, ◌<◌, ◌≤◌, ◌==◌, if◌then◌else◌, List, [], ◌∷◌, ◌++◌, length}
use Rattle.wbt_trace.specs.declared.trace.Trace.{Trace}
use Rattle.wbt_grant.specs.declared.who.StepKind.{StepKind}
use Rattle.wbt_turns.specs.Words.{AreCut, IsTurn, KeepsPages, publications, repeated}
use Rattle.wbt_journal.specs.Machine.{domains}
use Rattle.wbt_journal.specs.declared.step.StepEntry.{StepEntry}
use Rattle.wbt_replay_order.specs.Definition.Run.{journal_of}

-- the kinds of the steps that an actor of a number has made
abbrev pub kinds_by : (who : ℕ) (steps : List StepEntry) → List StepKind
kinds_by who [] = []
kinds_by who (step ∷ steps) = if step.who == who then step.kind ∷ kinds_by who steps else kinds_by who steps

-- the steps of a turn of a CPU; no disk of an ordered run fails, so that none of them gives a page back
abbrev pub IsOrderedTurn : (trace : Trace) (word : List StepKind) → Type 0
IsOrderedTurn trace word = (turn : IsTurn (domains trace) word) × KeepsPages (domains trace) word turn

-- The steps of each CPU in the journal are those of whole turns, one after another, and of a last one, of which some may be left to be made.
abbrev pub CpusTakeTurns : (trace : Trace) → Type 0
CpusTakeTurns trace = (cpu : ℕ) → cpu < trace.cpus
    → (turns : List (List StepKind)) × AreCut (IsOrderedTurn trace) turns (kinds_by cpu (journal_of trace).steps)

-- The timer's steps in the journal are those of so many turns, but for some of the last one that are left to be made.
pub record TimerTakesTurns (trace : Trace) : Type 0 where
  pub turns : ℕ
  pub left : List StepKind
  pub last : length left ≤ length (publications (domains trace))
  pub steps : kinds_by trace.cpus (journal_of trace).steps ++ left ≡ repeated turns (publications (domains trace))

-- The steps of each CPU and of the timer are those of turns.
pub record TakesTurns (trace : Trace) : Type 0 where
  pub cpus : CpusTakeTurns trace
  pub timer : TimerTakesTurns trace
