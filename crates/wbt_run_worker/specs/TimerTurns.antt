-- The timer's turns, from the first to the last, and where it was refused memory or stopped.
use Rattle.std.specs.Prelude.{◌≡◌, ℕ, ◌+◌, ◌≤◌, ◌||◌, ◌⊎◌, Bool, true, false, not, cond, List, [], ◌∷◌, ◌++◌, length}
use Rattle.wbt_signals.specs.Signals.{Known}
use Rattle.wbt_journal.specs.Each.{Each}
use Rattle.wbt_journal.specs.declared.timer.TimerEntry.{TimerEntry}
use Rattle.wbt_kit.specs.declared.kit.Kit.{Kit}
use Rattle.wbt_kit.specs.declared.kit.Seats.{Seats}
use Rattle.wbt_kit.specs.declared.turn.Turn.{Turn}
use Rattle.wbt_kit.specs.declared.turn.Turn.TheVariants.{Halted, NoMemory}
use Rattle.wbt_table.specs.Layout.{domains}
use Rattle.wbt_turns.specs.Words.{IsCutOff, IsTimerTurn, IsWhole}
use Rattle.wbt_timer.specs.Gate.{AskedBeforePublishing}
use Rattle.wbt_timer.specs.Kinds.{HasSealed, Steps, StepsBy}
use Rattle.wbt_timer.specs.Side.{Side}
use Rattle.wbt_timer.specs.Turn.{IsTimerStopped, TimerAnswers}
use Rattle.wbt_run_worker.specs.declared.ticking.TimerWorker.{TimerWorker}

-- how the timer stands between two turns: what it keeps, its seats, and its log
pub record TimerStance : Type 0 where
  pub side : Side
  pub seats : Seats
  pub log : List TimerEntry

-- the stance of the timer's worker on its seats
abbrev pub timer_stance : (worker : TimerWorker) (seats : Seats) → TimerStance
timer_stance worker seats = record { side = worker.side; seats = seats; log = worker.log.items }

-- the gate was asked before each step that publishes, and where it stopped the turn it said false of the steps that the timer has made now
pub record IsLetOn (said : ℕ → Bool → Type 0) (kit : Kit) (answer : Turn) (old new : Seats) : Type 0 where
  pub asked : AskedBeforePublishing kit said old new
  pub stopped : answer ≡ Halted → IsTimerStopped said new

-- A turn with this answer; the timer's number comes after the last CPU's. It is known of which kinds its steps were, where no publication was
-- under way.
pub record IsTurn (told : ℕ → Type 0) (said : ℕ → ℕ → Bool → Type 0) (kit : Kit) (answer : Turn) (old new : TimerStance) : Type 0 where
  pub answers : TimerAnswers told answer old.side new.side old.seats new.seats old.log new.log
  pub let_on : IsLetOn (said kit.throttle.layout.cpus) kit answer old.seats new.seats
  pub steps : HasSealed old.seats → StepsBy (domains kit.throttle.layout) answer old.seats new.seats

-- turns, one after another, the first one first; from one to the next nothing changes
abbrev pub AreTurns : (told : ℕ → Type 0) (said : ℕ → ℕ → Bool → Type 0) (kit : Kit) (turns : List Turn) (old new : TimerStance) → Type 0
AreTurns told said kit [] old new = new ≡ old
AreTurns told said kit (answer ∷ more) old new = (mid : TimerStance) × IsTurn told said kit answer old mid × AreTurns told said kit more mid new

-- a turn after which the timer goes on: memory was not refused, and the gate didn't stop it
abbrev pub GoesOnAfter : (answer : Turn) → Type 0
GoesOnAfter NoMemory = ⊥
GoesOnAfter Halted = ⊥
GoesOnAfter other = Unit {0}

-- whether the last turn was refused memory, or stopped by the gate; none before it was either
abbrev pub TurnsEndBy : (out stopped : Bool) (turns : List Turn) → Type 0
TurnsEndBy false false turns = Each GoesOnAfter turns
TurnsEndBy false true turns = (before : List Turn) × (turns ≡ before ++ Halted ∷ []) × Each GoesOnAfter before
TurnsEndBy true stopped turns = (before : List Turn) × (turns ≡ before ++ NoMemory ∷ []) × Each GoesOnAfter before

-- whether a turn was refused memory, and whether the gate stopped it
abbrev pub is_refused : (answer : Turn) → Bool
is_refused NoMemory = true
is_refused other = false

-- whether the gate stopped a turn
abbrev pub is_stopped : (answer : Turn) → Bool
is_stopped Halted = true
is_stopped other = false

-- A turn with this answer. The worker says that it was refused memory, and rings the bell, just where the turn was; and it is halted just where the
-- gate stopped the turn.
pub record TimerTakesTurn (told : ℕ → Type 0) (said : ℕ → ℕ → Bool → Type 0) (kit : Kit) (answer : Turn) (old new : TimerWorker) (seats seats' : Seats) : Type 0 where
  pub is : IsTurn told said kit answer (timer_stance old seats) (timer_stance new seats')
  pub refused : new.refused ≡ (is_refused answer || old.refused)
  pub halted : new.halted ≡ (is_stopped answer || old.halted)
  pub rings : new.voice.rings ≡ old.voice.rings + cond (is_refused answer) 1 0

-- a turn, after which it goes on or doesn't
pub record TakesATurn (told : ℕ → Type 0) (said : ℕ → ℕ → Bool → Type 0) (kit : Kit) (goes_on : Bool) (old new : TimerWorker) (seats seats' : Seats) : Type 0 where
  pub answer : Turn
  pub takes : TimerTakesTurn told said kit answer old new seats seats'
  pub goes : goes_on ≡ not (is_refused answer || is_stopped answer)

-- The worker took these turns and did nothing else. It says that it was refused memory, and rings the bell, just where the last one was; and that
-- it was halted just where the gate stopped the last one, and said false.
pub record HasTurned (told : ℕ → Type 0) (said : ℕ → ℕ → Bool → Type 0) (kit : Kit) (old new : TimerWorker) (seats seats' : Seats) : Type 0 where
  pub turns : List Turn
  pub are : AreTurns told said kit turns (timer_stance old seats) (timer_stance new seats')
  pub out : Bool
  pub stopped : Bool
  pub ends : TurnsEndBy out stopped turns
  pub refused : new.refused ≡ (out || old.refused)
  pub halted : new.halted ≡ (stopped || old.halted)
  pub rings : new.voice.rings ≡ old.voice.rings + cond out 1 0

-- Why the turns ended, of which the last one was refused memory or stopped, or wasn't: it rang the bell; the gate stopped it; or it is to be
-- served in turn, or found that all CPUs' workers have left
abbrev pub EndFor : (out stopped in_turn : Bool) (voice : Known) → Type 0
EndFor true stopped in_turn voice = Unit {0}
EndFor false true in_turn voice = Unit {0}
EndFor false false in_turn voice = (in_turn ≡ true) ⊎ (voice.gone ≡ true)

-- It took one turn at least, before it looked whether it was to leave. Its turns ended for their cause.
pub record HasTurnedToTheEnd (told : ℕ → Type 0) (said : ℕ → ℕ → Bool → Type 0) (kit : Kit) (old new : TimerWorker) (seats seats' : Seats) : Type 0 where
  pub turned : HasTurned told said kit old new seats seats'
  pub some : 1 ≤ length turned.turns
  pub cause : EndFor turned.out turned.stopped new.in_turn new.voice

-- The steps of the timer's turns: those of whole turns, after which no publication is under way; where the gate stopped it, those of whole turns
-- and perhaps of a last one that was cut off.
abbrev pub StepsSo : (domains : ℕ) (halted : Bool) (old new : Seats) → Type 0
StepsSo domains false old new = Steps (IsWhole (IsTimerTurn domains)) old new × HasSealed new
StepsSo domains true old new = Steps (IsCutOff (IsTimerTurn domains)) old new

-- turns, one at least, and nothing else
pub record HasTakenTurns (told : ℕ → Type 0) (said : ℕ → ℕ → Bool → Type 0) (kit : Kit) (old new : TimerWorker) (seats seats' : Seats) : Type 0 where
  pub turns : List Turn
  pub are : AreTurns told said kit turns (timer_stance old seats) (timer_stance new seats')
  pub some : 1 ≤ length turns
  pub steps : old.halted ≡ false → HasSealed seats → StepsSo (domains kit.throttle.layout) new.halted seats seats'

-- one turn, where it hadn't been halted; or none, where it found that no task writes any more, or was halted before
abbrev pub IsOneTurn : (turns : List Turn) (halted : Bool) (voice : Known) → Type 0
IsOneTurn [] halted voice = (voice.quiet ≡ true) ⊎ (halted ≡ true)
IsOneTurn (answer ∷ []) halted voice = halted ≡ false
IsOneTurn (answer ∷ next ∷ more) halted voice = ⊥

-- the timer's worker took one turn, or none
pub record HasTurnedOnce (told : ℕ → Type 0) (said : ℕ → ℕ → Bool → Type 0) (kit : Kit) (old new : TimerWorker) (seats seats' : Seats) : Type 0 where
  pub turned : HasTurned told said kit old new seats seats'
  pub once : IsOneTurn turned.turns old.halted new.voice
