-- What the seats' logs tell of the CPUs' steps: turns, one after another.
use Rattle.std.specs.Prelude.{◌≡◌, ◌⊎◌, ℕ, List, [], Some}
use Rattle.wbt_grant.specs.declared.who.StepKind.{StepKind}
use Rattle.wbt_kit.specs.declared.kit.Seats.{Seats}
use Rattle.wbt_run_steps.specs.Kinds.{kinds_in, marking}
use Rattle.wbt_run_worker.specs.Words.{AreWordsBy}
use Rattle.wbt_run_worker.specs.declared.side.End.{End}
use Rattle.wbt_table.specs.Rule.{HasLog}
use Rattle.wbt_table.specs.declared.rule.Logged.{Logged}
use Rattle.wbt_turns.specs.Words.{IsCutOff, IsTimerTurn, IsTurn}

-- a look of the sweep at an inode, which is one of the first CPU; or nothing
abbrev pub IsLook : (cpu : ℕ) (word : List StepKind) → Type 0
IsLook cpu word = (word ≡ []) ⊎ ((cpu ≡ 0) × (word ≡ marking))

-- a turn of the CPU, or such a look
abbrev pub IsTurnOrLook : (domains cpu : ℕ) (word : List StepKind) → Type 0
IsTurnOrLook domains cpu word = IsTurn domains word ⊎ IsLook cpu word

-- The seats have the CPU's log. It tells turns and looks, one after another; the last turn may be cut off where the gate stopped the CPU's
-- side, and no step comes after that.
abbrev pub TellsTurns : (domains cpu : ℕ) (end : End) (seats : Seats) → Type 0
TellsTurns domains cpu end seats = (log : List Logged) × HasLog seats.cpu.logs cpu log × AreWordsBy (IsTurnOrLook domains cpu) end (kinds_in log)

-- And they have the timer's log. It tells turns of the timer, the last of which may be cut off.
abbrev pub TimerTellsTurns : (domains : ℕ) (seats : Seats) → Type 0
TimerTellsTurns domains seats = (log : List Logged) × (seats.cpu.timer_log ≡ Some log) × IsCutOff (IsTimerTurn domains) (kinds_in log)
