-- What was made since the opening: every step and grant with the number that it found, in one order, and what of it each CPU and the
-- timer made.
use Rattle.std.specs.Prelude.{◌≡◌, ℕ, cond, ◌==◌, not, ◌&&◌, Option, Some, None, List, [], ◌∷◌, ◌++◌, length}
use Rattle.wbt_grant.specs.declared.record.LastStep.{LastStep}
use Rattle.wbt_grant.specs.Setting.{Setting}
use Rattle.wbt_grant.specs.State.{State, opening}
use Rattle.wbt_grant.specs.Kinds.{Step, grant, Allowed, after}
use Rattle.wbt_grant.specs.Effects.{Access, effect}
use Rattle.wbt_grant.specs.Seats.{is_by_timer, maker_of, found_by}
use Rattle.wbt_table.specs.declared.rule.Granted.{Granted}
use Rattle.wbt_table.specs.declared.rule.Logged.{Logged}

-- a step with the number that it found; a grant is no step, and finds 0
pub record Made : Type 0 where
  pub step : Step
  pub found : ℕ

-- all that was made by anyone, the newest first
abbrev pub Past : Type 0
Past = List Made

-- the state that it led to
abbrev pub state_after : (set : Setting) (past : Past) → State
state_after set [] = opening set
state_after set (made ∷ older) = after set made.step (state_after set older)

-- each step was allowed where it was made, and found what stood in its word then
abbrev pub AreMade : (set : Setting) (past : Past) → Type 0
AreMade set [] = Unit {0}
AreMade set (made ∷ older) = Allowed set made.step (state_after set older) × (made.found ≡ found_by set made.step (state_after set older))
    × AreMade set older

-- the steps and grants alone, the first first
abbrev pub steps_of : (past : Past) → List Step
steps_of [] = []
steps_of (made ∷ older) = steps_of older ++ made.step ∷ []

-- how it is logged, where as many as `moment` had been made before

-- a step with its word and what it found there; a grant tells neither
abbrev pub step_told : (access : Option Access) (found : ℕ) → Option LastStep
step_told None found = None
step_told (Some access) found = Some (record { kind = access.kind; word = access.word; found = found })

-- the entry of a log: its moment, its maker, and the step where it is one
abbrev pub logged : (moment : ℕ) (made : Made) → Logged
logged moment made = record { moment = moment; maker = (effect made.step).maker; made = step_told (effect made.step).access made.found }

-- all that a CPU made, with the moment of each
abbrev pub log_of : (set : Setting) (c : ℕ) (past : Past) → List Logged
log_of set c [] = []
log_of set c (made ∷ older) = cond (not (is_by_timer made.step) && (maker_of set made.step == c))
    (logged (length older) made ∷ log_of set c older) (log_of set c older)

-- and the timer
abbrev pub timer_log_of : (past : Past) → List Logged
timer_log_of [] = []
timer_log_of (made ∷ older) = cond (is_by_timer made.step) (logged (length older) made ∷ timer_log_of older) (timer_log_of older)

-- a log with a grant that was made at a moment, where there is one
abbrev pub log_granted : (moment : ℕ) (grants : Option Granted) (log : List Logged) → List Logged
log_granted moment None log = log
log_granted moment (Some g) log = logged moment (record { step = grant g.writer g.left; found = 0 }) ∷ log

-- a log gets a grant that was made at some moment; without one it stays
abbrev pub LogsGrant : (grants : Option Granted) (old new : List Logged) → Type 0
LogsGrant grants old new = (moment : ℕ) × (new ≡ log_granted moment grants old)

-- One step was logged, after all that had been made by anyone. `past` is that; `own` tells what of it is the log's; and what the step
-- found is the number that then stood in its word. A grant since the last step comes with it
pub record LogsStep (set : Setting) (own : Past → List Logged) (grants : Option Granted) (step : Step) (found : ℕ) (old new : List Logged) : Type 0 where
  pub past : Past
  pub are_made : AreMade set past
  pub allowed : Allowed set step (state_after set past)
  pub found_then : found ≡ found_by set step (state_after set past)
  pub granted : LogsGrant grants old (own past)
  pub log : new ≡ logged (length past) (record { step = step; found = found }) ∷ own past

-- steps one after another, the first first
abbrev pub LogsSteps : (set : Setting) (own : Past → List Logged) (steps : List Made) (old new : List Logged) → Type 0
LogsSteps set own [] old new = new ≡ old
LogsSteps set own (made ∷ more) old new =
    (grants : Option Granted) × (middle : List Logged) × LogsStep set own grants made.step made.found old middle × LogsSteps set own more middle new
