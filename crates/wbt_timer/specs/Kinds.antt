-- Of which kinds the steps of a turn are that the timer made, by the seats' log of it.
use Rattle.std.specs.Prelude.{◌≡◌, ◌≢◌, ℕ, ◌*◌, ◌<◌, ◌≤◌, Bool, true, false, Some, List, [], ◌∷◌, ◌++◌, length, map, get_or}
use Rattle.wbt_num.specs.declared.limits.TheConstants.{LAST_SEQUENCE}
use Rattle.wbt_grant.specs.State.{is_sealed, stage_of, version_of}
use Rattle.wbt_grant.specs.declared.record.TimerRecord.{TimerRecord}
use Rattle.wbt_grant.specs.declared.who.StepKind.{StepKind}
use Rattle.wbt_grant.specs.declared.who.StepKind.TheVariants as kind
use Rattle.wbt_turns.specs.Words.{IsCutOff, IsTimerTurn, IsWhole, kinds_of, publications, publications_but}
use Rattle.wbt_kit.specs.Kit.{AreFirst, HasTimer}
use Rattle.wbt_kit.specs.declared.kit.Kit.{Kit}
use Rattle.wbt_kit.specs.declared.kit.Seats.{Seats}
use Rattle.wbt_kit.specs.declared.turn.Turn.{Turn}
use Rattle.wbt_kit.specs.declared.turn.Turn.TheVariants.{Stepped, Halted}
use Rattle.wbt_table.specs.declared.answer.Put.{Put}
use Rattle.wbt_table.specs.declared.answer.Put.TheVariants.{Done, Stopped, Last}
use Rattle.wbt_table.specs.declared.rule.Logged.{Logged}

-- the kinds of the steps in a log, in the order in which they were made
abbrev pub kinds_in : (log : List Logged) → List StepKind
kinds_in log = kinds_of (map (λ (logged : Logged). logged.made) log)

-- the seats have a log of the timer that tells these steps after those of an older log
abbrev pub LogsAfter : (word : List StepKind) (older : List Logged) (seats : Seats) → Type 0
LogsAfter word older seats = (log : List Logged) × (seats.cpu.timer_log ≡ Some log) × (kinds_in log ≡ kinds_in older ++ word)

-- Between the old seats and the new ones the timer made steps of just these kinds, in this order, and no CPU made any.
pub record StepsAs (word : List StepKind) (old new : Seats) : Type 0 where
  pub logs : (log : List Logged) → old.cpu.timer_log ≡ Some log → LogsAfter word log new
  pub cpus : new.cpu.logs ≡ old.cpu.logs

-- they are such a word
abbrev pub Steps : (IsWord : List StepKind → Type 0) (old new : Seats) → Type 0
Steps IsWord old new = (word : List StepKind) × IsWord word × StepsAs word old new

-- The timer has each publication behind it. After one that was cut off, the next one of its domain leaves out a step.
abbrev pub HasSealed : (seats : Seats) → Type 0
HasSealed seats = (r : TimerRecord) × HasTimer r seats × ((domain : ℕ) → is_sealed (stage_of domain r.drafts) ≡ true)

-- the last version stands of each domain that is noted so
abbrev pub AreLastVersions : (lasts : List Bool) (seats : Seats) → Type 0
AreLastVersions lasts seats = (r : TimerRecord) → HasTimer r seats → (domain : ℕ) → get_or lasts domain false ≡ true → LAST_SEQUENCE ≤ 2 * version_of domain r.published

-- The steps of a whole turn: the limits of each domain were published, but of those whose last version stood before.
pub record TakesTurn (domains : ℕ) (old new : Seats) : Type 0 where
  pub lasts : List Bool
  pub each_domain : length lasts ≡ domains
  pub are_last : AreLastVersions lasts old
  pub steps : StepsAs (publications_but lasts) old new
  pub sealed : HasSealed new

-- the first steps of one that the gate cut off, or none of them
pub record CutsTurn (domains : ℕ) (old new : Seats) : Type 0 where
  pub lasts : List Bool
  pub each_domain : length lasts ≡ domains
  pub are_last : AreLastVersions lasts old
  pub made : List StepKind
  pub left : List StepKind
  pub some_left : left ≢ []
  pub whole : made ++ left ≡ publications_but lasts
  pub steps : StepsAs made old new

-- the steps of a turn by what it answers: where it rests, or was refused memory, it made none
abbrev pub StepsBy : (domains : ℕ) (answer : Turn) (old new : Seats) → Type 0
StepsBy domains Stepped old new = TakesTurn domains old new
StepsBy domains Halted old new = CutsTurn domains old new
StepsBy domains other old new = StepsAs [] old new × HasSealed new

-- ---- of one domain

-- the steps by which a peak is raised and limits are published
abbrev pub peak_and_put : List StepKind
peak_and_put = kind.Peak ∷ kind.Unseal ∷ kind.Thresh ∷ kind.Publish ∷ []

-- All of these were made, or where the gate stopped them a first part; where the last version stood already, the peak's alone.
abbrev pub PutSteps : (put : Put) (old new : Seats) → Type 0
PutSteps Done old new = StepsAs peak_and_put old new × HasSealed new
PutSteps Stopped old new = (made : List StepKind) × (left : List StepKind) × (left ≢ []) × (made ++ left ≡ peak_and_put) × StepsAs made old new
PutSteps Last old new = StepsAs (kind.Peak ∷ []) old new × HasSealed new

-- ---- laws

-- At the opening no publication is under way.
abbrev pub IsSealedFirst : Type 0
IsSealedFirst = (kit : Kit) (seats : Seats) → AreFirst kit seats → HasSealed seats

-- Turns that follow one another are whole, and the last one may be cut off.
pub record TurnsFollow (domains : ℕ) : Type 0 where
  pub none : (seats : Seats) → Steps (IsWhole (IsTimerTurn domains)) seats seats
  pub more : (old mid new : Seats) → Steps (IsWhole (IsTimerTurn domains)) old mid → TakesTurn domains mid new → Steps (IsWhole (IsTimerTurn domains)) old new
  pub cut : (old mid new : Seats) → Steps (IsWhole (IsTimerTurn domains)) old mid → CutsTurn domains mid new → Steps (IsCutOff (IsTimerTurn domains)) old new
  pub ended : (old new : Seats) → Steps (IsWhole (IsTimerTurn domains)) old new → Steps (IsCutOff (IsTimerTurn domains)) old new

-- so it is for any number of domains
abbrev pub TurnsFollowOneAnother : Type 0
TurnsFollowOneAnother = (domains : ℕ) → TurnsFollow domains

-- A whole turn publishes the limits of all domains, where the last version of none of them stood before it.
abbrev pub PublishesAll : Type 0
PublishesAll = (domains : ℕ) (old new : Seats) (r : TimerRecord) → HasTimer r old → ((domain : ℕ) → domain < domains → 2 * version_of domain r.published < LAST_SEQUENCE)
    → TakesTurn domains old new → StepsAs (publications domains) old new
