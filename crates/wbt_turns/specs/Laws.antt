-- How words of turns follow one another: what a loop over turns keeps until one is cut off.
use Rattle.std.specs.Prelude.{◌≡◌, ℕ, false, List, [], ◌++◌, replicate}
use Rattle.wbt_grant.specs.declared.who.StepKind.{StepKind}
use Rattle.wbt_turns.specs.Words.{IsCut, IsCutOff, IsTimerTurn, IsTurn, IsWhole, publications, publications_but, repeated}

-- the turns of a CPU, where there are so many domains
pub record TurnsFollow (domains : ℕ) : Type 0 where
  -- before its first step all turns are whole
  pub none : IsWhole (IsTurn domains) []
  -- they are after one more that was whole
  pub more : (word turn : List StepKind) → IsWhole (IsTurn domains) word → IsTurn domains turn → IsWhole (IsTurn domains) (word ++ turn)
  -- after that the last one may be cut off
  pub cut : (word part : List StepKind) → IsWhole (IsTurn domains) word → IsCut (IsTurn domains) part → IsCutOff (IsTurn domains) (word ++ part)
  -- or there is no more
  pub ended : (word : List StepKind) → IsWhole (IsTurn domains) word → IsCutOff (IsTurn domains) word

-- and so with those of the timer
pub record TimerTurnsFollow (domains : ℕ) : Type 0 where
  pub none : IsWhole (IsTimerTurn domains) []
  pub more : (word turn : List StepKind) → IsWhole (IsTimerTurn domains) word → IsTimerTurn domains turn → IsWhole (IsTimerTurn domains) (word ++ turn)
  pub cut : (word part : List StepKind) → IsWhole (IsTimerTurn domains) word → IsCut (IsTimerTurn domains) part → IsCutOff (IsTimerTurn domains) (word ++ part)
  pub ended : (word : List StepKind) → IsWhole (IsTimerTurn domains) word → IsCutOff (IsTimerTurn domains) word
  -- where no domain's last version stands, a turn publishes the limits of all
  pub all_published : publications_but (replicate domains false) ≡ publications domains
  -- such turns are whole
  pub times : (turns : ℕ) → IsWhole (IsTimerTurn domains) (repeated turns (publications domains))

-- so it is with the turns of CPUs, whatever the number of domains
abbrev pub TurnsFollowOneAnother : Type 0
TurnsFollowOneAnother = (domains : ℕ) → TurnsFollow domains

-- so it is with the timer's turns, whatever the number of domains
abbrev pub TimerTurnsFollowOneAnother : Type 0
TimerTurnsFollowOneAnother = (domains : ℕ) → TimerTurnsFollow domains
