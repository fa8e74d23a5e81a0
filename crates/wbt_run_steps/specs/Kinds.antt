-- Of which kinds the steps are that a CPU made, by the seats' log of it.
use Rattle.std.specs.Prelude.{◌≡◌, ◌≢◌, ◌⊎◌, ℕ, Bool, true, false, List, [], ◌∷◌, ◌++◌, map}
use lib.ListN.{get_elem?}
use Rattle.wbt_counter.specs.declared.record.Debt.{Debt}
use Rattle.wbt_counter.specs.declared.record.Debt.TheVariants.{Free, Event, FoldDue, ClearDue}
use Rattle.wbt_counter.specs.declared.record.Owed.{Owed}
use Rattle.wbt_grant.specs.declared.who.StepKind.{StepKind}
use Rattle.wbt_grant.specs.declared.who.StepKind.TheVariants as kind
use Rattle.wbt_kit.specs.declared.kit.Seats.{Seats}
use Rattle.wbt_kit.specs.declared.turn.Turn.{Turn}
use Rattle.wbt_kit.specs.declared.turn.Turn.TheVariants.{Halted}
use Rattle.wbt_run_steps.specs.Records.{record_of}
use Rattle.wbt_table.specs.Rule.{HasLog}
use Rattle.wbt_table.specs.declared.answer.Back.{Back}
use Rattle.wbt_table.specs.declared.answer.Back.TheVariants.{Stopped}
use Rattle.wbt_table.specs.declared.rule.Logged.{Logged}
use Rattle.wbt_turns.specs.Words.{IsCut, IsCutTurn, IsTurn, kinds_of}

-- the kinds of the steps in a log, in the order in which they were made
abbrev pub kinds_in : (log : List Logged) → List StepKind
kinds_in log = kinds_of (map (λ (logged : Logged). logged.made) log)

-- the seats have a log of the CPU that tells these steps after those of an older log
abbrev pub LogsAfter : (cpu : ℕ) (word : List StepKind) (older : List Logged) (seats : Seats) → Type 0
LogsAfter cpu word older seats = (log : List Logged) × HasLog seats.cpu.logs cpu log × (kinds_in log ≡ kinds_in older ++ word)

-- Between the old seats and the new ones the CPU made steps of just these kinds, in this order; no other CPU made any, nor did the timer.
pub record StepsAs (cpu : ℕ) (word : List StepKind) (old new : Seats) : Type 0 where
  pub logs : (log : List Logged) → HasLog old.cpu.logs cpu log → LogsAfter cpu word log new
  pub others : (other : ℕ) → other ≢ cpu → get_elem? new.cpu.logs other ≡ get_elem? old.cpu.logs other
  pub timer : new.cpu.timer_log ≡ old.cpu.timer_log

-- they are such a word
abbrev pub Steps : (cpu : ℕ) (IsWord : List StepKind → Type 0) (old new : Seats) → Type 0
Steps cpu IsWord old new = (word : List StepKind) × IsWord word × StepsAs cpu word old new

-- they are a first part of this word, or all of it
abbrev pub StepsPart : (cpu : ℕ) (whole : List StepKind) (old new : Seats) → Type 0
StepsPart cpu whole old new = Steps cpu (IsCut (λ word. word ≡ whole)) old new

-- ---- turns

-- the steps of a whole turn
abbrev pub TakesTurn : (domains cpu : ℕ) (old new : Seats) → Type 0
TakesTurn domains cpu old new = Steps cpu (IsTurn domains) old new

-- or of one that the gate cut off
abbrev pub CutsTurn : (domains cpu : ℕ) (old new : Seats) → Type 0
CutsTurn domains cpu old new = Steps cpu (IsCutTurn domains) old new

-- by answer: those of a whole turn, but where the turn was halted
abbrev pub StepsInTurn : (domains cpu : ℕ) (answer : Turn) (old new : Seats) → Type 0
StepsInTurn domains cpu Halted old new = CutsTurn domains cpu old new
StepsInTurn domains cpu other old new = TakesTurn domains cpu old new

-- ---- parts of turns

-- a domain's limits are loaded
abbrev pub loads_of_limits : List StepKind
loads_of_limits = kind.First ∷ kind.Middle ∷ kind.Limits ∷ []

-- an inode is marked
abbrev pub marking : List StepKind
marking = kind.Mark ∷ []

-- A debt to a counter is paid, and then `rest` is done: an event is added, and where the own number reaches the batch it is folded and cleared
-- at once; a number that is due is folded and cleared; and one that was folded is cleared.
abbrev pub PaysFirst : (debt : Debt) (rest word : List StepKind) → Type 0
PaysFirst Free rest word = word ≡ rest
PaysFirst (Event a) rest word = (word ≡ kind.Add ∷ rest) ⊎ (word ≡ kind.Add ∷ kind.Fold ∷ kind.Clear ∷ rest)
PaysFirst FoldDue rest word = word ≡ kind.Fold ∷ kind.Clear ∷ rest
PaysFirst (ClearDue a) rest word = word ≡ kind.Clear ∷ rest

-- these debts are paid, one after another
abbrev pub ArePayments : (debts : List Owed) (word : List StepKind) → Type 0
ArePayments [] word = word ≡ []
ArePayments (owed ∷ more) word = (rest : List StepKind) × ArePayments more rest × PaysFirst owed.debt rest word

-- all that the CPU owed to counters is paid, or a first part of it
abbrev pub StepsToPay : (cpu : ℕ) (all : Bool) (old new : Seats) → Type 0
StepsToPay cpu true old new = Steps cpu (ArePayments (record_of cpu old.cpu.cpus).debts) old new
StepsToPay cpu false old new = Steps cpu (IsCut (ArePayments (record_of cpu old.cpu.cpus).debts)) old new

-- a page that is to be given back is looked at, and its word exchanged, or tried to be; where the gate said no, that is a first part of this
abbrev pub StepsToGiveBack : (cpu : ℕ) (answer : Back) (old new : Seats) → Type 0
StepsToGiveBack cpu Stopped old new = StepsPart cpu (kind.Look ∷ kind.Back ∷ []) old new
StepsToGiveBack cpu other old new = StepsAs cpu (kind.Look ∷ kind.Back ∷ []) old new
