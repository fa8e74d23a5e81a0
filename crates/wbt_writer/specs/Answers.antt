-- What a turn of a CPU's writers answers.
use Rattle.std.specs.Prelude.{◌≡◌, ℕ, ◌+◌, Bool, List, flat_map}
use Rattle.wbt_journal.specs.Each.{Each}
use Rattle.wbt_journal.specs.Told.{Told}
use Rattle.wbt_journal.specs.declared.entry.CpuJournal.{CpuJournal}
use Rattle.wbt_kit.specs.declared.kit.Kit.{Kit}
use Rattle.wbt_kit.specs.declared.kit.Seats.{Seats}
use Rattle.wbt_kit.specs.declared.turn.Turn.{Turn}
use Rattle.wbt_kit.specs.declared.turn.Turn.TheVariants.{Stepped, Resting, Done, Halted, Faulted, Spent, NoMemory}
use Rattle.wbt_table.specs.Calls.{HasNoPageSteps}
use Rattle.wbt_table.specs.Layout.{setting}
use Rattle.wbt_trace.specs.declared.trace.Trace.{Trace}
use Rattle.wbt_writer.specs.Choice.{IsChosen}
use Rattle.wbt_writer.specs.Desk.{Desk, HaveLefts, HaveRead, IsReady, OwesNothing, Sight, record_in}
use Rattle.wbt_writer.specs.declared.work.WriterWork.{WriterWork}
use Rattle.wbt_writer.specs.Did.{Did, OwesNoMore}
use Rattle.wbt_run_laws.specs.Held.{IsHeld, limits_in}
use Rattle.wbt_run_laws.specs.Log.{Logged}
use Rattle.wbt_run_steps.specs.Steps.{IsStopped}
use Rattle.wbt_writer.specs.Over.{IsAllDone}
use Rattle.wbt_writer.specs.Took.{Took}
use Rattle.wbt_writer.specs.declared.choose.Chosen.TheVariants as chosen
use Rattle.wbt_writer.specs.declared.tasks.Tasks.{Tasks}

-- a task may begin at a moment that the clock told: it is the first after the last turn's that hasn't ended and doesn't rest
pub record Goes (told : ℕ → Type 0) (tasks : Tasks) (now task : ℕ) : Type 0 where
  pub was_told : told now
  pub chosen : IsChosen tasks now (chosen.Task task)

-- the CPU's record, shares, estimates and the log stay; of queues it says nothing
pub record Idles (old new : Sight) : Type 0 where
  pub cpu : new.seats.cpu ≡ old.seats.cpu
  pub share : new.seats.share ≡ old.seats.share
  pub est : new.seats.est ≡ old.seats.est
  pub log : new.log ≡ old.log

-- by answer. Resting comes where tasks haven't ended, and each rests until after the moment that the clock told, one of them until
-- just `until`; Done where all have ended, and then nothing is due and their pages are written; Halted where the gate said false of the steps that the CPU has now; Spent where the CPU has
-- made all its page steps. Else a task took its turn.
abbrev pub WriterAnswers : (told : ℕ → Type 0) (said : ℕ → ℕ → Bool → Type 0) (trace : Trace) (cpu : ℕ) (kit : Kit) (answer : Turn)
    (added : List Told) (old new : Sight) → Type 0
WriterAnswers told said trace cpu kit Stepped added old new =
    (now task : ℕ) × Goes told old.work.tasks now task × Took trace kit now cpu task added old new
WriterAnswers told said trace cpu kit (Resting now until) added old new =
    told now × IsChosen old.work.tasks now (chosen.Resting until) × Idles old new × (new.work.tasks ≡ old.work.tasks)
WriterAnswers told said trace cpu kit Done added old new =
    (now : ℕ) × IsChosen old.work.tasks now chosen.Done × Idles old new × (new.work.tasks ≡ old.work.tasks) × IsAllDone trace new.work.tasks
WriterAnswers told said trace cpu kit Halted added old new =
    (now task : ℕ) × Goes told old.work.tasks now task × IsStopped cpu said new.seats
WriterAnswers told said trace cpu kit Spent added old new =
    (now task : ℕ) × Goes told old.work.tasks now task × HasNoPageSteps (setting kit.throttle.layout) cpu old.seats.cpu × Idles old new
    × (new.work.tasks ≡ record old.work.tasks { next = task + 1 })
WriterAnswers told said trace cpu kit NoMemory added old new = new ≡ old
WriterAnswers told said trace cpu kit Faulted added old new = ⊥

-- once there is memory there is no NoMemory
abbrev pub HasMemory : (answer : Turn) → Type 0
HasMemory NoMemory = ⊥
HasMemory other = Unit {0}

-- each triple that these checks tell is, with its version, the one that the CPU's record holds of its domain
abbrev pub AreHeld : (kit : Kit) (cpu : ℕ) (added : List Told) (seats : Seats) → Type 0
AreHeld kit cpu added seats = Each (IsHeld (setting kit.throttle.layout).firsts (record_in cpu seats).triples) (flat_map limits_in added)

-- and so those that the log got
abbrev pub ToldAreHeld : (kit : Kit) (cpu : ℕ) (seats : Seats) (before behind : CpuJournal) → Type 0
ToldAreHeld kit cpu seats before behind = (added : List Told) × Logged added before behind × AreHeld kit cpu added seats

-- A turn, of moments that the clock told: what it did stands in the log, in the record and in the notes, each triple that a check told is held
-- when the turn returns, and it is one of these.
pub record Turned (told : ℕ → Type 0) (said : ℕ → ℕ → Bool → Type 0) (trace : Trace) (cpu : ℕ) (kit : Kit) (answer : Turn) (old new : Sight) : Type 0 where
  pub moments : List ℕ
  pub were_told : Each told moments
  pub added : List Told
  pub did : Did trace kit.published.moment cpu moments added old new
  pub holds : AreHeld kit cpu added new.seats
  pub answers : WriterAnswers told said trace cpu kit answer added old new

-- but where a turn was halted the next one may follow, and the CPU owes no mark that it didn't owe before
abbrev pub MayGoOn : (answer : Turn) (kit : Kit) (old new : Desk) (seats seats' : Seats) → Type 0
MayGoOn Halted kit old new seats seats' = Unit {0}
MayGoOn other kit old new seats seats' = IsReady new kit seats' × OwesNoMore new.cpu seats seats'

-- the same of the parts
abbrev pub WorkMayGoOn : (answer : Turn) (trace : Trace) (cpu : ℕ) (kit : Kit) (work : WriterWork) (seats seats' : Seats) → Type 0
WorkMayGoOn Halted trace cpu kit work seats seats' = Unit {0}
WorkMayGoOn other trace cpu kit work seats seats' = OwesNothing cpu seats' × HaveLefts trace cpu kit work.tasks seats'
    × HaveRead trace work seats' × OwesNoMore cpu seats seats'
