-- Of which kinds the steps of a flusher's calls are.
use Rattle.std.specs.Prelude.{◌≡◌, ◌⊎◌, ℕ, List, [], ◌∷◌, ◌++◌, negsuc}
use Rattle.wbt_grant.specs.Record.{debts_of}
use Rattle.wbt_grant.specs.declared.who.StepKind.{StepKind}
use Rattle.wbt_grant.specs.declared.who.StepKind.TheVariants as kind
use Rattle.wbt_kit.specs.declared.kit.Kit.{Kit}
use Rattle.wbt_kit.specs.declared.kit.Seats.{Seats}
use Rattle.wbt_kit.specs.declared.turn.Turn.{Turn}
use Rattle.wbt_kit.specs.declared.turn.Turn.TheVariants.{Halted}
use Rattle.wbt_run_steps.specs.Kinds.{Steps, StepsAs, StepsPart}
use Rattle.wbt_run_steps.specs.Records.{record_of}
use Rattle.wbt_table.specs.Layout.{setting}
use Rattle.wbt_turns.specs.Words.{IsCut, MayMark, MaySettle, counts}
use Rattle.wbt_flusher.specs.Did.{OwesNothing}
use Rattle.wbt_flusher.specs.declared.back.Given.{Given}
use Rattle.wbt_flusher.specs.declared.back.Given.TheVariants as given
use Rattle.wbt_flusher.specs.declared.plan.FlusherPlan.{FlusherPlan}
use Rattle.wbt_flusher.specs.declared.scan.Looked.{Looked}
use Rattle.wbt_flusher.specs.declared.scan.Looked.TheVariants as looked

-- ---- words

-- counts of contexts
abbrev pub AreCounts : (word : List StepKind) → Type 0
AreCounts word = (contexts : ℕ) × (word ≡ counts contexts)

-- a look at a page, and a claim of it or none
abbrev pub IsLook : (word : List StepKind) → Type 0
IsLook word = (word ≡ kind.Look ∷ []) ⊎ (word ≡ kind.Look ∷ kind.Claim ∷ [])

-- what comes after a page that was given back: its events are settled, or none are, and then the inode may be marked
abbrev pub ComesAfter : (word : List StepKind) → Type 0
ComesAfter word = (settled : List StepKind) × (marked : List StepKind) × MaySettle settled × MayMark marked × (word ≡ settled ++ marked)

-- ---- calls

-- the steps of a call are such a word, or a first part of one where the gate cut it off
abbrev pub StepsBy : (cpu : ℕ) (IsWord : List StepKind → Type 0) (answer : Turn) (old new : Seats) → Type 0
StepsBy cpu IsWord Halted old new = Steps cpu (IsCut IsWord) old new
StepsBy cpu IsWord other old new = Steps cpu IsWord old new

-- so are those of a look at a page
abbrev pub StepsToLook : (cpu : ℕ) (looked : Looked) (old new : Seats) → Type 0
StepsToLook cpu looked.Stopped old new = Steps cpu (IsCut IsLook) old new
StepsToLook cpu other old new = Steps cpu IsLook old new

-- and those of giving a page back, which is looked at first
abbrev pub StepsToGive : (cpu : ℕ) (given : Given) (old new : Seats) → Type 0
StepsToGive cpu given.Stopped old new = StepsPart cpu (kind.Look ∷ kind.Back ∷ []) old new
StepsToGive cpu other old new = StepsAs cpu (kind.Look ∷ kind.Back ∷ []) old new

-- ---- debts

-- the flusher's CPU owes an event of a page to the page's counters
abbrev pub OwesEvent : (plan : FlusherPlan) (kit : Kit) (seats : Seats) → Type 0
OwesEvent plan kit seats = (page : ℕ) × ((record_of plan.cpu seats.cpu.cpus).debts ≡ debts_of (setting kit.throttle.layout) page (negsuc 0))

-- or it owes nothing
abbrev pub MayOweEvent : (plan : FlusherPlan) (kit : Kit) (seats : Seats) → Type 0
MayOweEvent plan kit seats = OwesEvent plan kit seats ⊎ OwesNothing plan seats
