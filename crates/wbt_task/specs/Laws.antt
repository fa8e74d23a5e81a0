-- What holds of a CPU and its writers through any history: what each has is a function of it, pages are kept, checks are
-- near, and no page is written that isn't left.
use Rattle.std.specs.Prelude.{ℕ, ◌≡◌, ◌≢◌, ◌+◌, ◌*◌, ◌^◌, ◌<◌, ◌≤◌, ◌⊎◌, ◌↔◌, List, ◌++◌, All, length, fold, map, sum_by}
use Rattle.wbt_pause.specs.declared.decision.Decision.{Decision}
use Rattle.wbt_estimate.specs.declared.estimate.Estimate.{Estimate}
use Rattle.wbt_pause.specs.declared.decision.Kind.TheVariants.{Wait}
use Rattle.wbt_pause.specs.declared.reads.Reads.{Reads}
use Rattle.wbt_pause.specs.Decision.{decision_of}
use Rattle.wbt_task.specs.declared.allowance.CpuLocal.{CpuLocal}
use Rattle.wbt_task.specs.declared.allowance.Due.TheVariants.{Check}
use Rattle.wbt_task.specs.declared.history.Event.{Event}
use Rattle.wbt_task.specs.declared.history.Event.TheVariants.{Checked, Ended, Wrote}
use Rattle.wbt_task.specs.declared.history.Writer.{Writer}
use Rattle.wbt_task.specs.Allowance.{allowance_of, ended}
use Rattle.wbt_task.specs.Counts.{AllHavePagesLeft, AreApart, HasPage, LeavesPages, Settles, checks_due_in, counted, dirtied_by, dirtied_by_all, settled_in, writes_in}
use Rattle.wbt_task.specs.History.{Along, Cpu, HasRoom, IsInTurn, IsOfWriter, cpu_after, cpu_step, writer_in, writer_of}

-- a history goes on from where its first part leads
abbrev pub HistoryGoesOn : Type 0
HistoryGoesOn = (ratelimit_pages cap : ℕ) (cpu : Cpu) (history more : List Event)
    → cpu_after ratelimit_pages cap cpu (history ++ more)
    ≡ cpu_after ratelimit_pages cap (cpu_after ratelimit_pages cap cpu history) more

-- an event leaves every other writer as it was
abbrev pub OthersStay : Type 0
OthersStay = (ratelimit_pages cap : ℕ) (cpu : Cpu) (event : Event) (writer : ℕ) → writer ≢ writer_in event
    → writer_of (cpu_step ratelimit_pages cap cpu event) writer ≡ writer_of cpu writer

-- after a fresh write a check of its writer is due exactly where the allowance is used up, where the CPU made enough fresh
-- writes, or where no page is left
abbrev pub WriteIsDue : Type 0
WriteIsDue = (ratelimit_pages cap : ℕ) (cpu : Cpu) (writer : ℕ) → writer < length cpu.writers
    → let before : Writer = writer_of cpu writer in
    let after : Writer = writer_of (cpu_step ratelimit_pages cap cpu (Wrote writer)) writer in
    (after.due ≡ Check) ↔ ((allowance_of before.task before.exceeded ≤ after.task.nr_dirtied)
    ⊎ ((ratelimit_pages ≤ cpu.local.since_check + 1) ⊎ (after.left ≡ 0)))

-- after a check exactly where the writer waits
abbrev pub CheckIsDueAgain : Type 0
CheckIsDueAgain = (ratelimit_pages cap : ℕ) (cpu : Cpu) (writer : ℕ) (decision : Decision) → writer < length cpu.writers
    → ((writer_of (cpu_step ratelimit_pages cap cpu (Checked writer decision)) writer).due ≡ Check) ↔ (decision.kind ≡ Wait)

-- the pages counted, and those that checks settled, grow by one for each fresh write
abbrev pub PagesAreKept : Type 0
PagesAreKept = (ratelimit_pages cap : ℕ) (cpu : Cpu) (history : List Event) → All (IsOfWriter (length cpu.writers)) history
    → Along Settles ratelimit_pages cap cpu history
    → counted (cpu_after ratelimit_pages cap cpu history) + settled_in ratelimit_pages cap cpu history
    ≡ counted cpu + writes_in history

-- A task that ends raises the CPU's leaks by the sum over its writers, of what each has counted. It leaves the CPU's count of
-- fresh writes alone.
abbrev pub EndedTaskLeaks : Type 0
EndedTaskLeaks = (ratelimit_pages cap : ℕ) (cpu : Cpu) (writers : List ℕ) → AreApart writers
    → let after : Cpu = cpu_after ratelimit_pages cap cpu (map Ended writers) in
    (after.local.leaks ≡ cpu.local.leaks + dirtied_by_all cpu writers) × (after.local.since_check ≡ cpu.local.since_check)

-- so it is where the writers are told by themselves
abbrev pub EndedWritersLeak : Type 0
EndedWritersLeak = (local : CpuLocal) (writers : List Writer)
    → let after : CpuLocal = fold (λ before writer. ended before writer.task) local writers in
    (after.leaks ≡ local.leaks + sum_by dirtied_by writers) × (after.since_check ≡ local.since_check)

-- so the counts of a CPU stay within their words as long as the history isn't longer than these have room for
abbrev pub RoomIsKept : Type 0
RoomIsKept = (ratelimit_pages cap : ℕ) (cpu : Cpu) (history : List Event) → All (IsOfWriter (length cpu.writers)) history
    → Along Settles ratelimit_pages cap cpu history → counted cpu + length history < 2 ^ 52
    → cpu.local.since_check + length history < 2 ^ 52 → Along HasRoom ratelimit_pages cap cpu history

-- a check that decides as the law of decisions says of its writer's numbers settles, and leaves pages
abbrev pub DecisionsSettle : Type 0
DecisionsSettle = (cpu : Cpu) (writer : ℕ) (reads : Reads) (estimate : Estimate) (now : ℕ) → 1 ≤ reads.cap
    → let event : Event = Checked writer (decision_of reads estimate (writer_of cpu writer).task now) in
    Settles cpu event × LeavesPages reads.cap cpu event

-- a count of fresh writes below the number after which a check is due stays below it
abbrev pub StaysBelow : Type 0
StaysBelow = (ratelimit_pages cap : ℕ) (cpu : Cpu) (history : List Event) → cpu.local.since_check < ratelimit_pages
    → (cpu_after ratelimit_pages cap cpu history).local.since_check < ratelimit_pages

-- and with k checks due, the count and the fresh writes are below k + 1 times that number
abbrev pub ChecksAreNear : Type 0
ChecksAreNear = (ratelimit_pages cap : ℕ) (cpu : Cpu) (history : List Event) → cpu.local.since_check < ratelimit_pages
    → cpu.local.since_check + writes_in history < ratelimit_pages * (checks_due_in ratelimit_pages cap cpu history + 1)

-- a writer whose check isn't due has a page left, and none has more than cap
abbrev pub PagesAreLeft : Type 0
PagesAreLeft = (ratelimit_pages cap : ℕ) (cpu : Cpu) (history : List Event) → 1 ≤ cap
    → Along (LeavesPages cap) ratelimit_pages cap cpu history → AllHavePagesLeft cap cpu
    → AllHavePagesLeft cap (cpu_after ratelimit_pages cap cpu history)

-- so in a history where checks stand where they are due no writer writes a page that isn't left to it
abbrev pub WritesHavePages : Type 0
WritesHavePages = (ratelimit_pages cap : ℕ) (cpu : Cpu) (history : List Event) → 1 ≤ cap
    → All (IsOfWriter (length cpu.writers)) history → Along (LeavesPages cap) ratelimit_pages cap cpu history
    → Along IsInTurn ratelimit_pages cap cpu history → AllHavePagesLeft cap cpu
    → Along HasPage ratelimit_pages cap cpu history
