-- One CPU and its writers, through what happens there in order. A writer is a task in one context; writers are numbered
-- from 0.
use Rattle.std.specs.Prelude.{ℕ, ◌≡◌, ◌+◌, ◌-◌, ◌^◌, ◌<◌, min, false, List, [], ◌∷◌, get_or, set, fold, replicate, ⊤}
use Rattle.wbt_pause.specs.declared.decision.Decision.{Decision}
use Rattle.wbt_pause.specs.declared.decision.Kind.{Kind}
use Rattle.wbt_pause.specs.declared.decision.Kind.TheVariants.{Exempt, Free, Go, Wait}
use Rattle.wbt_task.specs.declared.allowance.CpuLocal.{CpuLocal}
use Rattle.wbt_task.specs.declared.allowance.Due.{Due}
use Rattle.wbt_task.specs.declared.allowance.Due.TheVariants.{Check, No}
use Rattle.wbt_task.specs.declared.history.Event.{Event}
use Rattle.wbt_task.specs.declared.history.Event.TheVariants.{Checked, Ended, Wrote}
use Rattle.wbt_task.specs.declared.history.Writer.{Writer}
use Rattle.wbt_task.specs.Allowance.{Page, ended, first, page_after}

-- a CPU: what it counts, and its writers
pub record Cpu : Type 0 where
  pub local : CpuLocal
  pub writers : List Writer

-- a new writer has dirtied nothing, and its first allowance is left to it, at most cap
unfoldable pub new_writer : (cap : ℕ) → Writer
new_writer cap = record { task = first; left = min first.nr_dirtied_pause cap; exceeded = false; due = No }

-- a CPU that counted nothing, with so many new writers
unfoldable pub new_cpu : (cap writers : ℕ) → Cpu
new_cpu cap writers = record { local = record { since_check = 0; leaks = 0 }; writers = replicate writers (new_writer cap) }

-- the writer of a number
abbrev pub writer_of : (cpu : Cpu) (writer : ℕ) → Writer
writer_of cpu writer = get_or cpu.writers writer (new_writer 0)

-- A fresh write: a page less is left, and the allowance is counted.
abbrev pub wrote_page : (ratelimit_pages : ℕ) (local : CpuLocal) (writer : Writer) → Page
wrote_page ratelimit_pages local writer = page_after local writer.task (writer.left - 1) writer.exceeded ratelimit_pages

-- the writer after it
abbrev pub wrote_writer : (page : Page) (writer : Writer) → Writer
wrote_writer page writer = record { task = page.task; left = writer.left - 1; exceeded = writer.exceeded; due = page.due }

-- a check: a writer that waits is checked again
abbrev pub due_again : (kind : Kind) → Due
due_again Free = No
due_again Go = No
due_again Exempt = No
due_again Wait = Check

-- a check gives the writer what it decided
abbrev pub checked_writer : (decision : Decision) → Writer
checked_writer decision = record {
  task = decision.task;
  left = decision.left;
  exceeded = decision.exceeded;
  due = due_again decision.kind;
}

-- what one event makes of the CPU, where after so many fresh writes of it a check is due
unfoldable pub cpu_step : (ratelimit_pages cap : ℕ) (cpu : Cpu) (event : Event) → Cpu
cpu_step ratelimit_pages cap cpu (Wrote writer) =
    let page : Page = wrote_page ratelimit_pages cpu.local (writer_of cpu writer) in
    record { local = page.local; writers = set cpu.writers writer (wrote_writer page (writer_of cpu writer)) }
cpu_step ratelimit_pages cap cpu (Checked writer decision) = record {
  local = cpu.local;
  writers = set cpu.writers writer (checked_writer decision);
}
cpu_step ratelimit_pages cap cpu (Ended writer) = record {
  local = ended cpu.local (writer_of cpu writer).task;
  writers = set cpu.writers writer (new_writer cap);
}

-- what a history, in order, makes of it
unfoldable pub cpu_after : (ratelimit_pages cap : ℕ) (cpu : Cpu) (history : List Event) → Cpu
cpu_after ratelimit_pages cap cpu history = fold (cpu_step ratelimit_pages cap) cpu history

-- the writer that an event is about
abbrev pub writer_in : (event : Event) → ℕ
writer_in (Wrote writer) = writer
writer_in (Checked writer decision) = writer
writer_in (Ended writer) = writer

-- an event of a writer that is there
abbrev pub IsOfWriter : (writers : ℕ) (event : Event) → Type 0
IsOfWriter writers event = writer_in event < writers

-- what an event needs of the CPU holds after those before it, for each event of a history
unfoldable pub Along : (Ok : Cpu → Event → Type 0) (ratelimit_pages cap : ℕ) (cpu : Cpu) (history : List Event) → Type 0
Along Ok ratelimit_pages cap cpu [] = ⊤
Along Ok ratelimit_pages cap cpu (event ∷ history) =
    Ok cpu event × Along Ok ratelimit_pages cap (cpu_step ratelimit_pages cap cpu event) history

-- the counts leave room for a page more, and for what an ended writer leaves
abbrev pub HasRoom : (cpu : Cpu) (event : Event) → Type 0
HasRoom cpu (Wrote writer) = ((writer_of cpu writer).task.nr_dirtied < 2 ^ 52) × (cpu.local.since_check < 2 ^ 52)
HasRoom cpu (Checked writer decision) = ⊤
HasRoom cpu (Ended writer) = cpu.local.leaks + (writer_of cpu writer).task.nr_dirtied < 2 ^ 52

-- in turn: a writer writes or ends where its check isn't due, and is checked where it is
abbrev pub IsInTurn : (cpu : Cpu) (event : Event) → Type 0
IsInTurn cpu (Wrote writer) = (writer_of cpu writer).due ≡ No
IsInTurn cpu (Checked writer decision) = (writer_of cpu writer).due ≡ Check
IsInTurn cpu (Ended writer) = (writer_of cpu writer).due ≡ No
