-- What is counted through a history: pages, pages left, and checks that are due.
use Rattle.std.specs.Prelude.{ℕ, ◌≡◌, ◌≢◌, ◌+◌, ◌-◌, ◌<◌, ◌≤◌, List, [], ◌∷◌, length, sum_by, All, ⊤}
use Rattle.wbt_pause.specs.declared.decision.Kind.TheVariants.{Wait}
use Rattle.wbt_task.specs.declared.allowance.Due.{Due}
use Rattle.wbt_task.specs.declared.allowance.Due.TheVariants.{Check, No}
use Rattle.wbt_task.specs.declared.history.Event.{Event}
use Rattle.wbt_task.specs.declared.history.Event.TheVariants.{Checked, Wrote}
use Rattle.wbt_task.specs.declared.history.Writer.{Writer}
use Rattle.wbt_task.specs.History.{Cpu, cpu_step, wrote_page, writer_of}

-- ---- pages

-- pages that are counted: by a writer, or as leaks
abbrev pub dirtied_by : (writer : Writer) → ℕ
dirtied_by writer = writer.task.nr_dirtied

-- all pages that a CPU counts: those of its writers, and its leaks
abbrev pub counted : (cpu : Cpu) → ℕ
counted cpu = sum_by dirtied_by cpu.writers + cpu.local.leaks

-- fresh writes
unfoldable pub is_write : (event : Event) → ℕ
is_write (Wrote writer) = 1
is_write _ = 0

-- how many fresh writes a history has
abbrev pub writes_in : (history : List Event) → ℕ
writes_in history = sum_by is_write history

-- pages that a check settles: the writer counted them and no longer does
abbrev pub settled_by : (cpu : Cpu) (event : Event) → ℕ
settled_by cpu (Checked writer decision) = (writer_of cpu writer).task.nr_dirtied - decision.task.nr_dirtied
settled_by cpu _ = 0

unfoldable pub settled_in : (ratelimit_pages cap : ℕ) (cpu : Cpu) (history : List Event) → ℕ
settled_in ratelimit_pages cap cpu [] = 0
settled_in ratelimit_pages cap cpu (event ∷ history) =
    settled_by cpu event + settled_in ratelimit_pages cap (cpu_step ratelimit_pages cap cpu event) history

-- no check makes its writer count more
abbrev pub Settles : (cpu : Cpu) (event : Event) → Type 0
Settles cpu (Checked writer decision) = decision.task.nr_dirtied ≤ (writer_of cpu writer).task.nr_dirtied
Settles cpu _ = ⊤

-- ---- ended tasks

-- numbers of writers of which none stands twice, as those of a task are
unfoldable pub AreApart : (writers : List ℕ) → Type 0
AreApart [] = ⊤
AreApart (writer ∷ writers) = All (λ other. other ≢ writer) writers × AreApart writers

-- what the writers of these numbers count together
abbrev pub dirtied_by_all : (cpu : Cpu) (writers : List ℕ) → ℕ
dirtied_by_all cpu writers = sum_by (λ writer. (writer_of cpu writer).task.nr_dirtied) writers

-- ---- checks

-- fresh writes after which a check is due
unfoldable pub is_due : (due : Due) → ℕ
is_due Check = 1
is_due No = 0

-- 1 where the event is a fresh write after which its writer's check is due, else 0
abbrev pub due_by : (ratelimit_pages : ℕ) (cpu : Cpu) (event : Event) → ℕ
due_by ratelimit_pages cpu (Wrote writer) = is_due (wrote_page ratelimit_pages cpu.local (writer_of cpu writer)).due
due_by ratelimit_pages cpu _ = 0

unfoldable pub checks_due_in : (ratelimit_pages cap : ℕ) (cpu : Cpu) (history : List Event) → ℕ
checks_due_in ratelimit_pages cap cpu [] = 0
checks_due_in ratelimit_pages cap cpu (event ∷ history) =
    due_by ratelimit_pages cpu event + checks_due_in ratelimit_pages cap (cpu_step ratelimit_pages cap cpu event) history

-- ---- pages left

-- a writer has at most cap pages left, and one at least where its check isn't due
abbrev pub HasPagesLeft : (cap : ℕ) (writer : Writer) → Type 0
HasPagesLeft cap writer = (writer.left ≤ cap) × (writer.due ≡ No → 1 ≤ writer.left)

-- each writer of a CPU does
abbrev pub AllHavePagesLeft : (cap : ℕ) (cpu : Cpu) → Type 0
AllHavePagesLeft cap cpu = (writer : ℕ) → writer < length cpu.writers → HasPagesLeft cap (writer_of cpu writer)

-- a check leaves at most cap pages, and one at least where the writer doesn't wait, as each decision does
abbrev pub LeavesPages : (cap : ℕ) (cpu : Cpu) (event : Event) → Type 0
LeavesPages cap cpu (Checked writer decision) = (decision.left ≤ cap) × (decision.kind ≢ Wait → 1 ≤ decision.left)
LeavesPages cap cpu _ = ⊤

-- a fresh write is of a writer with a page left
abbrev pub HasPage : (cpu : Cpu) (event : Event) → Type 0
HasPage cpu (Wrote writer) = 1 ≤ (writer_of cpu writer).left
HasPage cpu _ = ⊤
