-- The pages that tasks wrote: each task's are the first of its pages, in order, in the part of its CPU.
use Rattle.std.specs.Prelude.{◌≡◌, ℕ, Bool, true, false, ◌&&◌, ◌==◌, Option, Some, None, IfSome, List, [], ◌∷◌, slice_get, count_by}
use Rattle.wbt_trace.specs.declared.trace.Trace.{Trace}
use Rattle.wbt_journal.specs.Effects.{Effect, Flight, Move, Write, takes, lands, gives_back, effect, of_part}
use Rattle.wbt_journal.specs.Estimates.{decision_at}
use Rattle.wbt_journal.specs.Items.{Item, begins, tells}
use Rattle.wbt_journal.specs.Machine.{page_context, pages_of_task}
use Rattle.wbt_journal.specs.Side.{is_own_task}
use Rattle.wbt_journal.specs.Checks.{has_page}
use Rattle.wbt_journal.specs.declared.entry.CheckEntry.{CheckEntry}
use Rattle.wbt_journal.specs.Walk.{unless, first_of}

-- which tasks wrote so far in a part, newest first
abbrev pub writes_after : (tasks : List ℕ) (item : Item) → List ℕ
writes_after tasks (begins cpu) = []
writes_after tasks (tells cpu entry) = of_part tasks (λ (write : Write). write.task ∷ tasks) (effect entry).write

-- whether a page that a task may have is this one
abbrev pub is_at : (page : ℕ) (which : Option ℕ) → Bool
is_at page None = false
is_at page (Some at) = at == page

-- the page that a task writes next
abbrev pub next_page : (trace : Trace) (tasks : List ℕ) (task : ℕ) → Option ℕ
next_page trace tasks task = slice_get (pages_of_task trace task) (count_by (λ by. by == task) tasks)

-- an entry names a task of its own CPU, and a page that there is; a write is of its task's next page
pub record Writes (trace : Trace) (tasks : List ℕ) (cpu task page : ℕ) : Type 0 where
  pub own : is_own_task trace cpu task ≡ true
  pub next : next_page trace tasks task ≡ Some page

-- the page that a flusher's move names
abbrev pub page_of : (move : Move) → Option ℕ
page_of (takes page) = Some page
page_of (lands page) = Some page
page_of (gives_back page absorbed) = Some page
page_of other = None

-- the page that a flusher's move names, if it names one, is one of the trace
abbrev pub NamesPage : (trace : Trace) (move : Move) → Type 0
NamesPage trace move = IfSome (page_of move) (λ page. has_page (page_context trace page) ≡ true)

-- all tasks and pages that an entry names are ones that it may name
pub record NamesPages (trace : Trace) (tasks : List ℕ) (cpu : ℕ) (did : Effect) : Type 0 where
  pub write : IfSome did.write (λ (write : Write). Writes trace tasks cpu write.task write.page)
  pub check : IfSome did.check (λ (check : CheckEntry). is_own_task trace cpu check.task ≡ true)
  pub flight : IfSome did.flight (λ (flight : Flight). NamesPage trace flight.move)

-- an item's write is of its task's next page, and it names only tasks of its CPU and pages that there are
abbrev pub PagesAreNext : (trace : Trace) (tasks : List ℕ) (item : Item) → Type 0
PagesAreNext trace tasks (begins cpu) = Unit {0}
PagesAreNext trace tasks (tells cpu entry) = NamesPages trace tasks cpu (effect entry)

-- the fault of a write of a task on another CPU, or of a page that isn't the task's next
abbrev pub write_fault : (trace : Trace) (tasks : List ℕ) (cpu : ℕ) (write : Write) → Option ℕ
write_fault trace tasks cpu write = unless (is_own_task trace cpu write.task && is_at write.page (next_page trace tasks write.task)) 0

-- the fault of a check of a task on another CPU
abbrev pub task_fault : (trace : Trace) (cpu : ℕ) (check : CheckEntry) → Option ℕ
task_fault trace cpu check = unless (is_own_task trace cpu check.task) (decision_at check)

-- the fault of a flusher's move whose page the trace hasn't
abbrev pub move_fault : (trace : Trace) (flight : Flight) → Option ℕ
move_fault trace flight = of_part None (λ page. unless (has_page (page_context trace page)) 0) (page_of flight.move)

-- an item's fault: its write, its check or its flusher's move
abbrev pub page_fault : (trace : Trace) (tasks : List ℕ) (item : Item) → Option ℕ
page_fault trace tasks (begins cpu) = None
page_fault trace tasks (tells cpu entry) = first_of (of_part None (write_fault trace tasks cpu) (effect entry).write)
    (first_of (of_part None (task_fault trace cpu) (effect entry).check) (of_part None (move_fault trace) (effect entry).flight))
