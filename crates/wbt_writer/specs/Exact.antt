-- What a turn of a CPU's writers made of their tasks, of the queues and of what they keep, from state to state; and how far a turn went that
-- was cut off.
use Rattle.std.specs.Prelude.{◌≡◌, ◌≢◌, ℕ, zero, suc, ◌+◌, ◌<◌, ◌≤◌, Bool, true, false, Some, List, length, get_or, set, slice_get}
use Rattle.wbt_grant.specs.Kinds.{Step, mark}
use Rattle.wbt_journal.specs.Machine.{context_domain}
use Rattle.wbt_journal.specs.Side.{number_of}
use Rattle.wbt_journal.specs.declared.entry.CheckEntry.{CheckEntry}
use Rattle.wbt_journal.specs.declared.entry.Entry.TheVariants as entry
use Rattle.wbt_kit.specs.declared.kit.Kit.{Kit}
use Rattle.wbt_kit.specs.declared.kit.Seats.{Seats}
use Rattle.wbt_kit.specs.declared.turn.Turn.{Turn}
use Rattle.wbt_kit.specs.declared.turn.Turn.TheVariants.{Stepped, Resting, Done, Halted, Faulted, Spent, NoMemory}
use Rattle.wbt_queue.specs.Passes as queue
use Rattle.wbt_rules.specs.Pace.{pace_of, since_after}
use Rattle.wbt_rules.specs.Things.{device_of}
use Rattle.wbt_run_laws.specs.Log.{with_check, with_entry}
use Rattle.wbt_run_steps.specs.Inodes.{PutsWhere}
use Rattle.wbt_run_steps.specs.Made.{MakesEach, MakesSome}
use Rattle.wbt_run_steps.specs.Queues.{OnlyDevice}
use Rattle.wbt_run_steps.specs.Records.{OnlyCpu}
use Rattle.wbt_run_steps.specs.Steps.{Settled}
use Rattle.wbt_table.specs.Calls as table
use Rattle.wbt_table.specs.Layout.{setting}
use Rattle.wbt_table.specs.Seat.{Makes}
use Rattle.wbt_table.specs.declared.answer.Dirtied.{Dirtied}
use Rattle.wbt_table.specs.declared.answer.Dirtied.TheVariants.{Fresh, Already}
use Rattle.wbt_trace.specs.Sofar.{inode_at}
use Rattle.wbt_trace.specs.declared.trace.Action.{Action}
use Rattle.wbt_trace.specs.declared.trace.Trace.{Trace}
use Rattle.wbt_writer.specs.Ahead.{Skips, by_of, first_page, pages_in}
use Rattle.wbt_writer.specs.Answers.{Goes}
use Rattle.wbt_writer.specs.Asked.{given_by}
use Rattle.wbt_writer.specs.Counted.{IsJob, KeepsFixed, OthersStay, Passes, cpu_of, is_due_at, rest_after, task_at}
use Rattle.wbt_writer.specs.Desk.{Sight, fractions_of, record_in}
use Rattle.wbt_writer.specs.Lines.{fractions_after}
use Rattle.wbt_writer.specs.Loads.{LoadedSome, check_steps}
use Rattle.wbt_writer.specs.Writes.{is_fresh}
use Rattle.wbt_writer.specs.declared.task.TaskPlace.{TaskPlace}
use Rattle.wbt_writer.specs.declared.tasks.TaskJob.TheVariants as job
use Rattle.wbt_writer.specs.declared.tasks.Tasks.{Tasks}
use Rattle.wbt_writer.specs.declared.write.Wrote.{Wrote}
use Rattle.wbt_writer.specs.declared.write.Wrote.TheVariants as wrote_it

-- ---- queues

-- the inode was put into its device's queue, and waits exactly where that was full
pub record PutsInode (trace : Trace) (kit : Kit) (inode : ℕ) (old new : queue.Seats) (was is : List Bool) : Type 0 where
  pub full : Bool
  pub puts : PutsWhere kit (device_of trace inode) inode full old new
  pub only : OnlyDevice (device_of trace inode) old new
  pub waiting : is ≡ set was inode full

-- an inode that waits is put, or waits on
pub data PutsNext (trace : Trace) (kit : Kit) (inode : ℕ) (old new : queue.Seats) (was is : List Bool) : Type 0 where
  waits_not : get_or was inode false ≡ false → new ≡ old → is ≡ was → PutsNext trace kit inode old new was is
  is_next : get_or was inode false ≡ true → PutsInode trace kit inode old new was is → PutsNext trace kit inode old new was is

-- those before one, in order
abbrev pub PutsBefore : (trace : Trace) (kit : Kit) (inode : ℕ) (old new : queue.Seats) (was is : List Bool) → Type 0
PutsBefore trace kit zero old new was is = (new ≡ old) × (is ≡ was)
PutsBefore trace kit (suc inode) old new was is = (mid : queue.Seats) × (between : List Bool)
    × PutsBefore trace kit inode old mid was between × PutsNext trace kit inode mid new between is

-- each inode that waits was put, in order, as far as there was room; and nothing else was done
pub record PutsWaiting (trace : Trace) (kit : Kit) (old new : Sight) : Type 0 where
  pub puts : PutsBefore trace kit (length trace.inodes) old.seats.queue new.seats.queue old.work.waiting.items new.work.waiting.items
  pub tasks : new.work.tasks ≡ old.work.tasks
  pub fractions : new.work.fractions.items ≡ old.work.fractions.items
  pub cpu : new.seats.cpu ≡ old.seats.cpu
  pub share : new.seats.share ≡ old.seats.share
  pub est : new.seats.est ≡ old.seats.est
  pub log : new.log ≡ old.log

-- ---- tasks

-- no other task changed, and the search for the next turn goes on where it did
pub record OnlyTask (task : ℕ) (old new : Tasks) : Type 0 where
  pub others : OthersStay task old new
  pub fixed : KeepsFixed old new

-- the place of the task's first action from one on; past the last where it has none
pub record IsFirstFrom (trace : Trace) (task from place : ℕ) : Type 0 where
  pub within : place ≤ length trace.actions
  pub own : (action : Action) → slice_get trace.actions place ≡ Some action → by_of action ≡ task
  pub skips : Skips task from place trace.actions

-- the task stands at the next page of its action; or at its next action, where that was the last
pub data StandsBehind (trace : Trace) (task : ℕ) (was is : TaskPlace) : Type 0 where
  goes_on : (action : Action) → slice_get trace.actions was.at ≡ Some action → was.done + 1 < pages_in action → is.at ≡ was.at → is.done ≡ was.done + 1
      → StandsBehind trace task was is
  was_last : (action : Action) → slice_get trace.actions was.at ≡ Some action → was.done + 1 ≡ pages_in action → IsFirstFrom trace task (was.at + 1) is.at → is.done ≡ 0
      → StandsBehind trace task was is

-- a page that was clean was of the task's writer of its context
abbrev pub counted_by : (answer : Dirtied) (writer context : ℕ) (t : TaskPlace) → TaskPlace
counted_by Fresh writer context t = record t { writer = writer; context = context }
counted_by Already writer context t = t

-- nothing else of its place changed, but whether it ended
abbrev pub MovesAlong : (was is : TaskPlace) → Type 0
MovesAlong was is = is ≡ record was { at = is.at; done = is.done; written = is.written; todo = is.todo; since = is.since; ended = is.ended }

-- ---- a check

-- what it loads, for the writer that it is of
abbrev pub steps_of_check : (trace : Trace) (cpu : ℕ) (t : TaskPlace) → List Step
steps_of_check trace cpu t = check_steps cpu t.writer t.context (context_domain trace t.context)

-- It made just these loads, in order, and is told. The writer gets the pages that it may dirty, where it doesn't wait. The fractions that it
-- read are kept, and a pause makes the task rest. Queues stay, and which inodes wait.
pub record ChecksTask (trace : Trace) (kit : Kit) (cpu task : ℕ) (old new : Sight) : Type 0 where
  pub loaded : Seats
  pub loads : MakesEach kit cpu (steps_of_check trace cpu (task_at old.work.tasks task)) old.seats loaded
  pub due : is_due_at (cpu_of old.work.tasks) (task_at old.work.tasks task).writer ≡ true
  pub check : CheckEntry
  pub told : new.log ≡ with_check check old.log
  pub its_task : check.task ≡ task
  pub its_context : check.context ≡ (task_at old.work.tasks task).context
  pub place : task_at new.work.tasks task ≡ record (task_at old.work.tasks task) {
    rest = rest_after check.decision check.now (task_at old.work.tasks task);
    ended = (task_at new.work.tasks task).ended;
  }
  pub gives : record_in cpu new.seats ≡ given_by check.decision.kind (task_at old.work.tasks task).writer check.decision.left (record_in cpu loaded)
  pub only : OnlyTask task old.work.tasks new.work.tasks
  pub fractions : new.work.fractions.items
      ≡ set old.work.fractions.items check.context (fractions_after (record { global = check.global; cgroup = check.cgroup }) (fractions_of check.context old.work))
  pub waiting : new.work.waiting.items ≡ old.work.waiting.items
  pub queue : new.seats.queue ≡ old.seats.queue

-- ---- a rest

-- from a moment on, and the task stands at its next action; nothing else was done
pub record RestsTask (trace : Trace) (now task : ℕ) (old new : Sight) : Type 0 where
  pub ticks : ℕ
  pub its_job : IsJob trace old.work.tasks task (job.Rest ticks)
  pub place : task_at new.work.tasks task ≡ record (task_at old.work.tasks task) {
    at = (task_at new.work.tasks task).at;
    rest = now + ticks;
    ended = (task_at new.work.tasks task).ended;
  }
  pub next : IsFirstFrom trace task ((task_at old.work.tasks task).at + 1) (task_at new.work.tasks task).at
  pub only : OnlyTask task old.work.tasks new.work.tasks
  pub fractions : new.work.fractions ≡ old.work.fractions
  pub waiting : new.work.waiting ≡ old.work.waiting
  pub seats : new.seats ≡ old.seats
  pub told : new.log ≡ old.log

-- ---- a rest before the task's next page

-- from a moment on, and its pages are counted anew for its pace; nothing else was done
pub record PausesTask (trace : Trace) (now task : ℕ) (old new : Sight) : Type 0 where
  pub ticks : ℕ
  pub its_job : IsJob trace old.work.tasks task (job.Pause ticks)
  pub place : task_at new.work.tasks task ≡ record (task_at old.work.tasks task) { since = 0; rest = now + ticks }
  pub only : OnlyTask task old.work.tasks new.work.tasks
  pub fractions : new.work.fractions ≡ old.work.fractions
  pub waiting : new.work.waiting ≡ old.work.waiting
  pub seats : new.seats ≡ old.seats
  pub told : new.log ≡ old.log

-- ---- a write

-- The page was dirtied for the task's writer of its context, found clean or dirty, and told. The task stands behind it, it is counted for the
-- task's pace, and the task rests as it did.
pub record DirtiesPage (trace : Trace) (kit : Kit) (task inode page : ℕ) (answer : Dirtied) (old new : Sight) : Type 0 where
  pub dirties : table.Dirties (setting kit.throttle.layout) (number_of trace task (inode_at inode trace.inodes).context) (first_page trace inode + page) answer
      old.seats.cpu new.seats.cpu
  pub seats : OnlyCpu old.seats new.seats
  pub told : new.log ≡ with_entry (entry.Write task (first_page trace inode + page) (is_fresh answer)) old.log
  pub passes : Passes (task_at old.work.tasks task) (task_at new.work.tasks task)
  pub stands : StandsBehind trace task (task_at old.work.tasks task) (task_at new.work.tasks task)
  pub since : (task_at new.work.tasks task).since ≡ since_after (pace_of trace task) (task_at old.work.tasks task).since
  pub place : MovesAlong (counted_by answer (number_of trace task (inode_at inode trace.inodes).context) (inode_at inode trace.inodes).context (task_at old.work.tasks task))
      (task_at new.work.tasks task)
  pub only : OnlyTask task old.work.tasks new.work.tasks
  pub fractions : new.work.fractions ≡ old.work.fractions
  pub waiting : new.work.waiting ≡ old.work.waiting

-- the inode was marked, and put where it had no mark
pub record MarksInode (trace : Trace) (kit : Kit) (cpu inode : ℕ) (old new : Seats) (was is : List Bool) : Type 0 where
  pub found : ℕ
  pub makes : Makes (setting kit.throttle.layout) (mark cpu inode) found old.cpu new.cpu
  pub puts : found ≡ 0 → PutsInode trace kit inode old.queue new.queue was is
  pub puts_none : found ≢ 0 → (new.queue ≡ old.queue) × (is ≡ was)
  pub share : new.share ≡ old.share
  pub est : new.est ≡ old.est

-- what the CPU owed to counters was paid, each fold is told, and then the inode was marked
pub record FinishesWrite (trace : Trace) (kit : Kit) (cpu inode : ℕ) (said : ℕ → ℕ → Bool → Type 0) (old new : Sight) : Type 0 where
  pub settled : Seats
  pub settles : Settled cpu kit said true old.seats settled old.log new.log
  pub marks : MarksInode trace kit cpu inode settled new.seats old.work.waiting.items new.work.waiting.items
  pub tasks : new.work.tasks ≡ old.work.tasks
  pub fractions : new.work.fractions.items ≡ old.work.fractions.items

-- what the CPU owed was paid, all of it or a first part; nothing else was done
pub record PaysSome (kit : Kit) (cpu : ℕ) (said : ℕ → ℕ → Bool → Type 0) (old new : Sight) : Type 0 where
  pub all : Bool
  pub settles : Settled cpu kit said all old.seats new.seats old.log new.log
  pub work : new.work ≡ old.work

-- what follows a write of a clean page
abbrev pub FinishTook : (trace : Trace) (kit : Kit) (cpu inode : ℕ) (said : ℕ → ℕ → Bool → Type 0) (answer : Wrote) (old new : Sight) → Type 0
FinishTook trace kit cpu inode said wrote_it.Fresh old new = FinishesWrite trace kit cpu inode said old new
FinishTook trace kit cpu inode said wrote_it.Stopped old new = PaysSome kit cpu said old new
FinishTook trace kit cpu inode said other old new = ⊥

-- the page was dirty before; or it was clean, and the write was finished
pub data WritesPage (trace : Trace) (kit : Kit) (cpu task inode page : ℕ) (said : ℕ → ℕ → Bool → Type 0) (old new : Sight) : Type 0 where
  was_dirty : DirtiesPage trace kit task inode page Already old new → WritesPage trace kit cpu task inode page said old new
  was_clean : (dirtied : Sight) → DirtiesPage trace kit task inode page Fresh old dirtied → FinishesWrite trace kit cpu inode said dirtied new
      → WritesPage trace kit cpu task inode page said old new

-- it was stopped before its page; or after it, among what the CPU owed then, or before the inode's mark
pub data WritesSome (trace : Trace) (kit : Kit) (cpu task inode page : ℕ) (said : ℕ → ℕ → Bool → Type 0) (old new : Sight) : Type 0 where
  before_its_page : new ≡ old → WritesSome trace kit cpu task inode page said old new
  after_its_page : (dirtied : Sight) → DirtiesPage trace kit task inode page Fresh old dirtied → PaysSome kit cpu said dirtied new
      → WritesSome trace kit cpu task inode page said old new

-- what a write did, by its answer
abbrev pub WriteTook : (trace : Trace) (kit : Kit) (cpu task inode page : ℕ) (said : ℕ → ℕ → Bool → Type 0) (answer : Wrote) (old new : Sight) → Type 0
WriteTook trace kit cpu task inode page said wrote_it.Already old new = WritesPage trace kit cpu task inode page said old new
WriteTook trace kit cpu task inode page said wrote_it.Fresh old new = WritesPage trace kit cpu task inode page said old new
WriteTook trace kit cpu task inode page said wrote_it.Stopped old new = WritesSome trace kit cpu task inode page said old new
WriteTook trace kit cpu task inode page said wrote_it.Spent old new = new ≡ old

-- ---- a task's turn

-- a task's turn: a check, a rest, a rest for its pace, or a write
pub data TakesTurn (trace : Trace) (kit : Kit) (now cpu task : ℕ) (said : ℕ → ℕ → Bool → Type 0) (old new : Sight) : Type 0 where
  checks : ChecksTask trace kit cpu task old new → TakesTurn trace kit now cpu task said old new
  rests : RestsTask trace now task old new → TakesTurn trace kit now cpu task said old new
  pauses : PausesTask trace now task old new → TakesTurn trace kit now cpu task said old new
  writes : (inode page : ℕ) → IsJob trace old.work.tasks task (job.Write inode page) → WritesPage trace kit cpu task inode page said old new
      → TakesTurn trace kit now cpu task said old new

-- a first part of what a check loads was loaded, in the same order; nothing else was done
pub record ChecksSome (trace : Trace) (kit : Kit) (cpu task : ℕ) (old new : Sight) : Type 0 where
  pub due : is_due_at (cpu_of old.work.tasks) (task_at old.work.tasks task).writer ≡ true
  pub some : MakesSome kit cpu (steps_of_check trace cpu (task_at old.work.tasks task)) old.seats new.seats
  pub loaded : LoadedSome (setting kit.throttle.layout) cpu old.seats new.seats
  pub work : new.work ≡ old.work
  pub told : new.log ≡ old.log

-- it was stopped in a check or in a write
pub data TakesSome (trace : Trace) (kit : Kit) (cpu task : ℕ) (said : ℕ → ℕ → Bool → Type 0) (old new : Sight) : Type 0 where
  stops_checking : ChecksSome trace kit cpu task old new → TakesSome trace kit cpu task said old new
  stops_writing : (inode page : ℕ) → IsJob trace old.work.tasks task (job.Write inode page) → WritesSome trace kit cpu task inode page said old new
      → TakesSome trace kit cpu task said old new

-- the turn of a task begins: the search for the next one goes on behind it
abbrev pub turn_begun : (task : ℕ) (s : Sight) → Sight
turn_begun task s = record s { work = record s.work { tasks = record s.work.tasks { next = task + 1 } } }

-- a write was due, and its page wasn't dirtied
pub record WritesNone (trace : Trace) (task : ℕ) (old new : Sight) : Type 0 where
  pub inode : ℕ
  pub page : ℕ
  pub its_job : IsJob trace old.work.tasks task (job.Write inode page)
  pub same : new ≡ old

-- ---- the turn

-- by answer, once the inodes that waited were put: a task took its turn, or was stopped in it, or had no page step for its write; or no
-- task could begin, and nothing was done
abbrev pub TookBy : (told : ℕ → Type 0) (said : ℕ → ℕ → Bool → Type 0) (trace : Trace) (kit : Kit) (cpu : ℕ) (answer : Turn) (old new : Sight) → Type 0
TookBy told said trace kit cpu Stepped old new = (now task : ℕ) × Goes told old.work.tasks now task
    × TakesTurn trace kit now cpu task said (turn_begun task old) new
TookBy told said trace kit cpu Halted old new = (now task : ℕ) × Goes told old.work.tasks now task × TakesSome trace kit cpu task said (turn_begun task old) new
TookBy told said trace kit cpu Spent old new = (now task : ℕ) × Goes told old.work.tasks now task × WritesNone trace task (turn_begun task old) new
TookBy told said trace kit cpu (Resting now until) old new = new ≡ old
TookBy told said trace kit cpu Done old new = new ≡ old
TookBy told said trace kit cpu Faulted old new = ⊥
TookBy told said trace kit cpu NoMemory old new = ⊥

-- each inode that waited was put, as far as there was room, and then this was done
pub record WriterTook (told : ℕ → Type 0) (said : ℕ → ℕ → Bool → Type 0) (trace : Trace) (kit : Kit) (cpu : ℕ) (answer : Turn) (old new : Sight) : Type 0 where
  pub put : Sight
  pub puts : PutsWaiting trace kit old put
  pub took : TookBy told said trace kit cpu answer put new

-- where memory was refused nothing was done
abbrev pub WriterTakes : (told : ℕ → Type 0) (said : ℕ → ℕ → Bool → Type 0) (trace : Trace) (kit : Kit) (cpu : ℕ) (answer : Turn) (old new : Sight) → Type 0
WriterTakes told said trace kit cpu NoMemory old new = new ≡ old
WriterTakes told said trace kit cpu other old new = WriterTook told said trace kit cpu other old new
