-- The state of a run between two moves, and the changes that moves are made of.
use Rattle.std.specs.Prelude.{ℕ, Bool, true, false, ℤ, pos, List, [], ◌∷◌, ◌++◌, get_or, set, ◌==◌, Option, Some, None, unwrap_or}
use Rattle.wbt_num.specs.declared.limits.Limits.{Limits}
use Rattle.wbt_counter.specs.declared.counter.Count.{Count}
use Rattle.wbt_counter.specs.declared.counter.Counter.{Counter}
use Rattle.wbt_counter.specs.declared.counter.Counter.TheVariants.{Domain as ofDomain, Context as ofContext}
use Rattle.wbt_counter.specs.Sums.{put}
use Rattle.wbt_book.specs.Book.{Book, bits_after}
use Rattle.wbt_book.specs.declared.event.Event.{Event}
use Rattle.wbt_estimate.specs.Estimate.{first_at}
use Rattle.wbt_expiry.specs.Waiting.{Waiting}
use Rattle.wbt_flex.specs.declared.half.Half.{Half}
use Rattle.wbt_grant.specs.declared.who.StepKind.{StepKind}
use Rattle.wbt_grant.specs.declared.who.StepKind.TheVariants as kinds
use Rattle.wbt_journal.specs.declared.step.StepEntry.{StepEntry}
use Rattle.wbt_replay_moves.specs.declared.state.Actor.{Actor}
use Rattle.wbt_replay_moves.specs.declared.state.Cpu.{Cpu}
use Rattle.wbt_replay_moves.specs.declared.state.Domain.{Domain}
use Rattle.wbt_replay_moves.specs.declared.state.Flusher.{Flusher}
use Rattle.wbt_replay_moves.specs.declared.state.Found.{Found}
use Rattle.wbt_replay_moves.specs.declared.state.Held.{Held}
use Rattle.wbt_replay_moves.specs.declared.state.Load.{Load}
use Rattle.wbt_replay_moves.specs.declared.state.ReplayPhase.{ReplayPhase}
use Rattle.wbt_replay_moves.specs.declared.state.ReplayPhase.TheVariants as phase
use Rattle.wbt_replay_moves.specs.declared.state.Stretch.{Stretch}
use Rattle.wbt_replay_moves.specs.declared.state.ReplayTask.{ReplayTask}
use Rattle.wbt_replay_moves.specs.declared.state.Timer.{Timer}
use Rattle.wbt_replay_moves.specs.declared.state.ReplayTurn.{ReplayTurn}
use Rattle.wbt_replay_moves.specs.declared.state.Whose.TheVariants as whose
use Rattle.wbt_replay_moves.specs.declared.state.Writeback.{Writeback}

-- a machine's state between two moves: the clock, its pages, and all that it keeps of things by their numbers
pub record State : Type 0 where
  pub now : ℕ
  -- how many pages there are, and the two bits of each
  pub pages : ℕ
  pub book : Book
  -- after so many fresh writes of one CPU a check is due
  pub ratelimit_pages : ℕ
  -- things by their numbers
  pub domains : List Domain
  pub contexts : List Writeback
  pub marks : List Bool
  pub queues : List (List ℕ)
  pub tasks : List ReplayTask
  pub flushers : List Flusher
  pub cpus : List Cpu
  -- how many tasks haven't ended, how many flushers aren't finished of CPUs that aren't stopped, and how many CPUs are stopped
  pub running : ℕ
  pub working : ℕ
  pub stopped : ℕ
  -- a step was to be made after the last one that the run may have
  pub spent : Bool
  -- what the order lines still ask for
  pub orders : List Stretch
  -- whose turn it is in the rotation: nobody's before its first turn, and where the clock has moved
  pub rotation : Option Actor
  pub timer : Timer
  -- the steps made
  pub steps : List StepEntry
  -- so many may be made
  pub most : ℕ

-- ---- what stands for nothing

-- a count before its first fold
abbrev pub no_count : Count
no_count = record { version = 0; value = pos 0 }

-- the limits of no domain
abbrev pub no_limits : Limits
no_limits = record { thresh = 0; bg = 0; hard = 0 }

-- a turn that has loaded nothing of a domain
abbrev pub no_load : Load
no_load = record { version = 0; limits = no_limits; count = no_count }

-- a turn that has found no sequence word
abbrev pub no_word : Found
no_word = record { sequence = 0; hard = 0 }

-- what a CPU holds of a domain that isn't there
abbrev pub no_held : Held
no_held = record { version = 0; limits = no_limits }

-- a part, or a domain, with no event
abbrev pub no_half : Half
no_half = record { period = 0; events = 0 }

-- the turn of a CPU that isn't there
abbrev pub no_turn : ReplayTurn
no_turn = record { whose = whose.Task 0; began = 0; found = no_word; global = no_load; cgroup = no_load; context = no_count; over = false }

-- a CPU that isn't there
abbrev pub no_cpu : Cpu
no_cpu = record {
  jobs = [];
  next = 0;
  tasks = [];
  next_task = 0;
  turn = no_turn;
  todo = [];
  local = record { since_check = 0; leaks = 0 };
  own_domains = [];
  own_contexts = [];
  held = [];
  entries = [];
  checks = [];
  estimates = [];
  made = 0;
  stopped = false;
}

-- a task that isn't there: it has ended
abbrev pub no_task : ReplayTask
no_task = record { works = []; rest = 0; ended = true; context = 0; writers = []; pace = None; since = 0 }

-- a flusher that isn't there: it is finished
abbrev pub no_flusher : Flusher
no_flusher = record { phase = phase.Finished; batch = []; hard = 0; measures = []; weighs = []; wheel = None; places = [] }

-- no inode waits for its age
abbrev pub no_waiting : Waiting
no_waiting = record { pairs = []; told = 0; inodes = 0 }

-- a domain that isn't there
abbrev pub no_domain : Domain
no_domain = record { limits = no_limits; sequence = 0; peak = 0; count = no_count; events = no_half }

-- a context that isn't there
abbrev pub no_context : Writeback
no_context = record { count = no_count; written = 0; estimate = first_at 0; part = no_half; cgroup_part = no_half }

-- a step that was forgotten: it stands for nothing but its place among the steps made
abbrev pub no_step : StepEntry
no_step = record { who = 0; kind = kinds.Add; context = 0; change = pos 0; domain = 0; peak = 0 }

-- ---- things by number

-- a CPU by its number
abbrev pub cpu_of : (cpu : ℕ) (s : State) → Cpu
cpu_of cpu s = get_or s.cpus cpu no_cpu

-- the state with this CPU at a number
abbrev pub with_cpu : (cpu : ℕ) (c : Cpu) (s : State) → State
with_cpu cpu c s = record s { cpus = set s.cpus cpu c }

-- a task by its number
abbrev pub task_of : (task : ℕ) (s : State) → ReplayTask
task_of task s = get_or s.tasks task no_task

-- the state with this task at a number
abbrev pub with_task : (task : ℕ) (t : ReplayTask) (s : State) → State
with_task task t s = record s { tasks = set s.tasks task t }

-- a flusher by its number
abbrev pub flusher_of : (flusher : ℕ) (s : State) → Flusher
flusher_of flusher s = get_or s.flushers flusher no_flusher

-- the state with this flusher at a number
abbrev pub with_flusher : (flusher : ℕ) (f : Flusher) (s : State) → State
with_flusher flusher f s = record s { flushers = set s.flushers flusher f }

-- what waits for its age at the flusher: nothing, where its device isn't ageing
abbrev pub waiting_of : (flusher : ℕ) (s : State) → Waiting
waiting_of flusher s = unwrap_or (flusher_of flusher s).wheel no_waiting

-- the state in which these inodes wait for their age at a flusher
abbrev pub with_waiting : (flusher : ℕ) (w : Waiting) (s : State) → State
with_waiting flusher w s = with_flusher flusher (record (flusher_of flusher s) { wheel = Some w }) s

-- the queue of a device: the inodes that are marked, in order
abbrev pub queue_of : (device : ℕ) (s : State) → List ℕ
queue_of device s = get_or s.queues device []

-- the state with this queue of a device
abbrev pub with_queue : (device : ℕ) (queue : List ℕ) (s : State) → State
with_queue device queue s = record s { queues = set s.queues device queue }

-- a domain by its number
abbrev pub domain_of : (domain : ℕ) (s : State) → Domain
domain_of domain s = get_or s.domains domain no_domain

-- the state with this domain at a number
abbrev pub with_domain : (domain : ℕ) (d : Domain) (s : State) → State
with_domain domain d s = record s { domains = set s.domains domain d }

-- what is kept of a context, by its number
abbrev pub writeback_of : (context : ℕ) (s : State) → Writeback
writeback_of context s = get_or s.contexts context no_context

-- the state with this context at a number
abbrev pub with_writeback : (context : ℕ) (w : Writeback) (s : State) → State
with_writeback context w s = record s { contexts = set s.contexts context w }

-- ---- shared counts

-- what the shared word of a counter holds
abbrev pub count_of : (counter : Counter) (s : State) → Count
count_of (ofDomain domain) s = (domain_of domain s).count
count_of (ofContext context) s = (writeback_of context s).count

-- the state in which the shared word of a counter holds this count
abbrev pub with_count : (counter : Counter) (count : Count) (s : State) → State
with_count (ofDomain domain) count s = with_domain domain (record (domain_of domain s) { count = count }) s
with_count (ofContext context) count s = with_writeback context (record (writeback_of context s) { count = count }) s

-- ---- changes of one thing

-- A step was made, which changes the context's count so: by a CPU of this number, or by the timer, whose number is how many CPUs there are.
abbrev pub stepped : (who : ℕ) (kind : StepKind) (context : ℕ) (change : ℤ) (s : State) → State
stepped who kind context change s = record s {
  steps = s.steps ++ (record { who = who; kind = kind; context = context; change = change; domain = 0; peak = 0 }) ∷ [];
}

-- a step that changes no count
abbrev pub plain_step : (who : ℕ) (kind : StepKind) (s : State) → State
plain_step who kind s = stepped who kind 0 (pos 0) s

-- The page's bits become what the event makes of them.
abbrev pub with_event : (event : Event) (page : ℕ) (s : State) → State
with_event event page s = record s { book = put s.book page (bits_after event (s.book page)) }

-- The flusher is at this now.
abbrev pub in_phase : (flusher : ℕ) (p : ReplayPhase) (s : State) → State
in_phase flusher p s = with_flusher flusher (record (flusher_of flusher s) { phase = p }) s

-- The inode goes to the end of the device's queue.
abbrev pub queued : (device inode : ℕ) (s : State) → State
queued device inode s = with_queue device (queue_of device s ++ inode ∷ []) s

-- All tasks have ended.
abbrev pub is_drained : (s : State) → Bool
is_drained s = s.running == 0
