-- What a trace says of the things that a journal names.
use Rattle.std.specs.Prelude.{ℕ, ◌+◌, Bool, true, false, ◌&&◌, ◌==◌, nat_lt, nat_le, if◌then◌else◌, Option, Some, None, List, [], ◌∷◌, length, flat_map, slice_get, suc, zero}
use Rattle.wbt_counter.specs.Batch.{domain_batch, context_batch}
use Rattle.wbt_counter.specs.declared.counter.Counter.{Counter}
use Rattle.wbt_counter.specs.declared.counter.Counter.TheVariants as counter
use Rattle.wbt_limits.specs.Thresholds.{ratelimit_pages_of}
pub use Rattle.wbt_rules.specs.Things.{domains}
use Rattle.wbt_rules.specs.Things as things
use Rattle.wbt_rules.specs.Things.{group_of}
use Rattle.wbt_rules.specs.Thresholds.{global_at}
use Rattle.wbt_trace.specs.Sofar.{inode_at, pages_in}
use Rattle.wbt_trace.specs.declared.trace.Action.{Action}
use Rattle.wbt_trace.specs.declared.trace.Action.TheVariants as action
use Rattle.wbt_trace.specs.declared.trace.Inode.{Inode}
use Rattle.wbt_trace.specs.declared.trace.TaskLine.{TaskLine}
use Rattle.wbt_trace.specs.declared.trace.Trace.{Trace}

-- ---- things by their numbers

-- the number of contexts of a trace
abbrev pub contexts : (trace : Trace) → ℕ
contexts trace = length trace.contexts

-- the number of pages of a trace, over all its inodes
abbrev pub pages : (trace : Trace) → ℕ
pages trace = pages_in trace.inodes

-- the CPU on the line of a task, where there is such a line
abbrev pub cpu_of_task : (which : Option TaskLine) → Option ℕ
cpu_of_task None = None
cpu_of_task (Some task) = Some task.cpu

-- the CPU of a task and of a flusher; none where the trace hasn't it
abbrev pub task_cpu : (trace : Trace) (task : ℕ) → Option ℕ
task_cpu trace task = cpu_of_task (slice_get trace.tasks task)

-- the CPU of a flusher; none where the trace hasn't it
abbrev pub flusher_cpu : (trace : Trace) (flusher : ℕ) → Option ℕ
flusher_cpu trace flusher = if nat_lt flusher (length trace.flushers) then Some (things.flusher_cpu trace flusher) else None

-- the context of an inode's page; none where the trace hasn't it
abbrev pub context_among : (page : ℕ) (inodes : List Inode) → Option ℕ
context_among page [] = None
context_among page (inode ∷ inodes) =
    if nat_le inode.first page && nat_lt page (inode.first + inode.pages) then Some inode.context else context_among page inodes

-- the context of a page of the trace, by the page's number
abbrev pub page_context : (trace : Trace) (page : ℕ) → Option ℕ
page_context trace page = context_among page trace.inodes

-- a context's cgroup, or 0
abbrev pub context_domain : (trace : Trace) (context : ℕ) → ℕ
context_domain trace context = group_of trace context

-- the batch of a counter: how many pages each of its folds moves
abbrev pub batch_of : (trace : Trace) (counter : Counter) → ℕ
batch_of trace (counter.Domain domain) = domain_batch trace.cpus
batch_of trace (counter.Context context) = context_batch trace.cpus

-- whether the trace has the domain or the context of a counter
abbrev pub has_counter : (trace : Trace) (counter : Counter) → Bool
has_counter trace (counter.Domain domain) = nat_lt domain (domains trace)
has_counter trace (counter.Context context) = nat_lt context (contexts trace)

-- ---- what tasks do

-- so many numbers, from a first one on
abbrev pub numbers : (from count : ℕ) → List ℕ
numbers from zero = []
numbers from (suc count) = from ∷ numbers (from + 1) count

-- the pages that an action writes, in order, where the task does it; none otherwise
abbrev pub pages_of_action : (inodes : List Inode) (task : ℕ) (action : Action) → List ℕ
pages_of_action inodes task (action.Write by inode from count) = if by == task then numbers ((inode_at inode inodes).first + from) count else []
pages_of_action inodes task (action.Rest by ticks) = []

-- the pages that a task writes, in order
abbrev pub pages_of_task : (trace : Trace) (task : ℕ) → List ℕ
pages_of_task trace task = flat_map (pages_of_action trace.inodes task) trace.actions

-- whether a task's last action in a list is a rest; where the list has none of its actions, what is known so far
abbrev pub rests_after : (task : ℕ) (so_far : Bool) (actions : List Action) → Bool
rests_after task so_far [] = so_far
rests_after task so_far (action.Write by inode from count ∷ more) = rests_after task (if by == task then false else so_far) more
rests_after task so_far (action.Rest by ticks ∷ more) = rests_after task (if by == task then true else so_far) more

-- whether a task's last action is a rest
abbrev pub rests_last : (trace : Trace) (task : ℕ) → Bool
rests_last trace task = rests_after task false trace.actions

-- ---- checks

-- after so many fresh pages of one CPU a check is due; by the global threshold at the opening
abbrev pub ratelimit_pages : (trace : Trace) (opened : ℕ) → ℕ
ratelimit_pages trace opened = ratelimit_pages_of (global_at trace opened).thresh trace.cpus
