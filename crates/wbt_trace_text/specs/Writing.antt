-- The text of a trace, as it is written.
use Rattle.std.specs.Prelude.{ℕ, ◌+◌, if◌then◌else◌, List, [], ◌∷◌, ◌++◌, Option, Some, None}
use Rattle.wbt_text.specs.Numbers.{numbers_text}
use Rattle.wbt_trace_text.specs.Lines.{kind_text, kind_of, numbers_of}
use Rattle.wbt_trace_text.specs.declared.line.Line.{Line}
use Rattle.wbt_trace_text.specs.declared.line.Line.TheVariants as line
use Rattle.wbt_trace.specs.declared.trace.Action.{Action}
use Rattle.wbt_trace.specs.declared.trace.Action.TheVariants as action
use Rattle.wbt_trace.specs.declared.trace.Avail.{Avail}
use Rattle.wbt_trace.specs.declared.trace.Cgroup.{Cgroup}
use Rattle.wbt_trace.specs.declared.trace.Context.{Context}
use Rattle.wbt_trace.specs.declared.trace.Device.{Device}
use Rattle.wbt_trace.specs.declared.trace.FirstEstimate.{FirstEstimate}
use Rattle.wbt_trace.specs.declared.trace.FlusherLine.{FlusherLine}
use Rattle.wbt_trace.specs.declared.trace.Inode.{Inode}
use Rattle.wbt_trace.specs.declared.trace.Order.{Order}
use Rattle.wbt_trace.specs.declared.trace.Order.TheVariants as order
use Rattle.wbt_trace.specs.declared.trace.Pace.{Pace}
use Rattle.wbt_trace.specs.declared.trace.TaskLine.{TaskLine}
use Rattle.wbt_trace.specs.declared.trace.Trace.{Trace}

-- a line, without its line feed
abbrev pub line_text : (l : Line) → List ℕ
line_text l = kind_text (kind_of l) ++ 32 ∷ numbers_text (numbers_of l)

-- each line with a line feed at its end
abbrev pub lines_text : (lines : List Line) → List ℕ
lines_text [] = []
lines_text (l ∷ ls) = line_text l ++ 10 ∷ lines_text ls

-- the lines of things that are numbered from n on
abbrev pub numbered : {T : Type 0} (line_of : ℕ → T → Line) (n : ℕ) (things : List T) → List Line
numbered line_of n [] = []
numbered line_of n (x ∷ xs) = line_of n x ∷ numbered line_of (n + 1) xs

-- the line of one thing of each sort, by its number
abbrev pub avail_line : (n : ℕ) (a : Avail) → Line
avail_line n a = line.Avail a.from a.pages

-- a device's line: its rate, and its least and greatest share
abbrev pub device_line : (n : ℕ) (d : Device) → Line
device_line n d = line.Device n d.rate d.min d.max

-- the line of a strict device, by its number; no line of another
abbrev pub strict_line : (n : ℕ) (d : Device) → List Line
strict_line n d = if d.strict then line.Strict n ∷ [] else []

-- the lines of the strict ones among devices that are numbered from n on
abbrev pub strict_lines : (n : ℕ) (devices : List Device) → List Line
strict_lines n [] = []
strict_lines n (d ∷ ds) = strict_line n d ++ strict_lines (n + 1) ds

-- the line of a device's chunk, by the device's number; no line where it has none
abbrev pub chunk_line : (n : ℕ) (chunk : Option ℕ) → List Line
chunk_line n None = []
chunk_line n (Some pages) = line.Chunk n pages ∷ []

-- the lines of chunks, of devices that are numbered from n on
abbrev pub chunk_lines : (n : ℕ) (devices : List Device) → List Line
chunk_lines n [] = []
chunk_lines n (d ∷ ds) = chunk_line n d.chunk ++ chunk_lines (n + 1) ds

-- the line of a device whose scans go round, by its number; no line of another
abbrev pub cyclic_line : (n : ℕ) (d : Device) → List Line
cyclic_line n d = if d.cyclic then line.Cyclic n ∷ [] else []

-- the lines of those whose scans go round among devices that are numbered from n on
abbrev pub cyclic_lines : (n : ℕ) (devices : List Device) → List Line
cyclic_lines n [] = []
cyclic_lines n (d ∷ ds) = cyclic_line n d ++ cyclic_lines (n + 1) ds

-- a cgroup's line: its file pages and its headroom
abbrev pub cgroup_line : (n : ℕ) (g : Cgroup) → Line
cgroup_line n g = line.Cgroup n g.filepages g.headroom

-- a context's line: its device and its domain
abbrev pub context_line : (n : ℕ) (c : Context) → Line
context_line n c = line.Context n c.device c.domain

-- the line of when a context's inodes are due, by the context's number; no line where it doesn't say it
abbrev pub expire_line : (n : ℕ) (expire : Option ℕ) → List Line
expire_line n None = []
expire_line n (Some centi) = line.Expire n centi ∷ []

-- the lines of when inodes are due, of contexts that are numbered from n on
abbrev pub expire_lines : (n : ℕ) (contexts : List Context) → List Line
expire_lines n [] = []
expire_lines n (c ∷ cs) = expire_line n c.expire ++ expire_lines (n + 1) cs

-- the line of a context's first estimate, by the context's number; no line where it doesn't say it
abbrev pub estimate_line : (n : ℕ) (estimate : Option FirstEstimate) → List Line
estimate_line n None = []
estimate_line n (Some first) = line.Estimate n first.bandwidth first.average first.ratelimit ∷ []

-- the lines of first estimates, of contexts that are numbered from n on
abbrev pub estimate_lines : (n : ℕ) (contexts : List Context) → List Line
estimate_lines n [] = []
estimate_lines n (c ∷ cs) = estimate_line n c.estimate ++ estimate_lines (n + 1) cs

-- an inode's line: its context, and how many pages it has
abbrev pub inode_line : (n : ℕ) (i : Inode) → Line
inode_line n i = line.Inode n i.context i.pages

-- a task's line: its CPU
abbrev pub task_line : (n : ℕ) (t : TaskLine) → Line
task_line n t = line.Task n t.cpu

-- the line of when a task rests between its pages, by the task's number; no line where it doesn't say it
abbrev pub pace_line : (n : ℕ) (pace : Option Pace) → List Line
pace_line n None = []
pace_line n (Some pace) = line.Pace n pace.pages pace.ticks ∷ []

-- the lines of when tasks rest, of tasks that are numbered from n on
abbrev pub pace_lines : (n : ℕ) (tasks : List TaskLine) → List Line
pace_lines n [] = []
pace_lines n (t ∷ ts) = pace_line n t.pace ++ pace_lines (n + 1) ts

-- a flusher's line: its device and its CPU
abbrev pub flusher_line : (n : ℕ) (f : FlusherLine) → Line
flusher_line n f = line.Flusher n f.device f.cpu

-- an action's line, which has no number of its own
abbrev pub action_line : (n : ℕ) (done : Action) → Line
action_line n (action.Write task inode from pages) = line.Write task inode from pages
action_line n (action.Rest task ticks) = line.Rest task ticks

-- an order line, which has no number of its own
abbrev pub order_line : (n : ℕ) (forced : Order) → Line
order_line n (order.Steps cpu steps) = line.Order cpu steps
order_line n (order.Timer steps) = line.OrderTimer steps
order_line n (order.Tick ticks) = line.Tick ticks

-- the line of where a replay halts, where there is one
abbrev pub halt_lines : (halt : Option ℕ) → List Line
halt_lines None = []
halt_lines (Some steps) = line.Halt steps ∷ []

-- the lines that each trace has once
abbrev pub setting_lines : (trace : Trace) → List Line
setting_lines trace =
    line.Cpus trace.cpus ∷ line.Cap trace.cap ∷ line.DirtyRatio trace.settings.ratio ∷ line.BackgroundRatio trace.settings.bg_ratio
    ∷ line.DirtyBytes trace.settings.bytes ∷ line.BackgroundBytes trace.settings.bg_bytes ∷ []

-- The lines of a trace, in the order in which they are written.
unfoldable pub lines_of : (trace : Trace) → List Line
lines_of trace =
    setting_lines trace ++ numbered avail_line 0 trace.avail ++ numbered device_line 0 trace.devices ++ strict_lines 0 trace.devices
    ++ chunk_lines 0 trace.devices ++ cyclic_lines 0 trace.devices ++ numbered cgroup_line 1 trace.cgroups ++ numbered context_line 0 trace.contexts ++ expire_lines 0 trace.contexts
    ++ estimate_lines 0 trace.contexts ++ numbered inode_line 0 trace.inodes
    ++ numbered task_line 0 trace.tasks ++ pace_lines 0 trace.tasks ++ numbered flusher_line 0 trace.flushers ++ numbered action_line 0 trace.actions ++ numbered order_line 0 trace.order ++ halt_lines trace.halt

-- the text of a trace, as it is written
abbrev pub trace_text : (trace : Trace) → List ℕ
trace_text trace = lines_text (lines_of trace)
