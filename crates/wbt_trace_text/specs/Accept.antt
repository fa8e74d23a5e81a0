-- A line is taken after the lines before it, or refused by the lowest fault that it has.
use Rattle.std.specs.Prelude.{ℕ, ◌+◌, Bool, false, ◌||◌, if◌then◌else◌, ◌==◌, nat_lt, nat_le, [], ◌∷◌, ◌++◌, length, Option, Some, None, is_some, is_none, unwrap_or, Result, Ok, Err}
use Rattle.wbt_num.specs.declared.most.TheConstants.{MOST_ACTIONS, MOST_AVAIL_LINES, MOST_CAP, MOST_CGROUPS, MOST_CONTEXTS, MOST_CPUS, MOST_DEVICES, MOST_FLUSHERS, MOST_INODES, MOST_ORDER_LINES, MOST_PAGES, MOST_TASKS, MOST_WRITERS}
use Rattle.wbt_trace.specs.Sofar.{Sofar, last_from, least_shares, device_at, with_strict, with_chunk, with_cyclic, task_at, with_pace, context_at, with_expire, with_estimate, pages_in, inode_at}
use Rattle.wbt_trace.specs.WriterList.{with_writer}
use Rattle.wbt_trace_text.specs.declared.fault.Refusal.{Refusal}
use Rattle.wbt_trace_text.specs.declared.fault.Refusal.TheVariants.{UnknownName, Twice, OutOfRange, Limit}
use Rattle.wbt_trace_text.specs.declared.line.Line.{Line}
use Rattle.wbt_trace_text.specs.declared.line.Line.TheVariants as line
use Rattle.wbt_trace.specs.declared.trace.Action.TheVariants as action
use Rattle.wbt_trace.specs.declared.trace.Order.TheVariants as order
use Rattle.wbt_trace.specs.declared.ranges.TheConstants.{MOST_AVAIL_PAGES, MOST_COUNT, MOST_DEVICE_RATE, MOST_EXPIRE, MOST_FIRST_RATE, MOST_PERCENT, MOST_SETTING_BYTES}

-- the line names a thing that no earlier line declares
abbrev pub is_unknown : (l : Line) (s : Sofar) → Bool
is_unknown (line.Strict d) s = nat_le (length s.devices) d
is_unknown (line.Chunk d pages) s = nat_le (length s.devices) d
is_unknown (line.Cyclic d) s = nat_le (length s.devices) d
is_unknown (line.Context w device domain) s = nat_le (length s.devices) device || nat_lt (length s.cgroups) domain
is_unknown (line.Expire w centi) s = nat_le (length s.contexts) w
is_unknown (line.Estimate w bandwidth average ratelimit) s = nat_le (length s.contexts) w
is_unknown (line.Inode i context pages) s = nat_le (length s.contexts) context
is_unknown (line.Task t cpu) s = is_none s.cpus
is_unknown (line.Pace t pages ticks) s = nat_le (length s.tasks) t
is_unknown (line.Flusher f device cpu) s = is_none s.cpus || nat_le (length s.devices) device
is_unknown (line.Write task inode from pages) s = nat_le (length s.tasks) task || nat_le (length s.inodes) inode
is_unknown (line.Rest task ticks) s = nat_le (length s.tasks) task
is_unknown (line.Order cpu steps) s = is_none s.cpus
is_unknown other s = false

-- the line says what an earlier line has said: its number is below the next one, it stands once, its device is strict, has a chunk or
-- goes round already, or it is said already after how long its context's inodes are due, what its context's first estimate is, or when its
-- task rests between its pages
abbrev pub is_twice : (l : Line) (s : Sofar) → Bool
is_twice (line.Cpus cpus) s = is_some s.cpus
is_twice (line.Cap pages) s = is_some s.cap
is_twice (line.DirtyRatio percent) s = is_some s.ratio
is_twice (line.BackgroundRatio percent) s = is_some s.bg_ratio
is_twice (line.DirtyBytes bytes) s = is_some s.bytes
is_twice (line.BackgroundBytes bytes) s = is_some s.bg_bytes
is_twice (line.Device d rate min max) s = nat_lt d (length s.devices)
is_twice (line.Strict d) s = (device_at d s.devices).strict
is_twice (line.Chunk d pages) s = is_some (device_at d s.devices).chunk
is_twice (line.Cyclic d) s = (device_at d s.devices).cyclic
is_twice (line.Cgroup g filepages headroom) s = nat_le g (length s.cgroups)
is_twice (line.Context w device domain) s = nat_lt w (length s.contexts)
is_twice (line.Expire w centi) s = is_some (context_at w s.contexts).expire
is_twice (line.Estimate w bandwidth average ratelimit) s = is_some (context_at w s.contexts).estimate
is_twice (line.Inode i context pages) s = nat_lt i (length s.inodes)
is_twice (line.Task t cpu) s = nat_lt t (length s.tasks)
is_twice (line.Pace t pages ticks) s = is_some (task_at t s.tasks).pace
is_twice (line.Flusher f device cpu) s = nat_lt f (length s.flushers)
is_twice (line.Halt steps) s = is_some s.halt
is_twice other s = false

-- not from 1 to the most ticks or steps
abbrev pub is_no_count : (n : ℕ) → Bool
is_no_count n = n == 0 || nat_lt MOST_COUNT n

-- not a rate that a first estimate may say
abbrev pub is_no_rate : (rate : ℕ) → Bool
is_no_rate rate = rate == 0 || nat_lt MOST_FIRST_RATE rate

-- the first tick is 0, and each other one is above the one before
abbrev pub is_too_early : (tick : ℕ) (last : Option ℕ) → Bool
is_too_early tick None = nat_lt 0 tick
is_too_early tick (Some last) = nat_le tick last

-- a number of the line is out of its range, or is above the next one
abbrev pub is_out_of_range : (l : Line) (s : Sofar) → Bool
is_out_of_range (line.Cpus cpus) s = cpus == 0 || nat_lt MOST_CPUS cpus
is_out_of_range (line.Cap pages) s = pages == 0 || nat_lt MOST_CAP pages
is_out_of_range (line.DirtyRatio percent) s = nat_lt MOST_PERCENT percent
is_out_of_range (line.BackgroundRatio percent) s = nat_lt MOST_PERCENT percent
is_out_of_range (line.DirtyBytes bytes) s = nat_lt MOST_SETTING_BYTES bytes
is_out_of_range (line.BackgroundBytes bytes) s = nat_lt MOST_SETTING_BYTES bytes
is_out_of_range (line.Avail from pages) s = is_too_early from (last_from s.avail) || nat_lt MOST_COUNT from || nat_lt MOST_AVAIL_PAGES pages
is_out_of_range (line.Device d rate min max) s =
    nat_lt (length s.devices) d || rate == 0 || nat_lt MOST_DEVICE_RATE rate || nat_lt max min || nat_lt MOST_PERCENT max || nat_lt MOST_PERCENT (least_shares s.devices + min)
is_out_of_range (line.Chunk d pages) s = pages == 0 || nat_lt MOST_PAGES pages
is_out_of_range (line.Cgroup g filepages headroom) s = nat_lt (length s.cgroups + 1) g || nat_lt MOST_AVAIL_PAGES filepages || nat_lt MOST_AVAIL_PAGES headroom
is_out_of_range (line.Context w device domain) s = nat_lt (length s.contexts) w
is_out_of_range (line.Expire w centi) s = centi == 0 || nat_lt MOST_EXPIRE centi
is_out_of_range (line.Estimate w bandwidth average ratelimit) s = is_no_rate bandwidth || is_no_rate average || is_no_rate ratelimit
is_out_of_range (line.Inode i context pages) s = nat_lt (length s.inodes) i || pages == 0 || nat_lt MOST_PAGES pages
is_out_of_range (line.Task t cpu) s = nat_lt (length s.tasks) t || nat_le (unwrap_or s.cpus 0) cpu
is_out_of_range (line.Pace t pages ticks) s = pages == 0 || nat_lt MOST_PAGES pages || is_no_count ticks
is_out_of_range (line.Flusher f device cpu) s = nat_lt (length s.flushers) f || nat_le (unwrap_or s.cpus 0) cpu
is_out_of_range (line.Write task inode from pages) s = pages == 0 || nat_lt (inode_at inode s.inodes).pages (from + pages)
is_out_of_range (line.Rest task ticks) s = is_no_count ticks
is_out_of_range (line.Order cpu steps) s = nat_le (unwrap_or s.cpus 0) cpu || is_no_count steps
is_out_of_range (line.OrderTimer steps) s = is_no_count steps
is_out_of_range (line.Tick ticks) s = is_no_count ticks
is_out_of_range (line.Halt steps) s = nat_lt MOST_COUNT steps
is_out_of_range other s = false

-- the line makes more things than a trace may have
abbrev pub is_over_limit : (l : Line) (s : Sofar) → Bool
is_over_limit (line.Avail from pages) s = nat_le MOST_AVAIL_LINES (length s.avail)
is_over_limit (line.Device d rate min max) s = nat_le MOST_DEVICES (length s.devices)
is_over_limit (line.Cgroup g filepages headroom) s = nat_le MOST_CGROUPS (length s.cgroups)
is_over_limit (line.Context w device domain) s = nat_le MOST_CONTEXTS (length s.contexts)
is_over_limit (line.Inode i context pages) s = nat_le MOST_INODES (length s.inodes) || nat_lt MOST_PAGES (pages_in s.inodes + pages)
is_over_limit (line.Task t cpu) s = nat_le MOST_TASKS (length s.tasks)
is_over_limit (line.Flusher f device cpu) s = nat_le MOST_FLUSHERS (length s.flushers)
is_over_limit (line.Write task inode from pages) s =
    nat_le MOST_ACTIONS (length s.actions) || nat_lt MOST_WRITERS (length (with_writer task (inode_at inode s.inodes).context s.writers))
is_over_limit (line.Rest task ticks) s = nat_le MOST_ACTIONS (length s.actions)
is_over_limit (line.Order cpu steps) s = nat_le MOST_ORDER_LINES (length s.order)
is_over_limit (line.OrderTimer steps) s = nat_le MOST_ORDER_LINES (length s.order)
is_over_limit (line.Tick ticks) s = nat_le MOST_ORDER_LINES (length s.order)
is_over_limit other s = false

-- what has been said after the line
abbrev pub after : (l : Line) (s : Sofar) → Sofar
after (line.Cpus cpus) s = record s { cpus = Some cpus }
after (line.Cap pages) s = record s { cap = Some pages }
after (line.DirtyRatio percent) s = record s { ratio = Some percent }
after (line.BackgroundRatio percent) s = record s { bg_ratio = Some percent }
after (line.DirtyBytes bytes) s = record s { bytes = Some bytes }
after (line.BackgroundBytes bytes) s = record s { bg_bytes = Some bytes }
after (line.Avail from pages) s = record s { avail = s.avail ++ (record { from = from; pages = pages }) ∷ [] }
after (line.Device d rate min max) s = record s { devices = s.devices ++ (record { rate = rate; min = min; max = max; strict = false; chunk = None; cyclic = false }) ∷ [] }
after (line.Strict d) s = record s { devices = with_strict d s.devices }
after (line.Chunk d pages) s = record s { devices = with_chunk d pages s.devices }
after (line.Cyclic d) s = record s { devices = with_cyclic d s.devices }
after (line.Cgroup g filepages headroom) s = record s { cgroups = s.cgroups ++ (record { filepages = filepages; headroom = headroom }) ∷ [] }
after (line.Context w device domain) s = record s { contexts = s.contexts ++ (record { device = device; domain = domain; expire = None; estimate = None }) ∷ [] }
after (line.Expire w centi) s = record s { contexts = with_expire w centi s.contexts }
after (line.Estimate w bandwidth average ratelimit) s = record s {
  contexts = with_estimate w (record { bandwidth = bandwidth; average = average; ratelimit = ratelimit }) s.contexts;
}
after (line.Inode i context pages) s = record s { inodes = s.inodes ++ (record { context = context; first = pages_in s.inodes; pages = pages }) ∷ [] }
after (line.Task t cpu) s = record s { tasks = s.tasks ++ (record { cpu = cpu; pace = None }) ∷ [] }
after (line.Pace t pages ticks) s = record s { tasks = with_pace t (record { pages = pages; ticks = ticks }) s.tasks }
after (line.Flusher f device cpu) s = record s { flushers = s.flushers ++ (record { device = device; cpu = cpu }) ∷ [] }
after (line.Write task inode from pages) s = record s {
  actions = s.actions ++ action.Write task inode from pages ∷ [];
  writers = with_writer task (inode_at inode s.inodes).context s.writers;
}
after (line.Rest task ticks) s = record s { actions = s.actions ++ action.Rest task ticks ∷ [] }
after (line.Order cpu steps) s = record s { order = s.order ++ order.Steps cpu steps ∷ [] }
after (line.OrderTimer steps) s = record s { order = s.order ++ order.Timer steps ∷ [] }
after (line.Tick ticks) s = record s { order = s.order ++ order.Tick ticks ∷ [] }
after (line.Halt steps) s = record s { halt = Some steps }

-- what is refused where a test holds
abbrev pub unless : (test : Bool) (refusal : Refusal) (more : Result Sofar Refusal) → Result Sofar Refusal
unless test refusal more = if test then Err refusal else more

-- The line is taken, or the lowest fault that it has is named.
abbrev pub accept : (l : Line) (s : Sofar) → Result Sofar Refusal
accept l s =
    unless (is_unknown l s) UnknownName
    (unless (is_twice l s) Twice (unless (is_out_of_range l s) OutOfRange (unless (is_over_limit l s) Limit (Ok (after l s)))))
