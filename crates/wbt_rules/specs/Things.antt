-- What a trace says of its things by number.
use Rattle.std.specs.Prelude.{ℕ, suc, ◌+◌, ◌*◌, ◌/◌, ◌<◌, Bool, false, ◌==◌, if◌then◌else◌, List, [], ◌∷◌, length, get_or, None}
use Rattle.wbt_flex.specs.declared.share.Fraction.{Fraction}
use Rattle.wbt_trace.specs.declared.trace.Context.{Context}
use Rattle.wbt_trace.specs.declared.trace.Device.{Device}
use Rattle.wbt_trace.specs.declared.trace.FlusherLine.{FlusherLine}
use Rattle.wbt_trace.specs.declared.trace.Inode.{Inode}
use Rattle.wbt_trace.specs.declared.trace.Trace.{Trace}

-- the global domain, and one for each cgroup
abbrev pub domains : (trace : Trace) → ℕ
domains trace = suc (length trace.cgroups)

-- an inode and a context by number, of these
abbrev pub inode_in : (inodes : List Inode) (inode : ℕ) → Inode
inode_in inodes inode = get_or inodes inode (record { context = 0; first = 0; pages = 0 })

-- a context by number, of these
abbrev pub context_in : (contexts : List Context) (context : ℕ) → Context
context_in contexts context = get_or contexts context (record { device = 0; domain = 0; expire = None; estimate = None })

-- an inode of the trace by number
abbrev pub inode_of : (trace : Trace) (inode : ℕ) → Inode
inode_of trace inode = inode_in trace.inodes inode

-- the inode's context
abbrev pub context_of : (trace : Trace) (inode : ℕ) → ℕ
context_of trace inode = (inode_of trace inode).context

-- the number of the page after the inode's last
abbrev pub inode_end : (inode : Inode) → ℕ
inode_end inode = inode.first + inode.pages

-- the number of the page after an inode's last, by the inode's number
abbrev pub end_of : (trace : Trace) (inode : ℕ) → ℕ
end_of trace inode = inode_end (inode_of trace inode)

-- a context of the trace by number
abbrev pub context_at : (trace : Trace) (context : ℕ) → Context
context_at trace context = context_in trace.contexts context

-- the context's cgroup, 0 where it has none
abbrev pub group_of : (trace : Trace) (context : ℕ) → ℕ
group_of trace context = (context_at trace context).domain

-- the device of the inode's context
abbrev pub device_of : (trace : Trace) (inode : ℕ) → ℕ
device_of trace inode = (context_at trace (context_of trace inode)).device

-- the device of a flusher
abbrev pub flusher_device : (trace : Trace) (flusher : ℕ) → ℕ
flusher_device trace flusher = (get_or trace.flushers flusher (record { device = 0; cpu = 0 })).device

-- the CPU of a flusher
abbrev pub flusher_cpu : (trace : Trace) (flusher : ℕ) → ℕ
flusher_cpu trace flusher = (get_or trace.flushers flusher (record { device = 0; cpu = 0 })).cpu

-- the number of a device's first flusher, where these have the numbers from one on; 0 where it has none
abbrev pub first_flusher : (device number : ℕ) (flushers : List FlusherLine) → ℕ
first_flusher device number [] = 0
first_flusher device number (flusher ∷ more) = if flusher.device == device then number else first_flusher device (number + 1) more

-- the flusher is the first of its device: it updates the estimates
abbrev pub leads : (trace : Trace) (flusher : ℕ) → Bool
leads trace flusher = first_flusher (flusher_device trace flusher) 0 trace.flushers == flusher

-- a device of the trace by number
abbrev pub device_at : (trace : Trace) (device : ℕ) → Device
device_at trace device = get_or trace.devices device (record { rate = 1; min = 0; max = 100; strict = false; chunk = None; cyclic = false })

-- how many pages the device writes in a second
abbrev pub rate_of : (trace : Trace) (device : ℕ) → ℕ
rate_of trace device = (device_at trace device).rate

-- the greatest share of a device, in 1024ths
abbrev pub greatest_share : (device : Device) → ℕ
greatest_share device = 1024 * device.max / 100

-- a part is above the greatest share of its device, in percent
abbrev pub IsAbove : (part : Fraction) (device : Device) → Type 0
IsAbove part device = part.den * device.max < part.num * 100

-- that of the context's device
abbrev pub max_share : (trace : Trace) (context : ℕ) → ℕ
max_share trace context = greatest_share (device_at trace (context_at trace context).device)
