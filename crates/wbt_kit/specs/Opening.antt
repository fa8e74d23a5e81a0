-- What a trace asks for at the opening: first limits, the layout of the throttle, and what each context and each device gets.
use Rattle.std.specs.Prelude.{ℕ, zero, suc, Bool, ◌==◌, max, if◌then◌else◌, List, [], ◌∷◌, ◌++◌, length, map, get_or, count_by, None}
use Rattle.wbt_num.specs.declared.limits.Limits.{Limits}
use Rattle.wbt_num.specs.declared.most.TheConstants.{MOST_PAGE_STEPS}
use Rattle.wbt_trace.specs.declared.trace.Context.{Context}
use Rattle.wbt_trace.specs.declared.trace.FlusherLine.{FlusherLine}
use Rattle.wbt_trace.specs.declared.trace.Inode.{Inode}
use Rattle.wbt_trace.specs.declared.trace.Trace.{Trace}
use Rattle.wbt_trace.specs.declared.writers.Writer.{Writer}
use Rattle.wbt_journal.specs.Machine.{domains}
use Rattle.wbt_journal.specs.Side.{all_writers}
use Rattle.wbt_rules.specs.Things.{context_at}
use Rattle.wbt_rules.specs.Thresholds.{first_limits}
use Rattle.wbt_table.specs.declared.layout.Layout.{Layout}
use Rattle.wbt_table.specs.declared.layout.Place.{Place}
use Rattle.wbt_table.specs.declared.layout.Writer.{Writer as Seated}

-- ---- limits

-- the first limits of so many domains
abbrev pub firsts_of : (trace : Trace) (now count : ℕ) → List Limits
firsts_of trace now zero = []
firsts_of trace now (suc n) = firsts_of trace now n ++ first_limits trace now n ∷ []

-- ---- the throttle

-- the CPU of a task
abbrev pub cpu_of : (trace : Trace) (task : ℕ) → ℕ
cpu_of trace task = (get_or trace.tasks task (record { cpu = 0; pace = None })).cpu

-- an inode's place in the throttle's layout: its context, its first page and how many it has
abbrev pub place_of : (inode : Inode) → Place
place_of inode = record { context = inode.context; first = inode.first; pages = inode.pages }

-- a writer in the throttle's layout: its task's CPU, and its context
abbrev pub seated : (trace : Trace) (writer : Writer) → Seated
seated trace writer = record { cpu = cpu_of trace writer.task; context = writer.context }

-- the domain of each context
abbrev pub homes_of : (trace : Trace) → List ℕ
homes_of trace = map (λ (context : Context). context.domain) trace.contexts

-- the layout of the throttle that a trace asks for
abbrev pub layout_of : (trace : Trace) (now : ℕ) → Layout
layout_of trace now = record {
  cpus = trace.cpus;
  cap = trace.cap;
  firsts = firsts_of trace now (domains trace);
  contexts = homes_of trace;
  inodes = map place_of trace.inodes;
  writers = map (seated trace) (all_writers trace);
  page_steps = MOST_PAGE_STEPS;
}

-- ---- devices

-- the CPU of the first flusher of a device
abbrev pub first_cpu : (device : ℕ) (flushers : List FlusherLine) → ℕ
first_cpu device [] = 0
first_cpu device (flusher ∷ more) = if flusher.device == device then flusher.cpu else first_cpu device more

-- of each context's device
abbrev pub owners_of : (trace : Trace) → List ℕ
owners_of trace = map (λ (context : Context). first_cpu context.device trace.flushers) trace.contexts

-- the inode's pages lie on the device
abbrev pub is_on : (trace : Trace) (device : ℕ) (inode : Inode) → Bool
is_on trace device inode = (context_at trace inode.context).device == device

-- how many inodes lie on a device
abbrev pub inodes_on : (trace : Trace) (device : ℕ) → ℕ
inodes_on trace device = count_by (is_on trace device) trace.inodes

-- as many numbers as the queues of so many devices hold
abbrev pub sizes_of : (trace : Trace) (count : ℕ) → List ℕ
sizes_of trace zero = []
sizes_of trace (suc n) = sizes_of trace n ++ max (inodes_on trace n) 1 ∷ []

-- as many numbers as the queue of each device holds
abbrev pub queue_sizes : (trace : Trace) → List ℕ
queue_sizes trace = sizes_of trace (length trace.devices)
