-- What two small runs have in common: a machine with one device, one context, one inode and one writer.
use Rattle.std.specs.Prelude.{ℕ, zero, suc, Bool, false, None, List, [], ◌∷◌, pos}
use Rattle.wbt_grant.specs.Example.{plain}
use Rattle.wbt_grant.specs.Setting.{Setting}
use Rattle.wbt_grant.specs.State.{opening}
use Rattle.wbt_num.specs.declared.limits.Limits.{Limits}
use Rattle.wbt_num.specs.declared.limits.TheConstants.{LAST_SEQUENCE}
use Rattle.wbt_pause.specs.declared.decision.Kind.TheVariants as kind
use Rattle.wbt_published.specs.declared.known.Known.{Known}
use Rattle.wbt_counter.specs.declared.counter.Count.{Count}
use Rattle.wbt_estimate.specs.declared.estimate.Estimate.{Estimate}
use Rattle.wbt_fraction.specs.declared.domain.note.Note.{Note}
use Rattle.wbt_trace.specs.declared.trace.Action.TheVariants as action
use Rattle.wbt_trace.specs.declared.trace.Trace.{Trace}
use Rattle.wbt_journal.specs.Machine.{contexts, pages, context_domain}
use Rattle.wbt_journal.specs.Walk.{after}
use Rattle.wbt_journal.specs.Timer.{lines_after}
use Rattle.wbt_journal.specs.declared.entry.CheckEntry.{CheckEntry}
use Rattle.wbt_run_laws.specs.Closed.{opening_lines}
use Rattle.wbt_run_laws.specs.Notes.{no_fraction, Notes}
use Rattle.wbt_run_laws.specs.Ticks.{Ticked}

-- a hundred pages are available
abbrev pub first_limits : Limits
first_limits = record { thresh = 39; bg = 19; hard = 39 }

-- one task on the first CPU writes each page once, and a flusher is on some CPU
abbrev pub small_trace : (cpus cap size flusher_on : ℕ) → Trace
small_trace cpus cap size flusher_on = record {
  cpus = cpus;
  cap = cap;
  settings = record { ratio = 40; bg_ratio = 20; bytes = 0; bg_bytes = 0 };
  avail = record { from = 0; pages = 100 } ∷ [];
  devices = record { rate = 100; min = 0; max = 100; strict = false; chunk = None; cyclic = false } ∷ [];
  cgroups = [];
  contexts = record { device = 0; domain = 0; expire = None; estimate = None } ∷ [];
  inodes = record { context = 0; first = 0; pages = size } ∷ [];
  tasks = record { cpu = 0; pace = None } ∷ [];
  flushers = record { device = 0; cpu = flusher_on } ∷ [];
  actions = action.Write 0 0 0 size ∷ [];
  order = [];
  halt = None;
}

-- the throttle of a small trace, with the same first limits in each domain
abbrev pub small_setting : (trace : Trace) → Setting
small_setting trace = record {
  cpus = trace.cpus;
  cap = trace.cap;
  page_steps = 100;
  last_sequence = LAST_SEQUENCE;
  firsts = λ d. first_limits;
  contexts = contexts trace;
  group = λ k. context_domain trace k;
  pages = pages trace;
  home = λ p. 0;
  inode = λ p. 0;
  writers = 1;
  seat = λ w. 0;
  works_in = λ w. 0;
  coding = plain;
}

-- a check that lets its writer go on, with so many pages, by the first estimate and the fraction before the first read
abbrev pub free_check : (now left : ℕ) (count : Count) → CheckEntry
free_check now left count = record {
  task = 0;
  context = 0;
  now = now;
  global = record { domain = 0; triple = 0; limits = first_limits; count = record { version = 0; value = pos 0 }; share = no_fraction };
  cgroup = None;
  count = count;
  estimate = 0;
  decision = record { kind = kind.Free; pause = 0; left = left; task = record { nr_dirtied = 0; nr_dirtied_pause = 4; paused_when = now }; exceeded = false };
}

-- ---- notes

-- of the first domain and of the first context alone
abbrev pub of_first : {A : Type 0} (value other : A) (number : ℕ) → A
of_first value other zero = value
of_first value other (suc number) = other

-- what a pass knows of a context's estimates: all of them, those that were read, and the greatest version seen
abbrev pub knows : (publishes : Bool) (all reads : List Estimate) (seen : ℕ) → Known
knows publishes all reads seen = record { publishes = publishes; all = all; reads = reads; seen = seen }

-- what a pass knows of a context that isn't there
abbrev pub knows_nothing : Known
knows_nothing = knows false [] [] 0

-- a CPU that publishes or doesn't, and has noted this
abbrev pub notes_of : (shares : List Note) (known : Known) → Notes
notes_of shares known = record { shares = of_first shares []; kept = λ domain context. no_fraction; estimates = of_first known knows_nothing }

-- the timer at the opening
abbrev pub timer_opened : (trace : Trace) → Ticked
timer_opened trace = record {
  held = (opening (small_setting trace)).timer;
  lines = after lines_after [] (opening_lines trace 1 (λ d. first_limits));
  shares = λ d. [];
}
