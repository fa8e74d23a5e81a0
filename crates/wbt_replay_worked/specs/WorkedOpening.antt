-- Worked runs of machines without a device: what stands at the opening, and a run that is over with it.
use Rattle.std.specs.Prelude.{◌≡◌, ℕ, List, [], ◌∷◌, None, codes, ◌++◌}
use Rattle.wbt_num.specs.declared.limits.Settings.{Settings}
use Rattle.wbt_trace.specs.declared.trace.Order.TheVariants.{Timer, Tick}
use Rattle.wbt_trace.specs.declared.trace.Trace.{Trace}
use Rattle.wbt_replay_order.specs.Definition.Run.{journal_of}
use Rattle.wbt_journal.specs.Text.{journal_text}
use Rattle.wbt_replay_worked.specs.Worked.{no_settings}

-- ---- a task that has nothing to do

-- The task has ended at the opening, so the timer takes no turn: not by its order line either.
abbrev pub no_action_trace : Trace
no_action_trace = record {
  cpus = 1;
  cap = 1024;
  settings = no_settings;
  avail = (record { from = 0; pages = 1000 }) ∷ [];
  devices = [];
  cgroups = [];
  contexts = [];
  inodes = [];
  tasks = (record { cpu = 0; pace = None }) ∷ [];
  flushers = [];
  actions = [];
  order = Tick 200 ∷ Timer 5 ∷ [];
  halt = None;
}

-- what the timer did
abbrev pub no_action_timer : List ℕ
no_action_timer = codes "timer\nlimits 0 1 199 99 199\n"

-- what CPU 0 did
abbrev pub no_action_cpu_0 : List ℕ
no_action_cpu_0 = codes "cpu 0\n"

-- nothing is left; the sums, and how the run ended
abbrev pub no_action_end : List ℕ
no_action_end = codes "census 0 0\ntotals 0 0\nend done\n"

-- the ordered run of this trace has just this journal
unfoldable pub NoActionRun : Type 0
NoActionRun = journal_text (journal_of no_action_trace) ≡ no_action_timer ++ no_action_cpu_0 ++ no_action_end

-- ---- limits that are rounded

-- Threshold and background threshold are six pages and a byte each, and 100 pages are available.
abbrev pub odd_settings : Settings
odd_settings = record { ratio = 20; bg_ratio = 10; bytes = 24577; bg_bytes = 24577 }

-- one CPU and two cgroups, of 57 and of 99 pages
abbrev pub odd_limits_trace : Trace
odd_limits_trace = record {
  cpus = 1;
  cap = 1024;
  settings = odd_settings;
  avail = (record { from = 0; pages = 100 }) ∷ [];
  devices = [];
  cgroups = (record { filepages = 50; headroom = 7 }) ∷ (record { filepages = 9; headroom = 90 }) ∷ [];
  contexts = [];
  inodes = [];
  tasks = [];
  flushers = [];
  actions = [];
  order = [];
  halt = None;
}

-- The threshold is 7 pages. The background threshold is not below it, so it is half of that, rounded down. In 4096ths, rounded up,
-- both are 246 of what is available, and of a cgroup so much of its own pages: of 57, and of 99.
abbrev pub odd_limits_timer : List ℕ
odd_limits_timer = codes "timer\nlimits 0 1 7 3 7\nlimits 1 1 3 1 3\nlimits 2 1 5 2 5\n"

-- what CPU 0 did
abbrev pub odd_limits_cpu_0 : List ℕ
odd_limits_cpu_0 = codes "cpu 0\n"

-- nothing is left; the sums, and how the run ended
abbrev pub odd_limits_end : List ℕ
odd_limits_end = codes "census 0 0\ntotals 0 0\nend done\n"

-- the ordered run of this trace has just this journal
unfoldable pub OddLimitsRun : Type 0
OddLimitsRun = journal_text (journal_of odd_limits_trace) ≡ odd_limits_timer ++ odd_limits_cpu_0 ++ odd_limits_end
