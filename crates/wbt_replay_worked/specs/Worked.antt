-- Worked runs: the text of the journal of a trace, in full.
use Rattle.std.specs.Prelude.{◌≡◌, ℕ, List, [], ◌∷◌, None, codes, ◌++◌, false}
use Rattle.wbt_num.specs.declared.limits.Settings.{Settings}
use Rattle.wbt_trace.specs.declared.trace.Action.{Action}
use Rattle.wbt_trace.specs.declared.trace.Action.TheVariants.{Write}
use Rattle.wbt_trace.specs.declared.trace.Order.TheVariants.{Steps}
use Rattle.wbt_trace.specs.declared.trace.Trace.{Trace}
use Rattle.wbt_replay_order.specs.Definition.Run.{journal_of}
use Rattle.wbt_journal.specs.Text.{journal_text}

-- the settings that hold where a trace gives none: 20 and 10 percent
abbrev pub no_settings : Settings
no_settings = record { ratio = 20; bg_ratio = 10; bytes = 0; bg_bytes = 0 }

-- One CPU, which runs a task and the flusher of a disk that writes 25600 pages a second. 100000 pages are available, and the
-- inode has so many.
abbrev pub small : (pages : ℕ) (actions : List Action) → Trace
small pages actions = record {
  cpus = 1;
  cap = 1024;
  settings = no_settings;
  avail = (record { from = 0; pages = 100000 }) ∷ [];
  devices = (record { rate = 25600; min = 0; max = 100; strict = false; chunk = None; cyclic = false }) ∷ [];
  cgroups = [];
  contexts = (record { device = 0; domain = 0; expire = None; estimate = None }) ∷ [];
  inodes = (record { context = 0; first = 0; pages = pages }) ∷ [];
  tasks = (record { cpu = 0; pace = None }) ∷ [];
  flushers = (record { device = 0; cpu = 0 }) ∷ [];
  actions = actions;
  order = [];
  halt = None;
}

-- ---- nothing is written

-- a task that does nothing
abbrev pub empty_trace : Trace
empty_trace = small 2 []

-- the limits of the opening, and no step
abbrev pub empty_text : List ℕ
empty_text = codes "timer\nlimits 0 1 19995 9985 19995\ncpu 0\ncensus 0 0\ntotals 0 0\nend done\n"

-- the ordered run of this trace has just this journal
unfoldable pub EmptyRun : Type 0
EmptyRun = journal_text (journal_of empty_trace) ≡ empty_text

-- ---- two pages are written

-- a task writes the two pages of an inode
abbrev pub two_pages_trace : Trace
two_pages_trace = small 2 (Write 0 0 0 2 ∷ [])

-- what the timer and the CPU did
abbrev pub two_pages_parts : List ℕ
two_pages_parts = codes "timer\nlimits 0 1 19995 9985 19995\ncpu 0\nwrite 0 0 fresh\nwrite 0 1 fresh\nclaim 0 0\nclaim 0 1\nbatch 0 2 1 2\ndone 0 0\ndone 0 1\nshare 0 0 2\n"

-- The bound is the threshold, a batch of 32 pages, the cap of one writer and twice the error of 8 pages:
-- 19995 + 32 + 1024 + 16.
abbrev pub two_pages_steps : List ℕ
two_pages_steps = codes "steps\nstep 1 0 dirty 1 21067\nstep 2 0 add 1 21067\nstep 3 0 add 1 21067\nstep 4 0 mark 1 21067\nstep 5 0 first 1 21067\nstep 6 0 middle 1 21067\nstep 7 0 limits 1 21067\nstep 8 0 count 1 21067\nstep 9 0 dirty 2 21067\nstep 10 0 add 2 21067\nstep 11 0 add 2 21067\nstep 12 0 mark 2 21067\nstep 13 0 unmark 2 21067\nstep 14 0 look 2 21067\nstep 15 0 claim 2 21067\nstep 16 0 look 2 21067\nstep 17 0 claim 2 21067\nstep 18 0 complete 1 21067\nstep 19 0 add 1 21067\nstep 20 0 add 1 21067\nstep 21 0 complete 0 21067\nstep 22 0 add 0 21067\nstep 23 0 add 0 21067\n"

-- nothing is left; the sums, and how the run ended
abbrev pub two_pages_end : List ℕ
two_pages_end = codes "census 0 0\ntotals 2 2\nend done\n"

-- the ordered run of this trace has just this journal
unfoldable pub TwoPagesRun : Type 0
TwoPagesRun = journal_text (journal_of two_pages_trace) ≡ two_pages_parts ++ two_pages_steps ++ two_pages_end

-- ---- eight pages are written

-- a task writes the eight pages of an inode
abbrev pub eight_pages_trace : Trace
eight_pages_trace = small 8 (Write 0 0 0 8 ∷ [])

-- what the timer and the CPU did
abbrev pub eight_pages_parts : List ℕ
eight_pages_parts = codes "timer\nlimits 0 1 19995 9985 19995\ncpu 0\nwrite 0 0 fresh\nwrite 0 1 fresh\nwrite 0 2 fresh\nwrite 0 3 fresh\nwrite 0 4 fresh\nwrite 0 5 fresh\nwrite 0 6 fresh\nwrite 0 7 fresh\nfold c0 1 8\nclaim 0 0\nclaim 0 1\nclaim 0 2\nclaim 0 3\nclaim 0 4\nclaim 0 5\nclaim 0 6\nclaim 0 7\nbatch 0 8 1 2\ndone 0 0\ndone 0 1\ndone 0 2\ndone 0 3\ndone 0 4\ndone 0 5\ndone 0 6\ndone 0 7\nfold c0 2 -8\nshare 0 0 8\n"

-- The context's counter has a batch of 8 pages: it is folded after the eighth write, and after the eighth completion.
abbrev pub eight_pages_steps : List ℕ
eight_pages_steps = codes "steps\nstep 1 0 dirty 1 21067\nstep 2 0 add 1 21067\nstep 3 0 add 1 21067\nstep 4 0 mark 1 21067\nstep 5 0 first 1 21067\nstep 6 0 middle 1 21067\nstep 7 0 limits 1 21067\nstep 8 0 count 1 21067\nstep 9 0 dirty 2 21067\nstep 10 0 add 2 21067\nstep 11 0 add 2 21067\nstep 12 0 mark 2 21067\nstep 13 0 dirty 3 21067\nstep 14 0 add 3 21067\nstep 15 0 add 3 21067\nstep 16 0 mark 3 21067\nstep 17 0 dirty 4 21067\nstep 18 0 add 4 21067\nstep 19 0 add 4 21067\nstep 20 0 mark 4 21067\nstep 21 0 dirty 5 21067\nstep 22 0 add 5 21067\nstep 23 0 add 5 21067\nstep 24 0 mark 5 21067\nstep 25 0 dirty 6 21067\nstep 26 0 add 6 21067\nstep 27 0 add 6 21067\nstep 28 0 mark 6 21067\nstep 29 0 dirty 7 21067\nstep 30 0 add 7 21067\nstep 31 0 add 7 21067\nstep 32 0 mark 7 21067\nstep 33 0 dirty 8 21067\nstep 34 0 add 8 21067\nstep 35 0 fold 8 21067\nstep 36 0 clear 8 21067\nstep 37 0 add 8 21067\nstep 38 0 mark 8 21067\nstep 39 0 unmark 8 21067\nstep 40 0 look 8 21067\nstep 41 0 claim 8 21067\nstep 42 0 look 8 21067\nstep 43 0 claim 8 21067\nstep 44 0 look 8 21067\nstep 45 0 claim 8 21067\nstep 46 0 look 8 21067\nstep 47 0 claim 8 21067\nstep 48 0 look 8 21067\nstep 49 0 claim 8 21067\nstep 50 0 look 8 21067\nstep 51 0 claim 8 21067\nstep 52 0 look 8 21067\nstep 53 0 claim 8 21067\nstep 54 0 look 8 21067\nstep 55 0 claim 8 21067\nstep 56 0 complete 7 21067\nstep 57 0 add 7 21067\nstep 58 0 add 7 21067\nstep 59 0 complete 6 21067\nstep 60 0 add 6 21067\nstep 61 0 add 6 21067\nstep 62 0 complete 5 21067\nstep 63 0 add 5 21067\nstep 64 0 add 5 21067\nstep 65 0 complete 4 21067\nstep 66 0 add 4 21067\nstep 67 0 add 4 21067\nstep 68 0 complete 3 21067\nstep 69 0 add 3 21067\nstep 70 0 add 3 21067\nstep 71 0 complete 2 21067\nstep 72 0 add 2 21067\nstep 73 0 add 2 21067\nstep 74 0 complete 1 21067\nstep 75 0 add 1 21067\nstep 76 0 add 1 21067\nstep 77 0 complete 0 21067\nstep 78 0 add 0 21067\nstep 79 0 fold 0 21067\nstep 80 0 clear 0 21067\nstep 81 0 add 0 21067\n"

-- nothing is left; the sums, and how the run ended
abbrev pub eight_pages_end : List ℕ
eight_pages_end = codes "census 0 0\ntotals 8 8\nend done\n"

-- the ordered run of this trace has just this journal
unfoldable pub EightPagesRun : Type 0
EightPagesRun = journal_text (journal_of eight_pages_trace) ≡ eight_pages_parts ++ eight_pages_steps ++ eight_pages_end

-- ---- two CPUs, by order lines

-- Each CPU runs a task that writes a page of the inode; the flusher is on CPU 1. CPU 0 is to take two steps, then CPU 1
-- one, then CPU 0 one.
abbrev pub two_cpus_trace : Trace
two_cpus_trace = record {
  cpus = 2;
  cap = 1024;
  settings = no_settings;
  avail = (record { from = 0; pages = 100000 }) ∷ [];
  devices = (record { rate = 25600; min = 0; max = 100; strict = false; chunk = None; cyclic = false }) ∷ [];
  cgroups = [];
  contexts = (record { device = 0; domain = 0; expire = None; estimate = None }) ∷ [];
  inodes = (record { context = 0; first = 0; pages = 2 }) ∷ [];
  tasks = (record { cpu = 0; pace = None }) ∷ (record { cpu = 1; pace = None }) ∷ [];
  flushers = (record { device = 0; cpu = 1 }) ∷ [];
  actions = Write 0 0 0 1 ∷ Write 1 0 1 1 ∷ [];
  order = Steps 0 2 ∷ Steps 1 1 ∷ Steps 0 1 ∷ [];
  halt = None;
}

-- what the timer and the CPUs did
abbrev pub two_cpus_parts : List ℕ
two_cpus_parts = codes "timer\nlimits 0 1 19995 9985 19995\ncpu 0\nwrite 0 0 fresh\ncpu 1\nwrite 1 1 fresh\nclaim 0 0\nclaim 0 1\nbatch 0 2 1 2\ndone 0 0\ndone 0 1\nshare 0 0 2\n"

-- The bound is the threshold, a batch of 32 pages on each CPU, the caps of two writers and twice the error of 32 pages:
-- 19995 + 2 * 32 + 2 * 1024 + 2 * 32.
abbrev pub two_cpus_steps : List ℕ
two_cpus_steps = codes "steps\nstep 1 0 dirty 1 22171\nstep 2 0 add 1 22171\nstep 3 1 dirty 2 22171\nstep 4 0 add 2 22171\nstep 5 0 mark 2 22171\nstep 6 1 add 2 22171\nstep 7 1 add 2 22171\nstep 8 1 mark 2 22171\nstep 9 1 unmark 2 22171\nstep 10 1 look 2 22171\nstep 11 1 claim 2 22171\nstep 12 1 look 2 22171\nstep 13 1 claim 2 22171\nstep 14 1 complete 1 22171\nstep 15 1 add 1 22171\nstep 16 1 add 1 22171\nstep 17 1 complete 0 22171\nstep 18 1 add 0 22171\nstep 19 1 add 0 22171\n"

-- nothing is left; the sums, and how the run ended
abbrev pub two_cpus_end : List ℕ
two_cpus_end = codes "census 0 0\ntotals 2 2\nend done\n"

-- the ordered run of this trace has just this journal
unfoldable pub TwoCpusRun : Type 0
TwoCpusRun = journal_text (journal_of two_cpus_trace) ≡ two_cpus_parts ++ two_cpus_steps ++ two_cpus_end
