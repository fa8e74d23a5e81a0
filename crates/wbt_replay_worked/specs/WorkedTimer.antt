-- Worked runs of time: the timer's turns, updates of estimates, rests, and memory that becomes scarce.
use Rattle.std.specs.Prelude.{◌≡◌, ℕ, List, [], ◌∷◌, None, codes, ◌++◌, false}
use Rattle.wbt_trace.specs.declared.trace.Action.TheVariants.{Write, Rest}
use Rattle.wbt_trace.specs.declared.trace.Order.TheVariants.{Steps, Timer, Tick}
use Rattle.wbt_trace.specs.declared.trace.Trace.{Trace}
use Rattle.wbt_replay_order.specs.Definition.Run.{journal_of}
use Rattle.wbt_journal.specs.Text.{journal_text}
use Rattle.wbt_replay_worked.specs.Worked.{no_settings, small}

-- ---- a task rests, and half of the memory is gone at tick 150

-- The timer's turn at tick 201 finds half the thresholds, and a hard limit that falls a 32nd of the way.
abbrev pub resting_trace : Trace
resting_trace = record (small 2 (Rest 0 300 ∷ Write 0 0 0 1 ∷ [])) {
  avail = (record { from = 0; pages = 100000 }) ∷ (record { from = 150; pages = 50000 }) ∷ [];
}

-- what the timer and the CPU did
abbrev pub resting_parts : List ℕ
resting_parts = codes "timer\nlimits 0 1 19995 9985 19995\nlimits 0 201 9997 4992 19683\ncpu 0\nest 0 1 24350 25600 25600 25600 0 0 201\nwrite 0 0 fresh\nclaim 0 0\nbatch 0 1 301 302\ndone 0 0\nshare 0 0 1\n"

-- The flusher tests the limits at each of its turns while the task rests, and at tick 201 it updates the estimate in one.
abbrev pub resting_steps : List ℕ
resting_steps = codes "steps\nstep 1 0 first 0 21067\nstep 2 0 middle 0 21067\nstep 3 0 limits 0 21067\nstep 4 0 count 0 21067\nstep 5 0 first 0 21067\nstep 6 0 middle 0 21067\nstep 7 0 limits 0 21067\nstep 8 0 count 0 21067\nstep 9 0 first 0 21067\nstep 10 0 middle 0 21067\nstep 11 0 limits 0 21067\nstep 12 0 count 0 21067\nstep 13 0 count 0 21067\nstep 14 timer count 0 21067\nstep 15 timer peak 0 21067\nstep 16 timer unseal 0 21067\nstep 17 timer thresh 0 21067\nstep 18 timer publish 0 21067\nstep 19 0 dirty 1 21067\nstep 20 0 add 1 21067\nstep 21 0 add 1 21067\nstep 22 0 mark 1 21067\nstep 23 0 unmark 1 21067\nstep 24 0 look 1 21067\nstep 25 0 claim 1 21067\nstep 26 0 look 1 21067\nstep 27 0 complete 0 21067\nstep 28 0 add 0 21067\nstep 29 0 add 0 21067\n"

-- nothing is left; the sums, and how the run ended
abbrev pub resting_end : List ℕ
resting_end = codes "census 0 0\ntotals 1 1\nend done\n"

-- the ordered run of this trace has just this journal
unfoldable pub RestingRun : Type 0
RestingRun = journal_text (journal_of resting_trace) ≡ resting_parts ++ resting_steps ++ resting_end

-- ---- two disks, one of which is slow, and the clock moves between two steps of the timer's turn

-- Disk 0 writes 25600 pages a second, disk 1 only 7. The timer finds limits at tick 251; it raises the peak and
-- publishes them a hundred ticks later. Task 0 rests while memory becomes scarce.
abbrev pub estimated_trace : Trace
estimated_trace = record {
  cpus = 2;
  cap = 64;
  settings = no_settings;
  avail = (record { from = 0; pages = 100000 }) ∷ (record { from = 300; pages = 60000 }) ∷ [];
  devices = (record { rate = 25600; min = 0; max = 100; strict = false; chunk = None; cyclic = false }) ∷ (record { rate = 7; min = 0; max = 100; strict = false; chunk = None; cyclic = false }) ∷ [];
  cgroups = [];
  contexts = (record { device = 0; domain = 0; expire = None; estimate = None }) ∷ (record { device = 1; domain = 0; expire = None; estimate = None }) ∷ [];
  inodes = (record { context = 0; first = 0; pages = 2 }) ∷ (record { context = 1; first = 2; pages = 2 }) ∷ [];
  tasks = (record { cpu = 0; pace = None }) ∷ (record { cpu = 1; pace = None }) ∷ [];
  flushers = (record { device = 0; cpu = 0 }) ∷ (record { device = 1; cpu = 1 }) ∷ [];
  actions = Write 0 0 0 1 ∷ Write 1 1 0 1 ∷ Rest 0 500 ∷ Write 0 0 1 1 ∷ [];
  order = Steps 0 2 ∷ Steps 1 1 ∷ Tick 250 ∷ Timer 1 ∷ Tick 100 ∷ Timer 1 ∷ [];
  halt = None;
}

-- what the timer did
abbrev pub estimated_timer : List ℕ
estimated_timer = codes "timer\nlimits 0 1 19995 9985 19995\nlimits 0 251 19995 9985 19995\nlimits 0 451 11997 5991 19746\nlimits 0 651 11997 5991 19504\n"

-- Each CPU updates the estimate of its disk's context three times while task 0 rests.
abbrev pub estimated_cpu_0 : List ℕ
estimated_cpu_0 = codes "cpu 0\nwrite 0 0 fresh\nest 0 1 23412 25600 25600 25600 0 0 351\nest 0 2 22268 25327 25600 25600 0 0 551\nest 0 3 21180 24945 25600 25327 0 0 751\nwrite 0 1 fresh\nclaim 0 0\nclaim 0 1\nbatch 0 2 851 852\ndone 0 0\ndone 0 1\nshare 0 0 2\n"

-- what CPU 1 did
abbrev pub estimated_cpu_1 : List ℕ
estimated_cpu_1 = codes "cpu 1\nwrite 1 2 fresh\nest 1 1 23412 25600 25600 25600 0 0 351\nest 1 2 22268 25327 25600 25600 0 0 551\nest 1 3 21180 24945 25600 25327 0 0 751\nclaim 1 2\nbatch 1 1 851 994\ndone 1 2\nshare 0 1 1\n"

-- The bound is the peak, a batch of 32 pages on each CPU, the caps of two writers and twice the error of 32 pages for each context:
-- 19995 + 2 * 32 + 2 * 64 + 2 * 32 * 2.
abbrev pub estimated_steps_0 : List ℕ
estimated_steps_0 = codes "steps\nstep 1 0 dirty 1 20315\nstep 2 0 add 1 20315\nstep 3 1 dirty 2 20315\nstep 4 timer count 2 20315\nstep 5 timer peak 2 20315\nstep 6 0 add 2 20315\nstep 7 0 mark 2 20315\nstep 8 1 add 2 20315\nstep 9 1 add 2 20315\nstep 10 1 mark 2 20315\nstep 11 timer unseal 2 20315\nstep 12 timer thresh 2 20315\nstep 13 timer publish 2 20315\nstep 14 0 first 2 20315\nstep 15 0 middle 2 20315\nstep 16 0 limits 2 20315\nstep 17 0 count 2 20315\nstep 18 0 count 2 20315\nstep 19 1 first 2 20315\nstep 20 1 middle 2 20315\nstep 21 1 limits 2 20315\nstep 22 1 count 2 20315\nstep 23 1 count 2 20315\nstep 24 0 first 2 20315\nstep 25 0 middle 2 20315\nstep 26 0 limits 2 20315\nstep 27 0 count 2 20315\nstep 28 1 first 2 20315\nstep 29 1 middle 2 20315\nstep 30 1 limits 2 20315\nstep 31 1 count 2 20315\nstep 32 timer count 2 20315\nstep 33 timer peak 2 20315\nstep 34 timer unseal 2 20315\nstep 35 timer thresh 2 20315\nstep 36 timer publish 2 20315\nstep 37 0 first 2 20315\nstep 38 0 middle 2 20315\nstep 39 0 limits 2 20315\nstep 40 0 count 2 20315\nstep 41 0 count 2 20315\nstep 42 1 first 2 20315\nstep 43 1 middle 2 20315\nstep 44 1 limits 2 20315\nstep 45 1 count 2 20315\n"

-- steps 46 to 91, each with the count of all pages after it and its bound
abbrev pub estimated_steps_1 : List ℕ
estimated_steps_1 = codes "step 46 1 count 2 20315\nstep 47 0 first 2 20315\nstep 48 0 middle 2 20315\nstep 49 0 limits 2 20315\nstep 50 0 count 2 20315\nstep 51 1 first 2 20315\nstep 52 1 middle 2 20315\nstep 53 1 limits 2 20315\nstep 54 1 count 2 20315\nstep 55 timer count 2 20315\nstep 56 timer peak 2 20315\nstep 57 timer unseal 2 20315\nstep 58 timer thresh 2 20315\nstep 59 timer publish 2 20315\nstep 60 0 first 2 20315\nstep 61 0 middle 2 20315\nstep 62 0 limits 2 20315\nstep 63 0 count 2 20315\nstep 64 0 count 2 20315\nstep 65 1 first 2 20315\nstep 66 1 middle 2 20315\nstep 67 1 limits 2 20315\nstep 68 1 count 2 20315\nstep 69 1 count 2 20315\nstep 70 0 dirty 3 20315\nstep 71 0 add 3 20315\nstep 72 0 add 3 20315\nstep 73 0 mark 3 20315\nstep 74 1 unmark 3 20315\nstep 75 0 unmark 3 20315\nstep 76 1 look 3 20315\nstep 77 1 claim 3 20315\nstep 78 0 look 3 20315\nstep 79 0 claim 3 20315\nstep 80 1 look 3 20315\nstep 81 0 look 3 20315\nstep 82 0 claim 3 20315\nstep 83 0 complete 2 20315\nstep 84 0 add 2 20315\nstep 85 0 add 2 20315\nstep 86 0 complete 1 20315\nstep 87 0 add 1 20315\nstep 88 0 add 1 20315\nstep 89 1 complete 0 20315\nstep 90 1 add 0 20315\nstep 91 1 add 0 20315\n"

-- nothing is left; the sums, and how the run ended
abbrev pub estimated_end : List ℕ
estimated_end = codes "census 0 0\ntotals 3 3\nend done\n"

-- the ordered run of this trace has just this journal
unfoldable pub EstimatedRun : Type 0
EstimatedRun =
    journal_text (journal_of estimated_trace)
    ≡ estimated_timer ++ estimated_cpu_0 ++ estimated_cpu_1 ++ estimated_steps_0 ++ estimated_steps_1 ++ estimated_end

-- ---- the run is over in mid-turn of the timer

-- The timer has raised its peak, and has the limits still to publish, when the CPU makes all its steps.
abbrev pub cut_turn_trace : Trace
cut_turn_trace = record (small 2 (Write 0 0 0 2 ∷ [])) {
  avail = (record { from = 0; pages = 1000 }) ∷ [];
  order = Tick 200 ∷ Timer 2 ∷ Steps 0 999 ∷ [];
}

-- They are never published.
abbrev pub cut_turn_timer : List ℕ
cut_turn_timer = codes "timer\nlimits 0 1 199 99 199\n"

-- what CPU 0 did
abbrev pub cut_turn_cpu_0 : List ℕ
cut_turn_cpu_0 = codes "cpu 0\nwrite 0 0 fresh\nest 0 1 24350 25600 25600 25600 0 0 201\nwrite 0 1 fresh\nclaim 0 0\nclaim 0 1\nbatch 0 2 201 202\ndone 0 0\ndone 0 1\nshare 0 0 2\n"

-- steps 1 to 26, each with the count of all pages after it and its bound
abbrev pub cut_turn_steps : List ℕ
cut_turn_steps = codes "steps\nstep 1 timer count 0 1271\nstep 2 timer peak 0 1271\nstep 3 0 dirty 1 1271\nstep 4 0 add 1 1271\nstep 5 0 add 1 1271\nstep 6 0 mark 1 1271\nstep 7 0 first 1 1271\nstep 8 0 middle 1 1271\nstep 9 0 limits 1 1271\nstep 10 0 count 1 1271\nstep 11 0 count 1 1271\nstep 12 0 dirty 2 1271\nstep 13 0 add 2 1271\nstep 14 0 add 2 1271\nstep 15 0 mark 2 1271\nstep 16 0 unmark 2 1271\nstep 17 0 look 2 1271\nstep 18 0 claim 2 1271\nstep 19 0 look 2 1271\nstep 20 0 claim 2 1271\nstep 21 0 complete 1 1271\nstep 22 0 add 1 1271\nstep 23 0 add 1 1271\nstep 24 0 complete 0 1271\nstep 25 0 add 0 1271\nstep 26 0 add 0 1271\n"

-- nothing is left; the sums, and how the run ended
abbrev pub cut_turn_end : List ℕ
cut_turn_end = codes "census 0 0\ntotals 2 2\nend done\n"

-- the ordered run of this trace has just this journal
unfoldable pub CutTurnRun : Type 0
CutTurnRun =
    journal_text (journal_of cut_turn_trace)
    ≡ cut_turn_timer ++ cut_turn_cpu_0 ++ cut_turn_steps ++ cut_turn_end

-- ---- limits are loaded while they are published

-- The timer has made the limits' sequence odd, and has their words still to store, when the CPU loads them for
-- an estimate and for a check: both times it goes on with the limits that it held.
abbrev pub unsealed_trace : Trace
unsealed_trace = record (small 2 (Write 0 0 0 2 ∷ [])) {
  cap = 1;
  avail = (record { from = 0; pages = 100000 }) ∷ (record { from = 100; pages = 50000 }) ∷ [];
  order = Steps 0 4 ∷ Tick 200 ∷ Timer 3 ∷ Steps 0 10 ∷ [];
}

-- what the timer did
abbrev pub unsealed_timer : List ℕ
unsealed_timer = codes "timer\nlimits 0 1 19995 9985 19995\nlimits 0 201 9997 4992 19683\n"

-- what CPU 0 did
abbrev pub unsealed_cpu_0 : List ℕ
unsealed_cpu_0 = codes "cpu 0\nwrite 0 0 fresh\nest 0 1 24350 25600 25600 25600 0 0 201\nread 0 0 19995 9985 19995 0 0 0 0 1\ncount 0 0 0\ncheck 0 0 201 1 free 0 1 0 128 201\nwrite 0 1 fresh\nread 0 1 9997 4992 19683 0 0 0 0 1\ncount 0 0 0\ncheck 0 0 201 1 free 0 1 0 64 201\nclaim 0 0\nclaim 0 1\nbatch 0 2 201 202\ndone 0 0\ndone 0 1\nshare 0 0 2\n"

-- steps 1 to 39, each with the count of all pages after it and its bound
abbrev pub unsealed_steps : List ℕ
unsealed_steps = codes "steps\nstep 1 0 dirty 1 20044\nstep 2 0 add 1 20044\nstep 3 0 add 1 20044\nstep 4 0 mark 1 20044\nstep 5 timer count 1 20044\nstep 6 timer peak 1 20044\nstep 7 timer unseal 1 20044\nstep 8 0 first 1 20044\nstep 9 0 middle 1 20044\nstep 10 0 limits 1 20044\nstep 11 0 count 1 20044\nstep 12 0 count 1 20044\nstep 13 0 first 1 20044\nstep 14 0 middle 1 20044\nstep 15 0 limits 1 20044\nstep 16 0 count 1 20044\nstep 17 0 count 1 20044\nstep 18 0 dirty 2 20044\nstep 19 0 add 2 20044\nstep 20 0 add 2 20044\nstep 21 0 mark 2 20044\nstep 22 timer thresh 2 20044\nstep 23 timer publish 2 20044\nstep 24 0 first 2 20044\nstep 25 0 middle 2 20044\nstep 26 0 limits 2 20044\nstep 27 0 count 2 20044\nstep 28 0 count 2 20044\nstep 29 0 unmark 2 20044\nstep 30 0 look 2 20044\nstep 31 0 claim 2 20044\nstep 32 0 look 2 20044\nstep 33 0 claim 2 20044\nstep 34 0 complete 1 20044\nstep 35 0 add 1 20044\nstep 36 0 add 1 20044\nstep 37 0 complete 0 20044\nstep 38 0 add 0 20044\nstep 39 0 add 0 20044\n"

-- nothing is left; the sums, and how the run ended
abbrev pub unsealed_end : List ℕ
unsealed_end = codes "census 0 0\ntotals 2 2\nend done\n"

-- the ordered run of this trace has just this journal
unfoldable pub UnsealedRun : Type 0
UnsealedRun = journal_text (journal_of unsealed_trace) ≡ unsealed_timer ++ unsealed_cpu_0 ++ unsealed_steps ++ unsealed_end

-- ---- limits are published while they are loaded

-- The check of page 0 begins a load in step 12, and the timer publishes before it ends: the CPU goes on with the limits that it held.
-- That of page 1 loads words of two publications, between the timer's fourth and fifth steps.
abbrev pub overtaken_trace : Trace
overtaken_trace = record (small 4 (Write 0 0 0 4 ∷ [])) {
  cap = 1;
  avail =
      (record { from = 0; pages = 100000 }) ∷ (record { from = 100; pages = 50000 }) ∷ (record { from = 300; pages = 200000 }) ∷ [];
  order =
      Steps 0 4 ∷ Tick 200 ∷ Steps 0 5 ∷ Timer 2 ∷ Steps 0 1 ∷ Timer 3 ∷ Steps 0 8 ∷ Tick 200 ∷ Steps 0 5 ∷ Timer 4 ∷ Steps 0 5 ∷ [];
}

-- what the timer did
abbrev pub overtaken_timer : List ℕ
overtaken_timer = codes "timer\nlimits 0 1 19995 9985 19995\nlimits 0 201 9997 4992 19683\nlimits 0 401 39990 19970 39990\n"

-- what CPU 0 did
abbrev pub overtaken_cpu_0 : List ℕ
overtaken_cpu_0 = codes "cpu 0\nwrite 0 0 fresh\nest 0 1 24350 25600 25600 25600 0 0 201\nread 0 0 19995 9985 19995 0 0 0 0 1\ncount 0 0 0\ncheck 0 0 201 1 free 0 1 0 128 201\nwrite 0 1 fresh\nest 0 2 23161 25444 25600 25600 0 0 401\nread 0 1 9997 4992 19683 0 0 0 0 1\ncount 0 0 0\ncheck 0 0 401 2 free 0 1 0 64 401\nwrite 0 2 fresh\nread 0 2 39990 19970 39990 0 0 0 0 1\ncount 0 0 0\ncheck 0 0 401 2 free 0 1 0 128 401\nwrite 0 3 fresh\nread 0 2 39990 19970 39990 0 0 0 0 1\ncount 0 0 0\ncheck 0 0 401 2 free 0 1 0 128 401\nclaim 0 0\nclaim 0 1\nclaim 0 2\nclaim 0 3\nbatch 0 4 401 402\ndone 0 0\ndone 0 1\ndone 0 2\ndone 0 3\nshare 0 0 4\n"

-- steps 1 to 77, each with the count of all pages after it and its bound
abbrev pub overtaken_steps : List ℕ
overtaken_steps = codes "steps\nstep 1 0 dirty 1 20044\nstep 2 0 add 1 20044\nstep 3 0 add 1 20044\nstep 4 0 mark 1 20044\nstep 5 0 first 1 20044\nstep 6 0 middle 1 20044\nstep 7 0 limits 1 20044\nstep 8 0 count 1 20044\nstep 9 0 count 1 20044\nstep 10 timer count 1 20044\nstep 11 timer peak 1 20044\nstep 12 0 first 1 20044\nstep 13 timer unseal 1 20044\nstep 14 timer thresh 1 20044\nstep 15 timer publish 1 20044\nstep 16 0 middle 1 20044\nstep 17 0 limits 1 20044\nstep 18 0 count 1 20044\nstep 19 0 count 1 20044\nstep 20 0 dirty 2 20044\nstep 21 0 add 2 20044\nstep 22 0 add 2 20044\nstep 23 0 mark 2 20044\nstep 24 0 first 2 20044\nstep 25 0 middle 2 20044\nstep 26 0 limits 2 20044\nstep 27 0 count 2 20044\nstep 28 0 count 2 20044\nstep 29 timer count 2 20044\nstep 30 timer peak 2 40039\nstep 31 timer unseal 2 40039\nstep 32 timer thresh 2 40039\nstep 33 0 first 2 40039\nstep 34 0 middle 2 40039\nstep 35 0 limits 2 40039\nstep 36 0 count 2 40039\nstep 37 0 count 2 40039\nstep 38 0 dirty 3 40039\nstep 39 0 add 3 40039\nstep 40 0 add 3 40039\nstep 41 0 mark 3 40039\nstep 42 timer publish 3 40039\nstep 43 0 first 3 40039\nstep 44 0 middle 3 40039\nstep 45 0 limits 3 40039\nstep 46 0 count 3 40039\nstep 47 0 count 3 40039\nstep 48 0 dirty 4 40039\nstep 49 0 add 4 40039\nstep 50 0 add 4 40039\nstep 51 0 mark 4 40039\nstep 52 0 first 4 40039\nstep 53 0 middle 4 40039\nstep 54 0 limits 4 40039\nstep 55 0 count 4 40039\nstep 56 0 count 4 40039\nstep 57 0 unmark 4 40039\nstep 58 0 look 4 40039\nstep 59 0 claim 4 40039\nstep 60 0 look 4 40039\nstep 61 0 claim 4 40039\nstep 62 0 look 4 40039\nstep 63 0 claim 4 40039\nstep 64 0 look 4 40039\nstep 65 0 claim 4 40039\nstep 66 0 complete 3 40039\nstep 67 0 add 3 40039\nstep 68 0 add 3 40039\nstep 69 0 complete 2 40039\nstep 70 0 add 2 40039\nstep 71 0 add 2 40039\nstep 72 0 complete 1 40039\nstep 73 0 add 1 40039\nstep 74 0 add 1 40039\nstep 75 0 complete 0 40039\nstep 76 0 add 0 40039\nstep 77 0 add 0 40039\n"

-- nothing is left; the sums, and how the run ended
abbrev pub overtaken_end : List ℕ
overtaken_end = codes "census 0 0\ntotals 4 4\nend done\n"

-- the ordered run of this trace has just this journal
unfoldable pub OvertakenRun : Type 0
OvertakenRun =
    journal_text (journal_of overtaken_trace) ≡ overtaken_timer ++ overtaken_cpu_0 ++ overtaken_steps ++ overtaken_end
