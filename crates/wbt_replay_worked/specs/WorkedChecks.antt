-- A worked run of checks: two CPUs, two cgroups, two disks, of which one has three flushers, and memory that goes away.
use Rattle.std.specs.Prelude.{◌≡◌, ℕ, List, [], ◌∷◌, Some, codes, ◌++◌, false, None}
use Rattle.wbt_trace.specs.declared.trace.Action.TheVariants.{Write, Rest}
use Rattle.wbt_trace.specs.declared.trace.Order.TheVariants.{Steps, Timer, Tick}
use Rattle.wbt_trace.specs.declared.trace.Trace.{Trace}
use Rattle.wbt_replay_order.specs.Definition.Run.{journal_of}
use Rattle.wbt_journal.specs.Text.{journal_text}
use Rattle.wbt_replay_worked.specs.Worked.{no_settings}

-- Task 0 writes 32 pages of cgroup 1 on CPU 0, and one of them again, beside task 1, which writes three of cgroup 2 and ends; task 2
-- writes 16 of cgroup 1 on CPU 1. The order lines drive the machine to tick 3605: they let the clock move between two steps of the
-- timer's turn, and at last to the next period. A CPU stops when it has made 408 steps.
abbrev pub checked_trace : Trace
checked_trace = record {
  cpus = 2;
  cap = 40;
  settings = no_settings;
  avail =
      (record { from = 0; pages = 166 }) ∷ (record { from = 150; pages = 20 }) ∷ (record { from = 3500; pages = 70 }) ∷ [];
  devices = (record { rate = 40; min = 0; max = 100; strict = false; chunk = None; cyclic = false }) ∷ (record { rate = 300; min = 10; max = 60; strict = false; chunk = None; cyclic = false }) ∷ [];
  cgroups = (record { filepages = 100; headroom = 0 }) ∷ (record { filepages = 30; headroom = 5 }) ∷ [];
  contexts = (record { device = 0; domain = 1; expire = None; estimate = None }) ∷ (record { device = 1; domain = 2; expire = None; estimate = None }) ∷ [];
  inodes =
      (record { context = 0; first = 0; pages = 4 }) ∷ (record { context = 1; first = 4; pages = 3 })
      ∷ (record { context = 0; first = 7; pages = 16 }) ∷ (record { context = 0; first = 23; pages = 28 }) ∷ [];
  tasks = (record { cpu = 0; pace = None }) ∷ (record { cpu = 0; pace = None }) ∷ (record { cpu = 1; pace = None }) ∷ [];
  flushers =
      (record { device = 0; cpu = 0 }) ∷ (record { device = 0; cpu = 1 }) ∷ (record { device = 1; cpu = 1 })
      ∷ (record { device = 0; cpu = 0 }) ∷ [];
  actions = Write 0 0 0 4 ∷ Write 0 3 0 28 ∷ Rest 1 1 ∷ Write 1 1 0 3 ∷ Write 2 2 0 16 ∷ Write 0 0 0 1 ∷ [];
  order =
      Tick 200 ∷ Steps 1 999 ∷ Steps 0 145 ∷ Tick 1 ∷ Steps 0 62 ∷ Timer 11 ∷ Steps 0 999 ∷ Tick 1 ∷ Timer 4 ∷ Steps 0 999
      ∷ Tick 1 ∷ Steps 0 999 ∷ Tick 1 ∷ Steps 0 999 ∷ Tick 100 ∷ Steps 1 999 ∷ Tick 400 ∷ Steps 1 94 ∷ Tick 2900 ∷ Timer 999
      ∷ Steps 0 999 ∷ [];
  halt = Some 408;
}

-- The global threshold falls to 3, and the hard limit, which is less than 32 pages above it, stays. Each domain begins a period.
abbrev pub checked_timer : List ℕ
checked_timer = codes "timer\nlimits 0 1 33 16 33\nlimits 1 1 19 9 19\nlimits 2 1 6 3 6\nlimits 0 202 3 1 33\nlimits 1 202 19 9 19\nlimits 2 202 5 2 6\nlimits 0 3605 13 6 33\nlimits 1 3605 19 9 19\nlimits 2 3605 6 3 6\nperiod 0 1\nperiod 1 1\nperiod 2 1\n"

-- Task 0 is checked at its 16th page, which is the CPU's 16th, and then after four pages; after three and after two, since the three
-- pages of the task that ended are counted in; and after four. Where the global domain reads 32 pages it pauses for a tick, to which
-- its pause is cut. Where its cgroup reads 32 it waits, since the context reads 48 pages, more than the error of 32; where the context
-- reads 32 it is exempt. The page that it writes again is under writeback. CPU 0 stops before it counts its third completed page.
abbrev pub checked_cpu_0 : List ℕ
checked_cpu_0 = codes "cpu 0\nwrite 0 0 fresh\nest 0 1 24350 25600 25600 25600 0 16 201\nwrite 0 1 fresh\nwrite 0 2 fresh\nwrite 0 3 fresh\nwrite 0 23 fresh\nwrite 0 24 fresh\nwrite 0 25 fresh\nwrite 0 26 fresh\nwrite 0 27 fresh\nwrite 0 28 fresh\nwrite 0 29 fresh\nwrite 0 30 fresh\nwrite 0 31 fresh\nwrite 0 32 fresh\nwrite 0 33 fresh\nwrite 0 34 fresh\nfold c0 2 16\nread 0 0 33 16 33 0 0 0 0 1\nread 1 0 19 9 19 0 0 0 0 1\ncount 0 2 32\ncheck 0 0 201 1 free 0 4 0 4 201\nwrite 0 35 fresh\nwrite 0 36 fresh\nwrite 0 37 fresh\nwrite 0 38 fresh\nread 0 0 33 16 33 0 0 0 0 1\nread 1 0 19 9 19 0 0 0 0 1\ncount 0 2 32\ncheck 0 0 201 1 free 0 4 0 4 201\nwrite 1 4 fresh\nwrite 0 39 fresh\nwrite 1 5 fresh\nwrite 0 40 fresh\nwrite 1 6 fresh\nwrite 0 41 fresh\nread 0 0 33 16 33 0 0 0 0 1\nread 1 0 19 9 19 0 0 0 0 1\ncount 0 2 32\ncheck 0 0 202 1 free 0 4 0 4 202\nwrite 0 42 fresh\nwrite 0 43 fresh\nread 0 0 33 16 33 0 0 0 0 1\nread 1 0 19 9 19 0 0 0 0 1\ncount 0 2 32\ncheck 0 0 202 1 free 0 4 0 4 202\nwrite 0 44 fresh\nwrite 0 45 fresh\nwrite 0 46 fresh\nwrite 0 47 fresh\nfold d0 1 32\nread 0 1 3 1 33 1 32 0 0 1\nread 1 1 19 9 19 0 0 0 0 1\ncount 0 2 32\ncheck 0 0 202 1 go 1 1 0 1 204\nwrite 0 48 fresh\nread 0 1 3 1 33 1 32 0 0 1\nread 1 1 19 9 19 0 0 0 0 1\ncount 0 2 32\ncheck 0 0 203 1 go 1 1 0 1 204\nwrite 0 49 fresh\nread 0 1 3 1 33 1 32 0 0 1\nread 1 1 19 9 19 0 0 0 0 1\ncount 0 2 32\ncheck 0 0 204 1 go 0 1 1 2 204\nwrite 0 50 fresh\nfold c0 3 16\nfold d1 1 32\nread 0 1 3 1 33 1 32 0 0 1\nread 1 1 19 9 19 1 32 0 0 1\ncount 0 3 48\ncheck 0 0 204 1 wait 1 0 0 0 205\nread 0 1 3 1 33 1 32 0 0 1\nread 1 1 19 9 19 1 32 0 0 1\ncount 0 3 48\ncheck 0 0 205 1 wait 1 0 0 0 206\nest 0 2 4117 25444 25600 25600 16 48 3605\nread 0 2 13 6 33 1 32 1 8 10\nread 1 2 19 9 19 1 32 1 8 8\ncount 0 4 32\ncheck 0 0 3605 2 exempt 1 1 0 0 3606\nclaim 0 0\nclaim 3 23\nclaim 0 1\nclaim 3 24\nclaim 0 2\nclaim 3 25\nclaim 0 3\nbatch 0 4 3605 3705\nclaim 3 26\nclaim 3 27\nclaim 3 28\nclaim 3 29\nclaim 3 30\nclaim 3 31\nclaim 3 32\nclaim 3 33\nclaim 3 34\nclaim 3 35\nclaim 3 36\nclaim 3 37\nclaim 3 38\nclaim 3 39\nclaim 3 40\nclaim 3 41\nclaim 3 42\nclaim 3 43\nclaim 3 44\nclaim 3 45\nclaim 3 46\nclaim 3 47\nclaim 3 48\nclaim 3 49\nclaim 3 50\nbatch 3 28 3605 4305\nwrite 0 0 fresh\nread 0 2 13 6 33 1 32 1 8 10\nread 1 2 19 9 19 1 32 1 8 8\ncount 0 4 32\ncheck 0 0 3606 2 exempt 1 1 0 0 3607\ndone 0 0\ndone 0 1\n"

-- In the drain flusher 1 finds page 0 dirty under writeback at tick 3606: it marks the inode again, and rests until 3706.
abbrev pub checked_cpu_1 : List ℕ
checked_cpu_1 = codes "cpu 1\nwrite 2 7 fresh\nest 1 1 24350 25600 25600 25600 0 0 201\nwrite 2 8 fresh\nwrite 2 9 fresh\nwrite 2 10 fresh\nwrite 2 11 fresh\nwrite 2 12 fresh\nwrite 2 13 fresh\nwrite 2 14 fresh\nwrite 2 15 fresh\nwrite 2 16 fresh\nwrite 2 17 fresh\nwrite 2 18 fresh\nwrite 2 19 fresh\nwrite 2 20 fresh\nwrite 2 21 fresh\nwrite 2 22 fresh\nfold c0 1 16\nread 0 0 33 16 33 0 0 0 0 1\nread 1 0 19 9 19 0 0 0 0 1\ncount 0 1 16\ncheck 2 0 201 0 free 0 4 0 4 201\nclaim 1 7\nclaim 2 4\nclaim 1 8\nclaim 2 5\nclaim 1 9\nclaim 2 6\nbatch 2 3 305 315\nclaim 1 10\nclaim 1 11\nclaim 1 12\nclaim 1 13\nclaim 1 14\nclaim 1 15\nclaim 1 16\nclaim 1 17\nclaim 1 18\nclaim 1 19\nclaim 1 20\nclaim 1 21\nclaim 1 22\nbatch 1 16 305 705\ndone 2 4\ndone 1 7\ndone 2 5\ndone 1 8\ndone 2 6\nshare 0 1 3\nshare 2 1 3\ndone 1 9\nest 1 2 21354 25444 25600 25600 3 3 705\ndone 1 10\ndone 1 11\ndone 1 12\ndone 1 13\ndone 1 14\ndone 1 15\ndone 1 16\ndone 1 17\ndone 1 18\ndone 1 19\ndone 1 20\ndone 1 21\ndone 1 22\nfold c0 4 -16\nshare 0 0 16\nshare 1 0 16\nest 1 3 6235 24933 25600 25444 3 3 3605\nclaim 1 0\nbatch 1 1 3706 3731\ndone 1 0\nshare 0 0 1\nshare 1 0 1\n"

-- The bounds are 33 + 2 * 32 + 3 * 40 + 2 * 32 * 2 of all pages, 19 + 2 * 32 + 2 * 40 + 2 * 32 of cgroup 1, and
-- 6 + 2 * 32 + 40 + 2 * 32 of cgroup 2.
abbrev pub checked_steps_0 : List ℕ
checked_steps_0 = codes "steps\nstep 1 1 dirty 1 345 1 227 0 174\nstep 2 1 add 1 345 1 227 0 174\nstep 3 1 add 1 345 1 227 0 174\nstep 4 1 add 1 345 1 227 0 174\nstep 5 1 mark 1 345 1 227 0 174\nstep 6 1 first 1 345 1 227 0 174\nstep 7 1 middle 1 345 1 227 0 174\nstep 8 1 limits 1 345 1 227 0 174\nstep 9 1 count 1 345 1 227 0 174\nstep 10 1 first 1 345 1 227 0 174\nstep 11 1 middle 1 345 1 227 0 174\nstep 12 1 limits 1 345 1 227 0 174\nstep 13 1 count 1 345 1 227 0 174\nstep 14 1 first 1 345 1 227 0 174\nstep 15 1 middle 1 345 1 227 0 174\nstep 16 1 limits 1 345 1 227 0 174\nstep 17 1 count 1 345 1 227 0 174\nstep 18 1 first 1 345 1 227 0 174\nstep 19 1 middle 1 345 1 227 0 174\nstep 20 1 limits 1 345 1 227 0 174\nstep 21 1 count 1 345 1 227 0 174\nstep 22 1 first 1 345 1 227 0 174\nstep 23 1 middle 1 345 1 227 0 174\nstep 24 1 limits 1 345 1 227 0 174\nstep 25 1 count 1 345 1 227 0 174\nstep 26 1 first 1 345 1 227 0 174\nstep 27 1 middle 1 345 1 227 0 174\nstep 28 1 limits 1 345 1 227 0 174\nstep 29 1 count 1 345 1 227 0 174\nstep 30 1 count 1 345 1 227 0 174\nstep 31 1 dirty 2 345 2 227 0 174\nstep 32 1 add 2 345 2 227 0 174\nstep 33 1 add 2 345 2 227 0 174\nstep 34 1 add 2 345 2 227 0 174\nstep 35 1 mark 2 345 2 227 0 174\nstep 36 1 dirty 3 345 3 227 0 174\nstep 37 1 add 3 345 3 227 0 174\nstep 38 1 add 3 345 3 227 0 174\nstep 39 1 add 3 345 3 227 0 174\nstep 40 1 mark 3 345 3 227 0 174\nstep 41 1 dirty 4 345 4 227 0 174\nstep 42 1 add 4 345 4 227 0 174\nstep 43 1 add 4 345 4 227 0 174\nstep 44 1 add 4 345 4 227 0 174\nstep 45 1 mark 4 345 4 227 0 174\nstep 46 1 dirty 5 345 5 227 0 174\nstep 47 1 add 5 345 5 227 0 174\nstep 48 1 add 5 345 5 227 0 174\nstep 49 1 add 5 345 5 227 0 174\nstep 50 1 mark 5 345 5 227 0 174\nstep 51 1 dirty 6 345 6 227 0 174\nstep 52 1 add 6 345 6 227 0 174\nstep 53 1 add 6 345 6 227 0 174\nstep 54 1 add 6 345 6 227 0 174\nstep 55 1 mark 6 345 6 227 0 174\nstep 56 1 dirty 7 345 7 227 0 174\nstep 57 1 add 7 345 7 227 0 174\nstep 58 1 add 7 345 7 227 0 174\nstep 59 1 add 7 345 7 227 0 174\nstep 60 1 mark 7 345 7 227 0 174\nstep 61 1 dirty 8 345 8 227 0 174\nstep 62 1 add 8 345 8 227 0 174\nstep 63 1 add 8 345 8 227 0 174\nstep 64 1 add 8 345 8 227 0 174\nstep 65 1 mark 8 345 8 227 0 174\nstep 66 1 dirty 9 345 9 227 0 174\nstep 67 1 add 9 345 9 227 0 174\nstep 68 1 add 9 345 9 227 0 174\nstep 69 1 add 9 345 9 227 0 174\nstep 70 1 mark 9 345 9 227 0 174\nstep 71 1 dirty 10 345 10 227 0 174\nstep 72 1 add 10 345 10 227 0 174\nstep 73 1 add 10 345 10 227 0 174\nstep 74 1 add 10 345 10 227 0 174\nstep 75 1 mark 10 345 10 227 0 174\nstep 76 1 dirty 11 345 11 227 0 174\nstep 77 1 add 11 345 11 227 0 174\nstep 78 1 add 11 345 11 227 0 174\nstep 79 1 add 11 345 11 227 0 174\nstep 80 1 mark 11 345 11 227 0 174\nstep 81 1 dirty 12 345 12 227 0 174\nstep 82 1 add 12 345 12 227 0 174\nstep 83 1 add 12 345 12 227 0 174\nstep 84 1 add 12 345 12 227 0 174\nstep 85 1 mark 12 345 12 227 0 174\nstep 86 1 dirty 13 345 13 227 0 174\nstep 87 1 add 13 345 13 227 0 174\nstep 88 1 add 13 345 13 227 0 174\nstep 89 1 add 13 345 13 227 0 174\nstep 90 1 mark 13 345 13 227 0 174\nstep 91 1 dirty 14 345 14 227 0 174\nstep 92 1 add 14 345 14 227 0 174\nstep 93 1 add 14 345 14 227 0 174\nstep 94 1 add 14 345 14 227 0 174\nstep 95 1 mark 14 345 14 227 0 174\nstep 96 1 dirty 15 345 15 227 0 174\nstep 97 1 add 15 345 15 227 0 174\nstep 98 1 add 15 345 15 227 0 174\nstep 99 1 add 15 345 15 227 0 174\nstep 100 1 mark 15 345 15 227 0 174\nstep 101 1 dirty 16 345 16 227 0 174\nstep 102 1 add 16 345 16 227 0 174\nstep 103 1 fold 16 345 16 227 0 174\nstep 104 1 clear 16 345 16 227 0 174\nstep 105 1 add 16 345 16 227 0 174\nstep 106 1 add 16 345 16 227 0 174\nstep 107 1 mark 16 345 16 227 0 174\nstep 108 1 first 16 345 16 227 0 174\n"

-- steps 109 to 217, each with the count of each domain after it and its bound
abbrev pub checked_steps_1 : List ℕ
checked_steps_1 = codes "step 109 1 middle 16 345 16 227 0 174\nstep 110 1 limits 16 345 16 227 0 174\nstep 111 1 count 16 345 16 227 0 174\nstep 112 1 first 16 345 16 227 0 174\nstep 113 1 middle 16 345 16 227 0 174\nstep 114 1 limits 16 345 16 227 0 174\nstep 115 1 count 16 345 16 227 0 174\nstep 116 1 count 16 345 16 227 0 174\nstep 117 0 dirty 17 345 17 227 0 174\nstep 118 0 add 17 345 17 227 0 174\nstep 119 0 add 17 345 17 227 0 174\nstep 120 0 add 17 345 17 227 0 174\nstep 121 0 mark 17 345 17 227 0 174\nstep 122 0 first 17 345 17 227 0 174\nstep 123 0 middle 17 345 17 227 0 174\nstep 124 0 limits 17 345 17 227 0 174\nstep 125 0 count 17 345 17 227 0 174\nstep 126 0 first 17 345 17 227 0 174\nstep 127 0 middle 17 345 17 227 0 174\nstep 128 0 limits 17 345 17 227 0 174\nstep 129 0 count 17 345 17 227 0 174\nstep 130 0 first 17 345 17 227 0 174\nstep 131 0 middle 17 345 17 227 0 174\nstep 132 0 limits 17 345 17 227 0 174\nstep 133 0 count 17 345 17 227 0 174\nstep 134 0 count 17 345 17 227 0 174\nstep 135 0 first 17 345 17 227 0 174\nstep 136 0 middle 17 345 17 227 0 174\nstep 137 0 limits 17 345 17 227 0 174\nstep 138 0 count 17 345 17 227 0 174\nstep 139 0 first 17 345 17 227 0 174\nstep 140 0 middle 17 345 17 227 0 174\nstep 141 0 limits 17 345 17 227 0 174\nstep 142 0 count 17 345 17 227 0 174\nstep 143 0 first 17 345 17 227 0 174\nstep 144 0 middle 17 345 17 227 0 174\nstep 145 0 limits 17 345 17 227 0 174\nstep 146 0 count 17 345 17 227 0 174\nstep 147 0 dirty 18 345 18 227 0 174\nstep 148 0 add 18 345 18 227 0 174\nstep 149 0 add 18 345 18 227 0 174\nstep 150 0 add 18 345 18 227 0 174\nstep 151 0 mark 18 345 18 227 0 174\nstep 152 0 dirty 19 345 19 227 0 174\nstep 153 0 add 19 345 19 227 0 174\nstep 154 0 add 19 345 19 227 0 174\nstep 155 0 add 19 345 19 227 0 174\nstep 156 0 mark 19 345 19 227 0 174\nstep 157 0 dirty 20 345 20 227 0 174\nstep 158 0 add 20 345 20 227 0 174\nstep 159 0 add 20 345 20 227 0 174\nstep 160 0 add 20 345 20 227 0 174\nstep 161 0 mark 20 345 20 227 0 174\nstep 162 0 dirty 21 345 21 227 0 174\nstep 163 0 add 21 345 21 227 0 174\nstep 164 0 add 21 345 21 227 0 174\nstep 165 0 add 21 345 21 227 0 174\nstep 166 0 mark 21 345 21 227 0 174\nstep 167 0 dirty 22 345 22 227 0 174\nstep 168 0 add 22 345 22 227 0 174\nstep 169 0 add 22 345 22 227 0 174\nstep 170 0 add 22 345 22 227 0 174\nstep 171 0 mark 22 345 22 227 0 174\nstep 172 0 dirty 23 345 23 227 0 174\nstep 173 0 add 23 345 23 227 0 174\nstep 174 0 add 23 345 23 227 0 174\nstep 175 0 add 23 345 23 227 0 174\nstep 176 0 mark 23 345 23 227 0 174\nstep 177 0 dirty 24 345 24 227 0 174\nstep 178 0 add 24 345 24 227 0 174\nstep 179 0 add 24 345 24 227 0 174\nstep 180 0 add 24 345 24 227 0 174\nstep 181 0 mark 24 345 24 227 0 174\nstep 182 0 dirty 25 345 25 227 0 174\nstep 183 0 add 25 345 25 227 0 174\nstep 184 0 add 25 345 25 227 0 174\nstep 185 0 add 25 345 25 227 0 174\nstep 186 0 mark 25 345 25 227 0 174\nstep 187 0 dirty 26 345 26 227 0 174\nstep 188 0 add 26 345 26 227 0 174\nstep 189 0 add 26 345 26 227 0 174\nstep 190 0 add 26 345 26 227 0 174\nstep 191 0 mark 26 345 26 227 0 174\nstep 192 0 dirty 27 345 27 227 0 174\nstep 193 0 add 27 345 27 227 0 174\nstep 194 0 add 27 345 27 227 0 174\nstep 195 0 add 27 345 27 227 0 174\nstep 196 0 mark 27 345 27 227 0 174\nstep 197 0 dirty 28 345 28 227 0 174\nstep 198 0 add 28 345 28 227 0 174\nstep 199 0 add 28 345 28 227 0 174\nstep 200 0 add 28 345 28 227 0 174\nstep 201 0 mark 28 345 28 227 0 174\nstep 202 0 dirty 29 345 29 227 0 174\nstep 203 0 add 29 345 29 227 0 174\nstep 204 0 add 29 345 29 227 0 174\nstep 205 0 add 29 345 29 227 0 174\nstep 206 0 mark 29 345 29 227 0 174\nstep 207 0 dirty 30 345 30 227 0 174\nstep 208 0 add 30 345 30 227 0 174\nstep 209 0 add 30 345 30 227 0 174\nstep 210 0 add 30 345 30 227 0 174\nstep 211 0 mark 30 345 30 227 0 174\nstep 212 0 dirty 31 345 31 227 0 174\nstep 213 0 add 31 345 31 227 0 174\nstep 214 0 add 31 345 31 227 0 174\nstep 215 0 add 31 345 31 227 0 174\nstep 216 0 mark 31 345 31 227 0 174\nstep 217 0 dirty 32 345 32 227 0 174\n"

-- steps 218 to 326, each with the count of each domain after it and its bound
abbrev pub checked_steps_2 : List ℕ
checked_steps_2 = codes "step 218 0 add 32 345 32 227 0 174\nstep 219 0 fold 32 345 32 227 0 174\nstep 220 0 clear 32 345 32 227 0 174\nstep 221 0 add 32 345 32 227 0 174\nstep 222 0 add 32 345 32 227 0 174\nstep 223 0 mark 32 345 32 227 0 174\nstep 224 0 first 32 345 32 227 0 174\nstep 225 0 middle 32 345 32 227 0 174\nstep 226 0 limits 32 345 32 227 0 174\nstep 227 0 count 32 345 32 227 0 174\nstep 228 0 first 32 345 32 227 0 174\nstep 229 0 middle 32 345 32 227 0 174\nstep 230 0 limits 32 345 32 227 0 174\nstep 231 0 count 32 345 32 227 0 174\nstep 232 0 count 32 345 32 227 0 174\nstep 233 0 dirty 33 345 33 227 0 174\nstep 234 0 add 33 345 33 227 0 174\nstep 235 0 add 33 345 33 227 0 174\nstep 236 0 add 33 345 33 227 0 174\nstep 237 0 mark 33 345 33 227 0 174\nstep 238 0 dirty 34 345 34 227 0 174\nstep 239 0 add 34 345 34 227 0 174\nstep 240 0 add 34 345 34 227 0 174\nstep 241 0 add 34 345 34 227 0 174\nstep 242 0 mark 34 345 34 227 0 174\nstep 243 0 dirty 35 345 35 227 0 174\nstep 244 0 add 35 345 35 227 0 174\nstep 245 0 add 35 345 35 227 0 174\nstep 246 0 add 35 345 35 227 0 174\nstep 247 0 mark 35 345 35 227 0 174\nstep 248 0 dirty 36 345 36 227 0 174\nstep 249 0 add 36 345 36 227 0 174\nstep 250 0 add 36 345 36 227 0 174\nstep 251 0 add 36 345 36 227 0 174\nstep 252 0 mark 36 345 36 227 0 174\nstep 253 0 first 36 345 36 227 0 174\nstep 254 0 middle 36 345 36 227 0 174\nstep 255 0 limits 36 345 36 227 0 174\nstep 256 0 count 36 345 36 227 0 174\nstep 257 0 first 36 345 36 227 0 174\nstep 258 0 middle 36 345 36 227 0 174\nstep 259 0 limits 36 345 36 227 0 174\nstep 260 0 count 36 345 36 227 0 174\nstep 261 0 count 36 345 36 227 0 174\nstep 262 0 dirty 37 345 36 227 1 174\nstep 263 0 add 37 345 36 227 1 174\nstep 264 0 add 37 345 36 227 1 174\nstep 265 0 add 37 345 36 227 1 174\nstep 266 0 mark 37 345 36 227 1 174\nstep 267 0 dirty 38 345 37 227 1 174\nstep 268 0 add 38 345 37 227 1 174\nstep 269 0 add 38 345 37 227 1 174\nstep 270 0 add 38 345 37 227 1 174\nstep 271 0 mark 38 345 37 227 1 174\nstep 272 0 dirty 39 345 37 227 2 174\nstep 273 0 add 39 345 37 227 2 174\nstep 274 0 add 39 345 37 227 2 174\nstep 275 0 add 39 345 37 227 2 174\nstep 276 0 mark 39 345 37 227 2 174\nstep 277 0 dirty 40 345 38 227 2 174\nstep 278 0 add 40 345 38 227 2 174\nstep 279 0 add 40 345 38 227 2 174\nstep 280 0 add 40 345 38 227 2 174\nstep 281 0 mark 40 345 38 227 2 174\nstep 282 0 dirty 41 345 38 227 3 174\nstep 283 0 add 41 345 38 227 3 174\nstep 284 0 add 41 345 38 227 3 174\nstep 285 0 add 41 345 38 227 3 174\nstep 286 0 mark 41 345 38 227 3 174\nstep 287 0 dirty 42 345 39 227 3 174\nstep 288 0 add 42 345 39 227 3 174\nstep 289 0 add 42 345 39 227 3 174\nstep 290 0 add 42 345 39 227 3 174\nstep 291 0 mark 42 345 39 227 3 174\nstep 292 0 first 42 345 39 227 3 174\nstep 293 0 middle 42 345 39 227 3 174\nstep 294 0 limits 42 345 39 227 3 174\nstep 295 0 count 42 345 39 227 3 174\nstep 296 0 first 42 345 39 227 3 174\nstep 297 0 middle 42 345 39 227 3 174\nstep 298 0 limits 42 345 39 227 3 174\nstep 299 0 count 42 345 39 227 3 174\nstep 300 0 count 42 345 39 227 3 174\nstep 301 0 dirty 43 345 40 227 3 174\nstep 302 0 add 43 345 40 227 3 174\nstep 303 0 add 43 345 40 227 3 174\nstep 304 0 add 43 345 40 227 3 174\nstep 305 0 mark 43 345 40 227 3 174\nstep 306 0 dirty 44 345 41 227 3 174\nstep 307 0 add 44 345 41 227 3 174\nstep 308 0 add 44 345 41 227 3 174\nstep 309 0 add 44 345 41 227 3 174\nstep 310 0 mark 44 345 41 227 3 174\nstep 311 0 first 44 345 41 227 3 174\nstep 312 0 middle 44 345 41 227 3 174\nstep 313 0 limits 44 345 41 227 3 174\nstep 314 0 count 44 345 41 227 3 174\nstep 315 0 first 44 345 41 227 3 174\nstep 316 0 middle 44 345 41 227 3 174\nstep 317 0 limits 44 345 41 227 3 174\nstep 318 0 count 44 345 41 227 3 174\nstep 319 0 count 44 345 41 227 3 174\nstep 320 0 dirty 45 345 42 227 3 174\nstep 321 0 add 45 345 42 227 3 174\nstep 322 0 add 45 345 42 227 3 174\nstep 323 0 add 45 345 42 227 3 174\nstep 324 timer count 45 345 42 227 3 174\nstep 325 timer peak 45 345 42 227 3 174\nstep 326 timer unseal 45 345 42 227 3 174\n"

-- steps 327 to 435, each with the count of each domain after it and its bound
abbrev pub checked_steps_3 : List ℕ
checked_steps_3 = codes "step 327 timer thresh 45 345 42 227 3 174\nstep 328 timer publish 45 345 42 227 3 174\nstep 329 timer count 45 345 42 227 3 174\nstep 330 timer peak 45 345 42 227 3 174\nstep 331 timer unseal 45 345 42 227 3 174\nstep 332 timer thresh 45 345 42 227 3 174\nstep 333 timer publish 45 345 42 227 3 174\nstep 334 timer count 45 345 42 227 3 174\nstep 335 0 mark 45 345 42 227 3 174\nstep 336 0 dirty 46 345 43 227 3 174\nstep 337 0 add 46 345 43 227 3 174\nstep 338 0 add 46 345 43 227 3 174\nstep 339 0 add 46 345 43 227 3 174\nstep 340 0 mark 46 345 43 227 3 174\nstep 341 0 dirty 47 345 44 227 3 174\nstep 342 0 add 47 345 44 227 3 174\nstep 343 0 add 47 345 44 227 3 174\nstep 344 0 add 47 345 44 227 3 174\nstep 345 0 mark 47 345 44 227 3 174\nstep 346 0 dirty 48 345 45 227 3 174\nstep 347 0 add 48 345 45 227 3 174\nstep 348 0 add 48 345 45 227 3 174\nstep 349 0 fold 48 345 45 227 3 174\nstep 350 0 clear 48 345 45 227 3 174\nstep 351 0 add 48 345 45 227 3 174\nstep 352 0 mark 48 345 45 227 3 174\nstep 353 0 first 48 345 45 227 3 174\nstep 354 0 middle 48 345 45 227 3 174\nstep 355 0 limits 48 345 45 227 3 174\nstep 356 0 count 48 345 45 227 3 174\nstep 357 0 first 48 345 45 227 3 174\nstep 358 0 middle 48 345 45 227 3 174\nstep 359 0 limits 48 345 45 227 3 174\nstep 360 0 count 48 345 45 227 3 174\nstep 361 0 count 48 345 45 227 3 174\nstep 362 timer peak 48 345 45 227 3 174\nstep 363 timer unseal 48 345 45 227 3 174\nstep 364 timer thresh 48 345 45 227 3 174\nstep 365 timer publish 48 345 45 227 3 174\nstep 366 0 dirty 49 345 46 227 3 174\nstep 367 0 add 49 345 46 227 3 174\nstep 368 0 add 49 345 46 227 3 174\nstep 369 0 add 49 345 46 227 3 174\nstep 370 0 mark 49 345 46 227 3 174\nstep 371 0 first 49 345 46 227 3 174\nstep 372 0 middle 49 345 46 227 3 174\nstep 373 0 limits 49 345 46 227 3 174\nstep 374 0 count 49 345 46 227 3 174\nstep 375 0 first 49 345 46 227 3 174\nstep 376 0 middle 49 345 46 227 3 174\nstep 377 0 limits 49 345 46 227 3 174\nstep 378 0 count 49 345 46 227 3 174\nstep 379 0 count 49 345 46 227 3 174\nstep 380 0 dirty 50 345 47 227 3 174\nstep 381 0 add 50 345 47 227 3 174\nstep 382 0 add 50 345 47 227 3 174\nstep 383 0 add 50 345 47 227 3 174\nstep 384 0 mark 50 345 47 227 3 174\nstep 385 0 first 50 345 47 227 3 174\nstep 386 0 middle 50 345 47 227 3 174\nstep 387 0 limits 50 345 47 227 3 174\nstep 388 0 count 50 345 47 227 3 174\nstep 389 0 first 50 345 47 227 3 174\nstep 390 0 middle 50 345 47 227 3 174\nstep 391 0 limits 50 345 47 227 3 174\nstep 392 0 count 50 345 47 227 3 174\nstep 393 0 count 50 345 47 227 3 174\nstep 394 0 dirty 51 345 48 227 3 174\nstep 395 0 add 51 345 48 227 3 174\nstep 396 0 fold 51 345 48 227 3 174\nstep 397 0 clear 51 345 48 227 3 174\nstep 398 0 add 51 345 48 227 3 174\nstep 399 0 add 51 345 48 227 3 174\nstep 400 0 fold 51 345 48 227 3 174\nstep 401 0 clear 51 345 48 227 3 174\nstep 402 0 mark 51 345 48 227 3 174\nstep 403 0 first 51 345 48 227 3 174\nstep 404 0 middle 51 345 48 227 3 174\nstep 405 0 limits 51 345 48 227 3 174\nstep 406 0 count 51 345 48 227 3 174\nstep 407 0 first 51 345 48 227 3 174\nstep 408 0 middle 51 345 48 227 3 174\nstep 409 0 limits 51 345 48 227 3 174\nstep 410 0 count 51 345 48 227 3 174\nstep 411 0 count 51 345 48 227 3 174\nstep 412 0 first 51 345 48 227 3 174\nstep 413 0 middle 51 345 48 227 3 174\nstep 414 0 limits 51 345 48 227 3 174\nstep 415 0 count 51 345 48 227 3 174\nstep 416 0 first 51 345 48 227 3 174\nstep 417 0 middle 51 345 48 227 3 174\nstep 418 0 limits 51 345 48 227 3 174\nstep 419 0 count 51 345 48 227 3 174\nstep 420 0 count 51 345 48 227 3 174\nstep 421 1 first 51 345 48 227 3 174\nstep 422 1 middle 51 345 48 227 3 174\nstep 423 1 limits 51 345 48 227 3 174\nstep 424 1 count 51 345 48 227 3 174\nstep 425 1 first 51 345 48 227 3 174\nstep 426 1 middle 51 345 48 227 3 174\nstep 427 1 limits 51 345 48 227 3 174\nstep 428 1 count 51 345 48 227 3 174\nstep 429 1 first 51 345 48 227 3 174\nstep 430 1 middle 51 345 48 227 3 174\nstep 431 1 limits 51 345 48 227 3 174\nstep 432 1 count 51 345 48 227 3 174\nstep 433 1 unmark 51 345 48 227 3 174\nstep 434 1 first 51 345 48 227 3 174\nstep 435 1 middle 51 345 48 227 3 174\n"

-- steps 436 to 544, each with the count of each domain after it and its bound
abbrev pub checked_steps_4 : List ℕ
checked_steps_4 = codes "step 436 1 limits 51 345 48 227 3 174\nstep 437 1 count 51 345 48 227 3 174\nstep 438 1 first 51 345 48 227 3 174\nstep 439 1 middle 51 345 48 227 3 174\nstep 440 1 limits 51 345 48 227 3 174\nstep 441 1 count 51 345 48 227 3 174\nstep 442 1 first 51 345 48 227 3 174\nstep 443 1 middle 51 345 48 227 3 174\nstep 444 1 limits 51 345 48 227 3 174\nstep 445 1 count 51 345 48 227 3 174\nstep 446 1 unmark 51 345 48 227 3 174\nstep 447 1 look 51 345 48 227 3 174\nstep 448 1 claim 51 345 48 227 3 174\nstep 449 1 look 51 345 48 227 3 174\nstep 450 1 claim 51 345 48 227 3 174\nstep 451 1 look 51 345 48 227 3 174\nstep 452 1 claim 51 345 48 227 3 174\nstep 453 1 look 51 345 48 227 3 174\nstep 454 1 claim 51 345 48 227 3 174\nstep 455 1 look 51 345 48 227 3 174\nstep 456 1 claim 51 345 48 227 3 174\nstep 457 1 look 51 345 48 227 3 174\nstep 458 1 claim 51 345 48 227 3 174\nstep 459 1 look 51 345 48 227 3 174\nstep 460 1 claim 51 345 48 227 3 174\nstep 461 1 look 51 345 48 227 3 174\nstep 462 1 claim 51 345 48 227 3 174\nstep 463 1 look 51 345 48 227 3 174\nstep 464 1 claim 51 345 48 227 3 174\nstep 465 1 look 51 345 48 227 3 174\nstep 466 1 claim 51 345 48 227 3 174\nstep 467 1 look 51 345 48 227 3 174\nstep 468 1 claim 51 345 48 227 3 174\nstep 469 1 look 51 345 48 227 3 174\nstep 470 1 claim 51 345 48 227 3 174\nstep 471 1 look 51 345 48 227 3 174\nstep 472 1 claim 51 345 48 227 3 174\nstep 473 1 look 51 345 48 227 3 174\nstep 474 1 claim 51 345 48 227 3 174\nstep 475 1 look 51 345 48 227 3 174\nstep 476 1 claim 51 345 48 227 3 174\nstep 477 1 look 51 345 48 227 3 174\nstep 478 1 claim 51 345 48 227 3 174\nstep 479 1 look 51 345 48 227 3 174\nstep 480 1 claim 51 345 48 227 3 174\nstep 481 1 look 51 345 48 227 3 174\nstep 482 1 claim 51 345 48 227 3 174\nstep 483 1 look 51 345 48 227 3 174\nstep 484 1 claim 51 345 48 227 3 174\nstep 485 1 complete 50 345 48 227 2 174\nstep 486 1 add 50 345 48 227 2 174\nstep 487 1 add 50 345 48 227 2 174\nstep 488 1 add 50 345 48 227 2 174\nstep 489 1 complete 49 345 47 227 2 174\nstep 490 1 add 49 345 47 227 2 174\nstep 491 1 add 49 345 47 227 2 174\nstep 492 1 add 49 345 47 227 2 174\nstep 493 1 complete 48 345 47 227 1 174\nstep 494 1 add 48 345 47 227 1 174\nstep 495 1 add 48 345 47 227 1 174\nstep 496 1 add 48 345 47 227 1 174\nstep 497 1 complete 47 345 46 227 1 174\nstep 498 1 add 47 345 46 227 1 174\nstep 499 1 add 47 345 46 227 1 174\nstep 500 1 add 47 345 46 227 1 174\nstep 501 1 complete 46 345 46 227 0 174\nstep 502 1 add 46 345 46 227 0 174\nstep 503 1 add 46 345 46 227 0 174\nstep 504 1 add 46 345 46 227 0 174\nstep 505 1 complete 45 345 45 227 0 174\nstep 506 1 add 45 345 45 227 0 174\nstep 507 1 add 45 345 45 227 0 174\nstep 508 1 add 45 345 45 227 0 174\nstep 509 1 first 45 345 45 227 0 174\nstep 510 1 middle 45 345 45 227 0 174\nstep 511 1 limits 45 345 45 227 0 174\nstep 512 1 count 45 345 45 227 0 174\nstep 513 1 first 45 345 45 227 0 174\nstep 514 1 middle 45 345 45 227 0 174\nstep 515 1 limits 45 345 45 227 0 174\nstep 516 1 count 45 345 45 227 0 174\nstep 517 1 first 45 345 45 227 0 174\nstep 518 1 middle 45 345 45 227 0 174\nstep 519 1 limits 45 345 45 227 0 174\nstep 520 1 count 45 345 45 227 0 174\nstep 521 1 count 45 345 45 227 0 174\nstep 522 1 complete 44 345 44 227 0 174\nstep 523 1 add 44 345 44 227 0 174\nstep 524 1 add 44 345 44 227 0 174\nstep 525 1 add 44 345 44 227 0 174\nstep 526 1 complete 43 345 43 227 0 174\nstep 527 1 add 43 345 43 227 0 174\nstep 528 1 add 43 345 43 227 0 174\nstep 529 1 add 43 345 43 227 0 174\nstep 530 1 complete 42 345 42 227 0 174\nstep 531 1 add 42 345 42 227 0 174\nstep 532 1 add 42 345 42 227 0 174\nstep 533 1 add 42 345 42 227 0 174\nstep 534 1 complete 41 345 41 227 0 174\nstep 535 1 add 41 345 41 227 0 174\nstep 536 1 add 41 345 41 227 0 174\nstep 537 1 add 41 345 41 227 0 174\nstep 538 1 complete 40 345 40 227 0 174\nstep 539 1 add 40 345 40 227 0 174\nstep 540 1 add 40 345 40 227 0 174\nstep 541 1 add 40 345 40 227 0 174\nstep 542 1 complete 39 345 39 227 0 174\nstep 543 1 add 39 345 39 227 0 174\nstep 544 1 add 39 345 39 227 0 174\n"

-- steps 545 to 653, each with the count of each domain after it and its bound
abbrev pub checked_steps_5 : List ℕ
checked_steps_5 = codes "step 545 1 add 39 345 39 227 0 174\nstep 546 1 complete 38 345 38 227 0 174\nstep 547 1 add 38 345 38 227 0 174\nstep 548 1 add 38 345 38 227 0 174\nstep 549 1 add 38 345 38 227 0 174\nstep 550 1 complete 37 345 37 227 0 174\nstep 551 1 add 37 345 37 227 0 174\nstep 552 1 add 37 345 37 227 0 174\nstep 553 1 add 37 345 37 227 0 174\nstep 554 1 complete 36 345 36 227 0 174\nstep 555 1 add 36 345 36 227 0 174\nstep 556 1 add 36 345 36 227 0 174\nstep 557 1 add 36 345 36 227 0 174\nstep 558 1 complete 35 345 35 227 0 174\nstep 559 1 add 35 345 35 227 0 174\nstep 560 1 add 35 345 35 227 0 174\nstep 561 1 add 35 345 35 227 0 174\nstep 562 1 complete 34 345 34 227 0 174\nstep 563 1 add 34 345 34 227 0 174\nstep 564 1 add 34 345 34 227 0 174\nstep 565 1 add 34 345 34 227 0 174\nstep 566 1 complete 33 345 33 227 0 174\nstep 567 1 add 33 345 33 227 0 174\nstep 568 1 add 33 345 33 227 0 174\nstep 569 1 add 33 345 33 227 0 174\nstep 570 1 complete 32 345 32 227 0 174\nstep 571 1 add 32 345 32 227 0 174\nstep 572 1 fold 32 345 32 227 0 174\nstep 573 1 clear 32 345 32 227 0 174\nstep 574 1 add 32 345 32 227 0 174\nstep 575 1 add 32 345 32 227 0 174\nstep 576 1 first 32 345 32 227 0 174\nstep 577 1 middle 32 345 32 227 0 174\nstep 578 1 limits 32 345 32 227 0 174\nstep 579 timer count 32 345 32 227 0 174\nstep 580 timer peak 32 345 32 227 0 174\nstep 581 timer unseal 32 345 32 227 0 174\nstep 582 timer thresh 32 345 32 227 0 174\nstep 583 timer publish 32 345 32 227 0 174\nstep 584 timer count 32 345 32 227 0 174\nstep 585 timer peak 32 345 32 227 0 174\nstep 586 timer unseal 32 345 32 227 0 174\nstep 587 timer thresh 32 345 32 227 0 174\nstep 588 timer publish 32 345 32 227 0 174\nstep 589 timer count 32 345 32 227 0 174\nstep 590 timer peak 32 345 32 227 0 174\nstep 591 timer unseal 32 345 32 227 0 174\nstep 592 timer thresh 32 345 32 227 0 174\nstep 593 timer publish 32 345 32 227 0 174\nstep 594 0 first 32 345 32 227 0 174\nstep 595 0 middle 32 345 32 227 0 174\nstep 596 0 limits 32 345 32 227 0 174\nstep 597 0 count 32 345 32 227 0 174\nstep 598 0 first 32 345 32 227 0 174\nstep 599 0 middle 32 345 32 227 0 174\nstep 600 0 limits 32 345 32 227 0 174\nstep 601 0 count 32 345 32 227 0 174\nstep 602 0 first 32 345 32 227 0 174\nstep 603 0 middle 32 345 32 227 0 174\nstep 604 0 limits 32 345 32 227 0 174\nstep 605 0 count 32 345 32 227 0 174\nstep 606 0 count 32 345 32 227 0 174\nstep 607 0 unmark 32 345 32 227 0 174\nstep 608 0 first 32 345 32 227 0 174\nstep 609 0 middle 32 345 32 227 0 174\nstep 610 0 limits 32 345 32 227 0 174\nstep 611 0 count 32 345 32 227 0 174\nstep 612 0 first 32 345 32 227 0 174\nstep 613 0 middle 32 345 32 227 0 174\nstep 614 0 limits 32 345 32 227 0 174\nstep 615 0 count 32 345 32 227 0 174\nstep 616 0 first 32 345 32 227 0 174\nstep 617 0 middle 32 345 32 227 0 174\nstep 618 0 limits 32 345 32 227 0 174\nstep 619 0 count 32 345 32 227 0 174\nstep 620 0 unmark 32 345 32 227 0 174\nstep 621 0 first 32 345 32 227 0 174\nstep 622 0 middle 32 345 32 227 0 174\nstep 623 0 limits 32 345 32 227 0 174\nstep 624 0 count 32 345 32 227 0 174\nstep 625 0 first 32 345 32 227 0 174\nstep 626 0 middle 32 345 32 227 0 174\nstep 627 0 limits 32 345 32 227 0 174\nstep 628 0 count 32 345 32 227 0 174\nstep 629 0 count 32 345 32 227 0 174\nstep 630 0 look 32 345 32 227 0 174\nstep 631 0 claim 32 345 32 227 0 174\nstep 632 0 look 32 345 32 227 0 174\nstep 633 0 claim 32 345 32 227 0 174\nstep 634 0 look 32 345 32 227 0 174\nstep 635 0 claim 32 345 32 227 0 174\nstep 636 0 look 32 345 32 227 0 174\nstep 637 0 claim 32 345 32 227 0 174\nstep 638 0 look 32 345 32 227 0 174\nstep 639 0 claim 32 345 32 227 0 174\nstep 640 0 look 32 345 32 227 0 174\nstep 641 0 claim 32 345 32 227 0 174\nstep 642 0 look 32 345 32 227 0 174\nstep 643 0 claim 32 345 32 227 0 174\nstep 644 0 look 32 345 32 227 0 174\nstep 645 0 claim 32 345 32 227 0 174\nstep 646 0 look 32 345 32 227 0 174\nstep 647 0 claim 32 345 32 227 0 174\nstep 648 0 look 32 345 32 227 0 174\nstep 649 0 claim 32 345 32 227 0 174\nstep 650 0 look 32 345 32 227 0 174\nstep 651 0 claim 32 345 32 227 0 174\nstep 652 0 look 32 345 32 227 0 174\nstep 653 0 claim 32 345 32 227 0 174\n"

-- steps 654 to 762, each with the count of each domain after it and its bound
abbrev pub checked_steps_6 : List ℕ
checked_steps_6 = codes "step 654 0 look 32 345 32 227 0 174\nstep 655 0 claim 32 345 32 227 0 174\nstep 656 0 look 32 345 32 227 0 174\nstep 657 0 claim 32 345 32 227 0 174\nstep 658 0 look 32 345 32 227 0 174\nstep 659 0 claim 32 345 32 227 0 174\nstep 660 0 look 32 345 32 227 0 174\nstep 661 0 claim 32 345 32 227 0 174\nstep 662 0 look 32 345 32 227 0 174\nstep 663 0 claim 32 345 32 227 0 174\nstep 664 0 look 32 345 32 227 0 174\nstep 665 0 claim 32 345 32 227 0 174\nstep 666 0 look 32 345 32 227 0 174\nstep 667 0 claim 32 345 32 227 0 174\nstep 668 0 look 32 345 32 227 0 174\nstep 669 0 claim 32 345 32 227 0 174\nstep 670 0 look 32 345 32 227 0 174\nstep 671 0 claim 32 345 32 227 0 174\nstep 672 0 look 32 345 32 227 0 174\nstep 673 0 claim 32 345 32 227 0 174\nstep 674 0 look 32 345 32 227 0 174\nstep 675 0 claim 32 345 32 227 0 174\nstep 676 0 look 32 345 32 227 0 174\nstep 677 0 claim 32 345 32 227 0 174\nstep 678 0 look 32 345 32 227 0 174\nstep 679 0 claim 32 345 32 227 0 174\nstep 680 0 look 32 345 32 227 0 174\nstep 681 0 claim 32 345 32 227 0 174\nstep 682 0 look 32 345 32 227 0 174\nstep 683 0 claim 32 345 32 227 0 174\nstep 684 0 look 32 345 32 227 0 174\nstep 685 0 claim 32 345 32 227 0 174\nstep 686 0 look 32 345 32 227 0 174\nstep 687 0 claim 32 345 32 227 0 174\nstep 688 0 look 32 345 32 227 0 174\nstep 689 0 claim 32 345 32 227 0 174\nstep 690 0 look 32 345 32 227 0 174\nstep 691 0 claim 32 345 32 227 0 174\nstep 692 0 look 32 345 32 227 0 174\nstep 693 0 claim 32 345 32 227 0 174\nstep 694 1 count 32 345 32 227 0 174\nstep 695 1 first 32 345 32 227 0 174\nstep 696 1 middle 32 345 32 227 0 174\nstep 697 1 limits 32 345 32 227 0 174\nstep 698 1 count 32 345 32 227 0 174\nstep 699 1 first 32 345 32 227 0 174\nstep 700 1 middle 32 345 32 227 0 174\nstep 701 1 limits 32 345 32 227 0 174\nstep 702 1 count 32 345 32 227 0 174\nstep 703 1 first 32 345 32 227 0 174\nstep 704 1 middle 32 345 32 227 0 174\nstep 705 1 limits 32 345 32 227 0 174\nstep 706 1 count 32 345 32 227 0 174\nstep 707 1 first 32 345 32 227 0 174\nstep 708 1 middle 32 345 32 227 0 174\nstep 709 1 limits 32 345 32 227 0 174\nstep 710 1 count 32 345 32 227 0 174\nstep 711 1 first 32 345 32 227 0 174\nstep 712 1 middle 32 345 32 227 0 174\nstep 713 1 limits 32 345 32 227 0 174\nstep 714 1 count 32 345 32 227 0 174\nstep 715 1 count 32 345 32 227 0 174\nstep 716 1 first 32 345 32 227 0 174\nstep 717 1 middle 32 345 32 227 0 174\nstep 718 1 limits 32 345 32 227 0 174\nstep 719 1 count 32 345 32 227 0 174\nstep 720 1 first 32 345 32 227 0 174\nstep 721 1 middle 32 345 32 227 0 174\nstep 722 1 limits 32 345 32 227 0 174\nstep 723 1 count 32 345 32 227 0 174\nstep 724 1 first 32 345 32 227 0 174\nstep 725 1 middle 32 345 32 227 0 174\nstep 726 1 limits 32 345 32 227 0 174\nstep 727 1 count 32 345 32 227 0 174\nstep 728 0 dirty 33 345 33 227 0 174\nstep 729 0 add 33 345 33 227 0 174\nstep 730 0 add 33 345 33 227 0 174\nstep 731 0 add 33 345 33 227 0 174\nstep 732 0 mark 33 345 33 227 0 174\nstep 733 0 first 33 345 33 227 0 174\nstep 734 0 middle 33 345 33 227 0 174\nstep 735 0 limits 33 345 33 227 0 174\nstep 736 0 count 33 345 33 227 0 174\nstep 737 0 first 33 345 33 227 0 174\nstep 738 0 middle 33 345 33 227 0 174\nstep 739 0 limits 33 345 33 227 0 174\nstep 740 0 count 33 345 33 227 0 174\nstep 741 0 count 33 345 33 227 0 174\nstep 742 1 unmark 33 345 33 227 0 174\nstep 743 1 look 33 345 33 227 0 174\nstep 744 1 look 33 345 33 227 0 174\nstep 745 1 look 33 345 33 227 0 174\nstep 746 1 look 33 345 33 227 0 174\nstep 747 1 mark 33 345 33 227 0 174\nstep 748 0 complete 32 345 32 227 0 174\nstep 749 0 add 32 345 32 227 0 174\nstep 750 0 add 32 345 32 227 0 174\nstep 751 0 add 32 345 32 227 0 174\nstep 752 0 complete 31 345 31 227 0 174\nstep 753 1 unmark 31 345 31 227 0 174\nstep 754 1 look 31 345 31 227 0 174\nstep 755 1 claim 31 345 31 227 0 174\nstep 756 1 look 31 345 31 227 0 174\nstep 757 1 look 31 345 31 227 0 174\nstep 758 1 look 31 345 31 227 0 174\nstep 759 1 complete 30 345 30 227 0 174\nstep 760 1 add 30 345 30 227 0 174\nstep 761 1 add 30 345 30 227 0 174\nstep 762 1 add 30 345 30 227 0 174\n"

-- what is left, the sums, and how the run ended
abbrev pub checked_end : List ℕ
checked_end = codes "left 2 writeback\nleft 3 writeback\nleft 23 writeback\nleft 24 writeback\nleft 25 writeback\nleft 26 writeback\nleft 27 writeback\nleft 28 writeback\nleft 29 writeback\nleft 30 writeback\nleft 31 writeback\nleft 32 writeback\nleft 33 writeback\nleft 34 writeback\nleft 35 writeback\nleft 36 writeback\nleft 37 writeback\nleft 38 writeback\nleft 39 writeback\nleft 40 writeback\nleft 41 writeback\nleft 42 writeback\nleft 43 writeback\nleft 44 writeback\nleft 45 writeback\nleft 46 writeback\nleft 47 writeback\nleft 48 writeback\nleft 49 writeback\nleft 50 writeback\ncensus 0 30\ntotals 52 22\nend halted\n"

-- the ordered run of this trace has just this journal
unfoldable pub CheckedRun : Type 0
CheckedRun =
    journal_text (journal_of checked_trace)
    ≡ checked_timer ++ checked_cpu_0 ++ checked_cpu_1 ++ checked_steps_0 ++ checked_steps_1 ++ checked_steps_2
    ++ checked_steps_3 ++ checked_steps_4 ++ checked_steps_5 ++ checked_steps_6 ++ checked_end
