-- A worked run of a larger machine: three CPUs, a fast and a slow disk, a context on each, and inodes that wait for their turn.
use Rattle.std.specs.Prelude.{◌≡◌, List, ℕ, [], ◌∷◌, None, codes, ◌++◌, false}
use Rattle.wbt_trace.specs.declared.trace.Action.TheVariants.{Write}
use Rattle.wbt_trace.specs.declared.trace.Order.TheVariants.{Steps}
use Rattle.wbt_trace.specs.declared.trace.Trace.{Trace}
use Rattle.wbt_replay_order.specs.Definition.Run.{journal_of}
use Rattle.wbt_journal.specs.Text.{journal_text}
use Rattle.wbt_replay_worked.specs.Worked.{no_settings}

-- Disk 0 writes 25600 pages a second, disk 1 only 7, and has two flushers. Tasks 0 and 2 share CPU 0 with one of them, the
-- other two flushers share CPU 2. Pages 8, 11, 12, 16 and 17 are written twice.
abbrev pub two_disks_trace : Trace
two_disks_trace = record {
  cpus = 3;
  cap = 64;
  settings = no_settings;
  avail = (record { from = 0; pages = 100000 }) ∷ [];
  devices = (record { rate = 25600; min = 0; max = 100; strict = false; chunk = None; cyclic = false }) ∷ (record { rate = 7; min = 0; max = 100; strict = false; chunk = None; cyclic = false }) ∷ [];
  cgroups = [];
  contexts = (record { device = 0; domain = 0; expire = None; estimate = None }) ∷ (record { device = 1; domain = 0; expire = None; estimate = None }) ∷ [];
  inodes =
      (record { context = 0; first = 0; pages = 10 }) ∷ (record { context = 1; first = 10; pages = 3 })
      ∷ (record { context = 0; first = 13; pages = 6 }) ∷ (record { context = 1; first = 19; pages = 2 })
      ∷ (record { context = 0; first = 21; pages = 3 }) ∷ [];
  tasks = (record { cpu = 0; pace = None }) ∷ (record { cpu = 1; pace = None }) ∷ (record { cpu = 0; pace = None }) ∷ [];
  flushers = (record { device = 0; cpu = 2 }) ∷ (record { device = 1; cpu = 2 }) ∷ (record { device = 1; cpu = 0 }) ∷ [];
  actions =
      Write 0 0 0 9 ∷ Write 1 1 0 3 ∷ Write 2 2 1 4 ∷ Write 0 0 8 2 ∷ Write 1 4 0 2 ∷ Write 1 1 1 2 ∷ Write 1 3 0 2 ∷ Write 1 2 3 3
      ∷ [];
  order = Steps 0 8 ∷ Steps 1 3 ∷ Steps 2 1 ∷ Steps 1 4 ∷ Steps 0 1 ∷ Steps 2 6 ∷ [];
  halt = None;
}

-- what the timer did, and the CPUs
abbrev pub two_disks_timer : List ℕ
two_disks_timer = codes "timer\nlimits 0 1 19995 9985 19995\n"

-- what CPU 0 did
abbrev pub two_disks_cpu_0 : List ℕ
two_disks_cpu_0 = codes "cpu 0\nwrite 0 0 fresh\nwrite 2 14 fresh\nwrite 0 1 fresh\nwrite 2 15 fresh\nwrite 0 2 fresh\nwrite 2 16 fresh\nwrite 0 3 fresh\nwrite 2 17 fresh\nwrite 0 4 fresh\nwrite 0 5 fresh\nwrite 0 6 fresh\nwrite 0 7 fresh\nwrite 0 8 fresh\nwrite 0 8 already\nwrite 0 9 fresh\nclaim 2 10\nclaim 2 11\nclaim 2 12\nbatch 2 3 1 430\ndone 2 10\ndone 2 11\ndone 2 12\nshare 0 1 3\n"

-- what CPU 1 did
abbrev pub two_disks_cpu_1 : List ℕ
two_disks_cpu_1 = codes "cpu 1\nwrite 1 10 fresh\nwrite 1 11 fresh\nwrite 1 12 fresh\nwrite 1 21 fresh\nwrite 1 22 fresh\nwrite 1 11 already\nwrite 1 12 already\nwrite 1 19 fresh\nwrite 1 20 fresh\nwrite 1 16 already\nwrite 1 17 already\nwrite 1 18 fresh\n"

-- The inodes of the fast disk come in the order in which they were marked: 0, 2 and 4. CPU 2 completes seventeen pages of their
-- context, and so folds 16 of them.
abbrev pub two_disks_cpu_2 : List ℕ
two_disks_cpu_2 = codes "cpu 2\nclaim 0 0\nclaim 1 19\nclaim 0 1\nclaim 1 20\nbatch 1 2 1 287\nclaim 0 2\nclaim 0 3\nclaim 0 4\nclaim 0 5\nclaim 0 6\nclaim 0 7\nclaim 0 8\nclaim 0 9\nbatch 0 10 1 2\ndone 0 0\ndone 0 1\ndone 0 2\ndone 0 3\ndone 0 4\ndone 0 5\ndone 0 6\ndone 0 7\ndone 0 8\ndone 0 9\nshare 0 0 10\nclaim 0 14\nclaim 0 15\nclaim 0 16\nclaim 0 17\nclaim 0 18\nbatch 0 5 2 3\ndone 0 14\ndone 0 15\ndone 0 16\ndone 0 17\ndone 0 18\nshare 0 0 5\nclaim 0 21\nclaim 0 22\nbatch 0 2 3 4\ndone 0 21\nfold c0 1 -16\ndone 0 22\nshare 0 0 2\ndone 1 19\ndone 1 20\nshare 0 1 2\n"

-- The bound is the threshold, a batch of 32 pages on each CPU, the caps of four writers and twice the error of 48 pages for each
-- context: 19995 + 3 * 32 + 4 * 64 + 2 * 48 * 2. A task is a writer in each context of an inode that it writes.
abbrev pub two_disks_steps_0 : List ℕ
two_disks_steps_0 = codes "steps\nstep 1 0 dirty 1 20539\nstep 2 0 add 1 20539\nstep 3 0 add 1 20539\nstep 4 0 mark 1 20539\nstep 5 0 first 1 20539\nstep 6 0 middle 1 20539\nstep 7 0 limits 1 20539\nstep 8 0 count 1 20539\nstep 9 1 dirty 2 20539\nstep 10 1 add 2 20539\nstep 11 1 add 2 20539\nstep 12 2 first 2 20539\nstep 13 1 mark 2 20539\nstep 14 1 dirty 3 20539\nstep 15 1 add 3 20539\nstep 16 1 add 3 20539\nstep 17 0 dirty 4 20539\nstep 18 2 middle 4 20539\nstep 19 2 limits 4 20539\nstep 20 2 count 4 20539\nstep 21 2 first 4 20539\nstep 22 2 middle 4 20539\nstep 23 2 limits 4 20539\nstep 24 0 add 4 20539\nstep 25 0 add 4 20539\nstep 26 0 mark 4 20539\nstep 27 1 mark 4 20539\nstep 28 2 count 4 20539\nstep 29 0 dirty 5 20539\nstep 30 0 add 5 20539\nstep 31 0 add 5 20539\nstep 32 0 mark 5 20539\nstep 33 1 dirty 6 20539\nstep 34 1 add 6 20539\nstep 35 1 add 6 20539\nstep 36 1 mark 6 20539\nstep 37 0 dirty 7 20539\nstep 38 0 add 7 20539\nstep 39 0 add 7 20539\nstep 40 0 mark 7 20539\nstep 41 1 dirty 8 20539\nstep 42 1 add 8 20539\nstep 43 1 add 8 20539\nstep 44 1 mark 8 20539\n"

-- steps 45 to 89, each with the count of all pages after it and its bound
abbrev pub two_disks_steps_1 : List ℕ
two_disks_steps_1 = codes "step 45 0 dirty 9 20539\nstep 46 0 add 9 20539\nstep 47 0 add 9 20539\nstep 48 0 mark 9 20539\nstep 49 1 dirty 10 20539\nstep 50 1 add 10 20539\nstep 51 1 add 10 20539\nstep 52 1 mark 10 20539\nstep 53 0 dirty 11 20539\nstep 54 0 add 11 20539\nstep 55 0 add 11 20539\nstep 56 0 mark 11 20539\nstep 57 1 dirty 11 20539\nstep 58 0 dirty 12 20539\nstep 59 0 add 12 20539\nstep 60 0 add 12 20539\nstep 61 0 mark 12 20539\nstep 62 1 dirty 12 20539\nstep 63 0 dirty 13 20539\nstep 64 0 add 13 20539\nstep 65 0 add 13 20539\nstep 66 0 mark 13 20539\nstep 67 1 dirty 14 20539\nstep 68 1 add 14 20539\nstep 69 1 add 14 20539\nstep 70 1 mark 14 20539\nstep 71 0 dirty 15 20539\nstep 72 0 add 15 20539\nstep 73 0 add 15 20539\nstep 74 0 mark 15 20539\nstep 75 1 dirty 16 20539\nstep 76 1 add 16 20539\nstep 77 1 add 16 20539\nstep 78 1 mark 16 20539\nstep 79 0 dirty 17 20539\nstep 80 0 add 17 20539\nstep 81 0 add 17 20539\nstep 82 0 mark 17 20539\nstep 83 1 dirty 17 20539\nstep 84 0 dirty 18 20539\nstep 85 0 add 18 20539\nstep 86 0 add 18 20539\nstep 87 0 mark 18 20539\nstep 88 1 dirty 18 20539\nstep 89 0 dirty 19 20539\n"

-- steps 90 to 134, each with the count of all pages after it and its bound
abbrev pub two_disks_steps_2 : List ℕ
two_disks_steps_2 = codes "step 90 0 add 19 20539\nstep 91 0 add 19 20539\nstep 92 0 mark 19 20539\nstep 93 1 dirty 20 20539\nstep 94 1 add 20 20539\nstep 95 1 add 20 20539\nstep 96 1 mark 20 20539\nstep 97 0 dirty 21 20539\nstep 98 0 add 21 20539\nstep 99 0 add 21 20539\nstep 100 0 mark 21 20539\nstep 101 0 dirty 21 20539\nstep 102 0 dirty 22 20539\nstep 103 0 add 22 20539\nstep 104 0 add 22 20539\nstep 105 0 mark 22 20539\nstep 106 2 unmark 22 20539\nstep 107 0 unmark 22 20539\nstep 108 2 unmark 22 20539\nstep 109 0 look 22 20539\nstep 110 0 claim 22 20539\nstep 111 2 look 22 20539\nstep 112 2 claim 22 20539\nstep 113 0 look 22 20539\nstep 114 0 claim 22 20539\nstep 115 2 look 22 20539\nstep 116 2 claim 22 20539\nstep 117 0 look 22 20539\nstep 118 0 claim 22 20539\nstep 119 2 look 22 20539\nstep 120 2 claim 22 20539\nstep 121 2 look 22 20539\nstep 122 2 claim 22 20539\nstep 123 2 look 22 20539\nstep 124 2 claim 22 20539\nstep 125 2 look 22 20539\nstep 126 2 claim 22 20539\nstep 127 2 look 22 20539\nstep 128 2 claim 22 20539\nstep 129 2 look 22 20539\nstep 130 2 claim 22 20539\nstep 131 2 look 22 20539\nstep 132 2 claim 22 20539\nstep 133 2 look 22 20539\nstep 134 2 claim 22 20539\n"

-- steps 135 to 179, each with the count of all pages after it and its bound
abbrev pub two_disks_steps_3 : List ℕ
two_disks_steps_3 = codes "step 135 2 look 22 20539\nstep 136 2 claim 22 20539\nstep 137 2 look 22 20539\nstep 138 2 claim 22 20539\nstep 139 2 complete 21 20539\nstep 140 2 add 21 20539\nstep 141 2 add 21 20539\nstep 142 2 complete 20 20539\nstep 143 2 add 20 20539\nstep 144 2 add 20 20539\nstep 145 2 complete 19 20539\nstep 146 2 add 19 20539\nstep 147 2 add 19 20539\nstep 148 2 complete 18 20539\nstep 149 2 add 18 20539\nstep 150 2 add 18 20539\nstep 151 2 complete 17 20539\nstep 152 2 add 17 20539\nstep 153 2 add 17 20539\nstep 154 2 complete 16 20539\nstep 155 2 add 16 20539\nstep 156 2 add 16 20539\nstep 157 2 complete 15 20539\nstep 158 2 add 15 20539\nstep 159 2 add 15 20539\nstep 160 2 complete 14 20539\nstep 161 2 add 14 20539\nstep 162 2 add 14 20539\nstep 163 2 complete 13 20539\nstep 164 2 add 13 20539\nstep 165 2 add 13 20539\nstep 166 2 complete 12 20539\nstep 167 2 add 12 20539\nstep 168 2 add 12 20539\nstep 169 2 unmark 12 20539\nstep 170 2 look 12 20539\nstep 171 2 look 12 20539\nstep 172 2 claim 12 20539\nstep 173 2 look 12 20539\nstep 174 2 claim 12 20539\nstep 175 2 look 12 20539\nstep 176 2 claim 12 20539\nstep 177 2 look 12 20539\nstep 178 2 claim 12 20539\nstep 179 2 look 12 20539\n"

-- steps 180 to 224, each with the count of all pages after it and its bound
abbrev pub two_disks_steps_4 : List ℕ
two_disks_steps_4 = codes "step 180 2 claim 12 20539\nstep 181 2 complete 11 20539\nstep 182 2 add 11 20539\nstep 183 2 add 11 20539\nstep 184 2 complete 10 20539\nstep 185 2 add 10 20539\nstep 186 2 add 10 20539\nstep 187 2 complete 9 20539\nstep 188 2 add 9 20539\nstep 189 2 add 9 20539\nstep 190 2 complete 8 20539\nstep 191 2 add 8 20539\nstep 192 2 add 8 20539\nstep 193 2 complete 7 20539\nstep 194 2 add 7 20539\nstep 195 2 add 7 20539\nstep 196 2 unmark 7 20539\nstep 197 2 look 7 20539\nstep 198 2 claim 7 20539\nstep 199 2 look 7 20539\nstep 200 2 claim 7 20539\nstep 201 2 look 7 20539\nstep 202 2 complete 6 20539\nstep 203 2 add 6 20539\nstep 204 2 fold 6 20539\nstep 205 2 clear 6 20539\nstep 206 2 add 6 20539\nstep 207 2 complete 5 20539\nstep 208 2 add 5 20539\nstep 209 2 add 5 20539\nstep 210 2 complete 4 20539\nstep 211 2 add 4 20539\nstep 212 2 add 4 20539\nstep 213 2 complete 3 20539\nstep 214 2 add 3 20539\nstep 215 2 add 3 20539\nstep 216 0 complete 2 20539\nstep 217 0 add 2 20539\nstep 218 0 add 2 20539\nstep 219 0 complete 1 20539\nstep 220 0 add 1 20539\nstep 221 0 add 1 20539\nstep 222 0 complete 0 20539\nstep 223 0 add 0 20539\nstep 224 0 add 0 20539\n"

-- nothing is left; the sums, and how the run ended
abbrev pub two_disks_end : List ℕ
two_disks_end = codes "census 0 0\ntotals 22 22\nend done\n"

-- the ordered run of this trace has just this journal
unfoldable pub TwoDisksRun : Type 0
TwoDisksRun =
    journal_text (journal_of two_disks_trace)
    ≡ two_disks_timer ++ two_disks_cpu_0 ++ two_disks_cpu_1 ++ two_disks_cpu_2 ++ two_disks_steps_0 ++ two_disks_steps_1 ++ two_disks_steps_2 ++ two_disks_steps_3 ++ two_disks_steps_4 ++ two_disks_end
