-- Worked runs of estimates: of which moment a sample is, what becomes of a rate limit at the setpoint itself, and what a trace gives at first.
use Rattle.std.specs.Prelude.{◌≡◌, ℕ, List, [], ◌∷◌, Some, None, codes, ◌++◌, false}
use Rattle.wbt_trace.specs.declared.trace.Action.TheVariants.{Write, Rest}
use Rattle.wbt_trace.specs.declared.trace.Order.TheVariants.{Steps, Tick}
use Rattle.wbt_trace.specs.declared.trace.Trace.{Trace}
use Rattle.wbt_replay_order.specs.Definition.Run.{journal_of}
use Rattle.wbt_journal.specs.Text.{journal_text}
use Rattle.wbt_replay_worked.specs.Worked.{small}

-- ---- the clock moves in the middle of a flusher's turn

-- The turn begins at moment 201 and loads the limits and the count of the domain. Then the clock moves by 7 ticks.
abbrev pub sample_moment_trace : Trace
sample_moment_trace = record (small 1 (Rest 0 300 ∷ Write 0 0 0 1 ∷ [])) {
  avail = (record { from = 0; pages = 1000 }) ∷ [];
  devices = (record { rate = 128; min = 0; max = 100; strict = false; chunk = None; cyclic = false }) ∷ [];
  order = Tick 200 ∷ Steps 0 4 ∷ Tick 7 ∷ [];
}

-- what the timer did
abbrev pub sample_moment_timer : List ℕ
sample_moment_timer = codes "timer\nlimits 0 1 199 99 199\nlimits 0 208 199 99 199\nlimits 0 408 199 99 199\n"

-- The sample is of moment 201, so that the next one is due at 401.
abbrev pub sample_moment_cpu_0 : List ℕ
sample_moment_cpu_0 = codes "cpu 0\nest 0 1 24350 25600 25600 25600 0 0 201\nest 0 2 23161 25444 25600 25600 0 0 401\nwrite 0 0 fresh\nclaim 0 0\nbatch 0 1 501 509\ndone 0 0\nshare 0 0 1\n"

-- steps 1 to 34, each with the count of all pages after it and its bound
abbrev pub sample_moment_steps : List ℕ
sample_moment_steps = codes "steps\nstep 1 0 first 0 1271\nstep 2 0 middle 0 1271\nstep 3 0 limits 0 1271\nstep 4 0 count 0 1271\nstep 5 0 count 0 1271\nstep 6 timer count 0 1271\nstep 7 timer peak 0 1271\nstep 8 timer unseal 0 1271\nstep 9 timer thresh 0 1271\nstep 10 timer publish 0 1271\nstep 11 0 first 0 1271\nstep 12 0 middle 0 1271\nstep 13 0 limits 0 1271\nstep 14 0 count 0 1271\nstep 15 0 first 0 1271\nstep 16 0 middle 0 1271\nstep 17 0 limits 0 1271\nstep 18 0 count 0 1271\nstep 19 0 count 0 1271\nstep 20 timer count 0 1271\nstep 21 timer peak 0 1271\nstep 22 timer unseal 0 1271\nstep 23 timer thresh 0 1271\nstep 24 timer publish 0 1271\nstep 25 0 dirty 1 1271\nstep 26 0 add 1 1271\nstep 27 0 add 1 1271\nstep 28 0 mark 1 1271\nstep 29 0 unmark 1 1271\nstep 30 0 look 1 1271\nstep 31 0 claim 1 1271\nstep 32 0 complete 0 1271\nstep 33 0 add 0 1271\nstep 34 0 add 0 1271\n"

-- nothing is left; the sums, and how the run ended
abbrev pub sample_moment_end : List ℕ
sample_moment_end = codes "census 0 0\ntotals 1 1\nend done\n"

-- the ordered run of this trace has just this journal
unfoldable pub SampleMomentRun : Type 0
SampleMomentRun =
    journal_text (journal_of sample_moment_trace)
    ≡ sample_moment_timer ++ sample_moment_cpu_0 ++ sample_moment_steps ++ sample_moment_end

-- ---- a domain at its setpoint

-- No page is allowed, so the setpoint is 0, and so is the reading while the CPU's own number of the domain isn't folded.
abbrev pub at_setpoint_trace : Trace
at_setpoint_trace = record (small 16 (Write 0 0 0 8 ∷ Rest 0 200 ∷ Write 0 0 8 8 ∷ Rest 0 250 ∷ Write 0 0 0 1 ∷ [])) {
  avail = (record { from = 0; pages = 0 }) ∷ [];
}

-- what the timer did
abbrev pub at_setpoint_timer : List ℕ
at_setpoint_timer = codes "timer\nlimits 0 1 0 0 0\nlimits 0 201 0 0 0\nlimits 0 401 0 0 0\n"

-- A domain at its setpoint is not below it: the rate limit falls, from 25600 to 22478.
abbrev pub at_setpoint_cpu_0 : List ℕ
at_setpoint_cpu_0 = codes "cpu 0\nwrite 0 0 fresh\nwrite 0 1 fresh\nwrite 0 2 fresh\nwrite 0 3 fresh\nwrite 0 4 fresh\nwrite 0 5 fresh\nwrite 0 6 fresh\nwrite 0 7 fresh\nfold c0 1 8\nwrite 0 8 fresh\nest 0 1 24350 25600 25600 624 0 8 201\nwrite 0 9 fresh\nwrite 0 10 fresh\nwrite 0 11 fresh\nwrite 0 12 fresh\nwrite 0 13 fresh\nwrite 0 14 fresh\nwrite 0 15 fresh\nfold c0 2 8\nread 0 1 0 0 0 0 0 0 0 1\ncount 0 2 16\ncheck 0 0 201 1 free 0 1 0 1 201\nest 0 2 23161 25444 22478 624 0 16 401\nwrite 0 0 already\nclaim 0 0\nclaim 0 1\nclaim 0 2\nclaim 0 3\nclaim 0 4\nclaim 0 5\nclaim 0 6\nclaim 0 7\nclaim 0 8\nclaim 0 9\nclaim 0 10\nclaim 0 11\nclaim 0 12\nclaim 0 13\nclaim 0 14\nclaim 0 15\nbatch 0 16 451 452\ndone 0 0\ndone 0 1\ndone 0 2\ndone 0 3\ndone 0 4\ndone 0 5\ndone 0 6\ndone 0 7\nfold c0 3 -8\ndone 0 8\ndone 0 9\ndone 0 10\ndone 0 11\ndone 0 12\ndone 0 13\ndone 0 14\ndone 0 15\nfold c0 4 -8\nshare 0 0 16\n"

-- steps 1 to 95, each with the count of all pages after it and its bound
abbrev pub at_setpoint_steps_0 : List ℕ
at_setpoint_steps_0 = codes "steps\nstep 1 0 dirty 1 1072\nstep 2 0 add 1 1072\nstep 3 0 add 1 1072\nstep 4 0 mark 1 1072\nstep 5 0 first 1 1072\nstep 6 0 middle 1 1072\nstep 7 0 limits 1 1072\nstep 8 0 count 1 1072\nstep 9 0 dirty 2 1072\nstep 10 0 add 2 1072\nstep 11 0 add 2 1072\nstep 12 0 mark 2 1072\nstep 13 0 dirty 3 1072\nstep 14 0 add 3 1072\nstep 15 0 add 3 1072\nstep 16 0 mark 3 1072\nstep 17 0 dirty 4 1072\nstep 18 0 add 4 1072\nstep 19 0 add 4 1072\nstep 20 0 mark 4 1072\nstep 21 0 dirty 5 1072\nstep 22 0 add 5 1072\nstep 23 0 add 5 1072\nstep 24 0 mark 5 1072\nstep 25 0 dirty 6 1072\nstep 26 0 add 6 1072\nstep 27 0 add 6 1072\nstep 28 0 mark 6 1072\nstep 29 0 dirty 7 1072\nstep 30 0 add 7 1072\nstep 31 0 add 7 1072\nstep 32 0 mark 7 1072\nstep 33 0 dirty 8 1072\nstep 34 0 add 8 1072\nstep 35 0 fold 8 1072\nstep 36 0 clear 8 1072\nstep 37 0 add 8 1072\nstep 38 0 mark 8 1072\nstep 39 0 first 8 1072\nstep 40 0 middle 8 1072\nstep 41 0 limits 8 1072\nstep 42 0 count 8 1072\nstep 43 0 dirty 9 1072\nstep 44 0 add 9 1072\nstep 45 0 add 9 1072\nstep 46 0 mark 9 1072\nstep 47 timer count 9 1072\nstep 48 timer peak 9 1072\nstep 49 timer unseal 9 1072\nstep 50 timer thresh 9 1072\nstep 51 timer publish 9 1072\nstep 52 0 first 9 1072\nstep 53 0 middle 9 1072\nstep 54 0 limits 9 1072\nstep 55 0 count 9 1072\nstep 56 0 count 9 1072\nstep 57 0 dirty 10 1072\nstep 58 0 add 10 1072\nstep 59 0 add 10 1072\nstep 60 0 mark 10 1072\nstep 61 0 dirty 11 1072\nstep 62 0 add 11 1072\nstep 63 0 add 11 1072\nstep 64 0 mark 11 1072\nstep 65 0 dirty 12 1072\nstep 66 0 add 12 1072\nstep 67 0 add 12 1072\nstep 68 0 mark 12 1072\nstep 69 0 dirty 13 1072\nstep 70 0 add 13 1072\nstep 71 0 add 13 1072\nstep 72 0 mark 13 1072\nstep 73 0 dirty 14 1072\nstep 74 0 add 14 1072\nstep 75 0 add 14 1072\nstep 76 0 mark 14 1072\nstep 77 0 dirty 15 1072\nstep 78 0 add 15 1072\nstep 79 0 add 15 1072\nstep 80 0 mark 15 1072\nstep 81 0 dirty 16 1072\nstep 82 0 add 16 1072\nstep 83 0 fold 16 1072\nstep 84 0 clear 16 1072\nstep 85 0 add 16 1072\nstep 86 0 mark 16 1072\nstep 87 0 first 16 1072\nstep 88 0 middle 16 1072\nstep 89 0 limits 16 1072\nstep 90 0 count 16 1072\nstep 91 0 count 16 1072\nstep 92 0 first 16 1072\nstep 93 0 middle 16 1072\nstep 94 0 limits 16 1072\nstep 95 0 count 16 1072\n"

-- steps 96 to 191, each with the count of all pages after it and its bound
abbrev pub at_setpoint_steps_1 : List ℕ
at_setpoint_steps_1 = codes "step 96 0 first 16 1072\nstep 97 0 middle 16 1072\nstep 98 0 limits 16 1072\nstep 99 0 count 16 1072\nstep 100 0 count 16 1072\nstep 101 timer count 16 1072\nstep 102 timer peak 16 1072\nstep 103 timer unseal 16 1072\nstep 104 timer thresh 16 1072\nstep 105 timer publish 16 1072\nstep 106 0 dirty 16 1072\nstep 107 0 unmark 16 1072\nstep 108 0 look 16 1072\nstep 109 0 claim 16 1072\nstep 110 0 look 16 1072\nstep 111 0 claim 16 1072\nstep 112 0 look 16 1072\nstep 113 0 claim 16 1072\nstep 114 0 look 16 1072\nstep 115 0 claim 16 1072\nstep 116 0 look 16 1072\nstep 117 0 claim 16 1072\nstep 118 0 look 16 1072\nstep 119 0 claim 16 1072\nstep 120 0 look 16 1072\nstep 121 0 claim 16 1072\nstep 122 0 look 16 1072\nstep 123 0 claim 16 1072\nstep 124 0 look 16 1072\nstep 125 0 claim 16 1072\nstep 126 0 look 16 1072\nstep 127 0 claim 16 1072\nstep 128 0 look 16 1072\nstep 129 0 claim 16 1072\nstep 130 0 look 16 1072\nstep 131 0 claim 16 1072\nstep 132 0 look 16 1072\nstep 133 0 claim 16 1072\nstep 134 0 look 16 1072\nstep 135 0 claim 16 1072\nstep 136 0 look 16 1072\nstep 137 0 claim 16 1072\nstep 138 0 look 16 1072\nstep 139 0 claim 16 1072\nstep 140 0 complete 15 1072\nstep 141 0 add 15 1072\nstep 142 0 add 15 1072\nstep 143 0 complete 14 1072\nstep 144 0 add 14 1072\nstep 145 0 add 14 1072\nstep 146 0 complete 13 1072\nstep 147 0 add 13 1072\nstep 148 0 add 13 1072\nstep 149 0 complete 12 1072\nstep 150 0 add 12 1072\nstep 151 0 add 12 1072\nstep 152 0 complete 11 1072\nstep 153 0 add 11 1072\nstep 154 0 add 11 1072\nstep 155 0 complete 10 1072\nstep 156 0 add 10 1072\nstep 157 0 add 10 1072\nstep 158 0 complete 9 1072\nstep 159 0 add 9 1072\nstep 160 0 add 9 1072\nstep 161 0 complete 8 1072\nstep 162 0 add 8 1072\nstep 163 0 fold 8 1072\nstep 164 0 clear 8 1072\nstep 165 0 add 8 1072\nstep 166 0 complete 7 1072\nstep 167 0 add 7 1072\nstep 168 0 add 7 1072\nstep 169 0 complete 6 1072\nstep 170 0 add 6 1072\nstep 171 0 add 6 1072\nstep 172 0 complete 5 1072\nstep 173 0 add 5 1072\nstep 174 0 add 5 1072\nstep 175 0 complete 4 1072\nstep 176 0 add 4 1072\nstep 177 0 add 4 1072\nstep 178 0 complete 3 1072\nstep 179 0 add 3 1072\nstep 180 0 add 3 1072\nstep 181 0 complete 2 1072\nstep 182 0 add 2 1072\nstep 183 0 add 2 1072\nstep 184 0 complete 1 1072\nstep 185 0 add 1 1072\nstep 186 0 add 1 1072\nstep 187 0 complete 0 1072\nstep 188 0 add 0 1072\nstep 189 0 fold 0 1072\nstep 190 0 clear 0 1072\nstep 191 0 add 0 1072\n"

-- nothing is left; the sums, and how the run ended
abbrev pub at_setpoint_end : List ℕ
at_setpoint_end = codes "census 0 0\ntotals 16 16\nend done\n"

-- the ordered run of this trace has just this journal
unfoldable pub AtSetpointRun : Type 0
AtSetpointRun =
    journal_text (journal_of at_setpoint_trace)
    ≡ at_setpoint_timer ++ at_setpoint_cpu_0 ++ at_setpoint_steps_0 ++ at_setpoint_steps_1 ++ at_setpoint_end

-- ---- the trace says what a context's estimate is at first

-- That of the task that rests while half of the memory goes away, with 100 pages a second, 100 on average, and a rate limit of 50.
abbrev pub given_estimate_trace : Trace
given_estimate_trace = record (small 2 (Rest 0 300 ∷ Write 0 0 0 1 ∷ [])) {
  avail = (record { from = 0; pages = 100000 }) ∷ (record { from = 150; pages = 50000 }) ∷ [];
  contexts = (record { device = 0; domain = 0; expire = None; estimate = Some (record { bandwidth = 100; average = 100; ratelimit = 50 }) }) ∷ [];
}

-- The first update, at tick 201, goes on from there.
abbrev pub given_estimate_parts : List ℕ
given_estimate_parts = codes "timer\nlimits 0 1 19995 9985 19995\nlimits 0 201 9997 4992 19683\ncpu 0\nest 0 1 95 100 50 100 0 0 201\nwrite 0 0 fresh\nclaim 0 0\nbatch 0 1 301 302\ndone 0 0\nshare 0 0 1\n"

-- steps 1 to 29, each with the count of all pages after it and its bound
abbrev pub given_estimate_steps : List ℕ
given_estimate_steps = codes "steps\nstep 1 0 first 0 21067\nstep 2 0 middle 0 21067\nstep 3 0 limits 0 21067\nstep 4 0 count 0 21067\nstep 5 0 first 0 21067\nstep 6 0 middle 0 21067\nstep 7 0 limits 0 21067\nstep 8 0 count 0 21067\nstep 9 0 first 0 21067\nstep 10 0 middle 0 21067\nstep 11 0 limits 0 21067\nstep 12 0 count 0 21067\nstep 13 0 count 0 21067\nstep 14 timer count 0 21067\nstep 15 timer peak 0 21067\nstep 16 timer unseal 0 21067\nstep 17 timer thresh 0 21067\nstep 18 timer publish 0 21067\nstep 19 0 dirty 1 21067\nstep 20 0 add 1 21067\nstep 21 0 add 1 21067\nstep 22 0 mark 1 21067\nstep 23 0 unmark 1 21067\nstep 24 0 look 1 21067\nstep 25 0 claim 1 21067\nstep 26 0 look 1 21067\nstep 27 0 complete 0 21067\nstep 28 0 add 0 21067\nstep 29 0 add 0 21067\n"

-- nothing is left; the sums, and how the run ended
abbrev pub given_estimate_end : List ℕ
given_estimate_end = codes "census 0 0\ntotals 1 1\nend done\n"

-- the ordered run of this trace has just this journal
unfoldable pub GivenEstimateRun : Type 0
GivenEstimateRun = journal_text (journal_of given_estimate_trace) ≡ given_estimate_parts ++ given_estimate_steps ++ given_estimate_end
