-- Worked runs in which order lines, or a halt, stop a CPU between two of its steps; and a rest that is a task's last action.
use Rattle.std.specs.Prelude.{◌≡◌, ℕ, List, [], ◌∷◌, Some, None, codes, ◌++◌, false}
use Rattle.wbt_trace.specs.declared.trace.Action.TheVariants.{Write, Rest}
use Rattle.wbt_trace.specs.declared.trace.Order.TheVariants.{Steps}
use Rattle.wbt_trace.specs.declared.trace.Trace.{Trace}
use Rattle.wbt_replay_order.specs.Definition.Run.{journal_of}
use Rattle.wbt_journal.specs.Text.{journal_text}
use Rattle.wbt_replay_worked.specs.Worked.{no_settings, small, empty_text, two_pages_trace}

-- ---- a rest is the task's last action

-- The task ends at its first turn, though it rests.
abbrev pub last_rest_trace : Trace
last_rest_trace = small 2 (Rest 0 1000000000 ∷ [])

-- so its journal is that of a task that does nothing
unfoldable pub LastRestRun : Type 0
LastRestRun = journal_text (journal_of last_rest_trace) ≡ empty_text

-- ---- a CPU stops when it has made three steps

-- two pages are to be written, and a CPU stops after three steps
abbrev pub halted_trace : Trace
halted_trace = record two_pages_trace { halt = Some 3 }

-- The page's inode isn't marked any more.
abbrev pub halted_text : List ℕ
halted_text = codes "timer\nlimits 0 1 19995 9985 19995\ncpu 0\nwrite 0 0 fresh\nsteps\nstep 1 0 dirty 1 21067\nstep 2 0 add 1 21067\nstep 3 0 add 1 21067\nleft 0 dirty\ncensus 1 0\ntotals 1 0\nend halted\n"

-- the ordered run of this trace has just this journal
unfoldable pub HaltedRun : Type 0
HaltedRun = journal_text (journal_of halted_trace) ≡ halted_text

-- ---- a CPU is stopped between the fold of a counter and its clear

-- Each of two CPUs writes 32 pages. CPU 0 is to take 132 steps, and CPU 1 then 139, of which the last five are those of its check.
abbrev pub before_clear_trace : Trace
before_clear_trace = record {
  cpus = 3;
  cap = 1024;
  settings = no_settings;
  avail = (record { from = 0; pages = 100000 }) ∷ [];
  devices = (record { rate = 25600; min = 0; max = 100; strict = false; chunk = None; cyclic = false }) ∷ [];
  cgroups = [];
  contexts = (record { device = 0; domain = 0; expire = None; estimate = None }) ∷ [];
  inodes = (record { context = 0; first = 0; pages = 64 }) ∷ [];
  tasks = (record { cpu = 0; pace = None }) ∷ (record { cpu = 1; pace = None }) ∷ [];
  flushers = (record { device = 0; cpu = 2 }) ∷ [];
  actions = Write 0 0 0 32 ∷ Write 1 0 32 32 ∷ [];
  order = Steps 0 132 ∷ Steps 1 139 ∷ [];
  halt = None;
}

-- what the timer and the CPUs did
abbrev pub before_clear_timer : List ℕ
before_clear_timer = codes "timer\nlimits 0 1 19995 9985 19995\n"

-- what CPU 0 did
abbrev pub before_clear_cpu_0 : List ℕ
before_clear_cpu_0 = codes "cpu 0\nwrite 0 0 fresh\nwrite 0 1 fresh\nwrite 0 2 fresh\nwrite 0 3 fresh\nwrite 0 4 fresh\nwrite 0 5 fresh\nwrite 0 6 fresh\nwrite 0 7 fresh\nwrite 0 8 fresh\nwrite 0 9 fresh\nwrite 0 10 fresh\nwrite 0 11 fresh\nwrite 0 12 fresh\nwrite 0 13 fresh\nwrite 0 14 fresh\nwrite 0 15 fresh\nfold c0 1 16\nwrite 0 16 fresh\nwrite 0 17 fresh\nwrite 0 18 fresh\nwrite 0 19 fresh\nwrite 0 20 fresh\nwrite 0 21 fresh\nwrite 0 22 fresh\nwrite 0 23 fresh\nwrite 0 24 fresh\nwrite 0 25 fresh\nwrite 0 26 fresh\nwrite 0 27 fresh\nwrite 0 28 fresh\nwrite 0 29 fresh\nwrite 0 30 fresh\nwrite 0 31 fresh\nfold c0 2 16\nfold d0 1 32\nread 0 0 19995 9985 19995 2 64 0 0 1\ncount 0 4 64\ncheck 0 0 1 0 free 0 128 0 128 1\n"

-- what CPU 1 did
abbrev pub before_clear_cpu_1 : List ℕ
before_clear_cpu_1 = codes "cpu 1\nwrite 1 32 fresh\nwrite 1 33 fresh\nwrite 1 34 fresh\nwrite 1 35 fresh\nwrite 1 36 fresh\nwrite 1 37 fresh\nwrite 1 38 fresh\nwrite 1 39 fresh\nwrite 1 40 fresh\nwrite 1 41 fresh\nwrite 1 42 fresh\nwrite 1 43 fresh\nwrite 1 44 fresh\nwrite 1 45 fresh\nwrite 1 46 fresh\nwrite 1 47 fresh\nfold c0 3 16\nwrite 1 48 fresh\nwrite 1 49 fresh\nwrite 1 50 fresh\nwrite 1 51 fresh\nwrite 1 52 fresh\nwrite 1 53 fresh\nwrite 1 54 fresh\nwrite 1 55 fresh\nwrite 1 56 fresh\nwrite 1 57 fresh\nwrite 1 58 fresh\nwrite 1 59 fresh\nwrite 1 60 fresh\nwrite 1 61 fresh\nwrite 1 62 fresh\nwrite 1 63 fresh\nfold c0 4 16\nfold d0 2 32\nread 0 0 19995 9985 19995 2 64 0 0 1\ncount 0 4 64\ncheck 1 0 1 0 free 0 128 0 128 1\n"

-- what CPU 2 did
abbrev pub before_clear_cpu_2 : List ℕ
before_clear_cpu_2 = codes "cpu 2\nclaim 0 0\nclaim 0 1\nclaim 0 2\nclaim 0 3\nclaim 0 4\nclaim 0 5\nclaim 0 6\nclaim 0 7\nclaim 0 8\nclaim 0 9\nclaim 0 10\nclaim 0 11\nclaim 0 12\nclaim 0 13\nclaim 0 14\nclaim 0 15\nclaim 0 16\nclaim 0 17\nclaim 0 18\nclaim 0 19\nclaim 0 20\nclaim 0 21\nclaim 0 22\nclaim 0 23\nclaim 0 24\nclaim 0 25\nclaim 0 26\nclaim 0 27\nclaim 0 28\nclaim 0 29\nclaim 0 30\nclaim 0 31\nclaim 0 32\nclaim 0 33\nclaim 0 34\nclaim 0 35\nclaim 0 36\nclaim 0 37\nclaim 0 38\nclaim 0 39\nclaim 0 40\nclaim 0 41\nclaim 0 42\nclaim 0 43\nclaim 0 44\nclaim 0 45\nclaim 0 46\nclaim 0 47\nclaim 0 48\nclaim 0 49\nclaim 0 50\nclaim 0 51\nclaim 0 52\nclaim 0 53\nclaim 0 54\nclaim 0 55\nclaim 0 56\nclaim 0 57\nclaim 0 58\nclaim 0 59\nclaim 0 60\nclaim 0 61\nclaim 0 62\nclaim 0 63\nbatch 0 64 1 4\ndone 0 0\ndone 0 1\ndone 0 2\ndone 0 3\ndone 0 4\ndone 0 5\ndone 0 6\ndone 0 7\ndone 0 8\ndone 0 9\ndone 0 10\ndone 0 11\ndone 0 12\ndone 0 13\ndone 0 14\ndone 0 15\nfold c0 5 -16\ndone 0 16\ndone 0 17\ndone 0 18\ndone 0 19\ndone 0 20\ndone 0 21\ndone 0 22\ndone 0 23\ndone 0 24\ndone 0 25\ndone 0 26\ndone 0 27\ndone 0 28\ndone 0 29\ndone 0 30\ndone 0 31\nfold c0 6 -16\nfold d0 3 -32\ndone 0 32\ndone 0 33\ndone 0 34\ndone 0 35\ndone 0 36\ndone 0 37\ndone 0 38\ndone 0 39\ndone 0 40\ndone 0 41\ndone 0 42\ndone 0 43\ndone 0 44\ndone 0 45\ndone 0 46\ndone 0 47\nfold c0 7 -16\ndone 0 48\ndone 0 49\ndone 0 50\ndone 0 51\ndone 0 52\ndone 0 53\ndone 0 54\ndone 0 55\ndone 0 56\ndone 0 57\ndone 0 58\ndone 0 59\ndone 0 60\ndone 0 61\ndone 0 62\ndone 0 63\nfold c0 8 -16\nfold d0 4 -32\nshare 0 0 64\n"

-- In step 132 CPU 0 folds 32 pages into the domain's counter, and it clears its own number only when the order lines are over.
-- In steps 267 to 271 CPU 1 loads the limits and reads 64 pages in each counter. The bound is 19995 + 3 * 32 + 2 * 1024 + 2 * 48.
abbrev pub before_clear_steps_0 : List ℕ
before_clear_steps_0 = codes "steps\nstep 1 0 dirty 1 22235\nstep 2 0 add 1 22235\nstep 3 0 add 1 22235\nstep 4 0 mark 1 22235\nstep 5 0 dirty 2 22235\nstep 6 0 add 2 22235\nstep 7 0 add 2 22235\nstep 8 0 mark 2 22235\nstep 9 0 dirty 3 22235\nstep 10 0 add 3 22235\nstep 11 0 add 3 22235\nstep 12 0 mark 3 22235\nstep 13 0 dirty 4 22235\nstep 14 0 add 4 22235\nstep 15 0 add 4 22235\nstep 16 0 mark 4 22235\nstep 17 0 dirty 5 22235\nstep 18 0 add 5 22235\nstep 19 0 add 5 22235\nstep 20 0 mark 5 22235\nstep 21 0 dirty 6 22235\nstep 22 0 add 6 22235\nstep 23 0 add 6 22235\nstep 24 0 mark 6 22235\nstep 25 0 dirty 7 22235\nstep 26 0 add 7 22235\nstep 27 0 add 7 22235\nstep 28 0 mark 7 22235\nstep 29 0 dirty 8 22235\nstep 30 0 add 8 22235\nstep 31 0 add 8 22235\nstep 32 0 mark 8 22235\nstep 33 0 dirty 9 22235\nstep 34 0 add 9 22235\nstep 35 0 add 9 22235\nstep 36 0 mark 9 22235\nstep 37 0 dirty 10 22235\nstep 38 0 add 10 22235\nstep 39 0 add 10 22235\nstep 40 0 mark 10 22235\nstep 41 0 dirty 11 22235\nstep 42 0 add 11 22235\nstep 43 0 add 11 22235\nstep 44 0 mark 11 22235\nstep 45 0 dirty 12 22235\nstep 46 0 add 12 22235\nstep 47 0 add 12 22235\nstep 48 0 mark 12 22235\nstep 49 0 dirty 13 22235\nstep 50 0 add 13 22235\nstep 51 0 add 13 22235\nstep 52 0 mark 13 22235\nstep 53 0 dirty 14 22235\nstep 54 0 add 14 22235\nstep 55 0 add 14 22235\nstep 56 0 mark 14 22235\nstep 57 0 dirty 15 22235\nstep 58 0 add 15 22235\nstep 59 0 add 15 22235\nstep 60 0 mark 15 22235\nstep 61 0 dirty 16 22235\nstep 62 0 add 16 22235\nstep 63 0 fold 16 22235\nstep 64 0 clear 16 22235\nstep 65 0 add 16 22235\nstep 66 0 mark 16 22235\nstep 67 0 dirty 17 22235\nstep 68 0 add 17 22235\nstep 69 0 add 17 22235\nstep 70 0 mark 17 22235\nstep 71 0 dirty 18 22235\nstep 72 0 add 18 22235\nstep 73 0 add 18 22235\nstep 74 0 mark 18 22235\nstep 75 0 dirty 19 22235\nstep 76 0 add 19 22235\nstep 77 0 add 19 22235\nstep 78 0 mark 19 22235\nstep 79 0 dirty 20 22235\nstep 80 0 add 20 22235\nstep 81 0 add 20 22235\nstep 82 0 mark 20 22235\nstep 83 0 dirty 21 22235\nstep 84 0 add 21 22235\nstep 85 0 add 21 22235\nstep 86 0 mark 21 22235\nstep 87 0 dirty 22 22235\n"

-- steps 88 to 175, each with the count of all pages after it and its bound
abbrev pub before_clear_steps_1 : List ℕ
before_clear_steps_1 = codes "step 88 0 add 22 22235\nstep 89 0 add 22 22235\nstep 90 0 mark 22 22235\nstep 91 0 dirty 23 22235\nstep 92 0 add 23 22235\nstep 93 0 add 23 22235\nstep 94 0 mark 23 22235\nstep 95 0 dirty 24 22235\nstep 96 0 add 24 22235\nstep 97 0 add 24 22235\nstep 98 0 mark 24 22235\nstep 99 0 dirty 25 22235\nstep 100 0 add 25 22235\nstep 101 0 add 25 22235\nstep 102 0 mark 25 22235\nstep 103 0 dirty 26 22235\nstep 104 0 add 26 22235\nstep 105 0 add 26 22235\nstep 106 0 mark 26 22235\nstep 107 0 dirty 27 22235\nstep 108 0 add 27 22235\nstep 109 0 add 27 22235\nstep 110 0 mark 27 22235\nstep 111 0 dirty 28 22235\nstep 112 0 add 28 22235\nstep 113 0 add 28 22235\nstep 114 0 mark 28 22235\nstep 115 0 dirty 29 22235\nstep 116 0 add 29 22235\nstep 117 0 add 29 22235\nstep 118 0 mark 29 22235\nstep 119 0 dirty 30 22235\nstep 120 0 add 30 22235\nstep 121 0 add 30 22235\nstep 122 0 mark 30 22235\nstep 123 0 dirty 31 22235\nstep 124 0 add 31 22235\nstep 125 0 add 31 22235\nstep 126 0 mark 31 22235\nstep 127 0 dirty 32 22235\nstep 128 0 add 32 22235\nstep 129 0 fold 32 22235\nstep 130 0 clear 32 22235\nstep 131 0 add 32 22235\nstep 132 0 fold 32 22235\nstep 133 1 dirty 33 22235\nstep 134 1 add 33 22235\nstep 135 1 add 33 22235\nstep 136 1 mark 33 22235\nstep 137 1 dirty 34 22235\nstep 138 1 add 34 22235\nstep 139 1 add 34 22235\nstep 140 1 mark 34 22235\nstep 141 1 dirty 35 22235\nstep 142 1 add 35 22235\nstep 143 1 add 35 22235\nstep 144 1 mark 35 22235\nstep 145 1 dirty 36 22235\nstep 146 1 add 36 22235\nstep 147 1 add 36 22235\nstep 148 1 mark 36 22235\nstep 149 1 dirty 37 22235\nstep 150 1 add 37 22235\nstep 151 1 add 37 22235\nstep 152 1 mark 37 22235\nstep 153 1 dirty 38 22235\nstep 154 1 add 38 22235\nstep 155 1 add 38 22235\nstep 156 1 mark 38 22235\nstep 157 1 dirty 39 22235\nstep 158 1 add 39 22235\nstep 159 1 add 39 22235\nstep 160 1 mark 39 22235\nstep 161 1 dirty 40 22235\nstep 162 1 add 40 22235\nstep 163 1 add 40 22235\nstep 164 1 mark 40 22235\nstep 165 1 dirty 41 22235\nstep 166 1 add 41 22235\nstep 167 1 add 41 22235\nstep 168 1 mark 41 22235\nstep 169 1 dirty 42 22235\nstep 170 1 add 42 22235\nstep 171 1 add 42 22235\nstep 172 1 mark 42 22235\nstep 173 1 dirty 43 22235\nstep 174 1 add 43 22235\nstep 175 1 add 43 22235\n"

-- steps 176 to 263, each with the count of all pages after it and its bound
abbrev pub before_clear_steps_2 : List ℕ
before_clear_steps_2 = codes "step 176 1 mark 43 22235\nstep 177 1 dirty 44 22235\nstep 178 1 add 44 22235\nstep 179 1 add 44 22235\nstep 180 1 mark 44 22235\nstep 181 1 dirty 45 22235\nstep 182 1 add 45 22235\nstep 183 1 add 45 22235\nstep 184 1 mark 45 22235\nstep 185 1 dirty 46 22235\nstep 186 1 add 46 22235\nstep 187 1 add 46 22235\nstep 188 1 mark 46 22235\nstep 189 1 dirty 47 22235\nstep 190 1 add 47 22235\nstep 191 1 add 47 22235\nstep 192 1 mark 47 22235\nstep 193 1 dirty 48 22235\nstep 194 1 add 48 22235\nstep 195 1 fold 48 22235\nstep 196 1 clear 48 22235\nstep 197 1 add 48 22235\nstep 198 1 mark 48 22235\nstep 199 1 dirty 49 22235\nstep 200 1 add 49 22235\nstep 201 1 add 49 22235\nstep 202 1 mark 49 22235\nstep 203 1 dirty 50 22235\nstep 204 1 add 50 22235\nstep 205 1 add 50 22235\nstep 206 1 mark 50 22235\nstep 207 1 dirty 51 22235\nstep 208 1 add 51 22235\nstep 209 1 add 51 22235\nstep 210 1 mark 51 22235\nstep 211 1 dirty 52 22235\nstep 212 1 add 52 22235\nstep 213 1 add 52 22235\nstep 214 1 mark 52 22235\nstep 215 1 dirty 53 22235\nstep 216 1 add 53 22235\nstep 217 1 add 53 22235\nstep 218 1 mark 53 22235\nstep 219 1 dirty 54 22235\nstep 220 1 add 54 22235\nstep 221 1 add 54 22235\nstep 222 1 mark 54 22235\nstep 223 1 dirty 55 22235\nstep 224 1 add 55 22235\nstep 225 1 add 55 22235\nstep 226 1 mark 55 22235\nstep 227 1 dirty 56 22235\nstep 228 1 add 56 22235\nstep 229 1 add 56 22235\nstep 230 1 mark 56 22235\nstep 231 1 dirty 57 22235\nstep 232 1 add 57 22235\nstep 233 1 add 57 22235\nstep 234 1 mark 57 22235\nstep 235 1 dirty 58 22235\nstep 236 1 add 58 22235\nstep 237 1 add 58 22235\nstep 238 1 mark 58 22235\nstep 239 1 dirty 59 22235\nstep 240 1 add 59 22235\nstep 241 1 add 59 22235\nstep 242 1 mark 59 22235\nstep 243 1 dirty 60 22235\nstep 244 1 add 60 22235\nstep 245 1 add 60 22235\nstep 246 1 mark 60 22235\nstep 247 1 dirty 61 22235\nstep 248 1 add 61 22235\nstep 249 1 add 61 22235\nstep 250 1 mark 61 22235\nstep 251 1 dirty 62 22235\nstep 252 1 add 62 22235\nstep 253 1 add 62 22235\nstep 254 1 mark 62 22235\nstep 255 1 dirty 63 22235\nstep 256 1 add 63 22235\nstep 257 1 add 63 22235\nstep 258 1 mark 63 22235\nstep 259 1 dirty 64 22235\nstep 260 1 add 64 22235\nstep 261 1 fold 64 22235\nstep 262 1 clear 64 22235\nstep 263 1 add 64 22235\n"

-- steps 264 to 351, each with the count of all pages after it and its bound
abbrev pub before_clear_steps_3 : List ℕ
before_clear_steps_3 = codes "step 264 1 fold 64 22235\nstep 265 1 clear 64 22235\nstep 266 1 mark 64 22235\nstep 267 1 first 64 22235\nstep 268 1 middle 64 22235\nstep 269 1 limits 64 22235\nstep 270 1 count 64 22235\nstep 271 1 count 64 22235\nstep 272 0 clear 64 22235\nstep 273 0 mark 64 22235\nstep 274 2 first 64 22235\nstep 275 2 middle 64 22235\nstep 276 2 limits 64 22235\nstep 277 2 count 64 22235\nstep 278 0 first 64 22235\nstep 279 0 middle 64 22235\nstep 280 0 limits 64 22235\nstep 281 0 count 64 22235\nstep 282 0 count 64 22235\nstep 283 2 unmark 64 22235\nstep 284 2 look 64 22235\nstep 285 2 claim 64 22235\nstep 286 2 look 64 22235\nstep 287 2 claim 64 22235\nstep 288 2 look 64 22235\nstep 289 2 claim 64 22235\nstep 290 2 look 64 22235\nstep 291 2 claim 64 22235\nstep 292 2 look 64 22235\nstep 293 2 claim 64 22235\nstep 294 2 look 64 22235\nstep 295 2 claim 64 22235\nstep 296 2 look 64 22235\nstep 297 2 claim 64 22235\nstep 298 2 look 64 22235\nstep 299 2 claim 64 22235\nstep 300 2 look 64 22235\nstep 301 2 claim 64 22235\nstep 302 2 look 64 22235\nstep 303 2 claim 64 22235\nstep 304 2 look 64 22235\nstep 305 2 claim 64 22235\nstep 306 2 look 64 22235\nstep 307 2 claim 64 22235\nstep 308 2 look 64 22235\nstep 309 2 claim 64 22235\nstep 310 2 look 64 22235\nstep 311 2 claim 64 22235\nstep 312 2 look 64 22235\nstep 313 2 claim 64 22235\nstep 314 2 look 64 22235\nstep 315 2 claim 64 22235\nstep 316 2 look 64 22235\nstep 317 2 claim 64 22235\nstep 318 2 look 64 22235\nstep 319 2 claim 64 22235\nstep 320 2 look 64 22235\nstep 321 2 claim 64 22235\nstep 322 2 look 64 22235\nstep 323 2 claim 64 22235\nstep 324 2 look 64 22235\nstep 325 2 claim 64 22235\nstep 326 2 look 64 22235\nstep 327 2 claim 64 22235\nstep 328 2 look 64 22235\nstep 329 2 claim 64 22235\nstep 330 2 look 64 22235\nstep 331 2 claim 64 22235\nstep 332 2 look 64 22235\nstep 333 2 claim 64 22235\nstep 334 2 look 64 22235\nstep 335 2 claim 64 22235\nstep 336 2 look 64 22235\nstep 337 2 claim 64 22235\nstep 338 2 look 64 22235\nstep 339 2 claim 64 22235\nstep 340 2 look 64 22235\nstep 341 2 claim 64 22235\nstep 342 2 look 64 22235\nstep 343 2 claim 64 22235\nstep 344 2 look 64 22235\nstep 345 2 claim 64 22235\nstep 346 2 look 64 22235\nstep 347 2 claim 64 22235\nstep 348 2 look 64 22235\nstep 349 2 claim 64 22235\nstep 350 2 look 64 22235\nstep 351 2 claim 64 22235\n"

-- steps 352 to 439, each with the count of all pages after it and its bound
abbrev pub before_clear_steps_4 : List ℕ
before_clear_steps_4 = codes "step 352 2 look 64 22235\nstep 353 2 claim 64 22235\nstep 354 2 look 64 22235\nstep 355 2 claim 64 22235\nstep 356 2 look 64 22235\nstep 357 2 claim 64 22235\nstep 358 2 look 64 22235\nstep 359 2 claim 64 22235\nstep 360 2 look 64 22235\nstep 361 2 claim 64 22235\nstep 362 2 look 64 22235\nstep 363 2 claim 64 22235\nstep 364 2 look 64 22235\nstep 365 2 claim 64 22235\nstep 366 2 look 64 22235\nstep 367 2 claim 64 22235\nstep 368 2 look 64 22235\nstep 369 2 claim 64 22235\nstep 370 2 look 64 22235\nstep 371 2 claim 64 22235\nstep 372 2 look 64 22235\nstep 373 2 claim 64 22235\nstep 374 2 look 64 22235\nstep 375 2 claim 64 22235\nstep 376 2 look 64 22235\nstep 377 2 claim 64 22235\nstep 378 2 look 64 22235\nstep 379 2 claim 64 22235\nstep 380 2 look 64 22235\nstep 381 2 claim 64 22235\nstep 382 2 look 64 22235\nstep 383 2 claim 64 22235\nstep 384 2 look 64 22235\nstep 385 2 claim 64 22235\nstep 386 2 look 64 22235\nstep 387 2 claim 64 22235\nstep 388 2 look 64 22235\nstep 389 2 claim 64 22235\nstep 390 2 look 64 22235\nstep 391 2 claim 64 22235\nstep 392 2 look 64 22235\nstep 393 2 claim 64 22235\nstep 394 2 look 64 22235\nstep 395 2 claim 64 22235\nstep 396 2 look 64 22235\nstep 397 2 claim 64 22235\nstep 398 2 look 64 22235\nstep 399 2 claim 64 22235\nstep 400 2 look 64 22235\nstep 401 2 claim 64 22235\nstep 402 2 look 64 22235\nstep 403 2 claim 64 22235\nstep 404 2 look 64 22235\nstep 405 2 claim 64 22235\nstep 406 2 look 64 22235\nstep 407 2 claim 64 22235\nstep 408 2 look 64 22235\nstep 409 2 claim 64 22235\nstep 410 2 look 64 22235\nstep 411 2 claim 64 22235\nstep 412 2 complete 63 22235\nstep 413 2 add 63 22235\nstep 414 2 add 63 22235\nstep 415 2 complete 62 22235\nstep 416 2 add 62 22235\nstep 417 2 add 62 22235\nstep 418 2 complete 61 22235\nstep 419 2 add 61 22235\nstep 420 2 add 61 22235\nstep 421 2 complete 60 22235\nstep 422 2 add 60 22235\nstep 423 2 add 60 22235\nstep 424 2 complete 59 22235\nstep 425 2 add 59 22235\nstep 426 2 add 59 22235\nstep 427 2 complete 58 22235\nstep 428 2 add 58 22235\nstep 429 2 add 58 22235\nstep 430 2 complete 57 22235\nstep 431 2 add 57 22235\nstep 432 2 add 57 22235\nstep 433 2 complete 56 22235\nstep 434 2 add 56 22235\nstep 435 2 add 56 22235\nstep 436 2 complete 55 22235\nstep 437 2 add 55 22235\nstep 438 2 add 55 22235\nstep 439 2 complete 54 22235\n"

-- steps 440 to 527, each with the count of all pages after it and its bound
abbrev pub before_clear_steps_5 : List ℕ
before_clear_steps_5 = codes "step 440 2 add 54 22235\nstep 441 2 add 54 22235\nstep 442 2 complete 53 22235\nstep 443 2 add 53 22235\nstep 444 2 add 53 22235\nstep 445 2 complete 52 22235\nstep 446 2 add 52 22235\nstep 447 2 add 52 22235\nstep 448 2 complete 51 22235\nstep 449 2 add 51 22235\nstep 450 2 add 51 22235\nstep 451 2 complete 50 22235\nstep 452 2 add 50 22235\nstep 453 2 add 50 22235\nstep 454 2 complete 49 22235\nstep 455 2 add 49 22235\nstep 456 2 add 49 22235\nstep 457 2 complete 48 22235\nstep 458 2 add 48 22235\nstep 459 2 fold 48 22235\nstep 460 2 clear 48 22235\nstep 461 2 add 48 22235\nstep 462 2 complete 47 22235\nstep 463 2 add 47 22235\nstep 464 2 add 47 22235\nstep 465 2 complete 46 22235\nstep 466 2 add 46 22235\nstep 467 2 add 46 22235\nstep 468 2 complete 45 22235\nstep 469 2 add 45 22235\nstep 470 2 add 45 22235\nstep 471 2 complete 44 22235\nstep 472 2 add 44 22235\nstep 473 2 add 44 22235\nstep 474 2 complete 43 22235\nstep 475 2 add 43 22235\nstep 476 2 add 43 22235\nstep 477 2 complete 42 22235\nstep 478 2 add 42 22235\nstep 479 2 add 42 22235\nstep 480 2 complete 41 22235\nstep 481 2 add 41 22235\nstep 482 2 add 41 22235\nstep 483 2 complete 40 22235\nstep 484 2 add 40 22235\nstep 485 2 add 40 22235\nstep 486 2 complete 39 22235\nstep 487 2 add 39 22235\nstep 488 2 add 39 22235\nstep 489 2 complete 38 22235\nstep 490 2 add 38 22235\nstep 491 2 add 38 22235\nstep 492 2 complete 37 22235\nstep 493 2 add 37 22235\nstep 494 2 add 37 22235\nstep 495 2 complete 36 22235\nstep 496 2 add 36 22235\nstep 497 2 add 36 22235\nstep 498 2 complete 35 22235\nstep 499 2 add 35 22235\nstep 500 2 add 35 22235\nstep 501 2 complete 34 22235\nstep 502 2 add 34 22235\nstep 503 2 add 34 22235\nstep 504 2 complete 33 22235\nstep 505 2 add 33 22235\nstep 506 2 add 33 22235\nstep 507 2 complete 32 22235\nstep 508 2 add 32 22235\nstep 509 2 fold 32 22235\nstep 510 2 clear 32 22235\nstep 511 2 add 32 22235\nstep 512 2 fold 32 22235\nstep 513 2 clear 32 22235\nstep 514 2 complete 31 22235\nstep 515 2 add 31 22235\nstep 516 2 add 31 22235\nstep 517 2 complete 30 22235\nstep 518 2 add 30 22235\nstep 519 2 add 30 22235\nstep 520 2 complete 29 22235\nstep 521 2 add 29 22235\nstep 522 2 add 29 22235\nstep 523 2 complete 28 22235\nstep 524 2 add 28 22235\nstep 525 2 add 28 22235\nstep 526 2 complete 27 22235\nstep 527 2 add 27 22235\n"

-- steps 528 to 615, each with the count of all pages after it and its bound
abbrev pub before_clear_steps_6 : List ℕ
before_clear_steps_6 = codes "step 528 2 add 27 22235\nstep 529 2 complete 26 22235\nstep 530 2 add 26 22235\nstep 531 2 add 26 22235\nstep 532 2 complete 25 22235\nstep 533 2 add 25 22235\nstep 534 2 add 25 22235\nstep 535 2 complete 24 22235\nstep 536 2 add 24 22235\nstep 537 2 add 24 22235\nstep 538 2 complete 23 22235\nstep 539 2 add 23 22235\nstep 540 2 add 23 22235\nstep 541 2 complete 22 22235\nstep 542 2 add 22 22235\nstep 543 2 add 22 22235\nstep 544 2 complete 21 22235\nstep 545 2 add 21 22235\nstep 546 2 add 21 22235\nstep 547 2 complete 20 22235\nstep 548 2 add 20 22235\nstep 549 2 add 20 22235\nstep 550 2 complete 19 22235\nstep 551 2 add 19 22235\nstep 552 2 add 19 22235\nstep 553 2 complete 18 22235\nstep 554 2 add 18 22235\nstep 555 2 add 18 22235\nstep 556 2 complete 17 22235\nstep 557 2 add 17 22235\nstep 558 2 add 17 22235\nstep 559 2 complete 16 22235\nstep 560 2 add 16 22235\nstep 561 2 fold 16 22235\nstep 562 2 clear 16 22235\nstep 563 2 add 16 22235\nstep 564 2 complete 15 22235\nstep 565 2 add 15 22235\nstep 566 2 add 15 22235\nstep 567 2 complete 14 22235\nstep 568 2 add 14 22235\nstep 569 2 add 14 22235\nstep 570 2 complete 13 22235\nstep 571 2 add 13 22235\nstep 572 2 add 13 22235\nstep 573 2 complete 12 22235\nstep 574 2 add 12 22235\nstep 575 2 add 12 22235\nstep 576 2 complete 11 22235\nstep 577 2 add 11 22235\nstep 578 2 add 11 22235\nstep 579 2 complete 10 22235\nstep 580 2 add 10 22235\nstep 581 2 add 10 22235\nstep 582 2 complete 9 22235\nstep 583 2 add 9 22235\nstep 584 2 add 9 22235\nstep 585 2 complete 8 22235\nstep 586 2 add 8 22235\nstep 587 2 add 8 22235\nstep 588 2 complete 7 22235\nstep 589 2 add 7 22235\nstep 590 2 add 7 22235\nstep 591 2 complete 6 22235\nstep 592 2 add 6 22235\nstep 593 2 add 6 22235\nstep 594 2 complete 5 22235\nstep 595 2 add 5 22235\nstep 596 2 add 5 22235\nstep 597 2 complete 4 22235\nstep 598 2 add 4 22235\nstep 599 2 add 4 22235\nstep 600 2 complete 3 22235\nstep 601 2 add 3 22235\nstep 602 2 add 3 22235\nstep 603 2 complete 2 22235\nstep 604 2 add 2 22235\nstep 605 2 add 2 22235\nstep 606 2 complete 1 22235\nstep 607 2 add 1 22235\nstep 608 2 add 1 22235\nstep 609 2 complete 0 22235\nstep 610 2 add 0 22235\nstep 611 2 fold 0 22235\nstep 612 2 clear 0 22235\nstep 613 2 add 0 22235\nstep 614 2 fold 0 22235\nstep 615 2 clear 0 22235\n"

-- nothing is left; the sums, and how the run ended
abbrev pub before_clear_end : List ℕ
before_clear_end = codes "census 0 0\ntotals 64 64\nend done\n"

-- the ordered run of this trace has just this journal
unfoldable pub BeforeClearRun : Type 0
BeforeClearRun =
    journal_text (journal_of before_clear_trace)
    ≡ before_clear_timer ++ before_clear_cpu_0 ++ before_clear_cpu_1 ++ before_clear_cpu_2 ++ before_clear_steps_0
    ++ before_clear_steps_1 ++ before_clear_steps_2 ++ before_clear_steps_3 ++ before_clear_steps_4 ++ before_clear_steps_5
    ++ before_clear_steps_6 ++ before_clear_end

-- ---- two writers are let through by one reading

-- No page is allowed. Each task has one page, and each writer's check reads 0 before the other writes its second one.
abbrev pub same_reading_trace : Trace
same_reading_trace = record {
  cpus = 3;
  cap = 1;
  settings = no_settings;
  avail = (record { from = 0; pages = 0 }) ∷ [];
  devices = (record { rate = 25600; min = 0; max = 100; strict = false; chunk = None; cyclic = false }) ∷ [];
  cgroups = [];
  contexts = (record { device = 0; domain = 0; expire = None; estimate = None }) ∷ [];
  inodes = (record { context = 0; first = 0; pages = 4 }) ∷ [];
  tasks = (record { cpu = 0; pace = None }) ∷ (record { cpu = 1; pace = None }) ∷ [];
  flushers = (record { device = 0; cpu = 2 }) ∷ [];
  actions = Write 0 0 0 2 ∷ Write 1 0 2 2 ∷ [];
  order = Steps 0 4 ∷ Steps 1 4 ∷ Steps 0 5 ∷ Steps 1 5 ∷ Steps 0 4 ∷ Steps 1 4 ∷ [];
  halt = None;
}

-- what the timer and the CPUs did
abbrev pub same_reading_timer : List ℕ
same_reading_timer = codes "timer\nlimits 0 1 0 0 0\n"

-- what CPU 0 did
abbrev pub same_reading_cpu_0 : List ℕ
same_reading_cpu_0 = codes "cpu 0\nwrite 0 0 fresh\nread 0 0 0 0 0 0 0 0 0 1\ncount 0 0 0\ncheck 0 0 1 0 free 0 1 0 1 1\nwrite 0 1 fresh\nread 0 0 0 0 0 0 0 0 0 1\ncount 0 0 0\ncheck 0 0 1 0 free 0 1 0 1 1\n"

-- what CPU 1 did
abbrev pub same_reading_cpu_1 : List ℕ
same_reading_cpu_1 = codes "cpu 1\nwrite 1 2 fresh\nread 0 0 0 0 0 0 0 0 0 1\ncount 0 0 0\ncheck 1 0 1 0 free 0 1 0 1 1\nwrite 1 3 fresh\nread 0 0 0 0 0 0 0 0 0 1\ncount 0 0 0\ncheck 1 0 1 0 free 0 1 0 1 1\n"

-- what CPU 2 did
abbrev pub same_reading_cpu_2 : List ℕ
same_reading_cpu_2 = codes "cpu 2\nclaim 0 0\nclaim 0 1\nclaim 0 2\nclaim 0 3\nbatch 0 4 1 2\ndone 0 0\ndone 0 1\ndone 0 2\ndone 0 3\nshare 0 0 4\n"

-- The bound is 3 * 32 + 2 * 1 + 2 * 48.
abbrev pub same_reading_steps : List ℕ
same_reading_steps = codes "steps\nstep 1 0 dirty 1 194\nstep 2 0 add 1 194\nstep 3 0 add 1 194\nstep 4 0 mark 1 194\nstep 5 1 dirty 2 194\nstep 6 1 add 2 194\nstep 7 1 add 2 194\nstep 8 1 mark 2 194\nstep 9 0 first 2 194\nstep 10 0 middle 2 194\nstep 11 0 limits 2 194\nstep 12 0 count 2 194\nstep 13 0 count 2 194\nstep 14 1 first 2 194\nstep 15 1 middle 2 194\nstep 16 1 limits 2 194\nstep 17 1 count 2 194\nstep 18 1 count 2 194\nstep 19 0 dirty 3 194\nstep 20 0 add 3 194\nstep 21 0 add 3 194\nstep 22 0 mark 3 194\nstep 23 1 dirty 4 194\nstep 24 1 add 4 194\nstep 25 1 add 4 194\nstep 26 1 mark 4 194\nstep 27 0 first 4 194\nstep 28 0 middle 4 194\nstep 29 0 limits 4 194\nstep 30 0 count 4 194\nstep 31 0 count 4 194\nstep 32 1 first 4 194\nstep 33 1 middle 4 194\nstep 34 1 limits 4 194\nstep 35 1 count 4 194\nstep 36 1 count 4 194\nstep 37 2 unmark 4 194\nstep 38 2 look 4 194\nstep 39 2 claim 4 194\nstep 40 2 look 4 194\nstep 41 2 claim 4 194\nstep 42 2 look 4 194\nstep 43 2 claim 4 194\nstep 44 2 look 4 194\nstep 45 2 claim 4 194\nstep 46 2 complete 3 194\nstep 47 2 add 3 194\nstep 48 2 add 3 194\nstep 49 2 complete 2 194\nstep 50 2 add 2 194\nstep 51 2 add 2 194\nstep 52 2 complete 1 194\nstep 53 2 add 1 194\nstep 54 2 add 1 194\nstep 55 2 complete 0 194\nstep 56 2 add 0 194\nstep 57 2 add 0 194\n"

-- nothing is left; the sums, and how the run ended
abbrev pub same_reading_end : List ℕ
same_reading_end = codes "census 0 0\ntotals 4 4\nend done\n"

-- the ordered run of this trace has just this journal
unfoldable pub SameReadingRun : Type 0
SameReadingRun =
    journal_text (journal_of same_reading_trace)
    ≡ same_reading_timer ++ same_reading_cpu_0 ++ same_reading_cpu_1 ++ same_reading_cpu_2 ++ same_reading_steps
    ++ same_reading_end

-- ---- a claim is missed

-- Pages 0 and 1 are of two inodes, and share a word. Flusher 1 looks at page 0, flusher 0 claims page 1, and then flusher 1 exchanges.
abbrev pub missed_claim_trace : Trace
missed_claim_trace = record {
  cpus = 2;
  cap = 1024;
  settings = no_settings;
  avail = (record { from = 0; pages = 1000 }) ∷ [];
  devices = (record { rate = 25600; min = 0; max = 100; strict = false; chunk = None; cyclic = false }) ∷ [];
  cgroups = [];
  contexts = (record { device = 0; domain = 0; expire = None; estimate = None }) ∷ [];
  inodes = (record { context = 0; first = 0; pages = 1 }) ∷ (record { context = 0; first = 1; pages = 1 }) ∷ [];
  tasks = (record { cpu = 0; pace = None }) ∷ [];
  flushers = (record { device = 0; cpu = 0 }) ∷ (record { device = 0; cpu = 1 }) ∷ [];
  actions = Write 0 0 0 1 ∷ Write 0 1 0 1 ∷ [];
  order = Steps 0 12 ∷ Steps 1 2 ∷ Steps 0 3 ∷ Steps 1 3 ∷ [];
  halt = None;
}

-- what the timer did
abbrev pub missed_claim_timer : List ℕ
missed_claim_timer = codes "timer\nlimits 0 1 199 99 199\n"

-- what CPU 0 did
abbrev pub missed_claim_cpu_0 : List ℕ
missed_claim_cpu_0 = codes "cpu 0\nwrite 0 0 fresh\nwrite 0 1 fresh\nclaim 0 1\nbatch 0 1 1 2\ndone 0 1\nshare 0 0 1\n"

-- what CPU 1 did
abbrev pub missed_claim_cpu_1 : List ℕ
missed_claim_cpu_1 = codes "cpu 1\nclaim 1 0\nbatch 1 1 1 2\ndone 1 0\nshare 0 0 1\n"

-- The word is not as it was in step 14, so step 18 claims nothing, and flusher 1 looks again. The bound is 199 + 2 * 32 + 1024 + 2 * 32.
abbrev pub missed_claim_steps : List ℕ
missed_claim_steps = codes "steps\nstep 1 0 dirty 1 1351\nstep 2 0 add 1 1351\nstep 3 0 add 1 1351\nstep 4 0 mark 1 1351\nstep 5 0 first 1 1351\nstep 6 0 middle 1 1351\nstep 7 0 limits 1 1351\nstep 8 0 count 1 1351\nstep 9 0 dirty 2 1351\nstep 10 0 add 2 1351\nstep 11 0 add 2 1351\nstep 12 0 mark 2 1351\nstep 13 1 unmark 2 1351\nstep 14 1 look 2 1351\nstep 15 0 unmark 2 1351\nstep 16 0 look 2 1351\nstep 17 0 claim 2 1351\nstep 18 1 claim 2 1351\nstep 19 1 look 2 1351\nstep 20 1 claim 2 1351\nstep 21 0 complete 1 1351\nstep 22 0 add 1 1351\nstep 23 0 add 1 1351\nstep 24 1 complete 0 1351\nstep 25 1 add 0 1351\nstep 26 1 add 0 1351\n"

-- nothing is left; the sums, and how the run ended
abbrev pub missed_claim_end : List ℕ
missed_claim_end = codes "census 0 0\ntotals 2 2\nend done\n"

-- the ordered run of this trace has just this journal
unfoldable pub MissedClaimRun : Type 0
MissedClaimRun =
    journal_text (journal_of missed_claim_trace)
    ≡ missed_claim_timer ++ missed_claim_cpu_0 ++ missed_claim_cpu_1 ++ missed_claim_steps ++ missed_claim_end
