-- Worked runs of a strict device: the text of the journal of a trace, in full.
use Rattle.std.specs.Prelude.{◌≡◌, ℕ, List, [], ◌∷◌, None, codes, ◌++◌, true, false}
use Rattle.wbt_trace.specs.declared.trace.Action.{Action}
use Rattle.wbt_trace.specs.declared.trace.Action.TheVariants.{Write, Rest}
use Rattle.wbt_trace.specs.declared.trace.Trace.{Trace}
use Rattle.wbt_journal.specs.Text.{journal_text}
use Rattle.wbt_replay_order.specs.Definition.Run.{journal_of}
use Rattle.wbt_replay_worked.specs.Worked.{small}

-- the small machine, with a strict disk
abbrev pub strict_small : (pages : ℕ) (actions : List Action) → Trace
strict_small pages actions = record (small pages actions) { devices = (record { rate = 25600; min = 0; max = 100; strict = true; chunk = None; cyclic = false }) ∷ [] }

-- ---- two pages are written

-- a task writes the two pages of an inode on a strict disk
abbrev pub strict_pages_trace : Trace
strict_pages_trace = strict_small 2 (Write 0 0 0 2 ∷ [])

-- what the timer and the CPU did
abbrev pub strict_pages_parts : List ℕ
strict_pages_parts = codes "timer\nlimits 0 1 19995 9985 19995\ncpu 0\nwrite 0 0 fresh\nwrite 0 1 fresh\nclaim 0 0\nclaim 0 1\nbatch 0 2 1 2\ndone 0 0\ndone 0 1\nshare 0 0 2\n"

-- The flusher loads the context's count too, in step 9.
abbrev pub strict_pages_steps : List ℕ
strict_pages_steps = codes "steps\nstep 1 0 dirty 1 21067\nstep 2 0 add 1 21067\nstep 3 0 add 1 21067\nstep 4 0 mark 1 21067\nstep 5 0 first 1 21067\nstep 6 0 middle 1 21067\nstep 7 0 limits 1 21067\nstep 8 0 count 1 21067\nstep 9 0 count 1 21067\nstep 10 0 dirty 2 21067\nstep 11 0 add 2 21067\nstep 12 0 add 2 21067\nstep 13 0 mark 2 21067\nstep 14 0 unmark 2 21067\nstep 15 0 look 2 21067\nstep 16 0 claim 2 21067\nstep 17 0 look 2 21067\nstep 18 0 claim 2 21067\nstep 19 0 complete 1 21067\nstep 20 0 add 1 21067\nstep 21 0 add 1 21067\nstep 22 0 complete 0 21067\nstep 23 0 add 0 21067\nstep 24 0 add 0 21067\n"

-- No check was made, so that the bound is twice the error of 8 pages, and the cap of one writer: 8 + 8 + 1024.
abbrev pub strict_pages_end : List ℕ
strict_pages_end = codes "census 0 0\ntotals 2 2\nstrict 0 2 1040\nend done\n"

-- the ordered run of this trace has just this journal
unfoldable pub StrictPagesRun : Type 0
StrictPagesRun = journal_text (journal_of strict_pages_trace) ≡ strict_pages_parts ++ strict_pages_steps ++ strict_pages_end

-- ---- the context is over its own background threshold while its writer rests

-- a task writes eight pages, rests for 600 ticks, and writes one more
abbrev pub strict_weighed_trace : Trace
strict_weighed_trace = strict_small 9 (Write 0 0 0 8 ∷ Rest 0 600 ∷ Write 0 0 8 1 ∷ [])

-- what the timer and the CPU did
abbrev pub strict_weighed_parts : List ℕ
strict_weighed_parts = codes "timer\nlimits 0 1 19995 9985 19995\nlimits 0 201 19995 9985 19995\nlimits 0 401 19995 9985 19995\ncpu 0\nwrite 0 0 fresh\nwrite 0 1 fresh\nwrite 0 2 fresh\nwrite 0 3 fresh\nwrite 0 4 fresh\nwrite 0 5 fresh\nwrite 0 6 fresh\nwrite 0 7 fresh\nfold c0 1 8\nclaim 0 0\nclaim 0 1\nclaim 0 2\nclaim 0 3\nclaim 0 4\nclaim 0 5\nclaim 0 6\nclaim 0 7\nbatch 0 8 101 102\ndone 0 0\ndone 0 1\ndone 0 2\ndone 0 3\ndone 0 4\ndone 0 5\ndone 0 6\ndone 0 7\nfold c0 2 -8\nshare 0 0 8\nest 0 1 24345 25600 25600 25600 8 8 202\nest 0 2 23156 25444 25600 25600 8 8 402\nwrite 0 8 fresh\nclaim 0 8\nbatch 0 1 601 602\ndone 0 8\nshare 0 0 1\n"

-- The context has written nothing yet, and so has no part of the 9985 pages of the background threshold. At tick 101 the flusher loads
-- its count of 8 in step 44, and takes the inode.
abbrev pub strict_weighed_steps : List ℕ
strict_weighed_steps = codes "steps\nstep 1 0 dirty 1 21067\nstep 2 0 add 1 21067\nstep 3 0 add 1 21067\nstep 4 0 mark 1 21067\nstep 5 0 first 1 21067\nstep 6 0 middle 1 21067\nstep 7 0 limits 1 21067\nstep 8 0 count 1 21067\nstep 9 0 count 1 21067\nstep 10 0 dirty 2 21067\nstep 11 0 add 2 21067\nstep 12 0 add 2 21067\nstep 13 0 mark 2 21067\nstep 14 0 dirty 3 21067\nstep 15 0 add 3 21067\nstep 16 0 add 3 21067\nstep 17 0 mark 3 21067\nstep 18 0 dirty 4 21067\nstep 19 0 add 4 21067\nstep 20 0 add 4 21067\nstep 21 0 mark 4 21067\nstep 22 0 dirty 5 21067\nstep 23 0 add 5 21067\nstep 24 0 add 5 21067\nstep 25 0 mark 5 21067\nstep 26 0 dirty 6 21067\nstep 27 0 add 6 21067\nstep 28 0 add 6 21067\nstep 29 0 mark 6 21067\nstep 30 0 dirty 7 21067\nstep 31 0 add 7 21067\nstep 32 0 add 7 21067\nstep 33 0 mark 7 21067\nstep 34 0 dirty 8 21067\nstep 35 0 add 8 21067\nstep 36 0 fold 8 21067\nstep 37 0 clear 8 21067\nstep 38 0 add 8 21067\nstep 39 0 mark 8 21067\nstep 40 0 first 8 21067\nstep 41 0 middle 8 21067\nstep 42 0 limits 8 21067\nstep 43 0 count 8 21067\nstep 44 0 count 8 21067\nstep 45 0 unmark 8 21067\nstep 46 0 look 8 21067\nstep 47 0 claim 8 21067\nstep 48 0 look 8 21067\nstep 49 0 claim 8 21067\nstep 50 0 look 8 21067\nstep 51 0 claim 8 21067\nstep 52 0 look 8 21067\nstep 53 0 claim 8 21067\nstep 54 0 look 8 21067\nstep 55 0 claim 8 21067\nstep 56 0 look 8 21067\nstep 57 0 claim 8 21067\nstep 58 0 look 8 21067\nstep 59 0 claim 8 21067\nstep 60 0 look 8 21067\nstep 61 0 claim 8 21067\nstep 62 0 look 8 21067\nstep 63 0 complete 7 21067\nstep 64 0 add 7 21067\nstep 65 0 add 7 21067\nstep 66 0 complete 6 21067\nstep 67 0 add 6 21067\nstep 68 0 add 6 21067\nstep 69 0 complete 5 21067\nstep 70 0 add 5 21067\nstep 71 0 add 5 21067\nstep 72 0 complete 4 21067\nstep 73 0 add 4 21067\nstep 74 0 add 4 21067\nstep 75 0 complete 3 21067\nstep 76 0 add 3 21067\nstep 77 0 add 3 21067\nstep 78 0 complete 2 21067\nstep 79 0 add 2 21067\nstep 80 0 add 2 21067\nstep 81 0 complete 1 21067\nstep 82 0 add 1 21067\nstep 83 0 add 1 21067\nstep 84 0 complete 0 21067\nstep 85 0 add 0 21067\nstep 86 0 fold 0 21067\nstep 87 0 clear 0 21067\nstep 88 0 add 0 21067\nstep 89 0 first 0 21067\nstep 90 0 middle 0 21067\nstep 91 0 limits 0 21067\nstep 92 0 count 0 21067\nstep 93 0 count 0 21067\nstep 94 timer count 0 21067\nstep 95 timer peak 0 21067\nstep 96 timer unseal 0 21067\nstep 97 timer thresh 0 21067\nstep 98 timer publish 0 21067\nstep 99 0 first 0 21067\nstep 100 0 middle 0 21067\nstep 101 0 limits 0 21067\nstep 102 0 count 0 21067\nstep 103 0 count 0 21067\nstep 104 0 count 0 21067\nstep 105 0 first 0 21067\nstep 106 0 middle 0 21067\nstep 107 0 limits 0 21067\nstep 108 0 count 0 21067\nstep 109 0 count 0 21067\nstep 110 timer count 0 21067\nstep 111 timer peak 0 21067\nstep 112 timer unseal 0 21067\nstep 113 timer thresh 0 21067\nstep 114 timer publish 0 21067\nstep 115 0 first 0 21067\nstep 116 0 middle 0 21067\nstep 117 0 limits 0 21067\nstep 118 0 count 0 21067\nstep 119 0 count 0 21067\nstep 120 0 count 0 21067\nstep 121 0 first 0 21067\nstep 122 0 middle 0 21067\nstep 123 0 limits 0 21067\nstep 124 0 count 0 21067\nstep 125 0 count 0 21067\nstep 126 0 dirty 1 21067\nstep 127 0 add 1 21067\nstep 128 0 add 1 21067\nstep 129 0 mark 1 21067\nstep 130 0 unmark 1 21067\nstep 131 0 look 1 21067\nstep 132 0 look 1 21067\nstep 133 0 look 1 21067\nstep 134 0 look 1 21067\nstep 135 0 look 1 21067\nstep 136 0 look 1 21067\nstep 137 0 look 1 21067\nstep 138 0 look 1 21067\nstep 139 0 look 1 21067\nstep 140 0 claim 1 21067\nstep 141 0 complete 0 21067\nstep 142 0 add 0 21067\nstep 143 0 add 0 21067\n"

-- nothing is left; the sums, the most pages of the context with its bound, and how the run ended
abbrev pub strict_weighed_end : List ℕ
strict_weighed_end = codes "census 0 0\ntotals 9 9\nstrict 0 8 1040\nend done\n"

-- the ordered run of this trace has just this journal
unfoldable pub StrictWeighedRun : Type 0
StrictWeighedRun = journal_text (journal_of strict_weighed_trace) ≡ strict_weighed_parts ++ strict_weighed_steps ++ strict_weighed_end
