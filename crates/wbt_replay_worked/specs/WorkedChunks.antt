-- Worked runs of a device with lines on its scans: the text of the journal of a trace, in full.
use Rattle.std.specs.Prelude.{◌≡◌, ℕ, Some, List, [], ◌∷◌, codes, ◌++◌, false, true}
use Rattle.wbt_trace.specs.declared.trace.Action.TheVariants.{Write}
use Rattle.wbt_trace.specs.declared.trace.Trace.{Trace}
use Rattle.wbt_journal.specs.Text.{journal_text}
use Rattle.wbt_replay_order.specs.Definition.Run.{journal_of}
use Rattle.wbt_replay_worked.specs.Worked.{small}

-- ---- two pages are written, and a scan ends with one

-- scans end with one page, and each begins at the inode's first
abbrev pub chunked_trace : Trace
chunked_trace = record (small 2 (Write 0 0 0 2 ∷ [])) {
  devices = (record { rate = 25600; min = 0; max = 100; strict = false; chunk = Some 1; cyclic = false }) ∷ [];
}

-- The pages go to the disk in two flights.
abbrev pub chunked_parts : List ℕ
chunked_parts = codes "timer\nlimits 0 1 19995 9985 19995\ncpu 0\nwrite 0 0 fresh\nwrite 0 1 fresh\nclaim 0 0\nbatch 0 1 1 2\ndone 0 0\nshare 0 0 1\nclaim 0 1\nbatch 0 1 2 3\ndone 0 1\nshare 0 0 1\n"

-- The first scan ends with page 0 before the inode's end, so that it marks the inode again in step 16; the second scan looks at both
-- pages.
abbrev pub chunked_steps : List ℕ
chunked_steps = codes "steps\nstep 1 0 dirty 1 21067\nstep 2 0 add 1 21067\nstep 3 0 add 1 21067\nstep 4 0 mark 1 21067\nstep 5 0 first 1 21067\nstep 6 0 middle 1 21067\nstep 7 0 limits 1 21067\nstep 8 0 count 1 21067\nstep 9 0 dirty 2 21067\nstep 10 0 add 2 21067\nstep 11 0 add 2 21067\nstep 12 0 mark 2 21067\nstep 13 0 unmark 2 21067\nstep 14 0 look 2 21067\nstep 15 0 claim 2 21067\nstep 16 0 mark 2 21067\nstep 17 0 complete 1 21067\nstep 18 0 add 1 21067\nstep 19 0 add 1 21067\nstep 20 0 unmark 1 21067\nstep 21 0 look 1 21067\nstep 22 0 look 1 21067\nstep 23 0 claim 1 21067\nstep 24 0 complete 0 21067\nstep 25 0 add 0 21067\nstep 26 0 add 0 21067\n"

-- nothing is left; the sums, and how the run ended
abbrev pub chunked_end : List ℕ
chunked_end = codes "census 0 0\ntotals 2 2\nend done\n"

-- the ordered run of this trace has just this journal
unfoldable pub ChunkedRun : Type 0
ChunkedRun = journal_text (journal_of chunked_trace) ≡ chunked_parts ++ chunked_steps ++ chunked_end

-- ---- and each scan begins where the last one ended

-- scans end with one page, and each begins where the last one ended
abbrev pub cyclic_trace : Trace
cyclic_trace = record (small 2 (Write 0 0 0 2 ∷ [])) {
  devices = (record { rate = 25600; min = 0; max = 100; strict = false; chunk = Some 1; cyclic = true }) ∷ [];
}

-- The same entries.
abbrev pub cyclic_parts : List ℕ
cyclic_parts = codes "timer\nlimits 0 1 19995 9985 19995\ncpu 0\nwrite 0 0 fresh\nwrite 0 1 fresh\nclaim 0 0\nbatch 0 1 1 2\ndone 0 0\nshare 0 0 1\nclaim 0 1\nbatch 0 1 2 3\ndone 0 1\nshare 0 0 1\n"

-- The second scan looks at page 1 alone, and marks the inode again in step 23, as it hasn't passed page 0; a third one looks at both pages.
abbrev pub cyclic_steps : List ℕ
cyclic_steps = codes "steps\nstep 1 0 dirty 1 21067\nstep 2 0 add 1 21067\nstep 3 0 add 1 21067\nstep 4 0 mark 1 21067\nstep 5 0 first 1 21067\nstep 6 0 middle 1 21067\nstep 7 0 limits 1 21067\nstep 8 0 count 1 21067\nstep 9 0 dirty 2 21067\nstep 10 0 add 2 21067\nstep 11 0 add 2 21067\nstep 12 0 mark 2 21067\nstep 13 0 unmark 2 21067\nstep 14 0 look 2 21067\nstep 15 0 claim 2 21067\nstep 16 0 mark 2 21067\nstep 17 0 complete 1 21067\nstep 18 0 add 1 21067\nstep 19 0 add 1 21067\nstep 20 0 unmark 1 21067\nstep 21 0 look 1 21067\nstep 22 0 claim 1 21067\nstep 23 0 mark 1 21067\nstep 24 0 complete 0 21067\nstep 25 0 add 0 21067\nstep 26 0 add 0 21067\nstep 27 0 unmark 0 21067\nstep 28 0 look 0 21067\nstep 29 0 look 0 21067\n"

-- nothing is left; the sums, and how the run ended
abbrev pub cyclic_end : List ℕ
cyclic_end = codes "census 0 0\ntotals 2 2\nend done\n"

-- the ordered run of this trace has just this journal
unfoldable pub CyclicRun : Type 0
CyclicRun = journal_text (journal_of cyclic_trace) ≡ cyclic_parts ++ cyclic_steps ++ cyclic_end
