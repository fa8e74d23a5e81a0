-- A worked run of a task with a pace: the text of the journal of a trace, in full.
use Rattle.std.specs.Prelude.{◌≡◌, ℕ, Some, List, [], ◌∷◌, codes, ◌++◌}
use Rattle.wbt_trace.specs.declared.trace.Action.TheVariants.{Write, Rest}
use Rattle.wbt_trace.specs.declared.trace.Trace.{Trace}
use Rattle.wbt_journal.specs.Text.{journal_text}
use Rattle.wbt_replay_order.specs.Definition.Run.{journal_of}
use Rattle.wbt_replay_worked.specs.Worked.{small}

-- ---- seven pages are written, with a rest of 50 ticks after each two of them

-- a task with a pace of two pages and 50 ticks rests for 3 ticks besides, after its fifth page
abbrev pub paced_trace : Trace
paced_trace = record (small 7 (Write 0 0 0 5 ∷ Rest 0 3 ∷ Write 0 0 5 2 ∷ [])) {
  tasks = (record { cpu = 0; pace = Some (record { pages = 2; ticks = 50 }) }) ∷ [];
}

-- Three rests of 50 ticks and one of 3 come before the last page, and none after it.
abbrev pub paced_parts : List ℕ
paced_parts = codes "timer\nlimits 0 1 19995 9985 19995\ncpu 0\nwrite 0 0 fresh\nwrite 0 1 fresh\nwrite 0 2 fresh\nwrite 0 3 fresh\nwrite 0 4 fresh\nwrite 0 5 fresh\nwrite 0 6 fresh\nclaim 0 0\nclaim 0 1\nclaim 0 2\nclaim 0 3\nclaim 0 4\nclaim 0 5\nclaim 0 6\nbatch 0 7 154 155\ndone 0 0\ndone 0 1\ndone 0 2\ndone 0 3\ndone 0 4\ndone 0 5\ndone 0 6\nshare 0 0 7\n"

-- steps 1 to 72, each with the count of all pages after it and its bound
abbrev pub paced_steps : List ℕ
paced_steps = codes "steps\nstep 1 0 dirty 1 21067\nstep 2 0 add 1 21067\nstep 3 0 add 1 21067\nstep 4 0 mark 1 21067\nstep 5 0 first 1 21067\nstep 6 0 middle 1 21067\nstep 7 0 limits 1 21067\nstep 8 0 count 1 21067\nstep 9 0 dirty 2 21067\nstep 10 0 add 2 21067\nstep 11 0 add 2 21067\nstep 12 0 mark 2 21067\nstep 13 0 dirty 3 21067\nstep 14 0 add 3 21067\nstep 15 0 add 3 21067\nstep 16 0 mark 3 21067\nstep 17 0 dirty 4 21067\nstep 18 0 add 4 21067\nstep 19 0 add 4 21067\nstep 20 0 mark 4 21067\nstep 21 0 first 4 21067\nstep 22 0 middle 4 21067\nstep 23 0 limits 4 21067\nstep 24 0 count 4 21067\nstep 25 0 dirty 5 21067\nstep 26 0 add 5 21067\nstep 27 0 add 5 21067\nstep 28 0 mark 5 21067\nstep 29 0 dirty 6 21067\nstep 30 0 add 6 21067\nstep 31 0 add 6 21067\nstep 32 0 mark 6 21067\nstep 33 0 dirty 7 21067\nstep 34 0 add 7 21067\nstep 35 0 add 7 21067\nstep 36 0 mark 7 21067\nstep 37 0 unmark 7 21067\nstep 38 0 look 7 21067\nstep 39 0 claim 7 21067\nstep 40 0 look 7 21067\nstep 41 0 claim 7 21067\nstep 42 0 look 7 21067\nstep 43 0 claim 7 21067\nstep 44 0 look 7 21067\nstep 45 0 claim 7 21067\nstep 46 0 look 7 21067\nstep 47 0 claim 7 21067\nstep 48 0 look 7 21067\nstep 49 0 claim 7 21067\nstep 50 0 look 7 21067\nstep 51 0 claim 7 21067\nstep 52 0 complete 6 21067\nstep 53 0 add 6 21067\nstep 54 0 add 6 21067\nstep 55 0 complete 5 21067\nstep 56 0 add 5 21067\nstep 57 0 add 5 21067\nstep 58 0 complete 4 21067\nstep 59 0 add 4 21067\nstep 60 0 add 4 21067\nstep 61 0 complete 3 21067\nstep 62 0 add 3 21067\nstep 63 0 add 3 21067\nstep 64 0 complete 2 21067\nstep 65 0 add 2 21067\nstep 66 0 add 2 21067\nstep 67 0 complete 1 21067\nstep 68 0 add 1 21067\nstep 69 0 add 1 21067\nstep 70 0 complete 0 21067\nstep 71 0 add 0 21067\nstep 72 0 add 0 21067\n"

-- nothing is left; the sums, and how the run ended
abbrev pub paced_end : List ℕ
paced_end = codes "census 0 0\ntotals 7 7\nend done\n"

-- the ordered run of this trace has just this journal
unfoldable pub PacedRun : Type 0
PacedRun = journal_text (journal_of paced_trace) ≡ paced_parts ++ paced_steps ++ paced_end
