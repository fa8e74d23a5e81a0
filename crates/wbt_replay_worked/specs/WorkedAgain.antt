-- A worked run of two flushers of one disk, in which a page is dirty again while it is under writeback.
use Rattle.std.specs.Prelude.{◌≡◌, ℕ, List, [], ◌∷◌, None, codes, ◌++◌, false}
use Rattle.wbt_trace.specs.declared.trace.Action.TheVariants.{Write, Rest}
use Rattle.wbt_trace.specs.declared.trace.Trace.{Trace}
use Rattle.wbt_replay_order.specs.Definition.Run.{journal_of}
use Rattle.wbt_journal.specs.Text.{journal_text}
use Rattle.wbt_replay_worked.specs.Worked.{no_settings}

-- The disk needs a thousand ticks for 128 pages. The task writes page 0 again after 500, and ends.
abbrev pub dirty_again_trace : Trace
dirty_again_trace = record {
  cpus = 1;
  cap = 1024;
  settings = no_settings;
  avail = (record { from = 0; pages = 1000 }) ∷ [];
  devices = (record { rate = 128; min = 0; max = 100; strict = false; chunk = None; cyclic = false }) ∷ [];
  cgroups = [];
  contexts = (record { device = 0; domain = 0; expire = None; estimate = None }) ∷ [];
  inodes = (record { context = 0; first = 0; pages = 128 }) ∷ [];
  tasks = (record { cpu = 0; pace = None }) ∷ [];
  flushers = (record { device = 0; cpu = 0 }) ∷ (record { device = 0; cpu = 0 }) ∷ [];
  actions = Write 0 0 0 128 ∷ Rest 0 500 ∷ Write 0 0 0 1 ∷ [];
  order = [];
  halt = None;
}

-- The timer takes a turn each 200 ticks, until the task ends.
abbrev pub dirty_again_timer : List ℕ
dirty_again_timer = codes "timer\nlimits 0 1 199 99 199\nlimits 0 201 199 99 199\nlimits 0 401 199 99 199\n"

-- The other flusher finds page 0 dirty under writeback again and again, a hundred ticks apart, and claims it when it is completed.
abbrev pub dirty_again_cpu_0 : List ℕ
dirty_again_cpu_0 = codes "cpu 0\nwrite 0 0 fresh\nwrite 0 1 fresh\nwrite 0 2 fresh\nwrite 0 3 fresh\nwrite 0 4 fresh\nwrite 0 5 fresh\nwrite 0 6 fresh\nwrite 0 7 fresh\nfold c0 1 8\nwrite 0 8 fresh\nwrite 0 9 fresh\nwrite 0 10 fresh\nwrite 0 11 fresh\nwrite 0 12 fresh\nwrite 0 13 fresh\nwrite 0 14 fresh\nwrite 0 15 fresh\nfold c0 2 8\nread 0 0 199 99 199 0 0 0 0 1\ncount 0 2 16\ncheck 0 0 1 0 free 0 8 0 8 1\nwrite 0 16 fresh\nwrite 0 17 fresh\nwrite 0 18 fresh\nwrite 0 19 fresh\nwrite 0 20 fresh\nwrite 0 21 fresh\nwrite 0 22 fresh\nwrite 0 23 fresh\nfold c0 3 8\nread 0 0 199 99 199 0 0 0 0 1\ncount 0 3 24\ncheck 0 0 1 0 free 0 8 0 8 1\nwrite 0 24 fresh\nwrite 0 25 fresh\nwrite 0 26 fresh\nwrite 0 27 fresh\nwrite 0 28 fresh\nwrite 0 29 fresh\nwrite 0 30 fresh\nwrite 0 31 fresh\nfold c0 4 8\nfold d0 1 32\nread 0 0 199 99 199 1 32 0 0 1\ncount 0 4 32\ncheck 0 0 1 0 free 0 8 0 8 1\nwrite 0 32 fresh\nwrite 0 33 fresh\nwrite 0 34 fresh\nwrite 0 35 fresh\nwrite 0 36 fresh\nwrite 0 37 fresh\nwrite 0 38 fresh\nwrite 0 39 fresh\nfold c0 5 8\nread 0 0 199 99 199 1 32 0 0 1\ncount 0 5 40\ncheck 0 0 1 0 free 0 8 0 8 1\nwrite 0 40 fresh\nwrite 0 41 fresh\nwrite 0 42 fresh\nwrite 0 43 fresh\nwrite 0 44 fresh\nwrite 0 45 fresh\nwrite 0 46 fresh\nwrite 0 47 fresh\nfold c0 6 8\nread 0 0 199 99 199 1 32 0 0 1\ncount 0 6 48\ncheck 0 0 1 0 free 0 8 0 8 1\nwrite 0 48 fresh\nwrite 0 49 fresh\nwrite 0 50 fresh\nwrite 0 51 fresh\nwrite 0 52 fresh\nwrite 0 53 fresh\nwrite 0 54 fresh\nwrite 0 55 fresh\nfold c0 7 8\nread 0 0 199 99 199 1 32 0 0 1\ncount 0 7 56\ncheck 0 0 1 0 free 0 8 0 8 1\nwrite 0 56 fresh\nwrite 0 57 fresh\nwrite 0 58 fresh\nwrite 0 59 fresh\nwrite 0 60 fresh\nwrite 0 61 fresh\nwrite 0 62 fresh\nwrite 0 63 fresh\nfold c0 8 8\nfold d0 2 32\nread 0 0 199 99 199 2 64 0 0 1\ncount 0 8 64\ncheck 0 0 1 0 free 0 8 0 8 1\nwrite 0 64 fresh\nwrite 0 65 fresh\nwrite 0 66 fresh\nwrite 0 67 fresh\nwrite 0 68 fresh\nwrite 0 69 fresh\nwrite 0 70 fresh\nwrite 0 71 fresh\nfold c0 9 8\nread 0 0 199 99 199 2 64 0 0 1\ncount 0 9 72\ncheck 0 0 1 0 free 0 8 0 8 1\nwrite 0 72 fresh\nwrite 0 73 fresh\nwrite 0 74 fresh\nwrite 0 75 fresh\nwrite 0 76 fresh\nwrite 0 77 fresh\nwrite 0 78 fresh\nwrite 0 79 fresh\nfold c0 10 8\nread 0 0 199 99 199 2 64 0 0 1\ncount 0 10 80\ncheck 0 0 1 0 free 0 8 0 8 1\nwrite 0 80 fresh\nwrite 0 81 fresh\nwrite 0 82 fresh\nwrite 0 83 fresh\nwrite 0 84 fresh\nwrite 0 85 fresh\nwrite 0 86 fresh\nwrite 0 87 fresh\nfold c0 11 8\nread 0 0 199 99 199 2 64 0 0 1\ncount 0 11 88\ncheck 0 0 1 0 free 0 8 0 8 1\nwrite 0 88 fresh\nwrite 0 89 fresh\nwrite 0 90 fresh\nwrite 0 91 fresh\nwrite 0 92 fresh\nwrite 0 93 fresh\nwrite 0 94 fresh\nwrite 0 95 fresh\nfold c0 12 8\nfold d0 3 32\nread 0 0 199 99 199 3 96 0 0 1\ncount 0 12 96\ncheck 0 0 1 0 free 0 8 0 8 1\nwrite 0 96 fresh\nwrite 0 97 fresh\nwrite 0 98 fresh\nwrite 0 99 fresh\nwrite 0 100 fresh\nwrite 0 101 fresh\nwrite 0 102 fresh\nwrite 0 103 fresh\nfold c0 13 8\nread 0 0 199 99 199 3 96 0 0 1\ncount 0 13 104\ncheck 0 0 1 0 free 0 8 0 8 1\nwrite 0 104 fresh\nwrite 0 105 fresh\nwrite 0 106 fresh\nwrite 0 107 fresh\nwrite 0 108 fresh\nwrite 0 109 fresh\nwrite 0 110 fresh\nwrite 0 111 fresh\nfold c0 14 8\nread 0 0 199 99 199 3 96 0 0 1\ncount 0 14 112\ncheck 0 0 1 0 free 0 8 0 8 1\nwrite 0 112 fresh\nwrite 0 113 fresh\nwrite 0 114 fresh\nwrite 0 115 fresh\nwrite 0 116 fresh\nwrite 0 117 fresh\nwrite 0 118 fresh\nwrite 0 119 fresh\nfold c0 15 8\nread 0 0 199 99 199 3 96 0 0 1\ncount 0 15 120\ncheck 0 0 1 0 free 0 8 0 8 1\nwrite 0 120 fresh\nwrite 0 121 fresh\nwrite 0 122 fresh\nwrite 0 123 fresh\nwrite 0 124 fresh\nwrite 0 125 fresh\nwrite 0 126 fresh\nwrite 0 127 fresh\nfold c0 16 8\nfold d0 4 32\nread 0 0 199 99 199 4 128 0 0 1\ncount 0 16 128\ncheck 0 0 1 0 free 0 8 0 8 1\nclaim 0 0\nclaim 0 1\nclaim 0 2\nclaim 0 3\nclaim 0 4\nclaim 0 5\nclaim 0 6\nclaim 0 7\nclaim 0 8\nclaim 0 9\nclaim 0 10\nclaim 0 11\nclaim 0 12\nclaim 0 13\nclaim 0 14\nclaim 0 15\nclaim 0 16\nclaim 0 17\nclaim 0 18\nclaim 0 19\nclaim 0 20\nclaim 0 21\nclaim 0 22\nclaim 0 23\nclaim 0 24\nclaim 0 25\nclaim 0 26\nclaim 0 27\nclaim 0 28\nclaim 0 29\nclaim 0 30\nclaim 0 31\nclaim 0 32\nclaim 0 33\nclaim 0 34\nclaim 0 35\nclaim 0 36\nclaim 0 37\nclaim 0 38\nclaim 0 39\nclaim 0 40\nclaim 0 41\nclaim 0 42\nclaim 0 43\nclaim 0 44\nclaim 0 45\nclaim 0 46\nclaim 0 47\nclaim 0 48\nclaim 0 49\nclaim 0 50\nclaim 0 51\nclaim 0 52\nclaim 0 53\nclaim 0 54\nclaim 0 55\nclaim 0 56\nclaim 0 57\nclaim 0 58\nclaim 0 59\nclaim 0 60\nclaim 0 61\nclaim 0 62\nclaim 0 63\nclaim 0 64\nclaim 0 65\nclaim 0 66\nclaim 0 67\nclaim 0 68\nclaim 0 69\nclaim 0 70\nclaim 0 71\nclaim 0 72\nclaim 0 73\nclaim 0 74\nclaim 0 75\nclaim 0 76\nclaim 0 77\nclaim 0 78\nclaim 0 79\nclaim 0 80\nclaim 0 81\nclaim 0 82\nclaim 0 83\nclaim 0 84\nclaim 0 85\nclaim 0 86\nclaim 0 87\nclaim 0 88\nclaim 0 89\nclaim 0 90\nclaim 0 91\nclaim 0 92\nclaim 0 93\nclaim 0 94\nclaim 0 95\nclaim 0 96\nclaim 0 97\nclaim 0 98\nclaim 0 99\nclaim 0 100\nclaim 0 101\nclaim 0 102\nclaim 0 103\nclaim 0 104\nclaim 0 105\nclaim 0 106\nclaim 0 107\nclaim 0 108\nclaim 0 109\nclaim 0 110\nclaim 0 111\nclaim 0 112\nclaim 0 113\nclaim 0 114\nclaim 0 115\nclaim 0 116\nclaim 0 117\nclaim 0 118\nclaim 0 119\nclaim 0 120\nclaim 0 121\nclaim 0 122\nclaim 0 123\nclaim 0 124\nclaim 0 125\nclaim 0 126\nclaim 0 127\nbatch 0 128 101 1101\nwrite 0 0 fresh\ndone 0 0\ndone 0 1\nclaim 1 0\ndone 0 2\ndone 0 3\ndone 0 4\ndone 0 5\ndone 0 6\ndone 0 7\ndone 0 8\nfold c0 17 -8\ndone 0 9\ndone 0 10\ndone 0 11\ndone 0 12\ndone 0 13\ndone 0 14\ndone 0 15\ndone 0 16\nfold c0 18 -8\ndone 0 17\ndone 0 18\ndone 0 19\ndone 0 20\ndone 0 21\ndone 0 22\ndone 0 23\ndone 0 24\nfold c0 19 -8\ndone 0 25\ndone 0 26\ndone 0 27\ndone 0 28\ndone 0 29\ndone 0 30\ndone 0 31\ndone 0 32\nfold c0 20 -8\nfold d0 5 -32\ndone 0 33\ndone 0 34\ndone 0 35\ndone 0 36\ndone 0 37\ndone 0 38\ndone 0 39\ndone 0 40\nfold c0 21 -8\ndone 0 41\ndone 0 42\ndone 0 43\ndone 0 44\ndone 0 45\ndone 0 46\ndone 0 47\ndone 0 48\nfold c0 22 -8\ndone 0 49\ndone 0 50\ndone 0 51\ndone 0 52\ndone 0 53\ndone 0 54\ndone 0 55\ndone 0 56\nfold c0 23 -8\ndone 0 57\ndone 0 58\ndone 0 59\ndone 0 60\ndone 0 61\ndone 0 62\ndone 0 63\ndone 0 64\nfold c0 24 -8\nfold d0 6 -32\ndone 0 65\ndone 0 66\ndone 0 67\ndone 0 68\ndone 0 69\ndone 0 70\ndone 0 71\ndone 0 72\nfold c0 25 -8\ndone 0 73\ndone 0 74\ndone 0 75\ndone 0 76\ndone 0 77\ndone 0 78\ndone 0 79\ndone 0 80\nfold c0 26 -8\ndone 0 81\ndone 0 82\ndone 0 83\ndone 0 84\ndone 0 85\ndone 0 86\ndone 0 87\ndone 0 88\nfold c0 27 -8\ndone 0 89\ndone 0 90\ndone 0 91\ndone 0 92\ndone 0 93\ndone 0 94\ndone 0 95\ndone 0 96\nfold c0 28 -8\nfold d0 7 -32\ndone 0 97\ndone 0 98\ndone 0 99\ndone 0 100\ndone 0 101\ndone 0 102\ndone 0 103\ndone 0 104\nfold c0 29 -8\ndone 0 105\ndone 0 106\ndone 0 107\ndone 0 108\ndone 0 109\ndone 0 110\ndone 0 111\ndone 0 112\nfold c0 30 -8\ndone 0 113\ndone 0 114\ndone 0 115\ndone 0 116\ndone 0 117\ndone 0 118\ndone 0 119\ndone 0 120\nfold c0 31 -8\ndone 0 121\ndone 0 122\ndone 0 123\ndone 0 124\ndone 0 125\ndone 0 126\ndone 0 127\nshare 0 0 128\nbatch 1 1 1101 1109\ndone 1 0\nfold c0 32 -8\nfold d0 8 -32\nshare 0 0 1\n"

-- nothing is left; the sums, and how the run ended
abbrev pub dirty_again_end : List ℕ
dirty_again_end = codes "census 0 0\ntotals 129 129\nend done\n"

-- All of the text but the lines of its 2215 steps.
unfoldable pub DirtyAgainRun : Type 0
DirtyAgainRun =
    journal_text (record (journal_of dirty_again_trace) { steps = [] }) ≡ dirty_again_timer ++ dirty_again_cpu_0 ++ dirty_again_end
