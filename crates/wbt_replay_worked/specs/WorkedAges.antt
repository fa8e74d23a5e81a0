-- Worked runs of an ageing device: the text of the journal of a trace, in full.
use Rattle.std.specs.Prelude.{◌≡◌, ℕ, Some, None, List, [], ◌∷◌, codes, ◌++◌}
use Rattle.wbt_trace.specs.declared.trace.Action.{Action}
use Rattle.wbt_trace.specs.declared.trace.Action.TheVariants.{Write, Rest}
use Rattle.wbt_trace.specs.declared.trace.Trace.{Trace}
use Rattle.wbt_journal.specs.Text.{journal_text}
use Rattle.wbt_replay_order.specs.Definition.Run.{journal_of}
use Rattle.wbt_replay_worked.specs.Worked.{small}

-- the small machine, with a disk whose inodes are due so many hundredths of a second after they were noticed
abbrev pub ageing_small : (centi pages : ℕ) (actions : List Action) → Trace
ageing_small centi pages actions = record (small pages actions) { contexts = (record { device = 0; domain = 0; expire = Some centi; estimate = None }) ∷ [] }

-- ---- a page is written for its age while its task rests

-- a task rests for 1000 ticks between two pages of an inode that is due after 10 hundredths of a second
abbrev pub aged_page_trace : Trace
aged_page_trace = ageing_small 10 2 (Write 0 0 0 1 ∷ Rest 0 1000 ∷ Write 0 0 1 1 ∷ [])

-- The inode is noticed at tick 1, and is due 100 ticks later. The page that is written last is taken from the queue, in the drain.
abbrev pub aged_page_parts : List ℕ
aged_page_parts = codes "timer\nlimits 0 1 19995 9985 19995\nlimits 0 201 19995 9985 19995\nlimits 0 401 19995 9985 19995\nlimits 0 601 19995 9985 19995\nlimits 0 801 19995 9985 19995\ncpu 0\nwrite 0 0 fresh\nnotice 0 0 1\nage 0 0 101 101\nclaim 0 0\nbatch 0 1 101 102\ndone 0 0\nshare 0 0 1\nest 0 1 24343 25600 25600 25600 1 1 202\nest 0 2 23154 25443 25600 25600 1 1 402\nest 0 3 22023 25157 25600 25443 1 1 602\nest 0 4 20947 24766 25600 25157 1 1 802\nwrite 0 1 fresh\nclaim 0 1\nbatch 0 1 1001 1002\ndone 0 1\nshare 0 0 1\n"

-- steps 1 to 90, each with the count of all pages after it and its bound
abbrev pub aged_page_steps : List ℕ
aged_page_steps = codes "steps\nstep 1 0 dirty 1 21067\nstep 2 0 add 1 21067\nstep 3 0 add 1 21067\nstep 4 0 mark 1 21067\nstep 5 0 first 1 21067\nstep 6 0 middle 1 21067\nstep 7 0 limits 1 21067\nstep 8 0 count 1 21067\nstep 9 0 first 1 21067\nstep 10 0 middle 1 21067\nstep 11 0 limits 1 21067\nstep 12 0 count 1 21067\nstep 13 0 unmark 1 21067\nstep 14 0 look 1 21067\nstep 15 0 claim 1 21067\nstep 16 0 look 1 21067\nstep 17 0 complete 0 21067\nstep 18 0 add 0 21067\nstep 19 0 add 0 21067\nstep 20 0 first 0 21067\nstep 21 0 middle 0 21067\nstep 22 0 limits 0 21067\nstep 23 0 count 0 21067\nstep 24 timer count 0 21067\nstep 25 timer peak 0 21067\nstep 26 timer unseal 0 21067\nstep 27 timer thresh 0 21067\nstep 28 timer publish 0 21067\nstep 29 0 first 0 21067\nstep 30 0 middle 0 21067\nstep 31 0 limits 0 21067\nstep 32 0 count 0 21067\nstep 33 0 count 0 21067\nstep 34 0 first 0 21067\nstep 35 0 middle 0 21067\nstep 36 0 limits 0 21067\nstep 37 0 count 0 21067\nstep 38 timer count 0 21067\nstep 39 timer peak 0 21067\nstep 40 timer unseal 0 21067\nstep 41 timer thresh 0 21067\nstep 42 timer publish 0 21067\nstep 43 0 first 0 21067\nstep 44 0 middle 0 21067\nstep 45 0 limits 0 21067\nstep 46 0 count 0 21067\nstep 47 0 count 0 21067\nstep 48 0 first 0 21067\nstep 49 0 middle 0 21067\nstep 50 0 limits 0 21067\nstep 51 0 count 0 21067\nstep 52 timer count 0 21067\nstep 53 timer peak 0 21067\nstep 54 timer unseal 0 21067\nstep 55 timer thresh 0 21067\nstep 56 timer publish 0 21067\nstep 57 0 first 0 21067\nstep 58 0 middle 0 21067\nstep 59 0 limits 0 21067\nstep 60 0 count 0 21067\nstep 61 0 count 0 21067\nstep 62 0 first 0 21067\nstep 63 0 middle 0 21067\nstep 64 0 limits 0 21067\nstep 65 0 count 0 21067\nstep 66 timer count 0 21067\nstep 67 timer peak 0 21067\nstep 68 timer unseal 0 21067\nstep 69 timer thresh 0 21067\nstep 70 timer publish 0 21067\nstep 71 0 first 0 21067\nstep 72 0 middle 0 21067\nstep 73 0 limits 0 21067\nstep 74 0 count 0 21067\nstep 75 0 count 0 21067\nstep 76 0 first 0 21067\nstep 77 0 middle 0 21067\nstep 78 0 limits 0 21067\nstep 79 0 count 0 21067\nstep 80 0 dirty 1 21067\nstep 81 0 add 1 21067\nstep 82 0 add 1 21067\nstep 83 0 mark 1 21067\nstep 84 0 unmark 1 21067\nstep 85 0 look 1 21067\nstep 86 0 look 1 21067\nstep 87 0 claim 1 21067\nstep 88 0 complete 0 21067\nstep 89 0 add 0 21067\nstep 90 0 add 0 21067\n"

-- nothing is left; the sums, and how the run ended
abbrev pub aged_page_end : List ℕ
aged_page_end = codes "census 0 0\ntotals 2 2\nend done\n"

-- the ordered run of this trace has just this journal
unfoldable pub AgedPageRun : Type 0
AgedPageRun = journal_text (journal_of aged_page_trace) ≡ aged_page_parts ++ aged_page_steps ++ aged_page_end

-- ---- an inode waits when the last task ends

-- a task rests for 150 ticks between two pages of an inode that is due after 100 hundredths of a second
abbrev pub waiting_inode_trace : Trace
waiting_inode_trace = ageing_small 100 2 (Write 0 0 0 1 ∷ Rest 0 150 ∷ Write 0 0 1 1 ∷ [])

-- It isn't due before tick 1001: in the drain it is taken from the list all the same, with both pages.
abbrev pub waiting_inode_parts : List ℕ
waiting_inode_parts = codes "timer\nlimits 0 1 19995 9985 19995\ncpu 0\nwrite 0 0 fresh\nnotice 0 0 1\nwrite 0 1 fresh\ntake 0 0\nclaim 0 0\nclaim 0 1\nbatch 0 2 151 152\ndone 0 0\ndone 0 1\nshare 0 0 2\n"

-- steps 1 to 27, each with the count of all pages after it and its bound
abbrev pub waiting_inode_steps : List ℕ
waiting_inode_steps = codes "steps\nstep 1 0 dirty 1 21067\nstep 2 0 add 1 21067\nstep 3 0 add 1 21067\nstep 4 0 mark 1 21067\nstep 5 0 first 1 21067\nstep 6 0 middle 1 21067\nstep 7 0 limits 1 21067\nstep 8 0 count 1 21067\nstep 9 0 first 1 21067\nstep 10 0 middle 1 21067\nstep 11 0 limits 1 21067\nstep 12 0 count 1 21067\nstep 13 0 dirty 2 21067\nstep 14 0 add 2 21067\nstep 15 0 add 2 21067\nstep 16 0 mark 2 21067\nstep 17 0 unmark 2 21067\nstep 18 0 look 2 21067\nstep 19 0 claim 2 21067\nstep 20 0 look 2 21067\nstep 21 0 claim 2 21067\nstep 22 0 complete 1 21067\nstep 23 0 add 1 21067\nstep 24 0 add 1 21067\nstep 25 0 complete 0 21067\nstep 26 0 add 0 21067\nstep 27 0 add 0 21067\n"

-- nothing is left; the sums, and how the run ended
abbrev pub waiting_inode_end : List ℕ
waiting_inode_end = codes "census 0 0\ntotals 2 2\nend done\n"

-- the ordered run of this trace has just this journal
unfoldable pub WaitingInodeRun : Type 0
WaitingInodeRun = journal_text (journal_of waiting_inode_trace) ≡ waiting_inode_parts ++ waiting_inode_steps ++ waiting_inode_end
