-- Journals with throttled writers, changing limits, failing disks, inodes that age, chunks, given estimates, scans that go round and paces, and their changes: made by tools/judged-values.
use Rattle.std.specs.Prelude.{true, false, Some, None, [], ◌∷◌, pos, negsuc}
use Rattle.wbt_counter.specs.declared.counter.Counter.TheVariants as counter
use Rattle.wbt_pause.specs.declared.decision.Kind.TheVariants as kind
use Rattle.wbt_trace.specs.declared.trace.Action.TheVariants as action
use Rattle.wbt_trace.specs.declared.trace.Trace.{Trace}
use Rattle.wbt_journal.specs.declared.entry.Entry.TheVariants as entry
use Rattle.wbt_journal.specs.declared.journal.Ending.TheVariants as ending
use Rattle.wbt_journal.specs.declared.journal.Journal.{Journal}
use Rattle.wbt_judged.specs.Lines.{settings, avail, device, chunked_device, cgroup, context, ageing_context, given_context, inode, on_cpu, flusher, limits, folded, read, check, estimate, part, left}

-- the trace of the next journals
abbrev pub case_ages_trace : Trace
case_ages_trace = record { cpus = 2; cap = 1024; settings = settings 20 10 0 0; avail = avail 0 100000 ∷ []; devices = device 25600 0 100 ∷ device 25600 0 100 ∷ []; cgroups = []; contexts = ageing_context 0 0 10 ∷ context 0 0 ∷ context 1 0 ∷ []; inodes = inode 0 0 1 ∷ inode 0 1 1 ∷ inode 1 2 1 ∷ inode 2 3 1 ∷ []; tasks = on_cpu 0 ∷ []; flushers = flusher 0 0 ∷ flusher 1 1 ∷ []; actions = action.Write 0 0 0 1 ∷ action.Write 0 1 0 1 ∷ action.Write 0 2 0 1 ∷ action.Write 0 3 0 1 ∷ []; order = []; halt = None }

-- a journal of it, which is lawful
abbrev pub case_ages : Journal
case_ages = record { timer = limits 0 1 19995 9985 19995 ∷ []; cpus = part (entry.Write 0 0 true ∷ entry.Write 0 1 true ∷ entry.Write 0 2 true ∷ entry.Noticed 0 2 1 ∷ entry.Noticed 0 1 1 ∷ entry.Noticed 0 0 1 ∷ entry.Write 0 3 true ∷ entry.Aged 0 0 101 101 ∷ entry.Claimed 0 0 ∷ entry.Batch 0 1 101 102 ∷ entry.Done 0 0 ∷ entry.Share 0 0 1 ∷ entry.Aged 0 1 101 103 ∷ entry.Claimed 0 1 ∷ entry.Batch 0 1 103 104 ∷ entry.Done 0 1 ∷ entry.Share 0 0 1 ∷ entry.Taken 0 2 ∷ entry.Claimed 0 2 ∷ entry.Batch 0 1 105 106 ∷ entry.Done 0 2 ∷ entry.Share 0 1 1 ∷ []) ([]) ([]) ∷ part (entry.Claimed 1 3 ∷ entry.Batch 1 1 105 106 ∷ entry.Done 1 3 ∷ entry.Share 0 2 1 ∷ []) ([]) ([]) ∷ []; steps = []; bases = []; homes = []; left = []; strict = []; ending = ending.Done }

-- a journal of it, which breaks point 10 at line 10
abbrev pub case_ages_1 : Journal
case_ages_1 = record { timer = limits 0 1 19995 9985 19995 ∷ []; cpus = part (entry.Write 0 0 true ∷ entry.Write 0 1 true ∷ entry.Write 0 2 true ∷ entry.Noticed 0 2 1 ∷ entry.Noticed 0 1 1 ∷ entry.Noticed 0 0 1 ∷ entry.Noticed 0 0 1 ∷ entry.Write 0 3 true ∷ entry.Aged 0 0 101 101 ∷ entry.Claimed 0 0 ∷ entry.Batch 0 1 101 102 ∷ entry.Done 0 0 ∷ entry.Share 0 0 1 ∷ entry.Aged 0 1 101 103 ∷ entry.Claimed 0 1 ∷ entry.Batch 0 1 103 104 ∷ entry.Done 0 1 ∷ entry.Share 0 0 1 ∷ entry.Taken 0 2 ∷ entry.Claimed 0 2 ∷ entry.Batch 0 1 105 106 ∷ entry.Done 0 2 ∷ entry.Share 0 1 1 ∷ []) ([]) ([]) ∷ part (entry.Claimed 1 3 ∷ entry.Batch 1 1 105 106 ∷ entry.Done 1 3 ∷ entry.Share 0 2 1 ∷ []) ([]) ([]) ∷ []; steps = []; bases = []; homes = []; left = []; strict = []; ending = ending.Done }

-- a journal of it, which breaks point 10 at line 7
abbrev pub case_ages_2 : Journal
case_ages_2 = record { timer = limits 0 1 19995 9985 19995 ∷ []; cpus = part (entry.Write 0 0 true ∷ entry.Write 0 1 true ∷ entry.Write 0 2 true ∷ entry.Noticed 0 3 1 ∷ entry.Noticed 0 1 1 ∷ entry.Noticed 0 0 1 ∷ entry.Write 0 3 true ∷ entry.Aged 0 0 101 101 ∷ entry.Claimed 0 0 ∷ entry.Batch 0 1 101 102 ∷ entry.Done 0 0 ∷ entry.Share 0 0 1 ∷ entry.Aged 0 1 101 103 ∷ entry.Claimed 0 1 ∷ entry.Batch 0 1 103 104 ∷ entry.Done 0 1 ∷ entry.Share 0 0 1 ∷ entry.Taken 0 2 ∷ entry.Claimed 0 2 ∷ entry.Batch 0 1 105 106 ∷ entry.Done 0 2 ∷ entry.Share 0 1 1 ∷ []) ([]) ([]) ∷ part (entry.Claimed 1 3 ∷ entry.Batch 1 1 105 106 ∷ entry.Done 1 3 ∷ entry.Share 0 2 1 ∷ []) ([]) ([]) ∷ []; steps = []; bases = []; homes = []; left = []; strict = []; ending = ending.Done }

-- a journal of it, which breaks point 10 at line 27
abbrev pub case_ages_3 : Journal
case_ages_3 = record { timer = limits 0 1 19995 9985 19995 ∷ []; cpus = part (entry.Write 0 0 true ∷ entry.Write 0 1 true ∷ entry.Write 0 2 true ∷ entry.Noticed 0 2 1 ∷ entry.Noticed 0 1 1 ∷ entry.Noticed 0 0 1 ∷ entry.Write 0 3 true ∷ entry.Aged 0 0 101 101 ∷ entry.Claimed 0 0 ∷ entry.Batch 0 1 101 102 ∷ entry.Done 0 0 ∷ entry.Share 0 0 1 ∷ entry.Aged 0 1 101 103 ∷ entry.Claimed 0 1 ∷ entry.Batch 0 1 103 104 ∷ entry.Done 0 1 ∷ entry.Share 0 0 1 ∷ entry.Taken 0 2 ∷ entry.Claimed 0 2 ∷ entry.Batch 0 1 105 106 ∷ entry.Done 0 2 ∷ entry.Share 0 1 1 ∷ []) ([]) ([]) ∷ part (entry.Noticed 1 3 1 ∷ entry.Claimed 1 3 ∷ entry.Batch 1 1 105 106 ∷ entry.Done 1 3 ∷ entry.Share 0 2 1 ∷ []) ([]) ([]) ∷ []; steps = []; bases = []; homes = []; left = []; strict = []; ending = ending.Done }

-- a journal of it, which breaks point 10 at line 7
abbrev pub case_ages_4 : Journal
case_ages_4 = record { timer = limits 0 1 19995 9985 19995 ∷ []; cpus = part (entry.Write 0 0 true ∷ entry.Write 0 1 true ∷ entry.Write 0 2 true ∷ entry.Noticed 0 9 1 ∷ entry.Noticed 0 1 1 ∷ entry.Noticed 0 0 1 ∷ entry.Write 0 3 true ∷ entry.Aged 0 0 101 101 ∷ entry.Claimed 0 0 ∷ entry.Batch 0 1 101 102 ∷ entry.Done 0 0 ∷ entry.Share 0 0 1 ∷ entry.Aged 0 1 101 103 ∷ entry.Claimed 0 1 ∷ entry.Batch 0 1 103 104 ∷ entry.Done 0 1 ∷ entry.Share 0 0 1 ∷ entry.Taken 0 2 ∷ entry.Claimed 0 2 ∷ entry.Batch 0 1 105 106 ∷ entry.Done 0 2 ∷ entry.Share 0 1 1 ∷ []) ([]) ([]) ∷ part (entry.Claimed 1 3 ∷ entry.Batch 1 1 105 106 ∷ entry.Done 1 3 ∷ entry.Share 0 2 1 ∷ []) ([]) ([]) ∷ []; steps = []; bases = []; homes = []; left = []; strict = []; ending = ending.Done }

-- a journal of it, which breaks point 10 at line 11
abbrev pub case_ages_5 : Journal
case_ages_5 = record { timer = limits 0 1 19995 9985 19995 ∷ []; cpus = part (entry.Write 0 0 true ∷ entry.Write 0 1 true ∷ entry.Write 0 2 true ∷ entry.Noticed 0 2 1 ∷ entry.Noticed 0 1 1 ∷ entry.Noticed 0 0 1 ∷ entry.Write 0 3 true ∷ entry.Aged 0 1 101 101 ∷ entry.Claimed 0 0 ∷ entry.Batch 0 1 101 102 ∷ entry.Done 0 0 ∷ entry.Share 0 0 1 ∷ entry.Aged 0 1 101 103 ∷ entry.Claimed 0 1 ∷ entry.Batch 0 1 103 104 ∷ entry.Done 0 1 ∷ entry.Share 0 0 1 ∷ entry.Taken 0 2 ∷ entry.Claimed 0 2 ∷ entry.Batch 0 1 105 106 ∷ entry.Done 0 2 ∷ entry.Share 0 1 1 ∷ []) ([]) ([]) ∷ part (entry.Claimed 1 3 ∷ entry.Batch 1 1 105 106 ∷ entry.Done 1 3 ∷ entry.Share 0 2 1 ∷ []) ([]) ([]) ∷ []; steps = []; bases = []; homes = []; left = []; strict = []; ending = ending.Done }

-- a journal of it, which breaks point 10 at line 11
abbrev pub case_ages_6 : Journal
case_ages_6 = record { timer = limits 0 1 19995 9985 19995 ∷ []; cpus = part (entry.Write 0 0 true ∷ entry.Write 0 1 true ∷ entry.Write 0 2 true ∷ entry.Noticed 0 2 1 ∷ entry.Noticed 0 1 1 ∷ entry.Noticed 0 0 1 ∷ entry.Write 0 3 true ∷ entry.Aged 0 0 100 101 ∷ entry.Claimed 0 0 ∷ entry.Batch 0 1 101 102 ∷ entry.Done 0 0 ∷ entry.Share 0 0 1 ∷ entry.Aged 0 1 101 103 ∷ entry.Claimed 0 1 ∷ entry.Batch 0 1 103 104 ∷ entry.Done 0 1 ∷ entry.Share 0 0 1 ∷ entry.Taken 0 2 ∷ entry.Claimed 0 2 ∷ entry.Batch 0 1 105 106 ∷ entry.Done 0 2 ∷ entry.Share 0 1 1 ∷ []) ([]) ([]) ∷ part (entry.Claimed 1 3 ∷ entry.Batch 1 1 105 106 ∷ entry.Done 1 3 ∷ entry.Share 0 2 1 ∷ []) ([]) ([]) ∷ []; steps = []; bases = []; homes = []; left = []; strict = []; ending = ending.Done }

-- a journal of it, which breaks point 10 at line 11
abbrev pub case_ages_7 : Journal
case_ages_7 = record { timer = limits 0 1 19995 9985 19995 ∷ []; cpus = part (entry.Write 0 0 true ∷ entry.Write 0 1 true ∷ entry.Write 0 2 true ∷ entry.Noticed 0 2 1 ∷ entry.Noticed 0 1 1 ∷ entry.Noticed 0 0 1 ∷ entry.Write 0 3 true ∷ entry.Aged 0 0 101 100 ∷ entry.Claimed 0 0 ∷ entry.Batch 0 1 101 102 ∷ entry.Done 0 0 ∷ entry.Share 0 0 1 ∷ entry.Aged 0 1 101 103 ∷ entry.Claimed 0 1 ∷ entry.Batch 0 1 103 104 ∷ entry.Done 0 1 ∷ entry.Share 0 0 1 ∷ entry.Taken 0 2 ∷ entry.Claimed 0 2 ∷ entry.Batch 0 1 105 106 ∷ entry.Done 0 2 ∷ entry.Share 0 1 1 ∷ []) ([]) ([]) ∷ part (entry.Claimed 1 3 ∷ entry.Batch 1 1 105 106 ∷ entry.Done 1 3 ∷ entry.Share 0 2 1 ∷ []) ([]) ([]) ∷ []; steps = []; bases = []; homes = []; left = []; strict = []; ending = ending.Done }

-- a journal of it, which is lawful
abbrev pub case_ages_8 : Journal
case_ages_8 = record { timer = limits 0 1 19995 9985 19995 ∷ []; cpus = part (entry.Write 0 0 true ∷ entry.Write 0 1 true ∷ entry.Write 0 2 true ∷ entry.Noticed 0 2 1 ∷ entry.Noticed 0 1 1 ∷ entry.Noticed 0 0 1 ∷ entry.Write 0 3 true ∷ entry.Aged 0 0 101 101 ∷ entry.Claimed 0 0 ∷ entry.Batch 0 1 101 102 ∷ entry.Done 0 0 ∷ entry.Share 0 0 1 ∷ entry.Aged 0 1 101 9000 ∷ entry.Claimed 0 1 ∷ entry.Batch 0 1 103 104 ∷ entry.Done 0 1 ∷ entry.Share 0 0 1 ∷ entry.Taken 0 2 ∷ entry.Claimed 0 2 ∷ entry.Batch 0 1 105 106 ∷ entry.Done 0 2 ∷ entry.Share 0 1 1 ∷ []) ([]) ([]) ∷ part (entry.Claimed 1 3 ∷ entry.Batch 1 1 105 106 ∷ entry.Done 1 3 ∷ entry.Share 0 2 1 ∷ []) ([]) ([]) ∷ []; steps = []; bases = []; homes = []; left = []; strict = []; ending = ending.Done }

-- a journal of it, which breaks point 10 at line 21
abbrev pub case_ages_9 : Journal
case_ages_9 = record { timer = limits 0 1 19995 9985 19995 ∷ []; cpus = part (entry.Write 0 0 true ∷ entry.Write 0 1 true ∷ entry.Write 0 2 true ∷ entry.Noticed 0 2 1 ∷ entry.Noticed 0 1 1 ∷ entry.Noticed 0 0 1 ∷ entry.Write 0 3 true ∷ entry.Aged 0 0 101 101 ∷ entry.Claimed 0 0 ∷ entry.Batch 0 1 101 102 ∷ entry.Done 0 0 ∷ entry.Share 0 0 1 ∷ entry.Aged 0 1 101 103 ∷ entry.Claimed 0 1 ∷ entry.Batch 0 1 103 104 ∷ entry.Done 0 1 ∷ entry.Share 0 0 1 ∷ entry.Aged 0 2 30001 30000 ∷ entry.Claimed 0 2 ∷ entry.Batch 0 1 105 106 ∷ entry.Done 0 2 ∷ entry.Share 0 1 1 ∷ []) ([]) ([]) ∷ part (entry.Claimed 1 3 ∷ entry.Batch 1 1 105 106 ∷ entry.Done 1 3 ∷ entry.Share 0 2 1 ∷ []) ([]) ([]) ∷ []; steps = []; bases = []; homes = []; left = []; strict = []; ending = ending.Done }

-- a journal of it, which is lawful
abbrev pub case_ages_10 : Journal
case_ages_10 = record { timer = limits 0 1 19995 9985 19995 ∷ []; cpus = part (entry.Write 0 0 true ∷ entry.Write 0 1 true ∷ entry.Write 0 2 true ∷ entry.Noticed 0 2 1 ∷ entry.Noticed 0 1 1 ∷ entry.Noticed 0 0 1 ∷ entry.Write 0 3 true ∷ entry.Aged 0 0 101 101 ∷ entry.Claimed 0 0 ∷ entry.Batch 0 1 101 102 ∷ entry.Done 0 0 ∷ entry.Share 0 0 1 ∷ entry.Aged 0 1 101 103 ∷ entry.Claimed 0 1 ∷ entry.Batch 0 1 103 104 ∷ entry.Done 0 1 ∷ entry.Share 0 0 1 ∷ entry.Aged 0 2 30001 30001 ∷ entry.Claimed 0 2 ∷ entry.Batch 0 1 105 106 ∷ entry.Done 0 2 ∷ entry.Share 0 1 1 ∷ []) ([]) ([]) ∷ part (entry.Claimed 1 3 ∷ entry.Batch 1 1 105 106 ∷ entry.Done 1 3 ∷ entry.Share 0 2 1 ∷ []) ([]) ([]) ∷ []; steps = []; bases = []; homes = []; left = []; strict = []; ending = ending.Done }

-- a journal of it, which breaks point 10 at line 11
abbrev pub case_ages_11 : Journal
case_ages_11 = record { timer = limits 0 1 19995 9985 19995 ∷ []; cpus = part (entry.Write 0 0 true ∷ entry.Write 0 1 true ∷ entry.Write 0 2 true ∷ entry.Noticed 0 2 1 ∷ entry.Noticed 0 1 1 ∷ entry.Noticed 0 0 1 ∷ entry.Write 0 3 true ∷ entry.Taken 0 1 ∷ entry.Claimed 0 0 ∷ entry.Batch 0 1 101 102 ∷ entry.Done 0 0 ∷ entry.Share 0 0 1 ∷ entry.Aged 0 1 101 103 ∷ entry.Claimed 0 1 ∷ entry.Batch 0 1 103 104 ∷ entry.Done 0 1 ∷ entry.Share 0 0 1 ∷ entry.Taken 0 2 ∷ entry.Claimed 0 2 ∷ entry.Batch 0 1 105 106 ∷ entry.Done 0 2 ∷ entry.Share 0 1 1 ∷ []) ([]) ([]) ∷ part (entry.Claimed 1 3 ∷ entry.Batch 1 1 105 106 ∷ entry.Done 1 3 ∷ entry.Share 0 2 1 ∷ []) ([]) ([]) ∷ []; steps = []; bases = []; homes = []; left = []; strict = []; ending = ending.Done }

-- a journal of it, which is lawful
abbrev pub case_ages_12 : Journal
case_ages_12 = record { timer = limits 0 1 19995 9985 19995 ∷ []; cpus = part (entry.Write 0 0 true ∷ entry.Write 0 1 true ∷ entry.Write 0 2 true ∷ entry.Noticed 0 2 1 ∷ entry.Noticed 0 1 1 ∷ entry.Noticed 0 0 1 ∷ entry.Write 0 3 true ∷ entry.Taken 0 0 ∷ entry.Claimed 0 0 ∷ entry.Batch 0 1 101 102 ∷ entry.Done 0 0 ∷ entry.Share 0 0 1 ∷ entry.Aged 0 1 101 103 ∷ entry.Claimed 0 1 ∷ entry.Batch 0 1 103 104 ∷ entry.Done 0 1 ∷ entry.Share 0 0 1 ∷ entry.Taken 0 2 ∷ entry.Claimed 0 2 ∷ entry.Batch 0 1 105 106 ∷ entry.Done 0 2 ∷ entry.Share 0 1 1 ∷ []) ([]) ([]) ∷ part (entry.Claimed 1 3 ∷ entry.Batch 1 1 105 106 ∷ entry.Done 1 3 ∷ entry.Share 0 2 1 ∷ []) ([]) ([]) ∷ []; steps = []; bases = []; homes = []; left = []; strict = []; ending = ending.Done }

-- a journal of it, which breaks point 10 at line 22
abbrev pub case_ages_13 : Journal
case_ages_13 = record { timer = limits 0 1 19995 9985 19995 ∷ []; cpus = part (entry.Write 0 0 true ∷ entry.Write 0 1 true ∷ entry.Write 0 2 true ∷ entry.Noticed 0 2 1 ∷ entry.Noticed 0 1 1 ∷ entry.Noticed 0 0 1 ∷ entry.Write 0 3 true ∷ entry.Aged 0 0 101 101 ∷ entry.Claimed 0 0 ∷ entry.Batch 0 1 101 102 ∷ entry.Done 0 0 ∷ entry.Share 0 0 1 ∷ entry.Aged 0 1 101 103 ∷ entry.Claimed 0 1 ∷ entry.Batch 0 1 103 104 ∷ entry.Done 0 1 ∷ entry.Share 0 0 1 ∷ entry.Taken 0 2 ∷ entry.Taken 0 2 ∷ entry.Claimed 0 2 ∷ entry.Batch 0 1 105 106 ∷ entry.Done 0 2 ∷ entry.Share 0 1 1 ∷ []) ([]) ([]) ∷ part (entry.Claimed 1 3 ∷ entry.Batch 1 1 105 106 ∷ entry.Done 1 3 ∷ entry.Share 0 2 1 ∷ []) ([]) ([]) ∷ []; steps = []; bases = []; homes = []; left = []; strict = []; ending = ending.Done }

-- a journal of it, which breaks point 10 at line 17
abbrev pub case_ages_14 : Journal
case_ages_14 = record { timer = limits 0 1 19995 9985 19995 ∷ []; cpus = part (entry.Write 0 0 true ∷ entry.Write 0 1 true ∷ entry.Write 0 2 true ∷ entry.Noticed 0 2 1 ∷ entry.Noticed 0 1 1 ∷ entry.Noticed 0 0 1 ∷ entry.Write 0 3 true ∷ entry.Aged 0 0 101 101 ∷ entry.Claimed 0 0 ∷ entry.Batch 0 1 101 102 ∷ entry.Done 0 0 ∷ entry.Share 0 0 1 ∷ entry.Aged 0 1 101 103 ∷ entry.Aged 0 1 101 103 ∷ entry.Claimed 0 1 ∷ entry.Batch 0 1 103 104 ∷ entry.Done 0 1 ∷ entry.Share 0 0 1 ∷ entry.Taken 0 2 ∷ entry.Claimed 0 2 ∷ entry.Batch 0 1 105 106 ∷ entry.Done 0 2 ∷ entry.Share 0 1 1 ∷ []) ([]) ([]) ∷ part (entry.Claimed 1 3 ∷ entry.Batch 1 1 105 106 ∷ entry.Done 1 3 ∷ entry.Share 0 2 1 ∷ []) ([]) ([]) ∷ []; steps = []; bases = []; homes = []; left = []; strict = []; ending = ending.Done }

-- a journal of it, which breaks point 10 at line 22
abbrev pub case_ages_15 : Journal
case_ages_15 = record { timer = limits 0 1 19995 9985 19995 ∷ []; cpus = part (entry.Write 0 0 true ∷ entry.Write 0 1 true ∷ entry.Write 0 2 true ∷ entry.Noticed 0 2 1 ∷ entry.Noticed 0 1 1 ∷ entry.Noticed 0 0 1 ∷ entry.Write 0 3 true ∷ entry.Aged 0 0 101 101 ∷ entry.Noticed 0 0 101 ∷ entry.Claimed 0 0 ∷ entry.Batch 0 1 101 102 ∷ entry.Done 0 0 ∷ entry.Share 0 0 1 ∷ entry.Aged 0 1 101 103 ∷ entry.Claimed 0 1 ∷ entry.Batch 0 1 103 104 ∷ entry.Done 0 1 ∷ entry.Share 0 0 1 ∷ entry.Taken 0 2 ∷ entry.Claimed 0 2 ∷ entry.Batch 0 1 105 106 ∷ entry.Done 0 2 ∷ entry.Share 0 1 1 ∷ []) ([]) ([]) ∷ part (entry.Claimed 1 3 ∷ entry.Batch 1 1 105 106 ∷ entry.Done 1 3 ∷ entry.Share 0 2 1 ∷ []) ([]) ([]) ∷ []; steps = []; bases = []; homes = []; left = []; strict = []; ending = ending.Done }

-- a journal of it, which is lawful
abbrev pub case_ages_16 : Journal
case_ages_16 = record { timer = limits 0 1 19995 9985 19995 ∷ []; cpus = part (entry.Write 0 0 true ∷ entry.Write 0 1 true ∷ entry.Write 0 2 true ∷ entry.Noticed 0 2 1 ∷ entry.Noticed 0 1 1 ∷ entry.Noticed 0 0 1 ∷ entry.Write 0 3 true ∷ entry.Aged 0 0 101 101 ∷ entry.Claimed 0 0 ∷ entry.Batch 0 1 101 102 ∷ entry.Done 0 0 ∷ entry.Share 0 0 1 ∷ entry.Aged 0 1 101 103 ∷ entry.Claimed 0 1 ∷ entry.Batch 0 1 103 104 ∷ entry.Done 0 1 ∷ entry.Share 0 0 1 ∷ entry.Taken 0 2 ∷ entry.Noticed 0 0 105 ∷ entry.Claimed 0 2 ∷ entry.Batch 0 1 105 106 ∷ entry.Done 0 2 ∷ entry.Share 0 1 1 ∷ []) ([]) ([]) ∷ part (entry.Claimed 1 3 ∷ entry.Batch 1 1 105 106 ∷ entry.Done 1 3 ∷ entry.Share 0 2 1 ∷ []) ([]) ([]) ∷ []; steps = []; bases = []; homes = []; left = []; strict = []; ending = ending.Done }

-- a journal of it, which breaks point 14 at line 27
abbrev pub case_ages_17 : Journal
case_ages_17 = record { timer = limits 0 1 19995 9985 19995 ∷ []; cpus = part (entry.Write 0 0 true ∷ entry.Write 0 1 true ∷ entry.Write 0 2 true ∷ entry.Noticed 0 2 1 ∷ entry.Noticed 0 1 1 ∷ entry.Noticed 0 0 1 ∷ entry.Write 0 3 true ∷ entry.Aged 0 0 101 101 ∷ entry.Claimed 0 0 ∷ entry.Batch 0 1 101 102 ∷ entry.Done 0 0 ∷ entry.Share 0 0 1 ∷ entry.Aged 0 1 101 103 ∷ entry.Claimed 0 1 ∷ entry.Batch 0 1 103 104 ∷ entry.Done 0 1 ∷ entry.Share 0 0 1 ∷ entry.Taken 0 2 ∷ entry.Claimed 0 2 ∷ entry.Batch 0 1 105 106 ∷ entry.Done 0 2 ∷ entry.Share 0 1 1 ∷ []) ([]) ([]) ∷ part (entry.Taken 0 2 ∷ entry.Claimed 1 3 ∷ entry.Batch 1 1 105 106 ∷ entry.Done 1 3 ∷ entry.Share 0 2 1 ∷ []) ([]) ([]) ∷ []; steps = []; bases = []; homes = []; left = []; strict = []; ending = ending.Done }

-- a journal of it, which breaks point 14 at line 21
abbrev pub case_ages_18 : Journal
case_ages_18 = record { timer = limits 0 1 19995 9985 19995 ∷ []; cpus = part (entry.Write 0 0 true ∷ entry.Write 0 1 true ∷ entry.Write 0 2 true ∷ entry.Noticed 0 2 1 ∷ entry.Noticed 0 1 1 ∷ entry.Noticed 0 0 1 ∷ entry.Write 0 3 true ∷ entry.Aged 0 0 101 101 ∷ entry.Claimed 0 0 ∷ entry.Batch 0 1 101 102 ∷ entry.Done 0 0 ∷ entry.Share 0 0 1 ∷ entry.Aged 0 1 101 103 ∷ entry.Claimed 0 1 ∷ entry.Batch 0 1 103 104 ∷ entry.Done 0 1 ∷ entry.Share 0 0 1 ∷ entry.Taken 2 2 ∷ entry.Claimed 0 2 ∷ entry.Batch 0 1 105 106 ∷ entry.Done 0 2 ∷ entry.Share 0 1 1 ∷ []) ([]) ([]) ∷ part (entry.Claimed 1 3 ∷ entry.Batch 1 1 105 106 ∷ entry.Done 1 3 ∷ entry.Share 0 2 1 ∷ []) ([]) ([]) ∷ []; steps = []; bases = []; homes = []; left = []; strict = []; ending = ending.Done }

-- the trace of the next journals
abbrev pub case_chunked_trace : Trace
case_chunked_trace = record { cpus = 1; cap = 1024; settings = settings 20 10 0 0; avail = avail 0 7 ∷ []; devices = chunked_device 1 0 100 4 ∷ []; cgroups = []; contexts = context 0 0 ∷ context 0 0 ∷ []; inodes = inode 1 0 5 ∷ []; tasks = on_cpu 0 ∷ []; flushers = flusher 0 0 ∷ []; actions = action.Rest 0 292 ∷ action.Write 0 0 0 5 ∷ action.Rest 0 297 ∷ []; order = []; halt = None }

-- a journal of it, which is lawful
abbrev pub case_chunked : Journal
case_chunked = record { timer = limits 0 1 1 0 1 ∷ limits 0 201 1 0 1 ∷ []; cpus = part (entry.Est 0 ∷ entry.Est 1 ∷ entry.Write 0 0 true ∷ entry.Write 0 1 true ∷ entry.Write 0 2 true ∷ entry.Write 0 3 true ∷ entry.Write 0 4 true ∷ entry.Claimed 0 0 ∷ entry.Claimed 0 1 ∷ entry.Claimed 0 2 ∷ entry.Claimed 0 3 ∷ entry.Batch 0 4 293 4293 ∷ entry.Done 0 0 ∷ entry.Done 0 1 ∷ entry.Done 0 2 ∷ entry.Done 0 3 ∷ entry.Share 0 1 4 ∷ entry.Claimed 0 4 ∷ entry.Batch 0 1 4293 5293 ∷ entry.Done 0 4 ∷ entry.Share 0 1 1 ∷ []) ([]) (estimate 0 1 24350 25600 25600 25600 0 0 201 ∷ estimate 1 1 24350 25600 25600 25600 0 0 201 ∷ []) ∷ []; steps = []; bases = []; homes = []; left = []; strict = []; ending = ending.Done }

-- a journal of it, which breaks point 14 at line 17
abbrev pub case_chunked_1 : Journal
case_chunked_1 = record { timer = limits 0 1 1 0 1 ∷ limits 0 201 1 0 1 ∷ []; cpus = part (entry.Est 0 ∷ entry.Est 1 ∷ entry.Write 0 0 true ∷ entry.Write 0 1 true ∷ entry.Write 0 2 true ∷ entry.Write 0 3 true ∷ entry.Write 0 4 true ∷ entry.Claimed 0 0 ∷ entry.Claimed 0 1 ∷ entry.Claimed 0 2 ∷ entry.Claimed 0 3 ∷ entry.Claimed 0 4 ∷ entry.Batch 0 5 293 4293 ∷ entry.Done 0 0 ∷ entry.Done 0 1 ∷ entry.Done 0 2 ∷ entry.Done 0 3 ∷ entry.Done 0 4 ∷ entry.Share 0 1 4 ∷ entry.Share 0 1 1 ∷ []) ([]) (estimate 0 1 24350 25600 25600 25600 0 0 201 ∷ estimate 1 1 24350 25600 25600 25600 0 0 201 ∷ []) ∷ []; steps = []; bases = []; homes = []; left = []; strict = []; ending = ending.Done }

-- a journal of it, which breaks point 14 at line 17
abbrev pub case_chunked_2 : Journal
case_chunked_2 = record { timer = limits 0 1 1 0 1 ∷ limits 0 201 1 0 1 ∷ []; cpus = part (entry.Est 0 ∷ entry.Est 1 ∷ entry.Write 0 0 true ∷ entry.Write 0 1 true ∷ entry.Write 0 2 true ∷ entry.Write 0 3 true ∷ entry.Write 0 4 true ∷ entry.Claimed 0 0 ∷ entry.Claimed 0 1 ∷ entry.Claimed 0 2 ∷ entry.Claimed 0 3 ∷ entry.Claimed 0 4 ∷ entry.Fault 0 5 ∷ entry.Back 0 0 false ∷ entry.Back 0 1 false ∷ entry.Back 0 2 false ∷ entry.Back 0 3 false ∷ entry.Back 0 4 false ∷ entry.Claimed 0 0 ∷ entry.Claimed 0 1 ∷ entry.Claimed 0 2 ∷ entry.Claimed 0 3 ∷ entry.Batch 0 4 1293 5293 ∷ entry.Done 0 0 ∷ entry.Done 0 1 ∷ entry.Done 0 2 ∷ entry.Done 0 3 ∷ entry.Share 0 1 4 ∷ entry.Claimed 0 4 ∷ entry.Batch 0 1 4293 5293 ∷ entry.Done 0 4 ∷ entry.Share 0 1 1 ∷ []) ([]) (estimate 0 1 24350 25600 25600 25600 0 0 201 ∷ estimate 1 1 24350 25600 25600 25600 0 0 201 ∷ []) ∷ []; steps = []; bases = []; homes = []; left = []; strict = []; ending = ending.Done }

-- a journal of it, which is lawful
abbrev pub case_chunked_3 : Journal
case_chunked_3 = record { timer = limits 0 1 1 0 1 ∷ limits 0 201 1 0 1 ∷ []; cpus = part (entry.Est 0 ∷ entry.Est 1 ∷ entry.Write 0 0 true ∷ entry.Write 0 1 true ∷ entry.Write 0 2 true ∷ entry.Write 0 3 true ∷ entry.Write 0 4 true ∷ entry.Claimed 0 0 ∷ entry.Claimed 0 1 ∷ entry.Claimed 0 2 ∷ entry.Claimed 0 3 ∷ entry.Fault 0 4 ∷ entry.Back 0 0 false ∷ entry.Back 0 1 false ∷ entry.Back 0 2 false ∷ entry.Back 0 3 false ∷ entry.Claimed 0 0 ∷ entry.Claimed 0 1 ∷ entry.Claimed 0 2 ∷ entry.Claimed 0 3 ∷ entry.Batch 0 4 1293 5293 ∷ entry.Done 0 0 ∷ entry.Done 0 1 ∷ entry.Done 0 2 ∷ entry.Done 0 3 ∷ entry.Share 0 1 4 ∷ entry.Claimed 0 4 ∷ entry.Batch 0 1 4293 5293 ∷ entry.Done 0 4 ∷ entry.Share 0 1 1 ∷ []) ([]) (estimate 0 1 24350 25600 25600 25600 0 0 201 ∷ estimate 1 1 24350 25600 25600 25600 0 0 201 ∷ []) ∷ []; steps = []; bases = []; homes = []; left = []; strict = []; ending = ending.Done }

-- the trace of the next journals
abbrev pub case_cut_pauses_trace : Trace
case_cut_pauses_trace = record { cpus = 1; cap = 16; settings = settings 20 10 135168 4096; avail = avail 0 1000 ∷ []; devices = device 25600 0 100 ∷ []; cgroups = []; contexts = context 0 0 ∷ context 0 0 ∷ []; inodes = inode 0 0 40 ∷ inode 1 40 40 ∷ []; tasks = on_cpu 0 ∷ []; flushers = flusher 0 0 ∷ []; actions = action.Write 0 0 0 31 ∷ action.Write 0 1 0 16 ∷ []; order = []; halt = None }

-- a journal of it, which is lawful
abbrev pub case_cut_pauses : Journal
case_cut_pauses = record { timer = limits 0 1 33 1 33 ∷ []; cpus = part (entry.Write 0 0 true ∷ entry.Write 0 1 true ∷ entry.Write 0 2 true ∷ entry.Write 0 3 true ∷ entry.Write 0 4 true ∷ entry.Write 0 5 true ∷ entry.Write 0 6 true ∷ entry.Write 0 7 true ∷ folded (counter.Context 0) 1 (pos 8) ∷ entry.Write 0 8 true ∷ entry.Write 0 9 true ∷ entry.Write 0 10 true ∷ entry.Write 0 11 true ∷ entry.Write 0 12 true ∷ entry.Write 0 13 true ∷ entry.Write 0 14 true ∷ entry.Write 0 15 true ∷ folded (counter.Context 0) 2 (pos 8) ∷ entry.Check 0 ∷ entry.Write 0 16 true ∷ entry.Write 0 17 true ∷ entry.Write 0 18 true ∷ entry.Write 0 19 true ∷ entry.Check 1 ∷ entry.Write 0 20 true ∷ entry.Write 0 21 true ∷ entry.Write 0 22 true ∷ entry.Write 0 23 true ∷ folded (counter.Context 0) 3 (pos 8) ∷ entry.Check 2 ∷ entry.Write 0 24 true ∷ entry.Write 0 25 true ∷ entry.Write 0 26 true ∷ entry.Write 0 27 true ∷ entry.Check 3 ∷ entry.Write 0 28 true ∷ entry.Write 0 29 true ∷ entry.Write 0 30 true ∷ entry.Write 0 40 true ∷ folded (counter.Domain 0) 1 (pos 32) ∷ entry.Write 0 41 true ∷ entry.Write 0 42 true ∷ entry.Write 0 43 true ∷ entry.Write 0 44 true ∷ entry.Write 0 45 true ∷ entry.Write 0 46 true ∷ entry.Write 0 47 true ∷ folded (counter.Context 1) 1 (pos 8) ∷ entry.Write 0 48 true ∷ entry.Write 0 49 true ∷ entry.Write 0 50 true ∷ entry.Write 0 51 true ∷ entry.Write 0 52 true ∷ entry.Check 4 ∷ entry.Write 0 53 true ∷ entry.Write 0 54 true ∷ entry.Write 0 55 true ∷ folded (counter.Context 1) 2 (pos 8) ∷ entry.Check 5 ∷ entry.Claimed 0 0 ∷ entry.Claimed 0 1 ∷ entry.Claimed 0 2 ∷ entry.Claimed 0 3 ∷ entry.Claimed 0 4 ∷ entry.Claimed 0 5 ∷ entry.Claimed 0 6 ∷ entry.Claimed 0 7 ∷ entry.Claimed 0 8 ∷ entry.Claimed 0 9 ∷ entry.Claimed 0 10 ∷ entry.Claimed 0 11 ∷ entry.Claimed 0 12 ∷ entry.Claimed 0 13 ∷ entry.Claimed 0 14 ∷ entry.Claimed 0 15 ∷ entry.Claimed 0 16 ∷ entry.Claimed 0 17 ∷ entry.Claimed 0 18 ∷ entry.Claimed 0 19 ∷ entry.Claimed 0 20 ∷ entry.Claimed 0 21 ∷ entry.Claimed 0 22 ∷ entry.Claimed 0 23 ∷ entry.Claimed 0 24 ∷ entry.Claimed 0 25 ∷ entry.Claimed 0 26 ∷ entry.Claimed 0 27 ∷ entry.Claimed 0 28 ∷ entry.Claimed 0 29 ∷ entry.Claimed 0 30 ∷ entry.Batch 0 31 2 4 ∷ entry.Done 0 0 ∷ entry.Done 0 1 ∷ entry.Done 0 2 ∷ entry.Done 0 3 ∷ entry.Done 0 4 ∷ entry.Done 0 5 ∷ entry.Done 0 6 ∷ entry.Done 0 7 ∷ entry.Done 0 8 ∷ entry.Done 0 9 ∷ entry.Done 0 10 ∷ entry.Done 0 11 ∷ entry.Done 0 12 ∷ entry.Done 0 13 ∷ entry.Done 0 14 ∷ folded (counter.Context 0) 4 (negsuc 7) ∷ entry.Done 0 15 ∷ entry.Done 0 16 ∷ entry.Done 0 17 ∷ entry.Done 0 18 ∷ entry.Done 0 19 ∷ entry.Done 0 20 ∷ entry.Done 0 21 ∷ entry.Done 0 22 ∷ folded (counter.Context 0) 5 (negsuc 7) ∷ entry.Done 0 23 ∷ entry.Done 0 24 ∷ entry.Done 0 25 ∷ entry.Done 0 26 ∷ entry.Done 0 27 ∷ entry.Done 0 28 ∷ entry.Done 0 29 ∷ entry.Done 0 30 ∷ folded (counter.Context 0) 6 (negsuc 7) ∷ entry.Share 0 0 31 ∷ entry.Claimed 0 40 ∷ entry.Claimed 0 41 ∷ entry.Claimed 0 42 ∷ entry.Claimed 0 43 ∷ entry.Claimed 0 44 ∷ entry.Claimed 0 45 ∷ entry.Claimed 0 46 ∷ entry.Claimed 0 47 ∷ entry.Claimed 0 48 ∷ entry.Claimed 0 49 ∷ entry.Claimed 0 50 ∷ entry.Claimed 0 51 ∷ entry.Claimed 0 52 ∷ entry.Claimed 0 53 ∷ entry.Claimed 0 54 ∷ entry.Claimed 0 55 ∷ entry.Batch 0 16 4 5 ∷ entry.Done 0 40 ∷ entry.Done 0 41 ∷ entry.Done 0 42 ∷ entry.Done 0 43 ∷ entry.Done 0 44 ∷ entry.Done 0 45 ∷ entry.Done 0 46 ∷ entry.Done 0 47 ∷ folded (counter.Context 1) 3 (negsuc 7) ∷ entry.Done 0 48 ∷ entry.Done 0 49 ∷ entry.Done 0 50 ∷ entry.Done 0 51 ∷ entry.Done 0 52 ∷ entry.Done 0 53 ∷ entry.Done 0 54 ∷ entry.Done 0 55 ∷ folded (counter.Context 1) 4 (negsuc 7) ∷ folded (counter.Domain 0) 2 (negsuc 31) ∷ entry.Share 0 1 16 ∷ []) (check 0 0 1 (read 0 0 33 1 33 0 (pos 0) 0 0 1) None 2 (pos 16) 0 kind.Free 0 4 0 4 1 ∷ check 0 0 1 (read 0 0 33 1 33 0 (pos 0) 0 0 1) None 2 (pos 16) 0 kind.Free 0 4 0 4 1 ∷ check 0 0 1 (read 0 0 33 1 33 0 (pos 0) 0 0 1) None 3 (pos 24) 0 kind.Free 0 4 0 4 1 ∷ check 0 0 1 (read 0 0 33 1 33 0 (pos 0) 0 0 1) None 3 (pos 24) 0 kind.Free 0 4 0 4 1 ∷ check 0 1 1 (read 0 0 33 1 33 1 (pos 32) 0 0 1) None 1 (pos 8) 0 kind.Go 1 3 0 3 3 ∷ check 0 1 2 (read 0 0 33 1 33 1 (pos 32) 0 0 1) None 2 (pos 16) 0 kind.Go 1 3 0 3 3 ∷ []) ([]) ∷ []; steps = []; bases = []; homes = []; left = []; strict = []; ending = ending.Done }

-- a journal of it, which breaks point 7 at line 67
abbrev pub case_cut_pauses_1 : Journal
case_cut_pauses_1 = record { timer = limits 0 1 33 1 33 ∷ []; cpus = part (entry.Write 0 0 true ∷ entry.Write 0 1 true ∷ entry.Write 0 2 true ∷ entry.Write 0 3 true ∷ entry.Write 0 4 true ∷ entry.Write 0 5 true ∷ entry.Write 0 6 true ∷ entry.Write 0 7 true ∷ folded (counter.Context 0) 1 (pos 8) ∷ entry.Write 0 8 true ∷ entry.Write 0 9 true ∷ entry.Write 0 10 true ∷ entry.Write 0 11 true ∷ entry.Write 0 12 true ∷ entry.Write 0 13 true ∷ entry.Write 0 14 true ∷ entry.Write 0 15 true ∷ folded (counter.Context 0) 2 (pos 8) ∷ entry.Check 0 ∷ entry.Write 0 16 true ∷ entry.Write 0 17 true ∷ entry.Write 0 18 true ∷ entry.Write 0 19 true ∷ entry.Check 1 ∷ entry.Write 0 20 true ∷ entry.Write 0 21 true ∷ entry.Write 0 22 true ∷ entry.Write 0 23 true ∷ folded (counter.Context 0) 3 (pos 8) ∷ entry.Check 2 ∷ entry.Write 0 24 true ∷ entry.Write 0 25 true ∷ entry.Write 0 26 true ∷ entry.Write 0 27 true ∷ entry.Check 3 ∷ entry.Write 0 28 true ∷ entry.Write 0 29 true ∷ entry.Write 0 30 true ∷ entry.Write 0 40 true ∷ folded (counter.Domain 0) 1 (pos 32) ∷ entry.Write 0 41 true ∷ entry.Write 0 42 true ∷ entry.Write 0 43 true ∷ entry.Write 0 44 true ∷ entry.Write 0 45 true ∷ entry.Write 0 46 true ∷ entry.Write 0 47 true ∷ folded (counter.Context 1) 1 (pos 8) ∷ entry.Write 0 48 true ∷ entry.Write 0 49 true ∷ entry.Write 0 50 true ∷ entry.Write 0 51 true ∷ entry.Write 0 52 true ∷ entry.Check 4 ∷ entry.Write 0 53 true ∷ entry.Write 0 54 true ∷ entry.Write 0 55 true ∷ folded (counter.Context 1) 2 (pos 8) ∷ entry.Check 5 ∷ entry.Claimed 0 0 ∷ entry.Claimed 0 1 ∷ entry.Claimed 0 2 ∷ entry.Claimed 0 3 ∷ entry.Claimed 0 4 ∷ entry.Claimed 0 5 ∷ entry.Claimed 0 6 ∷ entry.Claimed 0 7 ∷ entry.Claimed 0 8 ∷ entry.Claimed 0 9 ∷ entry.Claimed 0 10 ∷ entry.Claimed 0 11 ∷ entry.Claimed 0 12 ∷ entry.Claimed 0 13 ∷ entry.Claimed 0 14 ∷ entry.Claimed 0 15 ∷ entry.Claimed 0 16 ∷ entry.Claimed 0 17 ∷ entry.Claimed 0 18 ∷ entry.Claimed 0 19 ∷ entry.Claimed 0 20 ∷ entry.Claimed 0 21 ∷ entry.Claimed 0 22 ∷ entry.Claimed 0 23 ∷ entry.Claimed 0 24 ∷ entry.Claimed 0 25 ∷ entry.Claimed 0 26 ∷ entry.Claimed 0 27 ∷ entry.Claimed 0 28 ∷ entry.Claimed 0 29 ∷ entry.Claimed 0 30 ∷ entry.Batch 0 31 2 4 ∷ entry.Done 0 0 ∷ entry.Done 0 1 ∷ entry.Done 0 2 ∷ entry.Done 0 3 ∷ entry.Done 0 4 ∷ entry.Done 0 5 ∷ entry.Done 0 6 ∷ entry.Done 0 7 ∷ entry.Done 0 8 ∷ entry.Done 0 9 ∷ entry.Done 0 10 ∷ entry.Done 0 11 ∷ entry.Done 0 12 ∷ entry.Done 0 13 ∷ entry.Done 0 14 ∷ folded (counter.Context 0) 4 (negsuc 7) ∷ entry.Done 0 15 ∷ entry.Done 0 16 ∷ entry.Done 0 17 ∷ entry.Done 0 18 ∷ entry.Done 0 19 ∷ entry.Done 0 20 ∷ entry.Done 0 21 ∷ entry.Done 0 22 ∷ folded (counter.Context 0) 5 (negsuc 7) ∷ entry.Done 0 23 ∷ entry.Done 0 24 ∷ entry.Done 0 25 ∷ entry.Done 0 26 ∷ entry.Done 0 27 ∷ entry.Done 0 28 ∷ entry.Done 0 29 ∷ entry.Done 0 30 ∷ folded (counter.Context 0) 6 (negsuc 7) ∷ entry.Share 0 0 31 ∷ entry.Claimed 0 40 ∷ entry.Claimed 0 41 ∷ entry.Claimed 0 42 ∷ entry.Claimed 0 43 ∷ entry.Claimed 0 44 ∷ entry.Claimed 0 45 ∷ entry.Claimed 0 46 ∷ entry.Claimed 0 47 ∷ entry.Claimed 0 48 ∷ entry.Claimed 0 49 ∷ entry.Claimed 0 50 ∷ entry.Claimed 0 51 ∷ entry.Claimed 0 52 ∷ entry.Claimed 0 53 ∷ entry.Claimed 0 54 ∷ entry.Claimed 0 55 ∷ entry.Batch 0 16 4 5 ∷ entry.Done 0 40 ∷ entry.Done 0 41 ∷ entry.Done 0 42 ∷ entry.Done 0 43 ∷ entry.Done 0 44 ∷ entry.Done 0 45 ∷ entry.Done 0 46 ∷ entry.Done 0 47 ∷ folded (counter.Context 1) 3 (negsuc 7) ∷ entry.Done 0 48 ∷ entry.Done 0 49 ∷ entry.Done 0 50 ∷ entry.Done 0 51 ∷ entry.Done 0 52 ∷ entry.Done 0 53 ∷ entry.Done 0 54 ∷ entry.Done 0 55 ∷ folded (counter.Context 1) 4 (negsuc 7) ∷ folded (counter.Domain 0) 2 (negsuc 31) ∷ entry.Share 0 1 16 ∷ []) (check 0 0 1 (read 0 0 33 1 33 0 (pos 0) 0 0 1) None 2 (pos 16) 0 kind.Free 0 4 0 4 1 ∷ check 0 0 1 (read 0 0 33 1 33 0 (pos 0) 0 0 1) None 2 (pos 16) 0 kind.Free 0 4 0 4 1 ∷ check 0 0 1 (read 0 0 33 1 33 0 (pos 0) 0 0 1) None 3 (pos 24) 0 kind.Free 0 4 0 4 1 ∷ check 0 0 1 (read 0 0 33 1 33 0 (pos 0) 0 0 1) None 3 (pos 24) 0 kind.Free 0 4 0 4 1 ∷ check 0 1 1 (read 0 0 33 1 33 1 (pos 32) 0 0 1) None 1 (pos 8) 0 kind.Go 1 3 0 3 5 ∷ check 0 1 2 (read 0 0 33 1 33 1 (pos 32) 0 0 1) None 2 (pos 16) 0 kind.Go 1 3 0 3 3 ∷ []) ([]) ∷ []; steps = []; bases = []; homes = []; left = []; strict = []; ending = ending.Done }

-- a journal of it, which breaks point 7 at line 67
abbrev pub case_cut_pauses_2 : Journal
case_cut_pauses_2 = record { timer = limits 0 1 33 1 33 ∷ []; cpus = part (entry.Write 0 0 true ∷ entry.Write 0 1 true ∷ entry.Write 0 2 true ∷ entry.Write 0 3 true ∷ entry.Write 0 4 true ∷ entry.Write 0 5 true ∷ entry.Write 0 6 true ∷ entry.Write 0 7 true ∷ folded (counter.Context 0) 1 (pos 8) ∷ entry.Write 0 8 true ∷ entry.Write 0 9 true ∷ entry.Write 0 10 true ∷ entry.Write 0 11 true ∷ entry.Write 0 12 true ∷ entry.Write 0 13 true ∷ entry.Write 0 14 true ∷ entry.Write 0 15 true ∷ folded (counter.Context 0) 2 (pos 8) ∷ entry.Check 0 ∷ entry.Write 0 16 true ∷ entry.Write 0 17 true ∷ entry.Write 0 18 true ∷ entry.Write 0 19 true ∷ entry.Check 1 ∷ entry.Write 0 20 true ∷ entry.Write 0 21 true ∷ entry.Write 0 22 true ∷ entry.Write 0 23 true ∷ folded (counter.Context 0) 3 (pos 8) ∷ entry.Check 2 ∷ entry.Write 0 24 true ∷ entry.Write 0 25 true ∷ entry.Write 0 26 true ∷ entry.Write 0 27 true ∷ entry.Check 3 ∷ entry.Write 0 28 true ∷ entry.Write 0 29 true ∷ entry.Write 0 30 true ∷ entry.Write 0 40 true ∷ folded (counter.Domain 0) 1 (pos 32) ∷ entry.Write 0 41 true ∷ entry.Write 0 42 true ∷ entry.Write 0 43 true ∷ entry.Write 0 44 true ∷ entry.Write 0 45 true ∷ entry.Write 0 46 true ∷ entry.Write 0 47 true ∷ folded (counter.Context 1) 1 (pos 8) ∷ entry.Write 0 48 true ∷ entry.Write 0 49 true ∷ entry.Write 0 50 true ∷ entry.Write 0 51 true ∷ entry.Write 0 52 true ∷ entry.Check 4 ∷ entry.Write 0 53 true ∷ entry.Write 0 54 true ∷ entry.Write 0 55 true ∷ folded (counter.Context 1) 2 (pos 8) ∷ entry.Check 5 ∷ entry.Claimed 0 0 ∷ entry.Claimed 0 1 ∷ entry.Claimed 0 2 ∷ entry.Claimed 0 3 ∷ entry.Claimed 0 4 ∷ entry.Claimed 0 5 ∷ entry.Claimed 0 6 ∷ entry.Claimed 0 7 ∷ entry.Claimed 0 8 ∷ entry.Claimed 0 9 ∷ entry.Claimed 0 10 ∷ entry.Claimed 0 11 ∷ entry.Claimed 0 12 ∷ entry.Claimed 0 13 ∷ entry.Claimed 0 14 ∷ entry.Claimed 0 15 ∷ entry.Claimed 0 16 ∷ entry.Claimed 0 17 ∷ entry.Claimed 0 18 ∷ entry.Claimed 0 19 ∷ entry.Claimed 0 20 ∷ entry.Claimed 0 21 ∷ entry.Claimed 0 22 ∷ entry.Claimed 0 23 ∷ entry.Claimed 0 24 ∷ entry.Claimed 0 25 ∷ entry.Claimed 0 26 ∷ entry.Claimed 0 27 ∷ entry.Claimed 0 28 ∷ entry.Claimed 0 29 ∷ entry.Claimed 0 30 ∷ entry.Batch 0 31 2 4 ∷ entry.Done 0 0 ∷ entry.Done 0 1 ∷ entry.Done 0 2 ∷ entry.Done 0 3 ∷ entry.Done 0 4 ∷ entry.Done 0 5 ∷ entry.Done 0 6 ∷ entry.Done 0 7 ∷ entry.Done 0 8 ∷ entry.Done 0 9 ∷ entry.Done 0 10 ∷ entry.Done 0 11 ∷ entry.Done 0 12 ∷ entry.Done 0 13 ∷ entry.Done 0 14 ∷ folded (counter.Context 0) 4 (negsuc 7) ∷ entry.Done 0 15 ∷ entry.Done 0 16 ∷ entry.Done 0 17 ∷ entry.Done 0 18 ∷ entry.Done 0 19 ∷ entry.Done 0 20 ∷ entry.Done 0 21 ∷ entry.Done 0 22 ∷ folded (counter.Context 0) 5 (negsuc 7) ∷ entry.Done 0 23 ∷ entry.Done 0 24 ∷ entry.Done 0 25 ∷ entry.Done 0 26 ∷ entry.Done 0 27 ∷ entry.Done 0 28 ∷ entry.Done 0 29 ∷ entry.Done 0 30 ∷ folded (counter.Context 0) 6 (negsuc 7) ∷ entry.Share 0 0 31 ∷ entry.Claimed 0 40 ∷ entry.Claimed 0 41 ∷ entry.Claimed 0 42 ∷ entry.Claimed 0 43 ∷ entry.Claimed 0 44 ∷ entry.Claimed 0 45 ∷ entry.Claimed 0 46 ∷ entry.Claimed 0 47 ∷ entry.Claimed 0 48 ∷ entry.Claimed 0 49 ∷ entry.Claimed 0 50 ∷ entry.Claimed 0 51 ∷ entry.Claimed 0 52 ∷ entry.Claimed 0 53 ∷ entry.Claimed 0 54 ∷ entry.Claimed 0 55 ∷ entry.Batch 0 16 4 5 ∷ entry.Done 0 40 ∷ entry.Done 0 41 ∷ entry.Done 0 42 ∷ entry.Done 0 43 ∷ entry.Done 0 44 ∷ entry.Done 0 45 ∷ entry.Done 0 46 ∷ entry.Done 0 47 ∷ folded (counter.Context 1) 3 (negsuc 7) ∷ entry.Done 0 48 ∷ entry.Done 0 49 ∷ entry.Done 0 50 ∷ entry.Done 0 51 ∷ entry.Done 0 52 ∷ entry.Done 0 53 ∷ entry.Done 0 54 ∷ entry.Done 0 55 ∷ folded (counter.Context 1) 4 (negsuc 7) ∷ folded (counter.Domain 0) 2 (negsuc 31) ∷ entry.Share 0 1 16 ∷ []) (check 0 0 1 (read 0 0 33 1 33 0 (pos 0) 0 0 1) None 2 (pos 16) 0 kind.Free 0 4 0 4 1 ∷ check 0 0 1 (read 0 0 33 1 33 0 (pos 0) 0 0 1) None 2 (pos 16) 0 kind.Free 0 4 0 4 1 ∷ check 0 0 1 (read 0 0 33 1 33 0 (pos 0) 0 0 1) None 3 (pos 24) 0 kind.Free 0 4 0 4 1 ∷ check 0 0 1 (read 0 0 33 1 33 0 (pos 0) 0 0 1) None 3 (pos 24) 0 kind.Free 0 4 0 4 1 ∷ check 0 1 1 (read 0 0 33 1 33 1 (pos 32) 0 0 1) None 1 (pos 8) 0 kind.Go 1 3 0 3 2 ∷ check 0 1 2 (read 0 0 33 1 33 1 (pos 32) 0 0 1) None 2 (pos 16) 0 kind.Go 1 3 0 3 3 ∷ []) ([]) ∷ []; steps = []; bases = []; homes = []; left = []; strict = []; ending = ending.Done }

-- a journal of it, which breaks point 7 at line 74
abbrev pub case_cut_pauses_3 : Journal
case_cut_pauses_3 = record { timer = limits 0 1 33 1 33 ∷ []; cpus = part (entry.Write 0 0 true ∷ entry.Write 0 1 true ∷ entry.Write 0 2 true ∷ entry.Write 0 3 true ∷ entry.Write 0 4 true ∷ entry.Write 0 5 true ∷ entry.Write 0 6 true ∷ entry.Write 0 7 true ∷ folded (counter.Context 0) 1 (pos 8) ∷ entry.Write 0 8 true ∷ entry.Write 0 9 true ∷ entry.Write 0 10 true ∷ entry.Write 0 11 true ∷ entry.Write 0 12 true ∷ entry.Write 0 13 true ∷ entry.Write 0 14 true ∷ entry.Write 0 15 true ∷ folded (counter.Context 0) 2 (pos 8) ∷ entry.Check 0 ∷ entry.Write 0 16 true ∷ entry.Write 0 17 true ∷ entry.Write 0 18 true ∷ entry.Write 0 19 true ∷ entry.Check 1 ∷ entry.Write 0 20 true ∷ entry.Write 0 21 true ∷ entry.Write 0 22 true ∷ entry.Write 0 23 true ∷ folded (counter.Context 0) 3 (pos 8) ∷ entry.Check 2 ∷ entry.Write 0 24 true ∷ entry.Write 0 25 true ∷ entry.Write 0 26 true ∷ entry.Write 0 27 true ∷ entry.Check 3 ∷ entry.Write 0 28 true ∷ entry.Write 0 29 true ∷ entry.Write 0 30 true ∷ entry.Write 0 40 true ∷ folded (counter.Domain 0) 1 (pos 32) ∷ entry.Write 0 41 true ∷ entry.Write 0 42 true ∷ entry.Write 0 43 true ∷ entry.Write 0 44 true ∷ entry.Write 0 45 true ∷ entry.Write 0 46 true ∷ entry.Write 0 47 true ∷ folded (counter.Context 1) 1 (pos 8) ∷ entry.Write 0 48 true ∷ entry.Write 0 49 true ∷ entry.Write 0 50 true ∷ entry.Write 0 51 true ∷ entry.Write 0 52 true ∷ entry.Check 4 ∷ entry.Write 0 53 true ∷ entry.Write 0 54 true ∷ entry.Write 0 55 true ∷ folded (counter.Context 1) 2 (pos 8) ∷ entry.Check 5 ∷ entry.Claimed 0 0 ∷ entry.Claimed 0 1 ∷ entry.Claimed 0 2 ∷ entry.Claimed 0 3 ∷ entry.Claimed 0 4 ∷ entry.Claimed 0 5 ∷ entry.Claimed 0 6 ∷ entry.Claimed 0 7 ∷ entry.Claimed 0 8 ∷ entry.Claimed 0 9 ∷ entry.Claimed 0 10 ∷ entry.Claimed 0 11 ∷ entry.Claimed 0 12 ∷ entry.Claimed 0 13 ∷ entry.Claimed 0 14 ∷ entry.Claimed 0 15 ∷ entry.Claimed 0 16 ∷ entry.Claimed 0 17 ∷ entry.Claimed 0 18 ∷ entry.Claimed 0 19 ∷ entry.Claimed 0 20 ∷ entry.Claimed 0 21 ∷ entry.Claimed 0 22 ∷ entry.Claimed 0 23 ∷ entry.Claimed 0 24 ∷ entry.Claimed 0 25 ∷ entry.Claimed 0 26 ∷ entry.Claimed 0 27 ∷ entry.Claimed 0 28 ∷ entry.Claimed 0 29 ∷ entry.Claimed 0 30 ∷ entry.Batch 0 31 2 4 ∷ entry.Done 0 0 ∷ entry.Done 0 1 ∷ entry.Done 0 2 ∷ entry.Done 0 3 ∷ entry.Done 0 4 ∷ entry.Done 0 5 ∷ entry.Done 0 6 ∷ entry.Done 0 7 ∷ entry.Done 0 8 ∷ entry.Done 0 9 ∷ entry.Done 0 10 ∷ entry.Done 0 11 ∷ entry.Done 0 12 ∷ entry.Done 0 13 ∷ entry.Done 0 14 ∷ folded (counter.Context 0) 4 (negsuc 7) ∷ entry.Done 0 15 ∷ entry.Done 0 16 ∷ entry.Done 0 17 ∷ entry.Done 0 18 ∷ entry.Done 0 19 ∷ entry.Done 0 20 ∷ entry.Done 0 21 ∷ entry.Done 0 22 ∷ folded (counter.Context 0) 5 (negsuc 7) ∷ entry.Done 0 23 ∷ entry.Done 0 24 ∷ entry.Done 0 25 ∷ entry.Done 0 26 ∷ entry.Done 0 27 ∷ entry.Done 0 28 ∷ entry.Done 0 29 ∷ entry.Done 0 30 ∷ folded (counter.Context 0) 6 (negsuc 7) ∷ entry.Share 0 0 31 ∷ entry.Claimed 0 40 ∷ entry.Claimed 0 41 ∷ entry.Claimed 0 42 ∷ entry.Claimed 0 43 ∷ entry.Claimed 0 44 ∷ entry.Claimed 0 45 ∷ entry.Claimed 0 46 ∷ entry.Claimed 0 47 ∷ entry.Claimed 0 48 ∷ entry.Claimed 0 49 ∷ entry.Claimed 0 50 ∷ entry.Claimed 0 51 ∷ entry.Claimed 0 52 ∷ entry.Claimed 0 53 ∷ entry.Claimed 0 54 ∷ entry.Claimed 0 55 ∷ entry.Batch 0 16 4 5 ∷ entry.Done 0 40 ∷ entry.Done 0 41 ∷ entry.Done 0 42 ∷ entry.Done 0 43 ∷ entry.Done 0 44 ∷ entry.Done 0 45 ∷ entry.Done 0 46 ∷ entry.Done 0 47 ∷ folded (counter.Context 1) 3 (negsuc 7) ∷ entry.Done 0 48 ∷ entry.Done 0 49 ∷ entry.Done 0 50 ∷ entry.Done 0 51 ∷ entry.Done 0 52 ∷ entry.Done 0 53 ∷ entry.Done 0 54 ∷ entry.Done 0 55 ∷ folded (counter.Context 1) 4 (negsuc 7) ∷ folded (counter.Domain 0) 2 (negsuc 31) ∷ entry.Share 0 1 16 ∷ []) (check 0 0 1 (read 0 0 33 1 33 0 (pos 0) 0 0 1) None 2 (pos 16) 0 kind.Free 0 4 0 4 1 ∷ check 0 0 1 (read 0 0 33 1 33 0 (pos 0) 0 0 1) None 2 (pos 16) 0 kind.Free 0 4 0 4 1 ∷ check 0 0 1 (read 0 0 33 1 33 0 (pos 0) 0 0 1) None 3 (pos 24) 0 kind.Free 0 4 0 4 1 ∷ check 0 0 1 (read 0 0 33 1 33 0 (pos 0) 0 0 1) None 3 (pos 24) 0 kind.Free 0 4 0 4 1 ∷ check 0 1 1 (read 0 0 33 1 33 1 (pos 32) 0 0 1) None 1 (pos 8) 0 kind.Go 1 3 0 3 3 ∷ check 0 1 2 (read 0 0 33 1 33 1 (pos 32) 0 0 1) None 2 (pos 16) 0 kind.Go 4 3 0 3 5 ∷ []) ([]) ∷ []; steps = []; bases = []; homes = []; left = []; strict = []; ending = ending.Done }

-- the trace of the next journals
abbrev pub case_ends_at_its_pace_trace : Trace
case_ends_at_its_pace_trace = record { cpus = 1; cap = 1024; settings = settings 20 10 143360 4096; avail = avail 0 1000 ∷ []; devices = device 25600 0 100 ∷ []; cgroups = []; contexts = context 0 0 ∷ []; inodes = inode 0 0 20 ∷ inode 0 20 4 ∷ []; tasks = (record (on_cpu 0) { pace = Some (record { pages = 2; ticks = 5 }) }) ∷ on_cpu 0 ∷ []; flushers = flusher 0 0 ∷ []; actions = action.Rest 0 10 ∷ action.Write 0 1 0 4 ∷ action.Write 1 0 0 16 ∷ action.Rest 1 30 ∷ action.Write 1 0 16 4 ∷ []; order = []; halt = None }

-- a journal of it, which is lawful
abbrev pub case_ends_at_its_pace : Journal
case_ends_at_its_pace = record { timer = limits 0 1 35 1 35 ∷ []; cpus = part (entry.Write 1 0 true ∷ entry.Write 1 1 true ∷ entry.Write 1 2 true ∷ entry.Write 1 3 true ∷ entry.Write 1 4 true ∷ entry.Write 1 5 true ∷ entry.Write 1 6 true ∷ entry.Write 1 7 true ∷ folded (counter.Context 0) 1 (pos 8) ∷ entry.Write 1 8 true ∷ entry.Write 1 9 true ∷ entry.Write 1 10 true ∷ entry.Write 1 11 true ∷ entry.Write 1 12 true ∷ entry.Write 1 13 true ∷ entry.Write 1 14 true ∷ entry.Write 1 15 true ∷ folded (counter.Context 0) 2 (pos 8) ∷ entry.Check 0 ∷ entry.Write 0 20 true ∷ entry.Write 0 21 true ∷ entry.Write 0 22 true ∷ entry.Write 0 23 true ∷ entry.Write 1 16 true ∷ entry.Check 1 ∷ entry.Write 1 17 true ∷ entry.Write 1 18 true ∷ entry.Write 1 19 true ∷ folded (counter.Context 0) 3 (pos 8) ∷ entry.Check 2 ∷ entry.Claimed 0 0 ∷ entry.Claimed 0 1 ∷ entry.Claimed 0 2 ∷ entry.Claimed 0 3 ∷ entry.Claimed 0 4 ∷ entry.Claimed 0 5 ∷ entry.Claimed 0 6 ∷ entry.Claimed 0 7 ∷ entry.Claimed 0 8 ∷ entry.Claimed 0 9 ∷ entry.Claimed 0 10 ∷ entry.Claimed 0 11 ∷ entry.Claimed 0 12 ∷ entry.Claimed 0 13 ∷ entry.Claimed 0 14 ∷ entry.Claimed 0 15 ∷ entry.Claimed 0 16 ∷ entry.Claimed 0 17 ∷ entry.Claimed 0 18 ∷ entry.Claimed 0 19 ∷ entry.Batch 0 20 31 32 ∷ entry.Done 0 0 ∷ entry.Done 0 1 ∷ entry.Done 0 2 ∷ entry.Done 0 3 ∷ entry.Done 0 4 ∷ entry.Done 0 5 ∷ entry.Done 0 6 ∷ entry.Done 0 7 ∷ folded (counter.Context 0) 4 (negsuc 7) ∷ entry.Done 0 8 ∷ entry.Done 0 9 ∷ entry.Done 0 10 ∷ entry.Done 0 11 ∷ entry.Done 0 12 ∷ entry.Done 0 13 ∷ entry.Done 0 14 ∷ entry.Done 0 15 ∷ folded (counter.Context 0) 5 (negsuc 7) ∷ entry.Done 0 16 ∷ entry.Done 0 17 ∷ entry.Done 0 18 ∷ entry.Done 0 19 ∷ entry.Share 0 0 20 ∷ entry.Claimed 0 20 ∷ entry.Claimed 0 21 ∷ entry.Claimed 0 22 ∷ entry.Claimed 0 23 ∷ entry.Batch 0 4 32 33 ∷ entry.Done 0 20 ∷ entry.Done 0 21 ∷ entry.Done 0 22 ∷ entry.Done 0 23 ∷ folded (counter.Context 0) 6 (negsuc 7) ∷ entry.Share 0 0 4 ∷ []) (check 1 0 1 (read 0 0 35 1 35 0 (pos 0) 0 0 1) None 2 (pos 16) 0 kind.Free 0 4 0 4 1 ∷ check 1 0 31 (read 0 0 35 1 35 0 (pos 0) 0 0 1) None 2 (pos 16) 0 kind.Free 0 4 0 4 31 ∷ check 1 0 31 (read 0 0 35 1 35 0 (pos 0) 0 0 1) None 3 (pos 24) 0 kind.Free 0 4 0 4 31 ∷ []) ([]) ∷ []; steps = []; bases = []; homes = []; left = []; strict = []; ending = ending.Done }

-- a journal of it, which breaks point 8 at line 30
abbrev pub case_ends_at_its_pace_1 : Journal
case_ends_at_its_pace_1 = record { timer = limits 0 1 35 1 35 ∷ []; cpus = part (entry.Write 1 0 true ∷ entry.Write 1 1 true ∷ entry.Write 1 2 true ∷ entry.Write 1 3 true ∷ entry.Write 1 4 true ∷ entry.Write 1 5 true ∷ entry.Write 1 6 true ∷ entry.Write 1 7 true ∷ folded (counter.Context 0) 1 (pos 8) ∷ entry.Write 1 8 true ∷ entry.Write 1 9 true ∷ entry.Write 1 10 true ∷ entry.Write 1 11 true ∷ entry.Write 1 12 true ∷ entry.Write 1 13 true ∷ entry.Write 1 14 true ∷ entry.Write 1 15 true ∷ folded (counter.Context 0) 2 (pos 8) ∷ entry.Check 0 ∷ entry.Write 0 20 true ∷ entry.Write 0 21 true ∷ entry.Write 0 22 true ∷ entry.Write 0 23 true ∷ entry.Write 1 16 true ∷ entry.Write 1 17 true ∷ entry.Write 1 18 true ∷ entry.Write 1 19 true ∷ folded (counter.Context 0) 3 (pos 8) ∷ entry.Check 1 ∷ entry.Claimed 0 0 ∷ entry.Claimed 0 1 ∷ entry.Claimed 0 2 ∷ entry.Claimed 0 3 ∷ entry.Claimed 0 4 ∷ entry.Claimed 0 5 ∷ entry.Claimed 0 6 ∷ entry.Claimed 0 7 ∷ entry.Claimed 0 8 ∷ entry.Claimed 0 9 ∷ entry.Claimed 0 10 ∷ entry.Claimed 0 11 ∷ entry.Claimed 0 12 ∷ entry.Claimed 0 13 ∷ entry.Claimed 0 14 ∷ entry.Claimed 0 15 ∷ entry.Claimed 0 16 ∷ entry.Claimed 0 17 ∷ entry.Claimed 0 18 ∷ entry.Claimed 0 19 ∷ entry.Batch 0 20 31 32 ∷ entry.Done 0 0 ∷ entry.Done 0 1 ∷ entry.Done 0 2 ∷ entry.Done 0 3 ∷ entry.Done 0 4 ∷ entry.Done 0 5 ∷ entry.Done 0 6 ∷ entry.Done 0 7 ∷ folded (counter.Context 0) 4 (negsuc 7) ∷ entry.Done 0 8 ∷ entry.Done 0 9 ∷ entry.Done 0 10 ∷ entry.Done 0 11 ∷ entry.Done 0 12 ∷ entry.Done 0 13 ∷ entry.Done 0 14 ∷ entry.Done 0 15 ∷ folded (counter.Context 0) 5 (negsuc 7) ∷ entry.Done 0 16 ∷ entry.Done 0 17 ∷ entry.Done 0 18 ∷ entry.Done 0 19 ∷ entry.Share 0 0 20 ∷ entry.Claimed 0 20 ∷ entry.Claimed 0 21 ∷ entry.Claimed 0 22 ∷ entry.Claimed 0 23 ∷ entry.Batch 0 4 32 33 ∷ entry.Done 0 20 ∷ entry.Done 0 21 ∷ entry.Done 0 22 ∷ entry.Done 0 23 ∷ folded (counter.Context 0) 6 (negsuc 7) ∷ entry.Share 0 0 4 ∷ []) (check 1 0 1 (read 0 0 35 1 35 0 (pos 0) 0 0 1) None 2 (pos 16) 0 kind.Free 0 4 0 4 1 ∷ check 1 0 31 (read 0 0 35 1 35 0 (pos 0) 0 0 1) None 3 (pos 24) 0 kind.Free 0 4 0 4 31 ∷ []) ([]) ∷ []; steps = []; bases = []; homes = []; left = []; strict = []; ending = ending.Done }

-- the trace of the next journals
abbrev pub case_fails_eight_times_trace : Trace
case_fails_eight_times_trace = record { cpus = 1; cap = 1024; settings = settings 20 10 0 0; avail = avail 0 100000 ∷ []; devices = device 25600 0 100 ∷ []; cgroups = []; contexts = context 0 0 ∷ []; inodes = inode 0 0 2 ∷ []; tasks = on_cpu 0 ∷ []; flushers = flusher 0 0 ∷ []; actions = action.Write 0 0 0 2 ∷ []; order = []; halt = None }

-- a journal of it, which is lawful
abbrev pub case_fails_eight_times : Journal
case_fails_eight_times = record { timer = limits 0 1 19995 9985 19995 ∷ []; cpus = part (entry.Write 0 0 true ∷ entry.Write 0 1 true ∷ entry.Claimed 0 0 ∷ entry.Claimed 0 1 ∷ entry.Fault 0 2 ∷ entry.Back 0 0 false ∷ entry.Back 0 1 false ∷ entry.Claimed 0 0 ∷ entry.Claimed 0 1 ∷ entry.Fault 0 2 ∷ entry.Back 0 0 false ∷ entry.Back 0 1 false ∷ entry.Claimed 0 0 ∷ entry.Claimed 0 1 ∷ entry.Fault 0 2 ∷ entry.Back 0 0 false ∷ entry.Back 0 1 false ∷ entry.Claimed 0 0 ∷ entry.Claimed 0 1 ∷ entry.Fault 0 2 ∷ entry.Back 0 0 false ∷ entry.Back 0 1 false ∷ entry.Claimed 0 0 ∷ entry.Claimed 0 1 ∷ entry.Fault 0 2 ∷ entry.Back 0 0 false ∷ entry.Back 0 1 false ∷ entry.Claimed 0 0 ∷ entry.Claimed 0 1 ∷ entry.Fault 0 2 ∷ entry.Back 0 0 false ∷ entry.Back 0 1 false ∷ entry.Claimed 0 0 ∷ entry.Claimed 0 1 ∷ entry.Fault 0 2 ∷ entry.Back 0 0 false ∷ entry.Back 0 1 false ∷ entry.Claimed 0 0 ∷ entry.Claimed 0 1 ∷ entry.Fault 0 2 ∷ []) ([]) ([]) ∷ []; steps = []; bases = []; homes = []; left = left 0 2 ∷ left 1 2 ∷ []; strict = []; ending = ending.Faulted }

-- a journal of it, which breaks point 14 at line 44
abbrev pub case_fails_eight_times_1 : Journal
case_fails_eight_times_1 = record { timer = limits 0 1 19995 9985 19995 ∷ []; cpus = part (entry.Write 0 0 true ∷ entry.Write 0 1 true ∷ entry.Claimed 0 0 ∷ entry.Claimed 0 1 ∷ entry.Fault 0 2 ∷ entry.Back 0 0 false ∷ entry.Back 0 1 false ∷ entry.Claimed 0 0 ∷ entry.Claimed 0 1 ∷ entry.Fault 0 2 ∷ entry.Back 0 0 false ∷ entry.Back 0 1 false ∷ entry.Claimed 0 0 ∷ entry.Claimed 0 1 ∷ entry.Fault 0 2 ∷ entry.Back 0 0 false ∷ entry.Back 0 1 false ∷ entry.Claimed 0 0 ∷ entry.Claimed 0 1 ∷ entry.Fault 0 2 ∷ entry.Back 0 0 false ∷ entry.Back 0 1 false ∷ entry.Claimed 0 0 ∷ entry.Claimed 0 1 ∷ entry.Fault 0 2 ∷ entry.Back 0 0 false ∷ entry.Back 0 1 false ∷ entry.Claimed 0 0 ∷ entry.Claimed 0 1 ∷ entry.Fault 0 2 ∷ entry.Back 0 0 false ∷ entry.Back 0 1 false ∷ entry.Claimed 0 0 ∷ entry.Claimed 0 1 ∷ entry.Fault 0 2 ∷ entry.Back 0 0 false ∷ entry.Back 0 1 false ∷ entry.Claimed 0 0 ∷ entry.Claimed 0 1 ∷ entry.Fault 0 2 ∷ entry.Back 0 0 false ∷ entry.Back 0 1 false ∷ []) ([]) ([]) ∷ []; steps = []; bases = []; homes = []; left = left 0 1 ∷ left 1 1 ∷ []; strict = []; ending = ending.Faulted }

-- a journal of it, which breaks point 14 at line 44
abbrev pub case_fails_eight_times_2 : Journal
case_fails_eight_times_2 = record { timer = limits 0 1 19995 9985 19995 ∷ []; cpus = part (entry.Write 0 0 true ∷ entry.Write 0 1 true ∷ entry.Claimed 0 0 ∷ entry.Claimed 0 1 ∷ entry.Fault 0 2 ∷ entry.Back 0 0 false ∷ entry.Back 0 1 false ∷ entry.Claimed 0 0 ∷ entry.Claimed 0 1 ∷ entry.Fault 0 2 ∷ entry.Back 0 0 false ∷ entry.Back 0 1 false ∷ entry.Claimed 0 0 ∷ entry.Claimed 0 1 ∷ entry.Fault 0 2 ∷ entry.Back 0 0 false ∷ entry.Back 0 1 false ∷ entry.Claimed 0 0 ∷ entry.Claimed 0 1 ∷ entry.Fault 0 2 ∷ entry.Back 0 0 false ∷ entry.Back 0 1 false ∷ entry.Claimed 0 0 ∷ entry.Claimed 0 1 ∷ entry.Fault 0 2 ∷ entry.Back 0 0 false ∷ entry.Back 0 1 false ∷ entry.Claimed 0 0 ∷ entry.Claimed 0 1 ∷ entry.Fault 0 2 ∷ entry.Back 0 0 false ∷ entry.Back 0 1 false ∷ entry.Claimed 0 0 ∷ entry.Claimed 0 1 ∷ entry.Fault 0 2 ∷ entry.Back 0 0 false ∷ entry.Back 0 1 false ∷ entry.Claimed 0 0 ∷ entry.Claimed 0 1 ∷ entry.Fault 0 2 ∷ entry.Fault 0 2 ∷ []) ([]) ([]) ∷ []; steps = []; bases = []; homes = []; left = left 0 2 ∷ left 1 2 ∷ []; strict = []; ending = ending.Faulted }

-- a journal of it, which breaks point 16 at line 43
abbrev pub case_fails_eight_times_3 : Journal
case_fails_eight_times_3 = record { timer = limits 0 1 19995 9985 19995 ∷ []; cpus = part (entry.Write 0 0 true ∷ entry.Write 0 1 true ∷ entry.Claimed 0 0 ∷ entry.Claimed 0 1 ∷ entry.Fault 0 2 ∷ entry.Back 0 0 false ∷ entry.Back 0 1 false ∷ entry.Claimed 0 0 ∷ entry.Claimed 0 1 ∷ entry.Fault 0 2 ∷ entry.Back 0 0 false ∷ entry.Back 0 1 false ∷ entry.Claimed 0 0 ∷ entry.Claimed 0 1 ∷ entry.Fault 0 2 ∷ entry.Back 0 0 false ∷ entry.Back 0 1 false ∷ entry.Claimed 0 0 ∷ entry.Claimed 0 1 ∷ entry.Fault 0 2 ∷ entry.Back 0 0 false ∷ entry.Back 0 1 false ∷ entry.Claimed 0 0 ∷ entry.Claimed 0 1 ∷ entry.Fault 0 2 ∷ entry.Back 0 0 false ∷ entry.Back 0 1 false ∷ entry.Claimed 0 0 ∷ entry.Claimed 0 1 ∷ entry.Fault 0 2 ∷ entry.Back 0 0 false ∷ entry.Back 0 1 false ∷ entry.Claimed 0 0 ∷ entry.Claimed 0 1 ∷ entry.Fault 0 2 ∷ []) ([]) ([]) ∷ []; steps = []; bases = []; homes = []; left = left 0 2 ∷ left 1 2 ∷ []; strict = []; ending = ending.Faulted }

-- a journal of it, which breaks point 16 at line 47
abbrev pub case_fails_eight_times_4 : Journal
case_fails_eight_times_4 = record { timer = limits 0 1 19995 9985 19995 ∷ []; cpus = part (entry.Write 0 0 true ∷ entry.Write 0 1 true ∷ entry.Claimed 0 0 ∷ entry.Claimed 0 1 ∷ entry.Fault 0 2 ∷ entry.Back 0 0 false ∷ entry.Back 0 1 false ∷ entry.Claimed 0 0 ∷ entry.Claimed 0 1 ∷ entry.Fault 0 2 ∷ entry.Back 0 0 false ∷ entry.Back 0 1 false ∷ entry.Claimed 0 0 ∷ entry.Claimed 0 1 ∷ entry.Fault 0 2 ∷ entry.Back 0 0 false ∷ entry.Back 0 1 false ∷ entry.Claimed 0 0 ∷ entry.Claimed 0 1 ∷ entry.Fault 0 2 ∷ entry.Back 0 0 false ∷ entry.Back 0 1 false ∷ entry.Claimed 0 0 ∷ entry.Claimed 0 1 ∷ entry.Fault 0 2 ∷ entry.Back 0 0 false ∷ entry.Back 0 1 false ∷ entry.Claimed 0 0 ∷ entry.Claimed 0 1 ∷ entry.Fault 0 2 ∷ entry.Back 0 0 false ∷ entry.Back 0 1 false ∷ entry.Claimed 0 0 ∷ entry.Claimed 0 1 ∷ entry.Fault 0 2 ∷ entry.Back 0 0 false ∷ entry.Back 0 1 false ∷ entry.Claimed 0 0 ∷ entry.Claimed 0 1 ∷ []) ([]) ([]) ∷ []; steps = []; bases = []; homes = []; left = left 0 2 ∷ left 1 2 ∷ []; strict = []; ending = ending.Faulted }

-- a journal of it, which breaks point 16 at line 48
abbrev pub case_fails_eight_times_5 : Journal
case_fails_eight_times_5 = record { timer = limits 0 1 19995 9985 19995 ∷ []; cpus = part (entry.Write 0 0 true ∷ entry.Write 0 1 true ∷ entry.Claimed 0 0 ∷ entry.Claimed 0 1 ∷ entry.Fault 0 2 ∷ entry.Back 0 0 false ∷ entry.Back 0 1 false ∷ entry.Claimed 0 0 ∷ entry.Claimed 0 1 ∷ entry.Fault 0 2 ∷ entry.Back 0 0 false ∷ entry.Back 0 1 false ∷ entry.Claimed 0 0 ∷ entry.Claimed 0 1 ∷ entry.Fault 0 2 ∷ entry.Back 0 0 false ∷ entry.Back 0 1 false ∷ entry.Claimed 0 0 ∷ entry.Claimed 0 1 ∷ entry.Fault 0 2 ∷ entry.Back 0 0 false ∷ entry.Back 0 1 false ∷ entry.Claimed 0 0 ∷ entry.Claimed 0 1 ∷ entry.Fault 0 2 ∷ entry.Back 0 0 false ∷ entry.Back 0 1 false ∷ entry.Claimed 0 0 ∷ entry.Claimed 0 1 ∷ entry.Fault 0 2 ∷ entry.Back 0 0 false ∷ entry.Back 0 1 false ∷ entry.Claimed 0 0 ∷ entry.Claimed 0 1 ∷ entry.Fault 0 2 ∷ entry.Back 0 0 false ∷ entry.Back 0 1 false ∷ entry.Claimed 0 0 ∷ entry.Claimed 0 1 ∷ entry.Fault 0 2 ∷ []) ([]) ([]) ∷ []; steps = []; bases = []; homes = []; left = left 0 2 ∷ left 1 2 ∷ []; strict = []; ending = ending.Halted }

-- a journal of it, which is lawful
abbrev pub case_fails_eight_times_6 : Journal
case_fails_eight_times_6 = record { timer = limits 0 1 19995 9985 19995 ∷ []; cpus = part (entry.Write 0 0 true ∷ entry.Write 0 1 true ∷ entry.Claimed 0 0 ∷ entry.Claimed 0 1 ∷ entry.Fault 0 2 ∷ entry.Back 0 0 false ∷ entry.Back 0 1 false ∷ entry.Claimed 0 0 ∷ entry.Claimed 0 1 ∷ entry.Fault 0 2 ∷ entry.Back 0 0 false ∷ entry.Back 0 1 false ∷ entry.Claimed 0 0 ∷ entry.Claimed 0 1 ∷ entry.Fault 0 2 ∷ entry.Back 0 0 false ∷ entry.Back 0 1 false ∷ entry.Claimed 0 0 ∷ entry.Claimed 0 1 ∷ entry.Fault 0 2 ∷ entry.Back 0 0 false ∷ entry.Back 0 1 false ∷ entry.Claimed 0 0 ∷ entry.Claimed 0 1 ∷ entry.Fault 0 2 ∷ entry.Back 0 0 false ∷ entry.Back 0 1 false ∷ entry.Claimed 0 0 ∷ entry.Claimed 0 1 ∷ entry.Fault 0 2 ∷ entry.Back 0 0 false ∷ entry.Back 0 1 false ∷ entry.Claimed 0 0 ∷ entry.Claimed 0 1 ∷ entry.Fault 0 2 ∷ entry.Back 0 0 false ∷ []) ([]) ([]) ∷ []; steps = []; bases = []; homes = []; left = left 0 1 ∷ left 1 2 ∷ []; strict = []; ending = ending.Halted }

-- the trace of the next journals
abbrev pub case_given_estimate_trace : Trace
case_given_estimate_trace = record { cpus = 1; cap = 1024; settings = settings 25 0 0 0; avail = avail 0 1000 ∷ []; devices = device 256 0 100 ∷ []; cgroups = []; contexts = given_context 0 0 48 55 39 ∷ ageing_context 0 0 31 ∷ []; inodes = inode 0 0 1 ∷ []; tasks = on_cpu 0 ∷ on_cpu 0 ∷ []; flushers = flusher 0 0 ∷ []; actions = action.Rest 1 10 ∷ action.Write 1 0 0 1 ∷ action.Rest 0 226 ∷ action.Write 0 0 0 1 ∷ action.Write 0 0 0 1 ∷ []; order = []; halt = None }

-- a journal of it, which is lawful
abbrev pub case_given_estimate : Journal
case_given_estimate = record { timer = limits 0 1 250 0 250 ∷ limits 0 201 250 0 250 ∷ []; cpus = part (entry.Write 1 0 true ∷ entry.Noticed 0 0 101 ∷ entry.Est 0 ∷ entry.Est 1 ∷ entry.Write 0 0 false ∷ entry.Write 0 0 false ∷ entry.Taken 0 0 ∷ entry.Claimed 0 0 ∷ entry.Batch 0 1 227 231 ∷ entry.Done 0 0 ∷ entry.Share 0 0 1 ∷ []) ([]) (estimate 0 1 45 55 39 55 0 0 201 ∷ estimate 1 1 24350 25600 25600 25600 0 0 201 ∷ []) ∷ []; steps = []; bases = []; homes = []; left = []; strict = []; ending = ending.Done }

-- a journal of it, which breaks point 6 at line 7
abbrev pub case_given_estimate_1 : Journal
case_given_estimate_1 = record { timer = limits 0 1 250 0 250 ∷ limits 0 201 250 0 250 ∷ []; cpus = part (entry.Write 1 0 true ∷ entry.Noticed 0 0 101 ∷ entry.Est 0 ∷ entry.Est 1 ∷ entry.Write 0 0 false ∷ entry.Write 0 0 false ∷ entry.Taken 0 0 ∷ entry.Claimed 0 0 ∷ entry.Batch 0 1 227 231 ∷ entry.Done 0 0 ∷ entry.Share 0 0 1 ∷ []) ([]) (estimate 0 1 24350 25600 39 55 0 0 201 ∷ estimate 1 1 24350 25600 25600 25600 0 0 201 ∷ []) ∷ []; steps = []; bases = []; homes = []; left = []; strict = []; ending = ending.Done }

-- a journal of it, which breaks point 6 at line 8
abbrev pub case_given_estimate_2 : Journal
case_given_estimate_2 = record { timer = limits 0 1 250 0 250 ∷ limits 0 201 250 0 250 ∷ []; cpus = part (entry.Write 1 0 true ∷ entry.Noticed 0 0 101 ∷ entry.Est 0 ∷ entry.Est 1 ∷ entry.Write 0 0 false ∷ entry.Write 0 0 false ∷ entry.Taken 0 0 ∷ entry.Claimed 0 0 ∷ entry.Batch 0 1 227 231 ∷ entry.Done 0 0 ∷ entry.Share 0 0 1 ∷ []) ([]) (estimate 0 1 45 55 39 55 0 0 201 ∷ estimate 1 1 45 55 25600 25600 0 0 201 ∷ []) ∷ []; steps = []; bases = []; homes = []; left = []; strict = []; ending = ending.Done }

-- the trace of the next journals
abbrev pub case_gives_back_trace : Trace
case_gives_back_trace = record { cpus = 2; cap = 1024; settings = settings 20 10 0 0; avail = avail 0 100000 ∷ []; devices = device 25600 0 100 ∷ []; cgroups = []; contexts = context 0 0 ∷ []; inodes = inode 0 0 2 ∷ []; tasks = on_cpu 0 ∷ []; flushers = flusher 0 1 ∷ []; actions = action.Write 0 0 0 2 ∷ action.Write 0 0 0 1 ∷ []; order = []; halt = None }

-- a journal of it, which is lawful
abbrev pub case_gives_back : Journal
case_gives_back = record { timer = limits 0 1 19995 9985 19995 ∷ []; cpus = part (entry.Write 0 0 true ∷ entry.Write 0 1 true ∷ entry.Write 0 0 true ∷ []) ([]) ([]) ∷ part (entry.Claimed 0 0 ∷ entry.Claimed 0 1 ∷ entry.Fault 0 2 ∷ entry.Back 0 0 true ∷ entry.Back 0 1 false ∷ entry.Claimed 0 0 ∷ entry.Claimed 0 1 ∷ entry.Batch 0 2 1003 1004 ∷ entry.Done 0 0 ∷ entry.Done 0 1 ∷ entry.Share 0 0 2 ∷ []) ([]) ([]) ∷ []; steps = []; bases = []; homes = []; left = []; strict = []; ending = ending.Done }

-- a journal of it, which breaks point 14 at line 11
abbrev pub case_gives_back_1 : Journal
case_gives_back_1 = record { timer = limits 0 1 19995 9985 19995 ∷ []; cpus = part (entry.Write 0 0 true ∷ entry.Write 0 1 true ∷ entry.Write 0 0 true ∷ []) ([]) ([]) ∷ part (entry.Claimed 0 0 ∷ entry.Claimed 0 1 ∷ entry.Fault 0 2 ∷ entry.Back 0 1 false ∷ entry.Back 0 0 true ∷ entry.Claimed 0 0 ∷ entry.Claimed 0 1 ∷ entry.Batch 0 2 1003 1004 ∷ entry.Done 0 0 ∷ entry.Done 0 1 ∷ entry.Share 0 0 2 ∷ []) ([]) ([]) ∷ []; steps = []; bases = []; homes = []; left = []; strict = []; ending = ending.Done }

-- a journal of it, which breaks point 14 at line 12
abbrev pub case_gives_back_2 : Journal
case_gives_back_2 = record { timer = limits 0 1 19995 9985 19995 ∷ []; cpus = part (entry.Write 0 0 true ∷ entry.Write 0 1 true ∷ entry.Write 0 0 true ∷ []) ([]) ([]) ∷ part (entry.Claimed 0 0 ∷ entry.Claimed 0 1 ∷ entry.Fault 0 2 ∷ entry.Back 0 0 true ∷ entry.Claimed 0 0 ∷ entry.Back 0 1 false ∷ entry.Claimed 0 1 ∷ entry.Batch 0 2 1003 1004 ∷ entry.Done 0 0 ∷ entry.Done 0 1 ∷ entry.Share 0 0 2 ∷ []) ([]) ([]) ∷ []; steps = []; bases = []; homes = []; left = []; strict = []; ending = ending.Done }

-- a journal of it, which breaks point 14 at line 10
abbrev pub case_gives_back_3 : Journal
case_gives_back_3 = record { timer = limits 0 1 19995 9985 19995 ∷ []; cpus = part (entry.Write 0 0 true ∷ entry.Write 0 1 true ∷ entry.Write 0 0 true ∷ []) ([]) ([]) ∷ part (entry.Claimed 0 0 ∷ entry.Claimed 0 1 ∷ entry.Fault 0 1 ∷ entry.Back 0 0 true ∷ entry.Back 0 1 false ∷ entry.Claimed 0 0 ∷ entry.Claimed 0 1 ∷ entry.Batch 0 2 1003 1004 ∷ entry.Done 0 0 ∷ entry.Done 0 1 ∷ entry.Share 0 0 2 ∷ []) ([]) ([]) ∷ []; steps = []; bases = []; homes = []; left = []; strict = []; ending = ending.Done }

-- a journal of it, which breaks point 14 at line 11
abbrev pub case_gives_back_4 : Journal
case_gives_back_4 = record { timer = limits 0 1 19995 9985 19995 ∷ []; cpus = part (entry.Write 0 0 true ∷ entry.Write 0 1 true ∷ entry.Write 0 0 true ∷ []) ([]) ([]) ∷ part (entry.Claimed 0 0 ∷ entry.Claimed 0 1 ∷ entry.Batch 0 2 1 2 ∷ entry.Back 0 0 true ∷ entry.Back 0 1 false ∷ entry.Claimed 0 0 ∷ entry.Claimed 0 1 ∷ entry.Batch 0 2 1003 1004 ∷ entry.Done 0 0 ∷ entry.Done 0 1 ∷ entry.Share 0 0 2 ∷ []) ([]) ([]) ∷ []; steps = []; bases = []; homes = []; left = []; strict = []; ending = ending.Done }

-- a journal of it, which breaks point 13 at line 19
abbrev pub case_gives_back_5 : Journal
case_gives_back_5 = record { timer = limits 0 1 19995 9985 19995 ∷ []; cpus = part (entry.Write 0 0 true ∷ entry.Write 0 1 true ∷ entry.Write 0 0 true ∷ []) ([]) ([]) ∷ part (entry.Claimed 0 0 ∷ entry.Claimed 0 1 ∷ entry.Fault 0 2 ∷ entry.Back 0 0 false ∷ entry.Back 0 1 false ∷ entry.Claimed 0 0 ∷ entry.Claimed 0 1 ∷ entry.Batch 0 2 1003 1004 ∷ entry.Done 0 0 ∷ entry.Done 0 1 ∷ entry.Share 0 0 2 ∷ []) ([]) ([]) ∷ []; steps = []; bases = []; homes = []; left = []; strict = []; ending = ending.Done }

-- a journal of it, which breaks point 13 at line 19
abbrev pub case_gives_back_6 : Journal
case_gives_back_6 = record { timer = limits 0 1 19995 9985 19995 ∷ []; cpus = part (entry.Write 0 0 true ∷ entry.Write 0 1 true ∷ entry.Write 0 0 true ∷ []) ([]) ([]) ∷ part (entry.Claimed 0 0 ∷ entry.Claimed 0 1 ∷ entry.Fault 0 2 ∷ entry.Back 0 0 true ∷ entry.Back 0 1 true ∷ entry.Claimed 0 0 ∷ entry.Claimed 0 1 ∷ entry.Batch 0 2 1003 1004 ∷ entry.Done 0 0 ∷ entry.Done 0 1 ∷ entry.Share 0 0 2 ∷ []) ([]) ([]) ∷ []; steps = []; bases = []; homes = []; left = []; strict = []; ending = ending.Done }

-- a journal of it, which breaks point 12 at line 12
abbrev pub case_gives_back_7 : Journal
case_gives_back_7 = record { timer = limits 0 1 19995 9985 19995 ∷ []; cpus = part (entry.Write 0 0 true ∷ entry.Write 0 1 true ∷ entry.Write 0 0 true ∷ []) ([]) ([]) ∷ part (entry.Claimed 0 0 ∷ entry.Claimed 0 1 ∷ entry.Fault 0 2 ∷ entry.Back 0 0 true ∷ entry.Back 0 2 false ∷ entry.Claimed 0 0 ∷ entry.Claimed 0 1 ∷ entry.Batch 0 2 1003 1004 ∷ entry.Done 0 0 ∷ entry.Done 0 1 ∷ entry.Share 0 0 2 ∷ []) ([]) ([]) ∷ []; steps = []; bases = []; homes = []; left = []; strict = []; ending = ending.Done }

-- a journal of it, which breaks point 16 at line 21
abbrev pub case_gives_back_8 : Journal
case_gives_back_8 = record { timer = limits 0 1 19995 9985 19995 ∷ []; cpus = part (entry.Write 0 0 true ∷ entry.Write 0 1 true ∷ entry.Write 0 0 true ∷ []) ([]) ([]) ∷ part (entry.Claimed 0 0 ∷ entry.Claimed 0 1 ∷ entry.Fault 0 2 ∷ entry.Back 0 0 true ∷ entry.Back 0 1 false ∷ entry.Claimed 0 0 ∷ entry.Claimed 0 1 ∷ entry.Batch 0 2 1003 1004 ∷ entry.Done 0 0 ∷ entry.Done 0 1 ∷ entry.Share 0 0 2 ∷ []) ([]) ([]) ∷ []; steps = []; bases = []; homes = []; left = []; strict = []; ending = ending.Faulted }

-- the trace of the next journals
abbrev pub case_goes_by_its_line_trace : Trace
case_goes_by_its_line_trace = record { cpus = 1; cap = 1024; settings = settings 20 10 143360 4096; avail = avail 0 1000 ∷ []; devices = device 25600 0 100 ∷ []; cgroups = []; contexts = given_context 0 0 25600 25600 6400 ∷ []; inodes = inode 0 0 40 ∷ []; tasks = on_cpu 0 ∷ []; flushers = flusher 0 0 ∷ []; actions = action.Write 0 0 0 40 ∷ []; order = []; halt = None }

-- a journal of it, which is lawful
abbrev pub case_goes_by_its_line : Journal
case_goes_by_its_line = record { timer = limits 0 1 35 1 35 ∷ []; cpus = part (entry.Write 0 0 true ∷ entry.Write 0 1 true ∷ entry.Write 0 2 true ∷ entry.Write 0 3 true ∷ entry.Write 0 4 true ∷ entry.Write 0 5 true ∷ entry.Write 0 6 true ∷ entry.Write 0 7 true ∷ folded (counter.Context 0) 1 (pos 8) ∷ entry.Write 0 8 true ∷ entry.Write 0 9 true ∷ entry.Write 0 10 true ∷ entry.Write 0 11 true ∷ entry.Write 0 12 true ∷ entry.Write 0 13 true ∷ entry.Write 0 14 true ∷ entry.Write 0 15 true ∷ folded (counter.Context 0) 2 (pos 8) ∷ entry.Check 0 ∷ entry.Write 0 16 true ∷ entry.Write 0 17 true ∷ entry.Write 0 18 true ∷ entry.Write 0 19 true ∷ entry.Check 1 ∷ entry.Write 0 20 true ∷ entry.Write 0 21 true ∷ entry.Write 0 22 true ∷ entry.Write 0 23 true ∷ folded (counter.Context 0) 3 (pos 8) ∷ entry.Check 2 ∷ entry.Write 0 24 true ∷ entry.Write 0 25 true ∷ entry.Write 0 26 true ∷ entry.Write 0 27 true ∷ entry.Check 3 ∷ entry.Write 0 28 true ∷ entry.Write 0 29 true ∷ entry.Write 0 30 true ∷ entry.Write 0 31 true ∷ folded (counter.Context 0) 4 (pos 8) ∷ folded (counter.Domain 0) 1 (pos 32) ∷ entry.Check 4 ∷ entry.Write 0 32 true ∷ entry.Check 5 ∷ entry.Write 0 33 true ∷ entry.Check 6 ∷ entry.Write 0 34 true ∷ entry.Check 7 ∷ entry.Write 0 35 true ∷ entry.Check 8 ∷ entry.Write 0 36 true ∷ entry.Check 9 ∷ entry.Write 0 37 true ∷ entry.Check 10 ∷ entry.Write 0 38 true ∷ entry.Check 11 ∷ entry.Write 0 39 true ∷ folded (counter.Context 0) 5 (pos 8) ∷ entry.Check 12 ∷ entry.Claimed 0 0 ∷ entry.Claimed 0 1 ∷ entry.Claimed 0 2 ∷ entry.Claimed 0 3 ∷ entry.Claimed 0 4 ∷ entry.Claimed 0 5 ∷ entry.Claimed 0 6 ∷ entry.Claimed 0 7 ∷ entry.Claimed 0 8 ∷ entry.Claimed 0 9 ∷ entry.Claimed 0 10 ∷ entry.Claimed 0 11 ∷ entry.Claimed 0 12 ∷ entry.Claimed 0 13 ∷ entry.Claimed 0 14 ∷ entry.Claimed 0 15 ∷ entry.Claimed 0 16 ∷ entry.Claimed 0 17 ∷ entry.Claimed 0 18 ∷ entry.Claimed 0 19 ∷ entry.Claimed 0 20 ∷ entry.Claimed 0 21 ∷ entry.Claimed 0 22 ∷ entry.Claimed 0 23 ∷ entry.Claimed 0 24 ∷ entry.Claimed 0 25 ∷ entry.Claimed 0 26 ∷ entry.Claimed 0 27 ∷ entry.Claimed 0 28 ∷ entry.Claimed 0 29 ∷ entry.Claimed 0 30 ∷ entry.Claimed 0 31 ∷ entry.Claimed 0 32 ∷ entry.Claimed 0 33 ∷ entry.Claimed 0 34 ∷ entry.Claimed 0 35 ∷ entry.Claimed 0 36 ∷ entry.Claimed 0 37 ∷ entry.Claimed 0 38 ∷ entry.Claimed 0 39 ∷ entry.Batch 0 40 6 8 ∷ entry.Done 0 0 ∷ entry.Done 0 1 ∷ entry.Done 0 2 ∷ entry.Done 0 3 ∷ entry.Done 0 4 ∷ entry.Done 0 5 ∷ entry.Done 0 6 ∷ entry.Done 0 7 ∷ folded (counter.Context 0) 6 (negsuc 7) ∷ entry.Done 0 8 ∷ entry.Done 0 9 ∷ entry.Done 0 10 ∷ entry.Done 0 11 ∷ entry.Done 0 12 ∷ entry.Done 0 13 ∷ entry.Done 0 14 ∷ entry.Done 0 15 ∷ folded (counter.Context 0) 7 (negsuc 7) ∷ entry.Done 0 16 ∷ entry.Done 0 17 ∷ entry.Done 0 18 ∷ entry.Done 0 19 ∷ entry.Done 0 20 ∷ entry.Done 0 21 ∷ entry.Done 0 22 ∷ entry.Done 0 23 ∷ folded (counter.Context 0) 8 (negsuc 7) ∷ entry.Done 0 24 ∷ entry.Done 0 25 ∷ entry.Done 0 26 ∷ entry.Done 0 27 ∷ entry.Done 0 28 ∷ entry.Done 0 29 ∷ entry.Done 0 30 ∷ entry.Done 0 31 ∷ folded (counter.Context 0) 9 (negsuc 7) ∷ entry.Done 0 32 ∷ entry.Done 0 33 ∷ entry.Done 0 34 ∷ entry.Done 0 35 ∷ entry.Done 0 36 ∷ entry.Done 0 37 ∷ entry.Done 0 38 ∷ entry.Done 0 39 ∷ folded (counter.Context 0) 10 (negsuc 7) ∷ folded (counter.Domain 0) 2 (negsuc 31) ∷ entry.Share 0 0 40 ∷ []) (check 0 0 1 (read 0 0 35 1 35 0 (pos 0) 0 0 1) None 2 (pos 16) 0 kind.Free 0 4 0 4 1 ∷ check 0 0 1 (read 0 0 35 1 35 0 (pos 0) 0 0 1) None 2 (pos 16) 0 kind.Free 0 4 0 4 1 ∷ check 0 0 1 (read 0 0 35 1 35 0 (pos 0) 0 0 1) None 3 (pos 24) 0 kind.Free 0 4 0 4 1 ∷ check 0 0 1 (read 0 0 35 1 35 0 (pos 0) 0 0 1) None 3 (pos 24) 0 kind.Free 0 4 0 4 1 ∷ check 0 0 1 (read 0 0 35 1 35 1 (pos 32) 0 0 1) None 4 (pos 32) 0 kind.Go 1 1 0 1 3 ∷ check 0 0 2 (read 0 0 35 1 35 1 (pos 32) 0 0 1) None 4 (pos 32) 0 kind.Go 1 1 0 1 3 ∷ check 0 0 3 (read 0 0 35 1 35 1 (pos 32) 0 0 1) None 4 (pos 32) 0 kind.Go 0 1 1 2 3 ∷ check 0 0 3 (read 0 0 35 1 35 1 (pos 32) 0 0 1) None 4 (pos 32) 0 kind.Go 1 1 0 1 4 ∷ check 0 0 4 (read 0 0 35 1 35 1 (pos 32) 0 0 1) None 4 (pos 32) 0 kind.Go 0 1 1 2 4 ∷ check 0 0 4 (read 0 0 35 1 35 1 (pos 32) 0 0 1) None 4 (pos 32) 0 kind.Go 1 1 0 1 5 ∷ check 0 0 5 (read 0 0 35 1 35 1 (pos 32) 0 0 1) None 4 (pos 32) 0 kind.Go 0 1 1 2 5 ∷ check 0 0 5 (read 0 0 35 1 35 1 (pos 32) 0 0 1) None 4 (pos 32) 0 kind.Go 1 1 0 1 6 ∷ check 0 0 6 (read 0 0 35 1 35 1 (pos 32) 0 0 1) None 5 (pos 40) 0 kind.Go 0 1 1 2 6 ∷ []) ([]) ∷ []; steps = []; bases = []; homes = []; left = []; strict = []; ending = ending.Done }

-- a journal of it, which breaks point 7 at line 55
abbrev pub case_goes_by_its_line_1 : Journal
case_goes_by_its_line_1 = record { timer = limits 0 1 35 1 35 ∷ []; cpus = part (entry.Write 0 0 true ∷ entry.Write 0 1 true ∷ entry.Write 0 2 true ∷ entry.Write 0 3 true ∷ entry.Write 0 4 true ∷ entry.Write 0 5 true ∷ entry.Write 0 6 true ∷ entry.Write 0 7 true ∷ folded (counter.Context 0) 1 (pos 8) ∷ entry.Write 0 8 true ∷ entry.Write 0 9 true ∷ entry.Write 0 10 true ∷ entry.Write 0 11 true ∷ entry.Write 0 12 true ∷ entry.Write 0 13 true ∷ entry.Write 0 14 true ∷ entry.Write 0 15 true ∷ folded (counter.Context 0) 2 (pos 8) ∷ entry.Check 0 ∷ entry.Write 0 16 true ∷ entry.Write 0 17 true ∷ entry.Write 0 18 true ∷ entry.Write 0 19 true ∷ entry.Check 1 ∷ entry.Write 0 20 true ∷ entry.Write 0 21 true ∷ entry.Write 0 22 true ∷ entry.Write 0 23 true ∷ folded (counter.Context 0) 3 (pos 8) ∷ entry.Check 2 ∷ entry.Write 0 24 true ∷ entry.Write 0 25 true ∷ entry.Write 0 26 true ∷ entry.Write 0 27 true ∷ entry.Check 3 ∷ entry.Write 0 28 true ∷ entry.Write 0 29 true ∷ entry.Write 0 30 true ∷ entry.Write 0 31 true ∷ folded (counter.Context 0) 4 (pos 8) ∷ folded (counter.Domain 0) 1 (pos 32) ∷ entry.Check 4 ∷ entry.Write 0 32 true ∷ entry.Check 5 ∷ entry.Write 0 33 true ∷ entry.Check 6 ∷ entry.Write 0 34 true ∷ entry.Check 7 ∷ entry.Write 0 35 true ∷ entry.Check 8 ∷ entry.Write 0 36 true ∷ entry.Check 9 ∷ entry.Write 0 37 true ∷ entry.Check 10 ∷ entry.Write 0 38 true ∷ entry.Check 11 ∷ entry.Write 0 39 true ∷ folded (counter.Context 0) 5 (pos 8) ∷ entry.Check 12 ∷ entry.Claimed 0 0 ∷ entry.Claimed 0 1 ∷ entry.Claimed 0 2 ∷ entry.Claimed 0 3 ∷ entry.Claimed 0 4 ∷ entry.Claimed 0 5 ∷ entry.Claimed 0 6 ∷ entry.Claimed 0 7 ∷ entry.Claimed 0 8 ∷ entry.Claimed 0 9 ∷ entry.Claimed 0 10 ∷ entry.Claimed 0 11 ∷ entry.Claimed 0 12 ∷ entry.Claimed 0 13 ∷ entry.Claimed 0 14 ∷ entry.Claimed 0 15 ∷ entry.Claimed 0 16 ∷ entry.Claimed 0 17 ∷ entry.Claimed 0 18 ∷ entry.Claimed 0 19 ∷ entry.Claimed 0 20 ∷ entry.Claimed 0 21 ∷ entry.Claimed 0 22 ∷ entry.Claimed 0 23 ∷ entry.Claimed 0 24 ∷ entry.Claimed 0 25 ∷ entry.Claimed 0 26 ∷ entry.Claimed 0 27 ∷ entry.Claimed 0 28 ∷ entry.Claimed 0 29 ∷ entry.Claimed 0 30 ∷ entry.Claimed 0 31 ∷ entry.Claimed 0 32 ∷ entry.Claimed 0 33 ∷ entry.Claimed 0 34 ∷ entry.Claimed 0 35 ∷ entry.Claimed 0 36 ∷ entry.Claimed 0 37 ∷ entry.Claimed 0 38 ∷ entry.Claimed 0 39 ∷ entry.Batch 0 40 6 8 ∷ entry.Done 0 0 ∷ entry.Done 0 1 ∷ entry.Done 0 2 ∷ entry.Done 0 3 ∷ entry.Done 0 4 ∷ entry.Done 0 5 ∷ entry.Done 0 6 ∷ entry.Done 0 7 ∷ folded (counter.Context 0) 6 (negsuc 7) ∷ entry.Done 0 8 ∷ entry.Done 0 9 ∷ entry.Done 0 10 ∷ entry.Done 0 11 ∷ entry.Done 0 12 ∷ entry.Done 0 13 ∷ entry.Done 0 14 ∷ entry.Done 0 15 ∷ folded (counter.Context 0) 7 (negsuc 7) ∷ entry.Done 0 16 ∷ entry.Done 0 17 ∷ entry.Done 0 18 ∷ entry.Done 0 19 ∷ entry.Done 0 20 ∷ entry.Done 0 21 ∷ entry.Done 0 22 ∷ entry.Done 0 23 ∷ folded (counter.Context 0) 8 (negsuc 7) ∷ entry.Done 0 24 ∷ entry.Done 0 25 ∷ entry.Done 0 26 ∷ entry.Done 0 27 ∷ entry.Done 0 28 ∷ entry.Done 0 29 ∷ entry.Done 0 30 ∷ entry.Done 0 31 ∷ folded (counter.Context 0) 9 (negsuc 7) ∷ entry.Done 0 32 ∷ entry.Done 0 33 ∷ entry.Done 0 34 ∷ entry.Done 0 35 ∷ entry.Done 0 36 ∷ entry.Done 0 37 ∷ entry.Done 0 38 ∷ entry.Done 0 39 ∷ folded (counter.Context 0) 10 (negsuc 7) ∷ folded (counter.Domain 0) 2 (negsuc 31) ∷ entry.Share 0 0 40 ∷ []) (check 0 0 1 (read 0 0 35 1 35 0 (pos 0) 0 0 1) None 2 (pos 16) 0 kind.Free 0 4 0 4 1 ∷ check 0 0 1 (read 0 0 35 1 35 0 (pos 0) 0 0 1) None 2 (pos 16) 0 kind.Free 0 4 0 4 1 ∷ check 0 0 1 (read 0 0 35 1 35 0 (pos 0) 0 0 1) None 3 (pos 24) 0 kind.Free 0 4 0 4 1 ∷ check 0 0 1 (read 0 0 35 1 35 0 (pos 0) 0 0 1) None 3 (pos 24) 0 kind.Free 0 4 0 4 1 ∷ check 0 0 1 (read 0 0 35 1 35 1 (pos 32) 0 0 1) None 4 (pos 32) 0 kind.Go 0 4 4 8 1 ∷ check 0 0 2 (read 0 0 35 1 35 1 (pos 32) 0 0 1) None 4 (pos 32) 0 kind.Go 1 1 0 1 3 ∷ check 0 0 3 (read 0 0 35 1 35 1 (pos 32) 0 0 1) None 4 (pos 32) 0 kind.Go 0 1 1 2 3 ∷ check 0 0 3 (read 0 0 35 1 35 1 (pos 32) 0 0 1) None 4 (pos 32) 0 kind.Go 1 1 0 1 4 ∷ check 0 0 4 (read 0 0 35 1 35 1 (pos 32) 0 0 1) None 4 (pos 32) 0 kind.Go 0 1 1 2 4 ∷ check 0 0 4 (read 0 0 35 1 35 1 (pos 32) 0 0 1) None 4 (pos 32) 0 kind.Go 1 1 0 1 5 ∷ check 0 0 5 (read 0 0 35 1 35 1 (pos 32) 0 0 1) None 4 (pos 32) 0 kind.Go 0 1 1 2 5 ∷ check 0 0 5 (read 0 0 35 1 35 1 (pos 32) 0 0 1) None 4 (pos 32) 0 kind.Go 1 1 0 1 6 ∷ check 0 0 6 (read 0 0 35 1 35 1 (pos 32) 0 0 1) None 5 (pos 40) 0 kind.Go 0 1 1 2 6 ∷ []) ([]) ∷ []; steps = []; bases = []; homes = []; left = []; strict = []; ending = ending.Done }

-- the trace of the next journals
abbrev pub case_goes_on_trace : Trace
case_goes_on_trace = record { cpus = 1; cap = 1024; settings = settings 20 10 143360 4096; avail = avail 0 1000 ∷ []; devices = device 25600 0 100 ∷ []; cgroups = []; contexts = context 0 0 ∷ []; inodes = inode 0 0 40 ∷ []; tasks = on_cpu 0 ∷ []; flushers = flusher 0 0 ∷ []; actions = action.Write 0 0 0 40 ∷ []; order = []; halt = None }

-- a journal of it, which is lawful
abbrev pub case_goes_on : Journal
case_goes_on = record { timer = limits 0 1 35 1 35 ∷ []; cpus = part (entry.Write 0 0 true ∷ entry.Write 0 1 true ∷ entry.Write 0 2 true ∷ entry.Write 0 3 true ∷ entry.Write 0 4 true ∷ entry.Write 0 5 true ∷ entry.Write 0 6 true ∷ entry.Write 0 7 true ∷ folded (counter.Context 0) 1 (pos 8) ∷ entry.Write 0 8 true ∷ entry.Write 0 9 true ∷ entry.Write 0 10 true ∷ entry.Write 0 11 true ∷ entry.Write 0 12 true ∷ entry.Write 0 13 true ∷ entry.Write 0 14 true ∷ entry.Write 0 15 true ∷ folded (counter.Context 0) 2 (pos 8) ∷ entry.Check 0 ∷ entry.Write 0 16 true ∷ entry.Write 0 17 true ∷ entry.Write 0 18 true ∷ entry.Write 0 19 true ∷ entry.Check 1 ∷ entry.Write 0 20 true ∷ entry.Write 0 21 true ∷ entry.Write 0 22 true ∷ entry.Write 0 23 true ∷ folded (counter.Context 0) 3 (pos 8) ∷ entry.Check 2 ∷ entry.Write 0 24 true ∷ entry.Write 0 25 true ∷ entry.Write 0 26 true ∷ entry.Write 0 27 true ∷ entry.Check 3 ∷ entry.Write 0 28 true ∷ entry.Write 0 29 true ∷ entry.Write 0 30 true ∷ entry.Write 0 31 true ∷ folded (counter.Context 0) 4 (pos 8) ∷ folded (counter.Domain 0) 1 (pos 32) ∷ entry.Check 4 ∷ entry.Write 0 32 true ∷ entry.Write 0 33 true ∷ entry.Write 0 34 true ∷ entry.Write 0 35 true ∷ entry.Check 5 ∷ entry.Write 0 36 true ∷ entry.Write 0 37 true ∷ entry.Write 0 38 true ∷ entry.Write 0 39 true ∷ folded (counter.Context 0) 5 (pos 8) ∷ entry.Check 6 ∷ entry.Claimed 0 0 ∷ entry.Claimed 0 1 ∷ entry.Claimed 0 2 ∷ entry.Claimed 0 3 ∷ entry.Claimed 0 4 ∷ entry.Claimed 0 5 ∷ entry.Claimed 0 6 ∷ entry.Claimed 0 7 ∷ entry.Claimed 0 8 ∷ entry.Claimed 0 9 ∷ entry.Claimed 0 10 ∷ entry.Claimed 0 11 ∷ entry.Claimed 0 12 ∷ entry.Claimed 0 13 ∷ entry.Claimed 0 14 ∷ entry.Claimed 0 15 ∷ entry.Claimed 0 16 ∷ entry.Claimed 0 17 ∷ entry.Claimed 0 18 ∷ entry.Claimed 0 19 ∷ entry.Claimed 0 20 ∷ entry.Claimed 0 21 ∷ entry.Claimed 0 22 ∷ entry.Claimed 0 23 ∷ entry.Claimed 0 24 ∷ entry.Claimed 0 25 ∷ entry.Claimed 0 26 ∷ entry.Claimed 0 27 ∷ entry.Claimed 0 28 ∷ entry.Claimed 0 29 ∷ entry.Claimed 0 30 ∷ entry.Claimed 0 31 ∷ entry.Claimed 0 32 ∷ entry.Claimed 0 33 ∷ entry.Claimed 0 34 ∷ entry.Claimed 0 35 ∷ entry.Claimed 0 36 ∷ entry.Claimed 0 37 ∷ entry.Claimed 0 38 ∷ entry.Claimed 0 39 ∷ entry.Batch 0 40 2 4 ∷ entry.Done 0 0 ∷ entry.Done 0 1 ∷ entry.Done 0 2 ∷ entry.Done 0 3 ∷ entry.Done 0 4 ∷ entry.Done 0 5 ∷ entry.Done 0 6 ∷ entry.Done 0 7 ∷ folded (counter.Context 0) 6 (negsuc 7) ∷ entry.Done 0 8 ∷ entry.Done 0 9 ∷ entry.Done 0 10 ∷ entry.Done 0 11 ∷ entry.Done 0 12 ∷ entry.Done 0 13 ∷ entry.Done 0 14 ∷ entry.Done 0 15 ∷ folded (counter.Context 0) 7 (negsuc 7) ∷ entry.Done 0 16 ∷ entry.Done 0 17 ∷ entry.Done 0 18 ∷ entry.Done 0 19 ∷ entry.Done 0 20 ∷ entry.Done 0 21 ∷ entry.Done 0 22 ∷ entry.Done 0 23 ∷ folded (counter.Context 0) 8 (negsuc 7) ∷ entry.Done 0 24 ∷ entry.Done 0 25 ∷ entry.Done 0 26 ∷ entry.Done 0 27 ∷ entry.Done 0 28 ∷ entry.Done 0 29 ∷ entry.Done 0 30 ∷ entry.Done 0 31 ∷ folded (counter.Context 0) 9 (negsuc 7) ∷ entry.Done 0 32 ∷ entry.Done 0 33 ∷ entry.Done 0 34 ∷ entry.Done 0 35 ∷ entry.Done 0 36 ∷ entry.Done 0 37 ∷ entry.Done 0 38 ∷ entry.Done 0 39 ∷ folded (counter.Context 0) 10 (negsuc 7) ∷ folded (counter.Domain 0) 2 (negsuc 31) ∷ entry.Share 0 0 40 ∷ []) (check 0 0 1 (read 0 0 35 1 35 0 (pos 0) 0 0 1) None 2 (pos 16) 0 kind.Free 0 4 0 4 1 ∷ check 0 0 1 (read 0 0 35 1 35 0 (pos 0) 0 0 1) None 2 (pos 16) 0 kind.Free 0 4 0 4 1 ∷ check 0 0 1 (read 0 0 35 1 35 0 (pos 0) 0 0 1) None 3 (pos 24) 0 kind.Free 0 4 0 4 1 ∷ check 0 0 1 (read 0 0 35 1 35 0 (pos 0) 0 0 1) None 3 (pos 24) 0 kind.Free 0 4 0 4 1 ∷ check 0 0 1 (read 0 0 35 1 35 1 (pos 32) 0 0 1) None 4 (pos 32) 0 kind.Go 0 4 4 8 1 ∷ check 0 0 1 (read 0 0 35 1 35 1 (pos 32) 0 0 1) None 4 (pos 32) 0 kind.Go 1 4 0 4 2 ∷ check 0 0 2 (read 0 0 35 1 35 1 (pos 32) 0 0 1) None 5 (pos 40) 0 kind.Go 0 4 4 8 2 ∷ []) ([]) ∷ []; steps = []; bases = []; homes = []; left = []; strict = []; ending = ending.Done }

-- a journal of it, which breaks point 7 at line 55
abbrev pub case_goes_on_1 : Journal
case_goes_on_1 = record { timer = limits 0 1 35 1 35 ∷ []; cpus = part (entry.Write 0 0 true ∷ entry.Write 0 1 true ∷ entry.Write 0 2 true ∷ entry.Write 0 3 true ∷ entry.Write 0 4 true ∷ entry.Write 0 5 true ∷ entry.Write 0 6 true ∷ entry.Write 0 7 true ∷ folded (counter.Context 0) 1 (pos 8) ∷ entry.Write 0 8 true ∷ entry.Write 0 9 true ∷ entry.Write 0 10 true ∷ entry.Write 0 11 true ∷ entry.Write 0 12 true ∷ entry.Write 0 13 true ∷ entry.Write 0 14 true ∷ entry.Write 0 15 true ∷ folded (counter.Context 0) 2 (pos 8) ∷ entry.Check 0 ∷ entry.Write 0 16 true ∷ entry.Write 0 17 true ∷ entry.Write 0 18 true ∷ entry.Write 0 19 true ∷ entry.Check 1 ∷ entry.Write 0 20 true ∷ entry.Write 0 21 true ∷ entry.Write 0 22 true ∷ entry.Write 0 23 true ∷ folded (counter.Context 0) 3 (pos 8) ∷ entry.Check 2 ∷ entry.Write 0 24 true ∷ entry.Write 0 25 true ∷ entry.Write 0 26 true ∷ entry.Write 0 27 true ∷ entry.Check 3 ∷ entry.Write 0 28 true ∷ entry.Write 0 29 true ∷ entry.Write 0 30 true ∷ entry.Write 0 31 true ∷ folded (counter.Context 0) 4 (pos 8) ∷ folded (counter.Domain 0) 1 (pos 32) ∷ entry.Check 4 ∷ entry.Write 0 32 true ∷ entry.Write 0 33 true ∷ entry.Write 0 34 true ∷ entry.Write 0 35 true ∷ entry.Check 5 ∷ entry.Write 0 36 true ∷ entry.Write 0 37 true ∷ entry.Write 0 38 true ∷ entry.Write 0 39 true ∷ folded (counter.Context 0) 5 (pos 8) ∷ entry.Check 6 ∷ entry.Claimed 0 0 ∷ entry.Claimed 0 1 ∷ entry.Claimed 0 2 ∷ entry.Claimed 0 3 ∷ entry.Claimed 0 4 ∷ entry.Claimed 0 5 ∷ entry.Claimed 0 6 ∷ entry.Claimed 0 7 ∷ entry.Claimed 0 8 ∷ entry.Claimed 0 9 ∷ entry.Claimed 0 10 ∷ entry.Claimed 0 11 ∷ entry.Claimed 0 12 ∷ entry.Claimed 0 13 ∷ entry.Claimed 0 14 ∷ entry.Claimed 0 15 ∷ entry.Claimed 0 16 ∷ entry.Claimed 0 17 ∷ entry.Claimed 0 18 ∷ entry.Claimed 0 19 ∷ entry.Claimed 0 20 ∷ entry.Claimed 0 21 ∷ entry.Claimed 0 22 ∷ entry.Claimed 0 23 ∷ entry.Claimed 0 24 ∷ entry.Claimed 0 25 ∷ entry.Claimed 0 26 ∷ entry.Claimed 0 27 ∷ entry.Claimed 0 28 ∷ entry.Claimed 0 29 ∷ entry.Claimed 0 30 ∷ entry.Claimed 0 31 ∷ entry.Claimed 0 32 ∷ entry.Claimed 0 33 ∷ entry.Claimed 0 34 ∷ entry.Claimed 0 35 ∷ entry.Claimed 0 36 ∷ entry.Claimed 0 37 ∷ entry.Claimed 0 38 ∷ entry.Claimed 0 39 ∷ entry.Batch 0 40 2 4 ∷ entry.Done 0 0 ∷ entry.Done 0 1 ∷ entry.Done 0 2 ∷ entry.Done 0 3 ∷ entry.Done 0 4 ∷ entry.Done 0 5 ∷ entry.Done 0 6 ∷ entry.Done 0 7 ∷ folded (counter.Context 0) 6 (negsuc 7) ∷ entry.Done 0 8 ∷ entry.Done 0 9 ∷ entry.Done 0 10 ∷ entry.Done 0 11 ∷ entry.Done 0 12 ∷ entry.Done 0 13 ∷ entry.Done 0 14 ∷ entry.Done 0 15 ∷ folded (counter.Context 0) 7 (negsuc 7) ∷ entry.Done 0 16 ∷ entry.Done 0 17 ∷ entry.Done 0 18 ∷ entry.Done 0 19 ∷ entry.Done 0 20 ∷ entry.Done 0 21 ∷ entry.Done 0 22 ∷ entry.Done 0 23 ∷ folded (counter.Context 0) 8 (negsuc 7) ∷ entry.Done 0 24 ∷ entry.Done 0 25 ∷ entry.Done 0 26 ∷ entry.Done 0 27 ∷ entry.Done 0 28 ∷ entry.Done 0 29 ∷ entry.Done 0 30 ∷ entry.Done 0 31 ∷ folded (counter.Context 0) 9 (negsuc 7) ∷ entry.Done 0 32 ∷ entry.Done 0 33 ∷ entry.Done 0 34 ∷ entry.Done 0 35 ∷ entry.Done 0 36 ∷ entry.Done 0 37 ∷ entry.Done 0 38 ∷ entry.Done 0 39 ∷ folded (counter.Context 0) 10 (negsuc 7) ∷ folded (counter.Domain 0) 2 (negsuc 31) ∷ entry.Share 0 0 40 ∷ []) (check 0 0 1 (read 0 0 35 1 35 0 (pos 0) 0 0 1) None 2 (pos 16) 0 kind.Free 0 4 0 4 1 ∷ check 0 0 1 (read 0 0 35 1 35 0 (pos 0) 0 0 1) None 2 (pos 16) 0 kind.Free 0 4 0 4 1 ∷ check 0 0 1 (read 0 0 35 1 35 0 (pos 0) 0 0 1) None 3 (pos 24) 0 kind.Free 0 4 0 4 1 ∷ check 0 0 1 (read 0 0 35 1 35 0 (pos 0) 0 0 1) None 3 (pos 24) 0 kind.Free 0 4 0 4 1 ∷ check 0 0 1 (read 0 0 35 1 35 1 (pos 32) 0 0 1) None 4 (pos 32) 0 kind.Go 0 1 4 4 1 ∷ check 0 0 1 (read 0 0 35 1 35 1 (pos 32) 0 0 1) None 4 (pos 32) 0 kind.Go 1 4 0 4 2 ∷ check 0 0 2 (read 0 0 35 1 35 1 (pos 32) 0 0 1) None 5 (pos 40) 0 kind.Go 0 4 4 8 2 ∷ []) ([]) ∷ []; steps = []; bases = []; homes = []; left = []; strict = []; ending = ending.Done }

-- a journal of it, which breaks point 7 at line 62
abbrev pub case_goes_on_2 : Journal
case_goes_on_2 = record { timer = limits 0 1 35 1 35 ∷ []; cpus = part (entry.Write 0 0 true ∷ entry.Write 0 1 true ∷ entry.Write 0 2 true ∷ entry.Write 0 3 true ∷ entry.Write 0 4 true ∷ entry.Write 0 5 true ∷ entry.Write 0 6 true ∷ entry.Write 0 7 true ∷ folded (counter.Context 0) 1 (pos 8) ∷ entry.Write 0 8 true ∷ entry.Write 0 9 true ∷ entry.Write 0 10 true ∷ entry.Write 0 11 true ∷ entry.Write 0 12 true ∷ entry.Write 0 13 true ∷ entry.Write 0 14 true ∷ entry.Write 0 15 true ∷ folded (counter.Context 0) 2 (pos 8) ∷ entry.Check 0 ∷ entry.Write 0 16 true ∷ entry.Write 0 17 true ∷ entry.Write 0 18 true ∷ entry.Write 0 19 true ∷ entry.Check 1 ∷ entry.Write 0 20 true ∷ entry.Write 0 21 true ∷ entry.Write 0 22 true ∷ entry.Write 0 23 true ∷ folded (counter.Context 0) 3 (pos 8) ∷ entry.Check 2 ∷ entry.Write 0 24 true ∷ entry.Write 0 25 true ∷ entry.Write 0 26 true ∷ entry.Write 0 27 true ∷ entry.Check 3 ∷ entry.Write 0 28 true ∷ entry.Write 0 29 true ∷ entry.Write 0 30 true ∷ entry.Write 0 31 true ∷ folded (counter.Context 0) 4 (pos 8) ∷ folded (counter.Domain 0) 1 (pos 32) ∷ entry.Check 4 ∷ entry.Write 0 32 true ∷ entry.Write 0 33 true ∷ entry.Write 0 34 true ∷ entry.Write 0 35 true ∷ entry.Check 5 ∷ entry.Write 0 36 true ∷ entry.Write 0 37 true ∷ entry.Write 0 38 true ∷ entry.Write 0 39 true ∷ folded (counter.Context 0) 5 (pos 8) ∷ entry.Check 6 ∷ entry.Claimed 0 0 ∷ entry.Claimed 0 1 ∷ entry.Claimed 0 2 ∷ entry.Claimed 0 3 ∷ entry.Claimed 0 4 ∷ entry.Claimed 0 5 ∷ entry.Claimed 0 6 ∷ entry.Claimed 0 7 ∷ entry.Claimed 0 8 ∷ entry.Claimed 0 9 ∷ entry.Claimed 0 10 ∷ entry.Claimed 0 11 ∷ entry.Claimed 0 12 ∷ entry.Claimed 0 13 ∷ entry.Claimed 0 14 ∷ entry.Claimed 0 15 ∷ entry.Claimed 0 16 ∷ entry.Claimed 0 17 ∷ entry.Claimed 0 18 ∷ entry.Claimed 0 19 ∷ entry.Claimed 0 20 ∷ entry.Claimed 0 21 ∷ entry.Claimed 0 22 ∷ entry.Claimed 0 23 ∷ entry.Claimed 0 24 ∷ entry.Claimed 0 25 ∷ entry.Claimed 0 26 ∷ entry.Claimed 0 27 ∷ entry.Claimed 0 28 ∷ entry.Claimed 0 29 ∷ entry.Claimed 0 30 ∷ entry.Claimed 0 31 ∷ entry.Claimed 0 32 ∷ entry.Claimed 0 33 ∷ entry.Claimed 0 34 ∷ entry.Claimed 0 35 ∷ entry.Claimed 0 36 ∷ entry.Claimed 0 37 ∷ entry.Claimed 0 38 ∷ entry.Claimed 0 39 ∷ entry.Batch 0 40 2 4 ∷ entry.Done 0 0 ∷ entry.Done 0 1 ∷ entry.Done 0 2 ∷ entry.Done 0 3 ∷ entry.Done 0 4 ∷ entry.Done 0 5 ∷ entry.Done 0 6 ∷ entry.Done 0 7 ∷ folded (counter.Context 0) 6 (negsuc 7) ∷ entry.Done 0 8 ∷ entry.Done 0 9 ∷ entry.Done 0 10 ∷ entry.Done 0 11 ∷ entry.Done 0 12 ∷ entry.Done 0 13 ∷ entry.Done 0 14 ∷ entry.Done 0 15 ∷ folded (counter.Context 0) 7 (negsuc 7) ∷ entry.Done 0 16 ∷ entry.Done 0 17 ∷ entry.Done 0 18 ∷ entry.Done 0 19 ∷ entry.Done 0 20 ∷ entry.Done 0 21 ∷ entry.Done 0 22 ∷ entry.Done 0 23 ∷ folded (counter.Context 0) 8 (negsuc 7) ∷ entry.Done 0 24 ∷ entry.Done 0 25 ∷ entry.Done 0 26 ∷ entry.Done 0 27 ∷ entry.Done 0 28 ∷ entry.Done 0 29 ∷ entry.Done 0 30 ∷ entry.Done 0 31 ∷ folded (counter.Context 0) 9 (negsuc 7) ∷ entry.Done 0 32 ∷ entry.Done 0 33 ∷ entry.Done 0 34 ∷ entry.Done 0 35 ∷ entry.Done 0 36 ∷ entry.Done 0 37 ∷ entry.Done 0 38 ∷ entry.Done 0 39 ∷ folded (counter.Context 0) 10 (negsuc 7) ∷ folded (counter.Domain 0) 2 (negsuc 31) ∷ entry.Share 0 0 40 ∷ []) (check 0 0 1 (read 0 0 35 1 35 0 (pos 0) 0 0 1) None 2 (pos 16) 0 kind.Free 0 4 0 4 1 ∷ check 0 0 1 (read 0 0 35 1 35 0 (pos 0) 0 0 1) None 2 (pos 16) 0 kind.Free 0 4 0 4 1 ∷ check 0 0 1 (read 0 0 35 1 35 0 (pos 0) 0 0 1) None 3 (pos 24) 0 kind.Free 0 4 0 4 1 ∷ check 0 0 1 (read 0 0 35 1 35 0 (pos 0) 0 0 1) None 3 (pos 24) 0 kind.Free 0 4 0 4 1 ∷ check 0 0 1 (read 0 0 35 1 35 1 (pos 32) 0 0 1) None 4 (pos 32) 0 kind.Go 0 4 4 8 1 ∷ check 0 0 1 (read 0 0 35 1 35 1 (pos 32) 0 0 1) None 4 (pos 32) 0 kind.Go 0 4 4 4 1 ∷ check 0 0 2 (read 0 0 35 1 35 1 (pos 32) 0 0 1) None 5 (pos 40) 0 kind.Go 0 4 4 8 2 ∷ []) ([]) ∷ []; steps = []; bases = []; homes = []; left = []; strict = []; ending = ending.Done }

-- the trace of the next journals
abbrev pub case_goes_on_in_a_cgroup_trace : Trace
case_goes_on_in_a_cgroup_trace = record { cpus = 1; cap = 1024; settings = settings 40 1 0 0; avail = avail 0 1000 ∷ []; devices = device 25600 0 100 ∷ []; cgroups = cgroup 100 0 ∷ []; contexts = context 0 1 ∷ []; inodes = inode 0 0 40 ∷ []; tasks = on_cpu 0 ∷ []; flushers = flusher 0 0 ∷ []; actions = action.Write 0 0 0 40 ∷ []; order = []; halt = None }

-- a journal of it, which is lawful
abbrev pub case_goes_on_in_a_cgroup : Journal
case_goes_on_in_a_cgroup = record { timer = limits 0 1 399 9 399 ∷ limits 1 1 39 0 39 ∷ []; cpus = part (entry.Write 0 0 true ∷ entry.Write 0 1 true ∷ entry.Write 0 2 true ∷ entry.Write 0 3 true ∷ entry.Write 0 4 true ∷ entry.Write 0 5 true ∷ entry.Write 0 6 true ∷ entry.Write 0 7 true ∷ folded (counter.Context 0) 1 (pos 8) ∷ entry.Write 0 8 true ∷ entry.Write 0 9 true ∷ entry.Write 0 10 true ∷ entry.Write 0 11 true ∷ entry.Write 0 12 true ∷ entry.Write 0 13 true ∷ entry.Write 0 14 true ∷ entry.Write 0 15 true ∷ folded (counter.Context 0) 2 (pos 8) ∷ entry.Check 0 ∷ entry.Write 0 16 true ∷ entry.Write 0 17 true ∷ entry.Write 0 18 true ∷ entry.Write 0 19 true ∷ entry.Check 1 ∷ entry.Write 0 20 true ∷ entry.Write 0 21 true ∷ entry.Write 0 22 true ∷ entry.Write 0 23 true ∷ folded (counter.Context 0) 3 (pos 8) ∷ entry.Check 2 ∷ entry.Write 0 24 true ∷ entry.Write 0 25 true ∷ entry.Write 0 26 true ∷ entry.Write 0 27 true ∷ entry.Check 3 ∷ entry.Write 0 28 true ∷ entry.Write 0 29 true ∷ entry.Write 0 30 true ∷ entry.Write 0 31 true ∷ folded (counter.Context 0) 4 (pos 8) ∷ folded (counter.Domain 0) 1 (pos 32) ∷ folded (counter.Domain 1) 1 (pos 32) ∷ entry.Check 4 ∷ entry.Write 0 32 true ∷ entry.Write 0 33 true ∷ entry.Write 0 34 true ∷ entry.Write 0 35 true ∷ entry.Check 5 ∷ entry.Write 0 36 true ∷ entry.Write 0 37 true ∷ entry.Write 0 38 true ∷ entry.Write 0 39 true ∷ folded (counter.Context 0) 5 (pos 8) ∷ entry.Claimed 0 0 ∷ entry.Claimed 0 1 ∷ entry.Claimed 0 2 ∷ entry.Claimed 0 3 ∷ entry.Claimed 0 4 ∷ entry.Claimed 0 5 ∷ entry.Claimed 0 6 ∷ entry.Claimed 0 7 ∷ entry.Claimed 0 8 ∷ entry.Claimed 0 9 ∷ entry.Claimed 0 10 ∷ entry.Claimed 0 11 ∷ entry.Claimed 0 12 ∷ entry.Claimed 0 13 ∷ entry.Claimed 0 14 ∷ entry.Claimed 0 15 ∷ entry.Claimed 0 16 ∷ entry.Claimed 0 17 ∷ entry.Claimed 0 18 ∷ entry.Claimed 0 19 ∷ entry.Claimed 0 20 ∷ entry.Claimed 0 21 ∷ entry.Claimed 0 22 ∷ entry.Claimed 0 23 ∷ entry.Claimed 0 24 ∷ entry.Claimed 0 25 ∷ entry.Claimed 0 26 ∷ entry.Claimed 0 27 ∷ entry.Claimed 0 28 ∷ entry.Claimed 0 29 ∷ entry.Claimed 0 30 ∷ entry.Claimed 0 31 ∷ entry.Claimed 0 32 ∷ entry.Claimed 0 33 ∷ entry.Claimed 0 34 ∷ entry.Claimed 0 35 ∷ entry.Claimed 0 36 ∷ entry.Claimed 0 37 ∷ entry.Claimed 0 38 ∷ entry.Claimed 0 39 ∷ entry.Batch 0 40 2 4 ∷ entry.Done 0 0 ∷ entry.Done 0 1 ∷ entry.Done 0 2 ∷ entry.Done 0 3 ∷ entry.Done 0 4 ∷ entry.Done 0 5 ∷ entry.Done 0 6 ∷ entry.Done 0 7 ∷ folded (counter.Context 0) 6 (negsuc 7) ∷ entry.Done 0 8 ∷ entry.Done 0 9 ∷ entry.Done 0 10 ∷ entry.Done 0 11 ∷ entry.Done 0 12 ∷ entry.Done 0 13 ∷ entry.Done 0 14 ∷ entry.Done 0 15 ∷ folded (counter.Context 0) 7 (negsuc 7) ∷ entry.Done 0 16 ∷ entry.Done 0 17 ∷ entry.Done 0 18 ∷ entry.Done 0 19 ∷ entry.Done 0 20 ∷ entry.Done 0 21 ∷ entry.Done 0 22 ∷ entry.Done 0 23 ∷ folded (counter.Context 0) 8 (negsuc 7) ∷ entry.Done 0 24 ∷ entry.Done 0 25 ∷ entry.Done 0 26 ∷ entry.Done 0 27 ∷ entry.Done 0 28 ∷ entry.Done 0 29 ∷ entry.Done 0 30 ∷ entry.Done 0 31 ∷ folded (counter.Context 0) 9 (negsuc 7) ∷ entry.Done 0 32 ∷ entry.Done 0 33 ∷ entry.Done 0 34 ∷ entry.Done 0 35 ∷ entry.Done 0 36 ∷ entry.Done 0 37 ∷ entry.Done 0 38 ∷ entry.Done 0 39 ∷ folded (counter.Context 0) 10 (negsuc 7) ∷ folded (counter.Domain 0) 2 (negsuc 31) ∷ folded (counter.Domain 1) 2 (negsuc 31) ∷ entry.Share 0 0 40 ∷ entry.Share 1 0 40 ∷ []) (check 0 0 1 (read 0 0 399 9 399 0 (pos 0) 0 0 1) (Some (read 1 0 39 0 39 0 (pos 0) 0 0 1)) 2 (pos 16) 0 kind.Free 0 4 0 4 1 ∷ check 0 0 1 (read 0 0 399 9 399 0 (pos 0) 0 0 1) (Some (read 1 0 39 0 39 0 (pos 0) 0 0 1)) 2 (pos 16) 0 kind.Free 0 4 0 4 1 ∷ check 0 0 1 (read 0 0 399 9 399 0 (pos 0) 0 0 1) (Some (read 1 0 39 0 39 0 (pos 0) 0 0 1)) 3 (pos 24) 0 kind.Free 0 4 0 4 1 ∷ check 0 0 1 (read 0 0 399 9 399 0 (pos 0) 0 0 1) (Some (read 1 0 39 0 39 0 (pos 0) 0 0 1)) 3 (pos 24) 0 kind.Free 0 4 0 4 1 ∷ check 0 0 1 (read 0 0 399 9 399 1 (pos 32) 0 0 1) (Some (read 1 0 39 0 39 1 (pos 32) 0 0 1)) 4 (pos 32) 0 kind.Go 0 4 4 8 1 ∷ check 0 0 1 (read 0 0 399 9 399 1 (pos 32) 0 0 1) (Some (read 1 0 39 0 39 1 (pos 32) 0 0 1)) 4 (pos 32) 0 kind.Go 1 6 0 6 2 ∷ []) ([]) ∷ []; steps = []; bases = []; homes = []; left = []; strict = []; ending = ending.Done }

-- a journal of it, which breaks point 7 at line 62
abbrev pub case_goes_on_in_a_cgroup_1 : Journal
case_goes_on_in_a_cgroup_1 = record { timer = limits 0 1 399 9 399 ∷ limits 1 1 39 0 39 ∷ []; cpus = part (entry.Write 0 0 true ∷ entry.Write 0 1 true ∷ entry.Write 0 2 true ∷ entry.Write 0 3 true ∷ entry.Write 0 4 true ∷ entry.Write 0 5 true ∷ entry.Write 0 6 true ∷ entry.Write 0 7 true ∷ folded (counter.Context 0) 1 (pos 8) ∷ entry.Write 0 8 true ∷ entry.Write 0 9 true ∷ entry.Write 0 10 true ∷ entry.Write 0 11 true ∷ entry.Write 0 12 true ∷ entry.Write 0 13 true ∷ entry.Write 0 14 true ∷ entry.Write 0 15 true ∷ folded (counter.Context 0) 2 (pos 8) ∷ entry.Check 0 ∷ entry.Write 0 16 true ∷ entry.Write 0 17 true ∷ entry.Write 0 18 true ∷ entry.Write 0 19 true ∷ entry.Check 1 ∷ entry.Write 0 20 true ∷ entry.Write 0 21 true ∷ entry.Write 0 22 true ∷ entry.Write 0 23 true ∷ folded (counter.Context 0) 3 (pos 8) ∷ entry.Check 2 ∷ entry.Write 0 24 true ∷ entry.Write 0 25 true ∷ entry.Write 0 26 true ∷ entry.Write 0 27 true ∷ entry.Check 3 ∷ entry.Write 0 28 true ∷ entry.Write 0 29 true ∷ entry.Write 0 30 true ∷ entry.Write 0 31 true ∷ folded (counter.Context 0) 4 (pos 8) ∷ folded (counter.Domain 0) 1 (pos 32) ∷ folded (counter.Domain 1) 1 (pos 32) ∷ entry.Check 4 ∷ entry.Write 0 32 true ∷ entry.Write 0 33 true ∷ entry.Write 0 34 true ∷ entry.Write 0 35 true ∷ entry.Check 5 ∷ entry.Write 0 36 true ∷ entry.Write 0 37 true ∷ entry.Write 0 38 true ∷ entry.Write 0 39 true ∷ folded (counter.Context 0) 5 (pos 8) ∷ entry.Claimed 0 0 ∷ entry.Claimed 0 1 ∷ entry.Claimed 0 2 ∷ entry.Claimed 0 3 ∷ entry.Claimed 0 4 ∷ entry.Claimed 0 5 ∷ entry.Claimed 0 6 ∷ entry.Claimed 0 7 ∷ entry.Claimed 0 8 ∷ entry.Claimed 0 9 ∷ entry.Claimed 0 10 ∷ entry.Claimed 0 11 ∷ entry.Claimed 0 12 ∷ entry.Claimed 0 13 ∷ entry.Claimed 0 14 ∷ entry.Claimed 0 15 ∷ entry.Claimed 0 16 ∷ entry.Claimed 0 17 ∷ entry.Claimed 0 18 ∷ entry.Claimed 0 19 ∷ entry.Claimed 0 20 ∷ entry.Claimed 0 21 ∷ entry.Claimed 0 22 ∷ entry.Claimed 0 23 ∷ entry.Claimed 0 24 ∷ entry.Claimed 0 25 ∷ entry.Claimed 0 26 ∷ entry.Claimed 0 27 ∷ entry.Claimed 0 28 ∷ entry.Claimed 0 29 ∷ entry.Claimed 0 30 ∷ entry.Claimed 0 31 ∷ entry.Claimed 0 32 ∷ entry.Claimed 0 33 ∷ entry.Claimed 0 34 ∷ entry.Claimed 0 35 ∷ entry.Claimed 0 36 ∷ entry.Claimed 0 37 ∷ entry.Claimed 0 38 ∷ entry.Claimed 0 39 ∷ entry.Batch 0 40 2 4 ∷ entry.Done 0 0 ∷ entry.Done 0 1 ∷ entry.Done 0 2 ∷ entry.Done 0 3 ∷ entry.Done 0 4 ∷ entry.Done 0 5 ∷ entry.Done 0 6 ∷ entry.Done 0 7 ∷ folded (counter.Context 0) 6 (negsuc 7) ∷ entry.Done 0 8 ∷ entry.Done 0 9 ∷ entry.Done 0 10 ∷ entry.Done 0 11 ∷ entry.Done 0 12 ∷ entry.Done 0 13 ∷ entry.Done 0 14 ∷ entry.Done 0 15 ∷ folded (counter.Context 0) 7 (negsuc 7) ∷ entry.Done 0 16 ∷ entry.Done 0 17 ∷ entry.Done 0 18 ∷ entry.Done 0 19 ∷ entry.Done 0 20 ∷ entry.Done 0 21 ∷ entry.Done 0 22 ∷ entry.Done 0 23 ∷ folded (counter.Context 0) 8 (negsuc 7) ∷ entry.Done 0 24 ∷ entry.Done 0 25 ∷ entry.Done 0 26 ∷ entry.Done 0 27 ∷ entry.Done 0 28 ∷ entry.Done 0 29 ∷ entry.Done 0 30 ∷ entry.Done 0 31 ∷ folded (counter.Context 0) 9 (negsuc 7) ∷ entry.Done 0 32 ∷ entry.Done 0 33 ∷ entry.Done 0 34 ∷ entry.Done 0 35 ∷ entry.Done 0 36 ∷ entry.Done 0 37 ∷ entry.Done 0 38 ∷ entry.Done 0 39 ∷ folded (counter.Context 0) 10 (negsuc 7) ∷ folded (counter.Domain 0) 2 (negsuc 31) ∷ folded (counter.Domain 1) 2 (negsuc 31) ∷ entry.Share 0 0 40 ∷ entry.Share 1 0 40 ∷ []) (check 0 0 1 (read 0 0 399 9 399 0 (pos 0) 0 0 1) (Some (read 1 0 39 0 39 0 (pos 0) 0 0 1)) 2 (pos 16) 0 kind.Free 0 4 0 4 1 ∷ check 0 0 1 (read 0 0 399 9 399 0 (pos 0) 0 0 1) (Some (read 1 0 39 0 39 0 (pos 0) 0 0 1)) 2 (pos 16) 0 kind.Free 0 4 0 4 1 ∷ check 0 0 1 (read 0 0 399 9 399 0 (pos 0) 0 0 1) (Some (read 1 0 39 0 39 0 (pos 0) 0 0 1)) 3 (pos 24) 0 kind.Free 0 4 0 4 1 ∷ check 0 0 1 (read 0 0 399 9 399 0 (pos 0) 0 0 1) (Some (read 1 0 39 0 39 0 (pos 0) 0 0 1)) 3 (pos 24) 0 kind.Free 0 4 0 4 1 ∷ check 0 0 1 (read 0 0 399 9 399 1 (pos 32) 0 0 1) (Some (read 1 0 39 0 39 1 (pos 32) 0 0 1)) 4 (pos 32) 0 kind.Free 0 4 0 4 1 ∷ check 0 0 1 (read 0 0 399 9 399 1 (pos 32) 0 0 1) (Some (read 1 0 39 0 39 1 (pos 32) 0 0 1)) 4 (pos 32) 0 kind.Go 1 6 0 6 2 ∷ []) ([]) ∷ []; steps = []; bases = []; homes = []; left = []; strict = []; ending = ending.Done }

-- the trace of the next journals
abbrev pub case_goes_round_trace : Trace
case_goes_round_trace = record { cpus = 2; cap = 1024; settings = settings 20 10 0 0; avail = avail 0 100000 ∷ []; devices = (record (chunked_device 25600 0 100 2) { cyclic = true }) ∷ []; cgroups = []; contexts = ageing_context 0 0 10 ∷ []; inodes = inode 0 0 5 ∷ inode 0 5 2 ∷ []; tasks = on_cpu 0 ∷ []; flushers = flusher 0 1 ∷ []; actions = action.Write 0 0 0 2 ∷ action.Write 0 1 0 1 ∷ action.Rest 0 109 ∷ action.Write 0 0 4 1 ∷ action.Write 0 0 0 2 ∷ []; order = []; halt = None }

-- a journal of it, which is lawful
abbrev pub case_goes_round : Journal
case_goes_round = record { timer = limits 0 1 19995 9985 19995 ∷ []; cpus = part (entry.Write 0 0 true ∷ entry.Write 0 1 true ∷ entry.Write 0 5 true ∷ entry.Write 0 4 true ∷ entry.Write 0 0 true ∷ entry.Write 0 1 true ∷ []) ([]) ([]) ∷ part (entry.Noticed 0 0 1 ∷ entry.Noticed 0 1 1 ∷ entry.Aged 0 0 101 101 ∷ entry.Claimed 0 0 ∷ entry.Claimed 0 1 ∷ entry.Batch 0 2 101 102 ∷ entry.Done 0 0 ∷ entry.Done 0 1 ∷ entry.Share 0 0 2 ∷ entry.Noticed 0 0 102 ∷ entry.Aged 0 1 101 102 ∷ entry.Claimed 0 5 ∷ entry.Batch 0 1 102 103 ∷ entry.Done 0 5 ∷ entry.Share 0 0 1 ∷ entry.Taken 0 0 ∷ entry.Claimed 0 4 ∷ entry.Claimed 0 0 ∷ entry.Batch 0 2 110 111 ∷ entry.Done 0 4 ∷ entry.Done 0 0 ∷ entry.Share 0 0 2 ∷ entry.Claimed 0 1 ∷ entry.Batch 0 1 111 112 ∷ entry.Done 0 1 ∷ entry.Share 0 0 1 ∷ []) ([]) ([]) ∷ []; steps = []; bases = []; homes = []; left = []; strict = []; ending = ending.Done }

-- a journal of it, which breaks point 12 at line 22
abbrev pub case_goes_round_1 : Journal
case_goes_round_1 = record { timer = limits 0 1 19995 9985 19995 ∷ []; cpus = part (entry.Write 0 0 true ∷ entry.Write 0 1 true ∷ entry.Write 0 5 true ∷ entry.Write 0 4 true ∷ entry.Write 0 0 true ∷ entry.Write 0 1 true ∷ []) ([]) ([]) ∷ part (entry.Noticed 0 0 1 ∷ entry.Noticed 0 1 1 ∷ entry.Aged 0 0 101 101 ∷ entry.Claimed 0 0 ∷ entry.Claimed 0 1 ∷ entry.Batch 0 2 101 102 ∷ entry.Done 0 0 ∷ entry.Done 0 1 ∷ entry.Share 0 0 2 ∷ entry.Noticed 0 0 102 ∷ entry.Aged 0 1 101 102 ∷ entry.Claimed 0 7 ∷ entry.Batch 0 1 102 103 ∷ entry.Done 0 5 ∷ entry.Share 0 0 1 ∷ entry.Taken 0 0 ∷ entry.Claimed 0 4 ∷ entry.Claimed 0 0 ∷ entry.Batch 0 2 110 111 ∷ entry.Done 0 4 ∷ entry.Done 0 0 ∷ entry.Share 0 0 2 ∷ entry.Claimed 0 1 ∷ entry.Batch 0 1 111 112 ∷ entry.Done 0 1 ∷ entry.Share 0 0 1 ∷ []) ([]) ([]) ∷ []; steps = []; bases = []; homes = []; left = []; strict = []; ending = ending.Done }

-- a journal of it, which breaks point 13 at line 39
abbrev pub case_goes_round_2 : Journal
case_goes_round_2 = record { timer = limits 0 1 19995 9985 19995 ∷ []; cpus = part (entry.Write 0 0 true ∷ entry.Write 0 1 true ∷ entry.Write 0 5 true ∷ entry.Write 0 4 true ∷ entry.Write 0 0 true ∷ entry.Write 0 1 true ∷ []) ([]) ([]) ∷ part (entry.Noticed 0 0 1 ∷ entry.Noticed 0 1 1 ∷ entry.Aged 0 0 101 101 ∷ entry.Claimed 0 0 ∷ entry.Claimed 0 1 ∷ entry.Batch 0 2 101 102 ∷ entry.Done 0 0 ∷ entry.Done 0 1 ∷ entry.Share 0 0 2 ∷ entry.Noticed 0 0 102 ∷ entry.Aged 0 1 101 102 ∷ entry.Claimed 0 5 ∷ entry.Batch 0 1 102 103 ∷ entry.Done 0 5 ∷ entry.Share 0 0 1 ∷ entry.Taken 0 0 ∷ entry.Claimed 0 4 ∷ entry.Claimed 0 0 ∷ entry.Batch 0 2 110 111 ∷ entry.Done 0 4 ∷ entry.Done 0 0 ∷ entry.Share 0 0 2 ∷ entry.Claimed 0 4 ∷ entry.Claimed 0 1 ∷ entry.Batch 0 2 111 112 ∷ entry.Done 0 4 ∷ entry.Done 0 1 ∷ entry.Share 0 0 2 ∷ []) ([]) ([]) ∷ []; steps = []; bases = []; homes = []; left = []; strict = []; ending = ending.Done }

-- a journal of it, which breaks point 16 at line 36
abbrev pub case_goes_round_3 : Journal
case_goes_round_3 = record { timer = limits 0 1 19995 9985 19995 ∷ []; cpus = part (entry.Write 0 0 true ∷ entry.Write 0 1 true ∷ entry.Write 0 5 true ∷ entry.Write 0 4 true ∷ entry.Write 0 0 true ∷ entry.Write 0 1 true ∷ []) ([]) ([]) ∷ part (entry.Noticed 0 0 1 ∷ entry.Noticed 0 1 1 ∷ entry.Aged 0 0 101 101 ∷ entry.Claimed 0 0 ∷ entry.Claimed 0 1 ∷ entry.Batch 0 2 101 102 ∷ entry.Done 0 0 ∷ entry.Done 0 1 ∷ entry.Share 0 0 2 ∷ entry.Noticed 0 0 102 ∷ entry.Aged 0 1 101 102 ∷ entry.Claimed 0 5 ∷ entry.Batch 0 1 102 103 ∷ entry.Done 0 5 ∷ entry.Share 0 0 1 ∷ entry.Taken 0 0 ∷ entry.Claimed 0 4 ∷ entry.Claimed 0 0 ∷ entry.Batch 0 2 110 111 ∷ entry.Done 0 4 ∷ entry.Done 0 0 ∷ entry.Share 0 0 2 ∷ []) ([]) ([]) ∷ []; steps = []; bases = []; homes = []; left = left 1 1 ∷ []; strict = []; ending = ending.Done }

-- a journal of it, which breaks point 14 at line 30
abbrev pub case_goes_round_4 : Journal
case_goes_round_4 = record { timer = limits 0 1 19995 9985 19995 ∷ []; cpus = part (entry.Write 0 0 true ∷ entry.Write 0 1 true ∷ entry.Write 0 5 true ∷ entry.Write 0 4 true ∷ entry.Write 0 0 true ∷ entry.Write 0 1 true ∷ []) ([]) ([]) ∷ part (entry.Noticed 0 0 1 ∷ entry.Noticed 0 1 1 ∷ entry.Aged 0 0 101 101 ∷ entry.Claimed 0 0 ∷ entry.Claimed 0 1 ∷ entry.Batch 0 2 101 102 ∷ entry.Done 0 0 ∷ entry.Done 0 1 ∷ entry.Share 0 0 2 ∷ entry.Noticed 0 0 102 ∷ entry.Aged 0 1 101 102 ∷ entry.Claimed 0 5 ∷ entry.Batch 0 1 102 103 ∷ entry.Done 0 5 ∷ entry.Share 0 0 1 ∷ entry.Taken 0 0 ∷ entry.Claimed 0 4 ∷ entry.Claimed 0 0 ∷ entry.Claimed 0 1 ∷ entry.Batch 0 3 110 111 ∷ entry.Done 0 4 ∷ entry.Done 0 0 ∷ entry.Done 0 1 ∷ entry.Share 0 0 3 ∷ []) ([]) ([]) ∷ []; steps = []; bases = []; homes = []; left = []; strict = []; ending = ending.Done }

-- a journal of it, which breaks point 14 at line 30
abbrev pub case_goes_round_5 : Journal
case_goes_round_5 = record { timer = limits 0 1 19995 9985 19995 ∷ []; cpus = part (entry.Write 0 0 true ∷ entry.Write 0 1 true ∷ entry.Write 0 5 true ∷ entry.Write 0 4 true ∷ entry.Write 0 0 true ∷ entry.Write 0 1 true ∷ []) ([]) ([]) ∷ part (entry.Noticed 0 0 1 ∷ entry.Noticed 0 1 1 ∷ entry.Aged 0 0 101 101 ∷ entry.Claimed 0 0 ∷ entry.Claimed 0 1 ∷ entry.Batch 0 2 101 102 ∷ entry.Done 0 0 ∷ entry.Done 0 1 ∷ entry.Share 0 0 2 ∷ entry.Noticed 0 0 102 ∷ entry.Aged 0 1 101 102 ∷ entry.Claimed 0 5 ∷ entry.Batch 0 1 102 103 ∷ entry.Done 0 5 ∷ entry.Share 0 0 1 ∷ entry.Taken 0 0 ∷ entry.Claimed 0 4 ∷ entry.Claimed 0 0 ∷ entry.Batch 0 2 110 111 ∷ entry.Done 0 0 ∷ entry.Done 0 4 ∷ entry.Share 0 0 2 ∷ entry.Claimed 0 1 ∷ entry.Batch 0 1 111 112 ∷ entry.Done 0 1 ∷ entry.Share 0 0 1 ∷ []) ([]) ([]) ∷ []; steps = []; bases = []; homes = []; left = []; strict = []; ending = ending.Done }

-- a journal of it, which is lawful
abbrev pub case_goes_round_6 : Journal
case_goes_round_6 = record { timer = limits 0 1 19995 9985 19995 ∷ []; cpus = part (entry.Write 0 0 true ∷ entry.Write 0 1 true ∷ entry.Write 0 5 true ∷ entry.Write 0 4 true ∷ entry.Write 0 0 true ∷ entry.Write 0 1 true ∷ []) ([]) ([]) ∷ part (entry.Noticed 0 0 1 ∷ entry.Noticed 0 1 1 ∷ entry.Aged 0 0 101 101 ∷ entry.Claimed 0 0 ∷ entry.Claimed 0 1 ∷ entry.Batch 0 2 101 102 ∷ entry.Done 0 0 ∷ entry.Done 0 1 ∷ entry.Share 0 0 2 ∷ entry.Noticed 0 0 102 ∷ entry.Aged 0 1 101 102 ∷ entry.Claimed 0 5 ∷ entry.Batch 0 1 102 103 ∷ entry.Done 0 5 ∷ entry.Share 0 0 1 ∷ entry.Taken 0 0 ∷ entry.Claimed 0 4 ∷ entry.Claimed 0 0 ∷ entry.Fault 0 2 ∷ entry.Back 0 4 false ∷ entry.Back 0 0 false ∷ entry.Claimed 0 1 ∷ entry.Claimed 0 4 ∷ entry.Batch 0 2 1110 1111 ∷ entry.Done 0 1 ∷ entry.Done 0 4 ∷ entry.Share 0 0 2 ∷ entry.Claimed 0 0 ∷ entry.Batch 0 1 1111 1112 ∷ entry.Done 0 0 ∷ entry.Share 0 0 1 ∷ []) ([]) ([]) ∷ []; steps = []; bases = []; homes = []; left = []; strict = []; ending = ending.Done }

-- a journal of it, which breaks point 13 at line 36
abbrev pub case_goes_round_7 : Journal
case_goes_round_7 = record { timer = limits 0 1 19995 9985 19995 ∷ []; cpus = part (entry.Write 0 0 true ∷ entry.Write 0 1 true ∷ entry.Write 0 5 true ∷ entry.Write 0 4 true ∷ entry.Write 0 0 true ∷ entry.Write 0 1 true ∷ []) ([]) ([]) ∷ part (entry.Noticed 0 0 1 ∷ entry.Noticed 0 1 1 ∷ entry.Aged 0 0 101 101 ∷ entry.Claimed 0 0 ∷ entry.Claimed 0 1 ∷ entry.Batch 0 2 101 102 ∷ entry.Done 0 0 ∷ entry.Done 0 1 ∷ entry.Share 0 0 2 ∷ entry.Noticed 0 0 102 ∷ entry.Aged 0 1 101 102 ∷ entry.Claimed 0 5 ∷ entry.Batch 0 1 102 103 ∷ entry.Done 0 5 ∷ entry.Share 0 0 1 ∷ entry.Taken 0 0 ∷ entry.Claimed 0 4 ∷ entry.Claimed 0 0 ∷ entry.Fault 0 2 ∷ entry.Back 0 4 false ∷ entry.Back 0 0 false ∷ entry.Claimed 0 1 ∷ entry.Batch 0 1 111 112 ∷ entry.Done 0 1 ∷ entry.Share 0 0 1 ∷ []) ([]) ([]) ∷ []; steps = []; bases = []; homes = []; left = []; strict = []; ending = ending.Done }

-- the trace of the next journals
abbrev pub case_is_exempt_trace : Trace
case_is_exempt_trace = record { cpus = 1; cap = 4; settings = settings 20 10 131072 4096; avail = avail 0 1000 ∷ []; devices = device 25600 0 100 ∷ []; cgroups = []; contexts = context 0 0 ∷ context 0 0 ∷ []; inodes = inode 0 0 40 ∷ inode 1 40 40 ∷ []; tasks = on_cpu 0 ∷ []; flushers = flusher 0 0 ∷ []; actions = action.Write 0 0 0 29 ∷ action.Write 0 1 0 6 ∷ []; order = []; halt = None }

-- a journal of it, which is lawful
abbrev pub case_is_exempt : Journal
case_is_exempt = record { timer = limits 0 1 32 1 32 ∷ []; cpus = part (entry.Write 0 0 true ∷ entry.Write 0 1 true ∷ entry.Write 0 2 true ∷ entry.Write 0 3 true ∷ entry.Check 0 ∷ entry.Write 0 4 true ∷ entry.Write 0 5 true ∷ entry.Write 0 6 true ∷ entry.Write 0 7 true ∷ folded (counter.Context 0) 1 (pos 8) ∷ entry.Check 1 ∷ entry.Write 0 8 true ∷ entry.Write 0 9 true ∷ entry.Write 0 10 true ∷ entry.Write 0 11 true ∷ entry.Check 2 ∷ entry.Write 0 12 true ∷ entry.Write 0 13 true ∷ entry.Write 0 14 true ∷ entry.Write 0 15 true ∷ folded (counter.Context 0) 2 (pos 8) ∷ entry.Check 3 ∷ entry.Write 0 16 true ∷ entry.Write 0 17 true ∷ entry.Write 0 18 true ∷ entry.Write 0 19 true ∷ entry.Check 4 ∷ entry.Write 0 20 true ∷ entry.Write 0 21 true ∷ entry.Write 0 22 true ∷ entry.Write 0 23 true ∷ folded (counter.Context 0) 3 (pos 8) ∷ entry.Check 5 ∷ entry.Write 0 24 true ∷ entry.Write 0 25 true ∷ entry.Write 0 26 true ∷ entry.Write 0 27 true ∷ entry.Check 6 ∷ entry.Write 0 28 true ∷ entry.Write 0 40 true ∷ entry.Write 0 41 true ∷ entry.Write 0 42 true ∷ folded (counter.Domain 0) 1 (pos 32) ∷ entry.Write 0 43 true ∷ entry.Check 7 ∷ entry.Write 0 44 true ∷ entry.Check 8 ∷ entry.Write 0 45 true ∷ entry.Check 9 ∷ entry.Claimed 0 0 ∷ entry.Claimed 0 1 ∷ entry.Claimed 0 2 ∷ entry.Claimed 0 3 ∷ entry.Claimed 0 4 ∷ entry.Claimed 0 5 ∷ entry.Claimed 0 6 ∷ entry.Claimed 0 7 ∷ entry.Claimed 0 8 ∷ entry.Claimed 0 9 ∷ entry.Claimed 0 10 ∷ entry.Claimed 0 11 ∷ entry.Claimed 0 12 ∷ entry.Claimed 0 13 ∷ entry.Claimed 0 14 ∷ entry.Claimed 0 15 ∷ entry.Claimed 0 16 ∷ entry.Claimed 0 17 ∷ entry.Claimed 0 18 ∷ entry.Claimed 0 19 ∷ entry.Claimed 0 20 ∷ entry.Claimed 0 21 ∷ entry.Claimed 0 22 ∷ entry.Claimed 0 23 ∷ entry.Claimed 0 24 ∷ entry.Claimed 0 25 ∷ entry.Claimed 0 26 ∷ entry.Claimed 0 27 ∷ entry.Claimed 0 28 ∷ entry.Batch 0 29 3 5 ∷ entry.Done 0 0 ∷ entry.Done 0 1 ∷ entry.Done 0 2 ∷ entry.Done 0 3 ∷ entry.Done 0 4 ∷ entry.Done 0 5 ∷ entry.Done 0 6 ∷ entry.Done 0 7 ∷ entry.Done 0 8 ∷ entry.Done 0 9 ∷ entry.Done 0 10 ∷ entry.Done 0 11 ∷ entry.Done 0 12 ∷ folded (counter.Context 0) 4 (negsuc 7) ∷ entry.Done 0 13 ∷ entry.Done 0 14 ∷ entry.Done 0 15 ∷ entry.Done 0 16 ∷ entry.Done 0 17 ∷ entry.Done 0 18 ∷ entry.Done 0 19 ∷ entry.Done 0 20 ∷ folded (counter.Context 0) 5 (negsuc 7) ∷ entry.Done 0 21 ∷ entry.Done 0 22 ∷ entry.Done 0 23 ∷ entry.Done 0 24 ∷ entry.Done 0 25 ∷ entry.Done 0 26 ∷ entry.Done 0 27 ∷ entry.Done 0 28 ∷ folded (counter.Context 0) 6 (negsuc 7) ∷ entry.Share 0 0 29 ∷ entry.Claimed 0 40 ∷ entry.Claimed 0 41 ∷ entry.Claimed 0 42 ∷ entry.Claimed 0 43 ∷ entry.Claimed 0 44 ∷ entry.Claimed 0 45 ∷ entry.Batch 0 6 5 6 ∷ entry.Done 0 40 ∷ entry.Done 0 41 ∷ entry.Done 0 42 ∷ entry.Done 0 43 ∷ entry.Done 0 44 ∷ entry.Done 0 45 ∷ folded (counter.Domain 0) 2 (negsuc 31) ∷ entry.Share 0 1 6 ∷ []) (check 0 0 1 (read 0 0 32 1 32 0 (pos 0) 0 0 1) None 0 (pos 0) 0 kind.Free 0 4 0 4 1 ∷ check 0 0 1 (read 0 0 32 1 32 0 (pos 0) 0 0 1) None 1 (pos 8) 0 kind.Free 0 4 0 4 1 ∷ check 0 0 1 (read 0 0 32 1 32 0 (pos 0) 0 0 1) None 1 (pos 8) 0 kind.Free 0 4 0 4 1 ∷ check 0 0 1 (read 0 0 32 1 32 0 (pos 0) 0 0 1) None 2 (pos 16) 0 kind.Free 0 4 0 4 1 ∷ check 0 0 1 (read 0 0 32 1 32 0 (pos 0) 0 0 1) None 2 (pos 16) 0 kind.Free 0 4 0 4 1 ∷ check 0 0 1 (read 0 0 32 1 32 0 (pos 0) 0 0 1) None 3 (pos 24) 0 kind.Free 0 4 0 4 1 ∷ check 0 0 1 (read 0 0 32 1 32 0 (pos 0) 0 0 1) None 3 (pos 24) 0 kind.Free 0 4 0 4 1 ∷ check 0 1 1 (read 0 0 32 1 32 1 (pos 32) 0 0 1) None 0 (pos 0) 0 kind.Exempt 1 1 0 0 2 ∷ check 0 1 2 (read 0 0 32 1 32 1 (pos 32) 0 0 1) None 0 (pos 0) 0 kind.Exempt 1 1 0 0 3 ∷ check 0 1 3 (read 0 0 32 1 32 1 (pos 32) 0 0 1) None 0 (pos 0) 0 kind.Exempt 1 1 0 0 4 ∷ []) ([]) ∷ []; steps = []; bases = []; homes = []; left = []; strict = []; ending = ending.Done }

-- a journal of it, which breaks point 7 at line 64
abbrev pub case_is_exempt_1 : Journal
case_is_exempt_1 = record { timer = limits 0 1 32 1 32 ∷ []; cpus = part (entry.Write 0 0 true ∷ entry.Write 0 1 true ∷ entry.Write 0 2 true ∷ entry.Write 0 3 true ∷ entry.Check 0 ∷ entry.Write 0 4 true ∷ entry.Write 0 5 true ∷ entry.Write 0 6 true ∷ entry.Write 0 7 true ∷ folded (counter.Context 0) 1 (pos 8) ∷ entry.Check 1 ∷ entry.Write 0 8 true ∷ entry.Write 0 9 true ∷ entry.Write 0 10 true ∷ entry.Write 0 11 true ∷ entry.Check 2 ∷ entry.Write 0 12 true ∷ entry.Write 0 13 true ∷ entry.Write 0 14 true ∷ entry.Write 0 15 true ∷ folded (counter.Context 0) 2 (pos 8) ∷ entry.Check 3 ∷ entry.Write 0 16 true ∷ entry.Write 0 17 true ∷ entry.Write 0 18 true ∷ entry.Write 0 19 true ∷ entry.Check 4 ∷ entry.Write 0 20 true ∷ entry.Write 0 21 true ∷ entry.Write 0 22 true ∷ entry.Write 0 23 true ∷ folded (counter.Context 0) 3 (pos 8) ∷ entry.Check 5 ∷ entry.Write 0 24 true ∷ entry.Write 0 25 true ∷ entry.Write 0 26 true ∷ entry.Write 0 27 true ∷ entry.Check 6 ∷ entry.Write 0 28 true ∷ entry.Write 0 40 true ∷ entry.Write 0 41 true ∷ entry.Write 0 42 true ∷ folded (counter.Domain 0) 1 (pos 32) ∷ entry.Write 0 43 true ∷ entry.Check 7 ∷ entry.Write 0 44 true ∷ entry.Check 8 ∷ entry.Write 0 45 true ∷ entry.Check 9 ∷ entry.Claimed 0 0 ∷ entry.Claimed 0 1 ∷ entry.Claimed 0 2 ∷ entry.Claimed 0 3 ∷ entry.Claimed 0 4 ∷ entry.Claimed 0 5 ∷ entry.Claimed 0 6 ∷ entry.Claimed 0 7 ∷ entry.Claimed 0 8 ∷ entry.Claimed 0 9 ∷ entry.Claimed 0 10 ∷ entry.Claimed 0 11 ∷ entry.Claimed 0 12 ∷ entry.Claimed 0 13 ∷ entry.Claimed 0 14 ∷ entry.Claimed 0 15 ∷ entry.Claimed 0 16 ∷ entry.Claimed 0 17 ∷ entry.Claimed 0 18 ∷ entry.Claimed 0 19 ∷ entry.Claimed 0 20 ∷ entry.Claimed 0 21 ∷ entry.Claimed 0 22 ∷ entry.Claimed 0 23 ∷ entry.Claimed 0 24 ∷ entry.Claimed 0 25 ∷ entry.Claimed 0 26 ∷ entry.Claimed 0 27 ∷ entry.Claimed 0 28 ∷ entry.Batch 0 29 3 5 ∷ entry.Done 0 0 ∷ entry.Done 0 1 ∷ entry.Done 0 2 ∷ entry.Done 0 3 ∷ entry.Done 0 4 ∷ entry.Done 0 5 ∷ entry.Done 0 6 ∷ entry.Done 0 7 ∷ entry.Done 0 8 ∷ entry.Done 0 9 ∷ entry.Done 0 10 ∷ entry.Done 0 11 ∷ entry.Done 0 12 ∷ folded (counter.Context 0) 4 (negsuc 7) ∷ entry.Done 0 13 ∷ entry.Done 0 14 ∷ entry.Done 0 15 ∷ entry.Done 0 16 ∷ entry.Done 0 17 ∷ entry.Done 0 18 ∷ entry.Done 0 19 ∷ entry.Done 0 20 ∷ folded (counter.Context 0) 5 (negsuc 7) ∷ entry.Done 0 21 ∷ entry.Done 0 22 ∷ entry.Done 0 23 ∷ entry.Done 0 24 ∷ entry.Done 0 25 ∷ entry.Done 0 26 ∷ entry.Done 0 27 ∷ entry.Done 0 28 ∷ folded (counter.Context 0) 6 (negsuc 7) ∷ entry.Share 0 0 29 ∷ entry.Claimed 0 40 ∷ entry.Claimed 0 41 ∷ entry.Claimed 0 42 ∷ entry.Claimed 0 43 ∷ entry.Claimed 0 44 ∷ entry.Claimed 0 45 ∷ entry.Batch 0 6 5 6 ∷ entry.Done 0 40 ∷ entry.Done 0 41 ∷ entry.Done 0 42 ∷ entry.Done 0 43 ∷ entry.Done 0 44 ∷ entry.Done 0 45 ∷ folded (counter.Domain 0) 2 (negsuc 31) ∷ entry.Share 0 1 6 ∷ []) (check 0 0 1 (read 0 0 32 1 32 0 (pos 0) 0 0 1) None 0 (pos 0) 0 kind.Free 0 4 0 4 1 ∷ check 0 0 1 (read 0 0 32 1 32 0 (pos 0) 0 0 1) None 1 (pos 8) 0 kind.Free 0 4 0 4 1 ∷ check 0 0 1 (read 0 0 32 1 32 0 (pos 0) 0 0 1) None 1 (pos 8) 0 kind.Free 0 4 0 4 1 ∷ check 0 0 1 (read 0 0 32 1 32 0 (pos 0) 0 0 1) None 2 (pos 16) 0 kind.Free 0 4 0 4 1 ∷ check 0 0 1 (read 0 0 32 1 32 0 (pos 0) 0 0 1) None 2 (pos 16) 0 kind.Free 0 4 0 4 1 ∷ check 0 0 1 (read 0 0 32 1 32 0 (pos 0) 0 0 1) None 3 (pos 24) 0 kind.Free 0 4 0 4 1 ∷ check 0 0 1 (read 0 0 32 1 32 0 (pos 0) 0 0 1) None 3 (pos 24) 0 kind.Free 0 4 0 4 1 ∷ check 0 1 1 (read 0 0 32 1 32 1 (pos 32) 0 0 1) None 0 (pos 0) 0 kind.Wait 1 0 0 0 2 ∷ check 0 1 2 (read 0 0 32 1 32 1 (pos 32) 0 0 1) None 0 (pos 0) 0 kind.Exempt 1 1 0 0 3 ∷ check 0 1 3 (read 0 0 32 1 32 1 (pos 32) 0 0 1) None 0 (pos 0) 0 kind.Exempt 1 1 0 0 4 ∷ []) ([]) ∷ []; steps = []; bases = []; homes = []; left = []; strict = []; ending = ending.Done }

-- a journal of it, which breaks point 7 at line 68
abbrev pub case_is_exempt_2 : Journal
case_is_exempt_2 = record { timer = limits 0 1 32 1 32 ∷ []; cpus = part (entry.Write 0 0 true ∷ entry.Write 0 1 true ∷ entry.Write 0 2 true ∷ entry.Write 0 3 true ∷ entry.Check 0 ∷ entry.Write 0 4 true ∷ entry.Write 0 5 true ∷ entry.Write 0 6 true ∷ entry.Write 0 7 true ∷ folded (counter.Context 0) 1 (pos 8) ∷ entry.Check 1 ∷ entry.Write 0 8 true ∷ entry.Write 0 9 true ∷ entry.Write 0 10 true ∷ entry.Write 0 11 true ∷ entry.Check 2 ∷ entry.Write 0 12 true ∷ entry.Write 0 13 true ∷ entry.Write 0 14 true ∷ entry.Write 0 15 true ∷ folded (counter.Context 0) 2 (pos 8) ∷ entry.Check 3 ∷ entry.Write 0 16 true ∷ entry.Write 0 17 true ∷ entry.Write 0 18 true ∷ entry.Write 0 19 true ∷ entry.Check 4 ∷ entry.Write 0 20 true ∷ entry.Write 0 21 true ∷ entry.Write 0 22 true ∷ entry.Write 0 23 true ∷ folded (counter.Context 0) 3 (pos 8) ∷ entry.Check 5 ∷ entry.Write 0 24 true ∷ entry.Write 0 25 true ∷ entry.Write 0 26 true ∷ entry.Write 0 27 true ∷ entry.Check 6 ∷ entry.Write 0 28 true ∷ entry.Write 0 40 true ∷ entry.Write 0 41 true ∷ entry.Write 0 42 true ∷ folded (counter.Domain 0) 1 (pos 32) ∷ entry.Write 0 43 true ∷ entry.Check 7 ∷ entry.Write 0 44 true ∷ entry.Check 8 ∷ entry.Write 0 45 true ∷ entry.Check 9 ∷ entry.Claimed 0 0 ∷ entry.Claimed 0 1 ∷ entry.Claimed 0 2 ∷ entry.Claimed 0 3 ∷ entry.Claimed 0 4 ∷ entry.Claimed 0 5 ∷ entry.Claimed 0 6 ∷ entry.Claimed 0 7 ∷ entry.Claimed 0 8 ∷ entry.Claimed 0 9 ∷ entry.Claimed 0 10 ∷ entry.Claimed 0 11 ∷ entry.Claimed 0 12 ∷ entry.Claimed 0 13 ∷ entry.Claimed 0 14 ∷ entry.Claimed 0 15 ∷ entry.Claimed 0 16 ∷ entry.Claimed 0 17 ∷ entry.Claimed 0 18 ∷ entry.Claimed 0 19 ∷ entry.Claimed 0 20 ∷ entry.Claimed 0 21 ∷ entry.Claimed 0 22 ∷ entry.Claimed 0 23 ∷ entry.Claimed 0 24 ∷ entry.Claimed 0 25 ∷ entry.Claimed 0 26 ∷ entry.Claimed 0 27 ∷ entry.Claimed 0 28 ∷ entry.Batch 0 29 3 5 ∷ entry.Done 0 0 ∷ entry.Done 0 1 ∷ entry.Done 0 2 ∷ entry.Done 0 3 ∷ entry.Done 0 4 ∷ entry.Done 0 5 ∷ entry.Done 0 6 ∷ entry.Done 0 7 ∷ entry.Done 0 8 ∷ entry.Done 0 9 ∷ entry.Done 0 10 ∷ entry.Done 0 11 ∷ entry.Done 0 12 ∷ folded (counter.Context 0) 4 (negsuc 7) ∷ entry.Done 0 13 ∷ entry.Done 0 14 ∷ entry.Done 0 15 ∷ entry.Done 0 16 ∷ entry.Done 0 17 ∷ entry.Done 0 18 ∷ entry.Done 0 19 ∷ entry.Done 0 20 ∷ folded (counter.Context 0) 5 (negsuc 7) ∷ entry.Done 0 21 ∷ entry.Done 0 22 ∷ entry.Done 0 23 ∷ entry.Done 0 24 ∷ entry.Done 0 25 ∷ entry.Done 0 26 ∷ entry.Done 0 27 ∷ entry.Done 0 28 ∷ folded (counter.Context 0) 6 (negsuc 7) ∷ entry.Share 0 0 29 ∷ entry.Claimed 0 40 ∷ entry.Claimed 0 41 ∷ entry.Claimed 0 42 ∷ entry.Claimed 0 43 ∷ entry.Claimed 0 44 ∷ entry.Claimed 0 45 ∷ entry.Batch 0 6 5 6 ∷ entry.Done 0 40 ∷ entry.Done 0 41 ∷ entry.Done 0 42 ∷ entry.Done 0 43 ∷ entry.Done 0 44 ∷ entry.Done 0 45 ∷ folded (counter.Domain 0) 2 (negsuc 31) ∷ entry.Share 0 1 6 ∷ []) (check 0 0 1 (read 0 0 32 1 32 0 (pos 0) 0 0 1) None 0 (pos 0) 0 kind.Free 0 4 0 4 1 ∷ check 0 0 1 (read 0 0 32 1 32 0 (pos 0) 0 0 1) None 1 (pos 8) 0 kind.Free 0 4 0 4 1 ∷ check 0 0 1 (read 0 0 32 1 32 0 (pos 0) 0 0 1) None 1 (pos 8) 0 kind.Free 0 4 0 4 1 ∷ check 0 0 1 (read 0 0 32 1 32 0 (pos 0) 0 0 1) None 2 (pos 16) 0 kind.Free 0 4 0 4 1 ∷ check 0 0 1 (read 0 0 32 1 32 0 (pos 0) 0 0 1) None 2 (pos 16) 0 kind.Free 0 4 0 4 1 ∷ check 0 0 1 (read 0 0 32 1 32 0 (pos 0) 0 0 1) None 3 (pos 24) 0 kind.Free 0 4 0 4 1 ∷ check 0 0 1 (read 0 0 32 1 32 0 (pos 0) 0 0 1) None 3 (pos 24) 0 kind.Free 0 4 0 4 1 ∷ check 0 1 1 (read 0 0 32 1 32 1 (pos 32) 0 0 1) None 0 (pos 0) 0 kind.Exempt 1 1 0 0 2 ∷ check 0 1 2 (read 0 0 32 1 32 1 (pos 32) 0 0 1) None 0 (pos 0) 0 kind.Exempt 1 2 0 0 3 ∷ check 0 1 3 (read 0 0 32 1 32 1 (pos 32) 0 0 1) None 0 (pos 0) 0 kind.Exempt 1 1 0 0 4 ∷ []) ([]) ∷ []; steps = []; bases = []; homes = []; left = []; strict = []; ending = ending.Done }

-- the trace of the next journals
abbrev pub case_is_exempt_with_two_cpus_trace : Trace
case_is_exempt_with_two_cpus_trace = record { cpus = 2; cap = 1024; settings = settings 20 10 122880 4096; avail = avail 0 1000 ∷ []; devices = device 25600 0 100 ∷ []; cgroups = []; contexts = context 0 0 ∷ []; inodes = inode 0 0 34 ∷ []; tasks = on_cpu 0 ∷ []; flushers = flusher 0 0 ∷ []; actions = action.Rest 0 99 ∷ action.Write 0 0 0 34 ∷ []; order = []; halt = None }

-- a journal of it, which is lawful
abbrev pub case_is_exempt_with_two_cpus : Journal
case_is_exempt_with_two_cpus = record { timer = limits 0 1 30 1 30 ∷ []; cpus = part (entry.Write 0 0 true ∷ entry.Write 0 1 true ∷ entry.Write 0 2 true ∷ entry.Write 0 3 true ∷ entry.Write 0 4 true ∷ entry.Write 0 5 true ∷ entry.Write 0 6 true ∷ entry.Write 0 7 true ∷ entry.Write 0 8 true ∷ entry.Write 0 9 true ∷ entry.Write 0 10 true ∷ entry.Write 0 11 true ∷ entry.Write 0 12 true ∷ entry.Write 0 13 true ∷ entry.Write 0 14 true ∷ entry.Write 0 15 true ∷ folded (counter.Context 0) 1 (pos 16) ∷ entry.Check 0 ∷ entry.Write 0 16 true ∷ entry.Write 0 17 true ∷ entry.Write 0 18 true ∷ entry.Write 0 19 true ∷ entry.Check 1 ∷ entry.Write 0 20 true ∷ entry.Write 0 21 true ∷ entry.Write 0 22 true ∷ entry.Write 0 23 true ∷ entry.Check 2 ∷ entry.Write 0 24 true ∷ entry.Write 0 25 true ∷ entry.Write 0 26 true ∷ entry.Write 0 27 true ∷ entry.Check 3 ∷ entry.Write 0 28 true ∷ entry.Write 0 29 true ∷ entry.Write 0 30 true ∷ entry.Write 0 31 true ∷ folded (counter.Context 0) 2 (pos 16) ∷ folded (counter.Domain 0) 1 (pos 32) ∷ entry.Check 4 ∷ entry.Write 0 32 true ∷ entry.Claimed 0 0 ∷ entry.Check 5 ∷ entry.Claimed 0 1 ∷ entry.Claimed 0 2 ∷ entry.Claimed 0 3 ∷ entry.Claimed 0 4 ∷ entry.Claimed 0 5 ∷ entry.Claimed 0 6 ∷ entry.Claimed 0 7 ∷ entry.Claimed 0 8 ∷ entry.Claimed 0 9 ∷ entry.Claimed 0 10 ∷ entry.Claimed 0 11 ∷ entry.Claimed 0 12 ∷ entry.Claimed 0 13 ∷ entry.Claimed 0 14 ∷ entry.Claimed 0 15 ∷ entry.Claimed 0 16 ∷ entry.Claimed 0 17 ∷ entry.Claimed 0 18 ∷ entry.Claimed 0 19 ∷ entry.Claimed 0 20 ∷ entry.Claimed 0 21 ∷ entry.Claimed 0 22 ∷ entry.Claimed 0 23 ∷ entry.Claimed 0 24 ∷ entry.Claimed 0 25 ∷ entry.Claimed 0 26 ∷ entry.Claimed 0 27 ∷ entry.Claimed 0 28 ∷ entry.Claimed 0 29 ∷ entry.Claimed 0 30 ∷ entry.Claimed 0 31 ∷ entry.Claimed 0 32 ∷ entry.Batch 0 33 101 103 ∷ entry.Write 0 33 true ∷ entry.Check 6 ∷ entry.Done 0 0 ∷ entry.Done 0 1 ∷ entry.Done 0 2 ∷ entry.Done 0 3 ∷ entry.Done 0 4 ∷ entry.Done 0 5 ∷ entry.Done 0 6 ∷ entry.Done 0 7 ∷ entry.Done 0 8 ∷ entry.Done 0 9 ∷ entry.Done 0 10 ∷ entry.Done 0 11 ∷ entry.Done 0 12 ∷ entry.Done 0 13 ∷ entry.Done 0 14 ∷ entry.Done 0 15 ∷ entry.Done 0 16 ∷ entry.Done 0 17 ∷ folded (counter.Context 0) 3 (negsuc 15) ∷ entry.Done 0 18 ∷ entry.Done 0 19 ∷ entry.Done 0 20 ∷ entry.Done 0 21 ∷ entry.Done 0 22 ∷ entry.Done 0 23 ∷ entry.Done 0 24 ∷ entry.Done 0 25 ∷ entry.Done 0 26 ∷ entry.Done 0 27 ∷ entry.Done 0 28 ∷ entry.Done 0 29 ∷ entry.Done 0 30 ∷ entry.Done 0 31 ∷ entry.Done 0 32 ∷ entry.Share 0 0 33 ∷ entry.Claimed 0 33 ∷ entry.Batch 0 1 103 104 ∷ entry.Done 0 33 ∷ folded (counter.Context 0) 4 (negsuc 15) ∷ folded (counter.Domain 0) 2 (negsuc 31) ∷ entry.Share 0 0 1 ∷ []) (check 0 0 100 (read 0 0 30 1 30 0 (pos 0) 0 0 1) None 1 (pos 16) 0 kind.Free 0 4 0 4 100 ∷ check 0 0 100 (read 0 0 30 1 30 0 (pos 0) 0 0 1) None 1 (pos 16) 0 kind.Free 0 4 0 4 100 ∷ check 0 0 100 (read 0 0 30 1 30 0 (pos 0) 0 0 1) None 1 (pos 16) 0 kind.Free 0 4 0 4 100 ∷ check 0 0 100 (read 0 0 30 1 30 0 (pos 0) 0 0 1) None 1 (pos 16) 0 kind.Free 0 4 0 4 100 ∷ check 0 0 100 (read 0 0 30 1 30 1 (pos 32) 0 0 1) None 2 (pos 32) 0 kind.Exempt 1 1 0 0 101 ∷ check 0 0 101 (read 0 0 30 1 30 1 (pos 32) 0 0 1) None 2 (pos 32) 0 kind.Exempt 1 1 0 0 102 ∷ check 0 0 102 (read 0 0 30 1 30 1 (pos 32) 0 0 1) None 2 (pos 32) 0 kind.Exempt 1 1 0 0 103 ∷ []) ([]) ∷ part ([]) ([]) ([]) ∷ []; steps = []; bases = []; homes = []; left = []; strict = []; ending = ending.Done }

-- a journal of it, which breaks point 7 at line 53
abbrev pub case_is_exempt_with_two_cpus_1 : Journal
case_is_exempt_with_two_cpus_1 = record { timer = limits 0 1 30 1 30 ∷ []; cpus = part (entry.Write 0 0 true ∷ entry.Write 0 1 true ∷ entry.Write 0 2 true ∷ entry.Write 0 3 true ∷ entry.Write 0 4 true ∷ entry.Write 0 5 true ∷ entry.Write 0 6 true ∷ entry.Write 0 7 true ∷ entry.Write 0 8 true ∷ entry.Write 0 9 true ∷ entry.Write 0 10 true ∷ entry.Write 0 11 true ∷ entry.Write 0 12 true ∷ entry.Write 0 13 true ∷ entry.Write 0 14 true ∷ entry.Write 0 15 true ∷ folded (counter.Context 0) 1 (pos 16) ∷ entry.Check 0 ∷ entry.Write 0 16 true ∷ entry.Write 0 17 true ∷ entry.Write 0 18 true ∷ entry.Write 0 19 true ∷ entry.Check 1 ∷ entry.Write 0 20 true ∷ entry.Write 0 21 true ∷ entry.Write 0 22 true ∷ entry.Write 0 23 true ∷ entry.Check 2 ∷ entry.Write 0 24 true ∷ entry.Write 0 25 true ∷ entry.Write 0 26 true ∷ entry.Write 0 27 true ∷ entry.Check 3 ∷ entry.Write 0 28 true ∷ entry.Write 0 29 true ∷ entry.Write 0 30 true ∷ entry.Write 0 31 true ∷ folded (counter.Context 0) 2 (pos 16) ∷ folded (counter.Domain 0) 1 (pos 32) ∷ entry.Check 4 ∷ entry.Write 0 32 true ∷ entry.Claimed 0 0 ∷ entry.Check 5 ∷ entry.Claimed 0 1 ∷ entry.Claimed 0 2 ∷ entry.Claimed 0 3 ∷ entry.Claimed 0 4 ∷ entry.Claimed 0 5 ∷ entry.Claimed 0 6 ∷ entry.Claimed 0 7 ∷ entry.Claimed 0 8 ∷ entry.Claimed 0 9 ∷ entry.Claimed 0 10 ∷ entry.Claimed 0 11 ∷ entry.Claimed 0 12 ∷ entry.Claimed 0 13 ∷ entry.Claimed 0 14 ∷ entry.Claimed 0 15 ∷ entry.Claimed 0 16 ∷ entry.Claimed 0 17 ∷ entry.Claimed 0 18 ∷ entry.Claimed 0 19 ∷ entry.Claimed 0 20 ∷ entry.Claimed 0 21 ∷ entry.Claimed 0 22 ∷ entry.Claimed 0 23 ∷ entry.Claimed 0 24 ∷ entry.Claimed 0 25 ∷ entry.Claimed 0 26 ∷ entry.Claimed 0 27 ∷ entry.Claimed 0 28 ∷ entry.Claimed 0 29 ∷ entry.Claimed 0 30 ∷ entry.Claimed 0 31 ∷ entry.Claimed 0 32 ∷ entry.Batch 0 33 101 103 ∷ entry.Write 0 33 true ∷ entry.Check 6 ∷ entry.Done 0 0 ∷ entry.Done 0 1 ∷ entry.Done 0 2 ∷ entry.Done 0 3 ∷ entry.Done 0 4 ∷ entry.Done 0 5 ∷ entry.Done 0 6 ∷ entry.Done 0 7 ∷ entry.Done 0 8 ∷ entry.Done 0 9 ∷ entry.Done 0 10 ∷ entry.Done 0 11 ∷ entry.Done 0 12 ∷ entry.Done 0 13 ∷ entry.Done 0 14 ∷ entry.Done 0 15 ∷ entry.Done 0 16 ∷ entry.Done 0 17 ∷ folded (counter.Context 0) 3 (negsuc 15) ∷ entry.Done 0 18 ∷ entry.Done 0 19 ∷ entry.Done 0 20 ∷ entry.Done 0 21 ∷ entry.Done 0 22 ∷ entry.Done 0 23 ∷ entry.Done 0 24 ∷ entry.Done 0 25 ∷ entry.Done 0 26 ∷ entry.Done 0 27 ∷ entry.Done 0 28 ∷ entry.Done 0 29 ∷ entry.Done 0 30 ∷ entry.Done 0 31 ∷ entry.Done 0 32 ∷ entry.Share 0 0 33 ∷ entry.Claimed 0 33 ∷ entry.Batch 0 1 103 104 ∷ entry.Done 0 33 ∷ folded (counter.Context 0) 4 (negsuc 15) ∷ folded (counter.Domain 0) 2 (negsuc 31) ∷ entry.Share 0 0 1 ∷ []) (check 0 0 100 (read 0 0 30 1 30 0 (pos 0) 0 0 1) None 1 (pos 16) 0 kind.Free 0 4 0 4 100 ∷ check 0 0 100 (read 0 0 30 1 30 0 (pos 0) 0 0 1) None 1 (pos 16) 0 kind.Free 0 4 0 4 100 ∷ check 0 0 100 (read 0 0 30 1 30 0 (pos 0) 0 0 1) None 1 (pos 16) 0 kind.Free 0 4 0 4 100 ∷ check 0 0 100 (read 0 0 30 1 30 0 (pos 0) 0 0 1) None 1 (pos 16) 0 kind.Free 0 4 0 4 100 ∷ check 0 0 100 (read 0 0 30 1 30 1 (pos 32) 0 0 1) None 2 (pos 32) 0 kind.Wait 1 0 0 0 101 ∷ check 0 0 101 (read 0 0 30 1 30 1 (pos 32) 0 0 1) None 2 (pos 32) 0 kind.Exempt 1 1 0 0 102 ∷ check 0 0 102 (read 0 0 30 1 30 1 (pos 32) 0 0 1) None 2 (pos 32) 0 kind.Exempt 1 1 0 0 103 ∷ []) ([]) ∷ part ([]) ([]) ([]) ∷ []; steps = []; bases = []; homes = []; left = []; strict = []; ending = ending.Done }

-- the trace of the next journals
abbrev pub case_older_triple_trace : Trace
case_older_triple_trace = record { cpus = 1; cap = 1; settings = settings 20 10 0 0; avail = avail 0 100000 ∷ avail 100 50000 ∷ []; devices = device 25600 0 100 ∷ []; cgroups = []; contexts = context 0 0 ∷ []; inodes = inode 0 0 3 ∷ []; tasks = on_cpu 0 ∷ []; flushers = flusher 0 0 ∷ []; actions = action.Write 0 0 0 3 ∷ []; order = []; halt = None }

-- a journal of it, which is lawful
abbrev pub case_older_triple : Journal
case_older_triple = record { timer = limits 0 1 19995 9985 19995 ∷ limits 0 201 9997 4992 19683 ∷ []; cpus = part (entry.Write 0 0 true ∷ entry.Check 0 ∷ entry.Write 0 1 true ∷ entry.Check 1 ∷ entry.Est 0 ∷ entry.Write 0 2 true ∷ entry.Check 2 ∷ entry.Claimed 0 0 ∷ entry.Claimed 0 1 ∷ entry.Claimed 0 2 ∷ entry.Batch 0 3 201 202 ∷ entry.Done 0 0 ∷ entry.Done 0 1 ∷ entry.Done 0 2 ∷ entry.Share 0 0 3 ∷ []) (check 0 0 1 (read 0 0 19995 9985 19995 0 (pos 0) 0 0 1) None 0 (pos 0) 0 kind.Free 0 1 0 128 1 ∷ check 0 0 201 (read 0 0 19995 9985 19995 0 (pos 0) 0 0 1) None 0 (pos 0) 0 kind.Free 0 1 0 128 201 ∷ check 0 0 201 (read 0 1 9997 4992 19683 0 (pos 0) 0 0 1) None 0 (pos 0) 1 kind.Free 0 1 0 64 201 ∷ []) (estimate 0 1 24350 25600 25600 25600 0 0 201 ∷ []) ∷ []; steps = []; bases = []; homes = []; left = []; strict = []; ending = ending.Done }

-- a journal of it, which breaks point 4 at line 10
abbrev pub case_older_triple_1 : Journal
case_older_triple_1 = record { timer = limits 0 1 19995 9985 19995 ∷ limits 0 201 9997 4992 19683 ∷ []; cpus = part (entry.Write 0 0 true ∷ entry.Check 0 ∷ entry.Write 0 1 true ∷ entry.Check 1 ∷ entry.Est 0 ∷ entry.Write 0 2 true ∷ entry.Check 2 ∷ entry.Claimed 0 0 ∷ entry.Claimed 0 1 ∷ entry.Claimed 0 2 ∷ entry.Batch 0 3 201 202 ∷ entry.Done 0 0 ∷ entry.Done 0 1 ∷ entry.Done 0 2 ∷ entry.Share 0 0 3 ∷ []) (check 0 0 1 (read 0 1 9997 4992 19683 0 (pos 0) 0 0 1) None 0 (pos 0) 0 kind.Free 0 1 0 128 1 ∷ check 0 0 201 (read 0 0 19995 9985 19995 0 (pos 0) 0 0 1) None 0 (pos 0) 0 kind.Free 0 1 0 128 201 ∷ check 0 0 201 (read 0 1 9997 4992 19683 0 (pos 0) 0 0 1) None 0 (pos 0) 1 kind.Free 0 1 0 64 201 ∷ []) (estimate 0 1 24350 25600 25600 25600 0 0 201 ∷ []) ∷ []; steps = []; bases = []; homes = []; left = []; strict = []; ending = ending.Done }

-- a journal of it, which breaks point 4 at line 15
abbrev pub case_older_triple_2 : Journal
case_older_triple_2 = record { timer = limits 0 1 19995 9985 19995 ∷ limits 0 201 9997 4992 19683 ∷ []; cpus = part (entry.Write 0 0 true ∷ entry.Check 0 ∷ entry.Write 0 1 true ∷ entry.Check 1 ∷ entry.Est 0 ∷ entry.Write 0 2 true ∷ entry.Check 2 ∷ entry.Claimed 0 0 ∷ entry.Claimed 0 1 ∷ entry.Claimed 0 2 ∷ entry.Batch 0 3 201 202 ∷ entry.Done 0 0 ∷ entry.Done 0 1 ∷ entry.Done 0 2 ∷ entry.Share 0 0 3 ∷ []) (check 0 0 1 (read 0 0 19995 9985 19995 0 (pos 0) 0 0 1) None 0 (pos 0) 0 kind.Free 0 1 0 128 1 ∷ check 0 0 201 (read 0 0 19995 9985 19995 0 (pos 0) 0 0 1) None 0 (pos 0) 0 kind.Free 0 1 0 128 201 ∷ check 0 0 201 (read 0 0 9997 4992 19683 0 (pos 0) 0 0 1) None 0 (pos 0) 1 kind.Free 0 1 0 64 201 ∷ []) (estimate 0 1 24350 25600 25600 25600 0 0 201 ∷ []) ∷ []; steps = []; bases = []; homes = []; left = []; strict = []; ending = ending.Done }

-- a journal of it, which breaks point 4 at line 15
abbrev pub case_older_triple_3 : Journal
case_older_triple_3 = record { timer = limits 0 1 19995 9985 19995 ∷ limits 0 201 9997 4992 19683 ∷ []; cpus = part (entry.Write 0 0 true ∷ entry.Check 0 ∷ entry.Write 0 1 true ∷ entry.Check 1 ∷ entry.Est 0 ∷ entry.Write 0 2 true ∷ entry.Check 2 ∷ entry.Claimed 0 0 ∷ entry.Claimed 0 1 ∷ entry.Claimed 0 2 ∷ entry.Batch 0 3 201 202 ∷ entry.Done 0 0 ∷ entry.Done 0 1 ∷ entry.Done 0 2 ∷ entry.Share 0 0 3 ∷ []) (check 0 0 1 (read 0 0 19995 9985 19995 0 (pos 0) 0 0 1) None 0 (pos 0) 0 kind.Free 0 1 0 128 1 ∷ check 0 0 201 (read 0 0 19995 9985 19995 0 (pos 0) 0 0 1) None 0 (pos 0) 0 kind.Free 0 1 0 128 201 ∷ check 0 0 201 (read 0 2 9997 4992 19683 0 (pos 0) 0 0 1) None 0 (pos 0) 1 kind.Free 0 1 0 64 201 ∷ []) (estimate 0 1 24350 25600 25600 25600 0 0 201 ∷ []) ∷ []; steps = []; bases = []; homes = []; left = []; strict = []; ending = ending.Done }

-- a journal of it, which breaks point 7 at line 17
abbrev pub case_older_triple_4 : Journal
case_older_triple_4 = record { timer = limits 0 1 19995 9985 19995 ∷ limits 0 201 9997 4992 19683 ∷ []; cpus = part (entry.Write 0 0 true ∷ entry.Check 0 ∷ entry.Write 0 1 true ∷ entry.Check 1 ∷ entry.Est 0 ∷ entry.Write 0 2 true ∷ entry.Check 2 ∷ entry.Claimed 0 0 ∷ entry.Claimed 0 1 ∷ entry.Claimed 0 2 ∷ entry.Batch 0 3 201 202 ∷ entry.Done 0 0 ∷ entry.Done 0 1 ∷ entry.Done 0 2 ∷ entry.Share 0 0 3 ∷ []) (check 0 0 1 (read 0 0 19995 9985 19995 0 (pos 0) 0 0 1) None 0 (pos 0) 0 kind.Free 0 1 0 128 1 ∷ check 0 0 201 (read 0 0 19995 9985 19995 0 (pos 0) 0 0 1) None 0 (pos 0) 0 kind.Free 0 1 0 128 201 ∷ check 0 0 201 (read 0 0 19995 9985 19995 0 (pos 0) 0 0 1) None 0 (pos 0) 1 kind.Free 0 1 0 64 201 ∷ []) (estimate 0 1 24350 25600 25600 25600 0 0 201 ∷ []) ∷ []; steps = []; bases = []; homes = []; left = []; strict = []; ending = ending.Done }

-- the trace of the next journals
abbrev pub case_rests_after_three_pages_trace : Trace
case_rests_after_three_pages_trace = record { cpus = 1; cap = 1024; settings = settings 20 10 0 0; avail = avail 0 100000 ∷ []; devices = device 25600 0 100 ∷ []; cgroups = []; contexts = context 0 0 ∷ []; inodes = inode 0 0 7 ∷ []; tasks = (record (on_cpu 0) { pace = Some (record { pages = 3; ticks = 20 }) }) ∷ []; flushers = flusher 0 0 ∷ []; actions = action.Write 0 0 0 5 ∷ action.Write 0 0 5 2 ∷ []; order = []; halt = None }

-- a journal of it, which is lawful
abbrev pub case_rests_after_three_pages : Journal
case_rests_after_three_pages = record { timer = limits 0 1 19995 9985 19995 ∷ []; cpus = part (entry.Write 0 0 true ∷ entry.Write 0 1 true ∷ entry.Write 0 2 true ∷ entry.Write 0 3 true ∷ entry.Write 0 4 true ∷ entry.Write 0 5 true ∷ entry.Write 0 6 true ∷ entry.Claimed 0 0 ∷ entry.Claimed 0 1 ∷ entry.Claimed 0 2 ∷ entry.Claimed 0 3 ∷ entry.Claimed 0 4 ∷ entry.Claimed 0 5 ∷ entry.Claimed 0 6 ∷ entry.Batch 0 7 41 42 ∷ entry.Done 0 0 ∷ entry.Done 0 1 ∷ entry.Done 0 2 ∷ entry.Done 0 3 ∷ entry.Done 0 4 ∷ entry.Done 0 5 ∷ entry.Done 0 6 ∷ entry.Share 0 0 7 ∷ []) ([]) ([]) ∷ []; steps = []; bases = []; homes = []; left = []; strict = []; ending = ending.Done }

-- a journal of it, which breaks point 12 at line 7
abbrev pub case_rests_after_three_pages_1 : Journal
case_rests_after_three_pages_1 = record { timer = limits 0 1 19995 9985 19995 ∷ []; cpus = part (entry.Write 0 0 true ∷ entry.Write 0 1 true ∷ entry.Write 0 2 true ∷ entry.Write 0 4 true ∷ entry.Write 0 5 true ∷ entry.Write 0 6 true ∷ entry.Claimed 0 0 ∷ entry.Claimed 0 1 ∷ entry.Claimed 0 2 ∷ entry.Claimed 0 3 ∷ entry.Claimed 0 4 ∷ entry.Claimed 0 5 ∷ entry.Claimed 0 6 ∷ entry.Batch 0 7 41 42 ∷ entry.Done 0 0 ∷ entry.Done 0 1 ∷ entry.Done 0 2 ∷ entry.Done 0 3 ∷ entry.Done 0 4 ∷ entry.Done 0 5 ∷ entry.Done 0 6 ∷ entry.Share 0 0 7 ∷ []) ([]) ([]) ∷ []; steps = []; bases = []; homes = []; left = []; strict = []; ending = ending.Done }

-- a journal of it, which breaks point 12 at line 7
abbrev pub case_rests_after_three_pages_2 : Journal
case_rests_after_three_pages_2 = record { timer = limits 0 1 19995 9985 19995 ∷ []; cpus = part (entry.Write 0 0 true ∷ entry.Write 0 1 true ∷ entry.Write 0 2 true ∷ entry.Write 0 2 false ∷ entry.Write 0 3 true ∷ entry.Write 0 4 true ∷ entry.Write 0 5 true ∷ entry.Write 0 6 true ∷ entry.Claimed 0 0 ∷ entry.Claimed 0 1 ∷ entry.Claimed 0 2 ∷ entry.Claimed 0 3 ∷ entry.Claimed 0 4 ∷ entry.Claimed 0 5 ∷ entry.Claimed 0 6 ∷ entry.Batch 0 7 41 42 ∷ entry.Done 0 0 ∷ entry.Done 0 1 ∷ entry.Done 0 2 ∷ entry.Done 0 3 ∷ entry.Done 0 4 ∷ entry.Done 0 5 ∷ entry.Done 0 6 ∷ entry.Share 0 0 7 ∷ []) ([]) ([]) ∷ []; steps = []; bases = []; homes = []; left = []; strict = []; ending = ending.Done }

-- a journal of it, which breaks point 16 at line 26
abbrev pub case_rests_after_three_pages_3 : Journal
case_rests_after_three_pages_3 = record { timer = limits 0 1 19995 9985 19995 ∷ []; cpus = part (entry.Write 0 0 true ∷ entry.Write 0 1 true ∷ entry.Write 0 2 true ∷ entry.Write 0 3 true ∷ entry.Write 0 4 true ∷ entry.Write 0 5 true ∷ entry.Claimed 0 0 ∷ entry.Claimed 0 1 ∷ entry.Claimed 0 2 ∷ entry.Claimed 0 3 ∷ entry.Claimed 0 4 ∷ entry.Claimed 0 5 ∷ entry.Batch 0 6 41 42 ∷ entry.Done 0 0 ∷ entry.Done 0 1 ∷ entry.Done 0 2 ∷ entry.Done 0 3 ∷ entry.Done 0 4 ∷ entry.Done 0 5 ∷ entry.Share 0 0 6 ∷ []) ([]) ([]) ∷ []; steps = []; bases = []; homes = []; left = []; strict = []; ending = ending.Done }

-- the trace of the next journals
abbrev pub case_rests_by_its_pace_trace : Trace
case_rests_by_its_pace_trace = record { cpus = 1; cap = 1024; settings = settings 20 10 143360 4096; avail = avail 0 1000 ∷ []; devices = device 25600 0 100 ∷ []; cgroups = []; contexts = given_context 0 0 1000 1000 3200 ∷ []; inodes = inode 0 0 40 ∷ []; tasks = (record (on_cpu 0) { pace = Some (record { pages = 4; ticks = 3 }) }) ∷ []; flushers = flusher 0 0 ∷ []; actions = action.Write 0 0 0 40 ∷ []; order = []; halt = None }

-- a journal of it, which is lawful
abbrev pub case_rests_by_its_pace : Journal
case_rests_by_its_pace = record { timer = limits 0 1 35 1 35 ∷ []; cpus = part (entry.Write 0 0 true ∷ entry.Write 0 1 true ∷ entry.Write 0 2 true ∷ entry.Write 0 3 true ∷ entry.Write 0 4 true ∷ entry.Write 0 5 true ∷ entry.Write 0 6 true ∷ entry.Write 0 7 true ∷ folded (counter.Context 0) 1 (pos 8) ∷ entry.Write 0 8 true ∷ entry.Write 0 9 true ∷ entry.Write 0 10 true ∷ entry.Write 0 11 true ∷ entry.Write 0 12 true ∷ entry.Write 0 13 true ∷ entry.Write 0 14 true ∷ entry.Write 0 15 true ∷ folded (counter.Context 0) 2 (pos 8) ∷ entry.Check 0 ∷ entry.Write 0 16 true ∷ entry.Write 0 17 true ∷ entry.Write 0 18 true ∷ entry.Write 0 19 true ∷ entry.Check 1 ∷ entry.Write 0 20 true ∷ entry.Write 0 21 true ∷ entry.Write 0 22 true ∷ entry.Write 0 23 true ∷ folded (counter.Context 0) 3 (pos 8) ∷ entry.Check 2 ∷ entry.Write 0 24 true ∷ entry.Write 0 25 true ∷ entry.Write 0 26 true ∷ entry.Write 0 27 true ∷ entry.Check 3 ∷ entry.Write 0 28 true ∷ entry.Write 0 29 true ∷ entry.Write 0 30 true ∷ entry.Write 0 31 true ∷ folded (counter.Context 0) 4 (pos 8) ∷ folded (counter.Domain 0) 1 (pos 32) ∷ entry.Check 4 ∷ entry.Write 0 32 true ∷ entry.Write 0 33 true ∷ entry.Write 0 34 true ∷ entry.Write 0 35 true ∷ entry.Check 5 ∷ entry.Write 0 36 true ∷ entry.Write 0 37 true ∷ entry.Check 6 ∷ entry.Write 0 38 true ∷ entry.Write 0 39 true ∷ folded (counter.Context 0) 5 (pos 8) ∷ entry.Check 7 ∷ entry.Claimed 0 0 ∷ entry.Claimed 0 1 ∷ entry.Claimed 0 2 ∷ entry.Claimed 0 3 ∷ entry.Claimed 0 4 ∷ entry.Claimed 0 5 ∷ entry.Claimed 0 6 ∷ entry.Claimed 0 7 ∷ entry.Claimed 0 8 ∷ entry.Claimed 0 9 ∷ entry.Claimed 0 10 ∷ entry.Claimed 0 11 ∷ entry.Claimed 0 12 ∷ entry.Claimed 0 13 ∷ entry.Claimed 0 14 ∷ entry.Claimed 0 15 ∷ entry.Claimed 0 16 ∷ entry.Claimed 0 17 ∷ entry.Claimed 0 18 ∷ entry.Claimed 0 19 ∷ entry.Claimed 0 20 ∷ entry.Claimed 0 21 ∷ entry.Claimed 0 22 ∷ entry.Claimed 0 23 ∷ entry.Claimed 0 24 ∷ entry.Claimed 0 25 ∷ entry.Claimed 0 26 ∷ entry.Claimed 0 27 ∷ entry.Claimed 0 28 ∷ entry.Claimed 0 29 ∷ entry.Claimed 0 30 ∷ entry.Claimed 0 31 ∷ entry.Claimed 0 32 ∷ entry.Claimed 0 33 ∷ entry.Claimed 0 34 ∷ entry.Claimed 0 35 ∷ entry.Claimed 0 36 ∷ entry.Claimed 0 37 ∷ entry.Claimed 0 38 ∷ entry.Claimed 0 39 ∷ entry.Batch 0 40 33 35 ∷ entry.Done 0 0 ∷ entry.Done 0 1 ∷ entry.Done 0 2 ∷ entry.Done 0 3 ∷ entry.Done 0 4 ∷ entry.Done 0 5 ∷ entry.Done 0 6 ∷ entry.Done 0 7 ∷ folded (counter.Context 0) 6 (negsuc 7) ∷ entry.Done 0 8 ∷ entry.Done 0 9 ∷ entry.Done 0 10 ∷ entry.Done 0 11 ∷ entry.Done 0 12 ∷ entry.Done 0 13 ∷ entry.Done 0 14 ∷ entry.Done 0 15 ∷ folded (counter.Context 0) 7 (negsuc 7) ∷ entry.Done 0 16 ∷ entry.Done 0 17 ∷ entry.Done 0 18 ∷ entry.Done 0 19 ∷ entry.Done 0 20 ∷ entry.Done 0 21 ∷ entry.Done 0 22 ∷ entry.Done 0 23 ∷ folded (counter.Context 0) 8 (negsuc 7) ∷ entry.Done 0 24 ∷ entry.Done 0 25 ∷ entry.Done 0 26 ∷ entry.Done 0 27 ∷ entry.Done 0 28 ∷ entry.Done 0 29 ∷ entry.Done 0 30 ∷ entry.Done 0 31 ∷ folded (counter.Context 0) 9 (negsuc 7) ∷ entry.Done 0 32 ∷ entry.Done 0 33 ∷ entry.Done 0 34 ∷ entry.Done 0 35 ∷ entry.Done 0 36 ∷ entry.Done 0 37 ∷ entry.Done 0 38 ∷ entry.Done 0 39 ∷ folded (counter.Context 0) 10 (negsuc 7) ∷ folded (counter.Domain 0) 2 (negsuc 31) ∷ entry.Share 0 0 40 ∷ []) (check 0 0 10 (read 0 0 35 1 35 0 (pos 0) 0 0 1) None 2 (pos 16) 0 kind.Free 0 4 0 4 10 ∷ check 0 0 13 (read 0 0 35 1 35 0 (pos 0) 0 0 1) None 2 (pos 16) 0 kind.Free 0 4 0 4 13 ∷ check 0 0 16 (read 0 0 35 1 35 0 (pos 0) 0 0 1) None 3 (pos 24) 0 kind.Free 0 4 0 4 16 ∷ check 0 0 19 (read 0 0 35 1 35 0 (pos 0) 0 0 1) None 3 (pos 24) 0 kind.Free 0 4 0 4 19 ∷ check 0 0 22 (read 0 0 35 1 35 1 (pos 32) 0 0 1) None 4 (pos 32) 0 kind.Go 0 4 0 4 26 ∷ check 0 0 25 (read 0 0 35 1 35 1 (pos 32) 0 0 1) None 4 (pos 32) 0 kind.Go 5 2 0 2 33 ∷ check 0 0 33 (read 0 0 35 1 35 1 (pos 32) 0 0 1) None 4 (pos 32) 0 kind.Go 0 2 0 2 36 ∷ check 0 0 33 (read 0 0 35 1 35 1 (pos 32) 0 0 1) None 5 (pos 40) 0 kind.Go 6 3 0 3 39 ∷ []) ([]) ∷ []; steps = []; bases = []; homes = []; left = []; strict = []; ending = ending.Done }

-- a journal of it, which breaks point 7 at line 67
abbrev pub case_rests_by_its_pace_1 : Journal
case_rests_by_its_pace_1 = record { timer = limits 0 1 35 1 35 ∷ []; cpus = part (entry.Write 0 0 true ∷ entry.Write 0 1 true ∷ entry.Write 0 2 true ∷ entry.Write 0 3 true ∷ entry.Write 0 4 true ∷ entry.Write 0 5 true ∷ entry.Write 0 6 true ∷ entry.Write 0 7 true ∷ folded (counter.Context 0) 1 (pos 8) ∷ entry.Write 0 8 true ∷ entry.Write 0 9 true ∷ entry.Write 0 10 true ∷ entry.Write 0 11 true ∷ entry.Write 0 12 true ∷ entry.Write 0 13 true ∷ entry.Write 0 14 true ∷ entry.Write 0 15 true ∷ folded (counter.Context 0) 2 (pos 8) ∷ entry.Check 0 ∷ entry.Write 0 16 true ∷ entry.Write 0 17 true ∷ entry.Write 0 18 true ∷ entry.Write 0 19 true ∷ entry.Check 1 ∷ entry.Write 0 20 true ∷ entry.Write 0 21 true ∷ entry.Write 0 22 true ∷ entry.Write 0 23 true ∷ folded (counter.Context 0) 3 (pos 8) ∷ entry.Check 2 ∷ entry.Write 0 24 true ∷ entry.Write 0 25 true ∷ entry.Write 0 26 true ∷ entry.Write 0 27 true ∷ entry.Check 3 ∷ entry.Write 0 28 true ∷ entry.Write 0 29 true ∷ entry.Write 0 30 true ∷ entry.Write 0 31 true ∷ folded (counter.Context 0) 4 (pos 8) ∷ folded (counter.Domain 0) 1 (pos 32) ∷ entry.Check 4 ∷ entry.Write 0 32 true ∷ entry.Write 0 33 true ∷ entry.Write 0 34 true ∷ entry.Write 0 35 true ∷ entry.Check 5 ∷ entry.Write 0 36 true ∷ entry.Write 0 37 true ∷ entry.Check 6 ∷ entry.Write 0 38 true ∷ entry.Write 0 39 true ∷ folded (counter.Context 0) 5 (pos 8) ∷ entry.Check 7 ∷ entry.Claimed 0 0 ∷ entry.Claimed 0 1 ∷ entry.Claimed 0 2 ∷ entry.Claimed 0 3 ∷ entry.Claimed 0 4 ∷ entry.Claimed 0 5 ∷ entry.Claimed 0 6 ∷ entry.Claimed 0 7 ∷ entry.Claimed 0 8 ∷ entry.Claimed 0 9 ∷ entry.Claimed 0 10 ∷ entry.Claimed 0 11 ∷ entry.Claimed 0 12 ∷ entry.Claimed 0 13 ∷ entry.Claimed 0 14 ∷ entry.Claimed 0 15 ∷ entry.Claimed 0 16 ∷ entry.Claimed 0 17 ∷ entry.Claimed 0 18 ∷ entry.Claimed 0 19 ∷ entry.Claimed 0 20 ∷ entry.Claimed 0 21 ∷ entry.Claimed 0 22 ∷ entry.Claimed 0 23 ∷ entry.Claimed 0 24 ∷ entry.Claimed 0 25 ∷ entry.Claimed 0 26 ∷ entry.Claimed 0 27 ∷ entry.Claimed 0 28 ∷ entry.Claimed 0 29 ∷ entry.Claimed 0 30 ∷ entry.Claimed 0 31 ∷ entry.Claimed 0 32 ∷ entry.Claimed 0 33 ∷ entry.Claimed 0 34 ∷ entry.Claimed 0 35 ∷ entry.Claimed 0 36 ∷ entry.Claimed 0 37 ∷ entry.Claimed 0 38 ∷ entry.Claimed 0 39 ∷ entry.Batch 0 40 33 35 ∷ entry.Done 0 0 ∷ entry.Done 0 1 ∷ entry.Done 0 2 ∷ entry.Done 0 3 ∷ entry.Done 0 4 ∷ entry.Done 0 5 ∷ entry.Done 0 6 ∷ entry.Done 0 7 ∷ folded (counter.Context 0) 6 (negsuc 7) ∷ entry.Done 0 8 ∷ entry.Done 0 9 ∷ entry.Done 0 10 ∷ entry.Done 0 11 ∷ entry.Done 0 12 ∷ entry.Done 0 13 ∷ entry.Done 0 14 ∷ entry.Done 0 15 ∷ folded (counter.Context 0) 7 (negsuc 7) ∷ entry.Done 0 16 ∷ entry.Done 0 17 ∷ entry.Done 0 18 ∷ entry.Done 0 19 ∷ entry.Done 0 20 ∷ entry.Done 0 21 ∷ entry.Done 0 22 ∷ entry.Done 0 23 ∷ folded (counter.Context 0) 8 (negsuc 7) ∷ entry.Done 0 24 ∷ entry.Done 0 25 ∷ entry.Done 0 26 ∷ entry.Done 0 27 ∷ entry.Done 0 28 ∷ entry.Done 0 29 ∷ entry.Done 0 30 ∷ entry.Done 0 31 ∷ folded (counter.Context 0) 9 (negsuc 7) ∷ entry.Done 0 32 ∷ entry.Done 0 33 ∷ entry.Done 0 34 ∷ entry.Done 0 35 ∷ entry.Done 0 36 ∷ entry.Done 0 37 ∷ entry.Done 0 38 ∷ entry.Done 0 39 ∷ folded (counter.Context 0) 10 (negsuc 7) ∷ folded (counter.Domain 0) 2 (negsuc 31) ∷ entry.Share 0 0 40 ∷ []) (check 0 0 10 (read 0 0 35 1 35 0 (pos 0) 0 0 1) None 2 (pos 16) 0 kind.Free 0 4 0 4 10 ∷ check 0 0 13 (read 0 0 35 1 35 0 (pos 0) 0 0 1) None 2 (pos 16) 0 kind.Free 0 4 0 4 13 ∷ check 0 0 16 (read 0 0 35 1 35 0 (pos 0) 0 0 1) None 3 (pos 24) 0 kind.Free 0 4 0 4 16 ∷ check 0 0 19 (read 0 0 35 1 35 0 (pos 0) 0 0 1) None 3 (pos 24) 0 kind.Free 0 4 0 4 19 ∷ check 0 0 22 (read 0 0 35 1 35 1 (pos 32) 0 0 1) None 4 (pos 32) 0 kind.Go 0 4 0 4 26 ∷ check 0 0 25 (read 0 0 35 1 35 1 (pos 32) 0 0 1) None 4 (pos 32) 0 kind.Go 5 2 0 2 33 ∷ check 0 0 30 (read 0 0 35 1 35 1 (pos 32) 0 0 1) None 4 (pos 32) 0 kind.Go 0 2 0 2 36 ∷ check 0 0 33 (read 0 0 35 1 35 1 (pos 32) 0 0 1) None 5 (pos 40) 0 kind.Go 6 3 0 3 39 ∷ []) ([]) ∷ []; steps = []; bases = []; homes = []; left = []; strict = []; ending = ending.Done }

-- a journal of it, which breaks point 7 at line 67
abbrev pub case_rests_by_its_pace_2 : Journal
case_rests_by_its_pace_2 = record { timer = limits 0 1 35 1 35 ∷ []; cpus = part (entry.Write 0 0 true ∷ entry.Write 0 1 true ∷ entry.Write 0 2 true ∷ entry.Write 0 3 true ∷ entry.Write 0 4 true ∷ entry.Write 0 5 true ∷ entry.Write 0 6 true ∷ entry.Write 0 7 true ∷ folded (counter.Context 0) 1 (pos 8) ∷ entry.Write 0 8 true ∷ entry.Write 0 9 true ∷ entry.Write 0 10 true ∷ entry.Write 0 11 true ∷ entry.Write 0 12 true ∷ entry.Write 0 13 true ∷ entry.Write 0 14 true ∷ entry.Write 0 15 true ∷ folded (counter.Context 0) 2 (pos 8) ∷ entry.Check 0 ∷ entry.Write 0 16 true ∷ entry.Write 0 17 true ∷ entry.Write 0 18 true ∷ entry.Write 0 19 true ∷ entry.Check 1 ∷ entry.Write 0 20 true ∷ entry.Write 0 21 true ∷ entry.Write 0 22 true ∷ entry.Write 0 23 true ∷ folded (counter.Context 0) 3 (pos 8) ∷ entry.Check 2 ∷ entry.Write 0 24 true ∷ entry.Write 0 25 true ∷ entry.Write 0 26 true ∷ entry.Write 0 27 true ∷ entry.Check 3 ∷ entry.Write 0 28 true ∷ entry.Write 0 29 true ∷ entry.Write 0 30 true ∷ entry.Write 0 31 true ∷ folded (counter.Context 0) 4 (pos 8) ∷ folded (counter.Domain 0) 1 (pos 32) ∷ entry.Check 4 ∷ entry.Write 0 32 true ∷ entry.Write 0 33 true ∷ entry.Write 0 34 true ∷ entry.Write 0 35 true ∷ entry.Check 5 ∷ entry.Write 0 36 true ∷ entry.Write 0 37 true ∷ entry.Check 6 ∷ entry.Write 0 38 true ∷ entry.Write 0 39 true ∷ folded (counter.Context 0) 5 (pos 8) ∷ entry.Check 7 ∷ entry.Claimed 0 0 ∷ entry.Claimed 0 1 ∷ entry.Claimed 0 2 ∷ entry.Claimed 0 3 ∷ entry.Claimed 0 4 ∷ entry.Claimed 0 5 ∷ entry.Claimed 0 6 ∷ entry.Claimed 0 7 ∷ entry.Claimed 0 8 ∷ entry.Claimed 0 9 ∷ entry.Claimed 0 10 ∷ entry.Claimed 0 11 ∷ entry.Claimed 0 12 ∷ entry.Claimed 0 13 ∷ entry.Claimed 0 14 ∷ entry.Claimed 0 15 ∷ entry.Claimed 0 16 ∷ entry.Claimed 0 17 ∷ entry.Claimed 0 18 ∷ entry.Claimed 0 19 ∷ entry.Claimed 0 20 ∷ entry.Claimed 0 21 ∷ entry.Claimed 0 22 ∷ entry.Claimed 0 23 ∷ entry.Claimed 0 24 ∷ entry.Claimed 0 25 ∷ entry.Claimed 0 26 ∷ entry.Claimed 0 27 ∷ entry.Claimed 0 28 ∷ entry.Claimed 0 29 ∷ entry.Claimed 0 30 ∷ entry.Claimed 0 31 ∷ entry.Claimed 0 32 ∷ entry.Claimed 0 33 ∷ entry.Claimed 0 34 ∷ entry.Claimed 0 35 ∷ entry.Claimed 0 36 ∷ entry.Claimed 0 37 ∷ entry.Claimed 0 38 ∷ entry.Claimed 0 39 ∷ entry.Batch 0 40 33 35 ∷ entry.Done 0 0 ∷ entry.Done 0 1 ∷ entry.Done 0 2 ∷ entry.Done 0 3 ∷ entry.Done 0 4 ∷ entry.Done 0 5 ∷ entry.Done 0 6 ∷ entry.Done 0 7 ∷ folded (counter.Context 0) 6 (negsuc 7) ∷ entry.Done 0 8 ∷ entry.Done 0 9 ∷ entry.Done 0 10 ∷ entry.Done 0 11 ∷ entry.Done 0 12 ∷ entry.Done 0 13 ∷ entry.Done 0 14 ∷ entry.Done 0 15 ∷ folded (counter.Context 0) 7 (negsuc 7) ∷ entry.Done 0 16 ∷ entry.Done 0 17 ∷ entry.Done 0 18 ∷ entry.Done 0 19 ∷ entry.Done 0 20 ∷ entry.Done 0 21 ∷ entry.Done 0 22 ∷ entry.Done 0 23 ∷ folded (counter.Context 0) 8 (negsuc 7) ∷ entry.Done 0 24 ∷ entry.Done 0 25 ∷ entry.Done 0 26 ∷ entry.Done 0 27 ∷ entry.Done 0 28 ∷ entry.Done 0 29 ∷ entry.Done 0 30 ∷ entry.Done 0 31 ∷ folded (counter.Context 0) 9 (negsuc 7) ∷ entry.Done 0 32 ∷ entry.Done 0 33 ∷ entry.Done 0 34 ∷ entry.Done 0 35 ∷ entry.Done 0 36 ∷ entry.Done 0 37 ∷ entry.Done 0 38 ∷ entry.Done 0 39 ∷ folded (counter.Context 0) 10 (negsuc 7) ∷ folded (counter.Domain 0) 2 (negsuc 31) ∷ entry.Share 0 0 40 ∷ []) (check 0 0 10 (read 0 0 35 1 35 0 (pos 0) 0 0 1) None 2 (pos 16) 0 kind.Free 0 4 0 4 10 ∷ check 0 0 13 (read 0 0 35 1 35 0 (pos 0) 0 0 1) None 2 (pos 16) 0 kind.Free 0 4 0 4 13 ∷ check 0 0 16 (read 0 0 35 1 35 0 (pos 0) 0 0 1) None 3 (pos 24) 0 kind.Free 0 4 0 4 16 ∷ check 0 0 19 (read 0 0 35 1 35 0 (pos 0) 0 0 1) None 3 (pos 24) 0 kind.Free 0 4 0 4 19 ∷ check 0 0 22 (read 0 0 35 1 35 1 (pos 32) 0 0 1) None 4 (pos 32) 0 kind.Go 0 4 0 4 26 ∷ check 0 0 25 (read 0 0 35 1 35 1 (pos 32) 0 0 1) None 4 (pos 32) 0 kind.Go 5 2 0 2 33 ∷ check 0 0 33 (read 0 0 35 1 35 1 (pos 32) 0 0 1) None 4 (pos 32) 0 kind.Go 5 2 0 2 36 ∷ check 0 0 33 (read 0 0 35 1 35 1 (pos 32) 0 0 1) None 5 (pos 40) 0 kind.Go 6 3 0 3 39 ∷ []) ([]) ∷ []; steps = []; bases = []; homes = []; left = []; strict = []; ending = ending.Done }

-- a journal of it, which breaks point 8 at line 29
abbrev pub case_rests_by_its_pace_3 : Journal
case_rests_by_its_pace_3 = record { timer = limits 0 1 35 1 35 ∷ []; cpus = part (entry.Write 0 0 true ∷ entry.Write 0 1 true ∷ entry.Write 0 2 true ∷ entry.Write 0 3 true ∷ entry.Write 0 4 true ∷ entry.Write 0 5 true ∷ entry.Write 0 6 true ∷ entry.Write 0 7 true ∷ folded (counter.Context 0) 1 (pos 8) ∷ entry.Write 0 8 true ∷ entry.Write 0 9 true ∷ entry.Write 0 10 true ∷ entry.Write 0 11 true ∷ entry.Write 0 12 true ∷ entry.Write 0 13 true ∷ entry.Write 0 14 true ∷ entry.Write 0 15 true ∷ folded (counter.Context 0) 2 (pos 8) ∷ entry.Check 0 ∷ entry.Write 0 16 true ∷ entry.Write 0 17 true ∷ entry.Write 0 18 true ∷ entry.Write 0 19 true ∷ entry.Write 0 20 true ∷ entry.Write 0 21 true ∷ entry.Write 0 22 true ∷ entry.Write 0 23 true ∷ folded (counter.Context 0) 3 (pos 8) ∷ entry.Check 1 ∷ entry.Write 0 24 true ∷ entry.Write 0 25 true ∷ entry.Write 0 26 true ∷ entry.Write 0 27 true ∷ entry.Check 2 ∷ entry.Write 0 28 true ∷ entry.Write 0 29 true ∷ entry.Write 0 30 true ∷ entry.Write 0 31 true ∷ folded (counter.Context 0) 4 (pos 8) ∷ folded (counter.Domain 0) 1 (pos 32) ∷ entry.Check 3 ∷ entry.Write 0 32 true ∷ entry.Write 0 33 true ∷ entry.Write 0 34 true ∷ entry.Write 0 35 true ∷ entry.Check 4 ∷ entry.Write 0 36 true ∷ entry.Write 0 37 true ∷ entry.Check 5 ∷ entry.Write 0 38 true ∷ entry.Write 0 39 true ∷ folded (counter.Context 0) 5 (pos 8) ∷ entry.Check 6 ∷ entry.Claimed 0 0 ∷ entry.Claimed 0 1 ∷ entry.Claimed 0 2 ∷ entry.Claimed 0 3 ∷ entry.Claimed 0 4 ∷ entry.Claimed 0 5 ∷ entry.Claimed 0 6 ∷ entry.Claimed 0 7 ∷ entry.Claimed 0 8 ∷ entry.Claimed 0 9 ∷ entry.Claimed 0 10 ∷ entry.Claimed 0 11 ∷ entry.Claimed 0 12 ∷ entry.Claimed 0 13 ∷ entry.Claimed 0 14 ∷ entry.Claimed 0 15 ∷ entry.Claimed 0 16 ∷ entry.Claimed 0 17 ∷ entry.Claimed 0 18 ∷ entry.Claimed 0 19 ∷ entry.Claimed 0 20 ∷ entry.Claimed 0 21 ∷ entry.Claimed 0 22 ∷ entry.Claimed 0 23 ∷ entry.Claimed 0 24 ∷ entry.Claimed 0 25 ∷ entry.Claimed 0 26 ∷ entry.Claimed 0 27 ∷ entry.Claimed 0 28 ∷ entry.Claimed 0 29 ∷ entry.Claimed 0 30 ∷ entry.Claimed 0 31 ∷ entry.Claimed 0 32 ∷ entry.Claimed 0 33 ∷ entry.Claimed 0 34 ∷ entry.Claimed 0 35 ∷ entry.Claimed 0 36 ∷ entry.Claimed 0 37 ∷ entry.Claimed 0 38 ∷ entry.Claimed 0 39 ∷ entry.Batch 0 40 33 35 ∷ entry.Done 0 0 ∷ entry.Done 0 1 ∷ entry.Done 0 2 ∷ entry.Done 0 3 ∷ entry.Done 0 4 ∷ entry.Done 0 5 ∷ entry.Done 0 6 ∷ entry.Done 0 7 ∷ folded (counter.Context 0) 6 (negsuc 7) ∷ entry.Done 0 8 ∷ entry.Done 0 9 ∷ entry.Done 0 10 ∷ entry.Done 0 11 ∷ entry.Done 0 12 ∷ entry.Done 0 13 ∷ entry.Done 0 14 ∷ entry.Done 0 15 ∷ folded (counter.Context 0) 7 (negsuc 7) ∷ entry.Done 0 16 ∷ entry.Done 0 17 ∷ entry.Done 0 18 ∷ entry.Done 0 19 ∷ entry.Done 0 20 ∷ entry.Done 0 21 ∷ entry.Done 0 22 ∷ entry.Done 0 23 ∷ folded (counter.Context 0) 8 (negsuc 7) ∷ entry.Done 0 24 ∷ entry.Done 0 25 ∷ entry.Done 0 26 ∷ entry.Done 0 27 ∷ entry.Done 0 28 ∷ entry.Done 0 29 ∷ entry.Done 0 30 ∷ entry.Done 0 31 ∷ folded (counter.Context 0) 9 (negsuc 7) ∷ entry.Done 0 32 ∷ entry.Done 0 33 ∷ entry.Done 0 34 ∷ entry.Done 0 35 ∷ entry.Done 0 36 ∷ entry.Done 0 37 ∷ entry.Done 0 38 ∷ entry.Done 0 39 ∷ folded (counter.Context 0) 10 (negsuc 7) ∷ folded (counter.Domain 0) 2 (negsuc 31) ∷ entry.Share 0 0 40 ∷ []) (check 0 0 10 (read 0 0 35 1 35 0 (pos 0) 0 0 1) None 2 (pos 16) 0 kind.Free 0 4 0 4 10 ∷ check 0 0 16 (read 0 0 35 1 35 0 (pos 0) 0 0 1) None 3 (pos 24) 0 kind.Free 0 4 0 4 16 ∷ check 0 0 19 (read 0 0 35 1 35 0 (pos 0) 0 0 1) None 3 (pos 24) 0 kind.Free 0 4 0 4 19 ∷ check 0 0 22 (read 0 0 35 1 35 1 (pos 32) 0 0 1) None 4 (pos 32) 0 kind.Go 0 4 0 4 26 ∷ check 0 0 25 (read 0 0 35 1 35 1 (pos 32) 0 0 1) None 4 (pos 32) 0 kind.Go 5 2 0 2 33 ∷ check 0 0 33 (read 0 0 35 1 35 1 (pos 32) 0 0 1) None 4 (pos 32) 0 kind.Go 0 2 0 2 36 ∷ check 0 0 33 (read 0 0 35 1 35 1 (pos 32) 0 0 1) None 5 (pos 40) 0 kind.Go 6 3 0 3 39 ∷ []) ([]) ∷ []; steps = []; bases = []; homes = []; left = []; strict = []; ending = ending.Done }

-- the trace of the next journals
abbrev pub case_waits_trace : Trace
case_waits_trace = record { cpus = 1; cap = 1024; settings = settings 20 10 122880 4096; avail = avail 0 1000 ∷ []; devices = device 25600 0 100 ∷ []; cgroups = []; contexts = context 0 0 ∷ []; inodes = inode 0 0 33 ∷ []; tasks = on_cpu 0 ∷ []; flushers = flusher 0 0 ∷ []; actions = action.Rest 0 99 ∷ action.Write 0 0 0 33 ∷ []; order = []; halt = None }

-- a journal of it, which is lawful
abbrev pub case_waits : Journal
case_waits = record { timer = limits 0 1 30 1 30 ∷ []; cpus = part (entry.Write 0 0 true ∷ entry.Write 0 1 true ∷ entry.Write 0 2 true ∷ entry.Write 0 3 true ∷ entry.Write 0 4 true ∷ entry.Write 0 5 true ∷ entry.Write 0 6 true ∷ entry.Write 0 7 true ∷ folded (counter.Context 0) 1 (pos 8) ∷ entry.Write 0 8 true ∷ entry.Write 0 9 true ∷ entry.Write 0 10 true ∷ entry.Write 0 11 true ∷ entry.Write 0 12 true ∷ entry.Write 0 13 true ∷ entry.Write 0 14 true ∷ entry.Write 0 15 true ∷ folded (counter.Context 0) 2 (pos 8) ∷ entry.Check 0 ∷ entry.Write 0 16 true ∷ entry.Write 0 17 true ∷ entry.Write 0 18 true ∷ entry.Write 0 19 true ∷ entry.Check 1 ∷ entry.Write 0 20 true ∷ entry.Write 0 21 true ∷ entry.Write 0 22 true ∷ entry.Write 0 23 true ∷ folded (counter.Context 0) 3 (pos 8) ∷ entry.Check 2 ∷ entry.Write 0 24 true ∷ entry.Write 0 25 true ∷ entry.Write 0 26 true ∷ entry.Write 0 27 true ∷ entry.Check 3 ∷ entry.Write 0 28 true ∷ entry.Write 0 29 true ∷ entry.Write 0 30 true ∷ entry.Write 0 31 true ∷ folded (counter.Context 0) 4 (pos 8) ∷ folded (counter.Domain 0) 1 (pos 32) ∷ entry.Check 4 ∷ entry.Check 5 ∷ entry.Claimed 0 0 ∷ entry.Claimed 0 1 ∷ entry.Claimed 0 2 ∷ entry.Claimed 0 3 ∷ entry.Claimed 0 4 ∷ entry.Claimed 0 5 ∷ entry.Claimed 0 6 ∷ entry.Claimed 0 7 ∷ entry.Claimed 0 8 ∷ entry.Claimed 0 9 ∷ entry.Claimed 0 10 ∷ entry.Claimed 0 11 ∷ entry.Claimed 0 12 ∷ entry.Claimed 0 13 ∷ entry.Claimed 0 14 ∷ entry.Claimed 0 15 ∷ entry.Claimed 0 16 ∷ entry.Claimed 0 17 ∷ entry.Claimed 0 18 ∷ entry.Claimed 0 19 ∷ entry.Claimed 0 20 ∷ entry.Claimed 0 21 ∷ entry.Claimed 0 22 ∷ entry.Claimed 0 23 ∷ entry.Claimed 0 24 ∷ entry.Claimed 0 25 ∷ entry.Claimed 0 26 ∷ entry.Claimed 0 27 ∷ entry.Claimed 0 28 ∷ entry.Claimed 0 29 ∷ entry.Claimed 0 30 ∷ entry.Claimed 0 31 ∷ entry.Batch 0 32 101 103 ∷ entry.Check 6 ∷ entry.Done 0 0 ∷ entry.Check 7 ∷ entry.Done 0 1 ∷ entry.Done 0 2 ∷ entry.Done 0 3 ∷ entry.Done 0 4 ∷ entry.Done 0 5 ∷ entry.Done 0 6 ∷ entry.Done 0 7 ∷ folded (counter.Context 0) 5 (negsuc 7) ∷ entry.Done 0 8 ∷ entry.Done 0 9 ∷ entry.Done 0 10 ∷ entry.Done 0 11 ∷ entry.Done 0 12 ∷ entry.Done 0 13 ∷ entry.Done 0 14 ∷ entry.Done 0 15 ∷ folded (counter.Context 0) 6 (negsuc 7) ∷ entry.Done 0 16 ∷ entry.Done 0 17 ∷ entry.Done 0 18 ∷ entry.Done 0 19 ∷ entry.Done 0 20 ∷ entry.Done 0 21 ∷ entry.Done 0 22 ∷ entry.Done 0 23 ∷ folded (counter.Context 0) 7 (negsuc 7) ∷ entry.Done 0 24 ∷ entry.Done 0 25 ∷ entry.Done 0 26 ∷ entry.Done 0 27 ∷ entry.Done 0 28 ∷ entry.Done 0 29 ∷ entry.Done 0 30 ∷ entry.Done 0 31 ∷ folded (counter.Context 0) 8 (negsuc 7) ∷ folded (counter.Domain 0) 2 (negsuc 31) ∷ entry.Share 0 0 32 ∷ entry.Check 8 ∷ entry.Write 0 32 true ∷ entry.Claimed 0 32 ∷ entry.Batch 0 1 104 105 ∷ entry.Done 0 32 ∷ entry.Share 0 0 1 ∷ []) (check 0 0 100 (read 0 0 30 1 30 0 (pos 0) 0 0 1) None 2 (pos 16) 0 kind.Free 0 4 0 4 100 ∷ check 0 0 100 (read 0 0 30 1 30 0 (pos 0) 0 0 1) None 2 (pos 16) 0 kind.Free 0 4 0 4 100 ∷ check 0 0 100 (read 0 0 30 1 30 0 (pos 0) 0 0 1) None 3 (pos 24) 0 kind.Free 0 4 0 4 100 ∷ check 0 0 100 (read 0 0 30 1 30 0 (pos 0) 0 0 1) None 3 (pos 24) 0 kind.Free 0 4 0 4 100 ∷ check 0 0 100 (read 0 0 30 1 30 1 (pos 32) 0 0 1) None 4 (pos 32) 0 kind.Wait 1 0 0 0 101 ∷ check 0 0 101 (read 0 0 30 1 30 1 (pos 32) 0 0 1) None 4 (pos 32) 0 kind.Wait 1 0 0 0 102 ∷ check 0 0 102 (read 0 0 30 1 30 1 (pos 32) 0 0 1) None 4 (pos 32) 0 kind.Wait 1 0 0 0 103 ∷ check 0 0 103 (read 0 0 30 1 30 1 (pos 32) 0 0 1) None 4 (pos 32) 0 kind.Wait 1 0 0 0 104 ∷ check 0 0 104 (read 0 0 30 1 30 2 (pos 0) 0 32 33) None 8 (pos 0) 0 kind.Free 0 4 0 4 104 ∷ []) ([]) ∷ []; steps = []; bases = []; homes = []; left = []; strict = []; ending = ending.Done }

-- a journal of it, which breaks point 7 at line 55
abbrev pub case_waits_1 : Journal
case_waits_1 = record { timer = limits 0 1 30 1 30 ∷ []; cpus = part (entry.Write 0 0 true ∷ entry.Write 0 1 true ∷ entry.Write 0 2 true ∷ entry.Write 0 3 true ∷ entry.Write 0 4 true ∷ entry.Write 0 5 true ∷ entry.Write 0 6 true ∷ entry.Write 0 7 true ∷ folded (counter.Context 0) 1 (pos 8) ∷ entry.Write 0 8 true ∷ entry.Write 0 9 true ∷ entry.Write 0 10 true ∷ entry.Write 0 11 true ∷ entry.Write 0 12 true ∷ entry.Write 0 13 true ∷ entry.Write 0 14 true ∷ entry.Write 0 15 true ∷ folded (counter.Context 0) 2 (pos 8) ∷ entry.Check 0 ∷ entry.Write 0 16 true ∷ entry.Write 0 17 true ∷ entry.Write 0 18 true ∷ entry.Write 0 19 true ∷ entry.Check 1 ∷ entry.Write 0 20 true ∷ entry.Write 0 21 true ∷ entry.Write 0 22 true ∷ entry.Write 0 23 true ∷ folded (counter.Context 0) 3 (pos 8) ∷ entry.Check 2 ∷ entry.Write 0 24 true ∷ entry.Write 0 25 true ∷ entry.Write 0 26 true ∷ entry.Write 0 27 true ∷ entry.Check 3 ∷ entry.Write 0 28 true ∷ entry.Write 0 29 true ∷ entry.Write 0 30 true ∷ entry.Write 0 31 true ∷ folded (counter.Context 0) 4 (pos 8) ∷ folded (counter.Domain 0) 1 (pos 32) ∷ entry.Check 4 ∷ entry.Check 5 ∷ entry.Claimed 0 0 ∷ entry.Claimed 0 1 ∷ entry.Claimed 0 2 ∷ entry.Claimed 0 3 ∷ entry.Claimed 0 4 ∷ entry.Claimed 0 5 ∷ entry.Claimed 0 6 ∷ entry.Claimed 0 7 ∷ entry.Claimed 0 8 ∷ entry.Claimed 0 9 ∷ entry.Claimed 0 10 ∷ entry.Claimed 0 11 ∷ entry.Claimed 0 12 ∷ entry.Claimed 0 13 ∷ entry.Claimed 0 14 ∷ entry.Claimed 0 15 ∷ entry.Claimed 0 16 ∷ entry.Claimed 0 17 ∷ entry.Claimed 0 18 ∷ entry.Claimed 0 19 ∷ entry.Claimed 0 20 ∷ entry.Claimed 0 21 ∷ entry.Claimed 0 22 ∷ entry.Claimed 0 23 ∷ entry.Claimed 0 24 ∷ entry.Claimed 0 25 ∷ entry.Claimed 0 26 ∷ entry.Claimed 0 27 ∷ entry.Claimed 0 28 ∷ entry.Claimed 0 29 ∷ entry.Claimed 0 30 ∷ entry.Claimed 0 31 ∷ entry.Batch 0 32 101 103 ∷ entry.Check 6 ∷ entry.Done 0 0 ∷ entry.Check 7 ∷ entry.Done 0 1 ∷ entry.Done 0 2 ∷ entry.Done 0 3 ∷ entry.Done 0 4 ∷ entry.Done 0 5 ∷ entry.Done 0 6 ∷ entry.Done 0 7 ∷ folded (counter.Context 0) 5 (negsuc 7) ∷ entry.Done 0 8 ∷ entry.Done 0 9 ∷ entry.Done 0 10 ∷ entry.Done 0 11 ∷ entry.Done 0 12 ∷ entry.Done 0 13 ∷ entry.Done 0 14 ∷ entry.Done 0 15 ∷ folded (counter.Context 0) 6 (negsuc 7) ∷ entry.Done 0 16 ∷ entry.Done 0 17 ∷ entry.Done 0 18 ∷ entry.Done 0 19 ∷ entry.Done 0 20 ∷ entry.Done 0 21 ∷ entry.Done 0 22 ∷ entry.Done 0 23 ∷ folded (counter.Context 0) 7 (negsuc 7) ∷ entry.Done 0 24 ∷ entry.Done 0 25 ∷ entry.Done 0 26 ∷ entry.Done 0 27 ∷ entry.Done 0 28 ∷ entry.Done 0 29 ∷ entry.Done 0 30 ∷ entry.Done 0 31 ∷ folded (counter.Context 0) 8 (negsuc 7) ∷ folded (counter.Domain 0) 2 (negsuc 31) ∷ entry.Share 0 0 32 ∷ entry.Check 8 ∷ entry.Write 0 32 true ∷ entry.Claimed 0 32 ∷ entry.Batch 0 1 104 105 ∷ entry.Done 0 32 ∷ entry.Share 0 0 1 ∷ []) (check 0 0 100 (read 0 0 30 1 30 0 (pos 0) 0 0 1) None 2 (pos 16) 0 kind.Free 0 4 0 4 100 ∷ check 0 0 100 (read 0 0 30 1 30 0 (pos 0) 0 0 1) None 2 (pos 16) 0 kind.Free 0 4 0 4 100 ∷ check 0 0 100 (read 0 0 30 1 30 0 (pos 0) 0 0 1) None 3 (pos 24) 0 kind.Free 0 4 0 4 100 ∷ check 0 0 100 (read 0 0 30 1 30 0 (pos 0) 0 0 1) None 3 (pos 24) 0 kind.Free 0 4 0 4 100 ∷ check 0 0 100 (read 0 0 30 1 30 1 (pos 32) 0 0 1) None 4 (pos 32) 0 kind.Exempt 1 1 0 0 101 ∷ check 0 0 101 (read 0 0 30 1 30 1 (pos 32) 0 0 1) None 4 (pos 32) 0 kind.Wait 1 0 0 0 102 ∷ check 0 0 102 (read 0 0 30 1 30 1 (pos 32) 0 0 1) None 4 (pos 32) 0 kind.Wait 1 0 0 0 103 ∷ check 0 0 103 (read 0 0 30 1 30 1 (pos 32) 0 0 1) None 4 (pos 32) 0 kind.Wait 1 0 0 0 104 ∷ check 0 0 104 (read 0 0 30 1 30 2 (pos 0) 0 32 33) None 8 (pos 0) 0 kind.Free 0 4 0 4 104 ∷ []) ([]) ∷ []; steps = []; bases = []; homes = []; left = []; strict = []; ending = ending.Done }

-- a journal of it, which breaks point 7 at line 94
abbrev pub case_waits_2 : Journal
case_waits_2 = record { timer = limits 0 1 30 1 30 ∷ []; cpus = part (entry.Write 0 0 true ∷ entry.Write 0 1 true ∷ entry.Write 0 2 true ∷ entry.Write 0 3 true ∷ entry.Write 0 4 true ∷ entry.Write 0 5 true ∷ entry.Write 0 6 true ∷ entry.Write 0 7 true ∷ folded (counter.Context 0) 1 (pos 8) ∷ entry.Write 0 8 true ∷ entry.Write 0 9 true ∷ entry.Write 0 10 true ∷ entry.Write 0 11 true ∷ entry.Write 0 12 true ∷ entry.Write 0 13 true ∷ entry.Write 0 14 true ∷ entry.Write 0 15 true ∷ folded (counter.Context 0) 2 (pos 8) ∷ entry.Check 0 ∷ entry.Write 0 16 true ∷ entry.Write 0 17 true ∷ entry.Write 0 18 true ∷ entry.Write 0 19 true ∷ entry.Check 1 ∷ entry.Write 0 20 true ∷ entry.Write 0 21 true ∷ entry.Write 0 22 true ∷ entry.Write 0 23 true ∷ folded (counter.Context 0) 3 (pos 8) ∷ entry.Check 2 ∷ entry.Write 0 24 true ∷ entry.Write 0 25 true ∷ entry.Write 0 26 true ∷ entry.Write 0 27 true ∷ entry.Check 3 ∷ entry.Write 0 28 true ∷ entry.Write 0 29 true ∷ entry.Write 0 30 true ∷ entry.Write 0 31 true ∷ folded (counter.Context 0) 4 (pos 8) ∷ folded (counter.Domain 0) 1 (pos 32) ∷ entry.Check 4 ∷ entry.Check 5 ∷ entry.Claimed 0 0 ∷ entry.Claimed 0 1 ∷ entry.Claimed 0 2 ∷ entry.Claimed 0 3 ∷ entry.Claimed 0 4 ∷ entry.Claimed 0 5 ∷ entry.Claimed 0 6 ∷ entry.Claimed 0 7 ∷ entry.Claimed 0 8 ∷ entry.Claimed 0 9 ∷ entry.Claimed 0 10 ∷ entry.Claimed 0 11 ∷ entry.Claimed 0 12 ∷ entry.Claimed 0 13 ∷ entry.Claimed 0 14 ∷ entry.Claimed 0 15 ∷ entry.Claimed 0 16 ∷ entry.Claimed 0 17 ∷ entry.Claimed 0 18 ∷ entry.Claimed 0 19 ∷ entry.Claimed 0 20 ∷ entry.Claimed 0 21 ∷ entry.Claimed 0 22 ∷ entry.Claimed 0 23 ∷ entry.Claimed 0 24 ∷ entry.Claimed 0 25 ∷ entry.Claimed 0 26 ∷ entry.Claimed 0 27 ∷ entry.Claimed 0 28 ∷ entry.Claimed 0 29 ∷ entry.Claimed 0 30 ∷ entry.Claimed 0 31 ∷ entry.Batch 0 32 101 103 ∷ entry.Check 6 ∷ entry.Done 0 0 ∷ entry.Check 7 ∷ entry.Done 0 1 ∷ entry.Done 0 2 ∷ entry.Done 0 3 ∷ entry.Done 0 4 ∷ entry.Done 0 5 ∷ entry.Done 0 6 ∷ entry.Done 0 7 ∷ folded (counter.Context 0) 5 (negsuc 7) ∷ entry.Done 0 8 ∷ entry.Done 0 9 ∷ entry.Done 0 10 ∷ entry.Done 0 11 ∷ entry.Done 0 12 ∷ entry.Done 0 13 ∷ entry.Done 0 14 ∷ entry.Done 0 15 ∷ folded (counter.Context 0) 6 (negsuc 7) ∷ entry.Done 0 16 ∷ entry.Done 0 17 ∷ entry.Done 0 18 ∷ entry.Done 0 19 ∷ entry.Done 0 20 ∷ entry.Done 0 21 ∷ entry.Done 0 22 ∷ entry.Done 0 23 ∷ folded (counter.Context 0) 7 (negsuc 7) ∷ entry.Done 0 24 ∷ entry.Done 0 25 ∷ entry.Done 0 26 ∷ entry.Done 0 27 ∷ entry.Done 0 28 ∷ entry.Done 0 29 ∷ entry.Done 0 30 ∷ entry.Done 0 31 ∷ folded (counter.Context 0) 8 (negsuc 7) ∷ folded (counter.Domain 0) 2 (negsuc 31) ∷ entry.Share 0 0 32 ∷ entry.Check 8 ∷ entry.Write 0 32 true ∷ entry.Claimed 0 32 ∷ entry.Batch 0 1 104 105 ∷ entry.Done 0 32 ∷ entry.Share 0 0 1 ∷ []) (check 0 0 100 (read 0 0 30 1 30 0 (pos 0) 0 0 1) None 2 (pos 16) 0 kind.Free 0 4 0 4 100 ∷ check 0 0 100 (read 0 0 30 1 30 0 (pos 0) 0 0 1) None 2 (pos 16) 0 kind.Free 0 4 0 4 100 ∷ check 0 0 100 (read 0 0 30 1 30 0 (pos 0) 0 0 1) None 3 (pos 24) 0 kind.Free 0 4 0 4 100 ∷ check 0 0 100 (read 0 0 30 1 30 0 (pos 0) 0 0 1) None 3 (pos 24) 0 kind.Free 0 4 0 4 100 ∷ check 0 0 100 (read 0 0 30 1 30 1 (pos 32) 0 0 1) None 4 (pos 32) 0 kind.Wait 1 0 0 0 101 ∷ check 0 0 101 (read 0 0 30 1 30 1 (pos 32) 0 0 1) None 4 (pos 32) 0 kind.Wait 1 0 0 0 102 ∷ check 0 0 102 (read 0 0 30 1 30 1 (pos 32) 0 0 1) None 4 (pos 32) 0 kind.Wait 2 0 0 0 104 ∷ check 0 0 103 (read 0 0 30 1 30 1 (pos 32) 0 0 1) None 4 (pos 32) 0 kind.Wait 1 0 0 0 104 ∷ check 0 0 104 (read 0 0 30 1 30 2 (pos 0) 0 32 33) None 8 (pos 0) 0 kind.Free 0 4 0 4 104 ∷ []) ([]) ∷ []; steps = []; bases = []; homes = []; left = []; strict = []; ending = ending.Done }
