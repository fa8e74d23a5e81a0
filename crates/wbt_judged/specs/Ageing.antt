-- Journals of ageing devices of which an independent program told the verdict: made by tools/judged-values.
use Rattle.std.specs.Prelude.{true, false, Some, None, [], ◌∷◌, pos, negsuc}
use Rattle.wbt_counter.specs.declared.counter.Counter.TheVariants as counter
use Rattle.wbt_pause.specs.declared.decision.Kind.TheVariants as kind
use Rattle.wbt_trace.specs.declared.trace.Action.TheVariants as action
use Rattle.wbt_trace.specs.declared.trace.Trace.{Trace}
use Rattle.wbt_journal.specs.declared.entry.Entry.TheVariants as entry
use Rattle.wbt_journal.specs.declared.journal.Ending.TheVariants as ending
use Rattle.wbt_journal.specs.declared.journal.Journal.{Journal}
use Rattle.wbt_judged.specs.Lines.{settings, avail, device, strict_device, cgroup, context, ageing_context, inode, on_cpu, flusher, limits, folded, read, check, estimate, part}

-- the trace of the next journals
abbrev pub case_502_1_trace : Trace
case_502_1_trace = record { cpus = 2; cap = 33; settings = settings 20 10 0 0; avail = avail 0 447 ∷ []; devices = device 1024 0 100 ∷ []; cgroups = cgroup 31 49 ∷ []; contexts = ageing_context 0 1 8 ∷ []; inodes = inode 0 0 10 ∷ inode 0 10 16 ∷ inode 0 26 18 ∷ inode 0 44 7 ∷ inode 0 51 16 ∷ inode 0 67 19 ∷ []; tasks = on_cpu 1 ∷ []; flushers = flusher 0 1 ∷ flusher 0 1 ∷ flusher 0 0 ∷ []; actions = action.Write 0 2 7 3 ∷ action.Write 0 3 5 2 ∷ action.Write 0 4 6 9 ∷ []; order = []; halt = None }

-- a journal of it, which breaks point 2 at line 58
abbrev pub case_502_1 : Journal
case_502_1 = record { timer = limits 0 1 89 44 89 ∷ limits 1 1 15 7 15 ∷ []; cpus = part (entry.Claimed 2 49 ∷ entry.Claimed 2 50 ∷ entry.Batch 2 2 1 3 ∷ entry.Done 2 49 ∷ entry.Done 2 50 ∷ entry.Share 0 0 2 ∷ entry.Share 1 0 2 ∷ entry.Write 0 33 true ∷ entry.Noticed 0 2 1 ∷ entry.Write 0 34 true ∷ entry.Write 0 35 true ∷ entry.Write 0 49 true ∷ entry.Write 0 50 true ∷ entry.Write 0 57 true ∷ entry.Write 0 58 true ∷ entry.Write 0 59 true ∷ entry.Write 0 60 true ∷ entry.Write 0 61 true ∷ entry.Write 0 62 true ∷ entry.Write 0 63 true ∷ entry.Write 0 64 true ∷ entry.Write 0 65 true ∷ entry.Taken 0 2 ∷ entry.Claimed 1 57 ∷ entry.Claimed 0 33 ∷ entry.Claimed 1 58 ∷ entry.Claimed 0 34 ∷ entry.Claimed 1 59 ∷ entry.Claimed 0 35 ∷ entry.Claimed 1 60 ∷ entry.Claimed 1 61 ∷ entry.Claimed 1 62 ∷ entry.Claimed 1 63 ∷ entry.Claimed 1 64 ∷ entry.Claimed 1 65 ∷ entry.Batch 1 9 1 10 ∷ entry.Batch 0 3 1 4 ∷ entry.Done 0 33 ∷ entry.Done 0 34 ∷ entry.Done 0 35 ∷ entry.Share 0 0 3 ∷ entry.Share 1 0 3 ∷ entry.Done 1 57 ∷ entry.Done 1 58 ∷ entry.Done 1 59 ∷ entry.Done 1 60 ∷ entry.Done 1 61 ∷ entry.Done 1 62 ∷ entry.Done 1 63 ∷ entry.Done 1 64 ∷ entry.Done 1 65 ∷ entry.Share 0 0 9 ∷ entry.Share 1 0 9 ∷ []) ([]) ([]) ∷ []; steps = []; bases = []; homes = []; left = []; strict = []; ending = ending.Done }

-- a journal of it, which breaks point 5 at line 46
abbrev pub case_502_3 : Journal
case_502_3 = record { timer = limits 0 1 89 44 89 ∷ limits 1 1 15 7 15 ∷ []; cpus = part (entry.Claimed 2 49 ∷ entry.Claimed 2 50 ∷ entry.Batch 2 2 1 3 ∷ entry.Done 2 49 ∷ entry.Done 2 50 ∷ entry.Share 0 0 2 ∷ entry.Share 1 0 2 ∷ []) ([]) ([]) ∷ part (entry.Write 0 33 true ∷ entry.Noticed 0 2 1 ∷ entry.Write 0 34 true ∷ entry.Write 0 35 true ∷ entry.Write 0 49 true ∷ entry.Write 0 50 true ∷ entry.Write 0 57 true ∷ entry.Write 0 58 true ∷ entry.Write 0 59 true ∷ entry.Write 0 60 true ∷ entry.Write 0 61 true ∷ entry.Write 0 62 true ∷ entry.Write 0 63 true ∷ entry.Write 0 64 true ∷ entry.Write 0 65 true ∷ entry.Taken 0 2 ∷ entry.Claimed 1 57 ∷ entry.Claimed 0 33 ∷ entry.Claimed 1 58 ∷ entry.Claimed 0 34 ∷ entry.Claimed 1 59 ∷ entry.Claimed 0 35 ∷ entry.Claimed 1 60 ∷ entry.Claimed 1 61 ∷ entry.Claimed 1 62 ∷ entry.Claimed 1 63 ∷ entry.Claimed 1 64 ∷ entry.Claimed 1 65 ∷ entry.Batch 1 9 1 10 ∷ entry.Batch 0 3 1 4 ∷ entry.Done 0 33 ∷ entry.Done 0 34 ∷ entry.Done 0 35 ∷ entry.Share 0 1 3 ∷ entry.Share 1 0 3 ∷ entry.Done 1 57 ∷ entry.Done 1 58 ∷ entry.Done 1 59 ∷ entry.Done 1 60 ∷ entry.Done 1 61 ∷ entry.Done 1 62 ∷ entry.Done 1 63 ∷ entry.Done 1 64 ∷ entry.Done 1 65 ∷ entry.Share 0 0 9 ∷ entry.Share 1 0 9 ∷ []) ([]) ([]) ∷ []; steps = []; bases = []; homes = []; left = []; strict = []; ending = ending.Done }

-- the trace of the next journals
abbrev pub case_518_2_trace : Trace
case_518_2_trace = record { cpus = 3; cap = 16; settings = settings 60 27 0 0; avail = avail 0 100000 ∷ avail 200 300 ∷ []; devices = strict_device 16384 0 100 ∷ []; cgroups = cgroup 707 772 ∷ []; contexts = ageing_context 0 1 8 ∷ context 0 1 ∷ []; inodes = inode 0 0 8 ∷ inode 0 8 16 ∷ inode 1 24 7 ∷ []; tasks = on_cpu 1 ∷ on_cpu 1 ∷ on_cpu 0 ∷ []; flushers = flusher 0 2 ∷ flusher 0 2 ∷ flusher 0 2 ∷ flusher 0 2 ∷ []; actions = action.Write 1 1 9 4 ∷ action.Rest 2 6 ∷ action.Write 2 0 0 8 ∷ action.Write 1 2 0 7 ∷ action.Rest 2 107 ∷ action.Write 2 2 0 7 ∷ action.Write 0 0 2 1 ∷ action.Write 0 2 0 7 ∷ action.Write 1 2 0 7 ∷ action.Write 1 2 0 7 ∷ []; order = []; halt = None }

-- a journal of it, which breaks point 16 at line 117
abbrev pub case_518_2 : Journal
case_518_2 = record { timer = limits 0 1 59985 26977 59985 ∷ limits 1 1 887 398 887 ∷ limits 0 228 179 80 58117 ∷ limits 1 228 424 190 873 ∷ limits 0 462 179 80 56307 ∷ limits 1 462 424 190 859 ∷ limits 0 834 179 80 54553 ∷ []; cpus = part (entry.Write 2 0 true ∷ entry.Write 2 1 true ∷ entry.Write 2 2 false ∷ entry.Write 2 3 true ∷ entry.Write 2 4 true ∷ entry.Write 2 5 true ∷ entry.Write 2 6 true ∷ entry.Write 2 7 true ∷ entry.Write 2 24 false ∷ entry.Write 2 25 false ∷ entry.Write 2 26 false ∷ entry.Write 2 27 true ∷ entry.Write 2 28 false ∷ entry.Write 2 29 false ∷ entry.Write 2 30 true ∷ []) ([]) ([]) ∷ part (entry.Write 0 2 true ∷ entry.Write 1 17 true ∷ entry.Write 0 24 true ∷ entry.Write 1 18 true ∷ entry.Write 0 25 true ∷ entry.Write 1 19 true ∷ entry.Write 0 26 true ∷ entry.Write 1 20 true ∷ entry.Write 0 27 false ∷ entry.Write 1 24 false ∷ entry.Write 0 28 true ∷ entry.Write 1 25 false ∷ entry.Write 0 29 true ∷ entry.Write 1 26 false ∷ entry.Write 0 30 false ∷ entry.Write 1 27 false ∷ entry.Write 1 28 false ∷ entry.Write 1 29 false ∷ entry.Write 1 30 false ∷ entry.Write 1 24 false ∷ entry.Write 1 25 false ∷ entry.Write 1 26 false ∷ entry.Write 1 27 false ∷ entry.Write 1 28 false ∷ entry.Write 1 29 false ∷ entry.Write 1 30 false ∷ entry.Write 1 24 false ∷ entry.Write 1 25 false ∷ entry.Write 1 26 false ∷ entry.Write 1 27 false ∷ entry.Write 1 28 false ∷ entry.Write 1 29 false ∷ entry.Write 1 30 false ∷ []) ([]) ([]) ∷ part (entry.Noticed 0 0 1 ∷ entry.Noticed 1 1 228 ∷ entry.Noticed 1 2 228 ∷ entry.Est 0 ∷ entry.Est 1 ∷ entry.Aged 0 0 81 462 ∷ entry.Aged 1 1 308 625 ∷ entry.Claimed 0 0 ∷ entry.Claimed 0 1 ∷ entry.Claimed 0 2 ∷ entry.Claimed 0 3 ∷ entry.Claimed 0 4 ∷ entry.Claimed 0 5 ∷ entry.Claimed 0 6 ∷ entry.Claimed 0 7 ∷ entry.Batch 0 8 1358 1359 ∷ entry.Done 0 0 ∷ entry.Claimed 1 17 ∷ entry.Done 0 1 ∷ entry.Claimed 1 18 ∷ entry.Done 0 2 ∷ entry.Claimed 1 19 ∷ entry.Done 0 3 ∷ entry.Claimed 1 20 ∷ entry.Done 0 4 ∷ entry.Done 0 5 ∷ entry.Done 0 6 ∷ entry.Batch 1 4 2166 2167 ∷ entry.Done 0 7 ∷ entry.Share 0 0 8 ∷ entry.Share 1 0 8 ∷ entry.Done 1 17 ∷ entry.Done 1 18 ∷ entry.Done 1 19 ∷ entry.Done 1 20 ∷ entry.Share 0 0 4 ∷ entry.Share 1 0 4 ∷ entry.Taken 1 2 ∷ entry.Claimed 1 24 ∷ entry.Claimed 1 25 ∷ entry.Claimed 1 26 ∷ entry.Claimed 1 27 ∷ entry.Claimed 1 28 ∷ entry.Claimed 1 29 ∷ entry.Claimed 1 30 ∷ entry.Batch 1 7 2167 2168 ∷ entry.Done 1 24 ∷ entry.Done 1 25 ∷ entry.Done 1 26 ∷ entry.Done 1 27 ∷ entry.Done 1 28 ∷ entry.Done 1 29 ∷ entry.Done 1 30 ∷ entry.Share 0 1 7 ∷ entry.Share 1 1 7 ∷ []) ([]) (estimate 0 1 22718 25600 25600 25600 0 0 462 ∷ estimate 1 1 22718 25600 25600 25600 0 0 462 ∷ []) ∷ []; steps = []; bases = []; homes = []; left = []; strict = []; ending = ending.Faulted }

-- the trace of the next journals
abbrev pub case_536_1_trace : Trace
case_536_1_trace = record { cpus = 1; cap = 5; settings = settings 20 10 0 0; avail = avail 0 100 ∷ []; devices = device 64 0 100 ∷ []; cgroups = cgroup 451 409 ∷ []; contexts = ageing_context 0 1 10 ∷ []; inodes = inode 0 0 3 ∷ inode 0 3 5 ∷ []; tasks = on_cpu 0 ∷ []; flushers = flusher 0 0 ∷ flusher 0 0 ∷ []; actions = action.Write 0 0 0 1 ∷ action.Write 0 1 0 5 ∷ []; order = []; halt = None }

-- a journal of it, which breaks point 4 at line 11
abbrev pub case_536_1 : Journal
case_536_1 = record { timer = limits 0 1 19 10 19 ∷ limits 1 1 90 45 90 ∷ []; cpus = part (entry.Write 0 0 true ∷ entry.Noticed 0 0 1 ∷ entry.Write 0 3 true ∷ entry.Write 0 4 true ∷ entry.Write 0 5 true ∷ entry.Write 0 6 true ∷ entry.Check 0 ∷ entry.Write 0 7 true ∷ entry.Taken 0 0 ∷ entry.Claimed 0 0 ∷ entry.Claimed 1 3 ∷ entry.Claimed 1 4 ∷ entry.Batch 0 1 1 17 ∷ entry.Claimed 1 5 ∷ entry.Claimed 1 6 ∷ entry.Claimed 1 7 ∷ entry.Batch 1 5 1 80 ∷ entry.Done 0 0 ∷ entry.Share 0 0 1 ∷ entry.Share 1 0 1 ∷ entry.Done 1 3 ∷ entry.Done 1 4 ∷ entry.Done 1 5 ∷ entry.Done 1 6 ∷ entry.Done 1 7 ∷ entry.Share 0 0 5 ∷ entry.Share 1 0 5 ∷ []) (check 0 0 1 (read 0 0 19 9 19 0 (pos 0) 0 0 1) (Some (read 1 0 90 45 90 0 (pos 0) 0 0 1)) 0 (pos 0) 0 kind.Free 0 4 0 4 1 ∷ []) ([]) ∷ []; steps = []; bases = []; homes = []; left = []; strict = []; ending = ending.Done }

-- the trace of the next journals
abbrev pub case_587_4_trace : Trace
case_587_4_trace = record { cpus = 5; cap = 48; settings = settings 20 50 0 0; avail = avail 0 100000 ∷ avail 277 100 ∷ []; devices = device 16 0 100 ∷ []; cgroups = cgroup 19 43 ∷ []; contexts = ageing_context 0 0 23 ∷ []; inodes = inode 0 0 1 ∷ []; tasks = on_cpu 2 ∷ on_cpu 1 ∷ []; flushers = flusher 0 1 ∷ flusher 0 4 ∷ []; actions = action.Write 0 0 0 1 ∷ action.Write 1 0 0 1 ∷ action.Write 1 0 0 1 ∷ action.Rest 1 204 ∷ []; order = []; halt = None }

-- a journal of it, which breaks point 10 at line 13
abbrev pub case_587_4 : Journal
case_587_4 = record { timer = limits 0 1 19995 9997 19995 ∷ limits 1 1 12 6 12 ∷ []; cpus = part (entry.Noticed 1 0 1 ∷ []) ([]) ([]) ∷ part (entry.Write 1 0 true ∷ entry.Write 1 0 false ∷ []) ([]) ([]) ∷ part (entry.Write 0 0 false ∷ []) ([]) ([]) ∷ part ([]) ([]) ([]) ∷ part (entry.Taken 1 0 ∷ entry.Claimed 1 0 ∷ entry.Batch 1 1 1 64 ∷ entry.Done 1 0 ∷ entry.Share 0 0 1 ∷ []) ([]) ([]) ∷ []; steps = []; bases = []; homes = []; left = []; strict = []; ending = ending.Done }

-- the trace of the next journals
abbrev pub case_592_3_trace : Trace
case_592_3_trace = record { cpus = 1; cap = 1024; settings = settings 20 10 0 0; avail = avail 0 0 ∷ []; devices = strict_device 2411 0 100 ∷ []; cgroups = []; contexts = ageing_context 0 0 4 ∷ []; inodes = inode 0 0 2 ∷ inode 0 2 5 ∷ []; tasks = on_cpu 0 ∷ on_cpu 0 ∷ []; flushers = flusher 0 0 ∷ []; actions = action.Write 1 0 0 2 ∷ action.Write 1 0 0 2 ∷ []; order = []; halt = None }

-- a journal of it, which breaks point 13 at line 15
abbrev pub case_592_3 : Journal
case_592_3 = record { timer = limits 0 1 0 0 0 ∷ []; cpus = part (entry.Write 1 0 true ∷ entry.Noticed 0 0 1 ∷ entry.Write 1 1 true ∷ entry.Write 1 0 false ∷ entry.Write 1 1 false ∷ entry.Taken 0 0 ∷ entry.Claimed 0 0 ∷ entry.Claimed 0 1 ∷ entry.Batch 0 2 1 2 ∷ entry.Done 0 1 ∷ entry.Share 0 0 2 ∷ []) ([]) ([]) ∷ []; steps = []; bases = []; homes = []; left = []; strict = []; ending = ending.Done }

-- the trace of the next journals
abbrev pub case_596_1_trace : Trace
case_596_1_trace = record { cpus = 2; cap = 1024; settings = settings 20 10 0 0; avail = avail 0 1000 ∷ []; devices = strict_device 15258 0 100 ∷ []; cgroups = []; contexts = ageing_context 0 0 28 ∷ []; inodes = inode 0 0 2 ∷ inode 0 2 3 ∷ []; tasks = on_cpu 0 ∷ []; flushers = flusher 0 0 ∷ []; actions = action.Write 0 0 1 1 ∷ action.Write 0 0 1 1 ∷ []; order = []; halt = None }

-- a journal of it, which breaks point 14 at line 10
abbrev pub case_596_1 : Journal
case_596_1 = record { timer = limits 0 1 199 99 199 ∷ []; cpus = part (entry.Write 0 1 true ∷ entry.Noticed 0 0 1 ∷ entry.Write 0 1 false ∷ entry.Taken 0 0 ∷ entry.Claimed 0 1 ∷ entry.Batch 0 1 1 2 ∷ entry.Done 1 1 ∷ entry.Share 0 0 1 ∷ []) ([]) ([]) ∷ part ([]) ([]) ([]) ∷ []; steps = []; bases = []; homes = []; left = []; strict = []; ending = ending.Done }

-- a journal of it, which breaks point 12 at line 4
abbrev pub case_596_4 : Journal
case_596_4 = record { timer = limits 0 1 199 99 199 ∷ []; cpus = part (entry.Write 1 1 true ∷ entry.Noticed 0 0 1 ∷ entry.Write 0 1 false ∷ entry.Taken 0 0 ∷ entry.Claimed 0 1 ∷ entry.Batch 0 1 1 2 ∷ entry.Done 0 1 ∷ entry.Share 0 0 1 ∷ []) ([]) ([]) ∷ part ([]) ([]) ([]) ∷ []; steps = []; bases = []; homes = []; left = []; strict = []; ending = ending.Done }

-- the trace of the next journals
abbrev pub case_610_4_trace : Trace
case_610_4_trace = record { cpus = 2; cap = 3; settings = settings 20 10 0 0; avail = avail 0 10 ∷ avail 1324 0 ∷ avail 1430 1000 ∷ []; devices = device 9930 0 100 ∷ []; cgroups = cgroup 69 62 ∷ []; contexts = ageing_context 0 1 8 ∷ []; inodes = inode 0 0 9 ∷ inode 0 9 16 ∷ inode 0 25 7 ∷ inode 0 32 10 ∷ inode 0 42 9 ∷ []; tasks = on_cpu 0 ∷ []; flushers = flusher 0 0 ∷ flusher 0 0 ∷ flusher 0 0 ∷ []; actions = action.Rest 0 68 ∷ action.Write 0 3 0 10 ∷ action.Write 0 3 0 10 ∷ action.Write 0 3 0 10 ∷ []; order = []; halt = None }

-- a journal of it, which breaks point 7 at line 36
abbrev pub case_610_4 : Journal
case_610_4 = record { timer = limits 0 1 1 0 1 ∷ limits 1 1 13 6 13 ∷ []; cpus = part (entry.Write 0 32 true ∷ entry.Write 0 33 true ∷ entry.Write 0 34 true ∷ entry.Check 0 ∷ entry.Write 0 35 true ∷ entry.Check 1 ∷ entry.Write 0 36 true ∷ entry.Check 2 ∷ entry.Write 0 37 true ∷ entry.Check 3 ∷ entry.Write 0 38 true ∷ entry.Check 4 ∷ entry.Write 0 39 true ∷ entry.Check 5 ∷ entry.Write 0 40 true ∷ entry.Check 6 ∷ entry.Write 0 41 true ∷ entry.Check 7 ∷ entry.Write 0 32 false ∷ entry.Write 0 33 false ∷ entry.Write 0 34 false ∷ entry.Write 0 35 false ∷ entry.Write 0 36 false ∷ entry.Write 0 37 false ∷ entry.Write 0 38 false ∷ entry.Write 0 39 false ∷ entry.Write 0 40 false ∷ entry.Write 0 41 false ∷ entry.Write 0 32 false ∷ entry.Write 0 33 false ∷ entry.Write 0 34 false ∷ entry.Write 0 35 false ∷ entry.Write 0 36 false ∷ entry.Write 0 37 false ∷ entry.Write 0 38 false ∷ entry.Write 0 39 false ∷ entry.Write 0 40 false ∷ entry.Write 0 41 false ∷ entry.Claimed 0 32 ∷ entry.Claimed 0 33 ∷ entry.Claimed 0 34 ∷ entry.Claimed 0 35 ∷ entry.Claimed 0 36 ∷ entry.Claimed 0 37 ∷ entry.Claimed 0 38 ∷ entry.Claimed 0 39 ∷ entry.Claimed 0 40 ∷ entry.Claimed 0 41 ∷ entry.Batch 0 10 69 71 ∷ entry.Done 0 32 ∷ entry.Done 0 33 ∷ entry.Done 0 34 ∷ entry.Done 0 35 ∷ entry.Done 0 36 ∷ entry.Done 0 37 ∷ entry.Done 0 38 ∷ entry.Done 0 39 ∷ entry.Done 0 40 ∷ entry.Done 0 41 ∷ entry.Share 0 0 10 ∷ entry.Share 1 0 10 ∷ []) (check 0 0 69 (read 0 0 1 0 1 0 (pos 0) 0 0 1) (Some (read 1 0 13 6 13 0 (pos 0) 0 0 1)) 0 (pos 0) 0 kind.Free 0 1 0 1 69 ∷ check 0 0 69 (read 0 0 1 0 1 0 (pos 0) 0 0 1) (Some (read 1 0 13 6 13 0 (pos 0) 0 0 1)) 0 (pos 0) 0 kind.Free 0 1 0 1 69 ∷ check 0 0 69 (read 0 0 1 0 1 0 (pos 0) 0 0 1) (Some (read 1 0 13 6 13 0 (pos 0) 0 0 1)) 0 (pos 0) 0 kind.Free 0 1 0 1 69 ∷ check 0 0 69 (read 0 0 1 0 1 0 (pos 0) 0 0 1) (Some (read 1 0 13 6 13 0 (pos 0) 0 0 1)) 0 (pos 0) 0 kind.Free 0 1 0 1 69 ∷ check 0 0 69 (read 0 0 1 0 1 0 (pos 0) 0 0 1) (Some (read 1 0 13 6 13 0 (pos 0) 0 0 1)) 0 (pos 0) 0 kind.Free 0 1 0 1 69 ∷ check 0 0 69 (read 0 0 1 0 1 0 (pos 0) 0 0 1) (Some (read 1 0 13 6 13 0 (pos 0) 0 0 1)) 0 (pos 0) 0 kind.Free 0 1 0 0 69 ∷ check 0 0 69 (read 0 0 1 0 1 0 (pos 0) 0 0 1) (Some (read 1 0 13 6 13 0 (pos 0) 0 0 1)) 0 (pos 0) 0 kind.Free 0 1 0 1 69 ∷ check 0 0 69 (read 0 0 1 0 1 0 (pos 0) 0 0 1) (Some (read 1 0 13 6 13 0 (pos 0) 0 0 1)) 0 (pos 0) 0 kind.Free 0 1 0 1 69 ∷ []) ([]) ∷ part ([]) ([]) ([]) ∷ []; steps = []; bases = []; homes = []; left = []; strict = []; ending = ending.Done }

-- the trace of the next journals
abbrev pub case_616_0_trace : Trace
case_616_0_trace = record { cpus = 2; cap = 1024; settings = settings 20 10 0 0; avail = avail 0 100000 ∷ []; devices = device 20933 0 100 ∷ []; cgroups = cgroup 60 82 ∷ []; contexts = ageing_context 0 1 27 ∷ []; inodes = inode 0 0 4 ∷ inode 0 4 6 ∷ []; tasks = on_cpu 0 ∷ []; flushers = flusher 0 1 ∷ []; actions = []; order = []; halt = None }

-- a journal of it, which is lawful
abbrev pub case_616_0 : Journal
case_616_0 = record { timer = limits 0 1 19995 9985 19995 ∷ limits 1 1 28 14 28 ∷ []; cpus = part ([]) ([]) ([]) ∷ part ([]) ([]) ([]) ∷ []; steps = []; bases = []; homes = []; left = []; strict = []; ending = ending.Done }

-- a journal of it, which breaks point 9 at line 2
abbrev pub case_616_4 : Journal
case_616_4 = record { timer = limits 1 1 28 14 28 ∷ []; cpus = part ([]) ([]) ([]) ∷ part ([]) ([]) ([]) ∷ []; steps = []; bases = []; homes = []; left = []; strict = []; ending = ending.Done }

-- the trace of the next journals
abbrev pub case_625_0_trace : Trace
case_625_0_trace = record { cpus = 2; cap = 1024; settings = settings 20 10 0 0; avail = avail 0 1000 ∷ avail 24 100000 ∷ avail 1107 10 ∷ []; devices = device 1024 0 100 ∷ strict_device 128 0 100 ∷ []; cgroups = cgroup 3 17 ∷ cgroup 297 104 ∷ []; contexts = context 0 1 ∷ ageing_context 0 2 14 ∷ ageing_context 0 2 10 ∷ []; inodes = inode 0 0 17 ∷ inode 0 17 8 ∷ inode 2 25 18 ∷ inode 1 43 6 ∷ []; tasks = on_cpu 0 ∷ on_cpu 0 ∷ on_cpu 1 ∷ []; flushers = flusher 1 1 ∷ flusher 0 1 ∷ flusher 1 0 ∷ flusher 1 1 ∷ []; actions = action.Write 0 0 16 1 ∷ action.Rest 2 73 ∷ action.Write 1 0 0 17 ∷ action.Write 0 3 0 6 ∷ action.Write 2 1 2 4 ∷ []; order = []; halt = None }

-- a journal of it, which is lawful
abbrev pub case_625_0 : Journal
case_625_0 = record { timer = limits 0 1 199 99 199 ∷ limits 1 1 3 1 3 ∷ limits 2 1 80 40 80 ∷ limits 0 387 19995 9985 19995 ∷ []; cpus = part (entry.Write 0 16 true ∷ entry.Write 1 0 true ∷ entry.Write 0 43 true ∷ entry.Write 1 1 true ∷ entry.Write 0 44 true ∷ entry.Write 1 2 true ∷ entry.Write 0 45 true ∷ entry.Write 1 3 true ∷ entry.Write 0 46 true ∷ entry.Write 1 4 true ∷ entry.Write 0 47 true ∷ entry.Write 1 5 true ∷ entry.Write 0 48 true ∷ entry.Write 1 6 true ∷ entry.Write 1 7 true ∷ entry.Write 1 8 true ∷ entry.Check 0 ∷ entry.Write 1 9 true ∷ entry.Check 1 ∷ entry.Write 1 10 true ∷ entry.Check 2 ∷ entry.Write 1 11 true ∷ entry.Check 3 ∷ entry.Write 1 12 true ∷ entry.Check 4 ∷ entry.Write 1 13 true ∷ entry.Check 5 ∷ entry.Write 1 14 true ∷ folded (counter.Context 0) 1 (pos 16) ∷ entry.Check 6 ∷ entry.Write 1 15 true ∷ entry.Check 7 ∷ entry.Write 1 16 false ∷ []) (check 1 0 1 (read 0 0 199 99 199 0 (pos 0) 0 0 1) (Some (read 1 0 3 1 3 0 (pos 0) 0 0 1)) 0 (pos 0) 0 kind.Free 0 1 0 1 1 ∷ check 1 0 1 (read 0 0 199 99 199 0 (pos 0) 0 0 1) (Some (read 1 0 3 1 3 0 (pos 0) 0 0 1)) 0 (pos 0) 0 kind.Free 0 1 0 1 1 ∷ check 1 0 1 (read 0 0 199 99 199 0 (pos 0) 0 0 1) (Some (read 1 0 3 1 3 0 (pos 0) 0 0 1)) 0 (pos 0) 0 kind.Free 0 1 0 1 1 ∷ check 1 0 1 (read 0 0 199 99 199 0 (pos 0) 0 0 1) (Some (read 1 0 3 1 3 0 (pos 0) 0 0 1)) 0 (pos 0) 0 kind.Free 0 1 0 1 1 ∷ check 1 0 1 (read 0 0 199 99 199 0 (pos 0) 0 0 1) (Some (read 1 0 3 1 3 0 (pos 0) 0 0 1)) 0 (pos 0) 0 kind.Free 0 1 0 1 1 ∷ check 1 0 1 (read 0 0 199 99 199 0 (pos 0) 0 0 1) (Some (read 1 0 3 1 3 0 (pos 0) 0 0 1)) 0 (pos 0) 0 kind.Free 0 1 0 1 1 ∷ check 1 0 1 (read 0 0 199 99 199 0 (pos 0) 0 0 1) (Some (read 1 0 3 1 3 0 (pos 0) 0 0 1)) 1 (pos 16) 0 kind.Free 0 1 0 1 1 ∷ check 1 0 1 (read 0 0 199 99 199 0 (pos 0) 0 0 1) (Some (read 1 0 3 1 3 0 (pos 0) 0 0 1)) 1 (pos 16) 0 kind.Free 0 1 0 1 1 ∷ []) ([]) ∷ part (entry.Noticed 1 0 1 ∷ entry.Noticed 1 3 1 ∷ entry.Write 2 19 true ∷ entry.Est 0 ∷ entry.Est 1 ∷ entry.Est 2 ∷ entry.Noticed 1 1 387 ∷ entry.Aged 1 3 141 387 ∷ entry.Write 2 20 true ∷ entry.Claimed 1 43 ∷ entry.Write 2 21 true ∷ entry.Claimed 1 44 ∷ entry.Write 2 22 true ∷ entry.Claimed 1 45 ∷ entry.Claimed 1 46 ∷ entry.Claimed 1 47 ∷ entry.Claimed 1 48 ∷ entry.Batch 1 6 499 505 ∷ entry.Done 1 43 ∷ entry.Done 1 44 ∷ entry.Done 1 45 ∷ entry.Done 1 46 ∷ entry.Done 1 47 ∷ entry.Done 1 48 ∷ entry.Share 0 1 6 ∷ entry.Share 2 1 6 ∷ entry.Taken 1 0 ∷ entry.Claimed 1 0 ∷ entry.Claimed 1 1 ∷ entry.Claimed 1 2 ∷ entry.Claimed 1 3 ∷ entry.Claimed 1 4 ∷ entry.Claimed 1 5 ∷ entry.Claimed 1 6 ∷ entry.Claimed 1 7 ∷ entry.Claimed 1 8 ∷ entry.Claimed 1 9 ∷ entry.Claimed 1 10 ∷ entry.Claimed 1 11 ∷ entry.Claimed 1 12 ∷ entry.Claimed 1 13 ∷ entry.Claimed 1 14 ∷ entry.Claimed 1 15 ∷ entry.Claimed 1 16 ∷ entry.Batch 1 17 1129 1146 ∷ entry.Done 1 0 ∷ entry.Done 1 1 ∷ entry.Done 1 2 ∷ entry.Done 1 3 ∷ entry.Done 1 4 ∷ entry.Done 1 5 ∷ entry.Done 1 6 ∷ entry.Done 1 7 ∷ entry.Done 1 8 ∷ entry.Done 1 9 ∷ entry.Done 1 10 ∷ entry.Done 1 11 ∷ entry.Done 1 12 ∷ entry.Done 1 13 ∷ entry.Done 1 14 ∷ entry.Done 1 15 ∷ entry.Done 1 16 ∷ entry.Share 0 0 17 ∷ entry.Share 1 0 17 ∷ entry.Taken 1 1 ∷ entry.Claimed 1 19 ∷ entry.Claimed 1 20 ∷ entry.Claimed 1 21 ∷ entry.Claimed 1 22 ∷ entry.Batch 1 4 1475 1479 ∷ entry.Done 1 19 ∷ entry.Done 1 20 ∷ entry.Done 1 21 ∷ folded (counter.Context 0) 2 (negsuc 15) ∷ entry.Done 1 22 ∷ entry.Share 0 0 4 ∷ entry.Share 1 0 4 ∷ []) ([]) (estimate 0 1 23187 25600 25600 25600 0 16 387 ∷ estimate 1 1 23187 25600 25600 25600 0 0 387 ∷ estimate 2 1 23187 25600 25600 25600 0 0 387 ∷ []) ∷ []; steps = []; bases = []; homes = []; left = []; strict = []; ending = ending.Done }

-- a journal of it, which breaks point 3 at line 25
abbrev pub case_625_3 : Journal
case_625_3 = record { timer = limits 0 1 199 99 199 ∷ limits 1 1 3 1 3 ∷ limits 2 1 80 40 80 ∷ limits 0 387 19995 9985 19995 ∷ []; cpus = part (entry.Write 0 16 true ∷ entry.Write 1 0 true ∷ entry.Write 0 43 true ∷ entry.Write 1 1 true ∷ entry.Write 0 44 true ∷ entry.Write 1 2 true ∷ entry.Write 0 45 true ∷ entry.Write 1 3 true ∷ entry.Write 0 46 true ∷ entry.Write 1 4 true ∷ entry.Write 0 47 true ∷ entry.Write 1 5 true ∷ entry.Write 0 48 true ∷ entry.Write 1 6 true ∷ entry.Write 1 7 true ∷ entry.Write 1 8 true ∷ entry.Check 0 ∷ entry.Write 1 9 true ∷ entry.Check 1 ∷ entry.Write 1 10 true ∷ entry.Check 2 ∷ entry.Write 1 11 true ∷ entry.Check 3 ∷ entry.Write 1 12 true ∷ entry.Check 4 ∷ entry.Write 1 13 true ∷ entry.Check 5 ∷ entry.Write 1 14 true ∷ folded (counter.Context 0) 1 (pos 16) ∷ entry.Check 6 ∷ entry.Write 1 15 true ∷ entry.Check 7 ∷ entry.Write 1 16 false ∷ []) (check 1 0 1 (read 0 0 199 99 199 0 (pos 0) 0 0 1) (Some (read 1 0 3 1 3 0 (pos 0) 0 0 1)) 1 (pos 0) 0 kind.Free 0 1 0 1 1 ∷ check 1 0 1 (read 0 0 199 99 199 0 (pos 0) 0 0 1) (Some (read 1 0 3 1 3 0 (pos 0) 0 0 1)) 0 (pos 0) 0 kind.Free 0 1 0 1 1 ∷ check 1 0 1 (read 0 0 199 99 199 0 (pos 0) 0 0 1) (Some (read 1 0 3 1 3 0 (pos 0) 0 0 1)) 0 (pos 0) 0 kind.Free 0 1 0 1 1 ∷ check 1 0 1 (read 0 0 199 99 199 0 (pos 0) 0 0 1) (Some (read 1 0 3 1 3 0 (pos 0) 0 0 1)) 0 (pos 0) 0 kind.Free 0 1 0 1 1 ∷ check 1 0 1 (read 0 0 199 99 199 0 (pos 0) 0 0 1) (Some (read 1 0 3 1 3 0 (pos 0) 0 0 1)) 0 (pos 0) 0 kind.Free 0 1 0 1 1 ∷ check 1 0 1 (read 0 0 199 99 199 0 (pos 0) 0 0 1) (Some (read 1 0 3 1 3 0 (pos 0) 0 0 1)) 0 (pos 0) 0 kind.Free 0 1 0 1 1 ∷ check 1 0 1 (read 0 0 199 99 199 0 (pos 0) 0 0 1) (Some (read 1 0 3 1 3 0 (pos 0) 0 0 1)) 1 (pos 16) 0 kind.Free 0 1 0 1 1 ∷ check 1 0 1 (read 0 0 199 99 199 0 (pos 0) 0 0 1) (Some (read 1 0 3 1 3 0 (pos 0) 0 0 1)) 1 (pos 16) 0 kind.Free 0 1 0 1 1 ∷ []) ([]) ∷ part (entry.Noticed 1 0 1 ∷ entry.Noticed 1 3 1 ∷ entry.Write 2 19 true ∷ entry.Est 0 ∷ entry.Est 1 ∷ entry.Est 2 ∷ entry.Noticed 1 1 387 ∷ entry.Aged 1 3 141 387 ∷ entry.Write 2 20 true ∷ entry.Claimed 1 43 ∷ entry.Write 2 21 true ∷ entry.Claimed 1 44 ∷ entry.Write 2 22 true ∷ entry.Claimed 1 45 ∷ entry.Claimed 1 46 ∷ entry.Claimed 1 47 ∷ entry.Claimed 1 48 ∷ entry.Batch 1 6 499 505 ∷ entry.Done 1 43 ∷ entry.Done 1 44 ∷ entry.Done 1 45 ∷ entry.Done 1 46 ∷ entry.Done 1 47 ∷ entry.Done 1 48 ∷ entry.Share 0 1 6 ∷ entry.Share 2 1 6 ∷ entry.Taken 1 0 ∷ entry.Claimed 1 0 ∷ entry.Claimed 1 1 ∷ entry.Claimed 1 2 ∷ entry.Claimed 1 3 ∷ entry.Claimed 1 4 ∷ entry.Claimed 1 5 ∷ entry.Claimed 1 6 ∷ entry.Claimed 1 7 ∷ entry.Claimed 1 8 ∷ entry.Claimed 1 9 ∷ entry.Claimed 1 10 ∷ entry.Claimed 1 11 ∷ entry.Claimed 1 12 ∷ entry.Claimed 1 13 ∷ entry.Claimed 1 14 ∷ entry.Claimed 1 15 ∷ entry.Claimed 1 16 ∷ entry.Batch 1 17 1129 1146 ∷ entry.Done 1 0 ∷ entry.Done 1 1 ∷ entry.Done 1 2 ∷ entry.Done 1 3 ∷ entry.Done 1 4 ∷ entry.Done 1 5 ∷ entry.Done 1 6 ∷ entry.Done 1 7 ∷ entry.Done 1 8 ∷ entry.Done 1 9 ∷ entry.Done 1 10 ∷ entry.Done 1 11 ∷ entry.Done 1 12 ∷ entry.Done 1 13 ∷ entry.Done 1 14 ∷ entry.Done 1 15 ∷ entry.Done 1 16 ∷ entry.Share 0 0 17 ∷ entry.Share 1 0 17 ∷ entry.Taken 1 1 ∷ entry.Claimed 1 19 ∷ entry.Claimed 1 20 ∷ entry.Claimed 1 21 ∷ entry.Claimed 1 22 ∷ entry.Batch 1 4 1475 1479 ∷ entry.Done 1 19 ∷ entry.Done 1 20 ∷ entry.Done 1 21 ∷ folded (counter.Context 0) 2 (negsuc 15) ∷ entry.Done 1 22 ∷ entry.Share 0 0 4 ∷ entry.Share 1 0 4 ∷ []) ([]) (estimate 0 1 23187 25600 25600 25600 0 16 387 ∷ estimate 1 1 23187 25600 25600 25600 0 0 387 ∷ estimate 2 1 23187 25600 25600 25600 0 0 387 ∷ []) ∷ []; steps = []; bases = []; homes = []; left = []; strict = []; ending = ending.Done }

-- a journal of it, which breaks point 8 at line 28
abbrev pub case_625_4 : Journal
case_625_4 = record { timer = limits 0 1 199 99 199 ∷ limits 1 1 3 1 3 ∷ limits 2 1 80 40 80 ∷ limits 0 387 19995 9985 19995 ∷ []; cpus = part (entry.Write 0 16 true ∷ entry.Write 1 0 true ∷ entry.Write 0 43 true ∷ entry.Write 1 1 true ∷ entry.Write 0 44 true ∷ entry.Write 1 2 true ∷ entry.Write 0 45 true ∷ entry.Write 1 3 true ∷ entry.Write 0 46 true ∷ entry.Write 1 4 true ∷ entry.Write 0 47 true ∷ entry.Write 1 5 true ∷ entry.Write 0 48 true ∷ entry.Write 1 6 true ∷ entry.Write 1 7 true ∷ entry.Write 1 8 true ∷ entry.Check 0 ∷ entry.Write 1 9 true ∷ entry.Write 1 10 true ∷ entry.Check 1 ∷ entry.Write 1 11 true ∷ entry.Check 2 ∷ entry.Write 1 12 true ∷ entry.Check 3 ∷ entry.Write 1 13 true ∷ entry.Check 4 ∷ entry.Write 1 14 true ∷ folded (counter.Context 0) 1 (pos 16) ∷ entry.Check 5 ∷ entry.Write 1 15 true ∷ entry.Check 6 ∷ entry.Write 1 16 false ∷ []) (check 1 0 1 (read 0 0 199 99 199 0 (pos 0) 0 0 1) (Some (read 1 0 3 1 3 0 (pos 0) 0 0 1)) 0 (pos 0) 0 kind.Free 0 1 0 1 1 ∷ check 1 0 1 (read 0 0 199 99 199 0 (pos 0) 0 0 1) (Some (read 1 0 3 1 3 0 (pos 0) 0 0 1)) 0 (pos 0) 0 kind.Free 0 1 0 1 1 ∷ check 1 0 1 (read 0 0 199 99 199 0 (pos 0) 0 0 1) (Some (read 1 0 3 1 3 0 (pos 0) 0 0 1)) 0 (pos 0) 0 kind.Free 0 1 0 1 1 ∷ check 1 0 1 (read 0 0 199 99 199 0 (pos 0) 0 0 1) (Some (read 1 0 3 1 3 0 (pos 0) 0 0 1)) 0 (pos 0) 0 kind.Free 0 1 0 1 1 ∷ check 1 0 1 (read 0 0 199 99 199 0 (pos 0) 0 0 1) (Some (read 1 0 3 1 3 0 (pos 0) 0 0 1)) 0 (pos 0) 0 kind.Free 0 1 0 1 1 ∷ check 1 0 1 (read 0 0 199 99 199 0 (pos 0) 0 0 1) (Some (read 1 0 3 1 3 0 (pos 0) 0 0 1)) 1 (pos 16) 0 kind.Free 0 1 0 1 1 ∷ check 1 0 1 (read 0 0 199 99 199 0 (pos 0) 0 0 1) (Some (read 1 0 3 1 3 0 (pos 0) 0 0 1)) 1 (pos 16) 0 kind.Free 0 1 0 1 1 ∷ []) ([]) ∷ part (entry.Noticed 1 0 1 ∷ entry.Noticed 1 3 1 ∷ entry.Write 2 19 true ∷ entry.Est 0 ∷ entry.Est 1 ∷ entry.Est 2 ∷ entry.Noticed 1 1 387 ∷ entry.Aged 1 3 141 387 ∷ entry.Write 2 20 true ∷ entry.Claimed 1 43 ∷ entry.Write 2 21 true ∷ entry.Claimed 1 44 ∷ entry.Write 2 22 true ∷ entry.Claimed 1 45 ∷ entry.Claimed 1 46 ∷ entry.Claimed 1 47 ∷ entry.Claimed 1 48 ∷ entry.Batch 1 6 499 505 ∷ entry.Done 1 43 ∷ entry.Done 1 44 ∷ entry.Done 1 45 ∷ entry.Done 1 46 ∷ entry.Done 1 47 ∷ entry.Done 1 48 ∷ entry.Share 0 1 6 ∷ entry.Share 2 1 6 ∷ entry.Taken 1 0 ∷ entry.Claimed 1 0 ∷ entry.Claimed 1 1 ∷ entry.Claimed 1 2 ∷ entry.Claimed 1 3 ∷ entry.Claimed 1 4 ∷ entry.Claimed 1 5 ∷ entry.Claimed 1 6 ∷ entry.Claimed 1 7 ∷ entry.Claimed 1 8 ∷ entry.Claimed 1 9 ∷ entry.Claimed 1 10 ∷ entry.Claimed 1 11 ∷ entry.Claimed 1 12 ∷ entry.Claimed 1 13 ∷ entry.Claimed 1 14 ∷ entry.Claimed 1 15 ∷ entry.Claimed 1 16 ∷ entry.Batch 1 17 1129 1146 ∷ entry.Done 1 0 ∷ entry.Done 1 1 ∷ entry.Done 1 2 ∷ entry.Done 1 3 ∷ entry.Done 1 4 ∷ entry.Done 1 5 ∷ entry.Done 1 6 ∷ entry.Done 1 7 ∷ entry.Done 1 8 ∷ entry.Done 1 9 ∷ entry.Done 1 10 ∷ entry.Done 1 11 ∷ entry.Done 1 12 ∷ entry.Done 1 13 ∷ entry.Done 1 14 ∷ entry.Done 1 15 ∷ entry.Done 1 16 ∷ entry.Share 0 0 17 ∷ entry.Share 1 0 17 ∷ entry.Taken 1 1 ∷ entry.Claimed 1 19 ∷ entry.Claimed 1 20 ∷ entry.Claimed 1 21 ∷ entry.Check 0 ∷ entry.Claimed 1 22 ∷ entry.Batch 1 4 1475 1479 ∷ entry.Done 1 19 ∷ entry.Done 1 20 ∷ entry.Done 1 21 ∷ folded (counter.Context 0) 2 (negsuc 15) ∷ entry.Done 1 22 ∷ entry.Share 0 0 4 ∷ entry.Share 1 0 4 ∷ []) (check 1 0 1 (read 0 0 199 99 199 0 (pos 0) 0 0 1) (Some (read 1 0 3 1 3 0 (pos 0) 0 0 1)) 0 (pos 0) 0 kind.Free 0 1 0 1 1 ∷ []) (estimate 0 1 23187 25600 25600 25600 0 16 387 ∷ estimate 1 1 23187 25600 25600 25600 0 0 387 ∷ estimate 2 1 23187 25600 25600 25600 0 0 387 ∷ []) ∷ []; steps = []; bases = []; homes = []; left = []; strict = []; ending = ending.Done }
