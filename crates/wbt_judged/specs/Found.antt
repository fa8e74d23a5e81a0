-- Journals of which an independent program told the verdict: made by tools/judged-values.
use Rattle.std.specs.Prelude.{true, false, Some, None, [], ◌∷◌, pos, negsuc}
use Rattle.wbt_counter.specs.declared.counter.Counter.TheVariants as counter
use Rattle.wbt_pause.specs.declared.decision.Kind.TheVariants as kind
use Rattle.wbt_trace.specs.declared.trace.Action.TheVariants as action
use Rattle.wbt_trace.specs.declared.trace.Trace.{Trace}
use Rattle.wbt_journal.specs.declared.entry.Entry.TheVariants as entry
use Rattle.wbt_journal.specs.declared.journal.Ending.TheVariants as ending
use Rattle.wbt_journal.specs.declared.journal.Journal.{Journal}
use Rattle.wbt_judged.specs.Lines.{settings, avail, device, cgroup, context, inode, on_cpu, flusher, limits, folded, read, check, estimate, part, left}

-- the trace of the next journals
abbrev pub case_508_0_trace : Trace
case_508_0_trace = record { cpus = 2; cap = 2; settings = settings 37 24 0 0; avail = avail 0 1 ∷ avail 83 7 ∷ []; devices = device 2048 0 100 ∷ []; cgroups = []; contexts = context 0 0 ∷ context 0 0 ∷ []; inodes = inode 1 0 6 ∷ []; tasks = on_cpu 0 ∷ on_cpu 0 ∷ []; flushers = flusher 0 1 ∷ flusher 0 1 ∷ []; actions = action.Write 0 0 2 4 ∷ action.Write 0 0 2 3 ∷ action.Write 1 0 4 2 ∷ []; order = []; halt = None }

-- a journal of it, which is lawful
abbrev pub case_508_0 : Journal
case_508_0 = record { timer = limits 0 1 0 0 0 ∷ []; cpus = part (entry.Write 0 2 true ∷ entry.Write 1 4 true ∷ entry.Write 0 3 true ∷ entry.Write 1 5 true ∷ entry.Check 0 ∷ entry.Check 1 ∷ entry.Write 0 4 false ∷ entry.Write 0 5 false ∷ entry.Write 0 2 false ∷ entry.Write 0 3 false ∷ entry.Write 0 4 false ∷ []) (check 0 1 1 (read 0 0 0 0 0 0 (pos 0) 0 0 1) None 0 (pos 0) 0 kind.Free 0 1 0 1 1 ∷ check 1 1 1 (read 0 0 0 0 0 0 (pos 0) 0 0 1) None 0 (pos 0) 0 kind.Free 0 1 0 1 1 ∷ []) ([]) ∷ part (entry.Claimed 0 2 ∷ entry.Claimed 0 3 ∷ entry.Claimed 0 4 ∷ entry.Claimed 0 5 ∷ entry.Batch 0 4 1 3 ∷ entry.Done 0 2 ∷ entry.Done 0 3 ∷ entry.Done 0 4 ∷ entry.Done 0 5 ∷ entry.Share 0 1 4 ∷ []) ([]) ([]) ∷ []; steps = []; bases = []; homes = []; left = []; strict = []; ending = ending.Done }

-- a journal of it, which breaks point 4 at line 8
abbrev pub case_508_1 : Journal
case_508_1 = record { timer = limits 0 1 0 0 0 ∷ []; cpus = part (entry.Write 0 2 true ∷ entry.Write 1 4 true ∷ entry.Write 0 3 true ∷ entry.Write 1 5 true ∷ entry.Check 0 ∷ entry.Check 1 ∷ entry.Write 0 4 false ∷ entry.Write 0 5 false ∷ entry.Write 0 2 false ∷ entry.Write 0 3 false ∷ entry.Write 0 4 false ∷ []) (check 0 1 1 (read 0 1 0 0 0 0 (pos 0) 0 0 1) None 0 (pos 0) 0 kind.Free 0 1 0 1 1 ∷ check 1 1 1 (read 0 0 0 0 0 0 (pos 0) 0 0 1) None 0 (pos 0) 0 kind.Free 0 1 0 1 1 ∷ []) ([]) ∷ part (entry.Claimed 0 2 ∷ entry.Claimed 0 3 ∷ entry.Claimed 0 4 ∷ entry.Claimed 0 5 ∷ entry.Batch 0 4 1 3 ∷ entry.Done 0 2 ∷ entry.Done 0 3 ∷ entry.Done 0 4 ∷ entry.Done 0 5 ∷ entry.Share 0 1 4 ∷ []) ([]) ([]) ∷ []; steps = []; bases = []; homes = []; left = []; strict = []; ending = ending.Done }

-- a journal of it, which breaks point 7 at line 13
abbrev pub case_508_2 : Journal
case_508_2 = record { timer = limits 0 1 0 0 0 ∷ []; cpus = part (entry.Write 0 2 true ∷ entry.Write 1 4 true ∷ entry.Write 0 3 true ∷ entry.Write 1 5 true ∷ entry.Check 0 ∷ entry.Check 1 ∷ entry.Write 0 4 false ∷ entry.Write 0 5 false ∷ entry.Write 0 2 false ∷ entry.Write 0 3 false ∷ entry.Write 0 4 false ∷ []) (check 0 1 1 (read 0 0 0 0 0 0 (pos 0) 0 0 1) None 0 (pos 0) 0 kind.Free 0 1 0 1 1 ∷ check 1 1 1 (read 0 0 0 0 0 0 (pos 0) 0 0 1) None 0 (pos 0) 0 kind.Free 1 1 0 1 1 ∷ []) ([]) ∷ part (entry.Claimed 0 2 ∷ entry.Claimed 0 3 ∷ entry.Claimed 0 4 ∷ entry.Claimed 0 5 ∷ entry.Batch 0 4 1 3 ∷ entry.Done 0 2 ∷ entry.Done 0 3 ∷ entry.Done 0 4 ∷ entry.Done 0 5 ∷ entry.Share 0 1 4 ∷ []) ([]) ([]) ∷ []; steps = []; bases = []; homes = []; left = []; strict = []; ending = ending.Done }

-- a journal of it, which breaks point 14 at line 7
abbrev pub case_508_3 : Journal
case_508_3 = record { timer = limits 0 1 0 0 0 ∷ []; cpus = part (entry.Write 0 2 true ∷ entry.Write 1 4 true ∷ entry.Write 0 3 true ∷ entry.Done 0 2 ∷ entry.Write 1 5 true ∷ entry.Check 0 ∷ entry.Check 1 ∷ entry.Write 0 4 false ∷ entry.Write 0 5 false ∷ entry.Write 0 2 false ∷ entry.Write 0 3 false ∷ entry.Write 0 4 false ∷ []) (check 0 1 1 (read 0 0 0 0 0 0 (pos 0) 0 0 1) None 0 (pos 0) 0 kind.Free 0 1 0 1 1 ∷ check 1 1 1 (read 0 0 0 0 0 0 (pos 0) 0 0 1) None 0 (pos 0) 0 kind.Free 0 1 0 1 1 ∷ []) ([]) ∷ part (entry.Claimed 0 2 ∷ entry.Claimed 0 3 ∷ entry.Claimed 0 4 ∷ entry.Claimed 0 5 ∷ entry.Batch 0 4 1 3 ∷ entry.Done 0 3 ∷ entry.Done 0 4 ∷ entry.Done 0 5 ∷ entry.Share 0 1 4 ∷ []) ([]) ([]) ∷ []; steps = []; bases = []; homes = []; left = []; strict = []; ending = ending.Done }

-- a journal of it, which breaks point 8 at line 9
abbrev pub case_508_4 : Journal
case_508_4 = record { timer = limits 0 1 0 0 0 ∷ []; cpus = part (entry.Write 1 4 true ∷ entry.Write 0 3 true ∷ entry.Write 1 5 true ∷ entry.Check 0 ∷ entry.Check 1 ∷ entry.Write 0 4 false ∷ entry.Write 0 5 false ∷ entry.Write 0 2 false ∷ entry.Write 0 3 false ∷ entry.Write 0 4 false ∷ []) (check 0 1 1 (read 0 0 0 0 0 0 (pos 0) 0 0 1) None 0 (pos 0) 0 kind.Free 0 1 0 1 1 ∷ check 1 1 1 (read 0 0 0 0 0 0 (pos 0) 0 0 1) None 0 (pos 0) 0 kind.Free 0 1 0 1 1 ∷ []) ([]) ∷ part (entry.Claimed 0 2 ∷ entry.Claimed 0 3 ∷ entry.Claimed 0 4 ∷ entry.Claimed 0 5 ∷ entry.Batch 0 4 1 3 ∷ entry.Done 0 2 ∷ entry.Done 0 3 ∷ entry.Done 0 4 ∷ entry.Done 0 5 ∷ entry.Share 0 1 4 ∷ entry.Write 0 2 true ∷ []) ([]) ([]) ∷ []; steps = []; bases = []; homes = []; left = []; strict = []; ending = ending.Done }

-- the trace of the next journals
abbrev pub case_512_0_trace : Trace
case_512_0_trace = record { cpus = 2; cap = 772; settings = settings 20 10 0 0; avail = avail 0 100000 ∷ []; devices = device 29897 0 100 ∷ []; cgroups = []; contexts = context 0 0 ∷ []; inodes = inode 0 0 5 ∷ inode 0 5 4 ∷ []; tasks = on_cpu 1 ∷ on_cpu 0 ∷ []; flushers = flusher 0 1 ∷ []; actions = action.Write 1 0 0 5 ∷ []; order = []; halt = None }

-- a journal of it, which is lawful
abbrev pub case_512_0 : Journal
case_512_0 = record { timer = limits 0 1 19995 9985 19995 ∷ []; cpus = part (entry.Write 1 0 true ∷ entry.Write 1 1 true ∷ entry.Write 1 2 true ∷ entry.Write 1 3 true ∷ entry.Write 1 4 true ∷ []) ([]) ([]) ∷ part (entry.Claimed 0 0 ∷ entry.Claimed 0 1 ∷ entry.Claimed 0 2 ∷ entry.Claimed 0 3 ∷ entry.Claimed 0 4 ∷ entry.Batch 0 5 1 2 ∷ entry.Done 0 0 ∷ entry.Done 0 1 ∷ entry.Done 0 2 ∷ entry.Done 0 3 ∷ entry.Done 0 4 ∷ entry.Share 0 0 5 ∷ []) ([]) ([]) ∷ []; steps = []; bases = []; homes = []; left = []; strict = []; ending = ending.Done }

-- a journal of it, which breaks point 14 at line 4
abbrev pub case_512_1 : Journal
case_512_1 = record { timer = limits 0 1 19995 9985 19995 ∷ []; cpus = part (entry.Batch 0 5 1 2 ∷ entry.Write 1 0 true ∷ entry.Write 1 1 true ∷ entry.Write 1 2 true ∷ entry.Write 1 3 true ∷ entry.Write 1 4 true ∷ []) ([]) ([]) ∷ part (entry.Claimed 0 0 ∷ entry.Claimed 0 1 ∷ entry.Claimed 0 2 ∷ entry.Claimed 0 3 ∷ entry.Claimed 0 4 ∷ entry.Done 0 0 ∷ entry.Done 0 1 ∷ entry.Done 0 2 ∷ entry.Done 0 3 ∷ entry.Done 0 4 ∷ entry.Share 0 0 5 ∷ []) ([]) ([]) ∷ []; steps = []; bases = []; homes = []; left = []; strict = []; ending = ending.Done }

-- a journal of it, which breaks point 14 at line 6
abbrev pub case_512_2 : Journal
case_512_2 = record { timer = limits 0 1 19995 9985 19995 ∷ []; cpus = part (entry.Write 1 0 true ∷ entry.Write 1 1 true ∷ entry.Claimed 0 1 ∷ entry.Write 1 2 true ∷ entry.Write 1 3 true ∷ entry.Write 1 4 true ∷ []) ([]) ([]) ∷ part (entry.Claimed 0 0 ∷ entry.Claimed 0 2 ∷ entry.Claimed 0 3 ∷ entry.Claimed 0 4 ∷ entry.Batch 0 5 1 2 ∷ entry.Done 0 0 ∷ entry.Done 0 1 ∷ entry.Done 0 2 ∷ entry.Done 0 3 ∷ entry.Done 0 4 ∷ entry.Share 0 0 5 ∷ []) ([]) ([]) ∷ []; steps = []; bases = []; homes = []; left = []; strict = []; ending = ending.Done }

-- a journal of it, which breaks point 14 at line 7
abbrev pub case_512_3 : Journal
case_512_3 = record { timer = limits 0 1 19995 9985 19995 ∷ []; cpus = part (entry.Write 1 0 true ∷ entry.Write 1 1 true ∷ entry.Write 1 2 true ∷ entry.Done 0 1 ∷ entry.Write 1 3 true ∷ entry.Write 1 4 true ∷ []) ([]) ([]) ∷ part (entry.Claimed 0 0 ∷ entry.Claimed 0 1 ∷ entry.Claimed 0 2 ∷ entry.Claimed 0 3 ∷ entry.Claimed 0 4 ∷ entry.Batch 0 5 1 2 ∷ entry.Done 0 0 ∷ entry.Done 0 2 ∷ entry.Done 0 3 ∷ entry.Done 0 4 ∷ entry.Share 0 0 5 ∷ []) ([]) ([]) ∷ []; steps = []; bases = []; homes = []; left = []; strict = []; ending = ending.Done }

-- a journal of it, which breaks point 14 at line 15
abbrev pub case_512_4 : Journal
case_512_4 = record { timer = limits 0 1 19995 9985 19995 ∷ []; cpus = part (entry.Write 1 0 true ∷ entry.Write 1 1 true ∷ entry.Write 1 2 true ∷ entry.Write 1 3 true ∷ entry.Write 1 4 true ∷ []) ([]) ([]) ∷ part (entry.Claimed 0 0 ∷ entry.Claimed 0 1 ∷ entry.Claimed 0 2 ∷ entry.Claimed 0 3 ∷ entry.Claimed 0 4 ∷ entry.Done 0 0 ∷ entry.Done 0 1 ∷ entry.Done 0 2 ∷ entry.Done 0 3 ∷ entry.Done 0 4 ∷ entry.Share 0 0 5 ∷ []) ([]) ([]) ∷ []; steps = []; bases = []; homes = []; left = []; strict = []; ending = ending.Done }

-- the trace of the next journals
abbrev pub case_515_1_trace : Trace
case_515_1_trace = record { cpus = 5; cap = 1024; settings = settings 20 0 0 0; avail = avail 0 1 ∷ []; devices = device 4096 7 100 ∷ []; cgroups = []; contexts = context 0 0 ∷ []; inodes = inode 0 0 1 ∷ inode 0 1 2 ∷ []; tasks = on_cpu 0 ∷ []; flushers = flusher 0 1 ∷ flusher 0 3 ∷ []; actions = action.Rest 0 7 ∷ action.Rest 0 1 ∷ action.Write 0 1 0 1 ∷ []; order = []; halt = None }

-- a journal of it, which breaks point 13 at line 15
abbrev pub case_515_1 : Journal
case_515_1 = record { timer = limits 0 1 0 0 0 ∷ limits 0 402 0 0 0 ∷ []; cpus = part (entry.Write 0 1 true ∷ []) ([]) ([]) ∷ part (entry.Est 0 ∷ entry.Claimed 0 1 ∷ entry.Batch 0 1 599 600 ∷ entry.Done 0 2 ∷ entry.Share 0 0 1 ∷ []) ([]) (estimate 0 1 23093 25600 25600 25600 0 0 402 ∷ []) ∷ part ([]) ([]) ([]) ∷ part ([]) ([]) ([]) ∷ part ([]) ([]) ([]) ∷ []; steps = []; bases = []; homes = []; left = []; strict = []; ending = ending.Done }

-- a journal of it, which breaks point 12 at line 5
abbrev pub case_515_2 : Journal
case_515_2 = record { timer = limits 0 1 0 0 0 ∷ limits 0 402 0 0 0 ∷ []; cpus = part (entry.Write 1 1 true ∷ []) ([]) ([]) ∷ part (entry.Est 0 ∷ entry.Claimed 0 1 ∷ entry.Batch 0 1 599 600 ∷ entry.Done 0 1 ∷ entry.Share 0 0 1 ∷ []) ([]) (estimate 0 1 23093 25600 25600 25600 0 0 402 ∷ []) ∷ part ([]) ([]) ([]) ∷ part ([]) ([]) ([]) ∷ part ([]) ([]) ([]) ∷ []; steps = []; bases = []; homes = []; left = []; strict = []; ending = ending.Done }

-- the trace of the next journals
abbrev pub case_521_1_trace : Trace
case_521_1_trace = record { cpus = 2; cap = 1; settings = settings 20 10 0 0; avail = avail 0 100000 ∷ []; devices = device 16384 0 100 ∷ device 50 0 100 ∷ []; cgroups = cgroup 265 118 ∷ []; contexts = context 0 1 ∷ context 0 0 ∷ []; inodes = inode 0 0 9 ∷ inode 0 9 1 ∷ inode 1 10 5 ∷ []; tasks = on_cpu 1 ∷ on_cpu 0 ∷ on_cpu 1 ∷ on_cpu 0 ∷ []; flushers = flusher 1 1 ∷ flusher 0 0 ∷ []; actions = action.Write 0 2 1 1 ∷ action.Write 3 1 0 1 ∷ action.Write 1 2 0 5 ∷ action.Write 2 1 0 1 ∷ action.Write 1 2 0 5 ∷ action.Write 2 2 4 1 ∷ action.Write 2 0 3 3 ∷ action.Write 2 2 0 5 ∷ []; order = []; halt = None }

-- a journal of it, which breaks point 4 at line 11
abbrev pub case_521_1 : Journal
case_521_1 = record { timer = limits 0 1 19995 9985 19995 ∷ limits 1 1 76 38 75 ∷ []; cpus = part (entry.Write 1 10 true ∷ entry.Write 3 9 true ∷ entry.Check 0 ∷ entry.Check 1 ∷ entry.Write 1 11 true ∷ entry.Check 2 ∷ entry.Write 1 12 true ∷ entry.Check 3 ∷ entry.Write 1 13 true ∷ entry.Check 4 ∷ entry.Write 1 14 true ∷ entry.Check 5 ∷ entry.Write 1 10 false ∷ entry.Write 1 11 false ∷ entry.Write 1 12 false ∷ entry.Write 1 13 false ∷ entry.Write 1 14 false ∷ entry.Claimed 1 10 ∷ entry.Claimed 1 11 ∷ entry.Claimed 1 12 ∷ entry.Claimed 1 13 ∷ entry.Claimed 1 14 ∷ entry.Batch 1 5 1 2 ∷ entry.Done 1 10 ∷ entry.Done 1 11 ∷ entry.Done 1 12 ∷ entry.Done 1 13 ∷ entry.Done 1 14 ∷ entry.Share 0 1 5 ∷ entry.Claimed 1 9 ∷ entry.Batch 1 1 2 3 ∷ entry.Done 1 9 ∷ entry.Share 0 0 1 ∷ entry.Share 1 0 1 ∷ entry.Claimed 1 3 ∷ entry.Claimed 1 4 ∷ entry.Claimed 1 5 ∷ entry.Batch 1 3 3 4 ∷ entry.Done 1 3 ∷ entry.Done 1 4 ∷ entry.Done 1 5 ∷ entry.Share 0 0 3 ∷ entry.Share 1 0 3 ∷ []) (check 1 1 1 (read 0 0 19995 9985 19995 0 (pos 0) 0 0 1) None 0 (pos 0) 0 kind.Free 0 1 0 128 1 ∷ check 3 0 1 (read 0 0 19995 9985 19995 0 (pos 0) 0 0 1) (Some (read 1 0 76 38 76 0 (pos 0) 0 0 1)) 0 (pos 0) 0 kind.Free 0 1 0 8 1 ∷ check 1 1 1 (read 0 0 19995 9985 19995 0 (pos 0) 0 0 1) None 0 (pos 0) 0 kind.Free 0 1 0 128 1 ∷ check 1 1 1 (read 0 0 19995 9985 19995 0 (pos 0) 0 0 1) None 0 (pos 0) 0 kind.Free 0 1 0 128 1 ∷ check 1 1 1 (read 0 0 19995 9985 19995 0 (pos 0) 0 0 1) None 0 (pos 0) 0 kind.Free 0 1 0 128 1 ∷ check 1 1 1 (read 0 0 19995 9985 19995 0 (pos 0) 0 0 1) None 0 (pos 0) 0 kind.Free 0 1 0 128 1 ∷ []) ([]) ∷ part (entry.Write 0 11 false ∷ entry.Write 2 9 false ∷ entry.Write 2 14 false ∷ entry.Write 2 3 true ∷ entry.Check 0 ∷ entry.Write 2 4 true ∷ entry.Check 1 ∷ entry.Write 2 5 true ∷ entry.Check 2 ∷ entry.Write 2 10 false ∷ entry.Write 2 11 false ∷ entry.Write 2 12 false ∷ entry.Write 2 13 false ∷ entry.Write 2 14 false ∷ []) (check 2 0 1 (read 0 0 19995 9985 19995 0 (pos 0) 0 0 1) (Some (read 1 0 76 38 76 0 (pos 0) 0 0 1)) 0 (pos 0) 0 kind.Free 0 1 0 8 1 ∷ check 2 0 1 (read 0 0 19995 9985 19995 0 (pos 0) 0 0 1) (Some (read 1 0 76 38 76 0 (pos 0) 0 0 1)) 0 (pos 0) 0 kind.Free 0 1 0 8 1 ∷ check 2 0 1 (read 0 0 19995 9985 19995 0 (pos 0) 0 0 1) (Some (read 1 0 76 38 76 0 (pos 0) 0 0 1)) 0 (pos 0) 0 kind.Free 0 1 0 8 1 ∷ []) ([]) ∷ []; steps = []; bases = []; homes = []; left = []; strict = []; ending = ending.Done }

-- the trace of the next journals
abbrev pub case_532_0_trace : Trace
case_532_0_trace = record { cpus = 2; cap = 1024; settings = settings 20 10 0 0; avail = avail 0 1000 ∷ avail 419 0 ∷ []; devices = device 6462 0 100 ∷ []; cgroups = cgroup 913 617 ∷ []; contexts = context 0 0 ∷ context 0 1 ∷ []; inodes = inode 0 0 1 ∷ inode 1 1 4 ∷ []; tasks = on_cpu 0 ∷ []; flushers = flusher 0 1 ∷ []; actions = action.Write 0 1 0 4 ∷ []; order = []; halt = None }

-- a journal of it, which is lawful
abbrev pub case_532_0 : Journal
case_532_0 = record { timer = limits 0 1 199 99 199 ∷ limits 1 1 199 99 199 ∷ []; cpus = part (entry.Write 0 1 true ∷ entry.Write 0 2 true ∷ entry.Write 0 3 true ∷ entry.Write 0 4 true ∷ []) ([]) ([]) ∷ part (entry.Claimed 0 1 ∷ entry.Claimed 0 2 ∷ entry.Claimed 0 3 ∷ entry.Claimed 0 4 ∷ entry.Batch 0 4 1 2 ∷ entry.Done 0 1 ∷ entry.Done 0 2 ∷ entry.Done 0 3 ∷ entry.Done 0 4 ∷ entry.Share 0 1 4 ∷ entry.Share 1 1 4 ∷ []) ([]) ([]) ∷ []; steps = []; bases = []; homes = []; left = []; strict = []; ending = ending.Done }

-- a journal of it, which breaks point 16 at line 23
abbrev pub case_532_1 : Journal
case_532_1 = record { timer = limits 0 1 199 99 199 ∷ limits 1 1 199 99 199 ∷ []; cpus = part (entry.Write 0 1 true ∷ entry.Write 0 2 true ∷ entry.Write 0 3 true ∷ entry.Write 0 4 true ∷ []) ([]) ([]) ∷ part (entry.Claimed 0 1 ∷ entry.Claimed 0 2 ∷ entry.Claimed 0 3 ∷ entry.Claimed 0 4 ∷ entry.Batch 0 4 1 2 ∷ entry.Done 0 1 ∷ entry.Done 0 2 ∷ entry.Done 0 3 ∷ entry.Done 0 4 ∷ entry.Share 0 1 4 ∷ entry.Share 1 1 4 ∷ []) ([]) ([]) ∷ []; steps = []; bases = []; homes = []; left = []; strict = []; ending = ending.Spent }

-- a journal of it, which breaks point 9 at line 2
abbrev pub case_532_2 : Journal
case_532_2 = record { timer = limits 0 1 200 99 199 ∷ limits 1 1 199 99 199 ∷ []; cpus = part (entry.Write 0 1 true ∷ entry.Write 0 2 true ∷ entry.Write 0 3 true ∷ entry.Write 0 4 true ∷ []) ([]) ([]) ∷ part (entry.Claimed 0 1 ∷ entry.Claimed 0 2 ∷ entry.Claimed 0 3 ∷ entry.Claimed 0 4 ∷ entry.Batch 0 4 1 2 ∷ entry.Done 0 1 ∷ entry.Done 0 2 ∷ entry.Done 0 3 ∷ entry.Done 0 4 ∷ entry.Share 0 1 4 ∷ entry.Share 1 1 4 ∷ []) ([]) ([]) ∷ []; steps = []; bases = []; homes = []; left = []; strict = []; ending = ending.Done }

-- a journal of it, which breaks point 13 at line 21
abbrev pub case_532_3 : Journal
case_532_3 = record { timer = limits 0 1 199 99 199 ∷ limits 1 1 199 99 199 ∷ []; cpus = part (entry.Write 0 1 true ∷ entry.Write 0 2 true ∷ entry.Write 0 3 true ∷ entry.Write 0 4 true ∷ []) ([]) ([]) ∷ part (entry.Claimed 0 1 ∷ entry.Claimed 0 2 ∷ entry.Claimed 0 3 ∷ entry.Claimed 0 4 ∷ entry.Batch 0 4 1 2 ∷ entry.Done 0 1 ∷ entry.Done 0 1 ∷ entry.Done 0 3 ∷ entry.Done 0 4 ∷ entry.Share 0 1 4 ∷ entry.Share 1 1 4 ∷ []) ([]) ([]) ∷ []; steps = []; bases = []; homes = []; left = []; strict = []; ending = ending.Done }

-- a journal of it, which breaks point 14 at line 9
abbrev pub case_532_4 : Journal
case_532_4 = record { timer = limits 0 1 199 99 199 ∷ limits 1 1 199 99 199 ∷ []; cpus = part (entry.Write 0 1 true ∷ entry.Write 0 2 true ∷ entry.Write 0 3 true ∷ entry.Write 0 4 true ∷ entry.Done 0 4 ∷ []) ([]) ([]) ∷ part (entry.Claimed 0 1 ∷ entry.Claimed 0 2 ∷ entry.Claimed 0 3 ∷ entry.Claimed 0 4 ∷ entry.Batch 0 4 1 2 ∷ entry.Done 0 1 ∷ entry.Done 0 2 ∷ entry.Done 0 3 ∷ entry.Share 0 1 4 ∷ entry.Share 1 1 4 ∷ []) ([]) ([]) ∷ []; steps = []; bases = []; homes = []; left = []; strict = []; ending = ending.Done }

-- the trace of the next journals
abbrev pub case_539_3_trace : Trace
case_539_3_trace = record { cpus = 3; cap = 16; settings = settings 34 65 2147 94209; avail = avail 0 300 ∷ avail 343 0 ∷ []; devices = device 128 0 77 ∷ device 2048 9 17 ∷ []; cgroups = cgroup 25 243 ∷ []; contexts = context 1 1 ∷ []; inodes = inode 0 0 20 ∷ []; tasks = on_cpu 2 ∷ on_cpu 0 ∷ []; flushers = flusher 0 1 ∷ flusher 1 0 ∷ flusher 1 2 ∷ []; actions = action.Write 0 0 17 2 ∷ action.Rest 1 181 ∷ action.Write 1 0 14 2 ∷ action.Write 1 0 16 1 ∷ []; order = []; halt = None }

-- a journal of it, which breaks point 13 at line 28
abbrev pub case_539_3 : Journal
case_539_3 = record { timer = limits 0 1 1 0 1 ∷ limits 1 1 0 0 0 ∷ limits 0 220 1 0 1 ∷ limits 1 220 0 0 0 ∷ []; cpus = part (entry.Est 0 ∷ entry.Write 1 14 true ∷ entry.Est 1 ∷ entry.Write 1 15 true ∷ entry.Write 1 16 true ∷ entry.Claimed 1 15 ∷ entry.Claimed 1 16 ∷ entry.Claimed 1 17 ∷ entry.Claimed 1 18 ∷ entry.Batch 1 5 1076 1079 ∷ entry.Done 1 14 ∷ entry.Done 1 15 ∷ entry.Done 1 16 ∷ entry.Done 1 17 ∷ entry.Done 1 18 ∷ entry.Share 0 0 5 ∷ entry.Share 1 0 5 ∷ []) ([]) (estimate 0 1 24243 25600 25600 25600 0 0 218 ∷ estimate 0 2 19164 25431 25600 25600 0 0 1076 ∷ []) ∷ part ([]) ([]) ([]) ∷ part (entry.Write 0 17 true ∷ entry.Write 0 18 true ∷ []) ([]) ([]) ∷ []; steps = []; bases = []; homes = []; left = []; strict = []; ending = ending.Done }

-- the trace of the next journals
abbrev pub case_549_0_trace : Trace
case_549_0_trace = record { cpus = 1; cap = 1024; settings = settings 20 10 0 0; avail = avail 0 1 ∷ avail 2094 1020 ∷ []; devices = device 3825 0 100 ∷ []; cgroups = cgroup 83 295 ∷ []; contexts = context 0 0 ∷ []; inodes = inode 0 0 42 ∷ inode 0 42 19 ∷ []; tasks = on_cpu 0 ∷ []; flushers = flusher 0 0 ∷ flusher 0 0 ∷ []; actions = action.Rest 0 3433 ∷ action.Write 0 1 4 12 ∷ []; order = []; halt = None }

-- a journal of it, which is lawful
abbrev pub case_549_0 : Journal
case_549_0 = record { timer = limits 0 1 0 0 0 ∷ limits 1 1 16 8 16 ∷ []; cpus = part ([]) ([]) ([]) ∷ []; steps = []; bases = []; homes = []; left = []; strict = []; ending = ending.Halted }

-- a journal of it, which breaks point 16 at line 7
abbrev pub case_549_2 : Journal
case_549_2 = record { timer = limits 0 1 0 0 0 ∷ limits 1 1 16 8 16 ∷ []; cpus = part ([]) ([]) ([]) ∷ []; steps = []; bases = []; homes = []; left = []; strict = []; ending = ending.Spent }

-- the trace of the next journals
abbrev pub case_559_2_trace : Trace
case_559_2_trace = record { cpus = 1; cap = 5; settings = settings 20 47 0 0; avail = avail 0 1 ∷ avail 12 7 ∷ []; devices = device 27489 0 100 ∷ []; cgroups = []; contexts = context 0 0 ∷ context 0 0 ∷ []; inodes = inode 1 0 6 ∷ inode 0 6 3 ∷ []; tasks = on_cpu 0 ∷ []; flushers = flusher 0 0 ∷ flusher 0 0 ∷ []; actions = action.Write 0 0 0 5 ∷ []; order = []; halt = None }

-- a journal of it, which breaks point 8 at line 11
abbrev pub case_559_2 : Journal
case_559_2 = record { timer = limits 0 1 0 0 0 ∷ []; cpus = part (entry.Write 0 0 true ∷ entry.Write 0 1 true ∷ entry.Write 0 2 true ∷ entry.Write 1 3 true ∷ entry.Write 0 4 true ∷ entry.Check 0 ∷ entry.Claimed 0 0 ∷ entry.Claimed 0 1 ∷ entry.Claimed 0 2 ∷ entry.Claimed 0 3 ∷ entry.Claimed 0 4 ∷ entry.Batch 0 5 6 7 ∷ entry.Done 0 0 ∷ entry.Done 0 1 ∷ entry.Done 0 2 ∷ entry.Done 0 3 ∷ entry.Done 0 4 ∷ entry.Share 0 1 5 ∷ []) (check 0 1 6 (read 0 0 0 0 0 0 (pos 0) 0 0 1) None 0 (pos 0) 0 kind.Free 0 1 0 1 6 ∷ []) ([]) ∷ []; steps = []; bases = []; homes = []; left = []; strict = []; ending = ending.Done }

-- a journal of it, which breaks point 13 at line 25
abbrev pub case_559_4 : Journal
case_559_4 = record { timer = limits 0 1 0 0 0 ∷ []; cpus = part (entry.Write 0 0 true ∷ entry.Write 0 1 true ∷ entry.Write 0 2 true ∷ entry.Write 0 3 true ∷ entry.Write 0 4 true ∷ entry.Check 0 ∷ entry.Claimed 0 0 ∷ entry.Claimed 0 1 ∷ entry.Claimed 0 2 ∷ entry.Claimed 0 2 ∷ entry.Claimed 0 3 ∷ entry.Claimed 0 4 ∷ entry.Batch 0 5 6 7 ∷ entry.Done 0 0 ∷ entry.Done 0 1 ∷ entry.Done 0 2 ∷ entry.Done 0 3 ∷ entry.Done 0 4 ∷ entry.Share 0 1 5 ∷ []) (check 0 1 6 (read 0 0 0 0 0 0 (pos 0) 0 0 1) None 0 (pos 0) 0 kind.Free 0 1 0 1 6 ∷ []) ([]) ∷ []; steps = []; bases = []; homes = []; left = []; strict = []; ending = ending.Done }

-- the trace of the next journals
abbrev pub case_560_0_trace : Trace
case_560_0_trace = record { cpus = 1; cap = 1024; settings = settings 20 10 0 0; avail = avail 0 9 ∷ avail 163 1 ∷ []; devices = device 6471 0 100 ∷ []; cgroups = cgroup 98 69 ∷ []; contexts = context 0 1 ∷ []; inodes = inode 0 0 6 ∷ []; tasks = on_cpu 0 ∷ []; flushers = flusher 0 0 ∷ flusher 0 0 ∷ []; actions = action.Rest 0 195 ∷ action.Write 0 0 0 6 ∷ []; order = []; halt = None }

-- a journal of it, which is lawful
abbrev pub case_560_0 : Journal
case_560_0 = record { timer = limits 0 1 1 0 1 ∷ limits 1 1 19 9 19 ∷ []; cpus = part (entry.Write 0 0 true ∷ entry.Write 0 1 true ∷ entry.Write 0 2 true ∷ entry.Write 0 3 true ∷ entry.Write 0 4 true ∷ entry.Write 0 5 true ∷ entry.Claimed 0 0 ∷ entry.Claimed 0 1 ∷ entry.Claimed 0 2 ∷ entry.Claimed 0 3 ∷ entry.Claimed 0 4 ∷ entry.Claimed 0 5 ∷ entry.Batch 0 6 196 197 ∷ entry.Done 0 0 ∷ entry.Done 0 1 ∷ entry.Done 0 2 ∷ entry.Done 0 3 ∷ entry.Done 0 4 ∷ entry.Done 0 5 ∷ entry.Share 0 0 6 ∷ entry.Share 1 0 6 ∷ []) ([]) ([]) ∷ []; steps = []; bases = []; homes = []; left = []; strict = []; ending = ending.Done }

-- a journal of it, which breaks point 16 at line 28
abbrev pub case_560_1 : Journal
case_560_1 = record { timer = limits 0 1 1 0 1 ∷ limits 1 1 19 9 19 ∷ []; cpus = part (entry.Write 0 0 true ∷ entry.Write 0 1 true ∷ entry.Write 0 2 true ∷ entry.Write 0 3 true ∷ entry.Write 0 4 true ∷ entry.Write 0 5 true ∷ entry.Claimed 0 0 ∷ entry.Claimed 0 1 ∷ entry.Claimed 0 2 ∷ entry.Claimed 0 3 ∷ entry.Claimed 0 4 ∷ entry.Claimed 0 5 ∷ entry.Batch 0 6 196 197 ∷ entry.Done 0 0 ∷ entry.Done 0 1 ∷ entry.Done 0 2 ∷ entry.Done 0 3 ∷ entry.Done 0 4 ∷ entry.Done 0 5 ∷ entry.Share 0 0 6 ∷ entry.Share 1 0 6 ∷ []) ([]) ([]) ∷ []; steps = []; bases = []; homes = []; left = []; strict = []; ending = ending.Faulted }

-- a journal of it, which breaks point 12 at line 6
abbrev pub case_560_2 : Journal
case_560_2 = record { timer = limits 0 1 1 0 1 ∷ limits 1 1 19 9 19 ∷ []; cpus = part (entry.Write 0 0 true ∷ entry.Write 0 5 true ∷ entry.Write 0 1 true ∷ entry.Write 0 2 true ∷ entry.Write 0 3 true ∷ entry.Write 0 4 true ∷ entry.Claimed 0 0 ∷ entry.Claimed 0 1 ∷ entry.Claimed 0 2 ∷ entry.Claimed 0 3 ∷ entry.Claimed 0 4 ∷ entry.Claimed 0 5 ∷ entry.Batch 0 6 196 197 ∷ entry.Done 0 0 ∷ entry.Done 0 1 ∷ entry.Done 0 2 ∷ entry.Done 0 3 ∷ entry.Done 0 4 ∷ entry.Done 0 5 ∷ entry.Share 0 0 6 ∷ entry.Share 1 0 6 ∷ []) ([]) ([]) ∷ []; steps = []; bases = []; homes = []; left = []; strict = []; ending = ending.Done }

-- a journal of it, which breaks point 13 at line 27
abbrev pub case_560_3 : Journal
case_560_3 = record { timer = limits 0 1 1 0 1 ∷ limits 1 1 19 9 19 ∷ []; cpus = part (entry.Write 0 0 true ∷ entry.Write 0 1 true ∷ entry.Write 0 2 true ∷ entry.Write 0 3 true ∷ entry.Write 0 4 true ∷ entry.Write 0 5 true ∷ entry.Claimed 0 0 ∷ entry.Claimed 0 1 ∷ entry.Claimed 0 1 ∷ entry.Claimed 0 2 ∷ entry.Claimed 0 3 ∷ entry.Claimed 0 4 ∷ entry.Claimed 0 5 ∷ entry.Batch 0 6 196 197 ∷ entry.Done 0 0 ∷ entry.Done 0 1 ∷ entry.Done 0 2 ∷ entry.Done 0 3 ∷ entry.Done 0 4 ∷ entry.Done 0 5 ∷ entry.Share 0 0 6 ∷ entry.Share 1 0 6 ∷ []) ([]) ([]) ∷ []; steps = []; bases = []; homes = []; left = []; strict = []; ending = ending.Done }

-- a journal of it, which breaks point 9 at line 2
abbrev pub case_560_4 : Journal
case_560_4 = record { timer = limits 1 1 1 0 1 ∷ limits 1 1 19 9 19 ∷ []; cpus = part (entry.Write 0 0 true ∷ entry.Write 0 1 true ∷ entry.Write 0 2 true ∷ entry.Write 0 3 true ∷ entry.Write 0 4 true ∷ entry.Write 0 5 true ∷ entry.Claimed 0 0 ∷ entry.Claimed 0 1 ∷ entry.Claimed 0 2 ∷ entry.Claimed 0 3 ∷ entry.Claimed 0 4 ∷ entry.Claimed 0 5 ∷ entry.Batch 0 6 196 197 ∷ entry.Done 0 0 ∷ entry.Done 0 1 ∷ entry.Done 0 2 ∷ entry.Done 0 3 ∷ entry.Done 0 4 ∷ entry.Done 0 5 ∷ entry.Share 0 0 6 ∷ entry.Share 1 0 6 ∷ []) ([]) ([]) ∷ []; steps = []; bases = []; homes = []; left = []; strict = []; ending = ending.Done }

-- the trace of the next journals
abbrev pub case_578_1_trace : Trace
case_578_1_trace = record { cpus = 3; cap = 64; settings = settings 20 10 0 0; avail = avail 0 0 ∷ avail 2996 0 ∷ []; devices = device 200 0 100 ∷ device 16384 0 100 ∷ []; cgroups = cgroup 69 14 ∷ []; contexts = context 0 1 ∷ []; inodes = inode 0 0 15 ∷ inode 0 15 2 ∷ inode 0 17 11 ∷ inode 0 28 2 ∷ inode 0 30 14 ∷ []; tasks = on_cpu 2 ∷ on_cpu 1 ∷ on_cpu 0 ∷ []; flushers = flusher 1 0 ∷ flusher 0 2 ∷ flusher 1 0 ∷ flusher 1 0 ∷ flusher 0 2 ∷ flusher 1 2 ∷ []; actions = action.Write 0 4 4 10 ∷ action.Write 0 1 0 2 ∷ action.Write 0 4 7 3 ∷ action.Write 1 2 8 2 ∷ action.Write 2 4 12 1 ∷ action.Write 2 4 4 3 ∷ action.Write 1 4 11 1 ∷ action.Write 2 3 0 1 ∷ action.Rest 2 115 ∷ []; order = []; halt = None }

-- a journal of it, which breaks point 12 at line 20
abbrev pub case_578_1 : Journal
case_578_1 = record { timer = limits 0 1 0 0 0 ∷ limits 1 1 13 6 13 ∷ []; cpus = part (entry.Write 2 42 false ∷ entry.Write 2 34 false ∷ entry.Write 2 35 false ∷ entry.Write 2 36 false ∷ entry.Write 2 28 true ∷ []) ([]) ([]) ∷ part (entry.Write 1 25 true ∷ entry.Write 1 26 true ∷ entry.Write 1 41 false ∷ []) ([]) ([]) ∷ part (entry.Write 0 34 true ∷ entry.Write 0 35 true ∷ entry.Write 0 36 true ∷ entry.Write 0 37 true ∷ entry.Write 0 38 true ∷ entry.Write 0 40 true ∷ entry.Write 0 40 true ∷ entry.Write 0 41 true ∷ entry.Write 0 42 true ∷ entry.Write 0 43 true ∷ entry.Write 0 15 true ∷ entry.Write 0 16 true ∷ entry.Write 0 37 false ∷ entry.Write 0 38 false ∷ entry.Write 0 39 false ∷ entry.Claimed 4 15 ∷ entry.Claimed 4 16 ∷ entry.Batch 4 2 1 11 ∷ entry.Claimed 1 34 ∷ entry.Claimed 1 35 ∷ entry.Claimed 1 36 ∷ entry.Claimed 1 37 ∷ entry.Claimed 1 38 ∷ entry.Claimed 1 39 ∷ entry.Claimed 1 40 ∷ entry.Claimed 1 41 ∷ entry.Claimed 1 42 ∷ entry.Claimed 1 43 ∷ entry.Batch 1 10 1 51 ∷ entry.Done 4 15 ∷ entry.Done 4 16 ∷ entry.Share 0 0 2 ∷ entry.Share 1 0 2 ∷ entry.Claimed 4 25 ∷ entry.Claimed 4 26 ∷ entry.Batch 4 2 11 21 ∷ entry.Done 4 25 ∷ entry.Done 4 26 ∷ entry.Share 0 0 2 ∷ entry.Share 1 0 2 ∷ entry.Claimed 4 28 ∷ entry.Batch 4 1 21 26 ∷ entry.Done 4 28 ∷ entry.Share 0 0 1 ∷ entry.Share 1 0 1 ∷ entry.Done 1 34 ∷ entry.Done 1 35 ∷ entry.Done 1 36 ∷ entry.Done 1 37 ∷ entry.Done 1 38 ∷ entry.Done 1 39 ∷ entry.Done 1 40 ∷ entry.Done 1 41 ∷ entry.Done 1 42 ∷ entry.Done 1 43 ∷ entry.Share 0 0 10 ∷ entry.Share 1 0 10 ∷ []) ([]) ([]) ∷ []; steps = []; bases = []; homes = []; left = []; strict = []; ending = ending.Done }

-- a journal of it, which breaks point 12 at line 14
abbrev pub case_578_3 : Journal
case_578_3 = record { timer = limits 0 1 0 0 0 ∷ limits 1 1 13 6 13 ∷ []; cpus = part (entry.Write 2 42 false ∷ entry.Write 2 34 false ∷ entry.Write 2 35 false ∷ entry.Write 2 36 false ∷ entry.Write 2 28 true ∷ []) ([]) ([]) ∷ part (entry.Write 1 25 true ∷ entry.Write 1 26 true ∷ entry.Write 1 41 false ∷ entry.Write 0 34 true ∷ []) ([]) ([]) ∷ part (entry.Write 0 35 true ∷ entry.Write 0 36 true ∷ entry.Write 0 37 true ∷ entry.Write 0 38 true ∷ entry.Write 0 39 true ∷ entry.Write 0 40 true ∷ entry.Write 0 41 true ∷ entry.Write 0 42 true ∷ entry.Write 0 43 true ∷ entry.Write 0 15 true ∷ entry.Write 0 16 true ∷ entry.Write 0 37 false ∷ entry.Write 0 38 false ∷ entry.Write 0 39 false ∷ entry.Claimed 4 15 ∷ entry.Claimed 4 16 ∷ entry.Batch 4 2 1 11 ∷ entry.Claimed 1 34 ∷ entry.Claimed 1 35 ∷ entry.Claimed 1 36 ∷ entry.Claimed 1 37 ∷ entry.Claimed 1 38 ∷ entry.Claimed 1 39 ∷ entry.Claimed 1 40 ∷ entry.Claimed 1 41 ∷ entry.Claimed 1 42 ∷ entry.Claimed 1 43 ∷ entry.Batch 1 10 1 51 ∷ entry.Done 4 15 ∷ entry.Done 4 16 ∷ entry.Share 0 0 2 ∷ entry.Share 1 0 2 ∷ entry.Claimed 4 25 ∷ entry.Claimed 4 26 ∷ entry.Batch 4 2 11 21 ∷ entry.Done 4 25 ∷ entry.Done 4 26 ∷ entry.Share 0 0 2 ∷ entry.Share 1 0 2 ∷ entry.Claimed 4 28 ∷ entry.Batch 4 1 21 26 ∷ entry.Done 4 28 ∷ entry.Share 0 0 1 ∷ entry.Share 1 0 1 ∷ entry.Done 1 34 ∷ entry.Done 1 35 ∷ entry.Done 1 36 ∷ entry.Done 1 37 ∷ entry.Done 1 38 ∷ entry.Done 1 39 ∷ entry.Done 1 40 ∷ entry.Done 1 41 ∷ entry.Done 1 42 ∷ entry.Done 1 43 ∷ entry.Share 0 0 10 ∷ entry.Share 1 0 10 ∷ []) ([]) ([]) ∷ []; steps = []; bases = []; homes = []; left = []; strict = []; ending = ending.Done }

-- the trace of the next journals
abbrev pub case_583_4_trace : Trace
case_583_4_trace = record { cpus = 5; cap = 60; settings = settings 0 10 64919211034414 0; avail = avail 0 7 ∷ avail 212 1000 ∷ []; devices = device 6049 0 100 ∷ []; cgroups = cgroup 945 649 ∷ []; contexts = context 0 1 ∷ []; inodes = inode 0 0 3 ∷ inode 0 3 6 ∷ []; tasks = on_cpu 0 ∷ on_cpu 0 ∷ []; flushers = flusher 0 0 ∷ flusher 0 1 ∷ []; actions = action.Write 1 0 1 2 ∷ action.Write 0 0 1 2 ∷ action.Write 0 1 0 6 ∷ []; order = []; halt = None }

-- a journal of it, which breaks point 13 at line 41
abbrev pub case_583_4 : Journal
case_583_4 = record { timer = limits 0 1 4294967295 0 4294967295 ∷ limits 1 1 945 94 945 ∷ []; cpus = part (entry.Write 0 1 true ∷ entry.Write 1 1 false ∷ entry.Write 0 2 true ∷ entry.Write 1 2 false ∷ entry.Write 0 3 true ∷ entry.Write 0 4 true ∷ entry.Write 0 5 true ∷ entry.Write 0 6 true ∷ entry.Write 0 7 true ∷ entry.Write 0 8 true ∷ entry.Claimed 0 3 ∷ entry.Claimed 0 4 ∷ entry.Claimed 0 5 ∷ entry.Claimed 0 6 ∷ entry.Claimed 0 7 ∷ entry.Claimed 0 8 ∷ entry.Batch 0 6 1 2 ∷ entry.Done 0 3 ∷ entry.Done 0 3 ∷ entry.Done 0 5 ∷ entry.Done 0 6 ∷ entry.Done 0 7 ∷ entry.Done 0 8 ∷ entry.Share 0 0 6 ∷ entry.Share 1 0 6 ∷ []) ([]) ([]) ∷ part (entry.Claimed 1 1 ∷ entry.Claimed 1 2 ∷ entry.Batch 1 2 1 2 ∷ entry.Done 1 1 ∷ entry.Done 1 2 ∷ entry.Share 0 0 2 ∷ entry.Share 1 0 2 ∷ []) ([]) ([]) ∷ part ([]) ([]) ([]) ∷ part ([]) ([]) ([]) ∷ part ([]) ([]) ([]) ∷ []; steps = []; bases = []; homes = []; left = []; strict = []; ending = ending.Done }

-- the trace of the next journals
abbrev pub case_588_4_trace : Trace
case_588_4_trace = record { cpus = 2; cap = 288; settings = settings 20 10 0 0; avail = avail 0 8 ∷ []; devices = device 13 76 88 ∷ []; cgroups = cgroup 39 260 ∷ cgroup 162 379 ∷ []; contexts = context 0 0 ∷ context 0 1 ∷ context 0 1 ∷ []; inodes = inode 0 0 24 ∷ inode 1 24 80 ∷ inode 2 104 35 ∷ []; tasks = on_cpu 1 ∷ on_cpu 0 ∷ []; flushers = flusher 0 1 ∷ flusher 0 0 ∷ flusher 0 1 ∷ []; actions = action.Write 0 0 4 9 ∷ []; order = []; halt = None }

-- a journal of it, which breaks point 14 at line 14
abbrev pub case_588_4 : Journal
case_588_4 = record { timer = limits 0 1 1 0 1 ∷ limits 1 1 7 3 7 ∷ limits 2 1 32 16 32 ∷ []; cpus = part (entry.Claimed 1 4 ∷ entry.Claimed 1 5 ∷ entry.Claimed 1 6 ∷ entry.Claimed 1 7 ∷ entry.Claimed 1 8 ∷ entry.Claimed 1 9 ∷ entry.Claimed 1 10 ∷ entry.Claimed 1 12 ∷ entry.Batch 1 9 1 694 ∷ entry.Done 1 4 ∷ entry.Done 1 5 ∷ entry.Done 1 6 ∷ entry.Done 1 7 ∷ entry.Done 1 8 ∷ entry.Done 1 9 ∷ entry.Done 1 10 ∷ entry.Done 1 11 ∷ entry.Done 1 12 ∷ entry.Share 0 0 9 ∷ []) ([]) ([]) ∷ part (entry.Write 0 4 true ∷ entry.Write 0 5 true ∷ entry.Write 0 6 true ∷ entry.Write 0 7 true ∷ entry.Write 0 8 true ∷ entry.Write 0 9 true ∷ entry.Write 0 10 true ∷ entry.Claimed 1 11 ∷ entry.Write 0 11 true ∷ entry.Write 0 12 true ∷ []) ([]) ([]) ∷ []; steps = []; bases = []; homes = []; left = []; strict = []; ending = ending.Done }

-- the trace of the next journals
abbrev pub case_597_2_trace : Trace
case_597_2_trace = record { cpus = 3; cap = 1; settings = settings 40 10 4096 0; avail = avail 0 0 ∷ []; devices = device 4 0 100 ∷ device 30 0 100 ∷ []; cgroups = cgroup 254 57 ∷ cgroup 65 33 ∷ []; contexts = context 0 2 ∷ context 1 2 ∷ []; inodes = inode 0 0 51 ∷ inode 1 51 53 ∷ inode 0 104 13 ∷ inode 1 117 11 ∷ []; tasks = on_cpu 1 ∷ on_cpu 1 ∷ []; flushers = flusher 0 2 ∷ flusher 1 1 ∷ flusher 0 2 ∷ []; actions = action.Rest 0 1 ∷ action.Rest 1 135 ∷ action.Write 1 3 8 2 ∷ action.Write 0 2 6 1 ∷ action.Write 1 0 37 14 ∷ action.Write 0 1 52 1 ∷ []; order = []; halt = None }

-- a journal of it, which breaks point 4 at line 7
abbrev pub case_597_2 : Journal
case_597_2 = record { timer = limits 1 1 254 25 254 ∷ limits 2 1 65 6 65 ∷ []; cpus = part ([]) ([]) ([]) ∷ part (entry.Write 0 110 true ∷ entry.Check 0 ∷ entry.Write 0 103 true ∷ entry.Check 1 ∷ entry.Write 1 125 true ∷ entry.Check 2 ∷ entry.Write 1 126 true ∷ entry.Check 3 ∷ entry.Write 1 37 true ∷ entry.Check 4 ∷ entry.Write 1 38 true ∷ entry.Check 5 ∷ entry.Write 1 39 true ∷ entry.Check 6 ∷ entry.Write 1 40 true ∷ entry.Check 7 ∷ entry.Write 1 41 true ∷ entry.Check 8 ∷ entry.Write 1 42 true ∷ entry.Check 9 ∷ entry.Write 1 43 true ∷ entry.Check 10 ∷ entry.Write 1 44 true ∷ entry.Check 11 ∷ entry.Write 1 45 true ∷ entry.Check 12 ∷ entry.Write 1 46 true ∷ entry.Check 13 ∷ entry.Write 1 47 true ∷ entry.Check 14 ∷ entry.Write 1 48 true ∷ entry.Check 15 ∷ entry.Write 1 49 true ∷ entry.Check 16 ∷ entry.Write 1 50 true ∷ entry.Check 17 ∷ entry.Claimed 1 103 ∷ entry.Batch 1 1 136 170 ∷ entry.Done 1 103 ∷ entry.Share 0 1 1 ∷ entry.Share 2 1 1 ∷ entry.Claimed 1 125 ∷ entry.Claimed 1 126 ∷ entry.Batch 1 2 170 237 ∷ entry.Done 1 125 ∷ entry.Done 1 126 ∷ entry.Share 0 1 2 ∷ entry.Share 2 1 2 ∷ []) (check 0 0 2 (read 0 0 1 0 1 0 (pos 0) 0 0 1) (Some (read 2 0 65 6 65 0 (pos 0) 0 0 1)) 0 (pos 0) 0 kind.Free 0 1 0 1 2 ∷ check 0 1 2 (read 0 0 1 0 1 0 (pos 0) 0 0 1) (Some (read 2 0 65 6 65 0 (pos 0) 0 0 1)) 0 (pos 0) 0 kind.Free 0 1 0 1 2 ∷ check 1 1 136 (read 0 0 1 0 1 0 (pos 0) 0 0 1) (Some (read 2 0 65 6 65 0 (pos 0) 0 0 1)) 0 (pos 0) 0 kind.Free 0 1 0 1 136 ∷ check 1 1 136 (read 0 0 1 0 1 0 (pos 0) 0 0 1) (Some (read 2 0 65 6 65 0 (pos 0) 0 0 1)) 0 (pos 0) 0 kind.Free 0 1 0 1 136 ∷ check 1 0 136 (read 0 0 1 0 1 0 (pos 0) 0 0 1) (Some (read 2 0 65 6 65 0 (pos 0) 0 0 1)) 0 (pos 0) 0 kind.Free 0 1 0 1 136 ∷ check 1 0 136 (read 0 0 1 0 1 0 (pos 0) 0 0 1) (Some (read 2 0 65 6 65 0 (pos 0) 0 0 1)) 0 (pos 0) 0 kind.Free 0 1 0 1 136 ∷ check 1 0 136 (read 0 0 1 0 1 0 (pos 0) 0 0 1) (Some (read 2 0 65 6 65 0 (pos 0) 0 0 1)) 0 (pos 0) 0 kind.Free 0 1 0 1 136 ∷ check 1 0 136 (read 0 0 1 0 1 0 (pos 0) 0 0 1) (Some (read 2 0 65 6 65 0 (pos 0) 0 0 1)) 0 (pos 0) 0 kind.Free 0 1 0 1 136 ∷ check 1 0 136 (read 0 0 1 0 1 0 (pos 0) 0 0 1) (Some (read 2 0 65 6 65 0 (pos 0) 0 0 1)) 0 (pos 0) 0 kind.Free 0 1 0 1 136 ∷ check 1 0 136 (read 0 0 1 0 1 0 (pos 0) 0 0 1) (Some (read 2 0 65 6 65 0 (pos 0) 0 0 1)) 0 (pos 0) 0 kind.Free 0 1 0 1 136 ∷ check 1 0 136 (read 0 0 1 0 1 0 (pos 0) 0 0 1) (Some (read 2 0 65 6 65 0 (pos 0) 0 0 1)) 0 (pos 0) 0 kind.Free 0 1 0 1 136 ∷ check 1 0 136 (read 0 0 1 0 1 0 (pos 0) 0 0 1) (Some (read 2 0 65 6 65 0 (pos 0) 0 0 1)) 0 (pos 0) 0 kind.Free 0 1 0 1 136 ∷ check 1 0 136 (read 0 0 1 0 1 0 (pos 0) 0 0 1) (Some (read 2 0 65 6 65 0 (pos 0) 0 0 1)) 0 (pos 0) 0 kind.Free 0 1 0 1 136 ∷ check 1 0 136 (read 0 0 1 0 1 0 (pos 0) 0 0 1) (Some (read 2 0 65 6 65 0 (pos 0) 0 0 1)) 0 (pos 0) 0 kind.Free 0 1 0 1 136 ∷ check 1 0 136 (read 0 0 1 0 1 0 (pos 0) 0 0 1) (Some (read 2 0 65 6 65 0 (pos 0) 0 0 1)) 0 (pos 0) 0 kind.Free 0 1 0 1 136 ∷ check 1 0 136 (read 0 0 1 0 1 0 (pos 0) 0 0 1) (Some (read 2 0 65 6 65 0 (pos 0) 0 0 1)) 0 (pos 0) 0 kind.Free 0 1 0 1 136 ∷ check 1 0 136 (read 0 0 1 0 1 0 (pos 0) 0 0 1) (Some (read 2 0 65 6 65 0 (pos 0) 0 0 1)) 0 (pos 0) 0 kind.Free 0 1 0 1 136 ∷ check 1 0 136 (read 0 0 1 0 1 0 (pos 0) 0 0 1) (Some (read 2 0 65 6 65 0 (pos 0) 0 0 1)) 0 (pos 0) 0 kind.Free 0 1 0 1 136 ∷ []) ([]) ∷ part (entry.Claimed 0 110 ∷ entry.Batch 0 1 136 386 ∷ entry.Claimed 2 37 ∷ entry.Claimed 2 38 ∷ entry.Claimed 2 39 ∷ entry.Claimed 2 40 ∷ entry.Claimed 2 41 ∷ entry.Claimed 2 42 ∷ entry.Claimed 2 43 ∷ entry.Claimed 2 44 ∷ entry.Claimed 2 45 ∷ entry.Claimed 2 46 ∷ entry.Claimed 2 47 ∷ entry.Claimed 2 48 ∷ entry.Claimed 2 49 ∷ entry.Claimed 2 50 ∷ entry.Batch 2 14 136 3636 ∷ entry.Done 0 110 ∷ entry.Share 0 0 1 ∷ entry.Share 2 0 1 ∷ entry.Done 2 37 ∷ entry.Done 2 38 ∷ entry.Done 2 39 ∷ entry.Done 2 40 ∷ entry.Done 2 41 ∷ entry.Done 2 42 ∷ entry.Done 2 43 ∷ entry.Done 2 44 ∷ entry.Done 2 45 ∷ entry.Done 2 46 ∷ entry.Done 2 47 ∷ entry.Done 2 48 ∷ entry.Done 2 49 ∷ entry.Done 2 50 ∷ entry.Share 0 0 14 ∷ entry.Share 2 0 14 ∷ []) ([]) ([]) ∷ []; steps = []; bases = []; homes = []; left = []; strict = []; ending = ending.Done }

-- the trace of the next journals
abbrev pub case_601_3_trace : Trace
case_601_3_trace = record { cpus = 2; cap = 8; settings = settings 20 10 0 0; avail = avail 0 1000 ∷ avail 159 0 ∷ avail 1109 100000 ∷ []; devices = device 64 0 100 ∷ []; cgroups = cgroup 9 23 ∷ cgroup 199 127 ∷ []; contexts = context 0 2 ∷ context 0 0 ∷ context 0 1 ∷ []; inodes = inode 0 0 15 ∷ inode 0 15 27 ∷ inode 0 42 34 ∷ []; tasks = on_cpu 0 ∷ []; flushers = flusher 0 0 ∷ flusher 0 1 ∷ []; actions = action.Write 0 0 11 4 ∷ action.Rest 0 4 ∷ action.Write 0 2 0 34 ∷ []; order = []; halt = None }

-- a journal of it, which breaks point 3 at line 89
abbrev pub case_601_3 : Journal
case_601_3 = record { timer = limits 0 1 199 99 199 ∷ limits 1 1 6 3 6 ∷ limits 2 1 65 32 65 ∷ limits 0 623 0 0 193 ∷ limits 1 623 1 0 6 ∷ limits 2 623 39 19 65 ∷ limits 0 1304 19995 9985 19995 ∷ limits 1 1304 6 3 6 ∷ limits 2 1304 65 32 65 ∷ limits 0 2229 19995 9985 19995 ∷ limits 1 2229 6 3 6 ∷ limits 2 2229 65 32 65 ∷ []; cpus = part (entry.Write 0 11 true ∷ entry.Write 0 12 true ∷ entry.Write 0 13 true ∷ entry.Write 0 14 true ∷ entry.Write 0 42 true ∷ entry.Write 0 43 true ∷ entry.Est 0 ∷ entry.Est 1 ∷ entry.Est 2 ∷ entry.Write 0 44 true ∷ entry.Write 0 45 true ∷ entry.Check 0 ∷ entry.Write 0 46 true ∷ entry.Write 0 47 true ∷ entry.Write 0 48 true ∷ entry.Write 0 49 true ∷ entry.Est 3 ∷ entry.Est 4 ∷ entry.Est 5 ∷ entry.Write 0 50 true ∷ entry.Write 0 51 true ∷ entry.Write 0 52 true ∷ entry.Write 0 53 true ∷ folded (counter.Context 0) 1 (pos 16) ∷ entry.Est 6 ∷ entry.Est 7 ∷ entry.Est 8 ∷ entry.Check 1 ∷ entry.Est 9 ∷ entry.Est 10 ∷ entry.Est 11 ∷ entry.Write 0 54 true ∷ entry.Est 12 ∷ entry.Est 13 ∷ entry.Est 14 ∷ entry.Check 2 ∷ entry.Write 0 55 true ∷ entry.Check 3 ∷ entry.Write 0 56 true ∷ entry.Write 0 57 true ∷ entry.Write 0 58 true ∷ entry.Write 0 59 true ∷ entry.Write 0 60 true ∷ entry.Write 0 61 true ∷ entry.Write 0 62 true ∷ entry.Write 0 63 true ∷ entry.Check 4 ∷ entry.Write 0 64 true ∷ entry.Write 0 65 true ∷ entry.Write 0 66 true ∷ entry.Write 0 67 true ∷ entry.Write 0 68 true ∷ entry.Write 0 69 true ∷ folded (counter.Context 0) 2 (pos 16) ∷ folded (counter.Domain 0) 1 (pos 32) ∷ folded (counter.Domain 1) 1 (pos 32) ∷ entry.Write 0 70 true ∷ entry.Write 0 71 true ∷ entry.Check 5 ∷ entry.Write 0 72 true ∷ entry.Write 0 73 true ∷ entry.Write 0 74 true ∷ entry.Write 0 75 true ∷ entry.Check 6 ∷ entry.Claimed 0 42 ∷ entry.Claimed 0 43 ∷ entry.Claimed 0 44 ∷ entry.Claimed 0 45 ∷ entry.Claimed 0 46 ∷ entry.Claimed 0 47 ∷ entry.Claimed 0 48 ∷ entry.Claimed 0 49 ∷ entry.Claimed 0 50 ∷ entry.Claimed 0 51 ∷ entry.Claimed 0 52 ∷ entry.Claimed 0 53 ∷ entry.Claimed 0 54 ∷ entry.Claimed 0 55 ∷ entry.Claimed 0 56 ∷ entry.Claimed 0 57 ∷ entry.Claimed 0 58 ∷ entry.Claimed 0 59 ∷ entry.Claimed 0 60 ∷ entry.Claimed 0 61 ∷ entry.Claimed 0 62 ∷ entry.Claimed 0 63 ∷ entry.Claimed 0 64 ∷ entry.Claimed 0 65 ∷ entry.Claimed 0 66 ∷ entry.Claimed 0 67 ∷ entry.Claimed 0 68 ∷ entry.Claimed 0 69 ∷ entry.Claimed 0 70 ∷ entry.Claimed 0 71 ∷ entry.Claimed 0 72 ∷ entry.Claimed 0 73 ∷ entry.Claimed 0 74 ∷ entry.Claimed 0 75 ∷ entry.Batch 0 34 2229 2761 ∷ entry.Done 0 42 ∷ entry.Done 0 43 ∷ entry.Done 0 44 ∷ entry.Done 0 45 ∷ entry.Done 0 46 ∷ entry.Done 0 47 ∷ entry.Done 0 48 ∷ entry.Done 0 49 ∷ entry.Done 0 50 ∷ entry.Done 0 51 ∷ entry.Done 0 52 ∷ entry.Done 0 53 ∷ entry.Done 0 54 ∷ entry.Done 0 55 ∷ entry.Done 0 56 ∷ entry.Done 0 57 ∷ entry.Done 0 58 ∷ entry.Done 0 59 ∷ entry.Done 0 60 ∷ entry.Done 0 61 ∷ entry.Done 0 62 ∷ entry.Done 0 63 ∷ folded (counter.Context 0) 3 (negsuc 15) ∷ entry.Done 0 64 ∷ entry.Done 0 65 ∷ entry.Done 0 66 ∷ entry.Done 0 67 ∷ entry.Done 0 68 ∷ entry.Done 0 69 ∷ entry.Done 0 70 ∷ entry.Done 0 71 ∷ entry.Done 0 72 ∷ entry.Done 0 73 ∷ entry.Done 0 74 ∷ entry.Done 0 75 ∷ entry.Share 0 0 34 ∷ entry.Share 2 0 34 ∷ []) (check 0 0 722 (read 0 0 199 99 199 0 (pos 0) 0 0 1) (Some (read 2 0 65 32 65 0 (pos 0) 0 0 1)) 0 (pos 0) 1 kind.Free 0 8 0 8 722 ∷ check 0 0 1299 (read 0 1 0 0 193 0 (pos 0) 0 0 1) (Some (read 2 0 65 32 65 0 (pos 0) 0 0 1)) 1 (pos 16) 3 kind.Free 0 1 0 1 1299 ∷ check 0 0 2229 (read 0 1 0 0 193 0 (pos 0) 0 0 1) (Some (read 2 1 39 19 65 0 (pos 0) 0 0 1)) 1 (pos 16) 5 kind.Free 0 1 0 1 2229 ∷ check 0 0 2229 (read 0 3 19995 9985 19995 0 (pos 0) 0 0 1) (Some (read 2 3 65 32 65 0 (pos 0) 0 0 1)) 1 (pos 16) 5 kind.Free 0 8 0 8 2229 ∷ check 0 0 2229 (read 0 3 19995 9985 19995 0 (pos 0) 0 0 1) (Some (read 2 3 65 32 65 0 (pos 0) 0 0 1)) 1 (pos 16) 5 kind.Free 0 8 0 8 2229 ∷ check 0 0 2229 (read 0 3 19995 9985 19995 1 (pos 32) 0 0 1) (Some (read 2 3 65 32 65 1 (pos 32) 0 0 1)) 2 (pos 32) 5 kind.Free 0 4 0 4 2229 ∷ check 0 0 2229 (read 0 3 19995 9985 19995 1 (pos 32) 0 0 1) (Some (read 2 3 65 32 65 1 (pos 32) 0 0 1)) 2 (pos 32) 5 kind.Free 0 4 0 4 2229 ∷ []) (estimate 0 1 21712 25600 25600 25600 0 0 623 ∷ estimate 1 1 21712 25600 25600 25600 0 0 623 ∷ estimate 2 1 21712 25600 25600 25600 0 0 623 ∷ estimate 0 2 20508 25114 25600 25600 0 0 850 ∷ estimate 1 2 20508 25114 25600 25600 0 0 850 ∷ estimate 2 2 20508 25114 25600 25600 0 0 850 ∷ estimate 0 3 19271 24539 25600 25114 0 16 1097 ∷ estimate 1 3 19271 24539 25600 25114 0 0 1097 ∷ estimate 2 3 19271 24539 25600 25114 0 0 1097 ∷ estimate 0 4 18320 23881 25600 24539 0 16 1299 ∷ estimate 1 4 18320 23881 25600 24539 0 0 1299 ∷ estimate 2 4 18320 23881 25600 24539 0 0 1299 ∷ estimate 0 5 14160 23186 25600 23881 0 16 2229 ∷ estimate 1 5 14160 23186 25600 23881 0 0 2229 ∷ estimate 2 5 14160 23186 25600 23881 0 0 2229 ∷ []) ∷ part (entry.Claimed 1 11 ∷ entry.Claimed 1 12 ∷ entry.Claimed 1 13 ∷ entry.Claimed 1 14 ∷ entry.Batch 1 4 2229 2292 ∷ entry.Done 1 11 ∷ entry.Done 1 12 ∷ entry.Done 1 13 ∷ entry.Done 1 14 ∷ entry.Share 0 0 4 ∷ entry.Share 2 0 4 ∷ []) ([]) ([]) ∷ []; steps = []; bases = []; homes = []; left = []; strict = []; ending = ending.Done }

-- the trace of the next journals
abbrev pub case_609_1_trace : Trace
case_609_1_trace = record { cpus = 2; cap = 9; settings = settings 20 10 0 0; avail = avail 0 582 ∷ avail 580 1632 ∷ avail 940 1452 ∷ avail 3408 450 ∷ []; devices = device 21952 75 84 ∷ device 2287 9 100 ∷ []; cgroups = cgroup 215 258 ∷ cgroup 125 341 ∷ []; contexts = context 0 1 ∷ context 1 0 ∷ []; inodes = inode 0 0 28 ∷ inode 1 28 6 ∷ inode 1 34 83 ∷ inode 1 117 29 ∷ []; tasks = on_cpu 0 ∷ on_cpu 0 ∷ on_cpu 0 ∷ on_cpu 1 ∷ []; flushers = flusher 0 0 ∷ flusher 1 0 ∷ flusher 1 0 ∷ flusher 0 1 ∷ []; actions = action.Write 2 2 19 33 ∷ []; order = []; halt = None }

-- a journal of it, which breaks point 12 at line 10
abbrev pub case_609_1 : Journal
case_609_1 = record { timer = limits 0 1 116 58 116 ∷ limits 1 1 94 47 94 ∷ limits 2 1 93 46 93 ∷ []; cpus = part (entry.Write 2 53 true ∷ entry.Write 2 54 true ∷ entry.Write 2 55 true ∷ entry.Write 2 56 true ∷ entry.Write 2 58 true ∷ entry.Write 2 57 true ∷ entry.Write 2 59 true ∷ entry.Write 2 60 true ∷ entry.Write 2 61 true ∷ entry.Check 0 ∷ entry.Write 2 62 true ∷ entry.Write 2 63 true ∷ entry.Write 2 64 true ∷ entry.Write 2 65 true ∷ entry.Write 2 66 true ∷ entry.Write 2 67 true ∷ entry.Write 2 68 true ∷ folded (counter.Context 1) 1 (pos 16) ∷ entry.Check 1 ∷ entry.Write 2 69 true ∷ entry.Write 2 70 true ∷ entry.Write 2 71 true ∷ entry.Write 2 72 true ∷ entry.Write 2 73 true ∷ entry.Write 2 74 true ∷ entry.Write 2 75 true ∷ entry.Write 2 76 true ∷ entry.Check 2 ∷ entry.Write 2 77 true ∷ entry.Write 2 78 true ∷ entry.Write 2 79 true ∷ entry.Write 2 80 true ∷ entry.Write 2 81 true ∷ entry.Write 2 82 true ∷ entry.Write 2 83 true ∷ entry.Write 2 84 true ∷ folded (counter.Context 1) 2 (pos 16) ∷ folded (counter.Domain 0) 1 (pos 32) ∷ entry.Check 3 ∷ entry.Write 2 85 true ∷ entry.Claimed 1 53 ∷ entry.Claimed 1 54 ∷ entry.Claimed 1 55 ∷ entry.Claimed 1 56 ∷ entry.Claimed 1 57 ∷ entry.Claimed 1 58 ∷ entry.Claimed 1 59 ∷ entry.Claimed 1 60 ∷ entry.Claimed 1 61 ∷ entry.Claimed 1 62 ∷ entry.Claimed 1 63 ∷ entry.Claimed 1 64 ∷ entry.Claimed 1 65 ∷ entry.Claimed 1 66 ∷ entry.Claimed 1 67 ∷ entry.Claimed 1 68 ∷ entry.Claimed 1 69 ∷ entry.Claimed 1 70 ∷ entry.Claimed 1 71 ∷ entry.Claimed 1 72 ∷ entry.Claimed 1 73 ∷ entry.Claimed 1 74 ∷ entry.Claimed 1 75 ∷ entry.Claimed 1 76 ∷ entry.Claimed 1 77 ∷ entry.Claimed 1 78 ∷ entry.Claimed 1 79 ∷ entry.Claimed 1 80 ∷ entry.Claimed 1 81 ∷ entry.Claimed 1 82 ∷ entry.Claimed 1 83 ∷ entry.Claimed 1 84 ∷ entry.Claimed 1 85 ∷ entry.Batch 1 33 1 16 ∷ entry.Done 1 53 ∷ entry.Done 1 54 ∷ entry.Done 1 55 ∷ entry.Done 1 56 ∷ entry.Done 1 57 ∷ entry.Done 1 58 ∷ entry.Done 1 59 ∷ entry.Done 1 60 ∷ entry.Done 1 61 ∷ entry.Done 1 62 ∷ entry.Done 1 63 ∷ entry.Done 1 64 ∷ entry.Done 1 65 ∷ entry.Done 1 66 ∷ entry.Done 1 67 ∷ entry.Done 1 68 ∷ entry.Done 1 69 ∷ folded (counter.Context 1) 3 (negsuc 15) ∷ entry.Done 1 70 ∷ entry.Done 1 71 ∷ entry.Done 1 72 ∷ entry.Done 1 73 ∷ entry.Done 1 74 ∷ entry.Done 1 75 ∷ entry.Done 1 76 ∷ entry.Done 1 77 ∷ entry.Done 1 78 ∷ entry.Done 1 79 ∷ entry.Done 1 80 ∷ entry.Done 1 81 ∷ entry.Done 1 82 ∷ entry.Done 1 83 ∷ entry.Done 1 84 ∷ entry.Done 1 85 ∷ folded (counter.Context 1) 4 (negsuc 15) ∷ folded (counter.Domain 0) 2 (negsuc 31) ∷ entry.Share 0 1 33 ∷ []) (check 2 1 1 (read 0 0 116 58 116 0 (pos 0) 0 0 1) None 0 (pos 0) 0 kind.Free 0 8 0 8 1 ∷ check 2 1 1 (read 0 0 116 58 116 0 (pos 0) 0 0 1) None 1 (pos 16) 0 kind.Free 0 8 0 8 1 ∷ check 2 1 1 (read 0 0 116 58 116 0 (pos 0) 0 0 1) None 1 (pos 16) 0 kind.Free 0 8 0 8 1 ∷ check 2 1 1 (read 0 0 116 58 116 1 (pos 32) 0 0 1) None 2 (pos 32) 0 kind.Free 0 8 0 8 1 ∷ []) ([]) ∷ part ([]) ([]) ([]) ∷ []; steps = []; bases = []; homes = []; left = []; strict = []; ending = ending.Done }

-- a journal of it, which breaks point 8 at line 50
abbrev pub case_609_2 : Journal
case_609_2 = record { timer = limits 0 1 116 58 116 ∷ limits 1 1 94 47 94 ∷ limits 2 1 93 46 93 ∷ []; cpus = part (entry.Write 2 53 true ∷ entry.Write 2 54 true ∷ entry.Write 2 55 true ∷ entry.Write 2 56 true ∷ entry.Write 2 57 true ∷ entry.Write 2 58 true ∷ entry.Write 2 59 true ∷ entry.Write 2 60 true ∷ entry.Write 2 61 true ∷ entry.Check 0 ∷ entry.Write 2 62 true ∷ entry.Write 2 63 true ∷ entry.Write 2 64 true ∷ entry.Write 2 65 true ∷ entry.Write 2 66 true ∷ entry.Write 2 67 true ∷ entry.Write 2 68 true ∷ folded (counter.Context 1) 1 (pos 16) ∷ entry.Check 1 ∷ entry.Write 2 69 true ∷ entry.Write 2 70 true ∷ entry.Write 2 71 true ∷ entry.Write 2 72 true ∷ entry.Write 2 73 true ∷ entry.Write 2 74 true ∷ entry.Write 2 75 true ∷ entry.Write 2 76 true ∷ entry.Check 2 ∷ entry.Write 2 77 true ∷ entry.Write 2 78 true ∷ entry.Write 2 79 true ∷ entry.Write 2 80 true ∷ entry.Write 2 81 true ∷ entry.Write 2 82 true ∷ entry.Write 2 83 true ∷ entry.Write 2 84 true ∷ folded (counter.Context 1) 2 (pos 16) ∷ folded (counter.Domain 0) 1 (pos 32) ∷ entry.Write 2 85 true ∷ entry.Claimed 1 53 ∷ entry.Claimed 1 54 ∷ entry.Claimed 1 55 ∷ entry.Claimed 1 56 ∷ entry.Claimed 1 57 ∷ entry.Claimed 1 58 ∷ entry.Claimed 1 59 ∷ entry.Claimed 1 60 ∷ entry.Claimed 1 61 ∷ entry.Claimed 1 62 ∷ entry.Claimed 1 63 ∷ entry.Claimed 1 64 ∷ entry.Claimed 1 65 ∷ entry.Claimed 1 66 ∷ entry.Claimed 1 67 ∷ entry.Claimed 1 68 ∷ entry.Claimed 1 69 ∷ entry.Claimed 1 70 ∷ entry.Claimed 1 71 ∷ entry.Claimed 1 72 ∷ entry.Claimed 1 73 ∷ entry.Claimed 1 74 ∷ entry.Claimed 1 75 ∷ entry.Claimed 1 76 ∷ entry.Claimed 1 77 ∷ entry.Claimed 1 78 ∷ entry.Claimed 1 79 ∷ entry.Claimed 1 80 ∷ entry.Claimed 1 81 ∷ entry.Claimed 1 82 ∷ entry.Claimed 1 83 ∷ entry.Claimed 1 84 ∷ entry.Claimed 1 85 ∷ entry.Batch 1 33 1 16 ∷ entry.Done 1 53 ∷ entry.Done 1 54 ∷ entry.Done 1 55 ∷ entry.Done 1 56 ∷ entry.Done 1 57 ∷ entry.Done 1 58 ∷ entry.Done 1 59 ∷ entry.Done 1 60 ∷ entry.Done 1 61 ∷ entry.Done 1 62 ∷ entry.Done 1 63 ∷ entry.Done 1 64 ∷ entry.Done 1 65 ∷ entry.Done 1 66 ∷ entry.Done 1 67 ∷ entry.Done 1 68 ∷ entry.Done 1 69 ∷ folded (counter.Context 1) 3 (negsuc 15) ∷ entry.Done 1 70 ∷ entry.Done 1 71 ∷ entry.Done 1 72 ∷ entry.Done 1 73 ∷ entry.Done 1 74 ∷ entry.Done 1 75 ∷ entry.Done 1 76 ∷ entry.Done 1 77 ∷ entry.Done 1 78 ∷ entry.Done 1 79 ∷ entry.Done 1 80 ∷ entry.Done 1 81 ∷ entry.Done 1 82 ∷ entry.Done 1 83 ∷ entry.Done 1 84 ∷ entry.Done 1 85 ∷ folded (counter.Context 1) 4 (negsuc 15) ∷ folded (counter.Domain 0) 2 (negsuc 31) ∷ entry.Share 0 1 33 ∷ []) (check 2 1 1 (read 0 0 116 58 116 0 (pos 0) 0 0 1) None 0 (pos 0) 0 kind.Free 0 8 0 8 1 ∷ check 2 1 1 (read 0 0 116 58 116 0 (pos 0) 0 0 1) None 1 (pos 16) 0 kind.Free 0 8 0 8 1 ∷ check 2 1 1 (read 0 0 116 58 116 0 (pos 0) 0 0 1) None 1 (pos 16) 0 kind.Free 0 8 0 8 1 ∷ []) ([]) ∷ part ([]) ([]) ([]) ∷ []; steps = []; bases = []; homes = []; left = []; strict = []; ending = ending.Done }

-- the trace of the next journals
abbrev pub case_611_1_trace : Trace
case_611_1_trace = record { cpus = 4; cap = 6; settings = settings 20 5 0 262144; avail = avail 0 1 ∷ []; devices = device 4096 0 100 ∷ []; cgroups = []; contexts = context 0 0 ∷ []; inodes = inode 0 0 6 ∷ inode 0 6 3 ∷ []; tasks = on_cpu 1 ∷ []; flushers = flusher 0 1 ∷ []; actions = action.Rest 0 200 ∷ action.Rest 0 62 ∷ action.Write 0 1 0 3 ∷ []; order = []; halt = None }

-- a journal of it, which breaks point 13 at line 22
abbrev pub case_611_1 : Journal
case_611_1 = record { timer = limits 0 1 0 0 0 ∷ limits 0 419 0 0 0 ∷ []; cpus = part ([]) ([]) ([]) ∷ part (entry.Est 0 ∷ entry.Est 1 ∷ entry.Write 0 6 true ∷ entry.Write 0 7 true ∷ entry.Write 0 8 true ∷ entry.Claimed 0 6 ∷ entry.Claimed 0 7 ∷ entry.Claimed 0 8 ∷ entry.Batch 0 3 481 482 ∷ entry.Done 0 6 ∷ entry.Done 0 6 ∷ entry.Done 0 7 ∷ entry.Done 0 8 ∷ entry.Share 0 0 3 ∷ []) ([]) (estimate 0 1 24275 25600 25600 25600 0 0 213 ∷ estimate 0 2 23054 25435 25600 25600 0 0 419 ∷ []) ∷ part ([]) ([]) ([]) ∷ part ([]) ([]) ([]) ∷ []; steps = []; bases = []; homes = []; left = []; strict = []; ending = ending.Done }

-- a journal of it, which breaks point 6 at line 6
abbrev pub case_611_2 : Journal
case_611_2 = record { timer = limits 0 2 0 0 0 ∷ limits 0 419 0 0 0 ∷ []; cpus = part ([]) ([]) ([]) ∷ part (entry.Est 0 ∷ entry.Est 1 ∷ entry.Write 0 6 true ∷ entry.Write 0 7 true ∷ entry.Write 0 8 true ∷ entry.Claimed 0 6 ∷ entry.Claimed 0 7 ∷ entry.Claimed 0 8 ∷ entry.Batch 0 3 481 482 ∷ entry.Done 0 6 ∷ entry.Done 0 7 ∷ entry.Done 0 8 ∷ entry.Share 0 0 3 ∷ []) ([]) (estimate 0 1 24275 25600 25600 25600 0 0 213 ∷ estimate 0 2 23054 25435 25600 25600 0 0 419 ∷ []) ∷ part ([]) ([]) ([]) ∷ part ([]) ([]) ([]) ∷ []; steps = []; bases = []; homes = []; left = []; strict = []; ending = ending.Done }

-- a journal of it, which breaks point 16 at line 23
abbrev pub case_611_3 : Journal
case_611_3 = record { timer = limits 0 1 0 0 0 ∷ limits 0 419 0 0 0 ∷ []; cpus = part ([]) ([]) ([]) ∷ part (entry.Est 0 ∷ entry.Est 1 ∷ entry.Write 0 6 true ∷ entry.Write 0 7 true ∷ entry.Write 0 8 true ∷ entry.Claimed 0 6 ∷ entry.Claimed 0 7 ∷ entry.Claimed 0 8 ∷ entry.Batch 0 3 481 482 ∷ entry.Done 0 6 ∷ entry.Done 0 7 ∷ entry.Done 0 8 ∷ entry.Share 0 0 3 ∷ []) ([]) (estimate 0 1 24275 25600 25600 25600 0 0 213 ∷ estimate 0 2 23054 25435 25600 25600 0 0 419 ∷ []) ∷ part ([]) ([]) ([]) ∷ part ([]) ([]) ([]) ∷ []; steps = []; bases = []; homes = []; left = []; strict = []; ending = ending.Faulted }

-- the trace of the next journals
abbrev pub case_612_0_trace : Trace
case_612_0_trace = record { cpus = 1; cap = 1; settings = settings 20 10 0 0; avail = avail 0 0 ∷ []; devices = device 18576 0 100 ∷ device 35 0 100 ∷ []; cgroups = cgroup 136 163 ∷ []; contexts = context 0 1 ∷ context 1 0 ∷ []; inodes = inode 0 0 39 ∷ inode 1 39 16 ∷ inode 0 55 50 ∷ inode 1 105 35 ∷ []; tasks = on_cpu 0 ∷ []; flushers = flusher 0 0 ∷ flusher 1 0 ∷ flusher 1 0 ∷ []; actions = action.Write 0 3 10 19 ∷ action.Write 0 2 36 9 ∷ action.Write 0 0 25 14 ∷ action.Write 0 2 16 11 ∷ action.Rest 0 1 ∷ action.Write 0 2 21 22 ∷ action.Write 0 0 9 14 ∷ action.Rest 0 1 ∷ action.Rest 0 3464 ∷ action.Write 0 2 6 40 ∷ action.Write 0 3 4 9 ∷ action.Write 0 3 5 2 ∷ action.Rest 0 30 ∷ action.Rest 0 3424 ∷ []; order = []; halt = None }

-- a journal of it, which is lawful
abbrev pub case_612_0 : Journal
case_612_0 = record { timer = limits 0 1 0 0 0 ∷ limits 1 1 27 13 27 ∷ []; cpus = part (entry.Write 0 115 true ∷ []) ([]) ([]) ∷ []; steps = []; bases = []; homes = []; left = left 115 1 ∷ []; strict = []; ending = ending.Halted }

-- a journal of it, which breaks point 12 at line 5
abbrev pub case_612_2 : Journal
case_612_2 = record { timer = limits 0 1 0 0 0 ∷ limits 1 1 27 13 27 ∷ []; cpus = part (entry.Write 0 114 true ∷ []) ([]) ([]) ∷ []; steps = []; bases = []; homes = []; left = left 115 1 ∷ []; strict = []; ending = ending.Halted }

-- a journal of it, which breaks point 9 at line 2
abbrev pub case_612_3 : Journal
case_612_3 = record { timer = limits 0 1 0 1 0 ∷ limits 1 1 27 13 27 ∷ []; cpus = part (entry.Write 0 115 true ∷ []) ([]) ([]) ∷ []; steps = []; bases = []; homes = []; left = left 115 1 ∷ []; strict = []; ending = ending.Halted }

-- a journal of it, which breaks point 12 at line 5
abbrev pub case_612_4 : Journal
case_612_4 = record { timer = limits 0 1 0 0 0 ∷ limits 1 1 27 13 27 ∷ []; cpus = part (entry.Write 0 114 true ∷ []) ([]) ([]) ∷ []; steps = []; bases = []; homes = []; left = left 115 1 ∷ []; strict = []; ending = ending.Halted }

-- the trace of the next journals
abbrev pub case_613_4_trace : Trace
case_613_4_trace = record { cpus = 3; cap = 1; settings = settings 20 3 0 0; avail = avail 0 1409 ∷ []; devices = device 2048 0 100 ∷ []; cgroups = cgroup 108 209 ∷ cgroup 193 115 ∷ []; contexts = context 0 1 ∷ context 0 0 ∷ context 0 2 ∷ []; inodes = inode 1 0 24 ∷ inode 1 24 15 ∷ inode 0 39 11 ∷ []; tasks = on_cpu 0 ∷ on_cpu 0 ∷ on_cpu 0 ∷ []; flushers = flusher 0 1 ∷ flusher 0 2 ∷ flusher 0 0 ∷ []; actions = action.Write 0 2 1 3 ∷ action.Write 1 2 0 11 ∷ action.Write 1 0 15 3 ∷ action.Rest 2 8 ∷ action.Write 1 2 0 3 ∷ action.Write 2 1 0 12 ∷ action.Write 0 0 8 9 ∷ []; order = []; halt = None }

-- a journal of it, which breaks point 2 at line 154
abbrev pub case_613_4 : Journal
case_613_4 = record { timer = limits 0 1 281 41 281 ∷ limits 1 1 63 9 63 ∷ limits 2 1 61 9 61 ∷ limits 0 206 281 41 281 ∷ limits 1 206 63 9 63 ∷ limits 2 206 61 9 61 ∷ []; cpus = part (entry.Write 0 40 true ∷ entry.Write 1 39 true ∷ entry.Check 0 ∷ entry.Check 1 ∷ entry.Write 0 41 true ∷ entry.Write 1 40 false ∷ entry.Check 2 ∷ entry.Write 1 41 false ∷ entry.Write 0 42 true ∷ entry.Write 1 42 false ∷ entry.Check 3 ∷ entry.Write 1 43 true ∷ entry.Write 0 8 true ∷ entry.Check 4 ∷ entry.Check 5 ∷ entry.Write 1 44 true ∷ entry.Write 0 9 true ∷ entry.Check 6 ∷ entry.Check 7 ∷ entry.Write 1 45 true ∷ entry.Write 0 10 true ∷ entry.Check 8 ∷ entry.Check 9 ∷ entry.Write 1 46 true ∷ entry.Write 0 11 true ∷ entry.Check 10 ∷ entry.Check 11 ∷ entry.Write 1 47 true ∷ entry.Write 0 12 true ∷ entry.Check 12 ∷ entry.Check 13 ∷ entry.Write 1 48 true ∷ entry.Write 0 13 true ∷ entry.Check 14 ∷ entry.Check 15 ∷ entry.Write 1 49 true ∷ entry.Write 0 14 true ∷ entry.Check 16 ∷ entry.Check 17 ∷ entry.Write 1 15 true ∷ entry.Write 0 15 false ∷ entry.Check 18 ∷ entry.Write 0 16 true ∷ entry.Write 1 16 false ∷ entry.Check 19 ∷ entry.Write 1 17 true ∷ entry.Check 20 ∷ entry.Write 1 39 false ∷ entry.Write 1 40 false ∷ entry.Write 1 41 false ∷ entry.Write 2 24 true ∷ entry.Check 21 ∷ entry.Write 2 25 true ∷ entry.Check 22 ∷ entry.Write 2 26 true ∷ entry.Check 23 ∷ entry.Write 2 27 true ∷ entry.Check 24 ∷ entry.Write 2 28 true ∷ entry.Check 25 ∷ entry.Write 2 29 true ∷ folded (counter.Context 1) 1 (pos 16) ∷ entry.Check 26 ∷ entry.Write 2 30 true ∷ entry.Check 27 ∷ entry.Write 2 31 true ∷ entry.Check 28 ∷ entry.Write 2 32 true ∷ entry.Check 29 ∷ entry.Write 2 33 true ∷ entry.Check 30 ∷ entry.Write 2 34 true ∷ folded (counter.Domain 0) 1 (pos 33) ∷ entry.Check 31 ∷ entry.Write 2 35 true ∷ entry.Check 32 ∷ entry.Claimed 2 39 ∷ entry.Claimed 2 40 ∷ entry.Claimed 2 41 ∷ entry.Claimed 2 42 ∷ entry.Claimed 2 43 ∷ entry.Claimed 2 44 ∷ entry.Claimed 2 45 ∷ entry.Claimed 2 46 ∷ entry.Claimed 2 47 ∷ entry.Claimed 2 48 ∷ entry.Claimed 2 49 ∷ entry.Batch 2 11 370 376 ∷ entry.Done 2 39 ∷ entry.Done 2 40 ∷ entry.Done 2 41 ∷ entry.Done 2 42 ∷ entry.Done 2 43 ∷ entry.Done 2 44 ∷ entry.Done 2 45 ∷ entry.Done 2 46 ∷ entry.Done 2 47 ∷ entry.Done 2 48 ∷ entry.Done 2 49 ∷ entry.Share 0 0 11 ∷ entry.Share 1 0 11 ∷ []) (check 0 0 1 (read 0 0 281 41 281 0 (pos 0) 0 0 1) (Some (read 1 0 63 9 63 0 (pos 0) 0 0 1)) 0 (pos 0) 0 kind.Free 0 1 0 4 1 ∷ check 1 0 1 (read 0 0 281 41 281 0 (pos 0) 0 0 1) (Some (read 1 0 63 9 63 0 (pos 0) 0 0 1)) 0 (pos 0) 0 kind.Free 0 1 0 4 1 ∷ check 0 0 1 (read 0 0 281 41 281 0 (pos 0) 0 0 1) (Some (read 1 0 63 9 63 0 (pos 0) 0 0 1)) 0 (pos 0) 0 kind.Free 0 1 0 4 1 ∷ check 0 0 1 (read 0 0 281 41 281 0 (pos 0) 0 0 1) (Some (read 1 0 63 9 63 0 (pos 0) 0 0 1)) 0 (pos 0) 0 kind.Free 0 1 0 4 1 ∷ check 1 0 1 (read 0 0 281 41 281 0 (pos 0) 0 0 1) (Some (read 1 0 63 9 63 0 (pos 0) 0 0 1)) 0 (pos 0) 0 kind.Free 0 1 0 4 1 ∷ check 0 1 1 (read 0 0 281 41 281 0 (pos 0) 0 0 1) None 0 (pos 0) 0 kind.Free 0 1 0 16 1 ∷ check 1 0 1 (read 0 0 281 41 281 0 (pos 0) 0 0 1) (Some (read 1 0 63 9 63 0 (pos 0) 0 0 1)) 0 (pos 0) 0 kind.Free 0 1 0 4 1 ∷ check 0 1 1 (read 0 0 281 41 281 0 (pos 0) 0 0 1) None 0 (pos 0) 0 kind.Free 0 1 0 16 1 ∷ check 1 0 1 (read 0 0 281 41 281 0 (pos 0) 0 0 1) (Some (read 1 0 63 9 63 0 (pos 0) 0 0 1)) 0 (pos 0) 0 kind.Free 0 1 0 4 1 ∷ check 0 1 1 (read 0 0 281 41 281 0 (pos 0) 0 0 1) None 0 (pos 0) 0 kind.Free 0 1 0 16 1 ∷ check 1 0 1 (read 0 0 281 41 281 0 (pos 0) 0 0 1) (Some (read 1 0 63 9 63 0 (pos 0) 0 0 1)) 0 (pos 0) 0 kind.Free 0 1 0 4 1 ∷ check 0 1 1 (read 0 0 281 41 281 0 (pos 0) 0 0 1) None 0 (pos 0) 0 kind.Free 0 1 0 16 1 ∷ check 1 0 1 (read 0 0 281 41 281 0 (pos 0) 0 0 1) (Some (read 1 0 63 9 63 0 (pos 0) 0 0 1)) 0 (pos 0) 0 kind.Free 0 1 0 4 1 ∷ check 0 1 1 (read 0 0 281 41 281 0 (pos 0) 0 0 1) None 0 (pos 0) 0 kind.Free 0 1 0 16 1 ∷ check 1 0 1 (read 0 0 281 41 281 0 (pos 0) 0 0 1) (Some (read 1 0 63 9 63 0 (pos 0) 0 0 1)) 0 (pos 0) 0 kind.Free 0 1 0 4 1 ∷ check 0 1 1 (read 0 0 281 41 281 0 (pos 0) 0 0 1) None 0 (pos 0) 0 kind.Free 0 1 0 16 1 ∷ check 1 0 1 (read 0 0 281 41 281 0 (pos 0) 0 0 1) (Some (read 1 0 63 9 63 0 (pos 0) 0 0 1)) 0 (pos 0) 0 kind.Free 0 1 0 4 1 ∷ check 0 1 1 (read 0 0 281 41 281 0 (pos 0) 0 0 1) None 0 (pos 0) 0 kind.Free 0 1 0 16 1 ∷ check 1 1 1 (read 0 0 281 41 281 0 (pos 0) 0 0 1) None 0 (pos 0) 0 kind.Free 0 1 0 16 1 ∷ check 0 1 1 (read 0 0 281 41 281 0 (pos 0) 0 0 1) None 0 (pos 0) 0 kind.Free 0 1 0 16 1 ∷ check 1 1 1 (read 0 0 281 41 281 0 (pos 0) 0 0 1) None 0 (pos 0) 0 kind.Free 0 1 0 16 1 ∷ check 2 1 206 (read 0 1 281 41 281 0 (pos 0) 0 0 1) None 0 (pos 0) 1 kind.Free 0 1 0 16 206 ∷ check 2 1 206 (read 0 1 281 41 281 0 (pos 0) 0 0 1) None 0 (pos 0) 1 kind.Free 0 1 0 16 206 ∷ check 2 1 206 (read 0 1 281 41 281 0 (pos 0) 0 0 1) None 0 (pos 0) 1 kind.Free 0 1 0 16 206 ∷ check 2 1 206 (read 0 1 281 41 281 0 (pos 0) 0 0 1) None 0 (pos 0) 1 kind.Free 0 1 0 16 206 ∷ check 2 1 206 (read 0 1 281 41 281 0 (pos 0) 0 0 1) None 0 (pos 0) 1 kind.Free 0 1 0 16 206 ∷ check 2 1 265 (read 0 1 281 41 281 0 (pos 0) 0 0 1) None 1 (pos 16) 1 kind.Free 0 1 0 16 265 ∷ check 2 1 265 (read 0 1 281 41 281 0 (pos 0) 0 0 1) None 1 (pos 16) 1 kind.Free 0 1 0 16 265 ∷ check 2 1 265 (read 0 1 281 41 281 0 (pos 0) 0 0 1) None 1 (pos 16) 1 kind.Free 0 1 0 16 265 ∷ check 2 1 265 (read 0 1 281 41 281 0 (pos 0) 0 0 1) None 1 (pos 16) 1 kind.Free 0 1 0 16 265 ∷ check 2 1 265 (read 0 1 281 41 281 0 (pos 0) 0 0 1) None 1 (pos 16) 1 kind.Free 0 1 0 16 265 ∷ check 2 1 265 (read 0 1 281 41 281 1 (pos 32) 0 0 1) None 1 (pos 16) 1 kind.Free 0 1 0 8 265 ∷ check 2 1 265 (read 0 1 281 41 281 1 (pos 32) 0 0 1) None 1 (pos 16) 1 kind.Free 0 1 0 8 265 ∷ []) ([]) ∷ part (entry.Est 0 ∷ entry.Est 1 ∷ entry.Est 2 ∷ entry.Claimed 0 24 ∷ entry.Claimed 0 25 ∷ entry.Claimed 0 26 ∷ entry.Claimed 0 27 ∷ entry.Claimed 0 28 ∷ entry.Claimed 0 29 ∷ entry.Claimed 0 30 ∷ entry.Claimed 0 31 ∷ entry.Claimed 0 32 ∷ entry.Claimed 0 33 ∷ entry.Claimed 0 34 ∷ entry.Claimed 0 35 ∷ entry.Batch 0 12 993 999 ∷ entry.Done 0 24 ∷ entry.Done 0 25 ∷ entry.Done 0 26 ∷ entry.Done 0 27 ∷ entry.Done 0 28 ∷ entry.Done 0 29 ∷ entry.Done 0 30 ∷ entry.Done 0 31 ∷ entry.Done 0 32 ∷ entry.Done 0 33 ∷ entry.Done 0 34 ∷ entry.Done 0 35 ∷ entry.Share 0 1 12 ∷ []) ([]) (estimate 0 1 24318 25600 25600 25600 0 0 206 ∷ estimate 1 1 24318 25600 25600 25600 0 0 206 ∷ estimate 2 1 24318 25600 25600 25600 0 0 206 ∷ []) ∷ part (entry.Claimed 1 8 ∷ entry.Claimed 1 9 ∷ entry.Claimed 1 10 ∷ entry.Claimed 1 11 ∷ entry.Claimed 1 12 ∷ entry.Claimed 1 13 ∷ entry.Claimed 1 14 ∷ entry.Claimed 1 15 ∷ entry.Claimed 1 16 ∷ entry.Claimed 1 17 ∷ entry.Batch 1 10 374 379 ∷ entry.Done 1 8 ∷ entry.Done 1 9 ∷ entry.Done 1 10 ∷ entry.Done 1 11 ∷ entry.Done 1 12 ∷ entry.Done 1 13 ∷ entry.Done 1 14 ∷ entry.Done 1 15 ∷ entry.Done 1 16 ∷ entry.Done 1 17 ∷ entry.Share 0 1 10 ∷ []) ([]) ([]) ∷ []; steps = []; bases = []; homes = []; left = []; strict = []; ending = ending.Done }
