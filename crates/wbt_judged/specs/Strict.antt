-- Journals of strict devices of which an independent program told the verdict: made by tools/judged-values.
use Rattle.std.specs.Prelude.{true, false, None, [], ◌∷◌, pos, negsuc}
use Rattle.wbt_counter.specs.declared.counter.Counter.TheVariants as counter
use Rattle.wbt_pause.specs.declared.decision.Kind.TheVariants as kind
use Rattle.wbt_trace.specs.declared.trace.Action.TheVariants as action
use Rattle.wbt_trace.specs.declared.trace.Trace.{Trace}
use Rattle.wbt_journal.specs.declared.entry.Entry.TheVariants as entry
use Rattle.wbt_journal.specs.declared.journal.Ending.TheVariants as ending
use Rattle.wbt_journal.specs.declared.journal.Journal.{Journal}
use Rattle.wbt_judged.specs.Lines.{settings, avail, device, strict_device, cgroup, context, inode, on_cpu, flusher, limits, folded, read, check, estimate, part}

-- the trace of the next journals
abbrev pub case_514_2_trace : Trace
case_514_2_trace = record { cpus = 4; cap = 1; settings = settings 51 16 0 0; avail = avail 0 1000 ∷ []; devices = strict_device 32768 0 100 ∷ strict_device 39756 0 100 ∷ []; cgroups = []; contexts = context 0 0 ∷ context 0 0 ∷ []; inodes = inode 1 0 13 ∷ inode 0 13 11 ∷ inode 1 24 2 ∷ inode 0 26 9 ∷ []; tasks = on_cpu 1 ∷ []; flushers = flusher 1 2 ∷ flusher 0 0 ∷ flusher 0 2 ∷ []; actions = action.Write 0 0 6 2 ∷ []; order = []; halt = None }

-- a journal of it, which breaks point 4 at line 11
abbrev pub case_514_2 : Journal
case_514_2 = record { timer = []; cpus = part (entry.Claimed 1 6 ∷ entry.Claimed 1 7 ∷ entry.Batch 1 2 1 2 ∷ entry.Done 1 6 ∷ entry.Done 1 7 ∷ entry.Share 0 1 2 ∷ []) ([]) ([]) ∷ part (entry.Write 0 6 true ∷ entry.Check 0 ∷ entry.Write 0 7 true ∷ entry.Check 1 ∷ []) (check 0 1 1 (read 0 0 509 159 509 0 (pos 0) 0 0 1) None 0 (pos 0) 0 kind.Free 0 1 0 1 1 ∷ check 0 1 1 (read 0 0 509 159 509 0 (pos 0) 0 0 1) None 0 (pos 0) 0 kind.Free 0 1 0 1 1 ∷ []) ([]) ∷ part ([]) ([]) ([]) ∷ part ([]) ([]) ([]) ∷ []; steps = []; bases = []; homes = []; left = []; strict = []; ending = ending.Done }

-- a journal of it, which breaks point 16 at line 23
abbrev pub case_514_3 : Journal
case_514_3 = record { timer = limits 0 1 509 159 509 ∷ []; cpus = part (entry.Claimed 1 6 ∷ entry.Claimed 1 7 ∷ entry.Batch 1 2 1 2 ∷ entry.Done 1 6 ∷ entry.Done 1 7 ∷ entry.Share 0 1 2 ∷ []) ([]) ([]) ∷ part (entry.Write 0 6 true ∷ entry.Check 0 ∷ entry.Write 0 7 true ∷ entry.Check 1 ∷ []) (check 0 1 1 (read 0 0 509 159 509 0 (pos 0) 0 0 1) None 0 (pos 0) 0 kind.Free 0 1 0 1 1 ∷ check 0 1 1 (read 0 0 509 159 509 0 (pos 0) 0 0 1) None 0 (pos 0) 0 kind.Free 0 1 0 1 1 ∷ []) ([]) ∷ part ([]) ([]) ([]) ∷ part ([]) ([]) ([]) ∷ []; steps = []; bases = []; homes = []; left = []; strict = []; ending = ending.Spent }

-- the trace of the next journals
abbrev pub case_527_3_trace : Trace
case_527_3_trace = record { cpus = 1; cap = 1024; settings = settings 20 100 0 1464; avail = avail 0 0 ∷ []; devices = strict_device 256 0 0 ∷ []; cgroups = cgroup 10 8 ∷ cgroup 118 128 ∷ []; contexts = context 0 0 ∷ []; inodes = inode 0 0 28 ∷ inode 0 28 4 ∷ []; tasks = on_cpu 0 ∷ []; flushers = flusher 0 0 ∷ []; actions = action.Write 0 1 0 4 ∷ action.Write 0 0 0 28 ∷ []; order = []; halt = None }

-- a journal of it, which breaks point 2 at line 203
abbrev pub case_527_3 : Journal
case_527_3 = record { timer = limits 0 1 0 0 0 ∷ limits 1 1 1 0 1 ∷ limits 2 1 23 11 23 ∷ limits 0 287 0 0 0 ∷ limits 1 287 1 0 1 ∷ limits 2 287 23 11 23 ∷ limits 0 1421 0 0 0 ∷ limits 1 1421 1 0 1 ∷ limits 2 1421 23 11 23 ∷ limits 0 2231 0 0 0 ∷ limits 1 2231 1 0 1 ∷ limits 2 2231 23 11 23 ∷ []; cpus = part (entry.Write 0 28 true ∷ entry.Write 0 29 true ∷ entry.Write 0 30 true ∷ entry.Write 0 31 true ∷ entry.Write 0 0 true ∷ entry.Write 0 1 true ∷ entry.Write 0 2 true ∷ entry.Write 0 3 true ∷ folded (counter.Context 0) 1 (pos 8) ∷ entry.Write 0 4 true ∷ entry.Write 0 5 true ∷ entry.Write 0 6 true ∷ entry.Write 0 7 true ∷ entry.Write 0 8 true ∷ entry.Write 0 9 true ∷ entry.Write 0 10 true ∷ entry.Write 0 11 true ∷ folded (counter.Context 0) 2 (pos 8) ∷ entry.Check 0 ∷ entry.Est 0 ∷ entry.Check 1 ∷ entry.Claimed 0 28 ∷ entry.Claimed 0 29 ∷ entry.Claimed 0 30 ∷ entry.Claimed 0 31 ∷ entry.Batch 0 4 388 404 ∷ entry.Check 2 ∷ entry.Done 0 28 ∷ entry.Check 3 ∷ entry.Done 0 29 ∷ entry.Done 0 30 ∷ entry.Done 0 31 ∷ entry.Share 0 0 4 ∷ entry.Est 1 ∷ entry.Check 4 ∷ entry.Claimed 0 0 ∷ entry.Claimed 0 1 ∷ entry.Claimed 0 2 ∷ entry.Claimed 0 3 ∷ entry.Claimed 0 4 ∷ entry.Claimed 0 5 ∷ entry.Claimed 0 6 ∷ entry.Claimed 0 7 ∷ entry.Claimed 0 8 ∷ entry.Claimed 0 9 ∷ entry.Claimed 0 10 ∷ entry.Claimed 0 11 ∷ entry.Batch 0 12 696 743 ∷ entry.Check 5 ∷ entry.Check 6 ∷ entry.Done 0 0 ∷ entry.Check 7 ∷ entry.Done 0 1 ∷ entry.Done 0 2 ∷ entry.Done 0 3 ∷ folded (counter.Context 0) 3 (negsuc 7) ∷ entry.Done 0 4 ∷ entry.Done 0 5 ∷ entry.Done 0 6 ∷ entry.Done 0 7 ∷ entry.Done 0 8 ∷ entry.Done 0 9 ∷ entry.Done 0 10 ∷ entry.Done 0 11 ∷ folded (counter.Context 0) 4 (negsuc 7) ∷ entry.Est 2 ∷ entry.Check 8 ∷ entry.Write 0 12 true ∷ entry.Check 9 ∷ entry.Write 0 13 true ∷ entry.Check 10 ∷ entry.Write 0 14 true ∷ entry.Check 11 ∷ entry.Write 0 15 true ∷ entry.Check 12 ∷ entry.Write 0 16 true ∷ entry.Check 13 ∷ entry.Write 0 17 true ∷ entry.Est 3 ∷ entry.Check 14 ∷ entry.Est 4 ∷ entry.Write 0 18 true ∷ entry.Check 15 ∷ entry.Write 0 19 true ∷ entry.Check 16 ∷ entry.Write 0 20 true ∷ entry.Check 17 ∷ entry.Est 5 ∷ entry.Write 0 21 true ∷ entry.Check 18 ∷ entry.Claimed 0 12 ∷ entry.Claimed 0 13 ∷ entry.Claimed 0 14 ∷ entry.Claimed 0 15 ∷ entry.Claimed 0 16 ∷ entry.Claimed 0 17 ∷ entry.Claimed 0 18 ∷ entry.Claimed 0 19 ∷ entry.Claimed 0 20 ∷ entry.Claimed 0 21 ∷ entry.Batch 0 10 1927 1967 ∷ entry.Write 0 22 true ∷ entry.Done 0 12 ∷ entry.Check 19 ∷ entry.Done 0 13 ∷ entry.Done 0 14 ∷ entry.Done 0 15 ∷ entry.Write 0 23 true ∷ entry.Done 0 16 ∷ entry.Check 20 ∷ entry.Done 0 17 ∷ entry.Done 0 18 ∷ entry.Done 0 19 ∷ entry.Write 0 24 true ∷ entry.Done 0 20 ∷ entry.Check 21 ∷ entry.Done 0 21 ∷ entry.Est 6 ∷ entry.Claimed 0 22 ∷ entry.Claimed 0 23 ∷ entry.Claimed 0 24 ∷ entry.Batch 0 3 2236 2248 ∷ entry.Write 0 25 true ∷ entry.Check 22 ∷ entry.Write 0 26 true ∷ entry.Check 23 ∷ entry.Write 0 27 true ∷ entry.Check 24 ∷ entry.Done 0 22 ∷ entry.Done 0 23 ∷ entry.Done 0 24 ∷ entry.Claimed 0 25 ∷ entry.Claimed 0 26 ∷ entry.Claimed 0 27 ∷ entry.Batch 0 3 2248 2260 ∷ entry.Done 0 25 ∷ entry.Done 0 26 ∷ entry.Done 0 27 ∷ folded (counter.Context 0) 6 (negsuc 7) ∷ []) (check 0 0 94 (read 0 0 0 0 0 0 (pos 0) 0 0 1) None 2 (pos 16) 0 kind.Wait 1 0 0 0 95 ∷ check 0 0 388 (read 0 1 0 0 0 0 (pos 0) 0 0 1) None 2 (pos 16) 1 kind.Wait 1 0 0 0 389 ∷ check 0 0 389 (read 0 1 0 0 0 0 (pos 0) 0 0 1) None 2 (pos 16) 1 kind.Wait 1 0 0 0 390 ∷ check 0 0 494 (read 0 1 0 0 0 0 (pos 0) 0 0 1) None 2 (pos 16) 1 kind.Wait 1 0 0 0 495 ∷ check 0 0 696 (read 0 1 0 0 0 0 (pos 0) 0 4 5) None 2 (pos 16) 2 kind.Wait 1 0 0 0 697 ∷ check 0 0 698 (read 0 1 0 0 0 0 (pos 0) 0 4 5) None 2 (pos 16) 2 kind.Wait 1 0 0 0 699 ∷ check 0 0 701 (read 0 1 0 0 0 0 (pos 0) 0 4 5) None 2 (pos 16) 2 kind.Wait 1 0 0 0 702 ∷ check 0 0 909 (read 0 1 0 0 0 0 (pos 0) 0 4 5) None 2 (pos 16) 2 kind.Wait 1 0 0 0 910 ∷ check 0 0 1099 (read 0 1 0 0 0 0 (pos 0) 0 4 5) None 4 (pos 0) 3 kind.Free 0 1 0 1 1099 ∷ check 0 0 1099 (read 0 1 0 0 0 0 (pos 0) 0 4 5) None 4 (pos 0) 3 kind.Free 0 1 0 1 1099 ∷ check 0 0 1099 (read 0 1 0 0 0 0 (pos 0) 0 4 5) None 4 (pos 0) 3 kind.Free 0 1 0 1 1099 ∷ check 0 0 1099 (read 0 1 0 0 0 0 (pos 0) 0 4 5) None 4 (pos 0) 3 kind.Free 0 1 0 1 1099 ∷ check 0 0 1099 (read 0 1 0 0 0 0 (pos 0) 0 4 5) None 4 (pos 0) 3 kind.Free 0 1 0 1 1099 ∷ check 0 0 1099 (read 0 1 0 0 0 0 (pos 0) 0 4 5) None 4 (pos 0) 3 kind.Free 0 1 0 1 1099 ∷ check 0 0 1421 (read 0 1 0 0 0 0 (pos 0) 0 4 5) None 4 (pos 0) 4 kind.Free 0 1 0 1 1421 ∷ check 0 0 1421 (read 0 1 0 0 0 0 (pos 0) 0 4 5) None 4 (pos 0) 5 kind.Free 0 1 0 1 1421 ∷ check 0 0 1421 (read 0 1 0 0 0 0 (pos 0) 0 4 5) None 5 (pos 8) 5 kind.Exempt 1 1 0 0 1422 ∷ check 0 0 1516 (read 0 2 0 0 0 0 (pos 0) 0 4 5) None 5 (pos 8) 5 kind.Exempt 1 1 0 0 1517 ∷ check 0 0 1927 (read 0 2 0 0 0 0 (pos 0) 0 4 5) None 5 (pos 8) 6 kind.Exempt 1 1 0 0 1928 ∷ check 0 0 2031 (read 0 2 0 0 0 0 (pos 0) 0 4 5) None 5 (pos 8) 6 kind.Exempt 1 1 0 0 2032 ∷ check 0 0 2231 (read 0 2 0 0 0 0 (pos 0) 0 4 5) None 5 (pos 8) 6 kind.Exempt 1 1 0 0 2232 ∷ check 0 0 2236 (read 0 2 0 0 0 0 (pos 0) 0 4 5) None 5 (pos 8) 6 kind.Exempt 1 1 0 0 2237 ∷ check 0 0 2237 (read 0 3 0 0 0 0 (pos 0) 0 4 5) None 5 (pos 8) 7 kind.Exempt 1 1 0 0 2238 ∷ check 0 0 2238 (read 0 3 0 0 0 0 (pos 0) 0 4 5) None 5 (pos 8) 7 kind.Exempt 1 1 0 0 2239 ∷ check 0 0 2239 (read 0 3 0 0 0 0 (pos 0) 0 4 5) None 5 (pos 8) 7 kind.Exempt 1 1 0 0 2240 ∷ []) (estimate 0 1 23812 25600 25600 465 0 16 287 ∷ estimate 0 2 22609 25377 22568 1347 4 20 494 ∷ estimate 0 3 20321 25031 22568 25377 16 16 909 ∷ estimate 0 4 18832 24443 22568 25031 16 16 1209 ∷ estimate 0 5 17857 23742 22568 24443 16 16 1421 ∷ estimate 0 6 15651 23007 22568 1582 16 24 1927 ∷ estimate 0 7 14472 22088 19944 697 26 34 2236 ∷ []) ∷ []; steps = []; bases = []; homes = []; left = []; strict = []; ending = ending.Done }

-- the trace of the next journals
abbrev pub case_533_1_trace : Trace
case_533_1_trace = record { cpus = 4; cap = 1; settings = settings 20 10 0 0; avail = avail 0 125 ∷ []; devices = strict_device 128 0 100 ∷ device 26425 0 100 ∷ []; cgroups = []; contexts = context 1 0 ∷ context 1 0 ∷ []; inodes = inode 1 0 42 ∷ inode 1 42 10 ∷ inode 0 52 27 ∷ []; tasks = on_cpu 0 ∷ on_cpu 0 ∷ on_cpu 0 ∷ []; flushers = flusher 0 0 ∷ flusher 0 0 ∷ flusher 1 2 ∷ []; actions = action.Rest 2 9 ∷ action.Write 2 2 5 19 ∷ action.Write 1 1 3 6 ∷ action.Write 2 0 39 2 ∷ action.Write 0 0 23 6 ∷ []; order = []; halt = None }

-- a journal of it, which breaks point 13 at line 214
abbrev pub case_533_1 : Journal
case_533_1 = record { timer = limits 0 1 24 12 24 ∷ limits 0 248 24 12 24 ∷ []; cpus = part (entry.Write 0 23 true ∷ entry.Write 1 45 true ∷ entry.Check 0 ∷ entry.Check 1 ∷ entry.Write 0 24 true ∷ entry.Write 1 46 true ∷ entry.Check 2 ∷ entry.Check 3 ∷ entry.Write 0 25 true ∷ entry.Write 1 47 true ∷ entry.Check 4 ∷ entry.Check 5 ∷ entry.Write 0 26 true ∷ entry.Write 1 48 true ∷ entry.Check 6 ∷ entry.Check 7 ∷ entry.Write 0 27 true ∷ entry.Write 1 49 true ∷ entry.Check 8 ∷ entry.Check 9 ∷ entry.Write 0 28 true ∷ entry.Write 1 50 true ∷ entry.Check 10 ∷ entry.Check 11 ∷ entry.Write 2 57 true ∷ entry.Check 12 ∷ entry.Write 2 58 true ∷ entry.Check 13 ∷ entry.Write 2 59 true ∷ entry.Check 14 ∷ entry.Write 2 60 true ∷ entry.Check 15 ∷ entry.Write 2 61 true ∷ entry.Check 16 ∷ entry.Write 2 62 true ∷ entry.Check 17 ∷ entry.Write 2 63 true ∷ entry.Check 18 ∷ entry.Write 2 64 true ∷ entry.Check 19 ∷ entry.Write 2 65 true ∷ entry.Check 20 ∷ entry.Write 2 66 true ∷ entry.Check 21 ∷ entry.Write 2 67 true ∷ entry.Check 22 ∷ entry.Write 2 68 true ∷ entry.Check 23 ∷ entry.Write 2 69 true ∷ entry.Check 24 ∷ entry.Write 2 70 true ∷ entry.Check 25 ∷ entry.Write 2 71 true ∷ entry.Check 26 ∷ entry.Write 2 72 true ∷ entry.Check 27 ∷ entry.Write 2 73 true ∷ entry.Check 28 ∷ entry.Write 2 74 true ∷ entry.Check 29 ∷ entry.Write 2 75 true ∷ entry.Check 30 ∷ entry.Write 2 39 true ∷ folded (counter.Domain 0) 1 (pos 32) ∷ entry.Check 31 ∷ entry.Write 2 40 true ∷ entry.Check 32 ∷ []) (check 0 1 1 (read 0 0 24 12 24 0 (pos 0) 0 0 1) None 0 (pos 0) 0 kind.Free 0 1 0 4 1 ∷ check 1 1 1 (read 0 0 24 12 24 0 (pos 0) 0 0 1) None 0 (pos 0) 0 kind.Free 0 1 0 4 1 ∷ check 0 1 1 (read 0 0 24 12 24 0 (pos 0) 0 0 1) None 0 (pos 0) 0 kind.Free 0 1 0 4 1 ∷ check 1 1 1 (read 0 0 24 12 24 0 (pos 0) 0 0 1) None 0 (pos 0) 0 kind.Free 0 1 0 4 1 ∷ check 0 1 1 (read 0 0 24 12 24 0 (pos 0) 0 0 1) None 0 (pos 0) 0 kind.Free 0 1 0 4 1 ∷ check 1 1 1 (read 0 0 24 12 24 0 (pos 0) 0 0 1) None 0 (pos 0) 0 kind.Free 0 1 0 4 1 ∷ check 0 1 1 (read 0 0 24 12 24 0 (pos 0) 0 0 1) None 0 (pos 0) 0 kind.Free 0 1 0 4 1 ∷ check 1 1 1 (read 0 0 24 12 24 0 (pos 0) 0 0 1) None 0 (pos 0) 0 kind.Free 0 1 0 4 1 ∷ check 0 1 1 (read 0 0 24 12 24 0 (pos 0) 0 0 1) None 0 (pos 0) 0 kind.Free 0 1 0 4 1 ∷ check 1 1 1 (read 0 0 24 12 24 0 (pos 0) 0 0 1) None 0 (pos 0) 0 kind.Free 0 1 0 4 1 ∷ check 0 1 1 (read 0 0 24 12 24 0 (pos 0) 0 0 1) None 0 (pos 0) 0 kind.Free 0 1 0 4 1 ∷ check 1 1 1 (read 0 0 24 12 24 0 (pos 0) 0 0 1) None 0 (pos 0) 0 kind.Free 0 1 0 4 1 ∷ check 2 0 156 (read 0 0 24 12 24 0 (pos 0) 0 0 1) None 0 (pos 0) 0 kind.Free 0 1 0 4 156 ∷ check 2 0 156 (read 0 0 24 12 24 0 (pos 0) 0 0 1) None 0 (pos 0) 0 kind.Free 0 1 0 4 156 ∷ check 2 0 248 (read 0 1 24 12 24 0 (pos 0) 0 0 1) None 0 (pos 0) 0 kind.Free 0 1 0 4 248 ∷ check 2 0 248 (read 0 1 24 12 24 0 (pos 0) 0 0 1) None 0 (pos 0) 0 kind.Free 0 1 0 4 248 ∷ check 2 0 248 (read 0 1 24 12 24 0 (pos 0) 0 0 1) None 0 (pos 0) 0 kind.Free 0 1 0 4 248 ∷ check 2 0 248 (read 0 1 24 12 24 0 (pos 0) 0 0 1) None 0 (pos 0) 0 kind.Free 0 1 0 4 248 ∷ check 2 0 248 (read 0 1 24 12 24 0 (pos 0) 0 0 1) None 0 (pos 0) 0 kind.Free 0 1 0 4 248 ∷ check 2 0 248 (read 0 1 24 12 24 0 (pos 0) 0 0 1) None 0 (pos 0) 0 kind.Free 0 1 0 4 248 ∷ check 2 0 248 (read 0 1 24 12 24 0 (pos 0) 0 0 1) None 0 (pos 0) 0 kind.Free 0 1 0 4 248 ∷ check 2 0 248 (read 0 1 24 12 24 0 (pos 0) 0 0 1) None 0 (pos 0) 0 kind.Free 0 1 0 4 248 ∷ check 2 0 248 (read 0 1 24 12 24 0 (pos 0) 0 0 1) None 0 (pos 0) 0 kind.Free 0 1 0 4 248 ∷ check 2 0 248 (read 0 1 24 12 24 0 (pos 0) 0 0 1) None 0 (pos 0) 0 kind.Free 0 1 0 4 248 ∷ check 2 0 248 (read 0 1 24 12 24 0 (pos 0) 0 0 1) None 0 (pos 0) 0 kind.Free 0 1 0 4 248 ∷ check 2 0 248 (read 0 1 24 12 24 0 (pos 0) 0 0 1) None 0 (pos 0) 0 kind.Free 0 1 0 4 248 ∷ check 2 0 248 (read 0 1 24 12 24 0 (pos 0) 0 0 1) None 0 (pos 0) 0 kind.Free 0 1 0 4 248 ∷ check 2 0 248 (read 0 1 24 12 24 0 (pos 0) 0 0 1) None 0 (pos 0) 0 kind.Free 0 1 0 4 248 ∷ check 2 0 248 (read 0 1 24 12 24 0 (pos 0) 0 0 1) None 0 (pos 0) 0 kind.Free 0 1 0 4 248 ∷ check 2 0 248 (read 0 1 24 12 24 0 (pos 0) 0 0 1) None 0 (pos 0) 0 kind.Free 0 1 0 4 248 ∷ check 2 0 248 (read 0 1 24 12 24 0 (pos 0) 0 0 1) None 0 (pos 0) 0 kind.Free 0 1 0 4 248 ∷ check 2 1 248 (read 0 1 24 12 24 1 (pos 32) 0 0 1) None 0 (pos 0) 0 kind.Exempt 1 1 0 0 249 ∷ check 2 1 249 (read 0 1 24 12 24 1 (pos 32) 0 0 1) None 0 (pos 0) 0 kind.Exempt 1 1 0 0 250 ∷ []) ([]) ∷ part ([]) ([]) ([]) ∷ part (entry.Claimed 2 23 ∷ entry.Claimed 2 24 ∷ entry.Claimed 2 25 ∷ entry.Claimed 2 26 ∷ entry.Claimed 2 27 ∷ entry.Claimed 2 28 ∷ entry.Claimed 2 39 ∷ entry.Claimed 2 40 ∷ entry.Batch 2 8 249 250 ∷ entry.Done 2 23 ∷ entry.Done 2 24 ∷ entry.Done 2 25 ∷ entry.Done 2 26 ∷ entry.Done 2 27 ∷ entry.Done 2 28 ∷ entry.Done 2 39 ∷ entry.Done 2 40 ∷ entry.Share 0 1 8 ∷ entry.Claimed 2 45 ∷ entry.Claimed 2 46 ∷ entry.Claimed 2 47 ∷ entry.Claimed 2 48 ∷ entry.Claimed 2 49 ∷ entry.Claimed 2 50 ∷ entry.Batch 2 6 250 251 ∷ entry.Done 2 45 ∷ entry.Done 2 46 ∷ entry.Done 2 47 ∷ entry.Done 2 48 ∷ entry.Done 2 49 ∷ entry.Done 2 50 ∷ entry.Share 0 1 6 ∷ entry.Claimed 2 57 ∷ entry.Claimed 2 58 ∷ entry.Claimed 2 59 ∷ entry.Claimed 2 60 ∷ entry.Claimed 2 61 ∷ entry.Claimed 2 62 ∷ entry.Claimed 2 63 ∷ entry.Claimed 2 64 ∷ entry.Claimed 2 65 ∷ entry.Claimed 2 66 ∷ entry.Claimed 2 67 ∷ entry.Claimed 2 69 ∷ entry.Claimed 2 69 ∷ entry.Claimed 2 70 ∷ entry.Claimed 2 71 ∷ entry.Claimed 2 72 ∷ entry.Claimed 2 73 ∷ entry.Claimed 2 74 ∷ entry.Claimed 2 75 ∷ entry.Batch 2 19 251 252 ∷ entry.Done 2 57 ∷ entry.Done 2 58 ∷ entry.Done 2 59 ∷ entry.Done 2 60 ∷ entry.Done 2 61 ∷ entry.Done 2 62 ∷ entry.Done 2 63 ∷ entry.Done 2 64 ∷ entry.Done 2 65 ∷ entry.Done 2 66 ∷ entry.Done 2 67 ∷ entry.Done 2 68 ∷ entry.Done 2 69 ∷ entry.Done 2 70 ∷ entry.Done 2 71 ∷ entry.Done 2 72 ∷ entry.Done 2 73 ∷ entry.Done 2 74 ∷ folded (counter.Domain 0) 2 (negsuc 31) ∷ entry.Done 2 75 ∷ entry.Share 0 0 19 ∷ []) ([]) ([]) ∷ part ([]) ([]) ([]) ∷ []; steps = []; bases = []; homes = []; left = []; strict = []; ending = ending.Done }

-- the trace of the next journals
abbrev pub case_538_3_trace : Trace
case_538_3_trace = record { cpus = 3; cap = 1; settings = settings 20 10 0 0; avail = avail 0 1000 ∷ avail 271 1000 ∷ []; devices = strict_device 12326 0 100 ∷ []; cgroups = []; contexts = context 0 0 ∷ context 0 0 ∷ []; inodes = inode 1 0 6 ∷ inode 1 6 11 ∷ inode 0 17 5 ∷ []; tasks = on_cpu 0 ∷ []; flushers = flusher 0 0 ∷ flusher 0 2 ∷ []; actions = action.Rest 0 65 ∷ action.Write 0 1 7 2 ∷ action.Rest 0 51 ∷ action.Write 0 1 0 1 ∷ []; order = []; halt = None }

-- a journal of it, which breaks point 8 at line 5
abbrev pub case_538_3 : Journal
case_538_3 = record { timer = limits 0 1 199 99 199 ∷ []; cpus = part (entry.Write 0 13 true ∷ entry.Write 0 14 true ∷ entry.Check 0 ∷ entry.Write 0 6 true ∷ entry.Check 1 ∷ []) (check 0 1 66 (read 0 0 199 99 199 0 (pos 0) 0 0 1) None 0 (pos 0) 0 kind.Free 0 1 0 1 66 ∷ check 0 1 117 (read 0 0 199 99 199 0 (pos 0) 0 0 1) None 0 (pos 0) 0 kind.Free 0 1 0 1 117 ∷ []) ([]) ∷ part ([]) ([]) ([]) ∷ part (entry.Claimed 1 6 ∷ entry.Claimed 1 13 ∷ entry.Claimed 1 14 ∷ entry.Batch 1 3 117 118 ∷ entry.Check 0 ∷ entry.Done 1 6 ∷ entry.Done 1 13 ∷ entry.Done 1 14 ∷ entry.Share 0 1 3 ∷ []) (check 0 1 66 (read 0 0 199 99 199 0 (pos 0) 0 0 1) None 0 (pos 0) 0 kind.Free 0 1 0 1 66 ∷ []) ([]) ∷ []; steps = []; bases = []; homes = []; left = []; strict = []; ending = ending.Done }

-- the trace of the next journals
abbrev pub case_548_2_trace : Trace
case_548_2_trace = record { cpus = 2; cap = 1024; settings = settings 20 10 0 0; avail = avail 0 100 ∷ []; devices = strict_device 8883 0 100 ∷ []; cgroups = []; contexts = context 0 0 ∷ context 0 0 ∷ []; inodes = inode 0 0 1 ∷ inode 1 1 5 ∷ []; tasks = on_cpu 0 ∷ on_cpu 1 ∷ []; flushers = flusher 0 1 ∷ flusher 0 0 ∷ []; actions = action.Write 0 0 0 1 ∷ action.Write 1 0 0 1 ∷ action.Rest 1 335 ∷ []; order = []; halt = None }

-- a journal of it, which breaks point 14 at line 4
abbrev pub case_548_2 : Journal
case_548_2 = record { timer = limits 0 1 19 9 19 ∷ []; cpus = part (entry.Batch 0 1 4 5 ∷ entry.Write 0 0 false ∷ []) ([]) ([]) ∷ part (entry.Write 1 0 true ∷ entry.Claimed 0 0 ∷ entry.Done 0 0 ∷ entry.Share 0 0 1 ∷ []) ([]) ([]) ∷ []; steps = []; bases = []; homes = []; left = []; strict = []; ending = ending.Done }

-- a journal of it, which breaks point 5 at line 10
abbrev pub case_548_4 : Journal
case_548_4 = record { timer = limits 0 1 19 9 19 ∷ []; cpus = part (entry.Write 0 0 false ∷ []) ([]) ([]) ∷ part (entry.Write 1 0 true ∷ entry.Claimed 0 0 ∷ entry.Batch 0 1 4 5 ∷ entry.Done 0 0 ∷ entry.Share 1 0 1 ∷ []) ([]) ([]) ∷ []; steps = []; bases = []; homes = []; left = []; strict = []; ending = ending.Done }

-- the trace of the next journals
abbrev pub case_550_0_trace : Trace
case_550_0_trace = record { cpus = 2; cap = 2; settings = settings 12 20 0 0; avail = avail 0 100000 ∷ []; devices = device 23769 0 100 ∷ strict_device 2048 0 100 ∷ []; cgroups = cgroup 89 73 ∷ []; contexts = context 1 0 ∷ []; inodes = inode 0 0 2 ∷ inode 0 2 13 ∷ inode 0 15 17 ∷ inode 0 32 16 ∷ inode 0 48 7 ∷ inode 0 55 9 ∷ []; tasks = on_cpu 1 ∷ on_cpu 0 ∷ []; flushers = flusher 0 0 ∷ flusher 0 1 ∷ flusher 1 1 ∷ []; actions = action.Write 0 0 0 2 ∷ action.Write 0 3 3 1 ∷ action.Write 1 0 0 1 ∷ action.Write 0 3 7 4 ∷ action.Write 1 0 1 1 ∷ action.Write 1 4 0 7 ∷ action.Write 1 1 0 13 ∷ []; order = []; halt = None }

-- a journal of it, which is lawful
abbrev pub case_550_0 : Journal
case_550_0 = record { timer = limits 0 1 11987 5993 11987 ∷ limits 1 1 19 9 19 ∷ limits 0 259 11987 5993 11987 ∷ limits 1 259 19 9 19 ∷ limits 0 836 11987 5993 11987 ∷ limits 1 836 19 9 19 ∷ []; cpus = part (entry.Write 1 0 false ∷ entry.Write 1 1 false ∷ entry.Write 1 48 true ∷ entry.Write 1 49 true ∷ entry.Check 0 ∷ entry.Write 1 50 true ∷ entry.Check 1 ∷ entry.Write 1 51 true ∷ entry.Check 2 ∷ entry.Write 1 52 true ∷ entry.Check 3 ∷ entry.Write 1 53 true ∷ entry.Check 4 ∷ entry.Write 1 54 true ∷ entry.Check 5 ∷ entry.Write 1 2 true ∷ entry.Check 6 ∷ entry.Write 1 3 true ∷ entry.Check 7 ∷ entry.Write 1 4 true ∷ entry.Check 8 ∷ entry.Write 1 5 true ∷ entry.Check 9 ∷ entry.Write 1 6 true ∷ entry.Check 10 ∷ entry.Write 1 7 true ∷ entry.Check 11 ∷ entry.Write 1 8 true ∷ entry.Check 12 ∷ entry.Write 1 9 true ∷ entry.Check 13 ∷ entry.Write 1 10 true ∷ folded (counter.Context 0) 1 (pos 16) ∷ entry.Check 14 ∷ entry.Write 1 11 true ∷ entry.Check 15 ∷ entry.Write 1 12 true ∷ entry.Check 16 ∷ entry.Write 1 13 true ∷ entry.Check 17 ∷ entry.Write 1 14 true ∷ entry.Check 18 ∷ []) (check 1 0 1 (read 0 0 11987 5993 11987 0 (pos 0) 0 0 1) None 0 (pos 0) 0 kind.Free 0 1 0 1 1 ∷ check 1 0 1 (read 0 0 11987 5993 11987 0 (pos 0) 0 0 1) None 0 (pos 0) 0 kind.Free 0 1 0 1 1 ∷ check 1 0 1 (read 0 0 11987 5993 11987 0 (pos 0) 0 0 1) None 0 (pos 0) 0 kind.Free 0 1 0 1 1 ∷ check 1 0 1 (read 0 0 11987 5993 11987 0 (pos 0) 0 0 1) None 0 (pos 0) 0 kind.Free 0 1 0 1 1 ∷ check 1 0 1 (read 0 0 11987 5993 11987 0 (pos 0) 0 0 1) None 0 (pos 0) 0 kind.Free 0 1 0 1 1 ∷ check 1 0 1 (read 0 0 11987 5993 11987 0 (pos 0) 0 0 1) None 0 (pos 0) 0 kind.Free 0 1 0 1 1 ∷ check 1 0 1 (read 0 0 11987 5993 11987 0 (pos 0) 0 0 1) None 0 (pos 0) 0 kind.Free 0 1 0 1 1 ∷ check 1 0 1 (read 0 0 11987 5993 11987 0 (pos 0) 0 0 1) None 0 (pos 0) 0 kind.Free 0 1 0 1 1 ∷ check 1 0 1 (read 0 0 11987 5993 11987 0 (pos 0) 0 0 1) None 0 (pos 0) 0 kind.Free 0 1 0 1 1 ∷ check 1 0 1 (read 0 0 11987 5993 11987 0 (pos 0) 0 0 1) None 0 (pos 0) 0 kind.Free 0 1 0 1 1 ∷ check 1 0 1 (read 0 0 11987 5993 11987 0 (pos 0) 0 0 1) None 0 (pos 0) 0 kind.Free 0 1 0 1 1 ∷ check 1 0 1 (read 0 0 11987 5993 11987 0 (pos 0) 0 0 1) None 0 (pos 0) 0 kind.Free 0 1 0 1 1 ∷ check 1 0 1 (read 0 0 11987 5993 11987 0 (pos 0) 0 0 1) None 0 (pos 0) 0 kind.Free 0 1 0 1 1 ∷ check 1 0 1 (read 0 0 11987 5993 11987 0 (pos 0) 0 0 1) None 0 (pos 0) 0 kind.Free 0 1 0 1 1 ∷ check 1 0 1 (read 0 0 11987 5993 11987 0 (pos 0) 0 0 1) None 1 (pos 16) 0 kind.Exempt 1 1 0 0 2 ∷ check 1 0 63 (read 0 0 11987 5993 11987 0 (pos 0) 0 0 1) None 1 (pos 16) 0 kind.Exempt 1 1 0 0 64 ∷ check 1 0 262 (read 0 0 11987 5993 11987 0 (pos 0) 0 0 1) None 1 (pos 16) 0 kind.Exempt 1 1 0 0 263 ∷ check 1 0 840 (read 0 1 11987 5993 11987 0 (pos 0) 0 0 1) None 1 (pos 16) 1 kind.Exempt 1 1 0 0 841 ∷ check 1 0 954 (read 0 2 11987 5993 11987 0 (pos 0) 0 0 1) None 1 (pos 16) 1 kind.Exempt 1 1 0 0 955 ∷ []) ([]) ∷ part (entry.Write 0 0 true ∷ entry.Write 0 1 true ∷ entry.Check 0 ∷ entry.Write 0 35 true ∷ entry.Check 1 ∷ entry.Write 0 39 true ∷ entry.Check 2 ∷ entry.Write 0 40 true ∷ entry.Check 3 ∷ entry.Write 0 41 true ∷ entry.Check 4 ∷ entry.Write 0 42 true ∷ entry.Check 5 ∷ entry.Est 0 ∷ entry.Claimed 2 0 ∷ entry.Claimed 2 1 ∷ entry.Batch 2 2 836 837 ∷ entry.Done 2 0 ∷ entry.Done 2 1 ∷ entry.Share 0 0 2 ∷ entry.Claimed 2 35 ∷ entry.Claimed 2 39 ∷ entry.Claimed 2 40 ∷ entry.Claimed 2 41 ∷ entry.Claimed 2 42 ∷ entry.Batch 2 5 1055 1058 ∷ entry.Done 2 35 ∷ entry.Done 2 39 ∷ entry.Done 2 40 ∷ entry.Done 2 41 ∷ entry.Done 2 42 ∷ entry.Share 0 0 5 ∷ entry.Claimed 2 48 ∷ entry.Claimed 2 49 ∷ entry.Claimed 2 50 ∷ entry.Claimed 2 51 ∷ entry.Claimed 2 52 ∷ entry.Claimed 2 53 ∷ entry.Claimed 2 54 ∷ entry.Batch 2 7 1058 1062 ∷ entry.Done 2 48 ∷ entry.Done 2 49 ∷ entry.Done 2 50 ∷ entry.Done 2 51 ∷ entry.Done 2 52 ∷ entry.Done 2 53 ∷ entry.Done 2 54 ∷ entry.Share 0 0 7 ∷ entry.Claimed 2 2 ∷ entry.Claimed 2 3 ∷ entry.Claimed 2 4 ∷ entry.Claimed 2 5 ∷ entry.Claimed 2 6 ∷ entry.Claimed 2 7 ∷ entry.Claimed 2 8 ∷ entry.Claimed 2 9 ∷ entry.Claimed 2 10 ∷ entry.Claimed 2 11 ∷ entry.Claimed 2 12 ∷ entry.Claimed 2 13 ∷ entry.Claimed 2 14 ∷ entry.Batch 2 13 1062 1069 ∷ entry.Done 2 2 ∷ entry.Done 2 3 ∷ entry.Done 2 4 ∷ entry.Done 2 5 ∷ entry.Done 2 6 ∷ entry.Done 2 7 ∷ entry.Done 2 8 ∷ entry.Done 2 9 ∷ entry.Done 2 10 ∷ folded (counter.Context 0) 2 (negsuc 15) ∷ entry.Done 2 11 ∷ entry.Done 2 12 ∷ entry.Done 2 13 ∷ entry.Done 2 14 ∷ entry.Share 0 0 13 ∷ []) (check 0 0 1 (read 0 0 11987 5993 11987 0 (pos 0) 0 0 1) None 0 (pos 0) 0 kind.Free 0 1 0 1 1 ∷ check 0 0 1 (read 0 0 11987 5993 11987 0 (pos 0) 0 0 1) None 0 (pos 0) 0 kind.Free 0 1 0 1 1 ∷ check 0 0 1 (read 0 0 11987 5993 11987 0 (pos 0) 0 0 1) None 0 (pos 0) 0 kind.Free 0 1 0 1 1 ∷ check 0 0 1 (read 0 0 11987 5993 11987 0 (pos 0) 0 0 1) None 0 (pos 0) 0 kind.Free 0 1 0 1 1 ∷ check 0 0 1 (read 0 0 11987 5993 11987 0 (pos 0) 0 0 1) None 0 (pos 0) 0 kind.Free 0 1 0 1 1 ∷ check 0 0 1 (read 0 0 11987 5993 11987 0 (pos 0) 0 0 1) None 0 (pos 0) 0 kind.Free 0 1 0 1 1 ∷ []) (estimate 0 1 23968 25600 25600 25600 0 16 262 ∷ []) ∷ []; steps = []; bases = []; homes = []; left = []; strict = []; ending = ending.Done }

-- the trace of the next journals
abbrev pub case_556_3_trace : Trace
case_556_3_trace = record { cpus = 1; cap = 454; settings = settings 20 10 0 0; avail = avail 0 100000 ∷ avail 232 100 ∷ []; devices = strict_device 2048 0 100 ∷ []; cgroups = []; contexts = context 0 0 ∷ []; inodes = inode 0 0 6 ∷ inode 0 6 1 ∷ []; tasks = on_cpu 0 ∷ []; flushers = flusher 0 0 ∷ flusher 0 0 ∷ []; actions = action.Write 0 0 3 2 ∷ action.Rest 0 44 ∷ action.Rest 0 289 ∷ []; order = []; halt = None }

-- a journal of it, which breaks point 12 at line 4
abbrev pub case_556_3 : Journal
case_556_3 = record { timer = limits 0 1 19995 9985 19995 ∷ []; cpus = part (entry.Write 1 3 true ∷ entry.Write 0 4 true ∷ entry.Claimed 0 3 ∷ entry.Claimed 0 4 ∷ entry.Batch 0 2 138 139 ∷ entry.Done 0 3 ∷ entry.Done 0 4 ∷ entry.Share 0 0 2 ∷ []) ([]) ([]) ∷ []; steps = []; bases = []; homes = []; left = []; strict = []; ending = ending.Done }

-- the trace of the next journals
abbrev pub case_568_0_trace : Trace
case_568_0_trace = record { cpus = 1; cap = 176; settings = settings 20 10 0 0; avail = avail 0 1 ∷ avail 595 0 ∷ []; devices = strict_device 128 0 100 ∷ []; cgroups = cgroup 16 4 ∷ []; contexts = context 0 0 ∷ context 0 0 ∷ []; inodes = inode 1 0 6 ∷ inode 1 6 4 ∷ []; tasks = on_cpu 0 ∷ []; flushers = flusher 0 0 ∷ flusher 0 0 ∷ []; actions = []; order = []; halt = None }

-- a journal of it, which is lawful
abbrev pub case_568_0 : Journal
case_568_0 = record { timer = limits 0 1 0 0 0 ∷ limits 1 1 3 1 3 ∷ []; cpus = part ([]) ([]) ([]) ∷ []; steps = []; bases = []; homes = []; left = []; strict = []; ending = ending.Done }

-- a journal of it, which breaks point 9 at line 3
abbrev pub case_568_3 : Journal
case_568_3 = record { timer = limits 0 1 0 0 0 ∷ []; cpus = part ([]) ([]) ([]) ∷ []; steps = []; bases = []; homes = []; left = []; strict = []; ending = ending.Done }

-- the trace of the next journals
abbrev pub case_569_2_trace : Trace
case_569_2_trace = record { cpus = 2; cap = 33; settings = settings 46 17 0 0; avail = avail 0 100000 ∷ avail 54 1000 ∷ avail 63 100000 ∷ []; devices = strict_device 32768 0 100 ∷ device 4096 0 100 ∷ []; cgroups = cgroup 24 11 ∷ []; contexts = context 0 0 ∷ context 0 0 ∷ context 0 1 ∷ []; inodes = inode 2 0 31 ∷ inode 1 31 34 ∷ []; tasks = on_cpu 0 ∷ on_cpu 0 ∷ []; flushers = flusher 0 1 ∷ flusher 0 1 ∷ flusher 1 1 ∷ flusher 1 1 ∷ []; actions = action.Write 0 0 14 6 ∷ action.Write 0 1 0 34 ∷ action.Write 1 0 0 31 ∷ action.Write 1 1 21 6 ∷ action.Write 1 0 0 31 ∷ action.Write 0 1 26 5 ∷ action.Write 0 1 0 34 ∷ []; order = []; halt = None }

-- a journal of it, which breaks point 3 at line 121
abbrev pub case_569_2 : Journal
case_569_2 = record { timer = limits 0 1 45996 16992 45996 ∷ limits 1 1 16 5 16 ∷ []; cpus = part (entry.Write 0 14 true ∷ entry.Write 1 0 true ∷ entry.Write 0 15 true ∷ entry.Write 1 1 true ∷ entry.Write 0 16 true ∷ entry.Write 1 2 true ∷ entry.Write 0 17 true ∷ entry.Write 1 3 true ∷ entry.Write 0 18 true ∷ entry.Write 1 4 true ∷ entry.Write 0 19 true ∷ entry.Write 1 5 true ∷ entry.Write 0 31 true ∷ entry.Write 1 6 true ∷ entry.Write 0 32 true ∷ entry.Write 1 7 true ∷ entry.Write 0 33 true ∷ entry.Write 1 8 true ∷ entry.Write 0 34 true ∷ entry.Write 1 9 true ∷ folded (counter.Context 2) 1 (pos 16) ∷ entry.Write 0 35 true ∷ entry.Write 1 10 true ∷ entry.Write 0 36 true ∷ entry.Write 1 11 true ∷ entry.Write 0 37 true ∷ entry.Write 1 12 true ∷ entry.Write 0 38 true ∷ entry.Write 1 13 true ∷ entry.Write 0 39 true ∷ entry.Write 1 14 false ∷ entry.Write 0 40 true ∷ entry.Write 1 15 false ∷ entry.Write 0 41 true ∷ entry.Write 1 16 false ∷ entry.Write 0 42 true ∷ folded (counter.Domain 0) 1 (pos 32) ∷ entry.Write 1 17 false ∷ entry.Write 0 43 true ∷ entry.Write 1 18 false ∷ entry.Write 0 44 true ∷ entry.Write 1 19 false ∷ entry.Write 0 45 true ∷ entry.Write 1 20 true ∷ entry.Write 0 46 true ∷ folded (counter.Context 1) 1 (pos 16) ∷ entry.Write 1 21 true ∷ entry.Write 0 47 true ∷ entry.Write 1 22 true ∷ entry.Write 0 48 true ∷ entry.Write 1 23 true ∷ entry.Write 0 49 true ∷ entry.Write 1 24 true ∷ entry.Write 0 50 true ∷ entry.Write 1 25 true ∷ entry.Write 0 51 true ∷ entry.Write 1 26 true ∷ entry.Write 0 52 true ∷ entry.Write 1 27 true ∷ entry.Write 0 53 true ∷ entry.Write 1 28 true ∷ entry.Write 0 54 true ∷ entry.Write 1 29 true ∷ entry.Write 0 55 true ∷ entry.Write 1 30 true ∷ entry.Write 0 56 true ∷ entry.Write 1 52 false ∷ entry.Write 0 57 true ∷ entry.Write 1 53 false ∷ entry.Write 0 58 true ∷ entry.Write 1 54 false ∷ entry.Write 0 59 true ∷ entry.Write 1 55 false ∷ entry.Write 0 60 true ∷ entry.Write 1 56 false ∷ entry.Write 0 61 true ∷ entry.Write 1 57 false ∷ entry.Write 0 62 true ∷ folded (counter.Context 1) 2 (pos 16) ∷ entry.Write 1 0 false ∷ entry.Check 0 ∷ entry.Write 1 1 false ∷ entry.Write 1 2 false ∷ entry.Write 1 3 false ∷ entry.Write 1 4 false ∷ entry.Write 1 5 false ∷ entry.Write 1 6 false ∷ entry.Write 1 7 false ∷ entry.Write 1 8 false ∷ entry.Write 1 9 false ∷ entry.Write 1 10 false ∷ entry.Write 1 11 false ∷ entry.Write 1 12 false ∷ entry.Write 1 13 false ∷ entry.Write 1 14 false ∷ entry.Write 1 15 false ∷ entry.Write 1 16 false ∷ entry.Write 1 17 false ∷ entry.Write 1 18 false ∷ entry.Write 1 19 false ∷ entry.Write 1 20 false ∷ entry.Write 1 21 false ∷ entry.Write 1 22 false ∷ entry.Write 1 23 false ∷ entry.Write 1 24 false ∷ entry.Write 1 25 false ∷ entry.Write 1 26 false ∷ entry.Write 1 27 false ∷ entry.Write 1 28 false ∷ entry.Write 1 29 false ∷ entry.Write 1 30 false ∷ entry.Write 0 63 true ∷ folded (counter.Domain 0) 2 (pos 32) ∷ entry.Check 1 ∷ entry.Write 0 64 true ∷ entry.Check 2 ∷ entry.Write 0 57 false ∷ entry.Write 0 58 false ∷ entry.Write 0 59 false ∷ entry.Write 0 60 false ∷ entry.Write 0 61 false ∷ entry.Write 0 31 false ∷ entry.Write 0 32 false ∷ entry.Write 0 33 false ∷ entry.Write 0 34 false ∷ entry.Write 0 35 false ∷ entry.Write 0 36 false ∷ entry.Write 0 37 false ∷ entry.Write 0 38 false ∷ entry.Write 0 39 false ∷ entry.Write 0 40 false ∷ entry.Write 0 41 false ∷ entry.Write 0 42 false ∷ entry.Write 0 43 false ∷ entry.Write 0 44 false ∷ entry.Write 0 45 false ∷ entry.Write 0 46 false ∷ entry.Write 0 47 false ∷ entry.Write 0 48 false ∷ entry.Write 0 49 false ∷ entry.Write 0 50 false ∷ entry.Write 0 51 false ∷ entry.Write 0 52 false ∷ entry.Write 0 53 false ∷ entry.Write 0 54 false ∷ entry.Write 0 55 false ∷ entry.Write 0 56 false ∷ entry.Write 0 57 false ∷ entry.Write 0 58 false ∷ entry.Write 0 59 false ∷ entry.Write 0 60 false ∷ entry.Write 0 61 false ∷ entry.Write 0 62 false ∷ entry.Write 0 63 false ∷ entry.Write 0 64 false ∷ []) (check 0 1 1 (read 0 0 45996 16992 45996 1 (pos 32) 0 0 1) None 2 (pos 32) 0 kind.Exempt 1 1 0 0 2 ∷ check 0 1 2 (read 0 0 45996 16992 45996 2 (pos 64) 0 0 1) None 3 (pos 32) 0 kind.Exempt 1 1 0 0 3 ∷ check 0 1 3 (read 0 0 45996 16992 45996 2 (pos 64) 0 0 1) None 2 (pos 32) 0 kind.Exempt 1 1 0 0 4 ∷ []) ([]) ∷ part (entry.Claimed 0 0 ∷ entry.Claimed 1 31 ∷ entry.Claimed 0 1 ∷ entry.Claimed 1 32 ∷ entry.Claimed 0 2 ∷ entry.Claimed 1 33 ∷ entry.Claimed 0 3 ∷ entry.Claimed 1 34 ∷ entry.Claimed 0 4 ∷ entry.Claimed 1 35 ∷ entry.Claimed 0 5 ∷ entry.Claimed 1 36 ∷ entry.Claimed 0 6 ∷ entry.Claimed 1 37 ∷ entry.Claimed 0 7 ∷ entry.Claimed 1 38 ∷ entry.Claimed 0 8 ∷ entry.Claimed 1 39 ∷ entry.Claimed 0 9 ∷ entry.Claimed 1 40 ∷ entry.Claimed 0 10 ∷ entry.Claimed 1 41 ∷ entry.Claimed 0 11 ∷ entry.Claimed 1 42 ∷ entry.Claimed 0 12 ∷ entry.Claimed 1 43 ∷ entry.Claimed 0 13 ∷ entry.Claimed 1 44 ∷ entry.Claimed 0 14 ∷ entry.Claimed 1 45 ∷ entry.Claimed 0 15 ∷ entry.Claimed 1 46 ∷ entry.Claimed 0 16 ∷ entry.Claimed 1 47 ∷ entry.Claimed 0 17 ∷ entry.Claimed 1 48 ∷ entry.Claimed 0 18 ∷ entry.Claimed 1 49 ∷ entry.Claimed 0 19 ∷ entry.Claimed 1 50 ∷ entry.Claimed 0 20 ∷ entry.Claimed 1 51 ∷ entry.Claimed 0 21 ∷ entry.Claimed 1 52 ∷ entry.Claimed 0 22 ∷ entry.Claimed 1 53 ∷ entry.Claimed 0 23 ∷ entry.Claimed 1 54 ∷ entry.Claimed 0 24 ∷ entry.Claimed 1 55 ∷ entry.Claimed 0 25 ∷ entry.Claimed 1 56 ∷ entry.Claimed 0 26 ∷ entry.Claimed 1 57 ∷ entry.Claimed 0 27 ∷ entry.Claimed 1 58 ∷ entry.Claimed 0 28 ∷ entry.Claimed 1 59 ∷ entry.Claimed 0 29 ∷ entry.Claimed 1 60 ∷ entry.Claimed 0 30 ∷ entry.Batch 0 31 4 5 ∷ entry.Claimed 1 61 ∷ entry.Claimed 1 62 ∷ entry.Claimed 1 63 ∷ entry.Claimed 1 64 ∷ entry.Batch 1 34 4 6 ∷ entry.Done 0 0 ∷ entry.Done 0 1 ∷ entry.Done 0 2 ∷ entry.Done 0 3 ∷ entry.Done 0 4 ∷ entry.Done 0 5 ∷ entry.Done 0 6 ∷ entry.Done 0 7 ∷ entry.Done 0 8 ∷ entry.Done 0 9 ∷ entry.Done 0 10 ∷ entry.Done 0 11 ∷ entry.Done 0 12 ∷ entry.Done 0 13 ∷ entry.Done 0 14 ∷ entry.Done 0 15 ∷ folded (counter.Context 2) 2 (negsuc 15) ∷ entry.Done 0 16 ∷ entry.Done 0 17 ∷ entry.Done 0 18 ∷ entry.Done 0 19 ∷ entry.Done 0 20 ∷ entry.Done 0 21 ∷ entry.Done 0 22 ∷ entry.Done 0 23 ∷ entry.Done 0 24 ∷ entry.Done 0 25 ∷ entry.Done 0 26 ∷ entry.Done 0 27 ∷ entry.Done 0 28 ∷ entry.Done 0 29 ∷ entry.Done 0 30 ∷ entry.Share 0 2 31 ∷ entry.Share 1 2 31 ∷ entry.Done 1 31 ∷ folded (counter.Domain 0) 3 (negsuc 31) ∷ entry.Done 1 32 ∷ entry.Done 1 33 ∷ entry.Done 1 34 ∷ entry.Done 1 35 ∷ entry.Done 1 36 ∷ entry.Done 1 37 ∷ entry.Done 1 38 ∷ entry.Done 1 39 ∷ entry.Done 1 40 ∷ entry.Done 1 41 ∷ entry.Done 1 42 ∷ entry.Done 1 43 ∷ entry.Done 1 44 ∷ entry.Done 1 45 ∷ entry.Done 1 46 ∷ folded (counter.Context 1) 3 (negsuc 15) ∷ entry.Done 1 47 ∷ entry.Done 1 48 ∷ entry.Done 1 49 ∷ entry.Done 1 50 ∷ entry.Done 1 51 ∷ entry.Done 1 52 ∷ entry.Done 1 53 ∷ entry.Done 1 54 ∷ entry.Done 1 55 ∷ entry.Done 1 56 ∷ entry.Done 1 57 ∷ entry.Done 1 58 ∷ entry.Done 1 59 ∷ entry.Done 1 60 ∷ entry.Done 1 61 ∷ entry.Done 1 62 ∷ folded (counter.Context 1) 4 (negsuc 15) ∷ entry.Done 1 63 ∷ folded (counter.Domain 0) 4 (negsuc 31) ∷ entry.Done 1 64 ∷ entry.Share 0 1 34 ∷ []) ([]) ([]) ∷ []; steps = []; bases = []; homes = []; left = []; strict = []; ending = ending.Done }

-- a journal of it, which breaks point 7 at line 87
abbrev pub case_569_4 : Journal
case_569_4 = record { timer = limits 0 1 45996 16992 45996 ∷ limits 1 1 16 5 16 ∷ []; cpus = part (entry.Write 0 14 true ∷ entry.Write 1 0 true ∷ entry.Write 0 15 true ∷ entry.Write 1 1 true ∷ entry.Write 0 16 true ∷ entry.Write 1 2 true ∷ entry.Write 0 17 true ∷ entry.Write 1 3 true ∷ entry.Write 0 18 true ∷ entry.Write 1 4 true ∷ entry.Write 0 19 true ∷ entry.Write 1 5 true ∷ entry.Write 0 31 true ∷ entry.Write 1 6 true ∷ entry.Write 0 32 true ∷ entry.Write 1 7 true ∷ entry.Write 0 33 true ∷ entry.Write 1 8 true ∷ entry.Write 0 34 true ∷ entry.Write 1 9 true ∷ folded (counter.Context 2) 1 (pos 16) ∷ entry.Write 0 35 true ∷ entry.Write 1 10 true ∷ entry.Write 0 36 true ∷ entry.Write 1 11 true ∷ entry.Write 0 37 true ∷ entry.Write 1 12 true ∷ entry.Write 0 38 true ∷ entry.Write 1 13 true ∷ entry.Write 0 39 true ∷ entry.Write 1 14 false ∷ entry.Write 0 40 true ∷ entry.Write 1 15 false ∷ entry.Write 0 41 true ∷ entry.Write 1 16 false ∷ entry.Write 0 42 true ∷ folded (counter.Domain 0) 1 (pos 32) ∷ entry.Write 1 17 false ∷ entry.Write 0 43 true ∷ entry.Write 1 18 false ∷ entry.Write 0 44 true ∷ entry.Write 1 19 false ∷ entry.Write 0 45 true ∷ entry.Write 1 20 true ∷ entry.Write 0 46 true ∷ folded (counter.Context 1) 1 (pos 16) ∷ entry.Write 1 21 true ∷ entry.Write 0 47 true ∷ entry.Write 1 22 true ∷ entry.Write 0 48 true ∷ entry.Write 1 23 true ∷ entry.Write 0 49 true ∷ entry.Write 1 24 true ∷ entry.Write 0 50 true ∷ entry.Write 1 25 true ∷ entry.Write 0 51 true ∷ entry.Write 1 26 true ∷ entry.Write 0 52 true ∷ entry.Write 1 27 true ∷ entry.Write 0 53 true ∷ entry.Write 1 28 true ∷ entry.Write 0 54 true ∷ entry.Write 1 29 true ∷ entry.Write 0 55 true ∷ entry.Write 1 30 true ∷ entry.Write 0 56 true ∷ entry.Write 1 52 false ∷ entry.Write 0 57 true ∷ entry.Write 1 53 false ∷ entry.Write 0 58 true ∷ entry.Write 1 54 false ∷ entry.Write 0 59 true ∷ entry.Write 1 55 false ∷ entry.Write 0 60 true ∷ entry.Write 1 56 false ∷ entry.Write 0 61 true ∷ entry.Write 1 57 false ∷ entry.Write 0 62 true ∷ folded (counter.Context 1) 2 (pos 16) ∷ entry.Write 1 0 false ∷ entry.Check 0 ∷ entry.Write 1 1 false ∷ entry.Write 1 2 false ∷ entry.Write 1 3 false ∷ entry.Write 1 4 false ∷ entry.Write 1 5 false ∷ entry.Write 1 6 false ∷ entry.Write 1 7 false ∷ entry.Write 1 8 false ∷ entry.Write 1 9 false ∷ entry.Write 1 10 false ∷ entry.Write 1 11 false ∷ entry.Write 1 12 false ∷ entry.Write 1 13 false ∷ entry.Write 1 14 false ∷ entry.Write 1 15 false ∷ entry.Write 1 16 false ∷ entry.Write 1 17 false ∷ entry.Write 1 18 false ∷ entry.Write 1 19 false ∷ entry.Write 1 20 false ∷ entry.Write 1 21 false ∷ entry.Write 1 22 false ∷ entry.Write 1 23 false ∷ entry.Write 1 24 false ∷ entry.Write 1 25 false ∷ entry.Write 1 26 false ∷ entry.Write 1 27 false ∷ entry.Write 1 28 false ∷ entry.Write 1 29 false ∷ entry.Write 1 30 false ∷ entry.Write 0 63 true ∷ folded (counter.Domain 0) 2 (pos 32) ∷ entry.Check 1 ∷ entry.Write 0 64 true ∷ entry.Check 2 ∷ entry.Write 0 57 false ∷ entry.Write 0 58 false ∷ entry.Write 0 59 false ∷ entry.Write 0 60 false ∷ entry.Write 0 61 false ∷ entry.Write 0 31 false ∷ entry.Write 0 32 false ∷ entry.Write 0 33 false ∷ entry.Write 0 34 false ∷ entry.Write 0 35 false ∷ entry.Write 0 36 false ∷ entry.Write 0 37 false ∷ entry.Write 0 38 false ∷ entry.Write 0 39 false ∷ entry.Write 0 40 false ∷ entry.Write 0 41 false ∷ entry.Write 0 42 false ∷ entry.Write 0 43 false ∷ entry.Write 0 44 false ∷ entry.Write 0 45 false ∷ entry.Write 0 46 false ∷ entry.Write 0 47 false ∷ entry.Write 0 48 false ∷ entry.Write 0 49 false ∷ entry.Write 0 50 false ∷ entry.Write 0 51 false ∷ entry.Write 0 52 false ∷ entry.Write 0 53 false ∷ entry.Write 0 54 false ∷ entry.Write 0 55 false ∷ entry.Write 0 56 false ∷ entry.Write 0 57 false ∷ entry.Write 0 58 false ∷ entry.Write 0 59 false ∷ entry.Write 0 60 false ∷ entry.Write 0 61 false ∷ entry.Write 0 62 false ∷ entry.Write 0 63 false ∷ entry.Write 0 64 false ∷ []) (check 0 1 1 (read 0 0 45996 16992 45996 1 (pos 32) 0 0 1) None 2 (pos 32) 0 kind.Wait 1 1 0 0 2 ∷ check 0 1 2 (read 0 0 45996 16992 45996 2 (pos 64) 0 0 1) None 2 (pos 32) 0 kind.Exempt 1 1 0 0 3 ∷ check 0 1 3 (read 0 0 45996 16992 45996 2 (pos 64) 0 0 1) None 2 (pos 32) 0 kind.Exempt 1 1 0 0 4 ∷ []) ([]) ∷ part (entry.Claimed 0 0 ∷ entry.Claimed 1 31 ∷ entry.Claimed 0 1 ∷ entry.Claimed 1 32 ∷ entry.Claimed 0 2 ∷ entry.Claimed 1 33 ∷ entry.Claimed 0 3 ∷ entry.Claimed 1 34 ∷ entry.Claimed 0 4 ∷ entry.Claimed 1 35 ∷ entry.Claimed 0 5 ∷ entry.Claimed 1 36 ∷ entry.Claimed 0 6 ∷ entry.Claimed 1 37 ∷ entry.Claimed 0 7 ∷ entry.Claimed 1 38 ∷ entry.Claimed 0 8 ∷ entry.Claimed 1 39 ∷ entry.Claimed 0 9 ∷ entry.Claimed 1 40 ∷ entry.Claimed 0 10 ∷ entry.Claimed 1 41 ∷ entry.Claimed 0 11 ∷ entry.Claimed 1 42 ∷ entry.Claimed 0 12 ∷ entry.Claimed 1 43 ∷ entry.Claimed 0 13 ∷ entry.Claimed 1 44 ∷ entry.Claimed 0 14 ∷ entry.Claimed 1 45 ∷ entry.Claimed 0 15 ∷ entry.Claimed 1 46 ∷ entry.Claimed 0 16 ∷ entry.Claimed 1 47 ∷ entry.Claimed 0 17 ∷ entry.Claimed 1 48 ∷ entry.Claimed 0 18 ∷ entry.Claimed 1 49 ∷ entry.Claimed 0 19 ∷ entry.Claimed 1 50 ∷ entry.Claimed 0 20 ∷ entry.Claimed 1 51 ∷ entry.Claimed 0 21 ∷ entry.Claimed 1 52 ∷ entry.Claimed 0 22 ∷ entry.Claimed 1 53 ∷ entry.Claimed 0 23 ∷ entry.Claimed 1 54 ∷ entry.Claimed 0 24 ∷ entry.Claimed 1 55 ∷ entry.Claimed 0 25 ∷ entry.Claimed 1 56 ∷ entry.Claimed 0 26 ∷ entry.Claimed 1 57 ∷ entry.Claimed 0 27 ∷ entry.Claimed 1 58 ∷ entry.Claimed 0 28 ∷ entry.Claimed 1 59 ∷ entry.Claimed 0 29 ∷ entry.Claimed 1 60 ∷ entry.Claimed 0 30 ∷ entry.Batch 0 31 4 5 ∷ entry.Claimed 1 61 ∷ entry.Claimed 1 62 ∷ entry.Claimed 1 63 ∷ entry.Claimed 1 64 ∷ entry.Batch 1 34 4 6 ∷ entry.Done 0 0 ∷ entry.Done 0 1 ∷ entry.Done 0 2 ∷ entry.Done 0 3 ∷ entry.Done 0 4 ∷ entry.Done 0 5 ∷ entry.Done 0 6 ∷ entry.Done 0 7 ∷ entry.Done 0 8 ∷ entry.Done 0 9 ∷ entry.Done 0 10 ∷ entry.Done 0 11 ∷ entry.Done 0 12 ∷ entry.Done 0 13 ∷ entry.Done 0 14 ∷ entry.Done 0 15 ∷ folded (counter.Context 2) 2 (negsuc 15) ∷ entry.Done 0 16 ∷ entry.Done 0 17 ∷ entry.Done 0 18 ∷ entry.Done 0 19 ∷ entry.Done 0 20 ∷ entry.Done 0 21 ∷ entry.Done 0 22 ∷ entry.Done 0 23 ∷ entry.Done 0 24 ∷ entry.Done 0 25 ∷ entry.Done 0 26 ∷ entry.Done 0 27 ∷ entry.Done 0 28 ∷ entry.Done 0 29 ∷ entry.Done 0 30 ∷ entry.Share 0 2 31 ∷ entry.Share 1 2 31 ∷ entry.Done 1 31 ∷ folded (counter.Domain 0) 3 (negsuc 31) ∷ entry.Done 1 32 ∷ entry.Done 1 33 ∷ entry.Done 1 34 ∷ entry.Done 1 35 ∷ entry.Done 1 36 ∷ entry.Done 1 37 ∷ entry.Done 1 38 ∷ entry.Done 1 39 ∷ entry.Done 1 40 ∷ entry.Done 1 41 ∷ entry.Done 1 42 ∷ entry.Done 1 43 ∷ entry.Done 1 44 ∷ entry.Done 1 45 ∷ entry.Done 1 46 ∷ folded (counter.Context 1) 3 (negsuc 15) ∷ entry.Done 1 47 ∷ entry.Done 1 48 ∷ entry.Done 1 49 ∷ entry.Done 1 50 ∷ entry.Done 1 51 ∷ entry.Done 1 52 ∷ entry.Done 1 53 ∷ entry.Done 1 54 ∷ entry.Done 1 55 ∷ entry.Done 1 56 ∷ entry.Done 1 57 ∷ entry.Done 1 58 ∷ entry.Done 1 59 ∷ entry.Done 1 60 ∷ entry.Done 1 61 ∷ entry.Done 1 62 ∷ folded (counter.Context 1) 4 (negsuc 15) ∷ entry.Done 1 63 ∷ folded (counter.Domain 0) 4 (negsuc 31) ∷ entry.Done 1 64 ∷ entry.Share 0 1 34 ∷ []) ([]) ([]) ∷ []; steps = []; bases = []; homes = []; left = []; strict = []; ending = ending.Done }

-- the trace of the next journals
abbrev pub case_626_4_trace : Trace
case_626_4_trace = record { cpus = 2; cap = 2; settings = settings 20 10 0 0; avail = avail 0 100000 ∷ []; devices = strict_device 58019 0 100 ∷ device 43766 0 100 ∷ []; cgroups = []; contexts = context 0 0 ∷ context 1 0 ∷ []; inodes = inode 0 0 19 ∷ inode 0 19 6 ∷ inode 0 25 14 ∷ inode 0 39 7 ∷ inode 1 46 7 ∷ inode 1 53 7 ∷ []; tasks = on_cpu 0 ∷ []; flushers = flusher 1 1 ∷ flusher 0 0 ∷ flusher 1 1 ∷ []; actions = action.Rest 0 68 ∷ action.Rest 0 34 ∷ action.Write 0 0 4 4 ∷ []; order = []; halt = None }

-- a journal of it, which breaks point 6 at line 36
abbrev pub case_626_4 : Journal
case_626_4 = record { timer = limits 0 1 19995 9985 19995 ∷ limits 0 1132 19995 9985 19995 ∷ limits 0 1333 19995 9985 19995 ∷ []; cpus = part (entry.Write 0 4 true ∷ entry.Est 0 ∷ entry.Write 0 5 true ∷ entry.Est 1 ∷ entry.Check 0 ∷ entry.Write 0 6 true ∷ entry.Check 1 ∷ entry.Est 2 ∷ entry.Write 0 7 true ∷ entry.Check 2 ∷ entry.Claimed 1 4 ∷ entry.Claimed 1 5 ∷ entry.Claimed 1 6 ∷ entry.Claimed 1 7 ∷ entry.Batch 1 4 1702 1703 ∷ entry.Done 1 4 ∷ entry.Done 1 5 ∷ entry.Done 1 6 ∷ entry.Done 1 7 ∷ entry.Share 0 0 4 ∷ []) (check 0 0 1134 (read 0 0 19995 9985 19995 0 (pos 0) 0 0 1) None 0 (pos 0) 2 kind.Free 0 1 0 1 1134 ∷ check 0 0 1333 (read 0 1 19995 9985 19995 0 (pos 0) 0 0 1) None 0 (pos 0) 2 kind.Free 0 1 0 1 1333 ∷ check 0 0 1333 (read 0 2 19995 9985 19995 0 (pos 0) 0 0 1) None 0 (pos 0) 3 kind.Free 0 1 0 1 1333 ∷ []) (estimate 0 1 21712 25600 25600 25600 0 0 623 ∷ estimate 0 2 19522 25114 25600 25600 0 0 1036 ∷ estimate 0 3 18106 24415 25600 25114 0 0 1333 ∷ []) ∷ part (entry.Est 0 ∷ entry.Est 1 ∷ entry.Est 2 ∷ entry.Est 3 ∷ []) ([]) (estimate 1 1 23725 25600 25600 25600 0 0 301 ∷ estimate 1 2 22392 25366 25600 25600 0 0 531 ∷ estimate 1 3 19642 24995 25600 25366 0 0 1034 ∷ estimate 1 4 18207 24326 25600 24995 0 0 1333 ∷ []) ∷ []; steps = []; bases = []; homes = []; left = []; strict = []; ending = ending.Done }
