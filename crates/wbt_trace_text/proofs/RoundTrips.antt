-- The text of a lawful trace tells that trace.
use Rattle.std.proofs.Common.{◌≡◌, inl, ℕ, zero, suc, ◌^◌, ◌<◌, ◌≤◌, Bool, true, false, ◌&&◌, ◌==◌, if◌then◌else◌, nat_lt, List, [], ◌++◌, length, map, Option, Some, None, is_some, IfSome, Ok, refl, sym, ◌∙◌, ap, arith, rules, IsTrue}
use Rattle.std.proofs.lemmas.List.Elements.{recursion_from_All}
use Rattle.wbt_trace.specs.Lawful.{IsDevice, IsCgroup, IsContext, IsInode, IsTask, HasPace, IsFlusher, IsAction, writers_of, IsOrder, IsLawful}
use Rattle.wbt_trace.specs.Lawful.{has_flusher}
use Rattle.wbt_trace_text.specs.Reading.{have_flushers, missing_in, whole_or, end_of, IsAnswer}
use Rattle.wbt_trace.specs.Sofar.{Sofar, start}
use Rattle.wbt_trace_text.specs.Writing.{setting_lines, halt_lines, numbered, avail_line, device_line, strict_lines, chunk_lines, cyclic_lines, cgroup_line, context_line, expire_lines, estimate_lines, inode_line, task_line, pace_lines, flusher_line, action_line, order_line, lines_of, trace_text}
use Rattle.wbt_trace_text.specs.declared.fault.Missing.TheVariants as missing
use Rattle.wbt_trace_text.specs.declared.line.Line.TheVariants as line
use Rattle.wbt_trace.specs.declared.trace.FlusherLine.{FlusherLine}
use Rattle.wbt_trace.specs.declared.trace.Trace.{Trace}
use Rattle.wbt_trace_text.proofs.Contexts.{plain as undue, unestimated}
use Rattle.wbt_trace_text.proofs.Devices.{plain, unchunked, straight}
use Rattle.wbt_trace_text.proofs.Keeping.{IsGood}
use Rattle.wbt_trace_text.proofs.Kept.{start_kept}
use Rattle.wbt_trace_text.proofs.Rereading.{Accepts, accepts_append, passes, lead_of, avails, devices, stricts, chunks, cyclics, cgroups, contexts, expires, estimates, inodes, tasks, paces, flushers, actions, orders}
use Rattle.wbt_trace_text.proofs.Tasks.{unpaced}
use Rattle.wbt_trace_text.proofs.Tests.{below_off, none_off, both_off}

-- after the lines that stand once
abbrev set : Trace → Sofar
set trace = record start {
  cpus = Some trace.cpus;
  cap = Some trace.cap;
  ratio = Some trace.settings.ratio;
  bg_ratio = Some trace.settings.bg_ratio;
  bytes = Some trace.settings.bytes;
  bg_bytes = Some trace.settings.bg_bytes;
}

settings : (trace : Trace) → IsLawful trace → Accepts (setting_lines trace) start (set trace)
settings trace lawful =
    let w = lawful.within in
    let a : Sofar = record start { cpus = Some trace.cpus } in
    let b : Sofar = record a { cap = Some trace.cap } in
    let c : Sofar = record b { ratio = Some trace.settings.ratio } in
    let d : Sofar = record c { bg_ratio = Some trace.settings.bg_ratio } in
    let e : Sofar = record d { bytes = Some trace.settings.bytes } in
    let cpus = passes (line.Cpus trace.cpus) start (record {
      known = refl;
      once = refl;
      range = both_off (trace.cpus == 0) (nat_lt 64 trace.cpus) (none_off trace.cpus lawful.whole.cpus) (below_off 64 trace.cpus w.cpus);
      limit = refl;
    }) in
    let cap = passes (line.Cap trace.cap) a (record {
      known = refl;
      once = refl;
      range = both_off (trace.cap == 0) (nat_lt 1024 trace.cap) (none_off trace.cap w.cap.0) (below_off 1024 trace.cap w.cap.1);
      limit = refl;
    }) in
    let ratio = passes (line.DirtyRatio trace.settings.ratio) b (record { known = refl; once = refl; range = below_off 100 trace.settings.ratio w.settings.ratio; limit = refl }) in
    let bg_ratio = passes (line.BackgroundRatio trace.settings.bg_ratio) c (record { known = refl; once = refl; range = below_off 100 trace.settings.bg_ratio w.settings.bg_ratio; limit = refl }) in
    let bytes = passes (line.DirtyBytes trace.settings.bytes) d (record { known = refl; once = refl; range = below_off (2 ^ 48) trace.settings.bytes w.settings.bytes; limit = refl }) in
    let bg_bytes = passes (line.BackgroundBytes trace.settings.bg_bytes) e (record { known = refl; once = refl; range = below_off (2 ^ 48) trace.settings.bg_bytes w.settings.bg_bytes; limit = refl }) in
    (a, cpus, (b, cap, (c, ratio, (d, bg_ratio, (e, bytes, (set trace, bg_bytes, refl))))))

halts : (halt : Option ℕ) (s : Sofar) → s.halt ≡ None → IfSome halt (λ steps. steps ≤ 10 ^ 12) → Accepts (halt_lines halt) s (record s { halt = halt })
halts None s none is = λ i. record s { halt = none i }
halts (Some steps) s none is =
    let good : IsGood (line.Halt steps) s = record { known = refl; once = ap (λ (o : Option ℕ). is_some o) none; range = below_off (10 ^ 12) steps is; limit = refl } in
    (record s { halt = Some steps }, passes (line.Halt steps) s good, refl)

-- after all lines
abbrev last : Trace → Sofar
last trace = record (set trace) {
  avail = trace.avail;
  devices = trace.devices;
  cgroups = trace.cgroups;
  contexts = trace.contexts;
  inodes = trace.inodes;
  tasks = trace.tasks;
  flushers = trace.flushers;
  actions = trace.actions;
  writers = writers_of trace.inodes trace.actions;
  order = trace.order;
  halt = trace.halt;
}

accepted : (trace : Trace) → IsLawful trace → Accepts (lines_of trace) start (last trace)
unfolding lines_of
accepted trace lawful =
    let w = lawful.within in
    let s0 : Sofar = set trace in
    let s1 : Sofar = record s0 { avail = trace.avail } in
    let s2 : Sofar = record s1 { devices = map plain trace.devices } in
    let s3 : Sofar = record s1 { devices = map unchunked trace.devices } in
    let s4 : Sofar = record s1 { devices = map straight trace.devices } in
    let s5 : Sofar = record s1 { devices = trace.devices } in
    let s6 : Sofar = record s5 { cgroups = trace.cgroups } in
    let s7 : Sofar = record s6 { contexts = map undue trace.contexts } in
    let s8 : Sofar = record s6 { contexts = map unestimated trace.contexts } in
    let s9 : Sofar = record s6 { contexts = trace.contexts } in
    let s10 : Sofar = record s9 { inodes = trace.inodes } in
    let s11 : Sofar = record s10 { tasks = map unpaced trace.tasks } in
    let s12 : Sofar = record s10 { tasks = trace.tasks } in
    let s13 : Sofar = record s12 { flushers = trace.flushers } in
    let s14 : Sofar = record s13 { actions = trace.actions; writers = writers_of trace.inodes trace.actions } in
    let s15 : Sofar = record s14 { order = trace.order } in
    let each_device = recursion_from_All IsDevice trace.devices w.devices.each in
    let each = recursion_from_All (IsContext (length trace.devices) (length trace.cgroups)) trace.contexts w.contexts in
    let a1 = avails 0 trace.avail s0 w.avail (omega (arith, w.few_avail)) in
    let a2 = devices 0 trace.devices s1 refl each_device (omega (arith, w.devices.shares)) (omega (arith, w.devices.few)) in
    let a3 = stricts 0 [] trace.devices s2 refl refl in
    let a4 = chunks 0 [] trace.devices s3 refl refl each_device in
    let a5 = cyclics 0 [] trace.devices s4 refl refl in
    let a6 = cgroups 1 trace.cgroups s5 (omega arith) (recursion_from_All IsCgroup trace.cgroups w.cgroups) (omega (arith, w.few_cgroups)) in
    let a7 = contexts 0 trace.contexts s6 refl each (omega (arith, w.few_contexts)) in
    let a8 = expires 0 [] trace.contexts s7 (length trace.devices) (length trace.cgroups) refl refl each in
    let a9 = estimates 0 [] trace.contexts s8 (length trace.devices) (length trace.cgroups) refl refl each in
    let a10 = inodes 0 trace.inodes s9 refl (recursion_from_All (IsInode (length trace.contexts)) trace.inodes w.inodes.each) w.inodes.firsts (omega (arith, w.inodes.total)) (omega (arith, w.inodes.few)) in
    let a11 = tasks 0 trace.tasks s10 refl refl (recursion_from_All (IsTask trace.cpus) trace.tasks w.tasks) (omega (arith, w.few_tasks)) in
    let a12 = paces 0 [] trace.tasks s11 refl refl (recursion_from_All HasPace trace.tasks w.paces) in
    let a13 = flushers 0 trace.flushers s12 refl refl (recursion_from_All (IsFlusher (length trace.devices) trace.cpus) trace.flushers w.flushers) (omega (arith, w.few_flushers)) in
    let a14 = actions 0 trace.actions s13 (recursion_from_All (IsAction (length trace.tasks) trace.inodes) trace.actions w.actions) (omega (arith, w.few_actions)) w.few_writers in
    let a15 = orders 0 trace.order s14 refl (recursion_from_All (IsOrder trace.cpus) trace.order w.order) (omega (arith, w.few_orders)) in
    let a16 = halts trace.halt s15 refl w.halt in
    let l0 = setting_lines trace in
    let l1 = l0 ++ numbered avail_line 0 trace.avail in
    let l2 = l1 ++ numbered device_line 0 trace.devices in
    let l3 = l2 ++ strict_lines 0 trace.devices in
    let l4 = l3 ++ chunk_lines 0 trace.devices in
    let l5 = l4 ++ cyclic_lines 0 trace.devices in
    let l6 = l5 ++ numbered cgroup_line 1 trace.cgroups in
    let l7 = l6 ++ numbered context_line 0 trace.contexts in
    let l8 = l7 ++ expire_lines 0 trace.contexts in
    let l9 = l8 ++ estimate_lines 0 trace.contexts in
    let l10 = l9 ++ numbered inode_line 0 trace.inodes in
    let l11 = l10 ++ numbered task_line 0 trace.tasks in
    let l12 = l11 ++ pace_lines 0 trace.tasks in
    let l13 = l12 ++ numbered flusher_line 0 trace.flushers in
    let l14 = l13 ++ numbered action_line 0 trace.actions in
    let l15 = l14 ++ numbered order_line 0 trace.order in
    let b1 = accepts_append l0 (numbered avail_line 0 trace.avail) start s0 s1 (settings trace lawful) a1 in
    let b2 = accepts_append l1 (numbered device_line 0 trace.devices) start s1 s2 b1 a2 in
    let b3 = accepts_append l2 (strict_lines 0 trace.devices) start s2 s3 b2 a3 in
    let b4 = accepts_append l3 (chunk_lines 0 trace.devices) start s3 s4 b3 a4 in
    let b5 = accepts_append l4 (cyclic_lines 0 trace.devices) start s4 s5 b4 a5 in
    let b6 = accepts_append l5 (numbered cgroup_line 1 trace.cgroups) start s5 s6 b5 a6 in
    let b7 = accepts_append l6 (numbered context_line 0 trace.contexts) start s6 s7 b6 a7 in
    let b8 = accepts_append l7 (expire_lines 0 trace.contexts) start s7 s8 b7 a8 in
    let b9 = accepts_append l8 (estimate_lines 0 trace.contexts) start s8 s9 b8 a9 in
    let b10 = accepts_append l9 (numbered inode_line 0 trace.inodes) start s9 s10 b9 a10 in
    let b11 = accepts_append l10 (numbered task_line 0 trace.tasks) start s10 s11 b10 a11 in
    let b12 = accepts_append l11 (pace_lines 0 trace.tasks) start s11 s12 b11 a12 in
    let b13 = accepts_append l12 (numbered flusher_line 0 trace.flushers) start s12 s13 b12 a13 in
    let b14 = accepts_append l13 (numbered action_line 0 trace.actions) start s13 s14 b13 a14 in
    let b15 = accepts_append l14 (numbered order_line 0 trace.order) start s14 s15 b14 a15 in
    accepts_append l15 (halt_lines trace.halt) start s15 (last trace) b15 a16

-- nothing is missing in a lawful trace
true_from : (b : Bool) → IsTrue b → b ≡ true
true_from true is = refl
true_from false is = absurd (search rules)

all_have : (n : ℕ) (flushers : List FlusherLine) → ((d : ℕ) → d < n → IsTrue (has_flusher d flushers)) → have_flushers n flushers ≡ true
all_have zero flushers each = refl
all_have (suc n) flushers each =
    ap (λ (b : Bool). b && has_flusher n flushers) (all_have n flushers (λ d less. each d (omega arith))) ∙ true_from (has_flusher n flushers) (each n (omega arith))

none_missing : (b c : Bool) → b ≡ false → c ≡ true → (if b then Some missing.Avail else (if c then None else Some missing.Flusher)) ≡ None
none_missing true c is have = cc
none_missing false true is have = refl
none_missing false false is have = cc

whole_end : (trace : Trace) → IsLawful trace → Ok trace ≡ end_of (last trace)
whole_end trace lawful =
    let none : missing_in (last trace) ≡ None =
    none_missing (length trace.avail == 0) (have_flushers (length trace.devices) trace.flushers) (none_off (length trace.avail) lawful.whole.avail) (all_have (length trace.devices) trace.flushers lawful.whole.flushers) in
    ap (λ m. whole_or m trace) (sym none)

pub written_read : (trace : Trace) → IsLawful trace → IsAnswer (trace_text trace) (Ok trace)
written_read trace lawful = (lines_of trace, last trace, [], lead_of (lines_of trace) start (last trace) start_kept (accepted trace lawful), inl (refl, whole_end trace lawful))
