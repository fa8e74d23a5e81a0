-- What is read is a lawful trace.
use Rattle.std.proofs.Common.{◌≡◌, inl, inr, ℕ, zero, suc, ◌<◌, ◌≤◌, Bool, true, false, ◌&&◌, ◌==◌, if◌then◌else◌, List, [], ◌∷◌, length, Option, Some, None, is_none, unwrap_or, Ok, refl, sym, ◌∙◌, ap, subst, arith, lit≤, IsTrue}
use Rattle.std.proofs.lemmas.Bool.{cases_eq}
use Rattle.std.proofs.lemmas.List.Elements.{All-nil}
use Rattle.std.specs.List.{All}
use Rattle.wbt_text.specs.Reading.{Lead, Ends}
use Rattle.wbt_trace_text.specs.Accept.{is_unknown, is_twice, is_out_of_range, is_over_limit, after, unless, accept}
use Rattle.wbt_trace.specs.Lawful.{AreSettings, AreAvails, AreDevices, IsCgroup, IsContext, AreInodes, IsTask, HasPace, IsFlusher, IsAction, writers_of, IsOrder, IsWithin, IsWhole, IsLawful, IsDevice, IsInode}
use Rattle.wbt_trace.specs.Lawful.{has_flusher}
use Rattle.wbt_trace_text.specs.Reading.{have_flushers, missing_in, whole_or, end_of, traces, IsAnswer}
use Rattle.wbt_trace.specs.Sofar.{Sofar, start, trace_so_far}
use Rattle.wbt_trace_text.specs.declared.fault.Missing.{Missing}
use Rattle.wbt_trace_text.specs.declared.fault.Missing.TheVariants as missing
use Rattle.wbt_trace_text.specs.declared.fault.Refusal.TheVariants.{UnknownName, Twice, OutOfRange, Limit}
use Rattle.wbt_trace_text.specs.declared.line.Line.{Line}
use Rattle.wbt_trace.specs.declared.trace.FlusherLine.{FlusherLine}
use Rattle.wbt_trace.specs.declared.trace.Trace.{Trace}
use Rattle.wbt_trace_text.proofs.Keeping.{IsGood, IsCpus, IsCap, IsHalt, keeps_cpus, keeps_cap, keeps_settings, keeps_avail, keeps_few_avail, keeps_devices, keeps_cgroups, keeps_few_cgroups, keeps_contexts, keeps_few_contexts, keeps_inodes, keeps_tasks, keeps_few_tasks, keeps_paces, keeps_flushers, keeps_few_flushers, keeps_actions, keeps_few_actions, keeps_writers, keeps_few_writers, keeps_order, keeps_few_orders, keeps_halt}
use Rattle.wbt_trace_text.proofs.Tests.{holds, not_none}

-- what each line that is taken keeps
pub record IsKept (s : Sofar) : Type 0 where
  pub cpus : IsCpus s.cpus
  pub cap : IsCap (unwrap_or s.cap 1024)
  pub settings : AreSettings (trace_so_far s).settings
  pub avail : AreAvails None s.avail
  pub few_avail : length s.avail ≤ 256
  pub devices : AreDevices s.devices
  pub cgroups : All IsCgroup s.cgroups
  pub few_cgroups : length s.cgroups ≤ 8
  pub contexts : All (IsContext (length s.devices) (length s.cgroups)) s.contexts
  pub few_contexts : length s.contexts ≤ 64
  pub inodes : AreInodes (length s.contexts) s.inodes
  pub tasks : All (IsTask (unwrap_or s.cpus 0)) s.tasks
  pub few_tasks : length s.tasks ≤ 256
  pub paces : All HasPace s.tasks
  pub flushers : All (IsFlusher (length s.devices) (unwrap_or s.cpus 0)) s.flushers
  pub few_flushers : length s.flushers ≤ 64
  pub actions : All (IsAction (length s.tasks) s.inodes) s.actions
  pub few_actions : length s.actions ≤ 65536
  pub writers : s.writers ≡ writers_of s.inodes s.actions
  pub few_writers : length s.writers ≤ 1024
  pub order : All (IsOrder (unwrap_or s.cpus 0)) s.order
  pub few_orders : length s.order ≤ 65536
  pub halt : IsHalt s.halt

pub start_kept : IsKept start
start_kept = record {
  cpus = tt;
  cap = (lit≤ tt, lit≤ tt);
  settings = record { ratio = lit≤ tt; bg_ratio = lit≤ tt; bytes = omega arith; bg_bytes = omega arith };
  avail = tt;
  few_avail = omega arith;
  devices = record { each = All-nil IsDevice; shares = omega arith; few = omega arith };
  cgroups = All-nil IsCgroup;
  few_cgroups = omega arith;
  contexts = All-nil (IsContext 0 0);
  few_contexts = omega arith;
  inodes = record { each = All-nil (IsInode 0); firsts = tt; total = omega arith; few = omega arith };
  tasks = All-nil (IsTask 0);
  few_tasks = omega arith;
  paces = All-nil HasPace;
  flushers = All-nil (IsFlusher 0 0);
  few_flushers = omega arith;
  actions = All-nil (IsAction 0 []);
  few_actions = omega arith;
  writers = refl;
  few_writers = omega arith;
  order = All-nil (IsOrder 0);
  few_orders = omega arith;
  halt = tt;
}

after_kept : (l : Line) (s : Sofar) → IsGood l s → IsKept s → IsKept (after l s)
after_kept l s good kept = record {
  cpus = keeps_cpus l s good kept.cpus;
  cap = keeps_cap l s good kept.cap;
  settings = keeps_settings l s good kept.settings;
  avail = keeps_avail l s good kept.avail;
  few_avail = keeps_few_avail l s good kept.few_avail;
  devices = keeps_devices l s good kept.devices;
  cgroups = keeps_cgroups l s good kept.cgroups;
  few_cgroups = keeps_few_cgroups l s good kept.few_cgroups;
  contexts = keeps_contexts l s good kept.contexts;
  few_contexts = keeps_few_contexts l s good kept.few_contexts;
  inodes = keeps_inodes l s good kept.inodes;
  tasks = keeps_tasks l s good kept.tasks;
  few_tasks = keeps_few_tasks l s good kept.few_tasks;
  paces = keeps_paces l s good kept.paces;
  flushers = keeps_flushers l s good kept.flushers;
  few_flushers = keeps_few_flushers l s good kept.few_flushers;
  actions = keeps_actions l s good kept.actions;
  few_actions = keeps_few_actions l s good kept.few_actions;
  writers = keeps_writers l s good kept.actions kept.writers;
  few_writers = keeps_few_writers l s good kept.few_writers;
  order = keeps_order l s good kept.order;
  few_orders = keeps_few_orders l s good kept.few_orders;
  halt = keeps_halt l s good kept.halt;
}

-- a line that is taken has no fault
pub record IsTaken (l : Line) (s t : Sofar) : Type 0 where
  pub good : IsGood l s
  pub is : after l s ≡ t

record AllOff (a b c d : Bool) (t u : Sofar) : Type 0 where
  pub known : a ≡ false
  pub once : b ≡ false
  pub range : c ≡ false
  pub limit : d ≡ false
  pub is : t ≡ u

all_off : (a b c d : Bool) (t u : Sofar) → unless a UnknownName (unless b Twice (unless c OutOfRange (unless d Limit (Ok t)))) ≡ Ok u → AllOff a b c d t u
all_off true b c d t u is = cc
all_off false true c d t u is = cc
all_off false false true d t u is = cc
all_off false false false true t u is = cc
all_off false false false false t u is = record { known = refl; once = refl; range = refl; limit = refl; is = cc }

pub taken : (l : Line) (s t : Sofar) → accept l s ≡ Ok t → IsTaken l s t
taken l s t is =
    let off = all_off (is_unknown l s) (is_twice l s) (is_out_of_range l s) (is_over_limit l s) (after l s) t is in
    record { good = record { known = off.known; once = off.once; range = off.range; limit = off.limit }; is = off.is }

pub accept_kept : (l : Line) (s t : Sofar) → accept l s ≡ Ok t → IsKept s → IsKept t
accept_kept l s t is kept = let line = taken l s t is in subst IsKept line.is (after_kept l s line.good kept)

lead_kept : (ls : List Line) (s : Sofar) (text : List ℕ) (t : Sofar) (rest : List ℕ) → Lead traces ls s text t rest → IsKept s → IsKept t
lead_kept [] s text t rest lead kept = subst IsKept lead.0 kept
lead_kept (l ∷ ls) s text t rest lead kept = lead_kept ls lead.2 lead.1 t rest lead.6 (accept_kept l s lead.2 lead.5 kept)

pub cpus_most : (o : Option ℕ) → IsCpus o → unwrap_or o 0 ≤ 64
cpus_most None is = omega arith
cpus_most (Some c) is = is.1

within : (s : Sofar) → IsKept s → IsWithin (trace_so_far s)
within s kept = record {
  cpus = cpus_most s.cpus kept.cpus;
  cap = kept.cap;
  settings = kept.settings;
  avail = kept.avail;
  few_avail = kept.few_avail;
  devices = kept.devices;
  cgroups = kept.cgroups;
  few_cgroups = kept.few_cgroups;
  contexts = kept.contexts;
  few_contexts = kept.few_contexts;
  inodes = kept.inodes;
  tasks = kept.tasks;
  few_tasks = kept.few_tasks;
  paces = kept.paces;
  flushers = kept.flushers;
  few_flushers = kept.few_flushers;
  actions = kept.actions;
  few_actions = kept.few_actions;
  few_writers = omega (arith, kept.few_writers, ap length kept.writers);
  order = kept.order;
  few_orders = kept.few_orders;
  halt = kept.halt;
}

-- nothing is missing
and_left : (a b : Bool) → (a && b) ≡ true → a ≡ true
and_left true b is = refl
and_left false b is = cc

and_right : (a b : Bool) → (a && b) ≡ true → b ≡ true
and_right true b is = is
and_right false b is = cc

each_has : (n d : ℕ) (flushers : List FlusherLine) → have_flushers n flushers ≡ true → d < n → IsTrue (has_flusher d flushers)
each_has zero d flushers have less = absurd (omega arith)
each_has (suc n) d flushers have less = elim (cases_eq d n) [
  | inl same ↦ holds (has_flusher d flushers) (ap (λ (k : ℕ). has_flusher k flushers) same ∙ and_right (have_flushers n flushers) (has_flusher n flushers) have)
  | inr other ↦ each_has n d flushers (and_left (have_flushers n flushers) (has_flusher n flushers) have) (omega arith)
]

record AreThere (s : Sofar) : Type 0 where
  pub cpus : is_none s.cpus ≡ false
  pub avail : (length s.avail == 0) ≡ false
  pub flushers : have_flushers (length s.devices) s.flushers ≡ true

nothing_missing : (s : Sofar) → missing_in s ≡ None → AreThere s
nothing_missing s is =
    let parts = by_tests (is_none s.cpus) (length s.avail == 0) (have_flushers (length s.devices) s.flushers) is in
    record { cpus = parts.0; avail = parts.1; flushers = parts.2 }
  where
    by_tests : (a b c : Bool) → (if a then Some missing.Cpus else (if b then Some missing.Avail else (if c then None else Some missing.Flusher))) ≡ None → (a ≡ false) × (b ≡ false) × (c ≡ true)
    by_tests true b c is = cc
    by_tests false true c is = cc
    by_tests false false true is = (refl, refl, refl)
    by_tests false false false is = cc

some_cpus : (o : Option ℕ) → is_none o ≡ false → IsCpus o → 1 ≤ unwrap_or o 0
some_cpus None given is = cc
some_cpus (Some c) given is = is.0

whole : (s : Sofar) → missing_in s ≡ None → IsKept s → IsWhole (trace_so_far s)
whole s is kept =
    let there = nothing_missing s is in
    record {
      cpus = some_cpus s.cpus there.cpus kept.cpus;
      avail = not_none (length s.avail) there.avail;
      flushers = λ d less. each_has (length s.devices) d s.flushers there.flushers less;
    }

-- the end of reading gives a trace only where nothing is missing
record IsOver (s : Sofar) (trace : Trace) : Type 0 where
  pub none : missing_in s ≡ None
  pub is : trace ≡ trace_so_far s

over : (s : Sofar) (trace : Trace) → Ok trace ≡ end_of s → IsOver s trace
over s trace is = let parts = by_missing (missing_in s) is in record { none = parts.0; is = parts.1 }
  where
    by_missing : (o : Option Missing) → Ok trace ≡ whole_or o (trace_so_far s) → (o ≡ None) × (trace ≡ trace_so_far s)
    by_missing None is2 = (refl, cc)
    by_missing (Some what) is2 = cc

ends_over : (count : ℕ) (s : Sofar) (rest : List ℕ) (trace : Trace) → Ends traces count s rest (Ok trace) → IsOver s trace
ends_over count s rest trace (inl x) = over s trace x.1
ends_over count s rest trace (inr (inl x)) = absurd (cc (x.2))
ends_over count s rest trace (inr (inr x)) = absurd (cc (x.7))

-- each trace that a text tells is lawful
pub told_lawful : (text : List ℕ) (trace : Trace) → IsAnswer text (Ok trace) → IsLawful trace
told_lawful text trace a =
    let kept = lead_kept a.0 start text a.1 a.2 a.3 start_kept in
    let end = ends_over (length a.0) a.1 a.2 trace a.4 in
    let lawful : IsLawful (trace_so_far a.1) = record { within = within a.1 kept; whole = whole a.1 end.none kept } in
    subst IsLawful (sym end.is) lawful
