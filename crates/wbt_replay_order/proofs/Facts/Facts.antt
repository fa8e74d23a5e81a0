-- What a lawful trace says of its things by number.
use Rattle.std.proofs.Common.{◌≡◌, ℕ, suc, ◌<◌, Bool, true, false, ◌||◌, eqb, List, [], ◌∷◌, length, get_or, refl, sym, subst, arith, eqb-true, ⊎_elim, None, Option, Some, IfSome, unwrap_or, ◌*◌, ◌≤◌}
use Rattle.std.proofs.lemmas.Bool.{cases_lt}
use Rattle.std.proofs.lemmas.List.{get_or_past}
use Rattle.wbt_replay_order.proofs.Common.{IsLawful, IsPace, Device, FlusherLine, TaskLine, Trace, pace_of, inode_of, context_of, context_at, device_at, tasks_from, inode_with, writers_in, Facts, IsPageOf, expire_ticks}
use Rattle.wbt_trace.specs.Lawful.{IsChunk, IsContext, IsFirstEstimate, IsInode, IsExpire}
use Rattle.wbt_trace.specs.Lawful.{has_flusher}
use Rattle.wbt_trace.specs.declared.trace.Cgroup.{Cgroup}
use Rattle.wbt_trace.specs.declared.trace.Context.{Context}
use Rattle.wbt_replay_order.proofs.Facts.Inodes.{no_inode, before_ends, found_in}
use Rattle.wbt_replay_order.proofs.Facts.Jobs.{no_line, jobs_are_jobs, few_jobs_with, has_flusher_job, one_job}
use Rattle.wbt_replay_order.proofs.Facts.Pairs.{has_place}
use Rattle.wbt_replay_order.proofs.Facts.Tasks.{no_task, tasks_of_cpu, few_tasks_from}
use Rattle.wbt_expiry.specs.Kept.{reach}

abbrev no_context : Context
no_context = record { device = 0; domain = 0; expire = None; estimate = None }

abbrev no_cgroup : Cgroup
no_cgroup = record { filepages = 0; headroom = 0 }

abbrev no_device : Device
no_device = record { rate = 1; min = 0; max = 100; strict = false; chunk = None; cyclic = false }

-- a device's flusher has a number
pub record HasFlusher (device : ℕ) (flushers : List FlusherLine) : Type 0 where
  pub place : ℕ
  pub less : place < length flushers
  pub is : (get_or flushers place no_line).device ≡ device

found_flusher : (device : ℕ) (flushers : List FlusherLine) → has_flusher device flushers ≡ true → HasFlusher device flushers
found_flusher device [] has = absurd (cc has)
found_flusher device (f ∷ fs) has = by_head (found_flusher device fs) (eqb f.device device) refl has
  where
    by_head : (has_flusher device fs ≡ true → HasFlusher device fs) → (b : Bool) → eqb f.device device ≡ b → (b || has_flusher device fs) ≡ true
        → HasFlusher device (f ∷ fs)
    by_head behind true here found = record { place = 0; less = omega arith; is = eqb-true f.device device here }
    by_head behind false other found =
        let rest = behind found in
        record { place = suc rest.place; less = omega (arith, rest.less); is = rest.is }

due_soon : (trace : Trace) (k : ℕ) → IfSome (context_at trace k).expire IsExpire → expire_ticks trace k ≤ reach
unfolding expire_ticks
due_soon trace k = by_line (context_at trace k).expire
  where
    by_line : (expire : Option ℕ) → IfSome expire IsExpire → 10 * unwrap_or expire 3000 ≤ reach
    by_line None fits = omega arith
    by_line (Some centi) fits = omega (arith, fits.1)

module _ (trace : Trace) (lawful : IsLawful trace) where
  inode_here : (n : ℕ) → n < length trace.inodes → IsInode (length trace.contexts) (inode_of trace n)
  inode_here n less = lawful.within.inodes.each n no_inode less

  context_here : (k : ℕ) → k < length trace.contexts → IsContext (length trace.devices) (length trace.cgroups) (context_at trace k)
  context_here k less = lawful.within.contexts k no_context less

  -- a device or a context that isn't there has no such line
  chunk_here : (d : ℕ) → IfSome (device_at trace d).chunk IsChunk
  chunk_here d = ⊎_elim
      (λ less. (lawful.within.devices.each d no_device less).chunk)
      (λ past. subst (λ (x : Device). IfSome x.chunk IsChunk) (sym (get_or_past trace.devices d no_device past)) tt)
      (cases_lt d (length trace.devices))

  estimate_here : (k : ℕ) → IfSome (context_at trace k).estimate IsFirstEstimate
  estimate_here k = ⊎_elim
      (λ less. (context_here k less).3)
      (λ past. subst (λ (x : Context). IfSome x.estimate IsFirstEstimate) (sym (get_or_past trace.contexts k no_context past)) tt)
      (cases_lt k (length trace.contexts))

  -- nor has a task that isn't there
  pace_here : (t : ℕ) → IfSome (pace_of trace t) IsPace
  pace_here t = ⊎_elim
      (λ less. lawful.within.paces t no_task less)
      (λ past. subst (λ (x : TaskLine). IfSome x.pace IsPace) (sym (get_or_past trace.tasks t no_task past)) tt)
      (cases_lt t (length trace.tasks))

  page_is : (n p : ℕ) → IsPageOf trace n p → inode_with trace p ≡ n
  page_is n p page =
      let is = found_in 0 0 p trace.inodes lawful.within.inodes.firsts n page.there page.after_first page.before_end in
      omega (arith, is)

  pub facts : Facts trace
  facts = record {
    some_cpu = lawful.whole.cpus;
    few_cpus = lawful.within.cpus;
    some_cap = lawful.within.cap.0;
    small_cap = lawful.within.cap.1;
    few_pages = lawful.within.inodes.total;
    few_tasks = lawful.within.few_tasks;
    few_flushers = lawful.within.few_flushers;
    few_contexts = lawful.within.few_contexts;
    few_cgroups = lawful.within.few_cgroups;
    cgroups = λ g less. let h = lawful.within.cgroups g no_cgroup less in (omega (arith, h.0), omega (arith, h.1));
    few_devices = lawful.within.devices.few;
    few_actions = lawful.within.few_actions;
    few_orders = lawful.within.few_orders;
    few_writers = lawful.within.few_writers;
    least = lawful.within.devices.shares;
    inode_some = λ n less. omega (arith, (inode_here n less).1);
    inode_end = λ n less. omega (arith, before_ends 0 trace.inodes lawful.within.inodes.firsts n less);
    inode_context = λ n less. (inode_here n less).0;
    inode_device = λ n less. (context_here (context_of trace n) (inode_here n less).0).0;
    inode_is = page_is;
    context_device = λ k less. (context_here k less).0;
    soon = λ k less. due_soon trace k (context_here k less).2;
    context_group = λ k less. (context_here k less).1;
    shares = λ d less. (lawful.within.devices.each d no_device less).shares;
    rate = λ d less. (lawful.within.devices.each d no_device less).rate.0;
    chunks = chunk_here;
    firsts = estimate_here;
    paces = pace_here;
    flusher_cpu_is = λ f less. (lawful.within.flushers f no_line less).1;
    flusher_device_is = λ f less. (lawful.within.flushers f no_line less).0;
    manned = λ d less. let h = found_flusher d trace.flushers (lawful.whole.flushers d less) in (h.place, h.less, h.is);
    task_cpu_is = λ t less. lawful.within.tasks t no_task less;
    writer_is = λ task context is. let h = has_place task context (writers_in trace) is in (h.place, h.less, h.task_is, h.context_is);
    jobs = λ i. jobs_are_jobs trace i (tasks_from i 0 trace.tasks []) refl;
    tasks = λ i. tasks_of_cpu trace i;
    few_jobs = λ i. omega (arith, few_jobs_with trace i (tasks_from i 0 trace.tasks []), lawful.within.few_flushers);
    few_tasks_on = λ i. omega (arith, few_tasks_from i 0 trace.tasks [], lawful.within.few_tasks);
    flusher_job = λ f less.
        let h = has_flusher_job trace (tasks_from (get_or trace.flushers f no_line).cpu 0 trace.tasks []) f less in (h.place, h.less, h.is);
    job_once = λ f less. one_job trace (tasks_from (get_or trace.flushers f no_line).cpu 0 trace.tasks []) f less;
  }
