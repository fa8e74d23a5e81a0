-- The opening, field by field; and what a lawful trace gives it.
use Rattle.std.proofs.Common.{◌≡◌, zero, suc, ◌<◌, false, [], length, get_or, map, replicate, None, arith}
use Rattle.wbt_replay_order.proofs.Common.{IsLawful, IsAction, pages_in, Action, Trace, clean, domains, MOST_STEPS, State, first_contexts, first_cpus, first_domains, first_flushers, first_limits, first_tasks, opening, stretch_of}
use Rattle.wbt_trace.specs.declared.trace.Action.TheVariants as action
use Rattle.wbt_limits.specs.Thresholds.{ratelimit_pages_of}
use Rattle.wbt_replay_order.specs.Definition.Opening.{first_timer, running_of}
use Rattle.wbt_replay_order.specs.Kept.Opens.{ActionFits, DomainsFit, OpeningFits}
use Rattle.wbt_replay_order.proofs.Facts.Inodes.{before_ends}

pub opening_is : (trace : Trace) (s : State) → s.now ≡ 1 → s.pages ≡ pages_in trace.inodes → s.book ≡ (λ page. clean)
    → s.ratelimit_pages ≡ ratelimit_pages_of (first_limits trace 0).thresh trace.cpus → s.domains ≡ first_domains trace (domains trace)
    → s.contexts ≡ first_contexts trace (length trace.contexts) → s.marks ≡ replicate (length trace.inodes) false
    → s.queues ≡ replicate (length trace.devices) [] → s.tasks ≡ first_tasks trace (length trace.tasks)
    → s.flushers ≡ first_flushers trace (length trace.flushers) → s.cpus ≡ first_cpus trace trace.cpus
    → s.running ≡ running_of (first_tasks trace (length trace.tasks)) → s.working ≡ length trace.flushers → s.stopped ≡ 0 → s.spent ≡ false
    → s.orders ≡ map (stretch_of trace) trace.order → s.rotation ≡ None → s.timer ≡ first_timer trace → s.steps ≡ [] → s.most ≡ MOST_STEPS → s ≡ opening trace
unfolding opening
opening_is trace s now pages book ratelimit_pages domains contexts marks queues tasks flushers cpus running working stopped spent orders rotation timer steps most = λ i. record {
  now = now i;
  pages = pages i;
  book = book i;
  ratelimit_pages = ratelimit_pages i;
  domains = domains i;
  contexts = contexts i;
  marks = marks i;
  queues = queues i;
  tasks = tasks i;
  flushers = flushers i;
  cpus = cpus i;
  running = running i;
  working = working i;
  stopped = stopped i;
  spent = spent i;
  orders = orders i;
  rotation = rotation i;
  timer = timer i;
  steps = steps i;
  most = most i;
}

-- ---- what a lawful trace gives

module _ (trace : Trace) (lawful : IsLawful trace) where
  action_fits : (a : Action) → IsAction (length trace.tasks) trace.inodes a → ActionFits trace a
  action_fits (action.Write task inode from pages) fits =
      let ends = before_ends 0 trace.inodes lawful.within.inodes.firsts inode fits.1 in
      (fits.0, fits.1, omega (arith, ends, fits.2, fits.3, lawful.within.inodes.total))
  action_fits (action.Rest task ticks) fits = fits.0

  domain_fits : DomainsFit trace
  domain_fits zero less = tt
  domain_fits (suc cgroup) less =
      let there : cgroup < length trace.cgroups = omega (arith, less) in
      let group = lawful.within.cgroups cgroup (record { filepages = 0; headroom = 0 }) there in
      (there, omega (arith, group.0), omega (arith, group.1))

  pub opening_fits : OpeningFits trace
  opening_fits = record {
    some_cpu = lawful.whole.cpus;
    cpus = lawful.within.cpus;
    pages = lawful.within.inodes.total;
    inodes = lawful.within.inodes.few;
    tasks = lawful.within.few_tasks;
    flushers = lawful.within.few_flushers;
    contexts = omega (arith, lawful.within.few_contexts);
    context_devices = λ k less. (lawful.within.contexts k (record { device = 0; domain = 0; expire = None; estimate = None }) less).0;
    cgroups = omega (arith, lawful.within.few_cgroups);
    actions = λ k d less. action_fits (get_or trace.actions k d) (lawful.within.actions k d less);
    domains = domain_fits;
  }
