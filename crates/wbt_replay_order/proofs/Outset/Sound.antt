-- The opening of a lawful trace's run is sound, and each CPU's own numbers have room.
use Rattle.std.proofs.Common.{◌≡◌, ℕ, ◌+◌, ◌*◌, ◌^◌, ◌<◌, ◌≤◌, Bool, false, cond, eqb, ◌&&◌, not, pos, ℤ, unsigned_abs, List, [], ◌∷◌, ◌++◌, length, map, get_or, replicate, sum_by, All, refl, sym, ◌∙◌, ap, subst, arith, eqb-true, ⊎_elim, Option, None}
use Rattle.std.proofs.lemmas.Bool.{cases_lt}
use Rattle.std.proofs.lemmas.List.{get_or_past, get_or-replicate, length-replicate, nil_from_length}
use Rattle.std.proofs.lemmas.List.Elements.{All-nil, All-head, All-tail, All-push, All-map, All-weaker, All-replicate}
use Rattle.std.proofs.lemmas.List.Folds.{sum_by-replicate}
use Rattle.std.proofs.lemmas.List.Sums.{sum_by-cons}
use Rattle.wbt_replay_order.proofs.Common.{MOST_STEPS, domain_batch, context_batch, Counter, total_same, total_nothing, domains, first, new_writer, Writer, IsLawful, Pace, Trace, writer_in, batch_of, own_of, no_cpu, no_task, no_flusher, no_domain, no_context, no_held, flusher_of, pace_of, is_strict, flusher_device, Cpu, Domain, Flusher, Held, ReplayTask, ReplayWork, Writeback, opening, opening_moment, first_limits, first_domain, first_domains, first_context, first_contexts, works_of, first_task, first_tasks, first_flusher, first_flushers, tasks_from, first_cpu, first_cpus, stretch_of, is_finished, Facts, ticks_of, rest_of, rests_of, credit_of, until_of, IsDomain, AreDomains, IsContext, AreContexts, AreWritten, written_of, flown_of, AreQueued, WriterFits, IsTask, AreTasks, dirtied_by, dirtied_of, leaks_of, IsFlusher, IsCpu, AreCpus, IsAgreed, is_at_work, working_on, is_stopped, IsStretch, TimerItemFits, Holds, Sound, IsRoom, HasRoom, WheelFits, ItemFits, Agrees, IsOpen, is_ageing}
use Rattle.wbt_num.specs.Limits.{IsLawful as AreLawful}
use Rattle.wbt_counter.specs.declared.counter.Counter.TheVariants.{Domain as ofDomain, Context as ofContext}
use Rattle.wbt_task.specs.declared.allowance.Due.TheVariants as due
use Rattle.wbt_trace.specs.Lawful.{IsOrder}
use Rattle.wbt_trace.specs.declared.trace.Context.{Context as ContextLine}
use Rattle.wbt_trace.specs.declared.trace.Order.{Order}
use Rattle.wbt_trace.specs.declared.trace.Order.TheVariants as order
use Rattle.wbt_replay_moves.specs.Definition.State.{no_limits}
use Rattle.wbt_rules.specs.Things.{leads}
use Rattle.wbt_replay_order.specs.Definition.Opening.{contexts_from, strict_from, first_held}
use Rattle.wbt_replay_order.specs.Kept.Horizon.{horizon}
use Rattle.wbt_replay_order.specs.Kept.Sound.{ArePlaces, AreFlushers}
use Rattle.wbt_replay_order.proofs.Facts.Facts.{facts}
use Rattle.wbt_replay_order.proofs.Facts.Lists.{either}
use Rattle.wbt_replay_order.proofs.Facts.Paces.{none_since, none_ticks}
use Rattle.wbt_replay_order.proofs.Facts.Settings.{firsts_lawful}
use Rattle.wbt_replay_order.proofs.Outset.Cpus.{lines_on, counted_with, all_lines}
use Rattle.wbt_replay_order.proofs.Outset.Numbered.{numbered_length, numbered_at, numbered_all, numbered_each, numbered_sum}
use Rattle.wbt_replay_order.proofs.Outset.Tasks.{works_fit, all_rests, last_is}
use Rattle.wbt_rules.proofs.Openings.{first_moment, first_sound}

-- ---- domains and contexts

none_lawful : AreLawful no_limits
none_lawful = record { bg_below_thresh = omega arith; thresh_below_hard = omega arith; hard_in_range = omega arith }

no_domain_fits : IsDomain MOST_STEPS 0 no_domain
no_domain_fits = record {
  limits = none_lawful;
  sequence = omega arith;
  under_peak = omega arith;
  peak = omega arith;
  count = record { version = omega arith; value = omega arith };
  period = omega arith;
}

first_domain_fits : (trace : Trace) (d : ℕ) → IsDomain MOST_STEPS 0 (first_domain (first_limits trace d))
first_domain_fits trace d =
    let lawful = firsts_lawful trace d in
    record {
      limits = lawful;
      sequence = omega arith;
      under_peak = omega arith;
      peak = lawful.hard_in_range;
      count = record { version = omega arith; value = omega arith };
      period = omega arith;
    }

domains_fit : (trace : Trace) → AreDomains trace MOST_STEPS 0 (first_domains trace (domains trace))
domains_fit trace = record {
  many = numbered_length (first_domains trace) (λ d. first_domain (first_limits trace d)) no_domain refl (λ n. refl) (domains trace);
  each = numbered_all (first_domains trace) (λ d. first_domain (first_limits trace d)) no_domain refl (λ n. refl) (λ d x. IsDomain MOST_STEPS 0 x)
      (first_domain_fits trace) (λ d. no_domain_fits) (domains trace);
}

first_context_fits : (trace : Trace) → IsLawful trace → (ds : List Domain) (k : ℕ) → IsContext trace MOST_STEPS 0 opening_moment ds k (first_context trace k)
first_context_fits trace lawful ds k = record {
  count = record { version = omega arith; value = omega arith };
  estimate = first_sound trace k opening_moment ((facts trace lawful).firsts k) (omega arith);
  estimated = omega (arith, first_moment trace k opening_moment);
  part = omega arith;
  cgroup_part = omega arith;
}

contexts_fit : (trace : Trace) → IsLawful trace → (ds : List Domain)
    → AreContexts trace MOST_STEPS 0 opening_moment ds (first_contexts trace (length trace.contexts))
contexts_fit trace lawful ds = record {
  many = numbered_length (first_contexts trace) (first_context trace) no_context refl (λ n. refl) (length trace.contexts);
  each = λ k less. subst (IsContext trace MOST_STEPS 0 opening_moment ds k)
      (sym (numbered_at (first_contexts trace) (first_context trace) no_context refl (λ n. refl) (length trace.contexts) k less))
      (first_context_fits trace lawful ds k);
}

-- one item so many times, and the default
pub repeated : {A : Type 0} (P : A → Type 0) (n i : ℕ) (x d : A) → P x → P d → P (get_or (replicate n x) i d)
repeated P n i x d here other = ⊎_elim
    (λ less. subst P (sym (get_or-replicate n i x d less)) here)
    (λ past. subst P (sym (get_or_past (replicate n x) i d (omega (arith, past, length-replicate n x)))) other)
    (cases_lt i n)

-- what holds of a context at first, and of none
of_contexts : (trace : Trace) (P : Writeback → Type 0) → ((k : ℕ) → P (first_context trace k)) → P no_context → (n k : ℕ) → P (get_or (first_contexts trace n) k no_context)
of_contexts trace P each other n k =
    numbered_all (first_contexts trace) (first_context trace) no_context refl (λ m. refl) (λ i x. P x) each (λ i. other) n k

written_fits : (trace : Trace)
    → AreWritten trace 0 0 (first_domains trace (domains trace)) (first_contexts trace (length trace.contexts)) (first_flushers trace (length trace.flushers))
written_fits trace =
    let none : sum_by written_of (first_contexts trace (length trace.contexts)) ≡ 0 =
    numbered_sum (first_contexts trace) (first_context trace) no_context refl (λ n. refl) written_of (length trace.contexts)
    ∙ total_nothing (length trace.contexts) (λ k. 0) (λ k. refl) in
    let flown : sum_by flown_of (first_flushers trace (length trace.flushers)) ≡ 0 =
    numbered_sum (first_flushers trace) (first_flusher trace) no_flusher refl (λ n. refl) flown_of (length trace.flushers)
    ∙ total_nothing (length trace.flushers) (λ k. 0) (λ k. refl) in
    record {
      total = omega (arith, none, flown);
      events = λ d. numbered_all (first_domains trace) (λ d. first_domain (first_limits trace d)) no_domain refl (λ n. refl)
          (λ i x. x.events.events ≤ sum_by written_of (first_contexts trace (length trace.contexts)) + 1) (λ i. omega arith) (λ i. omega arith) (domains trace) d;
      part = λ k. of_contexts trace (λ (x : Writeback). x.part.events ≤ sum_by written_of (first_contexts trace (length trace.contexts))) (λ i. omega arith) (omega arith) (length trace.contexts) k;
      cgroup_part = λ k. of_contexts trace (λ (x : Writeback). x.cgroup_part.events ≤ sum_by written_of (first_contexts trace (length trace.contexts))) (λ i. omega arith) (omega arith) (length trace.contexts) k;
    }

-- ---- tasks

first_due : (cap : ℕ) → (new_writer cap).due ≡ due.No
unfolding new_writer
first_due cap = refl

not_due : (trace : Trace) (pace : Option Pace) (works : List ReplayWork) (k : ℕ) → (writer_in k (first_task trace pace works)).due ≡ due.No
not_due trace pace works k =
    repeated (λ (w : Writer). w.due ≡ due.No) (length trace.contexts) k (new_writer trace.cap) (new_writer 0) (first_due trace.cap) (first_due 0)

first_writer_fits : (trace : Trace) → 1 ≤ trace.cap → WriterFits trace 0 (new_writer trace.cap)
unfolding new_writer first
first_writer_fits trace some = record { dirtied = omega arith; allowance = omega arith; left = omega arith; some_left = λ is. omega (arith, some) }

task_fits : (trace : Trace) (lawful : IsLawful trace) (t : ℕ) → IsTask trace 0 t (first_task trace (pace_of trace t) (works_of trace t trace.actions))
task_fits trace lawful t = record {
  works = works_fit trace lawful t;
  context = λ some. some;
  writers = length-replicate (length trace.contexts) (new_writer trace.cap);
  fit = All-replicate (WriterFits trace 0) (length trace.contexts) (new_writer trace.cap) (first_writer_fits trace lawful.within.cap.0);
  due = λ k is. absurd (cc (sym is ∙ not_due trace (pace_of trace t) (works_of trace t trace.actions) k));
  ended = λ is. nil_from_length (works_of trace t trace.actions) (eqb-true (length (works_of trace t trace.actions)) 0 is);
  last = λ is. last_is trace t false trace.actions ∙ is;
  pace = (facts trace lawful).paces t;
  since = none_since (pace_of trace t) ((facts trace lawful).paces t);
}

abbrev task_at : (trace : Trace) (t : ℕ) → ReplayTask
task_at trace t = first_task trace (pace_of trace t) (works_of trace t trace.actions)

tasks_fit : (trace : Trace) (lawful : IsLawful trace) → AreTasks trace 0 (first_tasks trace (length trace.tasks))
tasks_fit trace lawful = record {
  many = numbered_length (first_tasks trace) (task_at trace) no_task refl (λ n. refl) (length trace.tasks);
  each = λ t less. subst (IsTask trace 0 t) (sym (numbered_at (first_tasks trace) (task_at trace) no_task refl (λ n. refl) (length trace.tasks) t less)) (task_fits trace lawful t);
}

nothing_dirtied : (trace : Trace) (t : ℕ) → dirtied_of (task_at trace t) ≡ 0
unfolding new_writer first
nothing_dirtied trace t =
    either (λ (n : ℕ). n ≡ 0) (task_at trace t).ended 0 (sum_by dirtied_by (task_at trace t).writers) (λ over. refl)
    (λ runs. omega (arith, sum_by-replicate dirtied_by (length trace.contexts) (new_writer trace.cap)))

-- ---- flushers

contexts_fit_from : (n device number : ℕ) (lines : List ContextLine) (known : List ℕ) → number + length lines ≤ n → All (λ k. k < n) known
    → All (λ k. k < n) (contexts_from device number lines known)
contexts_fit_from n device number [] known few all = all
contexts_fit_from n device number (c ∷ cs) known few all =
    contexts_fit_from n device (number + 1) cs (cond (eqb c.device device) (known ++ number ∷ []) known) (omega (arith, few))
    (either (All (λ k. k < n)) (eqb c.device device) (known ++ number ∷ []) known
    (λ ours. All-push (λ k. k < n) known number all (omega (arith, few))) (λ other. all))

strict_fit_from : (trace : Trace) (n device number : ℕ) (lines : List ContextLine) (known : List ℕ) → number + length lines ≤ n → All (λ k. k < n) known
    → All (λ k. k < n) (strict_from trace device number lines known)
strict_fit_from trace n device number [] known few all = all
strict_fit_from trace n device number (c ∷ cs) known few all =
    let ours : Bool = eqb c.device device && is_strict trace number in
    strict_fit_from trace n device (number + 1) cs (cond ours (known ++ number ∷ []) known) (omega (arith, few))
    (either (All (λ k. k < n)) ours (known ++ number ∷ []) known
    (λ is. All-push (λ k. k < n) known number all (omega (arith, few))) (λ other. all))

-- each first place is one of the inode's, which has some pages
places_fit : (trace : Trace) → Facts trace → ArePlaces trace (replicate (length trace.inodes) 0)
places_fit trace all = record {
  many = length-replicate (length trace.inodes) 0;
  below = λ n less.
      let none : ℕ = 0 in
      let is : get_or (replicate (length trace.inodes) none) n none ≡ none = get_or-replicate (length trace.inodes) n none none less in
      let some = all.inode_some n less in
      omega (arith, is, some);
}

flusher_fits : (trace : Trace) → Facts trace → (f : ℕ) → IsFlusher trace f (first_flusher trace f)
flusher_fits trace all f = record {
  phase = refl;
  quota = tt;
  hard = (firsts_lawful trace 0).hard_in_range;
  measures = either (All (λ k. k < length trace.contexts)) (leads trace f) (contexts_from (flusher_device trace f) 0 trace.contexts []) []
      (λ first_one. contexts_fit_from (length trace.contexts) (flusher_device trace f) 0 trace.contexts [] (omega arith) (All-nil (λ k. k < length trace.contexts)))
      (λ other. All-nil (λ k. k < length trace.contexts));
  weighs = strict_fit_from trace (length trace.contexts) (flusher_device trace f) 0 trace.contexts [] (omega arith) (All-nil (λ k. k < length trace.contexts));
  wheel = either (WheelFits trace) (is_ageing trace (flusher_device trace f)) _ None (λ ages. record { inodes = refl; each = tt }) (λ other. tt);
  places = λ less. places_fit trace all;
}

no_flusher_fits : (trace : Trace) (f : ℕ) → length trace.flushers ≤ f → IsFlusher trace f no_flusher
no_flusher_fits trace f past =
    let none = All-nil (λ k. k < length trace.contexts) in
    record { phase = refl; quota = tt; hard = omega arith; measures = none; weighs = none; wheel = tt; places = λ less. absurd (omega (arith, past, less)) }

-- what holds of a flusher at first, and of none
of_flushers : (trace : Trace) (P : Flusher → Type 0) → ((f : ℕ) → P (first_flusher trace f)) → P no_flusher → (n f : ℕ) → P (get_or (first_flushers trace n) f no_flusher)
of_flushers trace P each other n f =
    numbered_all (first_flushers trace) (first_flusher trace) no_flusher refl (λ m. refl) (λ i x. P x) each (λ i. other) n f

flushers_fit : (trace : Trace) → Facts trace → AreFlushers trace (first_flushers trace (length trace.flushers))
flushers_fit trace all = record {
  many = numbered_length (first_flushers trace) (first_flusher trace) no_flusher refl (λ n. refl) (length trace.flushers);
  each = numbered_each (first_flushers trace) (first_flusher trace) no_flusher refl (λ n. refl) (IsFlusher trace) (length trace.flushers) (flusher_fits trace all) (no_flusher_fits trace);
}

all_open : (trace : Trace) (f : ℕ) → IsOpen trace (get_or (first_flushers trace (length trace.flushers)) f no_flusher)
all_open trace f = of_flushers trace (IsOpen trace) (λ f. tt) tt (length trace.flushers) f

-- ---- CPUs

-- what a CPU holds of a domain at first
abbrev first_of : (trace : Trace) (d : ℕ) → Held
first_of trace d = record { version = 0; limits = first_limits trace d }

cpu_fits : (trace : Trace) (i : ℕ) → IsCpu trace 0 opening_moment i (first_cpu trace i)
cpu_fits trace i = record {
  jobs = refl;
  tasks = refl;
  next = λ some. some;
  next_task = λ some. some;
  turn = record { began = omega arith; global = none_lawful; cgroup = none_lawful; global_count = omega arith; cgroup_count = omega arith; context_count = omega arith };
  whose = λ some. absurd (omega (arith, some));
  todo = All-nil (ItemFits trace);
  in_order = tt;
  own_domains = length-replicate (domains trace) (pos 0);
  own_contexts = length-replicate (length trace.contexts) (pos 0);
  many_held = numbered_length (first_held trace) (first_of trace) no_held refl (λ n. refl) (domains trace);
  held = numbered_all (first_held trace) (first_of trace) no_held refl (λ n. refl) (λ d x. AreLawful x.limits) (firsts_lawful trace) (λ d. none_lawful) (domains trace);
  since = omega arith;
  made = omega arith;
}

cpu_is : (trace : Trace) (n i : ℕ) → i < n → get_or (first_cpus trace n) i no_cpu ≡ first_cpu trace i
cpu_is trace n i less = numbered_at (first_cpus trace) (first_cpu trace) no_cpu refl (λ m. refl) n i less

cpus_fit : (trace : Trace) → AreCpus trace 0 opening_moment (first_cpus trace trace.cpus)
cpus_fit trace = record {
  many = numbered_length (first_cpus trace) (first_cpu trace) no_cpu refl (λ n. refl) trace.cpus;
  each = λ i less. subst (IsCpu trace 0 opening_moment i) (sym (cpu_is trace trace.cpus i less)) (cpu_fits trace i);
}

-- a sum of nothings
no_sum : (trace : Trace) (g : Cpu → ℕ) → ((i : ℕ) → g (first_cpu trace i) ≡ 0) → (n : ℕ) → sum_by g (first_cpus trace n) ≡ 0
no_sum trace g none n =
    numbered_sum (first_cpus trace) (first_cpu trace) no_cpu refl (λ m. refl) g n ∙ total_nothing n (λ i. g (first_cpu trace i)) none

-- ---- who runs

all_working : (trace : Trace) → Facts trace → length trace.flushers ≡ sum_by (working_on (first_flushers trace (length trace.flushers))) (first_cpus trace trace.cpus)
all_working trace f =
    let fs : List Flusher = first_flushers trace (length trace.flushers) in
    let sum = numbered_sum (first_cpus trace) (first_cpu trace) no_cpu refl (λ m. refl) (working_on fs) trace.cpus in
    let each = total_same trace.cpus (λ i. working_on fs (first_cpu trace i)) (λ i. lines_on i trace.flushers)
    (λ i less. counted_with (is_at_work fs) trace i (tasks_from i 0 trace.tasks []) refl
    (λ k there. ap (λ (x : Flusher). not (is_finished x.phase)) (numbered_at (first_flushers trace) (first_flusher trace) no_flusher refl (λ m. refl) (length trace.flushers) k there))) in
    let lines = all_lines trace.cpus trace.flushers f.flusher_cpu_is in
    omega (arith, sum, each, lines)

-- ---- order lines, and how late a moment may be

stretches_fit : (trace : Trace) → IsLawful trace → All (IsStretch trace) (map (stretch_of trace) trace.order)
stretches_fit trace lawful =
    All-map (IsStretch trace) (stretch_of trace) trace.order
    (All-weaker (IsOrder trace.cpus) (λ o. IsStretch trace (stretch_of trace o)) fits trace.order lawful.within.order)
  where
    fits : (o : Order) → IsOrder trace.cpus o → IsStretch trace (stretch_of trace o)
    fits (order.Steps cpu steps) is = is.0
    fits (order.Timer steps) is = tt
    fits (order.Tick ticks) is = omega (arith, is.1)

ticks_few : (trace : Trace) (os : List Order) → All (IsOrder trace.cpus) os → sum_by ticks_of (map (stretch_of trace) os) ≤ length os * 2 ^ 40
ticks_few trace [] all = omega arith
ticks_few trace (o ∷ os) all =
    omega (
      arith,
      sum_by-cons ticks_of (stretch_of trace o) (map (stretch_of trace) os),
      one o (All-head (IsOrder trace.cpus) o os all),
      ticks_few trace os (All-tail (IsOrder trace.cpus) o os all),
    )
  where
    one : (o : Order) → IsOrder trace.cpus o → ticks_of (stretch_of trace o) ≤ 2 ^ 40
    one (order.Steps cpu steps) is = omega arith
    one (order.Timer steps) is = omega arith
    one (order.Tick ticks) is = omega (arith, is.1)

horizon_fits : (trace : Trace) → IsLawful trace → horizon 0 (opening trace)
unfolding opening
horizon_fits trace lawful =
    let orders = ticks_few trace trace.order lawful.within.order in
    let few_orders = lawful.within.few_orders in
    let rests : sum_by rests_of (first_tasks trace (length trace.tasks)) ≤ length trace.actions * 2 ^ 40 =
    omega (
      arith,
      numbered_sum (first_tasks trace) (task_at trace) no_task refl (λ m. refl) rests_of (length trace.tasks),
      total_same (length trace.tasks) (λ t. rests_of (task_at trace t)) (λ t. sum_by rest_of (works_of trace t trace.actions)) (λ t less.
          omega (arith, none_ticks (pace_of trace t))),
      all_rests trace lawful (length trace.tasks),
    ) in
    let few_actions = lawful.within.few_actions in
    let credits = no_sum trace credit_of (λ i. refl) trace.cpus in
    record {
      clock = omega (arith, orders, few_orders, rests, few_actions, credits);
      timer = omega (arith, orders, few_orders, rests, few_actions, credits);
      rest = λ t.
          let none : (get_or (first_tasks trace (length trace.tasks)) t no_task).rest ≡ 0 =
          numbered_all (first_tasks trace) (task_at trace) no_task refl (λ m. refl) (λ i (x : ReplayTask). x.rest ≡ 0) (λ i. refl) (λ i. refl) (length trace.tasks) t in
          omega (arith, orders, few_orders, rests, few_actions, credits, none);
      until = λ f.
          let none : until_of (get_or (first_flushers trace (length trace.flushers)) f no_flusher).phase ≡ 0 =
          of_flushers trace (λ (x : Flusher). until_of x.phase ≡ 0) (λ i. refl) refl (length trace.flushers) f in
          omega (arith, orders, few_orders, rests, few_actions, credits, none);
    }

-- ---- the whole

opening_holds : (trace : Trace) → IsLawful trace → Holds trace 0 0 (opening trace)
unfolding opening
opening_holds trace lawful = record {
  pages = refl;
  few = omega arith;
  long = omega arith;
  domains = domains_fit trace;
  contexts = contexts_fit trace lawful (first_domains trace (domains trace));
  written = written_fits trace;
  marks = length-replicate (length trace.inodes) false;
  queues = record {
    many = length-replicate (length trace.devices) [];
    each = λ d. repeated (All (AreQueued trace d)) (length trace.devices) d [] [] (All-nil (AreQueued trace d)) (All-nil (AreQueued trace d));
  };
  tasks = tasks_fit trace lawful;
  dirtied =
      let tasks : sum_by dirtied_of (first_tasks trace (length trace.tasks)) ≡ 0 =
      numbered_sum (first_tasks trace) (task_at trace) no_task refl (λ m. refl) dirtied_of (length trace.tasks)
      ∙ total_nothing (length trace.tasks) (λ t. dirtied_of (task_at trace t)) (nothing_dirtied trace) in
      let leaks = no_sum trace leaks_of (λ i. refl) trace.cpus in
      omega (arith, tasks, leaks);
  flushers = flushers_fit trace (facts trace lawful);
  cpus = cpus_fit trace;
  agreed = λ i less. subst (IsAgreed trace (first_tasks trace (length trace.tasks)) (first_flushers trace (length trace.flushers)) i) (sym (cpu_is trace trace.cpus i less)) (record {
    items = All-nil (Agrees trace (first_tasks trace (length trace.tasks)) (first_flushers trace (length trace.flushers)) (first_cpu trace i).turn.whose);
    others = λ f on apart. all_open trace f;
  });
  counted = record {
    tasks = refl;
    flushers = all_working trace (facts trace lawful);
    cpus = sym (no_sum trace (λ c. cond (is_stopped c) 1 0) (λ i. refl) trace.cpus);
  };
  orders = stretches_fit trace lawful;
  timer = record {
    todo = All-nil (TimerItemFits trace);
    in_order = tt;
    under_peak = tt;
    began = omega arith;
    limits = none_lawful;
    period = omega arith;
  };
  horizon = horizon_fits trace lawful;
}

closed : (trace : Trace) (i f : ℕ) → IsOpen trace (flusher_of f (opening trace))
unfolding opening
closed trace i f = all_open trace f

pub opening_sound : (trace : Trace) → IsLawful trace → Sound trace (opening trace)
opening_sound trace lawful = record { holds = opening_holds trace lawful; closed = λ i less f on mine closes. closed trace i f }

-- ---- own numbers

some_batch : (trace : Trace) (x : Counter) → 1 ≤ batch_of trace x
unfolding domain_batch context_batch
some_batch trace (ofDomain d) = omega arith
some_batch trace (ofContext k) = omega arith

none_owned : (trace : Trace) (i : ℕ) (x : Counter) → unsigned_abs (own_of x (first_cpu trace i)) ≡ 0
none_owned trace i (ofDomain d) = repeated (λ (z : ℤ). unsigned_abs z ≡ 0) (domains trace) d (pos 0) (pos 0) refl refl
none_owned trace i (ofContext k) = repeated (λ (z : ℤ). unsigned_abs z ≡ 0) (length trace.contexts) k (pos 0) (pos 0) refl refl

pub opening_room : (trace : Trace) → HasRoom trace (opening trace)
unfolding opening
opening_room trace = record {
  own = λ i less. subst (IsRoom trace) (sym (cpu_is trace trace.cpus i less)) (record {
    settles = tt;
    most = λ x. omega (arith, none_owned trace i x);
    room = λ x other. omega (arith, none_owned trace i x, some_batch trace x);
  });
}
