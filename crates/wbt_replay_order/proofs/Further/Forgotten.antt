-- A state of which steps and entries are forgotten is in range as before.
use Rattle.std.proofs.Common.{◌≡◌, ℕ, zero, suc, ◌<◌, ◌≤◌, false, unsigned_abs, List, [], ◌∷◌, length, get_or, map, replicate, refl, sym, ◌∙◌, subst, arith}
use Rattle.std.specs.List.{sum_by, count_by}
use Rattle.std.proofs.lemmas.List.{length-map, length-replicate}
use Rattle.std.proofs.lemmas.List.Sums.{sum_by-cons}
use Rattle.wbt_replay_order.proofs.Common.{Counter, Context, batch_of, StepEntry, Trace, own_of, forgotten, State, no_cpu, no_step, cpu_of, Cpu, credit_of, Sound, Holds, HasRoom, IsRoom, IsClosed, AreDomains, AreContexts, AreWritten, AreTasks, AreDirtied, AreCpus, IsCpu, IsAgreed, leaks_of, working_on, is_stopped, settles_next}
use Rattle.wbt_counter.specs.declared.counter.Counter.TheVariants.{Domain}
use Rattle.wbt_replay_moves.specs.Definition.Forget.{bare}
use Rattle.wbt_replay_order.proofs.Lists.Numbered.{count_cons}

-- ---- a CPU without its part of the journal

bare_at : (cs : List Cpu) (i : ℕ) → get_or (map bare cs) i no_cpu ≡ bare (get_or cs i no_cpu)
bare_at [] i = refl
bare_at (c ∷ cs) zero = refl
bare_at (c ∷ cs) (suc i) = bare_at cs i

-- what doesn't count the entries has the same sum
sum_bare : (f : Cpu → ℕ) → ((c : Cpu) → f (bare c) ≡ f c) → (cs : List Cpu) → sum_by f (map bare cs) ≡ sum_by f cs
sum_bare f same [] = refl
sum_bare f same (c ∷ cs) =
    let rest = sum_bare f same cs in
    let here = same c in
    omega (arith, rest, here, sum_by-cons f c cs, sum_by-cons f (bare c) (map bare cs))

stopped_bare : (cs : List Cpu) → count_by is_stopped (map bare cs) ≡ count_by is_stopped cs
stopped_bare [] = refl
stopped_bare (c ∷ cs) =
    let rest = stopped_bare cs in
    omega (arith, rest, count_cons is_stopped c cs, count_cons is_stopped (bare c) (map bare cs))

bare_cpu : (trace : Trace) (steps now i : ℕ) (c : Cpu) → IsCpu trace steps now i c → IsCpu trace steps now i (bare c)
bare_cpu trace steps now i c h = record {
  jobs = h.jobs;
  tasks = h.tasks;
  next = h.next;
  next_task = h.next_task;
  turn = h.turn;
  whose = h.whose;
  todo = h.todo;
  in_order = h.in_order;
  own_domains = h.own_domains;
  own_contexts = h.own_contexts;
  many_held = h.many_held;
  held = h.held;
  since = h.since;
  made = h.made;
}

bare_room : (trace : Trace) (c : Cpu) → IsRoom trace c → IsRoom trace (bare c)
bare_room trace c h = record { settles = h.settles; most = most; room = room }
  where
    most : (x : Counter) → unsigned_abs (own_of x (bare c)) ≤ batch_of trace x
    most (Domain d) = h.most (Domain d)
    most (Context k) = h.most (Context k)

    room : (x : Counter) → settles_next x c.todo ≡ false → unsigned_abs (own_of x (bare c)) < batch_of trace x
    room (Domain d) = h.room (Domain d)
    room (Context k) = h.room (Context k)

-- ---- the entries are forgotten

abbrev untold : (s : State) → State
untold s = record s { cpus = map bare s.cpus; timer = record s.timer { entries = [] } }

untold_holds : (trace : Trace) (s : State) → Holds trace 0 0 s → Holds trace 0 0 (untold s)
untold_holds trace s h =
    let credits = sum_bare credit_of (λ c. refl) s.cpus in
    let leaks = sum_bare leaks_of (λ c. refl) s.cpus in
    record {
      pages = h.pages;
      few = h.few;
      long = h.long;
      domains = h.domains;
      contexts = h.contexts;
      written = h.written;
      marks = h.marks;
      queues = h.queues;
      tasks = h.tasks;
      dirtied = omega (arith, h.dirtied, leaks);
      flushers = h.flushers;
      cpus = record {
        many = length-map s.cpus bare ∙ h.cpus.many;
        each = λ i less.
            subst (IsCpu trace (length s.steps) s.now i) (sym (bare_at s.cpus i)) (bare_cpu trace (length s.steps) s.now i (cpu_of i s) (h.cpus.each i less));
      };
      agreed = λ i less.
          subst (IsAgreed trace s.tasks s.flushers i) (sym (bare_at s.cpus i)) (record { items = (h.agreed i less).items; others = (h.agreed i less).others });
      counted = record {
        tasks = h.counted.tasks;
        flushers = h.counted.flushers ∙ sym (sum_bare (working_on s.flushers) (λ c. refl) s.cpus);
        cpus = h.counted.cpus ∙ sym (stopped_bare s.cpus);
      };
      orders = h.orders;
      timer = record {
        todo = h.timer.todo;
        in_order = h.timer.in_order;
        under_peak = h.timer.under_peak;
        began = h.timer.began;
        limits = h.timer.limits;
        period = h.timer.period;
      };
      horizon = record {
        clock = omega (arith, h.horizon.clock, credits);
        timer = omega (arith, h.horizon.timer, credits);
        rest = λ k. omega (arith, h.horizon.rest k, credits);
        until = λ k. omega (arith, h.horizon.until k, credits);
      };
    }

-- ---- the steps are forgotten

-- Of the steps only their number counts.
steps_holds : (trace : Trace) (xs : List StepEntry) (s : State) → length xs ≡ length s.steps → Holds trace 0 0 s → Holds trace 0 0 (record s { steps = xs })
steps_holds trace xs s same h = record {
  pages = h.pages;
  few = omega (arith, h.few, same);
  long = h.long;
  domains = subst (λ (n : ℕ). AreDomains trace s.most n s.domains) (sym same) h.domains;
  contexts = subst (λ (n : ℕ). AreContexts trace s.most n s.now s.domains s.contexts) (sym same) h.contexts;
  written = subst (λ (n : ℕ). AreWritten trace n 0 s.domains s.contexts s.flushers) (sym same) h.written;
  marks = h.marks;
  queues = h.queues;
  tasks = subst (λ (n : ℕ). AreTasks trace n s.tasks) (sym same) h.tasks;
  dirtied = subst (λ (n : ℕ). AreDirtied n 0 s.tasks s.cpus) (sym same) h.dirtied;
  flushers = h.flushers;
  cpus = subst (λ (n : ℕ). AreCpus trace n s.now s.cpus) (sym same) h.cpus;
  agreed = h.agreed;
  counted = h.counted;
  orders = h.orders;
  timer = h.timer;
  horizon = record {
    clock = omega (arith, h.horizon.clock, same);
    timer = omega (arith, h.horizon.timer, same);
    rest = λ k. omega (arith, h.horizon.rest k, same);
    until = λ k. omega (arith, h.horizon.until k, same);
  };
}

-- ---- the whole

-- A sound state stays sound where its steps and entries are forgotten.
pub forgotten_sound : (trace : Trace) (s : State) → Sound trace s → Sound trace (forgotten s)
forgotten_sound trace s sound =
    let many : length (replicate (length s.steps) no_step) ≡ length s.steps = length-replicate (length s.steps) no_step in
    record {
      holds = steps_holds trace (replicate (length s.steps) no_step) (untold s) many (untold_holds trace s sound.holds);
      closed = λ i less. subst (IsClosed trace s.flushers i) (sym (bare_at s.cpus i)) (sound.closed i less);
    }

-- and its own numbers have as much room
pub forgotten_room : (trace : Trace) (s : State) → HasRoom trace s → HasRoom trace (forgotten s)
forgotten_room trace s h = record {
  own = λ i less. subst (IsRoom trace) (sym (bare_at s.cpus i)) (bare_room trace (cpu_of i s) (h.own i less));
}
