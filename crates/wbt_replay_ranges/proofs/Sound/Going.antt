-- A state in the midst of a CPU's move: what the move suspends of that CPU is left out; what one more step makes of it.
use Rattle.std.proofs.Common.{◌≡◌, ◌≢◌, ℕ, false, ◌+◌, ◌<◌, ◌≤◌, List, length, get_or, arith}
use Rattle.std.proofs.lemmas.List.Elements.{All-weaker}
use Rattle.wbt_replay_order.proofs.Common.{Count, StepEntry, Writer, Trace, State, cpu_of, no_cpu, no_task, no_domain, no_context, Cpu, Domain, ReplayTask, ReplayTurn, Writeback, step_ticks, Holds, IsClosed, IsRoom, IsCount, AreDomains, AreContexts, WriterFits, AreTasks, IsTurn, AreCpus}

-- ---- the midst of a move of the CPU i

pub record Going (trace : Trace) (i steps ticks : ℕ) (s : State) : Type 0 where
  pub holds : Holds trace steps ticks s
  -- it isn't stopped
  pub live : (cpu_of i s).stopped ≡ false
  pub closed : (j : ℕ) → j ≢ i → j < trace.cpus → IsClosed trace s.flushers j (cpu_of j s)
  pub room : (j : ℕ) → j ≢ i → j < trace.cpus → IsRoom trace (cpu_of j s)

-- ---- more steps were made

count_more : (most n m : ℕ) (c : Count) → n ≤ m → IsCount most n c → IsCount most m c
count_more most n m c more h = record { version = omega (arith, more, h.version); value = omega (arith, more, h.value) }

pub domains_more : (trace : Trace) (most n m : ℕ) (ds : List Domain) → n ≤ m → AreDomains trace most n ds → AreDomains trace most m ds
domains_more trace most n m ds more h = record {
  many = h.many;
  each = λ d. let x = h.each d in record {
    limits = x.limits;
    sequence = omega (arith, more, x.sequence);
    under_peak = x.under_peak;
    peak = x.peak;
    count = count_more most n m (get_or ds d no_domain).count more x.count;
    period = x.period;
  };
}

pub contexts_more : (trace : Trace) (most n m now later : ℕ) (ds : List Domain) (cs : List Writeback) → n ≤ m → now ≤ later → AreContexts trace most n now ds cs → AreContexts trace most m later ds cs
contexts_more trace most n m now later ds cs more on h = record {
  many = h.many;
  each = λ k less. let x = h.each k less in record {
    count = count_more most n m (get_or cs k no_context).count more x.count;
    estimate = x.estimate;
    estimated = omega (arith, x.estimated, on);
    part = x.part;
    cgroup_part = x.cgroup_part;
  };
}

writer_more : (trace : Trace) (n m : ℕ) → n ≤ m → (w : Writer) → WriterFits trace n w → WriterFits trace m w
writer_more trace n m more w h = record { dirtied = omega (arith, more, h.dirtied); allowance = h.allowance; left = h.left; some_left = h.some_left }

pub tasks_more : (trace : Trace) (n m : ℕ) (ts : List ReplayTask) → n ≤ m → AreTasks trace n ts → AreTasks trace m ts
tasks_more trace n m ts more h = record {
  many = h.many;
  each = λ t less. let x = h.each t less in record {
    works = x.works;
    context = x.context;
    writers = x.writers;
    fit = All-weaker (WriterFits trace n) (WriterFits trace m) (writer_more trace n m more) (get_or ts t no_task).writers x.fit;
    due = x.due;
    ended = x.ended;
    last = x.last;
    pace = x.pace;
    since = x.since;
  };
}

turn_more : (now later : ℕ) (t : ReplayTurn) → now ≤ later → IsTurn now t → IsTurn later t
turn_more now later t on h = record {
  began = omega (arith, on, h.began);
  global = h.global;
  cgroup = h.cgroup;
  global_count = h.global_count;
  cgroup_count = h.cgroup_count;
  context_count = h.context_count;
}

pub cpus_more : (trace : Trace) (n m now later : ℕ) (cs : List Cpu) → n ≤ m → now ≤ later → AreCpus trace n now cs → AreCpus trace m later cs
cpus_more trace n m now later cs more on h = record {
  many = h.many;
  each = λ i less. let x = h.each i less in record {
    jobs = x.jobs;
    tasks = x.tasks;
    next = x.next;
    next_task = x.next_task;
    turn = turn_more now later (get_or cs i no_cpu).turn on x.turn;
    whose = x.whose;
    todo = x.todo;
    in_order = x.in_order;
    own_domains = x.own_domains;
    own_contexts = x.own_contexts;
    many_held = x.many_held;
    held = x.held;
    since = omega (arith, more, x.since);
    made = omega (arith, more, x.made);
  };
}

-- A step is made, which isn't counted yet.
pub step_going : (trace : Trace) (i e t : ℕ) (xs : List StepEntry) (s : State) → Going trace i e t s → length xs ≡ length s.steps + 1 → length xs ≤ s.most
    → Going trace i (e + 1) (t + step_ticks) (record s { steps = xs })
step_going trace i e t xs s g one few =
    let h = g.holds in
    let n : ℕ = length s.steps in
    let m : ℕ = length xs in
    let more : n ≤ m = omega (arith, one) in
    record {
      holds = record {
        pages = h.pages;
        few = few;
        long = h.long;
        domains = domains_more trace s.most n m s.domains more h.domains;
        contexts = contexts_more trace s.most n m s.now s.now s.domains s.contexts more (omega arith) h.contexts;
        written = record { total = omega (arith, h.written.total, one); events = h.written.events; part = h.written.part; cgroup_part = h.written.cgroup_part };
        marks = h.marks;
        queues = h.queues;
        tasks = tasks_more trace n m s.tasks more h.tasks;
        dirtied = omega (arith, h.dirtied, one);
        flushers = h.flushers;
        cpus = cpus_more trace n m s.now s.now s.cpus more (omega arith) h.cpus;
        agreed = h.agreed;
        counted = h.counted;
        orders = h.orders;
        timer = h.timer;
        horizon = record {
          clock = omega (arith, h.horizon.clock, one, few);
          timer = omega (arith, h.horizon.timer, one, few);
          rest = λ k. omega (arith, h.horizon.rest k, one, few);
          until = λ k. omega (arith, h.horizon.until k, one, few);
        };
      };
      live = g.live;
      closed = g.closed;
      room = g.room;
    }

-- What was left to spare needn't be.
pub spare_going : (trace : Trace) (i e e' t t' : ℕ) (s : State) → e' ≤ e → t' ≤ t → Going trace i e t s → Going trace i e' t' s
spare_going trace i e e' t t' s fewer less g = let h = g.holds in record {
  holds = record {
    pages = h.pages;
    few = h.few;
    long = h.long;
    domains = h.domains;
    contexts = h.contexts;
    written = record { total = omega (arith, h.written.total, fewer); events = h.written.events; part = h.written.part; cgroup_part = h.written.cgroup_part };
    marks = h.marks;
    queues = h.queues;
    tasks = h.tasks;
    dirtied = omega (arith, h.dirtied, fewer);
    flushers = h.flushers;
    cpus = h.cpus;
    agreed = h.agreed;
    counted = h.counted;
    orders = h.orders;
    timer = h.timer;
    horizon = record {
      clock = omega (arith, h.horizon.clock, less);
      timer = omega (arith, h.horizon.timer, less);
      rest = λ k. omega (arith, h.horizon.rest k, less);
      until = λ k. omega (arith, h.horizon.until k, less);
    };
  };
  live = g.live;
  closed = g.closed;
  room = g.room;
}
