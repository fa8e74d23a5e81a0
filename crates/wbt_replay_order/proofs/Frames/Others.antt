-- One CPU makes a move: what another one follows stays, and so does what it doesn't change.
use Rattle.std.proofs.Common.{◌≡◌, ◌≢◌, ℕ, ◌+◌, ◌<◌, ◌≤◌, true, false, cond, eqb, ℤ, List, [], ◌∷◌, length, get_or, sym, ◌∙◌, ap, subst, arith, eqb-true, ⊎_elim}
use Rattle.std.proofs.Math.ListN.{set}
use Rattle.std.proofs.lemmas.Bool.{cases_Bool, cond-false}
use Rattle.std.proofs.lemmas.List.{get_or-set_same, get_or-set_other}
use Rattle.std.specs.List.{list_any}
use mathlib.Core.Logic.{dite}
use native.Mathlib.Decide.{ℕ_discrete}
use Rattle.wbt_replay_order.proofs.Common.{Trace, is_writer, Counter, sum_of, total_same, times_in, Setting, CpuRecord, TimerRecord, domains, State, no_cpu, no_task, no_flusher, cpu_of, with_cpu, domain_of, writer_in, writer_of, flusher_cpu, Cpu, Flusher, ReplayTask, Timer, Whose, Todo, is_decide, writers_in, writer_at, task_cpu, Suits, Looked, InCheck, ScansInside, batch_on, batched, count_in, FollowsCpu, Follows, IsTurnOf, Found, sequence_of, stage_of, heights_of}
use Rattle.wbt_counter.specs.Sums as sums
use Rattle.wbt_grant.specs.State as throttle
use Rattle.wbt_replay_moves.specs.declared.state.Whose.TheVariants as whose
use Rattle.wbt_replay_order.specs.Claims.Path.{LinesArePublished}
use Rattle.wbt_replay_order.specs.Kept.Following.{page_in, page_of, RaisesFirst, HasRaised}
use Rattle.wbt_replay_order.specs.Kept.Following.{stage_in}

-- a CPU whose next item was taken from its list: a silent move, and a step
abbrev pub popped : (i : ℕ) (ts : List Todo) (s : State) → State
popped i ts s = with_cpu i (record (cpu_of i s) { todo = ts }) s

abbrev pub stepping : (i : ℕ) (ts : List Todo) (s : State) → State
stepping i ts s = with_cpu i (record (cpu_of i s) { todo = ts; made = (cpu_of i s).made + 1 }) s

-- the number of whosever turn it is
abbrev number_of : (w : Whose) → ℕ
number_of (whose.Task task) = task
number_of (whose.Flusher f) = f

pub same_task : (m n : ℕ) → ◌≡◌ {A = Whose} (whose.Task m) (whose.Task n) → m ≡ n
same_task m n e = ap number_of e

pub same_flusher : (m n : ℕ) → ◌≡◌ {A = Whose} (whose.Flusher m) (whose.Flusher n) → m ≡ n
same_flusher m n e = ap number_of e

-- the turn is that of a task or a flusher of the CPU's, where it isn't over
abbrev pub IsTurnOn : (trace : Trace) (i : ℕ) (c : Cpu) → Type 0
IsTurnOn trace i c = 1 ≤ length c.todo → IsTurnOf trace i c.turn.whose

-- the tasks and the flushers of the CPU are the same
pub record SameOn (trace : Trace) (i : ℕ) (tasks more_tasks : List ReplayTask) (flushers more_flushers : List Flusher) : Type 0 where
  pub same_tasks : (k : ℕ) → task_cpu trace k ≡ i → get_or more_tasks k no_task ≡ get_or tasks k no_task
  pub same_flushers : (f : ℕ) → flusher_cpu trace f ≡ i → get_or more_flushers f no_flusher ≡ get_or flushers f no_flusher

pub some_item : (ts : List Todo) → list_any is_decide ts ≡ true → 1 ≤ length ts
some_item [] is = absurd (cc is)
some_item (t ∷ ts) is = omega arith

-- where a look is named, another page does no harm to a list without a claim at its head
looked_on : (trace : Trace) (set : Setting) (i : ℕ) (w : Whose) (found : Found) (flushers more : List Flusher) (ts : List Todo) (r : CpuRecord)
    → (1 ≤ length ts → IsTurnOf trace i w)
    → ((f : ℕ) → flusher_cpu trace f ≡ i → get_or more f no_flusher ≡ get_or flushers f no_flusher)
    → Looked set (page_of w flushers) found ts r → Looked set (page_of w more) found ts r
looked_on trace set i w found flushers more [] r turn same h = tt
looked_on trace set i (whose.Task task) found flushers more (t ∷ ts) r turn same h = h
looked_on trace set i (whose.Flusher f) found flushers more (t ∷ ts) r turn same h =
    subst (λ (p : ℕ). Looked set p found (t ∷ ts) r) (ap (λ (x : Flusher). page_in x.phase) (sym (same f (turn (omega arith)).cpu_is))) h

batched_on : (trace : Trace) (i : ℕ) (flushers more : List Flusher) (p : ℕ)
    → ((f : ℕ) → flusher_cpu trace f ≡ i → get_or more f no_flusher ≡ get_or flushers f no_flusher)
    → batched trace i more p ≡ batched trace i flushers p
batched_on trace i flushers more p same = total_same (length trace.flushers) (batch_on trace i more p) (batch_on trace i flushers p)
    (λ f less. ⊎_elim
    (λ yes. ap (λ (x : Flusher). cond (eqb (flusher_cpu trace f) i) (times_in p x.batch) 0) (same f (eqb-true (flusher_cpu trace f) i yes)))
    (λ no. cond-false (eqb (flusher_cpu trace f) i) _ 0 no ∙ sym (cond-false (eqb (flusher_cpu trace f) i) _ 0 no))
    (cases_Bool (eqb (flusher_cpu trace f) i)))

module _ (trace : Trace) (setting : Setting) (suits : Suits trace setting) where
  -- A CPU that makes no move follows as before.
  pub stays : (i : ℕ) (c : Cpu) (tasks more_tasks : List ReplayTask) (flushers more_flushers : List Flusher) (r : CpuRecord) (own : Counter → ℤ)
      → IsTurnOn trace i c → SameOn trace i tasks more_tasks flushers more_flushers
      → FollowsCpu trace setting i c tasks flushers r own → FollowsCpu trace setting i c more_tasks more_flushers r own
  stays i c tasks more_tasks flushers more_flushers r own turn same h = record {
    own_is = h.own_is;
    events = h.events;
    folds = h.folds;
    founds = h.founds;
    readings = h.readings;
    triples = h.triples;
    debts = h.debts;
    tidy = h.tidy;
    looked = looked_on trace setting i c.turn.whose c.turn.found flushers more_flushers c.todo r turn same.same_flushers h.looked;
    scanning = λ f on closing. subst (λ (x : Flusher). ScansInside trace x.phase) (sym (same.same_flushers f on.cpu_is)) (h.scanning f on closing);
    held = λ p. h.held p ∙ sym (batched_on trace i flushers more_flushers p same.same_flushers);
    paced = h.paced;
    left = λ w less seat no.
        let e = same.same_tasks (writer_at trace w).task (sym (suits.seat w) ∙ seat) in
        h.left w less seat (ap (λ (t : ReplayTask). (writer_in (writer_at trace w).context t).due) (sym e) ∙ no)
        ∙ ap (λ (t : ReplayTask). (writer_in (writer_at trace w).context t).left) (sym e);
    checked = λ k on due.
        let e = same.same_tasks k on.cpu_is in
        subst (λ (t : ReplayTask). is_writer k t.context (writers_in trace) ≡ true) (sym e)
        (h.checked k on (ap (λ (t : ReplayTask). (writer_of t).due) (sym e) ∙ due));
    check = λ k is decides.
        let on : IsTurnOf trace i (whose.Task k) = subst (IsTurnOf trace i) is (turn (some_item c.todo decides)) in
        subst (λ (t : ReplayTask). InCheck trace setting k t.context c r) (sym (same.same_tasks k on.cpu_is)) (h.check k is decides);
  }

  -- the CPU i becomes c, its record r
  pub record OneCpu (i : ℕ) (c : Cpu) (r : CpuRecord) (s : State) (t : throttle.State) (s2 : State) (t2 : throttle.State) : Type 0 where
    pub cpus : s2.cpus ≡ set s.cpus i c
    pub record_is : sums.ChangesAt i r t.cpu t2.cpu
    pub owns : (j : ℕ) (x : Counter) → j ≢ i → t2.own x j ≡ t.own x j
    pub others : (j : ℕ) → j ≢ i → SameOn trace j s.tasks s2.tasks s.flushers s2.flushers
    pub here : FollowsCpu trace setting i c s2.tasks s2.flushers r (λ x. t2.own x i)
    pub book : t2.book ≡ s2.book
    pub marks : (n : ℕ) → n < length trace.inodes → t2.marked n ≡ get_or s2.marks n false
    pub versions : (x : Counter) → length (t2.folds x) ≡ (count_in x s2.domains s2.contexts).version
    pub values : (x : Counter) → sum_of (t2.folds x) ≡ (count_in x s2.domains s2.contexts).value
    pub published : (d : ℕ) → d < domains trace → t2.published d ≡ (domain_of d s2).limits
    pub peak : (d : ℕ) → d < domains trace → ◌≡◌ {A = ℕ × ℕ} (t2.peak d, sequence_of t2.timer d) (heights_of (domain_of d s2))
    pub timer : s2.timer ≡ s.timer
    pub timer_record : t2.timer ≡ t.timer

  module _ (i : ℕ) (c : Cpu) (r : CpuRecord) (s s2 : State) (t t2 : throttle.State) where
    cpu_elsewhere : (j : ℕ) → j ≢ i → IsTurnOn trace j (cpu_of j s) → OneCpu i c r s t s2 t2
        → FollowsCpu trace setting j (cpu_of j s) s.tasks s.flushers (t.cpu j) (λ x. t.own x j)
        → FollowsCpu trace setting j (cpu_of j s2) s2.tasks s2.flushers (t2.cpu j) (λ x. t2.own x j)
    cpu_elsewhere j other turn one h =
        let cpu_same : cpu_of j s2 ≡ cpu_of j s = ap (λ (cs : List Cpu). get_or cs j no_cpu) one.cpus ∙ get_or-set_other s.cpus i j c no_cpu other in
        let k = stays j (cpu_of j s) s.tasks s2.tasks s.flushers s2.flushers (t.cpu j) (λ x. t.own x j) turn (one.others j other) h in
        let moved = subst (λ (d : Cpu). FollowsCpu trace setting j d s2.tasks s2.flushers (t2.cpu j) (λ x. t.own x j)) (sym cpu_same)
        (subst (λ (q : CpuRecord). FollowsCpu trace setting j (cpu_of j s) s2.tasks s2.flushers q (λ x. t.own x j)) (sym (one.record_is.others j other)) k) in
        record {
          own_is = λ x. one.owns j x other ∙ moved.own_is x;
          events = moved.events;
          folds = moved.folds;
          founds = moved.founds;
          readings = moved.readings;
          triples = moved.triples;
          debts = moved.debts;
          tidy = moved.tidy;
          looked = moved.looked;
          scanning = moved.scanning;
          held = moved.held;
          paced = moved.paced;
          left = moved.left;
          checked = moved.checked;
          check = moved.check;
        }

    cpu_here : i < length s.cpus → OneCpu i c r s t s2 t2
        → FollowsCpu trace setting i (cpu_of i s2) s2.tasks s2.flushers (t2.cpu i) (λ x. t2.own x i)
    cpu_here there one =
        subst (λ (d : Cpu). FollowsCpu trace setting i d s2.tasks s2.flushers (t2.cpu i) (λ x. t2.own x i))
        (sym (ap (λ (cs : List Cpu). get_or cs i no_cpu) one.cpus ∙ get_or-set_same s.cpus i c no_cpu there))
        (subst (λ (q : CpuRecord). FollowsCpu trace setting i c s2.tasks s2.flushers q (λ x. t2.own x i)) (sym one.record_is.here) one.here)

    pub one_cpu : i < length s.cpus → ((j : ℕ) → j < trace.cpus → IsTurnOn trace j (cpu_of j s)) → Follows trace setting s t
        → OneCpu i c r s t s2 t2 → Follows trace setting s2 t2
    one_cpu there turns h one = record {
      book = one.book;
      marks = one.marks;
      versions = one.versions;
      values = one.values;
      published = one.published;
      peak = one.peak;
      cpu = λ j less. dite (ℕ_discrete j i)
          (λ e. subst (λ (k : ℕ). FollowsCpu trace setting k (cpu_of k s2) s2.tasks s2.flushers (t2.cpu k) (λ x. t2.own x k)) (sym e) (cpu_here there one))
          (λ n. cpu_elsewhere j n (turns j less) one (h.cpu j less));
      raises = subst (λ (q : Timer). RaisesFirst q.todo) (sym one.timer) h.raises;
      raised = subst (λ (q : Timer). HasRaised q.todo q.limits.hard t2.timer.raised) (sym one.timer)
          (subst (λ (q : TimerRecord). HasRaised s.timer.todo s.timer.limits.hard q.raised) (sym one.timer_record) h.raised);
      stages = λ d. ap (λ (q : TimerRecord). stage_of d q.drafts) one.timer_record ∙ h.stages d
          ∙ ap (λ (q : Timer). stage_in d q.todo q.limits) (sym one.timer);
      lines = subst (λ (q : Timer). LinesArePublished trace q.entries t2.timer.published) (sym one.timer)
          (subst (λ (q : TimerRecord). LinesArePublished trace s.timer.entries q.published) (sym one.timer_record) h.lines);
    }
