-- Moves by which counts, limits and peaks stay: those of one CPU, and of these the silent ones.
use Rattle.std.proofs.Common.{◌≡◌, ◌≢◌, ℕ, ◌+◌, ◌<◌, ◌≤◌, Bool, true, false, ℤ, List, [], ◌∷◌, length, get_or, refl, sym, ◌∙◌, ap, subst, arith}
use Rattle.std.proofs.Math.ListN.{set}
use Rattle.std.proofs.lemmas.Bool.{or_right}
use Rattle.std.proofs.lemmas.List.{get_or-set_same, get_or-set_other}
use Rattle.std.specs.List.{list_any}
use mathlib.Core.Logic.{dite}
use native.Mathlib.Decide.{ℕ_discrete}
use Rattle.wbt_replay_order.proofs.Common.{Trace, is_writer, Count, Counter, Fold, sum_of, Book, Limits, Setting, CpuRecord, TimerRecord, writer_in, writer_of, State, no_task, no_flusher, no_domain, cpu_of, domain_of, Cpu, Domain, Flusher, ReplayTask, Timer, Writeback, Todo, new_writer, Writer, events_told, folds_told, founds_told, readings_told, AreAmong, is_decide, writers_in, writer_at, IsTaskOn, IsFlusherOn, Suits, Tidy, Looked, AreLoads, InCheck, debts_in, resumes, is_closing, ScansInside, batched, own_in, count_in, FollowsCpu, Follows, Moves, silently, Found, Held, sequence_of, heights_of, HasTriples, CheckEntry}
use Rattle.wbt_counter.specs.History.{History}
use Rattle.wbt_counter.specs.Sums as sums
use Rattle.wbt_grant.specs.State as throttle
use Rattle.wbt_grant.specs.State.{writer_in as record_of}
use Rattle.wbt_replay_moves.specs.declared.state.Whose.TheVariants as whose
use Rattle.wbt_replay_moves.specs.declared.todo.Step.TheVariants as item
use Rattle.wbt_replay_moves.specs.declared.todo.Todo.TheVariants as todo
use Rattle.wbt_task.specs.declared.allowance.Due.TheVariants as due
use Rattle.wbt_replay_order.specs.Kept.Following.{page_of}
use Rattle.wbt_replay_order.proofs.Frames.Others.{IsTurnOn, SameOn, one_cpu, popped, stepping}

-- ---- what is shared stays

pub record SameShared (s s2 : State) : Type 0 where
  pub same_book : s2.book ≡ s.book
  pub counts : (x : Counter) → count_in x s2.domains s2.contexts ≡ count_in x s.domains s.contexts
  pub same_limits : (d : ℕ) → (domain_of d s2).limits ≡ (domain_of d s).limits
  pub peaks : (d : ℕ) → heights_of (domain_of d s2) ≡ heights_of (domain_of d s)
  pub same_timer : s2.timer ≡ s.timer

abbrev pub besides : (s : State) → Book × List Domain × List Writeback × Timer
besides s = (s.book, s.domains, s.contexts, s.timer)

pub same_shared : (s s2 : State) → besides s2 ≡ besides s → SameShared s s2
same_shared s s2 same = record {
  same_book = ap (λ k. k.0) same;
  counts = λ x. ap (λ k. count_in x k.1 k.2) same;
  same_limits = λ d. ap (λ k. (get_or k.1 d no_domain).limits) same;
  peaks = λ d. ap (λ k. heights_of (get_or k.1 d no_domain)) same;
  same_timer = ap (λ k. k.3) same;
}

-- what of the relation's state no CPU has to itself, but for the marks
abbrev pub shared_of : (t : throttle.State) → Book × (Counter → History) × (ℕ → Limits) × (ℕ → ℕ) × TimerRecord
shared_of t = (t.book, t.folds, t.published, t.peak, t.timer)

module _ (trace : Trace) (setting : Setting) (suits : Suits trace setting) (i : ℕ) (c : Cpu) (r : CpuRecord) (s : State) (t : throttle.State) (s2 : State)
    (t2 : throttle.State) (there : i < length s.cpus) (turns : (j : ℕ) → j < trace.cpus → IsTurnOn trace j (cpu_of j s)) (h : Follows trace setting s t) where
  -- The CPU i becomes c, its record r, and marks may change.
  pub plainly : s2.cpus ≡ set s.cpus i c → SameShared s s2 → shared_of t2 ≡ shared_of t → sums.ChangesAt i r t.cpu t2.cpu
      → ((j : ℕ) (x : Counter) → j ≢ i → t2.own x j ≡ t.own x j) → ((j : ℕ) → j ≢ i → SameOn trace j s.tasks s2.tasks s.flushers s2.flushers)
      → ((n : ℕ) → n < length trace.inodes → t2.marked n ≡ get_or s2.marks n false)
      → FollowsCpu trace setting i c s2.tasks s2.flushers r (λ x. t2.own x i) → Follows trace setting s2 t2
  plainly cpus same alike record_is owns others marks here = one_cpu trace setting suits i c r s s2 t t2 there turns h (record {
    cpus = cpus;
    record_is = record_is;
    owns = owns;
    others = others;
    here = here;
    book = ap (λ k. k.0) alike ∙ (h.book ∙ sym same.same_book);
    marks = marks;
    versions = λ x. ap (λ k. length (k.1 x)) alike ∙ (h.versions x ∙ ap (λ (q : Count). q.version) (sym (same.counts x)));
    values = λ x. ap (λ k. sum_of (k.1 x)) alike ∙ (h.values x ∙ ap (λ (q : Count). q.value) (sym (same.counts x)));
    published = λ d less. ap (λ k. k.2 d) alike ∙ (h.published d less ∙ sym (same.same_limits d));
    peak = λ d less. ap (λ k. (k.3 d, sequence_of k.4 d)) alike ∙ (h.peak d less ∙ sym (same.peaks d));
    timer = same.same_timer;
    timer_record = ap (λ k. k.4) alike;
  })

-- The CPU i becomes c, and nothing else that is followed changes.
pub quietly : (trace : Trace) (setting : Setting) → Suits trace setting → (i : ℕ) (c : Cpu) (s : State) (t : throttle.State) (s2 : State)
    → i < length s.cpus → ((j : ℕ) → j < trace.cpus → IsTurnOn trace j (cpu_of j s)) → Follows trace setting s t
    → s2.cpus ≡ set s.cpus i c → SameShared s s2 → s2.marks ≡ s.marks → s2.steps ≡ s.steps
    → ((j : ℕ) → j ≢ i → SameOn trace j s.tasks s2.tasks s.flushers s2.flushers)
    → FollowsCpu trace setting i c s2.tasks s2.flushers (t.cpu i) (λ x. t.own x i) → Moves trace setting s.steps s2 t
quietly trace setting suits i c s t s2 there turns h cpus same marks steps others here =
    silently steps (plainly trace setting suits i c (t.cpu i) s t s2 t there turns h cpus same refl
    (record { here = refl; others = λ j n. refl }) (λ j x n. refl) others
    (λ n less. h.marks n less ∙ ap (λ (l : List Bool). get_or l n false) (sym marks)) here)

-- all tasks and flushers are the same
pub all_same : (trace : Trace) (i : ℕ) (tasks : List ReplayTask) (flushers : List Flusher) → SameOn trace i tasks tasks flushers flushers
all_same trace i tasks flushers = record { same_tasks = λ k on. refl; same_flushers = λ f on. refl }

-- ---- a CPU that goes on

-- Before an item that is no part of a check none is under way.
pub no_check : (trace : Trace) (setting : Setting) (i : ℕ) (c : Cpu) (tasks : List ReplayTask) (flushers : List Flusher) (r : CpuRecord) (own : Counter → ℤ)
    → FollowsCpu trace setting i c tasks flushers r own → (x : Todo) (ts : List Todo) → c.todo ≡ x ∷ ts → ((k g : ℕ) → AreLoads k g (x ∷ ts) → ⊥)
    → (task : ℕ) → c.turn.whose ≡ whose.Task task → list_any is_decide ts ≡ true → ⊥
no_check trace setting i c tasks flushers r own h x ts is none task turn decides =
    let loads = (h.check task turn (ap (list_any is_decide) is ∙ or_right (is_decide x) (list_any is_decide ts) decides)).loads in
    none _ _ (subst (AreLoads _ _) is loads)

-- the writers of all tasks are the same, and the contexts of their last pages
abbrev pub SameWriters : (tasks more : List ReplayTask) → Type 0
SameWriters tasks more = (k : ℕ) → ◌≡◌ {A = List Writer × ℕ} ((get_or more k no_task).writers, (get_or more k no_task).context) ((get_or tasks k no_task).writers, (get_or tasks k no_task).context)

module _ (trace : Trace) (setting : Setting) (i : ℕ) (c : Cpu) (tasks more_tasks : List ReplayTask) (flushers : List Flusher) (r : CpuRecord) (own : Counter → ℤ)
    (h : FollowsCpu trace setting i c tasks flushers r own) (writers : SameWriters tasks more_tasks) where
  pub left_stays : (w : ℕ) → w < setting.writers → setting.seat w ≡ i
      → (writer_in (writer_at trace w).context (get_or more_tasks (writer_at trace w).task no_task)).due ≡ due.No
      → (record_of setting w r.writers).left ≡ (writer_in (writer_at trace w).context (get_or more_tasks (writer_at trace w).task no_task)).left
  left_stays w less seat free =
      let e = writers (writer_at trace w).task in
      let k : ℕ = (writer_at trace w).context in
      h.left w less seat (ap (λ q. (get_or q.0 k (new_writer 0)).due) (sym e) ∙ free) ∙ ap (λ q. (get_or q.0 k (new_writer 0)).left) (sym e)

  pub checked_stays : (k : ℕ) → IsTaskOn trace i k → (writer_of (get_or more_tasks k no_task)).due ≡ due.Check
      → is_writer k (get_or more_tasks k no_task).context (writers_in trace) ≡ true
  checked_stays k on due =
      let e = writers k in
      subst (λ q. is_writer k q.1 (writers_in trace) ≡ true) (sym e)
      (h.checked k on (ap (λ q. (get_or q.0 q.1 (new_writer 0)).due) (sym e) ∙ due))

abbrev pair : (t : ReplayTask) → List Writer × ℕ
pair t = (t.writers, t.context)

-- One task keeps its writers and its context.
pub one_task : (tasks : List ReplayTask) (task : ℕ) (v : ReplayTask) → task < length tasks → v.writers ≡ (get_or tasks task no_task).writers
    → v.context ≡ (get_or tasks task no_task).context → SameWriters tasks (set tasks task v)
one_task tasks task v less writers context k = dite (ℕ_discrete k task)
    (λ e. ap (λ (n : ℕ). pair (get_or (set tasks task v) n no_task)) e ∙ (ap pair (get_or-set_same tasks task v no_task less)
    ∙ (ap (λ (l : List Writer). (l, v.context)) writers ∙ (ap (λ (n : ℕ). ((get_or tasks task no_task).writers, n)) context ∙ ap (λ (n : ℕ). pair (get_or tasks n no_task)) (sym e)))))
    (λ n. ap pair (get_or-set_other tasks task k v no_task n))

-- the folds that a CPU's part tells, and the pages that its writes found dirty
pub record TellsBoth : Type 0 where
  pub folds : List Fold
  pub founds : List ℕ

abbrev pub both_of : (folds : List Fold) (founds : List ℕ) → TellsBoth
both_of folds founds = record { folds = folds; founds = founds }

abbrev pub both_told : (c : Cpu) → TellsBoth
both_told c = both_of (folds_told [] c.entries) (founds_told [] c.entries)

-- what its part tells of checks, and the limits that it holds
abbrev pub kept_by : (c : Cpu) → List CheckEntry × List Held
kept_by c = (c.checks, c.held)

-- A CPU goes on without a step: no page changes hands, nothing of its journal is followed, and no check is under way.
pub goes_on : (trace : Trace) (setting : Setting) (i : ℕ) (c c2 : Cpu) (tasks more_tasks : List ReplayTask) (flushers more_flushers : List Flusher)
    (r : CpuRecord) (own : Counter → ℤ) → FollowsCpu trace setting i c tasks flushers r own
    → c2.own_domains ≡ c.own_domains → c2.own_contexts ≡ c.own_contexts → kept_by c2 ≡ kept_by c → c.made ≤ c2.made
    → events_told [] c2.entries ≡ events_told [] c.entries → both_told c2 ≡ both_told c
    → debts_in c2.todo ≡ debts_in c.todo → Tidy c2.todo → Looked setting (page_of c2.turn.whose more_flushers) c2.turn.found c2.todo r
    → ((f : ℕ) → IsFlusherOn trace i f → (c2.turn.whose ≡ whose.Flusher f → list_any is_closing c2.todo ≡ false) → ScansInside trace (get_or more_flushers f no_flusher).phase)
    → ((p : ℕ) → batched trace i more_flushers p ≡ batched trace i flushers p) → SameWriters tasks more_tasks
    → ((task : ℕ) → c2.turn.whose ≡ whose.Task task → list_any is_decide c2.todo ≡ true → InCheck trace setting task (get_or more_tasks task no_task).context c2 r)
    → FollowsCpu trace setting i c2 more_tasks more_flushers r own
goes_on trace setting i c c2 tasks more_tasks flushers more_flushers r own h domains contexts checks made events folds debts tidy looked scanning held writers check = record {
  own_is = λ x. h.own_is x ∙ ap (λ l. own_in x l c.own_contexts) (sym domains) ∙ ap (λ l. own_in x c2.own_domains l) (sym contexts);
  events = h.events ∙ sym events;
  folds = h.folds ∙ sym (ap (λ (b : TellsBoth). b.folds) folds);
  founds = h.founds ∙ sym (ap (λ (b : TellsBoth). b.founds) folds);
  readings = subst (λ k. AreAmong (readings_told [] k.0) r.readings) (sym checks) h.readings;
  triples = subst (λ k. HasTriples trace setting k.0 k.1 r.triples) (sym checks) h.triples;
  debts = h.debts ∙ sym debts;
  tidy = tidy;
  looked = looked;
  scanning = scanning;
  held = λ p. h.held p ∙ sym (held p);
  paced = omega (arith, h.paced, made);
  left = left_stays trace setting i c tasks more_tasks flushers r own h writers;
  checked = checked_stays trace setting i c tasks more_tasks flushers r own h writers;
  check = check;
}

-- a list in which nothing is resumed
pub calm : (set : Setting) (page : ℕ) (found : Found) (ts : List Todo) (r : CpuRecord) → resumes ts ≡ false → Looked set page found ts r
calm set page found [] r none = tt
calm set page found (todo.Step (item.Claim word) ∷ ts) r none = absurd (cc none)
calm set page found (todo.Step (item.Middle d) ∷ ts) r none = absurd (cc none)
calm set page found (todo.Step (item.Limits d) ∷ ts) r none = absurd (cc none)
calm set page found (todo.Step step ∷ ts) r none = tt
calm set page found (todo.Silent move ∷ ts) r none = tt

-- An item that isn't owed, decided or loaded is skipped.
pub skips : (trace : Trace) (setting : Setting) → Suits trace setting → (i : ℕ) (s : State) (t : throttle.State)
    → i < length s.cpus → ((j : ℕ) → j < trace.cpus → IsTurnOn trace j (cpu_of j s)) → (h : Follows trace setting s t) → i < trace.cpus
    → (x : Todo) (ts : List Todo) → (cpu_of i s).todo ≡ x ∷ ts → ((k g : ℕ) → AreLoads k g (x ∷ ts) → ⊥) → debts_in (x ∷ ts) ≡ debts_in ts
    → resumes ts ≡ false → Tidy ts → list_any is_closing ts ≡ list_any is_closing (x ∷ ts) → Moves trace setting s.steps (stepping i ts s) t
skips trace setting suits i s t there turns h less x ts is none debts claims tidy closes =
    let c1 : Cpu = record (cpu_of i s) { todo = ts; made = (cpu_of i s).made + 1 } in
    let f = h.cpu i less in
    quietly trace setting suits i c1 s t (stepping i ts s) there turns h refl (same_shared s (stepping i ts s) refl) refl refl (λ j n. all_same trace j s.tasks s.flushers)
    (goes_on trace setting i (cpu_of i s) c1 s.tasks s.tasks s.flushers s.flushers (t.cpu i) (λ y. t.own y i) f refl refl refl (omega arith) refl refl
    (sym debts ∙ ap debts_in (sym is)) tidy (calm setting _ _ ts _ claims)
    (λ g on closing. f.scanning g on (λ e. ap (list_any is_closing) is ∙ (sym closes ∙ closing e))) (λ p. refl) (λ k. refl)
    (λ n same decides. absurd (no_check trace setting i (cpu_of i s) s.tasks s.flushers (t.cpu i) (λ y. t.own y i) f x ts is none n same decides)))

-- A silent move that changes nothing else is passed.
pub passes : (trace : Trace) (setting : Setting) → Suits trace setting → (i : ℕ) (s : State) (t : throttle.State)
    → i < length s.cpus → ((j : ℕ) → j < trace.cpus → IsTurnOn trace j (cpu_of j s)) → (h : Follows trace setting s t) → i < trace.cpus
    → (x : Todo) (ts : List Todo) → (cpu_of i s).todo ≡ x ∷ ts → debts_in (x ∷ ts) ≡ debts_in ts → resumes ts ≡ false → Tidy ts
    → ((f : ℕ) → IsFlusherOn trace i f → ((cpu_of i s).turn.whose ≡ whose.Flusher f → list_any is_closing ts ≡ false) → ScansInside trace (get_or s.flushers f no_flusher).phase)
    → ((task : ℕ) → (cpu_of i s).turn.whose ≡ whose.Task task → list_any is_decide ts ≡ true → ⊥) → Moves trace setting s.steps (popped i ts s) t
passes trace setting suits i s t there turns h less x ts is debts claims tidy scanning undecided =
    let c1 : Cpu = record (cpu_of i s) { todo = ts } in
    let f = h.cpu i less in
    quietly trace setting suits i c1 s t (popped i ts s) there turns h refl (same_shared s (popped i ts s) refl) refl refl (λ j n. all_same trace j s.tasks s.flushers)
    (goes_on trace setting i (cpu_of i s) c1 s.tasks s.tasks s.flushers s.flushers (t.cpu i) (λ y. t.own y i) f refl refl refl (omega arith) refl refl
    (sym debts ∙ ap debts_in (sym is)) tidy (calm setting _ _ ts _ claims) scanning (λ p. refl) (λ k. refl)
    (λ n same decides. absurd (undecided n same decides)))
