-- What a journal's law reads of a run's state, and moves that leave it as it is.
use Rattle.std.proofs.Common.{◌≡◌, ℕ, Bool, true, false, ◌||◌, List, [], ◌∷◌, ◌++◌, length, get_or, refl, sym, ◌∙◌, ap, subst, true≢false, ⊎_elim, is_some}
use Rattle.std.specs.List.{list_any}
use Rattle.std.proofs.Math.ListN.{set}
use Rattle.std.proofs.lemmas.Bool.{cases_lt, or_right}
use Rattle.std.proofs.lemmas.List.{append-nil, get_or-set_same, get_or-set_other, length-set, set_past}
use Rattle.std.proofs.lemmas.List.Folds.{list_any-append}
use mathlib.Core.Logic.{dite}
use native.Mathlib.Decide.{ℕ_discrete}
use Rattle.wbt_replay_order.proofs.Common.{Half, Estimate, ToldPhase, ToldFlusher, scanning, emptied, Told, CheckEntry, Entry, EstEntry, Writer, State, no_cpu, no_domain, no_context, no_task, no_flusher, cpu_of, with_cpu, domain_of, with_domain, writeback_of, with_writeback, task_of, with_task, flusher_of, with_flusher, Cpu, Domain, Flusher, ReplayPhase, ReplayTask, Writeback, Todo, is_end, pairs_in}
use Rattle.wbt_replay_moves.specs.declared.state.ReplayPhase.TheVariants as phase
use Rattle.wbt_replay_moves.specs.declared.todo.Silent.TheVariants as silent
use Rattle.wbt_replay_moves.specs.declared.todo.Step.TheVariants as step
use Rattle.wbt_replay_moves.specs.declared.todo.Todo.TheVariants as todo
use Rattle.wbt_replay_order.proofs.Growth.Afresh.{told_in}
use Rattle.wbt_replay_order.proofs.Growth.Quiet.{same_at}
use Rattle.wbt_replay_order.proofs.Lists.Todos.{any_left}
use Rattle.wbt_replay_order.proofs.Written.Same.{to_write}
use Rattle.wbt_expiry.specs.declared.due.Due.{Due}

-- ---- what is read

-- a CPU's part of the journal, and what it tells
abbrev pub log_of : (c : Cpu) → List Entry × List CheckEntry × List EstEntry
log_of c = (c.entries, c.checks, c.estimates)

abbrev pub told_of : (c : Cpu) → List Told
told_of c = told_in c.checks c.estimates c.entries

pub told_same : (c d : Cpu) → log_of c ≡ log_of d → told_of c ≡ told_of d
told_same c d same = ap (λ (q : List Entry × List CheckEntry × List EstEntry). told_in q.1 q.2 q.0) same

-- what the journal tells of where a flusher is
abbrev pub phase_at : (batch : List ℕ) (p : ReplayPhase) → ToldPhase
phase_at batch (phase.Idle until kept) = scanning []
phase_at batch (phase.Taken inode) = scanning []
phase_at batch (phase.Scanning scan) = scanning batch
phase_at batch (phase.Flying inode pages until) = emptied batch
phase_at batch phase.Finished = scanning []

abbrev pub told_phase : (f : Flusher) → ToldPhase
told_phase f = phase_at f.batch f.phase

-- whether a flusher has a list, and what waits in it
abbrev pub listed_of : (f : Flusher) → Bool × List Due
listed_of f = (is_some f.wheel, pairs_in f)

-- its disk has never failed
abbrev pub unfailed : (p : ToldPhase) → ToldFlusher
unfailed p = record { phase = p; faults = 0 }

abbrev pub told_flusher : (f : Flusher) → ToldFlusher
told_flusher f = unfailed (told_phase f)

-- the proportions and the estimate of a context
abbrev pub noted_of : (w : Writeback) → Half × Half × Estimate
noted_of w = (w.part, w.cgroup_part, w.estimate)

-- what a task still writes, its writers, the context of its last page, and whether it has ended
abbrev pub task_view : (t : ReplayTask) → List ℕ × List Writer × ℕ × Bool
task_view t = (to_write t, t.writers, t.context, t.ended)

-- ---- what a turn still does

-- It writes a page, or decides a check.
abbrev pub is_told : (t : Todo) → Bool
is_told (todo.Step step.Dirty) = true
is_told (todo.Step item) = false
is_told (todo.Silent silent.Decide) = true
is_told (todo.Silent item) = false

-- After each such item the task may end.
abbrev pub EndsLater : (todos : List Todo) → Type 0
EndsLater [] = Unit {0}
EndsLater (t ∷ more) = (is_told t ≡ true → list_any is_end more ≡ true) × EndsLater more

-- The turn is the same one, and its task may still end.
pub record GoesOn (c d : Cpu) : Type 0 where
  pub whose : d.turn.whose ≡ c.turn.whose
  pub ends : list_any is_end c.todo ≡ true → list_any is_end d.todo ≡ true
  pub later : EndsLater c.todo → EndsLater d.todo

-- ---- the same in all of it

pub record SameIn (cpus cpus' : List Cpu) (flushers flushers' : List Flusher) (domains domains' : List Domain) (contexts contexts' : List Writeback)
    (tasks tasks' : List ReplayTask) : Type 0 where
  pub seats : length cpus' ≡ length cpus
  pub parts : (i : ℕ) → log_of (get_or cpus' i no_cpu) ≡ log_of (get_or cpus i no_cpu)
  pub locals : (i : ℕ) → (get_or cpus' i no_cpu).local ≡ (get_or cpus i no_cpu).local
  pub turns : (i : ℕ) → GoesOn (get_or cpus i no_cpu) (get_or cpus' i no_cpu)
  pub phases : (f : ℕ) → told_phase (get_or flushers' f no_flusher) ≡ told_phase (get_or flushers f no_flusher)
  pub listed : (f : ℕ) → listed_of (get_or flushers' f no_flusher) ≡ listed_of (get_or flushers f no_flusher)
  pub measured : (f : ℕ) → (get_or flushers' f no_flusher).measures ≡ (get_or flushers f no_flusher).measures
  pub many : length domains' ≡ length domains
  pub events : (d : ℕ) → (get_or domains' d no_domain).events ≡ (get_or domains d no_domain).events
  pub places : length contexts' ≡ length contexts
  pub noted : (k : ℕ) → noted_of (get_or contexts' k no_context) ≡ noted_of (get_or contexts k no_context)
  pub tasks_are : (t : ℕ) → task_view (get_or tasks' t no_task) ≡ task_view (get_or tasks t no_task)

abbrev pub Same : (s u : State) → Type 0
Same s u = SameIn s.cpus u.cpus s.flushers u.flushers s.domains u.domains s.contexts u.contexts s.tasks u.tasks

-- and the timer, the published limits, and after how many fresh writes a check is due
abbrev pub Hidden : (s u : State) → Type 0
Hidden s u = Same s u × (u.timer ≡ s.timer) × ((d : ℕ) → (get_or u.domains d no_domain).limits ≡ (get_or s.domains d no_domain).limits) × (u.ratelimit_pages ≡ s.ratelimit_pages)

-- ---- a turn goes on

pub same_turn : (c d : Cpu) → d.turn.whose ≡ c.turn.whose → d.todo ≡ c.todo → GoesOn c d
same_turn c d whose list = record {
  whose = whose;
  ends = λ has. ap (list_any is_end) list ∙ has;
  later = λ h. subst EndsLater (sym list) h;
}

pub then_turn : (c d e : Cpu) → GoesOn c d → GoesOn d e → GoesOn c e
then_turn c d e h k = record { whose = k.whose ∙ h.whose; ends = λ has. k.ends (h.ends has); later = λ is. k.later (h.later is) }

-- these items neither write nor decide
abbrev pub AreUntold : (items : List Todo) → Type 0
AreUntold [] = Unit {0}
AreUntold (t ∷ more) = (is_told t ≡ false) × AreUntold more

untold_first : (items more : List Todo) → AreUntold items → EndsLater more → EndsLater (items ++ more)
untold_first [] more none h = h
untold_first (t ∷ items) more none h = (λ is. absurd (true≢false (sym is ∙ none.0)), untold_first items more none.1 h)

untold_last : (todos items : List Todo) → AreUntold items → EndsLater todos → EndsLater (todos ++ items)
untold_last [] items none h = subst EndsLater (append-nil items) (untold_first items [] none tt)
untold_last (t ∷ todos) items none h = (λ is. any_left is_end todos items (h.0 is), untold_last todos items none h.1)

-- items come first, or last
pub push_turn : (items : List Todo) (c d : Cpu) → ((more : List Todo) → EndsLater more → EndsLater (items ++ more)) → d.turn.whose ≡ c.turn.whose → d.todo ≡ items ++ c.todo → GoesOn c d
push_turn items c d keeps whose list = record {
  whose = whose;
  ends = λ has. ap (list_any is_end) list ∙ list_any-append is_end items c.todo ∙ or_right (list_any is_end items) (list_any is_end c.todo) has;
  later = λ h. subst EndsLater (sym list) (keeps c.todo h);
}

pub untold_turn : (items : List Todo) (c d : Cpu) → AreUntold items → d.turn.whose ≡ c.turn.whose → d.todo ≡ items ++ c.todo → GoesOn c d
untold_turn items c d none whose list = push_turn items c d (λ more h. untold_first items more none h) whose list

pub last_turn : (items : List Todo) (c d : Cpu) → AreUntold items → d.turn.whose ≡ c.turn.whose → d.todo ≡ c.todo ++ items → GoesOn c d
last_turn items c d none whose list = record {
  whose = whose;
  ends = λ has. ap (list_any is_end) list ∙ any_left is_end c.todo items has;
  later = λ h. subst EndsLater (sym list) (untold_last c.todo items none h);
}

-- its first item is taken, which isn't the end
pub pop_turn : (t : Todo) (more : List Todo) (c d : Cpu) → c.todo ≡ t ∷ more → is_end t ≡ false → d.turn.whose ≡ c.turn.whose → d.todo ≡ more → GoesOn c d
pop_turn t more c d first going whose list = record {
  whose = whose;
  ends = λ has. ap (list_any is_end) list ∙ sym (ap (λ (b : Bool). b || list_any is_end more) going) ∙ sym (ap (list_any is_end) first) ∙ has;
  later = λ h. subst EndsLater (sym list) (subst EndsLater first h).1;
}

turn_at : (xs : List Cpu) (cpu : ℕ) (c : Cpu) → GoesOn (get_or xs cpu no_cpu) c → (i : ℕ) → GoesOn (get_or xs i no_cpu) (get_or (set xs cpu c) i no_cpu)
turn_at xs cpu c h i = dite (ℕ_discrete i cpu)
    (λ here. ⊎_elim
    (λ less. subst (λ (n : ℕ). GoesOn (get_or xs n no_cpu) (get_or (set xs cpu c) n no_cpu)) (sym here)
    (subst (GoesOn (get_or xs cpu no_cpu)) (sym (get_or-set_same xs cpu c no_cpu less)) h))
    (λ past. subst (λ (l : List Cpu). GoesOn (get_or xs i no_cpu) (get_or l i no_cpu)) (sym (set_past xs cpu c past)) (same_turn (get_or xs i no_cpu) (get_or xs i no_cpu) refl refl))
    (cases_lt cpu (length xs)))
    (λ apart. subst (GoesOn (get_or xs i no_cpu)) (sym (get_or-set_other xs cpu i c no_cpu apart)) (same_turn (get_or xs i no_cpu) (get_or xs i no_cpu) refl refl))

pub same_still : (s : State) → Same s s
same_still s = record { seats = refl; parts = λ i. refl; locals = λ i. refl; turns = λ i. same_turn (get_or s.cpus i no_cpu) (get_or s.cpus i no_cpu) refl refl; phases = λ f. refl; listed = λ f. refl; measured = λ f. refl; many = refl; events = λ d. refl; places = refl; noted = λ k. refl; tasks_are = λ t. refl }

pub same_then : (s u v : State) → Same s u → Same u v → Same s v
same_then s u v h k = record {
  seats = k.seats ∙ h.seats;
  parts = λ i. k.parts i ∙ h.parts i;
  locals = λ i. k.locals i ∙ h.locals i;
  turns = λ i. then_turn (get_or s.cpus i no_cpu) (get_or u.cpus i no_cpu) (get_or v.cpus i no_cpu) (h.turns i) (k.turns i);
  phases = λ f. k.phases f ∙ h.phases f;
  listed = λ f. k.listed f ∙ h.listed f;
  measured = λ f. k.measured f ∙ h.measured f;
  many = k.many ∙ h.many;
  events = λ d. k.events d ∙ h.events d;
  places = k.places ∙ h.places;
  noted = λ n. k.noted n ∙ h.noted n;
  tasks_are = λ t. k.tasks_are t ∙ h.tasks_are t;
}

pub still : (s : State) → Hidden s s
still s = (same_still s, refl, λ d. refl, refl)

pub then_still : (s u v : State) → Hidden s u → Hidden u v → Hidden s v
then_still s u v h k = (same_then s u v h.0 k.0, k.1 ∙ h.1, λ d. k.2 d ∙ h.2 d, k.3 ∙ h.3)

pub hide_cpu : (cpu : ℕ) (c : Cpu) (s : State) → log_of c ≡ log_of (cpu_of cpu s) → c.local ≡ (cpu_of cpu s).local → GoesOn (cpu_of cpu s) c → Hidden s (with_cpu cpu c s)
hide_cpu cpu c s told local turn = (
  record {
    seats = length-set s.cpus cpu c;
    parts = same_at log_of s.cpus cpu c no_cpu told;
    locals = same_at (λ (x : Cpu). x.local) s.cpus cpu c no_cpu local;
    turns = turn_at s.cpus cpu c turn;
    phases = λ f. refl;
    listed = λ f. refl;
    measured = λ f. refl;
    many = refl;
    events = λ d. refl;
    places = refl;
    noted = λ k. refl;
    tasks_are = λ t. refl;
  },
  refl,
  λ d. refl,
  refl,
)

pub hide_flusher : (f : ℕ) (v : Flusher) (s : State) → told_phase v ≡ told_phase (flusher_of f s) → listed_of v ≡ listed_of (flusher_of f s) → v.measures ≡ (flusher_of f s).measures → Hidden s (with_flusher f v s)
hide_flusher f v s same lists measures = (
  record {
    seats = refl;
    parts = λ i. refl;
    locals = λ i. refl;
    turns = λ i. same_turn (get_or s.cpus i no_cpu) (get_or s.cpus i no_cpu) refl refl;
    phases = same_at told_phase s.flushers f v no_flusher same;
    listed = same_at listed_of s.flushers f v no_flusher lists;
    measured = same_at (λ (x : Flusher). x.measures) s.flushers f v no_flusher measures;
    many = refl;
    events = λ d. refl;
    places = refl;
    noted = λ k. refl;
    tasks_are = λ t. refl;
  },
  refl,
  λ d. refl,
  refl,
)

pub hide_domain : (d : ℕ) (v : Domain) (s : State) → v.events ≡ (domain_of d s).events → v.limits ≡ (domain_of d s).limits → Hidden s (with_domain d v s)
hide_domain d v s events limits = (
  record {
    seats = refl;
    parts = λ i. refl;
    locals = λ i. refl;
    turns = λ i. same_turn (get_or s.cpus i no_cpu) (get_or s.cpus i no_cpu) refl refl;
    phases = λ f. refl;
    listed = λ f. refl;
    measured = λ f. refl;
    many = length-set s.domains d v;
    events = same_at (λ (x : Domain). x.events) s.domains d v no_domain events;
    places = refl;
    noted = λ k. refl;
    tasks_are = λ t. refl;
  },
  refl,
  same_at (λ (x : Domain). x.limits) s.domains d v no_domain limits,
  refl,
)

pub hide_context : (k : ℕ) (w : Writeback) (s : State) → noted_of w ≡ noted_of (writeback_of k s) → Hidden s (with_writeback k w s)
hide_context k w s same = (
  record {
    seats = refl;
    parts = λ i. refl;
    locals = λ i. refl;
    turns = λ i. same_turn (get_or s.cpus i no_cpu) (get_or s.cpus i no_cpu) refl refl;
    phases = λ f. refl;
    listed = λ f. refl;
    measured = λ f. refl;
    many = refl;
    events = λ d. refl;
    places = length-set s.contexts k w;
    noted = same_at noted_of s.contexts k w no_context same;
    tasks_are = λ t. refl;
  },
  refl,
  λ d. refl,
  refl,
)

pub hide_task : (t : ℕ) (v : ReplayTask) (s : State) → task_view v ≡ task_view (task_of t s) → Hidden s (with_task t v s)
hide_task t v s same = (
  record {
    seats = refl;
    parts = λ i. refl;
    locals = λ i. refl;
    turns = λ i. same_turn (get_or s.cpus i no_cpu) (get_or s.cpus i no_cpu) refl refl;
    phases = λ f. refl;
    listed = λ f. refl;
    measured = λ f. refl;
    many = refl;
    events = λ d. refl;
    places = refl;
    noted = λ k. refl;
    tasks_are = same_at task_view s.tasks t v no_task same;
  },
  refl,
  λ d. refl,
  refl,
)
