-- A turn that a CPU begins leaves the step relation where it is.
use Rattle.std.proofs.Common.{◌≡◌, ◌≢◌, ℕ, zero, suc, ◌+◌, ◌<◌, inl, inr, Bool, true, false, cond, eqb, List, [], ◌∷◌, ◌++◌, length, get_or, All, refl, sym, ◌∙◌, ap, subst, arith, eq-eqb, Some, Option, None}
use Rattle.std.proofs.lemmas.List.Elements.{All-nil}
use Rattle.std.proofs.Math.ListN.{set}
use Rattle.std.proofs.lemmas.Bool.{or_left, or_right}
use Rattle.std.proofs.lemmas.List.{get_or-set_same, get_or-set_other, append-nil}
use Rattle.std.specs.List.{list_any}
use mathlib.Core.Logic.{dite}
use native.Mathlib.Decide.{ℕ_discrete}
use Rattle.wbt_counter.specs.declared.counter.Counter.TheVariants.{Domain}
use Rattle.wbt_replay_order.proofs.Common.{is_writer, Trace, Reading, DomainLimits, WriterRecord, Setting, Due, writer_of, do_next, do_last, then_do, at_turn, log_at, finish, take_or_finish, domain_loads, measures_of, weighs_of, begin_test, begin_idle, take_last, take_first, with_pairs, begin_phase, begin_turn, State, no_cpu, no_task, no_flusher, cpu_of, with_cpu, task_of, flusher_of, queue_of, is_drained, waiting_of, in_phase, flusher_device, group_of, check_items, begin_rest, pause_in, begin_pause, begin_page, begin_work, begin_due, Cpu, Flusher, ReplayPhase, ReplayTask, ReplayTurn, Whose, ReplayWork, Todo, reading_of, AreAmong, readings_told, is_limits_of, KeepsLoads, FoldsBehind, writers_in, IsTaskOn, IsFlusherOn, Suits, Tidy, ScansInside, OwesNothing, AreLoads, InCheck, resumes, is_closing, HoldsLoads, turn_readings, debts_in, batched, Follows, Moves, Ranges, IsTurnOf, Entry}
use Rattle.wbt_grant.specs.State as throttle
use Rattle.wbt_grant.specs.State.{writer_in as record_of}
use Rattle.wbt_task.specs.declared.allowance.Due.TheVariants as due
use Rattle.wbt_replay_moves.specs.Definition.Cpu.{turn_of}
use Rattle.wbt_replay_moves.specs.Definition.Idle.{take}
use Rattle.wbt_replay_moves.specs.Definition.Writer.{begin_check}
use Rattle.wbt_replay_moves.specs.declared.state.ReplayPhase.TheVariants as phase
use Rattle.wbt_replay_moves.specs.declared.state.Whose.TheVariants as whose
use Rattle.wbt_replay_moves.specs.declared.state.ReplayWork.TheVariants as work
use Rattle.wbt_replay_moves.specs.declared.todo.Silent.TheVariants as silent
use Rattle.wbt_replay_moves.specs.declared.todo.Step.TheVariants as item
use Rattle.wbt_replay_moves.specs.declared.todo.Todo.TheVariants as todo
use Rattle.wbt_replay_order.specs.Claims.Path.{is_count_of, is_context_count}
use Rattle.wbt_replay_order.proofs.Facts.Lists.{either, twice}
use Rattle.wbt_replay_path.proofs.Follow.Alike.{alike_moves, Alike, alike_log, alike_lists, alike_push}
use Rattle.wbt_replay_order.proofs.Frames.Others.{IsTurnOn, SameOn, same_task}
use Rattle.wbt_replay_path.proofs.Follow.Harmless.{Harmless, nothing, only_end, write_first, only_unmark, only_look, only_complete, test_items, test_is_harmless}
use Rattle.wbt_replay_path.proofs.Follow.Held.{batched_same}
use Rattle.wbt_replay_order.proofs.Lists.Places.{thrice, four_times}
use Rattle.wbt_replay_path.proofs.Follow.Pages.{flushers_elsewhere}
use Rattle.wbt_replay_order.proofs.Frames.Quiet.{SameShared, SameWriters, same_shared, all_same, one_task, calm, quietly, goes_on}
use Rattle.wbt_replay_path.proofs.Follow.Writers.{tasks_elsewhere}
use Rattle.wbt_expiry.specs.declared.due.Due.{Due as Pair}
use Rattle.wbt_journal.specs.declared.entry.Entry.TheVariants as entry

-- ---- the items of a check

pub check_loads : (k g : ℕ) → AreLoads k g (check_items k g)
check_loads k zero = (inl refl, refl, refl, (λ e some. absurd (omega arith)), (inl refl, refl, (λ e some. absurd (omega arith)), (refl, refl)))
check_loads k (suc g) =
    let here : eqb (suc g) (suc g) ≡ true = eq-eqb (suc g) (suc g) refl in
    let later : list_any (is_limits_of (suc g)) (check_items k (suc g)) ≡ true = or_right (eqb 0 (suc g)) _ (or_left (eqb (suc g) (suc g)) _ here) in
    let counted : list_any (is_count_of (suc g)) (check_items k (suc g)) ≡ true = or_right (eqb 0 (suc g)) _ (or_left (eqb (suc g) (suc g)) _ here) in (
      inl refl,
      refl,
      refl,
      (λ e some. or_left (eqb (suc g) (suc g)) _ here),
      (
        inl refl,
        refl,
        (λ e some. or_left (eqb (suc g) (suc g)) _ here),
        (
          inr (refl, omega arith),
          or_left (eqb (suc g) (suc g)) _ here,
          refl,
          (λ e some. absurd (omega (arith, e))),
          (inr (refl, omega arith), refl, (λ e some. absurd (omega (arith, e))), (refl, refl)),
        ),
      ),
    )

-- all of them are ahead
limits_ahead : (k g : ℕ) → 0 < g → list_any (is_limits_of g) (check_items k g) ≡ true
limits_ahead k zero some = absurd (omega arith)
limits_ahead k (suc g) some = or_right (eqb 0 (suc g)) _ (or_left (eqb (suc g) (suc g)) _ (eq-eqb (suc g) (suc g) refl))

counts_ahead : (k g : ℕ) → 0 < g → list_any (is_count_of g) (check_items k g) ≡ true
counts_ahead k zero some = absurd (omega arith)
counts_ahead k (suc g) some = or_right (eqb 0 (suc g)) _ (or_left (eqb (suc g) (suc g)) _ (eq-eqb (suc g) (suc g) refl))

global_limits_ahead : (k g : ℕ) → list_any (is_limits_of 0) (check_items k g) ≡ true
global_limits_ahead k zero = refl
global_limits_ahead k (suc g) = refl

global_count_ahead : (k g : ℕ) → list_any (is_count_of 0) (check_items k g) ≡ true
global_count_ahead k zero = refl
global_count_ahead k (suc g) = refl

context_ahead : (k g : ℕ) → list_any is_context_count (check_items k g) ≡ true
context_ahead k zero = refl
context_ahead k (suc g) = refl

-- so none was loaded
none_read : (k g : ℕ) (turn : ReplayTurn) (older : List Reading) → turn_readings k g turn (check_items k g) older ≡ older
none_read k zero turn older = refl
none_read k (suc g) turn older = ap (λ (b : Bool). [] ++ cond b [] (reading_of (Domain (suc g)) turn.cgroup.count ∷ []) ++ [] ++ older) (counts_ahead k (suc g) (omega arith))

none_held : (set : Setting) (k g : ℕ) (turn : ReplayTurn) (triples : List DomainLimits) → HoldsLoads set turn (check_items k g) g triples
none_held set k g turn triples = record {
  global = λ e. absurd (cc (sym e ∙ global_limits_ahead k g));
  cgroup = λ some e. absurd (cc (sym e ∙ limits_ahead k g some));
}

none_kept : (k g : ℕ) (turn : ReplayTurn) (x : WriterRecord) → KeepsLoads turn (check_items k g) g x
none_kept k g turn x = record {
  global_limits = λ e. absurd (cc (sym e ∙ global_limits_ahead k g));
  global_count = λ e. absurd (cc (sym e ∙ global_count_ahead k g));
  cgroup_limits = λ some e. absurd (cc (sym e ∙ limits_ahead k g some));
  cgroup_count = λ some e. absurd (cc (sym e ∙ counts_ahead k g some));
  context_count = λ e. absurd (cc (sym e ∙ context_ahead k g));
}

-- a check's items owe, claim and close nothing
-- the three loads of a domain's limits, before items that owe nothing
loads_tidy : (d : ℕ) (ts : List Todo) → debts_in ts ≡ [] → OwesNothing ts × Tidy ts → Tidy (todo.Step (item.First d) ∷ todo.Step (item.Middle d) ∷ todo.Step (item.Limits d) ∷ ts)
loads_tidy d ts none more = (refl, none, (refl, none, more))

check_plain : (k g : ℕ) → (debts_in (check_items k g) ≡ []) × (resumes (check_items k g) ≡ false) × (list_any is_closing (check_items k g) ≡ false) × Tidy (check_items k g)
check_plain k zero =
    let end = only_end in
    let a : OwesNothing (todo.Silent silent.End ∷ []) = record { debts = refl; claims = refl } in
    (refl, refl, refl, loads_tidy 0 _ refl (record { debts = refl; claims = refl }, (record { debts = refl; claims = refl }, (record { debts = refl; claims = refl }, (a, end.tidy)))))
check_plain k (suc g) =
    let end = only_end in
    let a : OwesNothing (todo.Silent silent.End ∷ []) = record { debts = refl; claims = refl } in (
      refl,
      refl,
      refl,
      loads_tidy 0 _ refl (
        record { debts = refl; claims = refl },
        (record { debts = refl; claims = refl }, loads_tidy (suc g) _ refl (record { debts = refl; claims = refl }, (record { debts = refl; claims = refl }, (record { debts = refl; claims = refl }, (a, end.tidy))))),
      ),
    )

-- ---- a turn

module _ (trace : Trace) (setting : Setting) (suits : Suits trace setting) (i : ℕ) (less : i < trace.cpus) (s : State) (t : throttle.State)
    (ranges : Ranges trace setting s) (h : Follows trace setting s t) (is : (cpu_of i s).todo ≡ []) (next next_task : ℕ) where
  there : i < length s.cpus
  there = omega (arith, less, ranges.cpus)

  turns : (j : ℕ) → j < trace.cpus → IsTurnOn trace j (cpu_of j s)
  turns j inside = ranges.turn_is j inside

  abbrev c0 : Cpu
  c0 = record (cpu_of i s) { next = next; next_task = next_task }

  module _ (w : Whose) where
    abbrev s1 : State
    s1 = with_cpu i (at_turn w s.now (cpu_of i (with_cpu i c0 s))) (with_cpu i c0 s)

    abbrev base : (items : List Todo) → Cpu
    base items = record c0 { turn = turn_of w s.now; todo = items }

    inside : (f : ℕ) → IsFlusherOn trace i f → ScansInside trace (flusher_of f s).phase
    inside f on = (h.cpu i less).scanning f on (λ e. ap (list_any is_closing) is)

    begins_alike : (items : List Todo) → Harmless items → (s2 : State) → Alike i (base items) s s2
        → ((j : ℕ) → j ≢ i → SameOn trace j s.tasks s2.tasks s.flushers s2.flushers) → SameWriters s.tasks s2.tasks
        → ((f : ℕ) → IsFlusherOn trace i f → ScansInside trace (get_or s2.flushers f no_flusher).phase)
        → ((p : ℕ) → batched trace i s2.flushers p ≡ batched trace i s.flushers p) → Moves trace setting s.steps s2 t
    begins_alike items plain s2 al others writers scans held =
        alike_moves trace setting suits i (base items) s t s2 there less turns h others al
        refl refl refl (omega arith) refl refl (plain.debts ∙ ap debts_in (sym is)) plain.tidy (λ p found r. calm setting p found items r plain.claims)
        (λ f on closing. scans f on) held writers (λ n turn decides. absurd (cc (sym decides ∙ plain.decides)))

    begins : (items : List Todo) → Harmless items → (s2 : State) → s2.cpus ≡ set s.cpus i (base items) → SameShared s s2 → s2.marks ≡ s.marks → s2.steps ≡ s.steps
        → ((j : ℕ) → j ≢ i → SameOn trace j s.tasks s2.tasks s.flushers s2.flushers) → SameWriters s.tasks s2.tasks
        → ((f : ℕ) → IsFlusherOn trace i f → ScansInside trace (get_or s2.flushers f no_flusher).phase)
        → ((p : ℕ) → batched trace i s2.flushers p ≡ batched trace i s.flushers p) → Moves trace setting s.steps s2 t
    begins items plain s2 cpus same marks steps others writers scans held =
        begins_alike items plain s2 (record { becomes = base items; cpus = cpus; same = refl; shared = same; marks = marks; steps = steps }) others writers scans held

    alone : (items : List Todo) → items ++ (cpu_of i s).todo ≡ items
    alone items = ap (λ (l : List Todo). items ++ l) is ∙ append-nil items

    -- with these items next, where nothing else changes
    begins_with : (items : List Todo) → Harmless items → Moves trace setting s.steps (then_do i items s1) t
    begins_with items plain =
        begins (items ++ (cpu_of i s).todo) (subst Harmless (sym (alone items)) plain) (then_do i items s1)
        (thrice (at_turn w s.now) (do_next items) s.cpus i c0 no_cpu there) (same_shared s (then_do i items s1) refl) refl refl
        (λ j n. all_same trace j s.tasks s.flushers) (λ k. refl) inside (λ p. refl)

    begins_nothing : Moves trace setting s.steps s1 t
    begins_nothing = begins (cpu_of i s).todo (subst Harmless (sym is) nothing) s1 (twice (at_turn w s.now) s.cpus i c0 no_cpu there) (same_shared s s1 refl) refl refl
        (λ j n. all_same trace j s.tasks s.flushers) (λ k. refl) inside (λ p. refl)

  -- ---- of a task

  module _ (task : ℕ) (on : IsTaskOn trace i task) where
    abbrev k : ℕ
    k = (task_of task s).context

    abbrev g : ℕ
    g = group_of trace k

    checks : (writer_of (task_of task s)).due ≡ due.Check → Moves trace setting s.steps (begin_check trace i k (s1 (whose.Task task))) t
    checks due =
        let f = h.cpu i less in
        let items : List Todo = check_items k g in
        let s2 : State = then_do i items (s1 (whose.Task task)) in
        let l : List Todo = items ++ (cpu_of i s).todo in
        let items_are : l ≡ items = alone (whose.Task task) items in
        let plain = check_plain k g in
        let writer : is_writer task k (writers_in trace) ≡ true = f.checked task on due in
        let checked : InCheck trace setting task k (base (whose.Task task) items) (t.cpu i) = record {
          writer = writer;
          loads = check_loads k g;
          readings = subst (λ (q : List Reading). AreAmong q (t.cpu i).readings) (sym (none_read k g (turn_of (whose.Task task) s.now) (readings_told [] (cpu_of i s).checks))) f.readings;
          holds = none_held setting k g (turn_of (whose.Task task) s.now) (t.cpu i).triples;
          behind = subst (λ (q : List Reading). All (FoldsBehind (t.cpu i).folds) q) (sym (none_read k g (turn_of (whose.Task task) s.now) [])) (All-nil (FoldsBehind (t.cpu i).folds));
          keeps = λ w known task_is context_is. none_kept k g (turn_of (whose.Task task) s.now) (record_of setting w (t.cpu i).writers);
        } in
        quietly trace setting suits i (base (whose.Task task) l) s t s2 there turns h
        (thrice (at_turn (whose.Task task) s.now) (do_next items) s.cpus i c0 no_cpu there) (same_shared s s2 refl) refl refl (λ j n. all_same trace j s.tasks s.flushers)
        (goes_on trace setting i (cpu_of i s) (base (whose.Task task) l) s.tasks s.tasks s.flushers s.flushers (t.cpu i) (λ x. t.own x i) f refl refl refl (omega arith) refl refl
        (ap debts_in items_are ∙ (plain.0 ∙ ap debts_in (sym is))) (subst Tidy (sym items_are) plain.3)
        (calm setting _ _ l _ (ap resumes items_are ∙ plain.1)) (λ n n_on closing. inside (whose.Task task) n n_on) (λ p. refl) (λ n. refl)
        (λ n same decides.
        subst (λ (m : ℕ). InCheck trace setting m (get_or s.tasks m no_task).context (base (whose.Task task) l) (t.cpu i)) (same_task task n same)
        (subst (λ (q : List Todo). InCheck trace setting task k (base (whose.Task task) q) (t.cpu i)) (sym items_are) checked)))

    -- it writes a page next, or rests right before it
    page_on : (pause : Option ℕ) → Moves trace setting s.steps (begin_page i task pause (s1 (whose.Task task))) t
    page_on None = begins_with (whose.Task task) (todo.Step item.Dirty ∷ todo.Silent silent.End ∷ []) write_first
    page_on (Some ticks) =
        let items : List Todo = todo.Silent silent.End ∷ [] in
        let v : ReplayTask = record (task_of task s) { since = 0; rest = s.now + ticks } in
        let s2 : State = begin_pause i task ticks (s1 (whose.Task task)) in
        begins (whose.Task task) (items ++ (cpu_of i s).todo) (subst Harmless (sym (alone (whose.Task task) items)) only_end) s2
        (thrice (at_turn (whose.Task task) s.now) (do_next items) s.cpus i c0 no_cpu there) (same_shared s s2 refl) refl refl
        (λ j other. record { same_tasks = tasks_elsewhere trace i j task s.tasks v on.cpu_is other; same_flushers = λ n at. refl })
        (one_task s.tasks task v (omega (arith, on.there, ranges.tasks)) refl refl) (inside (whose.Task task)) (λ p. refl)

    works_on : (works : List ReplayWork) → Moves trace setting s.steps (begin_work i task works (s1 (whose.Task task))) t
    works_on [] = begins_with (whose.Task task) (todo.Silent silent.End ∷ []) only_end
    works_on (work.Write inode page pages ∷ works) = page_on (pause_in (task_of task s))
    works_on (work.Rest ticks ∷ works) =
        let items : List Todo = todo.Silent silent.End ∷ [] in
        let v : ReplayTask = record (task_of task s) { works = works; rest = s.now + ticks } in
        let s2 : State = begin_rest i task ticks works (s1 (whose.Task task)) in
        begins (whose.Task task) (items ++ (cpu_of i s).todo) (subst Harmless (sym (alone (whose.Task task) items)) only_end) s2
        (thrice (at_turn (whose.Task task) s.now) (do_next items) s.cpus i c0 no_cpu there) (same_shared s s2 refl) refl refl
        (λ j other. record { same_tasks = tasks_elsewhere trace i j task s.tasks v on.cpu_is other; same_flushers = λ n at. refl })
        (one_task s.tasks task v (omega (arith, on.there, ranges.tasks)) refl refl) (inside (whose.Task task)) (λ p. refl)

    due_moves : (d : Due) → (writer_of (task_of task s)).due ≡ d → Moves trace setting s.steps (begin_due trace i task d (s1 (whose.Task task))) t
    due_moves due.Check is_due = checks is_due
    due_moves due.No is_due = works_on (task_of task s).works

  -- ---- of a flusher

  module _ (f : ℕ) (on : IsFlusherOn trace i f) where
    flusher_there : f < length s.flushers
    flusher_there = omega (arith, on.there, ranges.flushers)

    -- the flusher becomes another one with the same batch
    inside_with : (v : Flusher) → ScansInside trace v.phase → (n : ℕ) → IsFlusherOn trace i n → ScansInside trace (get_or (set s.flushers f v) n no_flusher).phase
    inside_with v here n n_on = dite (ℕ_discrete n f)
        (λ e. subst (λ (x : Flusher). ScansInside trace x.phase) (sym (ap (λ (m : ℕ). get_or (set s.flushers f v) m no_flusher) e ∙ get_or-set_same s.flushers f v no_flusher flusher_there)) here)
        (λ m. subst (λ (x : Flusher). ScansInside trace x.phase) (sym (get_or-set_other s.flushers f n v no_flusher m)) (inside (whose.Flusher f) n n_on))

    becomes : (items : List Todo) → Harmless items → (v : Flusher) → v.batch ≡ (flusher_of f s).batch → ScansInside trace v.phase → (s2 : State)
        → s2.cpus ≡ set s.cpus i (base (whose.Flusher f) items) → SameShared s s2 → s2.marks ≡ s.marks → s2.steps ≡ s.steps → s2.tasks ≡ s.tasks
        → s2.flushers ≡ set s.flushers f v → Moves trace setting s.steps s2 t
    becomes items plain v batch here s2 cpus same marks steps tasks flushers =
        begins (whose.Flusher f) items plain s2 cpus same marks steps
        (λ j other. record {
          same_tasks = λ n at. ap (λ (l : List ReplayTask). get_or l n no_task) tasks;
          same_flushers = λ n at. ap (λ (l : List Flusher). get_or l n no_flusher) flushers ∙ flushers_elsewhere trace i j f s.flushers v on.cpu_is other n at;
        })
        (λ n. ap (λ (l : List ReplayTask). ((get_or l n no_task).writers, (get_or l n no_task).context)) tasks)
        (λ n n_on. subst (λ (l : List Flusher). ScansInside trace (get_or l n no_flusher).phase) (sym flushers) (inside_with v here n n_on))
        (λ p. ap (λ (l : List Flusher). batched trace i l p) flushers ∙ batched_same trace s.flushers f v i p flusher_there batch)

    -- the first of its list is taken, which is told
    takes_first_of : (pair : Pair) (pairs : List Pair) → Moves trace setting s.steps (take_first i f pair pairs (s1 (whose.Flusher f))) t
    takes_first_of pair pairs =
        let w : Whose = whose.Flusher f in
        let n : ℕ = pair.inode in
        let e : Entry = entry.Taken f n in
        let items : List Todo = todo.Step item.Unmark ∷ [] in
        let before : List Todo = (cpu_of i s).todo in
        let left : Flusher = record (flusher_of f s) { wheel = Some (record (waiting_of f s) { pairs = pairs }) } in
        let takes : Flusher → Flusher = λ y. record y { phase = phase.Taken n } in
        let v : Flusher = takes left in
        let u : State = with_pairs f pairs (s1 w) in
        let x : State = log_at i e u in
        let y : State = in_phase f (phase.Taken n) x in
        let s2 : State = take_first i f pair pairs (s1 w) in
        let flushers : s2.flushers ≡ set s.flushers f v = twice takes s.flushers f left no_flusher flusher_there in
        let first : Alike i (base w before) s (s1 w) = record { becomes = at_turn w s.now c0; cpus = twice (at_turn w s.now) s.cpus i c0 no_cpu there; same = refl; shared = same_shared s (s1 w) refl; marks = refl; steps = refl } in
        let told : Alike i (base w before) s x = alike_log i (base w before) s there u e (record { no_event = λ older. refl; no_fold = λ older. refl; no_found = λ older. refl })
        (alike_lists i (base w before) s there (s1 w) s.queues u.flushers first) in
        begins_alike w (items ++ before) (subst Harmless (sym (alone w items)) only_unmark) s2
        (alike_push i (base w before) s there items y (alike_lists i (base w before) s there x s.queues y.flushers told))
        (λ j other. record {
          same_tasks = λ m at. refl;
          same_flushers = λ m at. ap (λ (l : List Flusher). get_or l m no_flusher) flushers ∙ flushers_elsewhere trace i j f s.flushers v on.cpu_is other m at;
        })
        (λ m. refl)
        (λ m m_on. subst (λ (l : List Flusher). ScansInside trace (get_or l m no_flusher).phase) (sym flushers) (inside_with v tt m m_on))
        (λ p. ap (λ (l : List Flusher). batched trace i l p) flushers ∙ batched_same trace s.flushers f v i p flusher_there refl)

    takes_or_finishes : (numbers : List ℕ) → Moves trace setting s.steps (take_or_finish trace i f numbers (s1 (whose.Flusher f))) t
    takes_or_finishes [] =
        let s2 : State = finish f (s1 (whose.Flusher f)) in
        becomes (cpu_of i s).todo (subst Harmless (sym is) nothing) (record (flusher_of f s) { phase = phase.Finished }) refl tt s2
        (twice (at_turn (whose.Flusher f) s.now) s.cpus i c0 no_cpu there) (same_shared s s2 refl) refl refl refl refl
    takes_or_finishes (inode ∷ inodes) =
        let items : List Todo = todo.Step item.Unmark ∷ [] in
        let s2 : State = take trace i f inode inodes (s1 (whose.Flusher f)) in
        becomes (items ++ (cpu_of i s).todo) (subst Harmless (sym (alone (whose.Flusher f) items)) only_unmark) (record (flusher_of f s) { phase = phase.Taken inode }) refl tt s2
        (thrice (at_turn (whose.Flusher f) s.now) (do_next items) s.cpus i c0 no_cpu there) (same_shared s s2 refl) refl refl refl refl

    takes_last : (pairs : List Pair) → Moves trace setting s.steps (take_last trace i f pairs (s1 (whose.Flusher f))) t
    takes_last [] = takes_or_finishes (queue_of (flusher_device trace f) s)
    takes_last (pair ∷ pairs) = takes_first_of pair pairs

    idles : Moves trace setting s.steps (begin_idle trace i f (s1 (whose.Flusher f))) t
    idles = either (λ q. Moves trace setting s.steps q t) (is_drained s) _ _
        (λ drained. takes_last (waiting_of f s).pairs)
        (λ runs.
        let s0 : State = s1 (whose.Flusher f) in
        let loads : Cpu → Cpu = λ c. do_last (domain_loads (length s.domains) 0) c in
        let estimates : Cpu → Cpu = λ c. do_last (measures_of (flusher_of f s).measures s0) c in
        let weighs : Cpu → Cpu = λ c. do_last (weighs_of (flusher_of f s).weighs) c in
        let last : Cpu → Cpu = λ c. do_last (todo.Silent silent.Test ∷ []) c in
        let s2 : State = begin_test i f s0 in
        begins (whose.Flusher f) (test_items f s0 (cpu_of i s).todo) (subst (λ (l : List Todo). Harmless (test_items f s0 l)) (sym is) (test_is_harmless f s0)) s2
        (ap (λ (l : List Cpu). set (set l i (weighs (get_or l i no_cpu))) i (last (get_or (set l i (weighs (get_or l i no_cpu))) i no_cpu)))
        (four_times (at_turn (whose.Flusher f) s.now) loads estimates s.cpus i c0 no_cpu there)
        ∙ thrice weighs last s.cpus i (estimates (loads (at_turn (whose.Flusher f) s.now c0))) no_cpu there) (same_shared s s2 refl) refl refl
        (λ j n. all_same trace j s.tasks s.flushers) (λ n. refl) (inside (whose.Flusher f)) (λ p. refl))

    phase_moves : (at : ReplayPhase) → Moves trace setting s.steps (begin_phase trace i f at (s1 (whose.Flusher f))) t
    phase_moves (phase.Idle until kept) = idles
    phase_moves (phase.Taken inode) = begins_with (whose.Flusher f) (todo.Step item.Unmark ∷ []) only_unmark
    phase_moves (phase.Scanning scan) = begins_with (whose.Flusher f) (todo.Step item.Look ∷ []) only_look
    phase_moves (phase.Flying inode pages until) = begins_with (whose.Flusher f) (todo.Step item.Complete ∷ []) only_complete
    phase_moves phase.Finished = begins_nothing (whose.Flusher f)

  -- The turn of a task or of a flusher of the CPU's begins.
  pub begin_moves : (w : Whose) → IsTurnOf trace i w → Moves trace setting s.steps (begin_turn trace i w (with_cpu i c0 s)) t
  begin_moves (whose.Task task) on = due_moves task on (writer_of (task_of task s)).due refl
  begin_moves (whose.Flusher f) on = phase_moves f on (flusher_of f s).phase
