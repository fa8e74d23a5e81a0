-- A turn that a CPU begins leaves less to be done: a step comes first, or an action, a rest of the CPU or a flusher pays.
use Rattle.std.proofs.Common.{◌≡◌, ℕ, zero, suc, ◌+◌, ◌*◌, ◌<◌, ◌≤◌, Bool, true, false, cond, List, [], ◌∷◌, ◌++◌, length, get_or, refl, sym, ◌∙◌, ap, subst, arith, Some, sum_by, leb, eqb, Option, None, IfSome}
use Rattle.std.proofs.Math.ListN.{set}
use Rattle.std.proofs.lemmas.Bool.Decides.{nat_tests}
use Rattle.std.proofs.lemmas.List.{append_assoc, set-get_or}
use Rattle.std.proofs.lemmas.List.Sums.{sum_by-set}
use Rattle.wbt_replay_order.proofs.Common.{Due, IsPace, Pace, Trace, writer_of, do_next, do_last, then_do, logged, take_or_finish, domain_loads, measures_of, weighs_of, begin_test, take_last, take_first, begin_phase, State, no_cpu, no_flusher, cpu_of, task_of, flusher_of, queue_of, is_drained, waiting_of, pause_of, group_of, flusher_device, check_items, begin_rest, pause_in, begin_pause, begin_page, begin_work, begin_due, has_nothing, Cpu, ReplayPhase, ReplayWork, Todo, is_finished, ahead_cost, IsPaid, is_last, wait, pause_cost, task_cost, flusher_cost, phase_cost, Flusher}
use Rattle.wbt_task.specs.declared.allowance.Due.TheVariants as due
use Rattle.wbt_replay_moves.specs.Definition.Idle.{take}
use Rattle.wbt_replay_moves.specs.declared.state.ReplayPhase.TheVariants as phase
use Rattle.wbt_replay_moves.specs.declared.state.Whose.TheVariants as whose
use Rattle.wbt_replay_moves.specs.declared.state.ReplayWork.TheVariants as work
use Rattle.wbt_replay_moves.specs.declared.todo.Silent.TheVariants as silent
use Rattle.wbt_replay_moves.specs.declared.todo.Step.TheVariants as step
use Rattle.wbt_replay_moves.specs.declared.todo.Todo.TheVariants as todo
use Rattle.wbt_replay_order.proofs.Facts.Lists.{either, twice}
use Rattle.wbt_replay_ends.proofs.Ends.Goes.{Goes, cpu_goes, goes_so, flusher_there, wait_most}
use Rattle.wbt_replay_ends.proofs.Ends.Turns.{ahead_most, loads_light, loads_begin, measures_light, weighs_light}
use Rattle.wbt_replay_ends.proofs.Ends.Writes.{IsAlone, task_goes}
use Rattle.wbt_expiry.specs.declared.due.Due.{Due as Pair}
use Rattle.wbt_journal.specs.declared.entry.Entry.TheVariants as entry

-- A task that rests between its pages has written one since it rested so.
paused_some : (pace : Option Pace) (since ticks : ℕ) → IfSome pace IsPace → pause_of pace since ≡ Some ticks → 1 ≤ since
paused_some None since ticks h is = absurd (cc is)
paused_some (Some pace) since ticks h is = by_test (leb pace.pages since) refl is
  where
    by_test : (b : Bool) → leb pace.pages since ≡ b → cond b (Some pace.ticks) None ≡ Some ticks → 1 ≤ since
    by_test true enough e = let low : pace.pages ≤ since = grind (arith, nat_tests) in let some = h.pages.0 in omega (arith, low, some)
    by_test false few e = absurd (cc e)

-- A turn that begins costs less than the 1 of a turn that is over.
abbrev pub Begins : (i : ℕ) (u r : State) → Type 0
Begins i u r = Goes i 0 1 u r

module _ (trace : Trace) (i : ℕ) (u : State) (there : i < length u.cpus) (none : (cpu_of i u).todo ≡ []) where
  -- the turn begins with these items, of which the first is a step
  then_goes : (items : List Todo) → IsPaid (items ++ []) → ahead_cost (is_last u.tasks (cpu_of i u).turn.whose) (items ++ []) ≡ 0 → Begins i u (then_do i items u)
  then_goes items paid light =
      let c = do_next items (cpu_of i u) in
      cpu_goes i 0 1 u (then_do i items u) c
      (record { same = refl; steps = omega arith; cpus = refl; paces = refl; todo = subst (λ (ts : List Todo). IsPaid (items ++ ts)) (sym none) paid }) refl refl
      (let cost = ap (λ (ts : List Todo). ahead_cost (is_last u.tasks (cpu_of i u).turn.whose) (items ++ ts)) none in omega (arith, cost, light))

  -- ---- a task's turn

  check_goes : (context group : ℕ) → Begins i u (then_do i (check_items context group) u)
  check_goes context zero = then_goes (check_items context zero) (omega arith, (omega arith, (omega arith, (omega arith, (omega arith, (omega arith, (omega arith, (tt, tt)))))))) refl
  check_goes context (suc cgroup) =
      then_goes (check_items context (suc cgroup)) (omega arith, (omega arith, (omega arith, (omega arith, (omega arith, (omega arith, (omega arith, (omega arith, (omega arith, (omega arith, (omega arith, (tt, tt)))))))))))) refl

  module _ (t : ℕ) (one : t < length u.tasks) (alone : IsAlone i t u) (at : (cpu_of i u).turn.whose ≡ whose.Task t) (paced : IfSome (task_of t u).pace IsPace) where
    -- A rest right before a page is paid by the pages before it.
    page_goes : (pause : Option ℕ) → pause_in (task_of t u) ≡ pause → Begins i u (begin_page i t pause u)
    page_goes None is = then_goes (todo.Step step.Dirty ∷ todo.Silent silent.End ∷ []) (omega arith, (omega arith, (tt, tt))) refl
    page_goes (Some ticks) is =
        let items = todo.Silent silent.End ∷ [] in
        let c = do_next items (cpu_of i u) in
        let v = record (task_of t u) { since = 0; rest = u.now + ticks } in
        let r = begin_pause i t ticks u in
        task_goes i 0 1 u r c refl (omega arith) refl refl (subst (λ (ts : List Todo). IsPaid (items ++ ts)) (sym none) (omega arith, (tt, tt))) refl t v refl one alone
        (let most = ahead_most (is_last r.tasks c.turn.whose) c.todo in
        let cost = ap (λ (ts : List Todo). ahead_cost false (items ++ ts)) none in
        let some : 1 ≤ (task_of t u).since = paused_some (task_of t u).pace (task_of t u).since ticks paced is in
        let paid : pause_cost (task_of t u) ≡ 4 = ap {A = Bool} {B = ℕ} (λ b. cond b 0 4) (let off : eqb (task_of t u).since 0 ≡ false = grind (arith, nat_tests, some) in off) in
        let w = wait_most u.now v.rest in
        either (λ n. ahead_cost (is_last r.tasks c.turn.whose) c.todo + (4 * length v.works + pause_cost v + n) + 1 ≤ 1 + task_cost u.now (task_of t u)) (task_of t u).ended 0 (8 + wait u.now v.rest)
        (λ ended. omega (arith, most, cost, paid))
        (λ on. let was = ap {A = Bool} {B = ℕ} (λ b. cond b 0 (8 + wait u.now (task_of t u).rest)) on in omega (arith, most, cost, paid, w, was)))

    work_goes : (works : List ReplayWork) → (task_of t u).works ≡ works → (writer_of (task_of t u)).due ≡ due.No → Begins i u (begin_work i t works u)
    work_goes [] is undue =
        then_goes (todo.Silent silent.End ∷ []) (omega arith, (tt, tt))
        (let last : is_last u.tasks (cpu_of i u).turn.whose ≡ true = ap (is_last u.tasks) at ∙ (ap (λ (l : List ReplayWork). has_nothing l (writer_of (task_of t u)).due) is ∙ ap (has_nothing []) undue) in
        ap (λ b. ahead_cost b (todo.Silent silent.End ∷ [])) last)
    work_goes (work.Rest ticks ∷ works) is undue =
        let items = todo.Silent silent.End ∷ [] in
        let c = do_next items (cpu_of i u) in
        let v = record (task_of t u) { works = works; rest = u.now + ticks } in
        let r = begin_rest i t ticks works u in
        task_goes i 0 1 u r c refl (omega arith) refl refl (subst (λ (ts : List Todo). IsPaid (items ++ ts)) (sym none) (omega arith, (tt, tt))) refl t v refl one alone
        (let most = ahead_most (is_last r.tasks c.turn.whose) c.todo in
        let cost = ap (λ (ts : List Todo). ahead_cost false (items ++ ts)) none in
        let long = ap (λ (l : List ReplayWork). length l) is in
        let w = wait_most u.now v.rest in
        either (λ n. ahead_cost (is_last r.tasks c.turn.whose) c.todo + (4 * length works + pause_cost (task_of t u) + n) + 1 ≤ 1 + task_cost u.now (task_of t u)) (task_of t u).ended 0 (8 + wait u.now v.rest)
        (λ ended. omega (arith, most, cost, long))
        (λ on. let was = ap {A = Bool} {B = ℕ} (λ b. cond b 0 (8 + wait u.now (task_of t u).rest)) on in omega (arith, most, cost, long, w, was)))
    work_goes (work.Write inode page pages ∷ works) is undue = page_goes (pause_in (task_of t u)) refl

    pub task_begins : (d : Due) → (writer_of (task_of t u)).due ≡ d → Begins i u (begin_due trace i t d u)
    task_begins due.Check is = check_goes (task_of t u).context (group_of trace (task_of t u).context)
    task_begins due.No is = work_goes (task_of t u).works refl is

  -- ---- a flusher's turn

  module _ (f : ℕ) where
    idle_some : (p : ReplayPhase) (until : ℕ) (kept : Bool) → p ≡ phase.Idle until kept → 1 ≤ phase_cost u.now p
    idle_some p until kept is = let cost = ap (phase_cost u.now) is in omega (arith, cost)

    taken_goes : (until : ℕ) (kept : Bool) → (flusher_of f u).phase ≡ phase.Idle until kept → (queue : List ℕ) → Begins i u (take_or_finish trace i f queue u)
    taken_goes until kept is [] =
        let g = record (flusher_of f u) { phase = phase.Finished } in
        record {
          same = refl;
          steps = omega arith;
          cpu = cpu_of i u;
          cpus = sym (set-get_or u.cpus i no_cpu);
          paces = refl;
          todo = subst IsPaid (sym none) (omega arith, tt);
          apart = λ j n. refl;
          sums =
              let cost = ap (ahead_cost (is_last u.tasks (cpu_of i u).turn.whose)) none in
              let changed = sum_by-set (flusher_cost u.now) u.flushers f g no_flusher (flusher_there f u (ap is_finished is)) in
              let some = idle_some (flusher_of f u).phase until kept is in
              omega (arith, cost, changed, some);
        }
    taken_goes until kept is (inode ∷ inodes) =
        let g = record (flusher_of f u) { phase = phase.Taken inode } in
        let items = todo.Step step.Unmark ∷ [] in
        let c = do_next items (cpu_of i u) in
        let r = take trace i f inode inodes u in
        goes_so i 0 1 u r c
        (record { same = refl; steps = omega arith; cpus = refl; paces = refl; todo = subst (λ (ts : List Todo). IsPaid (items ++ ts)) (sym none) (omega arith, (omega arith, tt)) }) refl
        (let changed = sum_by-set (flusher_cost u.now) u.flushers f g no_flusher (flusher_there f u (ap is_finished is)) in
        let some = idle_some (flusher_of f u).phase until kept is in
        omega (arith, changed, some))

    last_goes : (until : ℕ) (kept : Bool) → (flusher_of f u).phase ≡ phase.Idle until kept → (pairs : List Pair) → Begins i u (take_last trace i f pairs u)
    last_goes until kept is [] = taken_goes until kept is (queue_of (flusher_device trace f) u)
    last_goes until kept is (pair ∷ pairs) =
        let e = entry.Taken f pair.inode in
        let items = todo.Step step.Unmark ∷ [] in
        let left = record (flusher_of f u) { wheel = Some (record (waiting_of f u) { pairs = pairs }) } in
        let g = record left { phase = phase.Taken pair.inode } in
        let c = do_next items (logged e (cpu_of i u)) in
        let known = flusher_there f u (ap is_finished is) in
        let r = take_first i f pair pairs u in
        goes_so i 0 1 u r c
        (record {
          same = refl;
          steps = omega arith;
          cpus = twice (do_next items) u.cpus i (logged e (cpu_of i u)) no_cpu there;
          paces = refl;
          todo = subst (λ (ts : List Todo). IsPaid (items ++ ts)) (sym none) (omega arith, (omega arith, tt));
        }) refl
        (let changed = sum_by-set (flusher_cost u.now) u.flushers f g no_flusher known in
        let now = ap (sum_by (flusher_cost u.now)) (twice (λ (h : Flusher). record h { phase = phase.Taken pair.inode }) u.flushers f left no_flusher known) in
        let some = idle_some (flusher_of f u).phase until kept is in
        omega (arith, changed, now, some))

    test_goes : 1 ≤ length u.domains → Begins i u (begin_test i f u)
    test_goes some =
        let last = todo.Silent silent.Test ∷ [] in
        let loads = domain_loads (length u.domains) 0 in
        let estimates = measures_of (flusher_of f u).measures u in
        let weighs = weighs_of (flusher_of f u).weighs in
        let b = do_last loads (cpu_of i u) in
        let d = do_last estimates b in
        let e = do_last weighs d in
        let c = do_last last e in
        let is : c.todo ≡ loads ++ (estimates ++ (weighs ++ last)) = ap (λ (ts : List Todo). (((ts ++ loads) ++ estimates) ++ weighs) ++ last) none
        ∙ append_assoc (loads ++ estimates) weighs last ∙ append_assoc loads estimates (weighs ++ last) in
        let weighed = weighs_light (flusher_of f u).weighs last (omega arith, (tt, tt)) (omega arith) in
        let light = measures_light (flusher_of f u).measures u (weighs ++ last) weighed.0 weighed.1 in
        let all = loads_light (length u.domains) 0 (estimates ++ (weighs ++ last)) light.0 in
        let cost = ap (ahead_cost (is_last u.tasks c.turn.whose)) is ∙ loads_begin (length u.domains) 0 (is_last u.tasks c.turn.whose) (estimates ++ (weighs ++ last)) some in
        let cpus = ap (λ (l : List Cpu). let m = set l i (do_last weighs (get_or l i no_cpu)) in set m i (do_last last (get_or m i no_cpu))) (twice (do_last estimates) u.cpus i b no_cpu there)
        ∙ ap (λ (l : List Cpu). set l i (do_last last (get_or l i no_cpu))) (twice (do_last weighs) u.cpus i d no_cpu there)
        ∙ twice (do_last last) u.cpus i e no_cpu there in
        cpu_goes i 0 1 u (begin_test i f u) c
        (record { same = refl; steps = omega arith; cpus = cpus; paces = refl; todo = subst IsPaid (sym is) (omega (arith, all.0), all.1) }) refl refl
        (omega (arith, cost))

    pub phase_begins : 1 ≤ length u.domains → (p : ReplayPhase) → (flusher_of f u).phase ≡ p → is_finished p ≡ false → Begins i u (begin_phase trace i f p u)
    phase_begins some (phase.Idle until kept) is works = either (Begins i u) (is_drained u) _ _
        (λ drained. last_goes until kept is (waiting_of f u).pairs)
        (λ running. test_goes some)
    phase_begins some (phase.Taken n) is works = then_goes (todo.Step step.Unmark ∷ []) (omega arith, (omega arith, tt)) refl
    phase_begins some (phase.Scanning scan) is works = then_goes (todo.Step step.Look ∷ []) (omega arith, (omega arith, tt)) refl
    phase_begins some (phase.Flying n pages until) is works = then_goes (todo.Step step.Complete ∷ []) (omega arith, (omega arith, tt)) refl
    phase_begins some phase.Finished is works = absurd (cc works)
