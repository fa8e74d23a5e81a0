-- The entries of each CPU's part name its checks and estimates, each once, in order, at each moment of a run.
use Rattle.std.proofs.Common.{◌≡◌, ℕ, zero, suc, ◌+◌, ◌<◌, true, List, [], ◌∷◌, ◌++◌, length, map, get_or, refl, sym, ◌∙◌, ap, subst, arith, length-append, ⊎_elim, Option, Some, None}
use Rattle.std.proofs.Math.ListN.{set}
use Rattle.std.proofs.lemmas.Bool.{cases_Bool}
use Rattle.std.proofs.lemmas.List.{get_or-set_same}
use Rattle.wbt_replay_order.proofs.Common.{Trace, update_of, Estimate, after_period, Half, Load, cgroup_reads, read_loads, loads_of, is_fresh_count, Each, InOrder, CheckEntry, Entry, EstEntry, global_line, cgroup_line, decision_at, check_of, decide_for, checked, estimated, estimate, estimate_to, sample_of, make_timer_step, make_timer_move, State, no_cpu, no_task, cpu_of, with_cpu, task_of, domain_of, writeback_of, with_timer, period_to, period, is_time, periods, Cpu, ReplayTask, ReplayTurn, TimerSilent, TimerStep, TimerTodo, Todo, opening, first_cpu, first_cpus, is_ended, state_at, part_of, group_of}
use Rattle.wbt_counter.specs.declared.counter.Counter.TheVariants as counter
use Rattle.wbt_journal.specs.Told.{NamesInOrder}
use Rattle.wbt_journal.specs.declared.entry.Entry.TheVariants as entry
use Rattle.wbt_replay_moves.specs.declared.state.Whose.TheVariants as whose
use Rattle.wbt_replay_moves.specs.declared.todo.Silent.TheVariants as move
use Rattle.wbt_replay_moves.specs.declared.todo.TimerSilent.TheVariants as silent
use Rattle.wbt_replay_moves.specs.declared.todo.TimerStep.TheVariants as step
use Rattle.wbt_replay_moves.specs.declared.todo.TimerTodo.TheVariants as timer_todo
use Rattle.wbt_replay_moves.specs.declared.todo.Todo.TheVariants as todo
use Rattle.wbt_replay_order.proofs.Facts.Lists.{either}
use Rattle.wbt_replay_order.proofs.Outset.Numbered.{numbered_all}
use Rattle.wbt_replay_order.proofs.Growth.Advancing.{advance_keeps}
use Rattle.wbt_replay_order.proofs.Growth.Afresh.{told_in, seen_in, fresh_checked, fresh_estimated}
use Rattle.wbt_replay_order.proofs.Growth.Quiet.{HasNames, Quiet, names_at}
use Rattle.wbt_replay_order.proofs.Growth.Runs.{run_none, run_last, run_stays}

-- ---- one more that is named

pub names_check : (n m check est : ℕ) (entries : List Entry) → InOrder n m check est entries → InOrder (n + 1) m check est (entries ++ entry.Check n ∷ [])
names_check n m check est [] h = (sym h.0, (ap (λ (k : ℕ). k + 1) h.0, h.1))
names_check n m check est (entry.Check place ∷ more) h = (h.0, names_check n m (check + 1) est more h.1)
names_check n m check est (entry.Est place ∷ more) h = (h.0, names_check n m check (est + 1) more h.1)
names_check n m check est (other ∷ more) h = names_check n m check est more h

pub names_est : (n m check est : ℕ) (entries : List Entry) → InOrder n m check est entries → InOrder n (m + 1) check est (entries ++ entry.Est m ∷ [])
names_est n m check est [] h = (sym h.1, (h.0, ap (λ (k : ℕ). k + 1) h.1))
names_est n m check est (entry.Check place ∷ more) h = (h.0, names_est n m (check + 1) est more h.1)
names_est n m check est (entry.Est place ∷ more) h = (h.0, names_est n m check (est + 1) more h.1)
names_est n m check est (other ∷ more) h = names_est n m check est more h

-- the check's counts are no older than what the CPU had seen
abbrev pub IsFreshOn : (c : Cpu) (check : CheckEntry) → Type 0
IsFreshOn c check = Each (λ (load : Load). is_fresh_count (seen_in (told_in c.checks c.estimates c.entries)) load ≡ true) (loads_of check)

checked_names : (check : CheckEntry) (c : Cpu) → IsFreshOn c check → HasNames c → HasNames (checked check c)
checked_names check c fresh h =
    let long : length c.checks + 1 ≡ length (c.checks ++ check ∷ []) = omega (arith, length-append c.checks (check ∷ [])) in (
      subst (λ (n : ℕ). InOrder n (length c.estimates) 0 0 (c.entries ++ entry.Check (length c.checks) ∷ [])) long
          (names_check (length c.checks) (length c.estimates) 0 0 c.entries h.0),
      fresh_checked check c.checks c.estimates c.entries h.0 fresh h.1,
    )

estimated_names : (est : EstEntry) (c : Cpu) → HasNames c → HasNames (estimated est c)
estimated_names est c h =
    let long : length c.estimates + 1 ≡ length (c.estimates ++ est ∷ []) = omega (arith, length-append c.estimates (est ∷ [])) in (
      subst (λ (n : ℕ). InOrder (length c.checks) n 0 0 (c.entries ++ entry.Est (length c.estimates) ∷ [])) long
          (names_est (length c.checks) (length c.estimates) 0 0 c.entries h.0),
      fresh_estimated est c.checks c.estimates c.entries h.0 h.1,
    )

-- the counts that a check prints, by the turn that loaded them
abbrev pub check_loads : (group context : ℕ) (turn : ReplayTurn) → List Load
check_loads zero context turn =
    record { counter = counter.Domain 0; count = turn.global.count } ∷ record { counter = counter.Context context; count = turn.context } ∷ []
check_loads (suc cgroup) context turn =
    record { counter = counter.Domain 0; count = turn.global.count } ∷ record { counter = counter.Domain (suc cgroup); count = turn.cgroup.count }
    ∷ record { counter = counter.Context context; count = turn.context } ∷ []

loads_are : (group context : ℕ) (turn : ReplayTurn) (s : State)
    → read_loads (global_line context turn s ∷ cgroup_reads (cgroup_line group context turn s)) ++ record { counter = counter.Context context; count = turn.context } ∷ [] ≡ check_loads group context turn
loads_are zero context turn s = refl
loads_are (suc cgroup) context turn s = refl

-- where a CPU decides a check next, what its turn loaded is no older than what the CPU has seen
abbrev pub MayDecide : (trace : Trace) (cpus : List Cpu) (tasks : List ReplayTask) → Type 0
MayDecide trace cpus tasks = (cpu task : ℕ) (rest : List Todo) → cpu < length cpus → (get_or cpus cpu no_cpu).todo ≡ todo.Silent move.Decide ∷ rest
    → (get_or cpus cpu no_cpu).turn.whose ≡ whose.Task task
    → Each (λ (load : Load). is_fresh_count (seen_in (told_in (get_or cpus cpu no_cpu).checks (get_or cpus cpu no_cpu).estimates (get_or cpus cpu no_cpu).entries)) load ≡ true)
    (check_loads (group_of trace (get_or tasks task no_task).context) (get_or tasks task no_task).context (get_or cpus cpu no_cpu).turn)

-- ---- what a run keeps

abbrev pub AllNamed : (cpus : List Cpu) → Type 0
AllNamed cpus = (i : ℕ) → HasNames (get_or cpus i no_cpu)

module _ (trace : Trace) where
  framed : (s u : State) → Quiet s u → AllNamed s.cpus → AllNamed u.cpus
  framed s u quiet h i = quiet.names i (h i)

  one_named : (cpus : List Cpu) (cpu : ℕ) (c : Cpu) → (HasNames (get_or cpus cpu no_cpu) → HasNames c) → AllNamed cpus → AllNamed (set cpus cpu c)
  one_named cpus cpu c keeps h i = names_at cpus cpu c keeps i (h i)

  decides : (cpu task : ℕ) (rest : List Todo) (s : State) → cpu < length s.cpus → (cpu_of cpu s).todo ≡ todo.Silent move.Decide ∷ rest
      → (cpu_of cpu s).turn.whose ≡ whose.Task task → MayDecide trace s.cpus s.tasks → AllNamed s.cpus
      → AllNamed (decide_for trace cpu task (task_of task s).context (with_cpu cpu (record (cpu_of cpu s) { todo = rest }) s)).cpus
  decides cpu task rest s there is of can h =
      let c : Cpu = record (cpu_of cpu s) { todo = rest } in
      let v : State = with_cpu cpu c s in
      let context : ℕ = (task_of task s).context in
      let check : CheckEntry = check_of trace task context (cpu_of cpu v).turn (decision_at trace context (task_of task v) (cpu_of cpu v).turn v) v in
      let here : cpu_of cpu v ≡ c = get_or-set_same s.cpus cpu c no_cpu there in
      let loads : loads_of check ≡ check_loads (group_of trace context) context (cpu_of cpu s).turn =
      loads_are (group_of trace context) context (cpu_of cpu v).turn v ∙ ap (λ (x : Cpu). check_loads (group_of trace context) context x.turn) here in
      let fresh : IsFreshOn (cpu_of cpu v) check =
      subst (λ (x : Cpu). IsFreshOn x check) (sym here)
      (subst (Each (λ (load : Load). is_fresh_count (seen_in (told_in (cpu_of cpu s).checks (cpu_of cpu s).estimates (cpu_of cpu s).entries)) load ≡ true)) (sym loads) (can cpu task rest there is of)) in
      one_named v.cpus cpu (checked check (cpu_of cpu v)) (checked_names check (cpu_of cpu v) fresh) (one_named s.cpus cpu c (λ n. n) h)

  estimates : (cpu context : ℕ) (s : State) → cpu < length s.cpus → AllNamed s.cpus → AllNamed (estimate trace cpu context s).cpus
  estimates cpu context s less h = by_found (update_of (writeback_of context s).estimate (sample_of trace context (cpu_of cpu s).turn s))
    where
      by_found : (found : Option Estimate) → AllNamed (estimate_to cpu context found s).cpus
      by_found None = h
      by_found (Some e) =
          let est : EstEntry = record { context = context; estimate = e } in
          one_named s.cpus cpu (estimated est (cpu_of cpu s)) (estimated_names est (cpu_of cpu s)) h

  times : (item : TimerStep) (rest : List TimerTodo) (s : State) → s.timer.todo ≡ timer_todo.Step item ∷ rest → AllNamed s.cpus
      → AllNamed (make_timer_step trace item (with_timer (record s.timer { todo = rest }) s)).cpus
  unfolding make_timer_step
  times (step.Count domain) rest s is h = h
  times (step.Peak domain) rest s is h = h
  times (step.Unseal domain) rest s is h = h
  times (step.Thresh domain) rest s is h = h
  times (step.Publish domain) rest s is h = h

  of_period : (domain : ℕ) (s : State) → AllNamed s.cpus → AllNamed (period domain s).cpus
  of_period domain s h =
      either (λ (u : State). AllNamed u.cpus) (is_time s.timer) (period_to domain (periods s.timer) (after_period (domain_of domain s).events (periods s.timer)) s) s
      (λ time. by_found (after_period (domain_of domain s).events (periods s.timer))) (λ early. h)
    where
      by_found : (found : Option Half) → AllNamed (period_to domain (periods s.timer) found s).cpus
      by_found None = h
      by_found (Some events) = h

  passes : (item : TimerSilent) (rest : List TimerTodo) (s : State) → s.timer.todo ≡ timer_todo.Silent item ∷ rest → AllNamed s.cpus
      → AllNamed (make_timer_move item (with_timer (record s.timer { todo = rest }) s)).cpus
  unfolding make_timer_move
  passes (silent.Period domain) rest s is h = of_period domain (with_timer (record s.timer { todo = rest }) s) h
  passes silent.Rest rest s is h = h

  opening_named : AllNamed (opening trace).cpus
  unfolding opening
  opening_named = numbered_all (first_cpus trace) (first_cpu trace) no_cpu refl (λ n. refl) (λ i c. HasNames c) (λ i. ((refl, refl), tt)) (λ i. ((refl, refl), tt)) trace.cpus

  module _ (may : (moves : ℕ) → MayDecide trace (state_at trace moves).cpus (state_at trace moves).tasks) where
    pub named_at : (moves : ℕ) → AllNamed (state_at trace moves).cpus
    named_at zero = subst (λ (s : State). AllNamed s.cpus) (sym (run_none trace 0 (opening trace) refl)) opening_named
    named_at (suc m) = ⊎_elim
        (λ over. subst (λ (s : State). AllNamed s.cpus) (sym (run_stays trace m (suc m) (opening trace) (omega arith) over)) (named_at m))
        (λ going.
        subst (λ (s : State). AllNamed s.cpus) (sym (run_last trace m (suc m) (opening trace) (omega arith) going))
        (advance_keeps trace (λ u. AllNamed u.cpus) framed (λ now domains cpus tasks contexts. MayDecide trace cpus tasks) decides estimates times passes (λ u k. k)
        (state_at trace m) (may m) (named_at m)))
        (cases_Bool (is_ended (state_at trace m)))

-- ---- the parts of the journal

pub parts_named : (cpus : List Cpu) → AllNamed cpus → Each NamesInOrder (map part_of cpus)
parts_named [] all = tt
parts_named (c ∷ cpus) all = ((all 0).0, parts_named cpus (λ i. all (suc i)))
