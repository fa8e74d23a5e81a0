-- Moves that leave tasks, flushers and CPUs as they were: those of the timer, of order lines and of the clock.
use Rattle.std.proofs.Common.{◌≡◌, ℕ, zero, suc, ◌+◌, ◌*◌, ◌<◌, ◌≤◌, Bool, true, false, not, cond, List, [], ◌∷◌, ◌++◌, length, get_or, Option, Some, None, refl, sym, ◌∙◌, ap, subst, arith}
use Rattle.std.specs.List.{sum_by, count_by}
use Rattle.std.proofs.lemmas.Bool.{cond-false}
use Rattle.std.proofs.lemmas.Bool.Decides.{nat_tests}
use Rattle.wbt_replay_order.proofs.Common.{after_period, Half, domains, StepEntry, Trace, make_timer_step, make_timer_move, State, no_cpu, cpu_of, domain_of, is_drained, is_time, periods, period, period_to, rest, turn_items, begin_timer, with_timer, Actor, Cpu, Flusher, Stretch, ReplayTask, TimerStep, TimerTodo, is_made_by, is_over, may_step, todo_ahead, timer_todo_ahead, ahead_of, is_halted, spend, with_orders, timer_on, is_full, IsPaid, wait, timer_silent_cost, cpu_cost, task_cost, flusher_cost, timer_cost, parts_cost, work_left, ArePaced, Ending, Facts}
use Rattle.wbt_rules.specs.declared.moments.TheConstants.{TIMER_REST}
use Rattle.wbt_replay_moves.specs.declared.state.Actor.TheVariants as who
use Rattle.wbt_replay_moves.specs.declared.todo.TimerSilent.TheVariants as timer_silent
use Rattle.wbt_replay_moves.specs.declared.todo.TimerStep.TheVariants as timer_step
use Rattle.wbt_replay_moves.specs.declared.todo.TimerTodo.TheVariants as timer_todo
use Rattle.wbt_replay_order.specs.Kept.Ending.{timer_ahead_cost, steps_left, IsSpentAfter}
use Rattle.wbt_replay_order.specs.declared.chance.Ahead.TheVariants as next
use Rattle.wbt_replay_order.proofs.Facts.Actors.{ahead_still}
use Rattle.wbt_replay_order.proofs.Facts.Lists.{either}
use Rattle.wbt_replay_ends.proofs.Ends.Goes.{one_more, wait_most}
use Rattle.wbt_replay_ends.proofs.Ends.Items.{Ahead}
use Rattle.wbt_replay_ends.proofs.Ends.Paces.{paced_still, counts_other, unspent}
use Rattle.wbt_replay_ends.proofs.Ends.Turning.{Turning, free_still}
use Rattle.wbt_replay_ends.proofs.Ends.Turns.{timer_ahead_most, timer_turn_silent, timer_turn_begins}

pub record Core : Type 0 where
  pub tasks : List ReplayTask
  pub flushers : List Flusher
  pub cpus : List Cpu
  pub most : ℕ

abbrev pub core : (s : State) → Core
core s = record { tasks = s.tasks; flushers = s.flushers; cpus = s.cpus; most = s.most }

-- what all but the CPUs cost
abbrev pub round_cost : (s : State) → ℕ
round_cost s = 16 * steps_left s + cond s.spent 0 1 + length s.orders + parts_cost s + timer_cost s.now s.timer

-- each CPU has made as many of the state's steps as before
abbrev pub Counts : (s r : State) → Type 0
Counts s r = (i : ℕ) → i < length s.cpus → count_by (is_made_by i) r.steps ≡ count_by (is_made_by i) s.steps

module _ (trace : Trace) (s r : State) (same : core r ≡ core s) (h : Ending trace s) (counts : Counts s r) (spent : r.spent ≡ true → IsSpentAfter trace r.most r)
    (timer : timer_silent_cost r.timer.todo ≤ 2 + domains trace) where
  pub core_kept : Ending trace r
  core_kept = record {
    paid = λ i. subst (λ (o : Core). IsPaid (get_or o.cpus i no_cpu).todo) (sym same) (h.paid i);
    timer_paid = timer;
    paced = subst (λ (o : Core). ArePaced trace.halt r.steps o.cpus) (sym same) (paced_still trace.halt s.steps s.cpus h.paced r.steps counts);
    spent = spent;
  }

  work_less : round_cost r + 1 ≤ round_cost s → work_left r + 1 ≤ work_left s
  unfolding work_left
  work_less less = let all = ap (λ (o : Core). sum_by (cpu_cost o.tasks) o.cpus) same in omega (arith, less, all)

  pub core_ahead : round_cost r + 1 ≤ round_cost s → Ahead trace s r
  core_ahead less = record { less = work_less less; kept = core_kept }

-- ---- the timer

module _ (trace : Trace) (facts : Facts trace) (s : State) (at : Turning trace s) (h : Ending trace s) where
  -- a state whose timer alone did something
  clock_ahead : (r : State) (made : ℕ) → core r ≡ core s → Counts s r → s.spent ≡ false → length r.steps ≡ length s.steps + made → length s.steps + made ≤ s.most
      → r.now ≡ s.now → r.spent ≡ s.spent → r.orders ≡ s.orders → timer_silent_cost r.timer.todo ≤ 2 + domains trace
      → timer_cost s.now r.timer + 1 ≤ 16 * made + timer_cost s.now s.timer → Ahead trace s r
  clock_ahead r made same counts live steps room now spent orders timer less =
      core_ahead trace s r same h counts (unspent trace r (spent ∙ live)) timer
      (let parts = ap (λ (o : Core). sum_by (task_cost s.now) o.tasks + sum_by (flusher_cost s.now) o.flushers) same in
      let moment = ap (λ n. sum_by (task_cost n) r.tasks + sum_by (flusher_cost n) r.flushers + timer_cost n r.timer) now in
      let lines = ap (λ (l : List Stretch). length l) orders in
      let over = ap {A = Bool} {B = ℕ} (λ b. cond b 0 1) spent in
      let most = ap (λ (o : Core). o.most) same in
      omega (arith, parts, moment, lines, over, most, steps, room, less))

-- the timer's turn without its first item
abbrev pub without_first : (more : List TimerTodo) (s : State) → State
without_first more s = with_timer (record s.timer { todo = more }) s

-- A step of the timer leaves its list and its next moment as they were.
pub record Ticks (s r : State) : Type 0 where
  pub same : core r ≡ core s
  pub entry : StepEntry
  pub steps : r.steps ≡ s.steps ++ entry ∷ []
  pub who : entry.who ≡ length s.cpus
  pub now : r.now ≡ s.now
  pub spent : r.spent ≡ s.spent
  pub orders : r.orders ≡ s.orders
  pub todo : r.timer.todo ≡ s.timer.todo
  pub next : r.timer.next ≡ s.timer.next

step_ticks : (trace : Trace) (item : TimerStep) (s : State) → Ticks s (make_timer_step trace item s)
unfolding make_timer_step
step_ticks trace (timer_step.Count zero) s = record { same = refl; entry = _; steps = refl; who = refl; now = refl; spent = refl; orders = refl; todo = refl; next = refl }
step_ticks trace (timer_step.Count (suc domain)) s = record { same = refl; entry = _; steps = refl; who = refl; now = refl; spent = refl; orders = refl; todo = refl; next = refl }
step_ticks trace (timer_step.Peak domain) s = record { same = refl; entry = _; steps = refl; who = refl; now = refl; spent = refl; orders = refl; todo = refl; next = refl }
step_ticks trace (timer_step.Unseal domain) s = record { same = refl; entry = _; steps = refl; who = refl; now = refl; spent = refl; orders = refl; todo = refl; next = refl }
step_ticks trace (timer_step.Thresh domain) s = record { same = refl; entry = _; steps = refl; who = refl; now = refl; spent = refl; orders = refl; todo = refl; next = refl }
step_ticks trace (timer_step.Publish domain) s = record { same = refl; entry = _; steps = refl; who = refl; now = refl; spent = refl; orders = refl; todo = refl; next = refl }

-- a CPU that isn't stopped, and the timer while a task runs, have a step to make where it comes next
pub cpu_due : (s : State) (i : ℕ) → (cpu_of i s).stopped ≡ false → todo_ahead (cpu_of i s).todo ≡ next.Step → ahead_of (who.Cpu i) s ≡ next.Step
cpu_due s i running due = cond-false (cpu_of i s).stopped next.Nothing (todo_ahead (cpu_of i s).todo) running ∙ due

timer_due : (s : State) → is_drained s ≡ false → timer_todo_ahead s.timer.todo ≡ next.Step → ahead_of who.Timer s ≡ next.Step
timer_due s running due = cond-false (is_drained s) next.Nothing (timer_todo_ahead s.timer.todo) running ∙ due

-- No halt line keeps a CPU from a step that hasn't made as many as it says.
pub free_cpu : (trace : Trace) (s : State) (h : Ending trace s) (i : ℕ) → i < length s.cpus → is_halted trace.halt (cpu_of i s).made ≡ false → may_step trace (who.Cpu i) s ≡ true
free_cpu trace s h i there on = ap (λ (n : ℕ). not (is_halted trace.halt n)) (h.paced i there).made ∙ ap (λ (b : Bool). not b) on

module _ (trace : Trace) (facts : Facts trace) (s : State) (at : Turning trace s) (h : Ending trace s) where
  few_domains : domains trace ≤ 9
  few_domains = omega (arith, facts.few_cgroups)

  tick_ahead : s.spent ≡ false → (item : TimerStep) (more : List TimerTodo) → s.timer.todo ≡ timer_todo.Step item ∷ more → length s.steps + 1 ≤ s.most
      → Ahead trace s (make_timer_step trace item (without_first more s))
  tick_ahead going item more is room =
      let r = make_timer_step trace item (without_first more s) in
      let t = step_ticks trace item (without_first more s) in
      let silent = ap timer_silent_cost is in
      let left = ap timer_silent_cost t.todo in
      let cost = ap timer_ahead_cost is in
      let after = ap timer_ahead_cost t.todo in
      let most = timer_ahead_most more in
      let next = ap (wait s.now) t.next in
      let long = ap (λ (l : List StepEntry). length l) t.steps ∙ one_more s.steps t.entry in
      clock_ahead trace facts s at h r 1 t.same (λ i there. counts_other (length s.cpus) i s.steps r.steps t.entry t.steps t.who (λ e. omega (arith, e, there))) going long room t.now t.spent t.orders (omega (arith, silent, left, h.timer_paid))
      (omega (arith, cost, after, most, next, silent, h.timer_paid, few_domains))

  pub spend_ahead : s.spent ≡ false → is_full s ≡ true → is_over s ≡ false → (actor : Actor) → ahead_of actor s ≡ next.Step → may_step trace actor s ≡ true → Ahead trace s (spend s)
  spend_ahead going full unfinished actor due free = core_ahead trace s (spend s) refl h (λ i there. refl)
      (λ is. record { steps = (let most : s.most ≤ length s.steps = grind (arith, nat_tests) in omega (arith, most, at.steps)); ongoing = unfinished; who = actor; due = ahead_still actor s (spend s) refl refl refl ∙ due; free = free_still actor s (spend s) trace refl ∙ free })
      h.timer_paid (let over = ap {A = Bool} {B = ℕ} (λ b. cond b 0 1) going in omega (arith, over))

  pub drop_ahead : s.spent ≡ false → (o : Stretch) (more : List Stretch) → s.orders ≡ o ∷ more → Ahead trace s (with_orders more s)
  drop_ahead going o more is = core_ahead trace s (with_orders more s) refl h (λ i there. refl) (unspent trace (with_orders more s) going) h.timer_paid (let lines = ap (λ (l : List Stretch). length l) is in omega (arith, lines))

  period_ahead : s.spent ≡ false → (domain : ℕ) (more : List TimerTodo) → s.timer.todo ≡ timer_todo.Silent (timer_silent.Period domain) ∷ more → Ahead trace s (period domain (without_first more s))
  period_ahead going domain more is =
      either (Ahead trace s) (is_time (without_first more s).timer) _ _
      (λ yes. by_found (after_period (domain_of domain s).events (periods (without_first more s).timer)))
      (λ other. clock_ahead trace facts s at h (without_first more s) 0 refl (λ i there. refl) going (omega arith) (omega (arith, at.steps)) refl refl refl fewer less)
    where
      fewer : timer_silent_cost more ≤ 2 + domains trace
      fewer = let silent = ap timer_silent_cost is in omega (arith, silent, h.timer_paid)

      less : timer_ahead_cost more + wait s.now s.timer.next + 1 ≤ 16 * 0 + timer_cost s.now s.timer
      less = let cost = ap timer_ahead_cost is in omega (arith, cost)

      by_found : (found : Option Half) → Ahead trace s (period_to domain (periods (without_first more s).timer) found (without_first more s))
      by_found None = clock_ahead trace facts s at h (without_first more s) 0 refl (λ i there. refl) going (omega arith) (omega (arith, at.steps)) refl refl refl fewer less
      by_found (Some events) =
          clock_ahead trace facts s at h (period_to domain (periods (without_first more s).timer) (Some events) (without_first more s)) 0 refl (λ i there. refl) going (omega arith) (omega (arith, at.steps)) refl refl refl fewer less

  rest_ahead : s.spent ≡ false → (more : List TimerTodo) → s.timer.todo ≡ timer_todo.Silent timer_silent.Rest ∷ more → Ahead trace s (rest (without_first more s))
  rest_ahead going more is =
      let silent = ap timer_silent_cost is in
      let cost = ap timer_ahead_cost is in
      let w = wait_most s.now (s.timer.began + TIMER_REST) in
      clock_ahead trace facts s at h (rest (without_first more s)) 0 refl (λ i there. refl) going (omega arith) (omega (arith, at.steps)) refl refl refl (omega (arith, silent, h.timer_paid)) (omega (arith, cost, w))

  -- The timer goes on.
  pub timer_goes : s.spent ≡ false → is_over s ≡ false → is_drained s ≡ false → (todos : List TimerTodo) → s.timer.todo ≡ todos → 1 ≤ length todos → Ahead trace s (timer_on trace todos s)
  unfolding make_timer_move
  timer_goes going unfinished running [] is some = absurd (omega (arith, some))
  timer_goes going unfinished running (timer_todo.Step item ∷ more) is some = either (Ahead trace s) (is_full s) _ _
      (λ full. spend_ahead going full unfinished who.Timer (timer_due s running (ap timer_todo_ahead is)) refl)
      (λ room. tick_ahead going item more is (let less : length s.steps < s.most = grind (arith, nat_tests) in omega (arith, less)))
  timer_goes going unfinished running (timer_todo.Silent (timer_silent.Period domain) ∷ more) is some = period_ahead going domain more is
  timer_goes going unfinished running (timer_todo.Silent timer_silent.Rest ∷ more) is some = rest_ahead going more is

  pub timer_begins : s.spent ≡ false → s.timer.todo ≡ [] → Ahead trace s (begin_timer s)
  timer_begins going none =
      let items = turn_items (length s.domains) in
      let todo : (begin_timer s).timer.todo ≡ items = ap (λ (ts : List TimerTodo). ts ++ items) none in
      let silent = ap timer_silent_cost todo ∙ timer_turn_silent (length s.domains) in
      let cost = ap timer_ahead_cost todo ∙ timer_turn_begins (length s.domains) (omega (arith, at.domains)) in
      let before = ap timer_ahead_cost none in
      clock_ahead trace facts s at h (begin_timer s) 0 refl (λ i there. refl) going (omega arith) (omega (arith, at.steps)) refl refl refl (omega (arith, silent, at.domains)) (omega (arith, cost, before))
