-- What is kept holds at the opening, and how much there is to be done at most.
use Rattle.std.proofs.Common.{◌≡◌, ℕ, zero, suc, ◌+◌, ◌*◌, ◌^◌, ◌≤◌, false, eqb, List, [], ◌∷◌, ◌++◌, length, get_or, Option, Some, None, refl, sym, ◌∙◌, subst, arith}
use Rattle.std.specs.List.{sum_by}
use Rattle.std.proofs.lemmas.List.{length-append, length-map}
use Rattle.std.proofs.lemmas.List.Sums.{sum_by_push}
use Rattle.wbt_replay_order.proofs.Common.{Action, Trace, pace_of, no_cpu, Cpu, ReplayTask, ReplayWork, opening, opening_moment, work_of, works_of, first_task, first_tasks, first_flusher, first_flushers, first_cpu, first_cpus, stretch_of, IsPaid, cpu_cost, pause_cost, task_cost, flusher_cost, wait, work_left, IsWithinHalt, Ending, Facts}
use Rattle.wbt_trace.specs.declared.trace.Action.TheVariants as action
use Rattle.wbt_replay_order.proofs.Facts.Lists.{either}
use Rattle.wbt_replay_ends.proofs.Ends.Goes.{wait_most, phase_most}

-- ---- lists that grow by an item

-- what holds of each item and of the default
pub each_push : {A : Type 0} (P : A → Type 0) (xs : List A) (x d : A) → ((i : ℕ) → P (get_or xs i d)) → P x → P d → (i : ℕ) → P (get_or (xs ++ x ∷ []) i d)
each_push P [] x d each here other zero = here
each_push P [] x d each here other (suc i) = other
each_push P (y ∷ xs) x d each here other zero = each 0
each_push P (y ∷ xs) x d each here other (suc i) = each_push P xs x d (λ j. each (suc j)) here other i

push_most : {A : Type 0} (f : A → ℕ) (xs : List A) (x : A) (n most : ℕ) → sum_by f xs ≤ n * most → f x ≤ most → sum_by f (xs ++ x ∷ []) ≤ suc n * most
push_most f xs x n most rest here =
    let sum = sum_by_push f xs x in
    let more : suc n * most ≡ n * most + most = grind (arith) in
    omega (arith, sum, more, rest, here)

times_most : (n m k : ℕ) → n ≤ m → n * k ≤ m * k
times_most n m k less = grind (arith)

module _ (trace : Trace) where
  -- ---- CPUs

  cpus_free : (n i : ℕ) → ((get_or (first_cpus trace n) i no_cpu).todo ≡ []) × ((get_or (first_cpus trace n) i no_cpu).stopped ≡ false)
  cpus_free zero i = (refl, refl)
  cpus_free (suc n) i = each_push (λ (c : Cpu). (c.todo ≡ []) × (c.stopped ≡ false)) (first_cpus trace n) (first_cpu trace n) no_cpu (cpus_free n) (refl, refl) (refl, refl) i

  cpus_still : (n i : ℕ) → ((get_or (first_cpus trace n) i no_cpu).made ≡ 0) × ((get_or (first_cpus trace n) i no_cpu).stopped ≡ false)
  cpus_still zero i = (refl, refl)
  cpus_still (suc n) i = each_push (λ (c : Cpu). (c.made ≡ 0) × (c.stopped ≡ false)) (first_cpus trace n) (first_cpu trace n) no_cpu (cpus_still n) (refl, refl) (refl, refl) i

  within_none : (halt : Option ℕ) (made : ℕ) → made ≡ 0 → IsWithinHalt halt made
  within_none None made is = tt
  within_none (Some most) made is = omega (arith, is)

  cpus_sum : (tasks : List ReplayTask) (n : ℕ) → sum_by (cpu_cost tasks) (first_cpus trace n) ≤ n * 2
  cpus_sum tasks zero = omega arith
  cpus_sum tasks (suc n) =
      let more = push_most (cpu_cost tasks) (first_cpus trace n) (first_cpu trace n) n 2 (cpus_sum tasks n) (omega arith) in
      omega (arith, more)

  -- ---- tasks

  few_works : (task : ℕ) (actions : List Action) → length (works_of trace task actions) ≤ length actions
  few_works task [] = omega arith
  few_works task (a ∷ actions) =
      let rest = few_works task actions in
      let long = length-append (work_of trace task a) (works_of trace task actions) in
      let one = by_action a in
      omega (arith, rest, long, one)
    where
      by_action : (a : Action) → length (work_of trace task a) ≤ 1
      by_action (action.Write writer inode from pages) = either (λ (l : List ReplayWork). length l ≤ 1) (eqb writer task) _ _ (λ is. omega arith) (λ is. omega arith)
      by_action (action.Rest sleeper ticks) = either (λ (l : List ReplayWork). length l ≤ 1) (eqb sleeper task) _ _ (λ is. omega arith) (λ is. omega arith)

  task_most : (now : ℕ) (t : ReplayTask) → pause_cost t ≡ 0 → task_cost now t ≤ 4 * length t.works + 9
  task_most now t none =
      let w = wait_most now t.rest in
      either (λ n. 4 * length t.works + pause_cost t + n ≤ 4 * length t.works + 9) t.ended 0 (8 + wait now t.rest) (λ is. omega (arith, none)) (λ is. omega (arith, none, w))

  tasks_sum : (now n : ℕ) → sum_by (task_cost now) (first_tasks trace n) ≤ n * (4 * length trace.actions + 9)
  tasks_sum now zero = omega arith
  tasks_sum now (suc n) =
      let t = first_task trace (pace_of trace n) (works_of trace n trace.actions) in
      let few = few_works n trace.actions in
      let most = task_most now t refl in
      push_most (task_cost now) (first_tasks trace n) t n (4 * length trace.actions + 9) (tasks_sum now n) (omega (arith, few, most))

  -- ---- flushers

  flushers_sum : (now n : ℕ) → sum_by (flusher_cost now) (first_flushers trace n) ≤ n * 2
  flushers_sum now zero = omega arith
  flushers_sum now (suc n) =
      let most = phase_most now (first_flusher trace n).phase in
      let more = push_most (flusher_cost now) (first_flushers trace n) (first_flusher trace n) n 2 (flushers_sum now n) (omega (arith, most)) in
      omega (arith, more)

  -- ---- the opening

  pub opening_kept : Ending trace (opening trace)
  unfolding opening
  opening_kept = record {
    paid = λ i. subst IsPaid (sym (cpus_free trace.cpus i).0) (omega arith, tt);
    timer_paid = omega arith;
    paced = λ i less. let still = cpus_still trace.cpus i in record {
      made = sym still.0;
      within = within_none trace.halt (get_or (first_cpus trace trace.cpus) i no_cpu).made still.0;
      stopped = λ is. absurd (cc (sym still.1 ∙ is));
    };
    spent = λ is. absurd (cc is);
  }

  pub opening_work : Facts trace → work_left (opening trace) ≤ 2 ^ 28
  unfolding opening work_left
  opening_work facts =
      let cpus = cpus_sum (first_tasks trace (length trace.tasks)) trace.cpus in
      let tasks = tasks_sum opening_moment (length trace.tasks) in
      let flushers = flushers_sum opening_moment (length trace.flushers) in
      let lines = length-map trace.order (stretch_of trace) in
      let some : length trace.tasks * (4 * length trace.actions + 9) ≤ 256 * (4 * length trace.actions + 9) =
      times_most (length trace.tasks) 256 (4 * length trace.actions + 9) facts.few_tasks in
      omega (arith, cpus, tasks, flushers, lines, some, facts.few_tasks, facts.few_actions, facts.few_cpus, facts.few_flushers, facts.few_orders)
