-- The greatest part that checks use of a context never falls in the course of a run.
use Rattle.std.proofs.Common.{◌≡◌, ℕ, zero, suc, ◌+◌, ◌<◌, ◌≤◌, List, ◌∷◌, length, refl, ap, subst, arith, ⊎_elim, Option, Some, None}
use Rattle.std.proofs.lemmas.Bool.{cases_Bool}
use Rattle.wbt_replay_order.proofs.Common.{update_of, Estimate, after_period, Half, Trace, CheckEntry, decision_at, check_of, decide_for, checked, estimated, estimate, estimate_to, sample_of, make_timer_step, make_timer_move, State, cpu_of, with_cpu, task_of, domain_of, writeback_of, begin_timer, with_timer, load, peak, unseal, thresh, publish, period, period_to, is_time, periods, rest, Cpu, Domain, ReplayTask, Writeback, TimerSilent, TimerStep, TimerTodo, Todo, opening, advance, is_ended, state_at, part_used}
use Rattle.wbt_replay_moves.specs.declared.state.Whose.TheVariants as whose
use Rattle.wbt_replay_moves.specs.declared.todo.Silent.TheVariants as move
use Rattle.wbt_replay_moves.specs.declared.todo.TimerSilent.TheVariants as silent
use Rattle.wbt_replay_moves.specs.declared.todo.TimerStep.TheVariants as step
use Rattle.wbt_replay_moves.specs.declared.todo.TimerTodo.TheVariants as timer_todo
use Rattle.wbt_replay_moves.specs.declared.todo.Todo.TheVariants as todo
use Rattle.wbt_replay_order.proofs.Facts.Lists.{either}
use Rattle.wbt_replay_order.proofs.Growth.Advancing.{advance_keeps}
use Rattle.wbt_replay_order.proofs.Growth.Quiet.{Quiet}
use Rattle.wbt_replay_order.proofs.Growth.Runs.{run_last, run_stays}
use Rattle.wbt_replay_order.proofs.Facts.Parts.{among_more, used_grows, used_same}

module _ (trace : Trace) (first : State) where
  -- the CPUs' checks use as much as those of the first state
  abbrev UsesMore : (u : State) → Type 0
  UsesMore u = (k : ℕ) → part_used trace k first.cpus ≤ part_used trace k u.cpus

  by_same : (s u : State) → u.cpus ≡ s.cpus → UsesMore s → UsesMore u
  by_same s u same h k = let equal : part_used trace k u.cpus ≡ part_used trace k s.cpus = ap (part_used trace k) same in omega (arith, equal, h k)

  frame : (s u : State) → Quiet s u → UsesMore s → UsesMore u
  frame s u quiet h k = omega (arith, h k, used_same trace k s.cpus u.cpus quiet.seats quiet.checks)

  abbrev Always : (now : ℕ) (domains : List Domain) (cpus : List Cpu) (tasks : List ReplayTask) (contexts : List Writeback) → Type 0
  Always now domains cpus tasks contexts = Unit {0}

  -- a check comes to those of its CPU
  checks_more : (cpu task context : ℕ) (s : State) → UsesMore s → UsesMore (decide_for trace cpu task context s)
  checks_more cpu task context s h k =
      let c : Cpu = cpu_of cpu s in
      let check : CheckEntry = check_of trace task context c.turn (decision_at trace context (task_of task s) c.turn s) s in
      let more = among_more trace k c.checks check in
      let grows = used_grows trace k s.cpus cpu (checked check c) (omega (arith, more)) in
      omega (arith, h k, grows)

  decides : (cpu task : ℕ) (items : List Todo) (s : State) → cpu < length s.cpus → (cpu_of cpu s).todo ≡ todo.Silent move.Decide ∷ items
      → (cpu_of cpu s).turn.whose ≡ whose.Task task → Always s.now s.domains s.cpus s.tasks s.contexts → UsesMore s
      → UsesMore (decide_for trace cpu task (task_of task s).context (with_cpu cpu (record (cpu_of cpu s) { todo = items }) s))
  decides cpu task items s there is of can h =
      let c : Cpu = record (cpu_of cpu s) { todo = items } in
      checks_more cpu task (task_of task s).context (with_cpu cpu c s) (λ k. let grows = used_grows trace k s.cpus cpu c (omega arith) in omega (arith, h k, grows))

  estimates : (cpu context : ℕ) (s : State) → cpu < length s.cpus → UsesMore s → UsesMore (estimate trace cpu context s)
  estimates cpu context s less h = by_found (update_of (writeback_of context s).estimate (sample_of trace context (cpu_of cpu s).turn s))
    where
      by_found : (found : Option Estimate) → UsesMore (estimate_to cpu context found s)
      by_found None = h
      by_found (Some e) = λ k.
          let grows = used_grows trace k s.cpus cpu (estimated (record { context = context; estimate = e }) (cpu_of cpu s)) (omega arith) in omega (arith, h k, grows)

  -- ---- the timer

  times : (item : TimerStep) (items : List TimerTodo) (s : State) → s.timer.todo ≡ timer_todo.Step item ∷ items → UsesMore s
      → UsesMore (make_timer_step trace item (with_timer (record s.timer { todo = items }) s))
  unfolding make_timer_step
  times (step.Count domain) items s is h = by_same s (load trace domain (with_timer (record s.timer { todo = items }) s)) refl h
  times (step.Peak domain) items s is h = by_same s (peak domain (with_timer (record s.timer { todo = items }) s)) refl h
  times (step.Unseal domain) items s is h = by_same s (unseal domain (with_timer (record s.timer { todo = items }) s)) refl h
  times (step.Thresh domain) items s is h = by_same s (thresh (with_timer (record s.timer { todo = items }) s)) refl h
  times (step.Publish domain) items s is h = by_same s (publish domain (with_timer (record s.timer { todo = items }) s)) refl h

  of_period : (domain : ℕ) (s : State) → UsesMore s → UsesMore (period domain s)
  of_period domain s h =
      either UsesMore (is_time s.timer) (period_to domain (periods s.timer) (after_period (domain_of domain s).events (periods s.timer)) s) s
      (λ time. by_found (after_period (domain_of domain s).events (periods s.timer))) (λ early. h)
    where
      by_found : (found : Option Half) → UsesMore (period_to domain (periods s.timer) found s)
      by_found None = h
      by_found (Some events) = by_same s (period_to domain (periods s.timer) (Some events) s) refl h

  passes : (item : TimerSilent) (items : List TimerTodo) (s : State) → s.timer.todo ≡ timer_todo.Silent item ∷ items → UsesMore s
      → UsesMore (make_timer_move item (with_timer (record s.timer { todo = items }) s))
  unfolding make_timer_move
  passes (silent.Period domain) items s is h =
      let u = with_timer (record s.timer { todo = items }) s in of_period domain u (by_same s u refl h)
  passes silent.Rest items s is h = by_same s (rest (with_timer (record s.timer { todo = items }) s)) refl h

  begins : (s : State) → UsesMore s → UsesMore (begin_timer s)
  begins s h = by_same s (begin_timer s) refl h

  advances : (s : State) → UsesMore s → UsesMore (advance trace s)
  advances s h = advance_keeps trace UsesMore frame Always decides estimates times passes begins s tt h

-- ---- the moments

uses_more_next : (trace : Trace) (k n : ℕ) → part_used trace k (state_at trace n).cpus ≤ part_used trace k (state_at trace (suc n)).cpus
uses_more_next trace k n = ⊎_elim
    (λ over.
    let same : part_used trace k (state_at trace (suc n)).cpus ≡ part_used trace k (state_at trace n).cpus =
    ap (λ (s : State). part_used trace k s.cpus) (run_stays trace n (suc n) (opening trace) (omega arith) over) in omega (arith, same))
    (λ going.
    let same : part_used trace k (state_at trace (suc n)).cpus ≡ part_used trace k (advance trace (state_at trace n)).cpus =
    ap (λ (s : State). part_used trace k s.cpus) (run_last trace n (suc n) (opening trace) (omega arith) going) in
    let more = advances trace (state_at trace n) (state_at trace n) (λ j. omega arith) k in omega (arith, same, more))
    (cases_Bool (is_ended (state_at trace n)))

pub uses_more : (trace : Trace) (k m j : ℕ) → part_used trace k (state_at trace m).cpus ≤ part_used trace k (state_at trace (j + m)).cpus
uses_more trace k m zero = let same : m ≡ 0 + m = omega arith in subst (λ (n : ℕ). part_used trace k (state_at trace m).cpus ≤ part_used trace k (state_at trace n).cpus) same (omega arith)
uses_more trace k m (suc j) =
    let before = uses_more trace k m j in
    let more = uses_more_next trace k (j + m) in
    let then : part_used trace k (state_at trace m).cpus ≤ part_used trace k (state_at trace (suc (j + m))).cpus = omega (arith, before, more) in
    let same : suc (j + m) ≡ suc j + m = omega arith in
    subst (λ (n : ℕ). part_used trace k (state_at trace m).cpus ≤ part_used trace k (state_at trace n).cpus) same then
