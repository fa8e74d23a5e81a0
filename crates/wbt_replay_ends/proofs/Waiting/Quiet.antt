-- Items of a turn that change nothing that waits: counters, loads, checks, ends and estimates; and the timer's moves.
use Rattle.std.proofs.Common.{ℕ, zero, suc, eqb, ℤ, pos, ◌+ℤ◌, unsigned_abs, [], ◌∷◌, refl, arith, Option, Some, None}
use Rattle.wbt_replay_order.proofs.Common.{Trace, Counter, update_of, Estimate, after_period, Half, decide_by, writer_of, add, fold, clear, load_first, load_middle, load_limits, load_count, batch_of, added, own_of, with_own, estimate, estimate_to, sample_of, make_timer_step, make_timer_move, State, cpu_of, task_of, domain_of, writeback_of, period, period_to, periods, is_time, weigh, end_by, end_now, has_nothing, Cpu, Whose, TimerSilent, TimerStep, Waiting}
use Rattle.wbt_counter.specs.declared.counter.Counter.TheVariants.{Domain as ofDomain, Context as ofContext}
use Rattle.wbt_replay_moves.specs.Definition.Check.{decide}
use Rattle.wbt_replay_moves.specs.Definition.Writer.{end}
use Rattle.wbt_replay_moves.specs.declared.state.Whose.TheVariants as whose
use Rattle.wbt_replay_moves.specs.declared.todo.Step.TheVariants as step
use Rattle.wbt_replay_moves.specs.declared.todo.TimerSilent.TheVariants as timer_silent
use Rattle.wbt_replay_moves.specs.declared.todo.TimerStep.TheVariants as timer_step
use Rattle.wbt_replay_moves.specs.declared.todo.Todo.TheVariants as todo
use Rattle.wbt_replay_order.proofs.Facts.Lists.{either}
use Rattle.wbt_replay_order.proofs.Lists.Todos.{Alike, same_alike, push_alike}
use Rattle.wbt_replay_ends.proofs.Waiting.Still.{still, cpu_stays}

module _ (trace : Trace) (cpu : ℕ) (s : State) (w : Waiting trace s) where
  -- ---- counters

  own_alike : (x : Counter) (n : ℤ) (c : Cpu) → Alike trace c (with_own x n c)
  own_alike (ofDomain d) n c = same_alike trace c (with_own (ofDomain d) n c) refl refl
  own_alike (ofContext k) n c = same_alike trace c (with_own (ofContext k) n c) refl refl

  full_alike : (x : Counter) (n : ℤ) (c : Cpu) → Alike trace c (record (with_own x n c) { todo = todo.Step (step.Fold x) ∷ todo.Step (step.Clear x) ∷ (with_own x n c).todo })
  full_alike (ofDomain d) n c = push_alike trace (todo.Step (step.Fold (ofDomain d)) ∷ todo.Step (step.Clear (ofDomain d)) ∷ []) c _ (refl, (refl, tt)) refl refl
  full_alike (ofContext k) n c = push_alike trace (todo.Step (step.Fold (ofContext k)) ∷ todo.Step (step.Clear (ofContext k)) ∷ []) c _ (refl, (refl, tt)) refl refl

  pub add_waits : (x : Counter) (change : ℤ) → Waiting trace (add trace cpu x change s)
  add_waits x change =
      let n : ℤ = own_of x (cpu_of cpu s) +ℤ change in
      cpu_stays trace cpu (added (batch_of trace x) x n (cpu_of cpu s)) s _ w
      (either (Alike trace (cpu_of cpu s)) (eqb (unsigned_abs n) (batch_of trace x)) _ _ (λ full. full_alike x n (cpu_of cpu s)) (λ room. own_alike x n (cpu_of cpu s)))
      refl (omega arith) refl refl refl refl

  pub fold_waits : (x : Counter) → Waiting trace (fold cpu x s)
  fold_waits (ofDomain d) = cpu_stays trace cpu _ s (fold cpu (ofDomain d) s) w (same_alike trace (cpu_of cpu s) _ refl refl) refl (omega arith) refl refl refl refl
  fold_waits (ofContext k) = cpu_stays trace cpu _ s (fold cpu (ofContext k) s) w (same_alike trace (cpu_of cpu s) _ refl refl) refl (omega arith) refl refl refl refl

  pub clear_waits : (x : Counter) → Waiting trace (clear cpu x s)
  clear_waits x = cpu_stays trace cpu (with_own x (pos 0) (cpu_of cpu s)) s _ w (own_alike x (pos 0) (cpu_of cpu s)) refl (omega arith) refl refl refl refl

  pub first_waits : (d : ℕ) → Waiting trace (load_first cpu d s)
  first_waits d = cpu_stays trace cpu _ s (load_first cpu d s) w (same_alike trace (cpu_of cpu s) _ refl refl) refl (omega arith) refl refl refl refl

  pub middle_waits : Waiting trace (load_middle cpu s)
  middle_waits = still trace s (load_middle cpu s) w refl (omega arith) refl refl refl refl

  pub limits_waits : (d : ℕ) → Waiting trace (load_limits cpu d s)
  limits_waits zero = cpu_stays trace cpu _ s (load_limits cpu zero s) w (same_alike trace (cpu_of cpu s) _ refl refl) refl (omega arith) refl refl refl refl
  limits_waits (suc g) = cpu_stays trace cpu _ s (load_limits cpu (suc g) s) w (same_alike trace (cpu_of cpu s) _ refl refl) refl (omega arith) refl refl refl refl

  pub count_waits : (x : Counter) → Waiting trace (load_count cpu x s)
  count_waits (ofDomain zero) = cpu_stays trace cpu _ s (load_count cpu (ofDomain zero) s) w (same_alike trace (cpu_of cpu s) _ refl refl) refl (omega arith) refl refl refl refl
  count_waits (ofDomain (suc g)) = cpu_stays trace cpu _ s (load_count cpu (ofDomain (suc g)) s) w (same_alike trace (cpu_of cpu s) _ refl refl) refl (omega arith) refl refl refl refl
  count_waits (ofContext k) = cpu_stays trace cpu _ s (load_count cpu (ofContext k) s) w (same_alike trace (cpu_of cpu s) _ refl refl) refl (omega arith) refl refl refl refl

  -- ---- a task, and an estimate

  decide_by_waits : (x : Whose) → Waiting trace (decide_by trace cpu x s)
  decide_by_waits (whose.Task task) = cpu_stays trace cpu _ s _ w (same_alike trace (cpu_of cpu s) _ refl refl) refl (omega arith) refl refl refl refl
  decide_by_waits (whose.Flusher flusher) = w

  pub decide_waits : Waiting trace (decide trace cpu s)
  decide_waits = decide_by_waits (cpu_of cpu s).turn.whose

  end_by_waits : (x : Whose) → Waiting trace (end_by cpu x s)
  end_by_waits (whose.Task task) =
      either (Waiting trace) (has_nothing (task_of task s).works (writer_of (task_of task s)).due) (end_now cpu task s) s
      (λ ends. cpu_stays trace cpu _ s _ w (same_alike trace (cpu_of cpu s) _ refl refl) refl (omega arith) refl refl refl refl) (λ more. w)
  end_by_waits (whose.Flusher flusher) = w

  pub end_waits : Waiting trace (end cpu s)
  end_waits = end_by_waits (cpu_of cpu s).turn.whose

  pub weigh_waits : (context : ℕ) → Waiting trace (weigh trace cpu context s)
  weigh_waits context = cpu_stays trace cpu _ s (weigh trace cpu context s) w (same_alike trace (cpu_of cpu s) _ refl refl) refl (omega arith) refl refl refl refl

  pub estimate_waits : (context : ℕ) → Waiting trace (estimate trace cpu context s)
  estimate_waits context = by_found (update_of (writeback_of context s).estimate (sample_of trace context (cpu_of cpu s).turn s))
    where
      by_found : (found : Option Estimate) → Waiting trace (estimate_to cpu context found s)
      by_found None = w
      by_found (Some e) = cpu_stays trace cpu _ s (estimate_to cpu context (Some e) s) w (same_alike trace (cpu_of cpu s) _ refl refl) refl (omega arith) refl refl refl refl

-- ---- the timer

module _ (trace : Trace) (s : State) (w : Waiting trace s) where
  pub timer_step_waits : (item : TimerStep) → Waiting trace (make_timer_step trace item s)
  unfolding make_timer_step
  timer_step_waits (timer_step.Count domain) = still trace s _ w refl (omega arith) refl refl refl refl
  timer_step_waits (timer_step.Peak domain) = still trace s _ w refl (omega arith) refl refl refl refl
  timer_step_waits (timer_step.Unseal domain) = still trace s _ w refl (omega arith) refl refl refl refl
  timer_step_waits (timer_step.Thresh domain) = still trace s _ w refl (omega arith) refl refl refl refl
  timer_step_waits (timer_step.Publish domain) = still trace s _ w refl (omega arith) refl refl refl refl

  period_waits : (domain : ℕ) → Waiting trace (period domain s)
  period_waits domain =
      either (Waiting trace) (is_time s.timer) (period_to domain (periods s.timer) (after_period (domain_of domain s).events (periods s.timer)) s) s
      (λ time. by_found (after_period (domain_of domain s).events (periods s.timer))) (λ early. w)
    where
      by_found : (found : Option Half) → Waiting trace (period_to domain (periods s.timer) found s)
      by_found None = w
      by_found (Some events) = still trace s _ w refl (omega arith) refl refl refl refl

  pub timer_move_waits : (item : TimerSilent) → Waiting trace (make_timer_move item s)
  unfolding make_timer_move
  timer_move_waits (timer_silent.Period domain) = period_waits domain
  timer_move_waits timer_silent.Rest = still trace s _ w refl (omega arith) refl refl refl refl
