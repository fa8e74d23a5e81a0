-- The items of turns leave the clock, the order lines and the rotation alone, and those of CPUs the timer.
use Rattle.std.proofs.Common.{◌≡◌, ℕ, Bool, cond, List, [], ◌∷◌, Option, Some, None, refl, ◌∙◌}
use Rattle.wbt_counter.specs.declared.counter.Counter.TheVariants.{Domain as ofDomain, Context as ofContext}
use Rattle.wbt_replay_order.proofs.Common.{update_of, Estimate, after_period, Half, Trace, decide_by, estimate_to, sample_of, make_step, make_move, make_timer_step, make_timer_move, begin_turn, State, cpu_of, task_of, with_task, domain_of, writeback_of, period_to, is_time, periods, passed_page, dirty_by, dirty_next, dirty_page, dirty_fresh, Actor, ReplayWork, Stretch, Timer, Whose, Silent, Step, TimerSilent, TimerStep, apply, Change, turn_keeps, move_keeps, uncounted}
use Rattle.wbt_replay_moves.specs.declared.state.ReplayWork.TheVariants as work
use Rattle.wbt_replay_moves.specs.declared.state.Whose.TheVariants as whose
use Rattle.wbt_replay_moves.specs.declared.todo.Silent.TheVariants as silent
use Rattle.wbt_replay_moves.specs.declared.todo.Step.TheVariants as step
use Rattle.wbt_replay_moves.specs.declared.todo.TimerSilent.TheVariants as timer_silent
use Rattle.wbt_replay_moves.specs.declared.todo.TimerStep.TheVariants as timer_step
use Rattle.wbt_replay_changes.specs.Change as change
use Rattle.wbt_replay_changes.specs.Plain.{IsPlain, IsSilent}
use Rattle.wbt_replay_changes.proofs.Keeping.{step_keeps}
use Rattle.wbt_replay_changes.proofs.Plain.{plain}
use Rattle.wbt_replay_order.proofs.Facts.Lists.{either}

-- what belongs to the run's order, and to no turn
pub record Order : Type 0 where
  pub now : ℕ
  pub orders : List Stretch
  pub rotation : Option Actor

-- and with it the timer, which no CPU changes
pub record Outside : Type 0 where
  pub order : Order
  pub timer : Timer

abbrev pub order_of : (s : State) → Order
order_of s = record { now = s.now; orders = s.orders; rotation = s.rotation }

abbrev pub outside : (s : State) → Outside
outside s = record { order = order_of s; timer = s.timer }

abbrev pub Kept : (s u : State) → Type 0
Kept s u = order_of u ≡ order_of s

abbrev pub Apart : (s u : State) → Type 0
Apart s u = outside u ≡ outside s

-- by either of two
pub both_kept : (s : State) (b : Bool) (x y : State) → Kept s x → Kept s y → Kept s (cond b x y)
both_kept s b x y p q = either (Kept s) b x y (λ t. p) (λ t. q)

pub both_apart : (s : State) (b : Bool) (x y : State) → Apart s x → Apart s y → Apart s (cond b x y)
both_apart s b x y p q = either (Apart s) b x y (λ t. p) (λ t. q)

-- ---- a change

apart_change : (trace : Trace) (s : State) (one : Change) → IsPlain one s → Apart s (apply trace one s)
apart_change trace s (change.of_timer one) h = absurd h
apart_change trace s (change.raised domain hard) h = absurd h
apart_change trace s (change.published domain) h = absurd h
apart_change trace s (change.renewed domain periods events) h = absurd h
apart_change trace s (change.folded cpu (ofDomain d)) h = refl
apart_change trace s (change.folded cpu (ofContext k)) h = refl
apart_change trace s other h = refl

apart_silent : (trace : Trace) (s : State) (one : Change) → IsSilent one s → Apart s (apply trace one s)
apart_silent trace s one h = apart_change trace s one (plain one s (uncounted one s h))

then_apart : (s u v : State) → Apart s u → Apart u v → Apart s v
then_apart s u v h k = k ∙ h

-- ---- steps of a CPU

apart_page : (trace : Trace) (cpu task inode page : ℕ) (s : State) → Apart s (dirty_page trace cpu task inode page s)
apart_page trace cpu task inode page s = both_apart s (s.book page).dirty _ (dirty_fresh trace cpu task inode page s) refl refl

apart_next : (trace : Trace) (cpu task : ℕ) (works : List ReplayWork) (s : State) → Apart s (dirty_next trace cpu task works s)
apart_next trace cpu task [] s = refl
apart_next trace cpu task (work.Rest ticks ∷ works) s = refl
apart_next trace cpu task (work.Write inode page pages ∷ works) s =
    apart_page trace cpu task inode page (with_task task (passed_page inode page pages works (task_of task s)) s)

apart_dirty : (trace : Trace) (cpu : ℕ) (w : Whose) (s : State) → Apart s (dirty_by trace cpu w s)
apart_dirty trace cpu (whose.Task task) s = apart_next trace cpu task (task_of task s).works s
apart_dirty trace cpu (whose.Flusher flusher) s = refl

pub apart_step : (trace : Trace) (cpu : ℕ) (item : Step) (s : State) → Apart s (make_step trace cpu item s)
unfolding make_step
apart_step trace cpu step.Dirty s = apart_dirty trace cpu (cpu_of cpu s).turn.whose s
apart_step trace cpu other s = step_keeps trace Apart (λ u. refl) then_apart (apart_change trace) cpu other s tt

-- ---- silent moves of a CPU

apart_decide : (trace : Trace) (cpu : ℕ) (w : Whose) (s : State) → Apart s (decide_by trace cpu w s)
apart_decide trace cpu (whose.Task task) s = refl
apart_decide trace cpu (whose.Flusher flusher) s = refl

apart_estimate : (cpu context : ℕ) (found : Option Estimate) (s : State) → Apart s (estimate_to cpu context found s)
apart_estimate cpu context None s = refl
apart_estimate cpu context (Some e) s = refl

pub apart_move : (trace : Trace) (cpu : ℕ) (item : Silent) (s : State) → Apart s (make_move trace cpu item s)
unfolding make_move
apart_move trace cpu silent.Decide s = apart_decide trace cpu (cpu_of cpu s).turn.whose s
apart_move trace cpu (silent.Estimate context) s =
    apart_estimate cpu context (update_of (writeback_of context s).estimate (sample_of trace context (cpu_of cpu s).turn s)) s
apart_move trace cpu other s = move_keeps trace Apart (λ u. refl) then_apart (apart_silent trace) cpu other s tt

-- ---- the beginning of a turn

pub apart_turn : (trace : Trace) (cpu : ℕ) (w : Whose) (s : State) → Apart s (begin_turn trace cpu w s)
apart_turn trace = turn_keeps trace Apart (λ u. refl) then_apart (apart_silent trace)

-- ---- the timer

pub kept_timer_step : (trace : Trace) (item : TimerStep) (s : State) → Kept s (make_timer_step trace item s)
unfolding make_timer_step
kept_timer_step trace (timer_step.Count domain) s = refl
kept_timer_step trace (timer_step.Peak domain) s = refl
kept_timer_step trace (timer_step.Unseal domain) s = refl
kept_timer_step trace (timer_step.Thresh domain) s = refl
kept_timer_step trace (timer_step.Publish domain) s = refl

kept_period : (domain k : ℕ) (found : Option Half) (s : State) → Kept s (period_to domain k found s)
kept_period domain k None s = refl
kept_period domain k (Some events) s = refl

pub kept_timer_move : (item : TimerSilent) (s : State) → Kept s (make_timer_move item s)
unfolding make_timer_move
kept_timer_move (timer_silent.Period domain) s =
    both_kept s (is_time s.timer) (period_to domain (periods s.timer) (after_period (domain_of domain s).events (periods s.timer)) s) s
    (kept_period domain (periods s.timer) (after_period (domain_of domain s).events (periods s.timer)) s) refl
kept_timer_move timer_silent.Rest s = refl
