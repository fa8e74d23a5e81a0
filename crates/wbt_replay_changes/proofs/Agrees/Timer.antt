-- The timer's turn.
use Rattle.std.proofs.Common.{ℕ, Option, Some, None, refl}
use Rattle.wbt_flex.specs.Proportions.{after_period}
use Rattle.wbt_flex.specs.declared.half.Half.{Half}
use Rattle.wbt_trace.specs.declared.trace.Trace.{Trace}
use Rattle.wbt_replay_moves.specs.Definition.Perform.{make_timer_step, make_timer_move}
use Rattle.wbt_replay_moves.specs.Definition.State.{State, domain_of}
use Rattle.wbt_replay_moves.specs.Definition.Timer.{is_time, periods, period_to}
use Rattle.wbt_replay_moves.specs.declared.todo.TimerSilent.{TimerSilent}
use Rattle.wbt_replay_moves.specs.declared.todo.TimerSilent.TheVariants as silent
use Rattle.wbt_replay_moves.specs.declared.todo.TimerStep.{TimerStep}
use Rattle.wbt_replay_moves.specs.declared.todo.TimerStep.TheVariants as step
use Rattle.wbt_replay_changes.specs.ChangeOf.Timer.{timer_step_changes, period_changes, timer_move_changes}
use Rattle.wbt_replay_changes.proofs.Agrees.Choice.{IsMade, chosen}

module _ (trace : Trace) where
  pub timer_step_agrees : (item : TimerStep) (s : State) → IsMade trace s (timer_step_changes item s) (make_timer_step trace item s)
  unfolding make_timer_step
  timer_step_agrees (step.Count domain) s = refl
  timer_step_agrees (step.Peak domain) s = refl
  timer_step_agrees (step.Unseal domain) s = refl
  timer_step_agrees (step.Thresh domain) s = refl
  timer_step_agrees (step.Publish domain) s = refl

  period_agrees : (domain k : ℕ) (found : Option Half) (s : State) → IsMade trace s (period_changes domain k found) (period_to domain k found s)
  period_agrees domain k None s = refl
  period_agrees domain k (Some events) s = refl

  pub timer_move_agrees : (item : TimerSilent) (s : State) → IsMade trace s (timer_move_changes item s) (make_timer_move item s)
  unfolding make_timer_move
  timer_move_agrees (silent.Period domain) s =
      chosen trace s (is_time s.timer) _ _ _ _ (period_agrees domain (periods s.timer) (after_period (domain_of domain s).events (periods s.timer)) s) refl
  timer_move_agrees silent.Rest s = refl
