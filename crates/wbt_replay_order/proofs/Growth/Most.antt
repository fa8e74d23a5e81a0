-- No move changes how many steps may be made.
use Rattle.std.proofs.Common.{◌≡◌, ℕ, refl, ◌∙◌, Option, Some, None}
use Rattle.wbt_replay_order.proofs.Common.{MOST_STEPS, Trace, update_of, Estimate, after_period, Half, estimate_to, sample_of, make_timer_step, make_timer_move, State, cpu_of, domain_of, writeback_of, with_timer, is_time, periods, period_to, TimerSilent, TimerStep, opening, advance, run, state_at}
use Rattle.wbt_replay_moves.specs.declared.todo.TimerSilent.TheVariants as silent
use Rattle.wbt_replay_moves.specs.declared.todo.TimerStep.TheVariants as step
use Rattle.wbt_replay_order.proofs.Facts.Lists.{either}
use Rattle.wbt_replay_order.proofs.Growth.Advancing.{advance_keeps}
use Rattle.wbt_replay_order.proofs.Growth.Runs.{run_along}

-- as many may be made as in the state before
abbrev Stays : (s u : State) → Type 0
Stays s u = u.most ≡ s.most

estimated : (cpu context : ℕ) (found : Option Estimate) (s : State) → Stays s (estimate_to cpu context found s)
estimated cpu context None s = refl
estimated cpu context (Some e) s = refl

period_begun : (domain k : ℕ) (found : Option Half) (s : State) → Stays s (period_to domain k found s)
period_begun domain k None s = refl
period_begun domain k (Some events) s = refl

stepped : (trace : Trace) (item : TimerStep) (s : State) → Stays s (make_timer_step trace item s)
unfolding make_timer_step
stepped trace (step.Count domain) s = refl
stepped trace (step.Peak domain) s = refl
stepped trace (step.Unseal domain) s = refl
stepped trace (step.Thresh domain) s = refl
stepped trace (step.Publish domain) s = refl

moved : (item : TimerSilent) (s : State) → Stays s (make_timer_move item s)
unfolding make_timer_move
moved (silent.Period domain) s =
    let found = after_period (domain_of domain s).events (periods s.timer) in
    either (Stays s) (is_time s.timer) (period_to domain (periods s.timer) found s) s (λ now. period_begun domain (periods s.timer) found s) (λ not. refl)
moved silent.Rest s = refl

-- after a move as many steps may be made as before it
pub most_kept : (trace : Trace) (s : State) → (advance trace s).most ≡ s.most
most_kept trace s =
    advance_keeps trace (Stays s) (λ u v quiet h. quiet.limit ∙ h) (λ now domains cpus tasks contexts. Unit {0})
    (λ cpu task rest u there is of can h. h)
    (λ cpu context u there h. estimated cpu context (update_of (writeback_of context u).estimate (sample_of trace context (cpu_of cpu u).turn u)) u ∙ h)
    (λ item rest u is h. stepped trace item (with_timer (record u.timer { todo = rest }) u) ∙ h)
    (λ item rest u is h. moved item (with_timer (record u.timer { todo = rest }) u) ∙ h)
    (λ u h. h) s tt refl

-- and so after a run
pub most_run : (trace : Trace) (moves : ℕ) (s : State) → (run trace moves s).most ≡ s.most
most_run trace moves s = run_along (Stays s) trace (λ u going h. most_kept trace u ∙ h) moves s refl

most_first : (trace : Trace) → (opening trace).most ≡ MOST_STEPS
unfolding opening
most_first trace = refl

-- At each moment of a replay as many steps may be made as a replay may have.
pub most_at : (trace : Trace) (moves : ℕ) → (state_at trace moves).most ≡ MOST_STEPS
most_at trace moves = most_run trace moves (opening trace) ∙ most_first trace
