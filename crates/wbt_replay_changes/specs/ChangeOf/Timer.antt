-- The changes of the timer's turn.
use Rattle.std.specs.Prelude.{ℕ, if◌then◌else◌, List, [], ◌∷◌, Option, Some, None}
use Rattle.wbt_counter.specs.History.{at_least_zero}
use Rattle.wbt_flex.specs.Proportions.{after_period}
use Rattle.wbt_flex.specs.declared.half.Half.{Half}
use Rattle.wbt_grant.specs.declared.who.StepKind.TheVariants as kind
use Rattle.wbt_replay_moves.specs.Definition.State.{State, domain_of}
use Rattle.wbt_replay_moves.specs.Definition.Timer.{timer_number, is_time, periods}
use Rattle.wbt_replay_moves.specs.declared.todo.TimerSilent.{TimerSilent}
use Rattle.wbt_replay_moves.specs.declared.todo.TimerSilent.TheVariants as silent
use Rattle.wbt_replay_moves.specs.declared.todo.TimerStep.{TimerStep}
use Rattle.wbt_replay_moves.specs.declared.todo.TimerStep.TheVariants as step
use Rattle.wbt_replay_changes.specs.Change.{Change}
use Rattle.wbt_replay_changes.specs.Change as change
use Rattle.wbt_replay_changes.specs.Change.Timer as timer_change

-- the changes that a step of the timer's turn is
abbrev pub timer_step_changes : (item : TimerStep) (s : State) → List Change
timer_step_changes (step.Count domain) s =
    change.of_timer (timer_change.read domain (at_least_zero (domain_of domain s).count.value)) ∷ change.stepped (timer_number s) kind.Count ∷ []
timer_step_changes (step.Peak domain) s = change.raised domain s.timer.limits.hard ∷ []
timer_step_changes (step.Unseal domain) s = change.unsealed domain ∷ change.stepped (timer_number s) kind.Unseal ∷ []
timer_step_changes (step.Thresh domain) s = change.stepped (timer_number s) kind.Thresh ∷ []
timer_step_changes (step.Publish domain) s = change.published domain ∷ change.stepped (timer_number s) kind.Publish ∷ []

-- a domain gets its events after these periods, unless they were refused
abbrev pub period_changes : (domain k : ℕ) (found : Option Half) → List Change
period_changes domain k None = []
period_changes domain k (Some events) = change.renewed domain k events ∷ []

-- the changes that a silent move of the timer's turn is
abbrev pub timer_move_changes : (item : TimerSilent) (s : State) → List Change
timer_move_changes (silent.Period domain) s =
    if is_time s.timer
    then period_changes domain (periods s.timer) (after_period (domain_of domain s).events (periods s.timer))
    else []
timer_move_changes silent.Rest s = change.of_timer timer_change.rested ∷ []

-- the change with which the timer begins a turn
abbrev pub timer_turn_changes : List Change
timer_turn_changes = change.of_timer timer_change.began ∷ []
