-- The laws that moves are lists of changes, what holds where each change is made, and which moves make plain changes.
use Rattle.std.specs.Prelude.{ℕ, ◌≡◌}
use Rattle.wbt_trace.specs.declared.trace.Trace.{Trace}
use Rattle.wbt_replay_moves.specs.Definition.Perform.{make_step, make_move, make_timer_step, make_timer_move, begin_turn}
use Rattle.wbt_replay_moves.specs.Definition.State.{State}
use Rattle.wbt_replay_moves.specs.Definition.Timer.{begin_timer}
use Rattle.wbt_replay_moves.specs.declared.state.Whose.{Whose}
use Rattle.wbt_replay_moves.specs.declared.todo.Silent.{Silent}
use Rattle.wbt_replay_moves.specs.declared.todo.Step.{Step}
use Rattle.wbt_replay_moves.specs.declared.todo.TimerSilent.{TimerSilent}
use Rattle.wbt_replay_moves.specs.declared.todo.TimerStep.{TimerStep}
use Rattle.wbt_replay_changes.specs.Apply.{apply_all}
use Rattle.wbt_replay_changes.specs.ChangeOf.{step_changes, move_changes, turn_changes}
use Rattle.wbt_replay_changes.specs.ChangeOf.Timer.{timer_step_changes, timer_move_changes, timer_turn_changes}
use Rattle.wbt_replay_changes.specs.Facts.{Along, Each}
use Rattle.wbt_replay_changes.specs.Plain.{IsPlain, IsPlainMove, IsPlainStep, IsSilent, IsUncounted, IsUncountedStep}

-- the moves of a trace's run make of each state what their changes make of it
pub record AreChanges (trace : Trace) : Type 0 where
  pub turns : (cpu : ℕ) (whose : Whose) (s : State) → begin_turn trace cpu whose s ≡ apply_all trace (turn_changes trace cpu whose s) s
  pub steps : (cpu : ℕ) (item : Step) (s : State) → make_step trace cpu item s ≡ apply_all trace (step_changes trace cpu item s) s
  pub moves : (cpu : ℕ) (item : Silent) (s : State) → make_move trace cpu item s ≡ apply_all trace (move_changes trace cpu item s) s
  pub timer_turns : (s : State) → begin_timer s ≡ apply_all trace timer_turn_changes s
  pub timer_steps : (item : TimerStep) (s : State) → make_timer_step trace item s ≡ apply_all trace (timer_step_changes item s) s
  pub timer_moves : (item : TimerSilent) (s : State) → make_timer_move item s ≡ apply_all trace (timer_move_changes item s) s

-- Each move makes of a state what its changes make of it.
abbrev pub MovesAreChanges : Type 0
MovesAreChanges = (trace : Trace) → AreChanges trace

-- the facts of the changes that the moves of a CPU's turn are hold where each is made
pub record HaveFacts (trace : Trace) : Type 0 where
  pub steps : (cpu : ℕ) (item : Step) (s : State) → Along trace (step_changes trace cpu item s) s
  pub moves : (cpu : ℕ) (item : Silent) (s : State) → Along trace (move_changes trace cpu item s) s

-- What holds where a change is made holds in each move.
abbrev pub ChangesHaveFacts : Type 0
ChangesHaveFacts = (trace : Trace) → HaveFacts trace

-- the changes of a CPU's turn are plain: those that it begins with, and those of its items but a write, a check and an estimate;
-- only those of a step make one, and only those of a completion change a count
pub record ArePlain (trace : Trace) : Type 0 where
  pub turns : (cpu : ℕ) (whose : Whose) (s : State) → Each trace IsSilent (turn_changes trace cpu whose s) s
  pub steps : (cpu : ℕ) (item : Step) (s : State) → IsPlainStep item → Each trace IsPlain (step_changes trace cpu item s) s
  pub uncounted : (cpu : ℕ) (item : Step) (s : State) → IsUncountedStep item → Each trace IsUncounted (step_changes trace cpu item s) s
  pub moves : (cpu : ℕ) (item : Silent) (s : State) → IsPlainMove item → Each trace IsSilent (move_changes trace cpu item s) s

-- All changes of a CPU's turn are plain, but those of a write, a check and an estimate.
abbrev pub OthersArePlain : Type 0
OthersArePlain = (trace : Trace) → ArePlain trace
