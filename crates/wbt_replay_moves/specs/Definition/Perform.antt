-- Each item of a turn: the steps, and the silent moves.
use Rattle.std.specs.Prelude.{ℕ, ◌+◌, [], ◌∷◌}
use Rattle.wbt_trace.specs.declared.trace.Trace.{Trace}
use Rattle.wbt_replay_moves.specs.Definition.Check.{decide}
use Rattle.wbt_replay_moves.specs.Definition.Counters.{add, fold, clear, load_first, load_middle, load_limits, load_count}
use Rattle.wbt_replay_moves.specs.Definition.Cpu.{then_do, at_turn}
use Rattle.wbt_replay_moves.specs.Definition.Estimates.{estimate}
use Rattle.wbt_replay_moves.specs.Definition.Flight.{complete, land}
use Rattle.wbt_replay_moves.specs.Definition.Idle.{begin_idle, test, unmark}
use Rattle.wbt_replay_moves.specs.Definition.Scan.{look, claim, close, hand_over}
use Rattle.wbt_replay_moves.specs.Definition.State.{State, cpu_of, with_cpu, flusher_of}
use Rattle.wbt_replay_moves.specs.Definition.Timer.{load, peak, unseal, thresh, publish, period, rest}
use Rattle.wbt_replay_moves.specs.Definition.Weigh.{weigh}
use Rattle.wbt_replay_moves.specs.Definition.Writer.{begin_task, dirty, mark, end}
use Rattle.wbt_replay_moves.specs.declared.state.ReplayPhase.{ReplayPhase}
use Rattle.wbt_replay_moves.specs.declared.state.ReplayPhase.TheVariants as phase
use Rattle.wbt_replay_moves.specs.declared.state.Whose.{Whose}
use Rattle.wbt_replay_moves.specs.declared.state.Whose.TheVariants as whose
use Rattle.wbt_replay_moves.specs.declared.todo.Todo.TheVariants as todo
use Rattle.wbt_replay_moves.specs.declared.todo.Silent.{Silent}
use Rattle.wbt_replay_moves.specs.declared.todo.Silent.TheVariants as silent
use Rattle.wbt_replay_moves.specs.declared.todo.Step.{Step}
use Rattle.wbt_replay_moves.specs.declared.todo.Step.TheVariants as step
use Rattle.wbt_replay_moves.specs.declared.todo.TimerSilent.{TimerSilent}
use Rattle.wbt_replay_moves.specs.declared.todo.TimerSilent.TheVariants as timer_silent
use Rattle.wbt_replay_moves.specs.declared.todo.TimerStep.{TimerStep}
use Rattle.wbt_replay_moves.specs.declared.todo.TimerStep.TheVariants as timer_step

-- ---- items

-- a step of a CPU's turn
unfoldable pub make_step : (trace : Trace) (cpu : ℕ) (item : Step) (s : State) → State
make_step trace cpu step.Dirty s = dirty trace cpu s
make_step trace cpu (step.Add counter change) s = add trace cpu counter change s
make_step trace cpu (step.Fold counter) s = fold cpu counter s
make_step trace cpu (step.Clear counter) s = clear cpu counter s
make_step trace cpu (step.Mark inode) s = mark trace cpu inode s
make_step trace cpu (step.First domain) s = load_first cpu domain s
make_step trace cpu (step.Middle domain) s = load_middle cpu s
make_step trace cpu (step.Limits domain) s = load_limits cpu domain s
make_step trace cpu (step.Count counter) s = load_count cpu counter s
make_step trace cpu step.Unmark s = unmark trace cpu s
make_step trace cpu step.Look s = look cpu s
make_step trace cpu (step.Claim word) s = claim cpu word s
make_step trace cpu step.Complete s = complete trace cpu s

-- a silent move of a CPU's turn
unfoldable pub make_move : (trace : Trace) (cpu : ℕ) (item : Silent) (s : State) → State
make_move trace cpu silent.Decide s = decide trace cpu s
make_move trace cpu silent.End s = end cpu s
make_move trace cpu (silent.Estimate context) s = estimate trace cpu context s
make_move trace cpu (silent.Weigh context) s = weigh trace cpu context s
make_move trace cpu silent.Test s = test trace cpu s
make_move trace cpu silent.Close s = close trace cpu s
make_move trace cpu silent.HandOver s = hand_over trace cpu s
make_move trace cpu silent.Land s = land trace cpu s

-- a step of the timer's turn, and a silent move of it
unfoldable pub make_timer_step : (trace : Trace) (item : TimerStep) (s : State) → State
make_timer_step trace (timer_step.Count domain) s = load trace domain s
make_timer_step trace (timer_step.Peak domain) s = peak domain s
make_timer_step trace (timer_step.Unseal domain) s = unseal domain s
make_timer_step trace (timer_step.Thresh domain) s = thresh s
make_timer_step trace (timer_step.Publish domain) s = publish domain s

-- a silent move of the timer's turn
unfoldable pub make_timer_move : (item : TimerSilent) (s : State) → State
make_timer_move (timer_silent.Period domain) s = period domain s
make_timer_move timer_silent.Rest s = rest s

-- The CPU has made a step more.
abbrev pub with_made : (cpu : ℕ) (s : State) → State
with_made cpu s = with_cpu cpu (record (cpu_of cpu s) { made = (cpu_of cpu s).made + 1 }) s

-- ---- what a flusher's turn begins with

-- the first item of a flusher's turn, by its phase
abbrev pub begin_phase : (trace : Trace) (cpu flusher : ℕ) (phase : ReplayPhase) (s : State) → State
begin_phase trace cpu flusher (phase.Idle until kept) s = begin_idle trace cpu flusher s
begin_phase trace cpu flusher (phase.Taken inode) s = then_do cpu (todo.Step step.Unmark ∷ []) s
begin_phase trace cpu flusher (phase.Scanning scan) s = then_do cpu (todo.Step step.Look ∷ []) s
begin_phase trace cpu flusher (phase.Flying inode pages until) s = then_do cpu (todo.Step step.Complete ∷ []) s
begin_phase trace cpu flusher phase.Finished s = s

-- a flusher's turn begins
abbrev pub begin_flush : (trace : Trace) (cpu flusher : ℕ) (s : State) → State
begin_flush trace cpu flusher s = begin_phase trace cpu flusher (flusher_of flusher s).phase s

-- the turn of a task or a flusher
abbrev pub begin_for : (trace : Trace) (cpu : ℕ) (whose : Whose) (s : State) → State
begin_for trace cpu (whose.Task task) s = begin_task trace cpu task s
begin_for trace cpu (whose.Flusher flusher) s = begin_flush trace cpu flusher s

-- The CPU begins a turn.
abbrev pub begin_turn : (trace : Trace) (cpu : ℕ) (whose : Whose) (s : State) → State
begin_turn trace cpu whose s = begin_for trace cpu whose (with_cpu cpu (at_turn whose s.now (cpu_of cpu s)) s)
