-- The changes that each item of a turn is, and those that a turn begins with. What can't be is no change.
pub mod Flusher
pub mod Idle
pub mod Timer
pub mod Where
pub mod Writer
use Rattle.std.specs.Prelude.{ℕ, List, [], ◌∷◌}
use Rattle.wbt_trace.specs.declared.trace.Trace.{Trace}
use Rattle.wbt_grant.specs.declared.who.StepKind.TheVariants as kind
use Rattle.wbt_replay_moves.specs.Definition.State.{State, cpu_of, flusher_of}
use Rattle.wbt_replay_moves.specs.declared.state.ReplayPhase.{ReplayPhase}
use Rattle.wbt_replay_moves.specs.declared.state.ReplayPhase.TheVariants as phase
use Rattle.wbt_replay_moves.specs.declared.state.Whose.{Whose}
use Rattle.wbt_replay_moves.specs.declared.state.Whose.TheVariants as whose
use Rattle.wbt_replay_moves.specs.declared.todo.Silent.{Silent}
use Rattle.wbt_replay_moves.specs.declared.todo.Silent.TheVariants as silent
use Rattle.wbt_replay_moves.specs.declared.todo.Step.{Step}
use Rattle.wbt_replay_moves.specs.declared.todo.Step.TheVariants as step
use Rattle.wbt_replay_moves.specs.declared.todo.Todo.TheVariants as todo
use Rattle.wbt_replay_changes.specs.Apply.{apply}
use Rattle.wbt_replay_changes.specs.Change.{Change}
use Rattle.wbt_replay_changes.specs.Change as change
use Rattle.wbt_replay_changes.specs.Change.Cpu as cpu_change
use Rattle.wbt_replay_changes.specs.ChangeOf.Flusher.{look_changes, claim_changes, close_changes, hand_over_changes, complete_changes, land_changes}
use Rattle.wbt_replay_changes.specs.ChangeOf.Idle.{idle_changes, test_changes, unmark_changes, estimate_changes, weigh_changes}
use Rattle.wbt_replay_changes.specs.ChangeOf.Where.{by_task, by_flusher, where_taken, where_scanning, where_flying}
use Rattle.wbt_replay_changes.specs.ChangeOf.Writer.{task_changes, dirty_changes, mark_changes, decide_changes, end_changes}

-- the changes that a step of a CPU's turn is
abbrev pub step_changes : (trace : Trace) (cpu : ℕ) (item : Step) (s : State) → List Change
step_changes trace cpu step.Dirty s = by_task (dirty_changes trace cpu) (cpu_of cpu s).turn.whose s
step_changes trace cpu (step.Add x n) s = change.of_cpu cpu (cpu_change.added x n) ∷ change.stepped cpu kind.Add ∷ []
step_changes trace cpu (step.Fold x) s = change.folded cpu x ∷ change.stepped cpu kind.Fold ∷ []
step_changes trace cpu (step.Clear x) s = change.of_cpu cpu (cpu_change.cleared x) ∷ change.stepped cpu kind.Clear ∷ []
step_changes trace cpu (step.Mark inode) s = mark_changes cpu inode s
step_changes trace cpu (step.First domain) s = change.of_cpu cpu (cpu_change.found domain) ∷ change.stepped cpu kind.First ∷ []
step_changes trace cpu (step.Middle domain) s = change.stepped cpu kind.Middle ∷ []
step_changes trace cpu (step.Limits domain) s = change.of_cpu cpu (cpu_change.held domain) ∷ change.stepped cpu kind.Limits ∷ []
step_changes trace cpu (step.Count x) s = change.of_cpu cpu (cpu_change.read x) ∷ change.stepped cpu kind.Count ∷ []
step_changes trace cpu step.Unmark s = by_flusher (where_taken (unmark_changes trace cpu)) (cpu_of cpu s).turn.whose s
step_changes trace cpu step.Look s = by_flusher (where_scanning (look_changes cpu)) (cpu_of cpu s).turn.whose s
step_changes trace cpu (step.Claim word) s = by_flusher (where_scanning (claim_changes cpu word)) (cpu_of cpu s).turn.whose s
step_changes trace cpu step.Complete s = by_flusher (where_flying (complete_changes trace cpu)) (cpu_of cpu s).turn.whose s

-- the changes that a silent move of a CPU's turn is
abbrev pub move_changes : (trace : Trace) (cpu : ℕ) (item : Silent) (s : State) → List Change
move_changes trace cpu silent.Decide s = by_task (decide_changes trace cpu) (cpu_of cpu s).turn.whose s
move_changes trace cpu silent.End s = by_task (end_changes cpu) (cpu_of cpu s).turn.whose s
move_changes trace cpu (silent.Estimate context) s = estimate_changes trace cpu context s
move_changes trace cpu (silent.Weigh context) s = weigh_changes trace cpu context s
move_changes trace cpu silent.Test s = by_flusher (test_changes trace cpu (cpu_of cpu s).turn) (cpu_of cpu s).turn.whose s
move_changes trace cpu silent.Close s = by_flusher (where_scanning (close_changes cpu)) (cpu_of cpu s).turn.whose s
move_changes trace cpu silent.HandOver s = by_flusher (where_scanning (hand_over_changes trace cpu)) (cpu_of cpu s).turn.whose s
move_changes trace cpu silent.Land s = by_flusher (where_flying (land_changes trace cpu)) (cpu_of cpu s).turn.whose s

-- what a flusher's turn begins with
abbrev pub phase_changes : (trace : Trace) (cpu flusher : ℕ) (phase : ReplayPhase) (s : State) → List Change
phase_changes trace cpu flusher (phase.Idle until kept) s = idle_changes trace cpu flusher s
phase_changes trace cpu flusher (phase.Taken inode) s = change.of_cpu cpu (cpu_change.planned (todo.Step step.Unmark ∷ [])) ∷ []
phase_changes trace cpu flusher (phase.Scanning scan) s = change.of_cpu cpu (cpu_change.planned (todo.Step step.Look ∷ [])) ∷ []
phase_changes trace cpu flusher (phase.Flying inode pages until) s = change.of_cpu cpu (cpu_change.planned (todo.Step step.Complete ∷ [])) ∷ []
phase_changes trace cpu flusher phase.Finished s = []

-- what a turn begins with, once it is known whose it is
abbrev pub whose_changes : (trace : Trace) (cpu : ℕ) (whose : Whose) (s : State) → List Change
whose_changes trace cpu (whose.Task task) s = task_changes trace cpu task s
whose_changes trace cpu (whose.Flusher flusher) s = phase_changes trace cpu flusher (flusher_of flusher s).phase s

-- the changes that a turn of a CPU begins with
abbrev pub turn_changes : (trace : Trace) (cpu : ℕ) (whose : Whose) (s : State) → List Change
turn_changes trace cpu whose s =
    change.of_cpu cpu (cpu_change.began whose) ∷ whose_changes trace cpu whose (apply trace (change.of_cpu cpu (cpu_change.began whose)) s)
