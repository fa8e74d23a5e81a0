-- What each printed check decided: the control law, of what it printed.
use Rattle.std.specs.Prelude.{◌≡◌, ℕ, ◌+◌, ◌<◌, ◌≤◌, ◌⊎◌, List, [], ◌∷◌, length, Contains}
use Rattle.wbt_trace.specs.declared.trace.Trace.{Trace}
use Rattle.wbt_estimate.specs.declared.estimate.Estimate.{Estimate}
use Rattle.wbt_journal.specs.Checks.{reads_by}
use Rattle.wbt_journal.specs.declared.entry.CheckEntry.{CheckEntry}
use Rattle.wbt_pause.specs.declared.pauses.TheConstants.{LONGEST_PAUSE}
use Rattle.wbt_pause.specs.declared.reads.Task.{Task}
use Rattle.wbt_rules.specs.First.{first_estimate}
use Rattle.wbt_rules.specs.Strict.{is_strict}
use Rattle.wbt_strict.specs.Decision.{decision_for}
use Rattle.wbt_task.specs.declared.allowance.Due.TheVariants as due
use Rattle.wbt_replay_moves.specs.Definition.Check.{writer_in, check_of}
use Rattle.wbt_replay_moves.specs.Definition.State.{State, cpu_of, task_of, writeback_of}
use Rattle.wbt_replay_moves.specs.declared.state.Whose.TheVariants as whose
use Rattle.wbt_replay_moves.specs.declared.todo.Silent.TheVariants as silent
use Rattle.wbt_replay_moves.specs.declared.todo.Todo.{Todo}
use Rattle.wbt_replay_moves.specs.declared.todo.Todo.TheVariants as todo
use Rattle.wbt_replay_order.specs.Definition.Opening.{opening_moment}
use Rattle.wbt_replay_order.specs.Definition.Run.{state_at, last_state}

-- some CPU's part has the estimate for the context
abbrev pub IsPublished : (s : State) (cpus context : ℕ) (estimate : Estimate) → Type 0
IsPublished s cpus context estimate =
    (i : ℕ) × (i < cpus) × Contains (cpu_of i s).estimates (record { context = context; estimate = estimate })

-- the estimate that a check names is the first one of its context, or one that was published for it
pub record IsNamed (trace : Trace) (s : State) (check : CheckEntry) (estimate : Estimate) : Type 0 where
  pub version : estimate.version ≡ check.estimate
  pub told : (estimate ≡ first_estimate trace check.context opening_moment) ⊎ IsPublished s trace.cpus check.context estimate

-- The run was once where the check was made: the CPU had told just the checks before its place, and came to a decision in a turn of the
-- check's task, of its context, which had loaded what the check prints. The check was due, the shares and the clock were those of the
-- check, and the context's estimate and the writer's numbers were these.
pub record WasAsked (trace : Trace) (cpu place : ℕ) (check : CheckEntry) (estimate : Estimate) (numbers : Task) : Type 0 where
  pub moves : ℕ
  pub checks_before : length (cpu_of cpu (state_at trace moves)).checks ≡ place
  pub rest : List Todo
  pub decided_next : (cpu_of cpu (state_at trace moves)).todo ≡ todo.Silent silent.Decide ∷ rest
  pub turn : (cpu_of cpu (state_at trace moves)).turn.whose ≡ whose.Task check.task
  pub context : (task_of check.task (state_at trace moves)).context ≡ check.context
  pub check_was_due : (writer_in check.context (task_of check.task (state_at trace moves))).due ≡ due.Check
  pub printed : check ≡ check_of trace check.task check.context (cpu_of cpu (state_at trace moves)).turn check.decision (state_at trace moves)
  pub estimate_was : (writeback_of check.context (state_at trace moves)).estimate ≡ estimate
  pub numbers_were : (writer_in check.context (task_of check.task (state_at trace moves))).task ≡ numbers

-- A check at a place among a CPU's: its context is there, and the decision is the law's, the strict one in a context of a strict device, of
-- the printed reads, the named estimate, the numbers that the writer had, and the moment. Its pause is at most `LONGEST_PAUSE`.
pub record IsDecided (trace : Trace) (s : State) (cpu place : ℕ) (check : CheckEntry) : Type 0 where
  pub context : check.context < length trace.contexts
  pub estimate : Estimate
  pub numbers : Task
  pub asked : WasAsked trace cpu place check estimate numbers
  pub named : IsNamed trace s check estimate
  pub decision : check.decision ≡ decision_for (is_strict trace check.context) (reads_by trace check) estimate numbers check.now
  pub pause : check.decision.pause ≤ LONGEST_PAUSE

-- what holds of each item of a list and of its place, counted from one on
abbrev pub EachFrom : {A : Type 0} (P : ℕ → A → Type 0) (place : ℕ) (items : List A) → Type 0
EachFrom P place [] = Unit {0}
EachFrom P place (x ∷ xs) = P place x × EachFrom P (place + 1) xs

-- so is each check of each CPU, at its own place among them
abbrev pub AreDecided : (trace : Trace) → Type 0
AreDecided trace = (i : ℕ) → i < trace.cpus → EachFrom (IsDecided trace (last_state trace) i) 0 (cpu_of i (last_state trace)).checks
