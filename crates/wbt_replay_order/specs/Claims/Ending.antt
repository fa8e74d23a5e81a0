-- Why a run ended: its steps were spent, a CPU was stopped at the trace's halt number, or all was done.
use Rattle.std.specs.Prelude.{◌≡◌, ◌≢◌, ◌↔◌, ℕ, ◌<◌, Bool, true, false, not, ◌&&◌, ◌||◌, ◌==◌, length, count_by, Some, None}
use Rattle.wbt_num.specs.declared.most.TheConstants.{MOST_STEPS}
use Rattle.wbt_trace.specs.declared.trace.Trace.{Trace}
use Rattle.wbt_journal.specs.declared.journal.Ending.TheVariants as ending
use Rattle.wbt_journal.specs.declared.step.StepEntry.{StepEntry}
use Rattle.wbt_replay_moves.specs.Definition.State.{State, cpu_of}
use Rattle.wbt_replay_moves.specs.declared.state.Actor.{Actor}
use Rattle.wbt_replay_moves.specs.declared.state.Actor.TheVariants as actor
use Rattle.wbt_replay_order.specs.Definition.Order.{todo_ahead, ahead_of, is_halted}
use Rattle.wbt_replay_order.specs.Definition.Run.{last_state, journal_of}
use Rattle.wbt_replay_order.specs.declared.chance.Ahead.TheVariants as ahead

-- Every CPU is stopped, or all tasks have ended and the flushers of all other CPUs are finished.
abbrev pub is_over : (s : State) → Bool
is_over s = s.stopped == length s.cpus || (s.running == 0 && s.working == 0)

-- whether a step was made by the CPU
abbrev pub is_made_by : (cpu : ℕ) (step : StepEntry) → Bool
is_made_by cpu step = step.who == cpu

-- The halt line lets the actor make a further step: a CPU that has made fewer steps than it says, and the timer always.
abbrev pub may_step : (trace : Trace) (who : Actor) (s : State) → Bool
may_step trace (actor.Cpu cpu) s = not (is_halted trace.halt (count_by (is_made_by cpu) s.steps))
may_step trace actor.Timer s = true

-- As many steps were made as a replay may have, the run isn't over, and an actor has a step to make next, which no halt line keeps
-- it from.
pub record IsSpentAt (trace : Trace) (s : State) : Type 0 where
  pub steps : length s.steps ≡ MOST_STEPS
  pub ongoing : is_over s ≡ false
  pub who : Actor
  pub due : ahead_of who s ≡ ahead.Step
  pub free : may_step trace who s ≡ true

-- The CPU has made just as many steps as the trace's halt line says, and had a further one to make.
pub record IsStoppedAt (trace : Trace) (s : State) (cpu : ℕ) : Type 0 where
  pub there : cpu < trace.cpus
  pub stopped : (cpu_of cpu s).stopped ≡ true
  pub most : ℕ
  pub halt : trace.halt ≡ Some most
  pub made : count_by (is_made_by cpu) s.steps ≡ most
  pub due : todo_ahead (cpu_of cpu s).todo ≡ ahead.Step

-- The run is told as spent exactly where its steps are spent before it is over; else as halted exactly where a CPU was stopped at
-- the trace's halt number, and as done where none was. A trace with no halt line isn't told as halted.
pub record EndsSo (trace : Trace) : Type 0 where
  pub spent : ((journal_of trace).ending ≡ ending.Spent) ↔ IsSpentAt trace (last_state trace)
  pub halted : ((journal_of trace).ending ≡ ending.Halted)
      ↔ (((journal_of trace).ending ≢ ending.Spent) × ((cpu : ℕ) × IsStoppedAt trace (last_state trace) cpu))
  pub done : ((journal_of trace).ending ≡ ending.Done)
      ↔ (((journal_of trace).ending ≢ ending.Spent) × ((cpu : ℕ) → ¬ IsStoppedAt trace (last_state trace) cpu))
  pub unhalted : trace.halt ≡ None → (journal_of trace).ending ≢ ending.Spent → (journal_of trace).ending ≡ ending.Done
