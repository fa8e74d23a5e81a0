-- The update of a context's estimate in a flusher's test.
use Rattle.std.specs.Prelude.{ℕ, ◌+◌, nat_lt, Option, Some, None}
use Rattle.wbt_trace.specs.declared.trace.Trace.{Trace}
use Rattle.wbt_counter.specs.History.{at_least_zero}
use Rattle.wbt_estimate.specs.Estimate.{update_of}
use Rattle.wbt_estimate.specs.declared.estimate.Estimate.{Estimate}
use Rattle.wbt_estimate.specs.declared.estimate.Sample.{Sample}
use Rattle.wbt_journal.specs.Checks.{domain_read}
use Rattle.wbt_limits.specs.Limits.{setpoint}
use Rattle.wbt_position.specs.Position.{position_ratio}
use Rattle.wbt_position.specs.declared.ratio.DomainRead.{DomainRead}
use Rattle.wbt_replay_moves.specs.Definition.Check.{global_line}
use Rattle.wbt_replay_moves.specs.Definition.Cpu.{estimated}
use Rattle.wbt_replay_moves.specs.Definition.State.{State, cpu_of, with_cpu, writeback_of, with_writeback}
use Rattle.wbt_replay_moves.specs.declared.state.ReplayTurn.{ReplayTurn}
use Rattle.wbt_replay_moves.specs.declared.state.Writeback.{Writeback}

-- what the turn has read of the global domain, for the context
abbrev pub global_read : (trace : Trace) (context : ℕ) (turn : ReplayTurn) (s : State) → DomainRead
global_read trace context turn s = domain_read trace context (global_line context turn s)

-- The ratio is that of the global domain. What was dirtied is what was written and what the context's count reads.
abbrev pub sample_by : (turn : ReplayTurn) (read : DomainRead) (w : Writeback) → Sample
sample_by turn read w = record {
  now = turn.began;
  written = w.written;
  dirtied = w.written + at_least_zero turn.context.value;
  ratio = position_ratio read (at_least_zero turn.context.value) w.estimate.avg;
  below_setpoint = nat_lt read.dirty (setpoint read.limits);
}

-- what the update of a context's estimate is made of
abbrev pub sample_of : (trace : Trace) (context : ℕ) (turn : ReplayTurn) (s : State) → Sample
sample_of trace context turn s = sample_by turn (global_read trace context turn s) (writeback_of context s)

-- a context gets its new estimate, which goes into the journal; where there is none nothing changes
abbrev pub estimate_to : (cpu context : ℕ) (found : Option Estimate) (s : State) → State
estimate_to cpu context None s = s
estimate_to cpu context (Some estimate) s =
    with_cpu cpu (estimated (record { context = context; estimate = estimate }) (cpu_of cpu s))
    (with_writeback context (record (writeback_of context s) { estimate = estimate }) s)

-- a context's estimate is updated where it is old enough
abbrev pub estimate : (trace : Trace) (cpu context : ℕ) (s : State) → State
estimate trace cpu context s =
    estimate_to cpu context (update_of (writeback_of context s).estimate (sample_of trace context (cpu_of cpu s).turn s)) s
