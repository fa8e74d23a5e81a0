-- What the parts of the journal and the steps name at each moment of a run.
use Rattle.std.specs.Prelude.{ℕ, length}
use Rattle.wbt_journal.specs.Each.{Each}
use Rattle.wbt_journal.specs.Machine.{domains}
use Rattle.wbt_journal.specs.Told.{NamesInOrder}
use Rattle.wbt_trace.specs.declared.trace.Trace.{Trace}
use Rattle.wbt_replay_moves.specs.Definition.State.{State, cpu_of}
use Rattle.wbt_replay_moves.specs.declared.state.Cpu.{Cpu}
use Rattle.wbt_replay_order.specs.Claims.Whole.{IsAtHome}
use Rattle.wbt_replay_order.specs.Definition.Run.{part_of}

-- the entries of the CPU's part name all its checks and estimates, each once, in order
abbrev pub PartNamesInOrder : (c : Cpu) → Type 0
PartNamesInOrder c = NamesInOrder (part_of c)

-- at this moment each part names its checks and estimates in order, and each step a context and a domain of the trace
pub record Naming (trace : Trace) (s : State) : Type 0 where
  pub named : (i : ℕ) → PartNamesInOrder (cpu_of i s)
  -- each step that changes a count names a context of the trace, and each names a domain of it
  pub steps : Each (IsAtHome (length trace.contexts) (domains trace)) s.steps
