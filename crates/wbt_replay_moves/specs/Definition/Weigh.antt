-- The test of a context of a strict device: whether it is over its own part of a background threshold. A flusher of the device takes an
-- inode then, even where no domain is over background.
use Rattle.std.specs.Prelude.{ℕ, zero, suc, ◌<◌, Bool, ◌||◌, Option, Some, None, get_or}
use Rattle.wbt_counter.specs.History.{at_least_zero}
use Rattle.wbt_flex.specs.declared.half.Half.{Half}
use Rattle.wbt_journal.specs.Checks.{domain_read, cgroup_read}
use Rattle.wbt_journal.specs.declared.entry.DomainLine.{DomainLine}
use Rattle.wbt_limits.specs.Context.{context_background}
use Rattle.wbt_pause.specs.Reads.{some_domain}
use Rattle.wbt_pause.specs.declared.reads.Reads.{Reads}
use Rattle.wbt_position.specs.declared.ratio.DomainRead.{DomainRead}
use Rattle.wbt_rules.specs.Strict.{is_over_own}
use Rattle.wbt_rules.specs.Things.{group_of}
use Rattle.wbt_trace.specs.declared.trace.Trace.{Trace}
use Rattle.wbt_replay_moves.specs.Definition.Check.{line_of}
use Rattle.wbt_replay_moves.specs.Definition.State.{State, no_count, no_held, cpu_of, with_cpu, writeback_of}
use Rattle.wbt_replay_moves.specs.declared.state.Cpu.{Cpu}
use Rattle.wbt_replay_moves.specs.declared.state.Held.{Held}
use Rattle.wbt_replay_moves.specs.declared.state.Load.{Load}

-- what the CPU holds of a domain, beside which no count is needed
abbrev pub held_load : (held : Held) → Load
held_load held = record { version = held.version; limits = held.limits; count = no_count }

-- the limits of a domain that the CPU holds, with the fraction that a part of it has at this moment
abbrev pub held_line : (domain : ℕ) (c : Cpu) (part : Half) (s : State) → DomainLine
held_line domain c part s = line_of domain (held_load (get_or c.held domain no_held)) part s

-- of the context's cgroup, where it has one
abbrev pub held_in_group : (group context : ℕ) (c : Cpu) (s : State) → Option DomainLine
held_in_group zero context c s = None
held_in_group (suc cgroup) context c s = Some (held_line (suc cgroup) c (writeback_of context s).cgroup_part s)

-- what the context is weighed by: its parts of the thresholds, and the count that the turn loaded last
abbrev pub weighed_by : (trace : Trace) (context : ℕ) (c : Cpu) (s : State) → Reads
weighed_by trace context c s = record {
  global = domain_read trace context (held_line 0 c (writeback_of context s).part s);
  cgroup = cgroup_read trace context (held_in_group (group_of trace context) context c s);
  wb_dirty = at_least_zero c.turn.context.value;
  cpus = trace.cpus;
  cap = trace.cap;
}

-- It reads more pages than its own part of some domain's background threshold.
abbrev pub is_over_by_itself : (reads : Reads) → Bool
is_over_by_itself reads = some_domain (is_over_own reads.wb_dirty) reads

-- `is_over_own` of `wbt_rules` as a statement
abbrev pub IsOverOwn : (reading : ℕ) (read : DomainRead) → Type 0
IsOverOwn reading read = context_background read.wb_thresh read.limits.bg read.limits.thresh < reading

-- The turn notes it.
abbrev pub over_noted : (over : Bool) (c : Cpu) → Cpu
over_noted over c = record c { turn = record c.turn { over = c.turn.over || over } }

-- the turn notes whether a context is over its own part of a background threshold
abbrev pub weigh : (trace : Trace) (cpu context : ℕ) (s : State) → State
weigh trace cpu context s =
    with_cpu cpu (over_noted (is_over_by_itself (weighed_by trace context (cpu_of cpu s) s)) (cpu_of cpu s)) s
