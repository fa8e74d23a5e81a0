-- Steps on counters: an event is added to the CPU's own number, a full number is folded into the shared count, and cleared.
use Rattle.std.specs.Prelude.{ℕ, zero, suc, ◌+◌, ◌/◌, ◌%◌, Bool, ◌==◌, ◌&&◌, ◌||◌, if◌then◌else◌, get_or, set, ℤ, pos, ◌+ℤ◌}
use Rattle.wbt_trace.specs.declared.trace.Trace.{Trace}
use Rattle.wbt_num.specs.declared.limits.Limits.{Limits}
use Rattle.wbt_counter.specs.declared.counter.Count.{Count}
use Rattle.wbt_counter.specs.declared.counter.Counter.{Counter}
use Rattle.wbt_counter.specs.declared.counter.Counter.TheVariants.{Domain, Context}
use Rattle.wbt_counter.specs.History.{at_least_zero}
use Rattle.wbt_grant.specs.declared.who.StepKind.TheVariants as kind
use Rattle.wbt_journal.specs.Machine.{batch_of}
use Rattle.wbt_journal.specs.declared.entry.Entry.TheVariants as entry
use Rattle.wbt_rules.specs.Flusher.{is_over_background}
use Rattle.wbt_replay_moves.specs.Definition.Cpu.{logged, own_of, with_own, added}
use Rattle.wbt_replay_moves.specs.Definition.State.{State, no_held, cpu_of, with_cpu, domain_of, count_of, with_count, plain_step}
use Rattle.wbt_replay_moves.specs.declared.state.Cpu.{Cpu}
use Rattle.wbt_replay_moves.specs.declared.state.Domain.{Domain as DomainState}
use Rattle.wbt_replay_moves.specs.declared.state.Found.{Found}
use Rattle.wbt_replay_moves.specs.declared.state.Held.{Held}
use Rattle.wbt_replay_moves.specs.declared.state.ReplayTurn.{ReplayTurn}

-- an event is added to the CPU's own number of a counter
abbrev pub add : (trace : Trace) (cpu : ℕ) (x : Counter) (change : ℤ) (s : State) → State
add trace cpu x change s =
    plain_step cpu kind.Add
    (with_cpu cpu (added (batch_of trace x) x (own_of x (cpu_of cpu s) +ℤ change) (cpu_of cpu s)) s)

-- the shared count with a further fold
abbrev pub counted : (n : ℤ) (count : Count) → Count
counted n count = record { version = count.version + 1; value = count.value +ℤ n }

-- The fold's version and number go into the journal.
abbrev pub fold_of : (x : Counter) (count : Count) (c : Cpu) → Cpu
fold_of x count c = logged (entry.Folded (record { counter = x; version = count.version + 1; delta = own_of x c })) c

-- the CPU's own number is folded into the shared count, which gets its next version
abbrev pub fold : (cpu : ℕ) (x : Counter) (s : State) → State
fold cpu x s =
    plain_step cpu kind.Fold
    (with_cpu cpu (fold_of x (count_of x s) (cpu_of cpu s)) (with_count x (counted (own_of x (cpu_of cpu s)) (count_of x s)) s))

-- the CPU's own number is cleared, after its fold
abbrev pub clear : (cpu : ℕ) (x : Counter) (s : State) → State
clear cpu x s = plain_step cpu kind.Clear (with_cpu cpu (with_own x (pos 0) (cpu_of cpu s)) s)

-- ---- loads, which the turn keeps

-- A load of limits has three steps. The first finds the sequence word: the sequence, and the hard limit that stands published.
abbrev pub word_of : (d : DomainState) → Found
word_of d = record { sequence = d.sequence; hard = d.limits.hard }

-- the first step of a load: the turn keeps the sequence word that it finds
abbrev pub load_first : (cpu domain : ℕ) (s : State) → State
load_first cpu domain s =
    let c = cpu_of cpu s in
    plain_step cpu kind.First (with_cpu cpu (record c { turn = record c.turn { found = word_of (domain_of domain s) } }) s)

-- The second loads the thresh word. It is that of the published limits wherever the last step finds them read whole.
abbrev pub load_middle : (cpu : ℕ) (s : State) → State
load_middle cpu s = plain_step cpu kind.Middle s

-- They were read whole where the sequence word is as it was found, and the sequence even.
abbrev pub is_whole : (found : Found) (d : DomainState) → Bool
is_whole found d = (found.sequence == d.sequence && found.hard == d.limits.hard) && d.sequence % 2 == 0

-- Then the CPU holds them from now on, and else those that it holds.
abbrev pub held_after : (found : Found) (d : DomainState) (held : Held) → Held
held_after found d held = if is_whole found d then record { version = d.sequence / 2; limits = d.limits } else held

-- In either case the turn keeps what the CPU holds.
abbrev pub limits_kept : (domain : ℕ) (held : Held) (turn : ReplayTurn) → ReplayTurn
limits_kept zero held turn = record turn { global = record turn.global { version = held.version; limits = held.limits } }
limits_kept (suc cgroup) held turn = record turn { cgroup = record turn.cgroup { version = held.version; limits = held.limits } }

-- the CPU and its turn keep these limits of a domain
abbrev pub keeps : (domain : ℕ) (held : Held) (c : Cpu) → Cpu
keeps domain held c = record c { held = set c.held domain held; turn = limits_kept domain held c.turn }

-- the CPU holds the published limits where they were read whole, and else those that it held
abbrev pub holds : (domain : ℕ) (d : DomainState) (c : Cpu) → Cpu
holds domain d c = keeps domain (held_after c.turn.found d (get_or c.held domain no_held)) c

-- the last step of a load: the sequence word is compared, and the limits are kept
abbrev pub load_limits : (cpu domain : ℕ) (s : State) → State
load_limits cpu domain s = plain_step cpu kind.Limits (with_cpu cpu (holds domain (domain_of domain s) (cpu_of cpu s)) s)

-- the domain is over background by what was loaded of it
abbrev pub is_over : (limits : Limits) (count : Count) → Bool
is_over limits count = is_over_background (at_least_zero count.value) limits

-- the turn keeps a count that was loaded, and whether the domain is over background by it
abbrev pub count_kept : (x : Counter) (count : Count) (turn : ReplayTurn) → ReplayTurn
count_kept (Context context) count turn = record turn { context = count }
count_kept (Domain zero) count turn =
    record turn { global = record turn.global { count = count }; over = turn.over || is_over turn.global.limits count }
count_kept (Domain (suc cgroup)) count turn =
    record turn { cgroup = record turn.cgroup { count = count }; over = turn.over || is_over turn.cgroup.limits count }

-- the CPU loads a shared count
abbrev pub load_count : (cpu : ℕ) (x : Counter) (s : State) → State
load_count cpu x s =
    let c = cpu_of cpu s in
    plain_step cpu kind.Count (with_cpu cpu (record c { turn = count_kept x (count_of x s) c.turn }) s)
