-- What becomes of a CPU.
use Rattle.std.specs.Prelude.{ℕ, ◌==◌, if◌then◌else◌, ℤ, pos, unsigned_abs, false, List, [], ◌∷◌, ◌++◌, length, get_or, set}
use Rattle.wbt_counter.specs.declared.counter.Counter.{Counter}
use Rattle.wbt_counter.specs.declared.counter.Counter.TheVariants.{Domain, Context}
use Rattle.wbt_journal.specs.declared.entry.CheckEntry.{CheckEntry}
use Rattle.wbt_journal.specs.declared.entry.Entry.{Entry}
use Rattle.wbt_journal.specs.declared.entry.Entry.TheVariants as entry
use Rattle.wbt_journal.specs.declared.entry.EstEntry.{EstEntry}
use Rattle.wbt_replay_moves.specs.declared.state.Cpu.{Cpu}
use Rattle.wbt_replay_moves.specs.declared.state.ReplayTurn.{ReplayTurn}
use Rattle.wbt_replay_moves.specs.declared.state.Whose.{Whose}
use Rattle.wbt_replay_moves.specs.declared.todo.Todo.{Todo}
use Rattle.wbt_replay_moves.specs.declared.todo.Todo.TheVariants as todo
use Rattle.wbt_replay_moves.specs.declared.todo.Step.TheVariants as step
use Rattle.wbt_replay_moves.specs.Definition.State.{State, no_load, no_word, no_count, cpu_of, with_cpu}

-- The CPU does these next, in this order, before what its turn still has to do.
abbrev pub do_next : (items : List Todo) (c : Cpu) → Cpu
do_next items c = record c { todo = items ++ c.todo }

-- the state in which a CPU does these next
abbrev pub then_do : (cpu : ℕ) (items : List Todo) (s : State) → State
then_do cpu items s = with_cpu cpu (do_next items (cpu_of cpu s)) s

-- It does these last.
abbrev pub do_last : (items : List Todo) (c : Cpu) → Cpu
do_last items c = record c { todo = c.todo ++ items }

-- the state in which a CPU does these last in its turn
abbrev pub do_last_at : (cpu : ℕ) (items : List Todo) (s : State) → State
do_last_at cpu items s = with_cpu cpu (do_last items (cpu_of cpu s)) s

-- The CPU is at a turn that has loaded nothing.
abbrev pub turn_of : (whose : Whose) (now : ℕ) → ReplayTurn
turn_of whose now = record { whose = whose; began = now; found = no_word; global = no_load; cgroup = no_load; context = no_count; over = false }

-- the CPU begins a turn at a moment
abbrev pub at_turn : (whose : Whose) (now : ℕ) (c : Cpu) → Cpu
at_turn whose now c = record c { turn = turn_of whose now }

-- ---- its part of the journal

-- the CPU's part of the journal with a further entry
abbrev pub logged : (e : Entry) (c : Cpu) → Cpu
logged e c = record c { entries = c.entries ++ e ∷ [] }

-- the state with a further entry in a CPU's part of the journal
abbrev pub log_at : (cpu : ℕ) (e : Entry) (s : State) → State
log_at cpu e s = with_cpu cpu (logged e (cpu_of cpu s)) s

-- a check, and an estimate, which an entry names by its place
abbrev pub checked : (check : CheckEntry) (c : Cpu) → Cpu
checked check c = logged (entry.Check (length c.checks)) (record c { checks = c.checks ++ check ∷ [] })

-- the CPU's part of the journal with a further estimate, which its entry names by its place
abbrev pub estimated : (est : EstEntry) (c : Cpu) → Cpu
estimated est c = logged (entry.Est (length c.estimates)) (record c { estimates = c.estimates ++ est ∷ [] })

-- ---- its own numbers

-- the CPU's own number of a counter, in pages
abbrev pub own_of : (counter : Counter) (c : Cpu) → ℤ
own_of (Domain domain) c = get_or c.own_domains domain (pos 0)
own_of (Context context) c = get_or c.own_contexts context (pos 0)

-- the CPU with this own number of a counter
abbrev pub with_own : (counter : Counter) (n : ℤ) (c : Cpu) → Cpu
with_own (Domain domain) n c = record c { own_domains = set c.own_domains domain n }
with_own (Context context) n c = record c { own_contexts = set c.own_contexts context n }

-- The own number becomes this; where it has reached the batch it is folded and cleared next.
abbrev pub added : (batch : ℕ) (x : Counter) (n : ℤ) (c : Cpu) → Cpu
added batch x n c =
    if unsigned_abs n == batch
    then do_next (todo.Step (step.Fold x) ∷ todo.Step (step.Clear x) ∷ []) (with_own x n c)
    else with_own x n c

-- the events that a page of the context owes to its counters: its own, the global domain's, and that of its cgroup; and then an item
abbrev pub owed_to : (change : ℤ) (context group : ℕ) (last : Todo) → List Todo
owed_to change context group last =
    if group == 0
    then todo.Step (step.Add (Context context) change) ∷ todo.Step (step.Add (Domain 0) change) ∷ last ∷ []
    else todo.Step (step.Add (Context context) change) ∷ todo.Step (step.Add (Domain 0) change)
    ∷ todo.Step (step.Add (Domain group) change) ∷ last ∷ []

-- the state in which a CPU owes a page's events to its counters next, and then an item
abbrev pub owe_at : (cpu : ℕ) (change : ℤ) (context group : ℕ) (last : Todo) (s : State) → State
owe_at cpu change context group last s = then_do cpu (owed_to change context group last) s
