-- The ordered run of a trace, and its journal.
use Rattle.std.specs.Prelude.{ℕ, zero, suc, ◌+◌, ◌^◌, ◌||◌, if◌then◌else◌, ◌==◌, nat_lt, List, [], ◌∷◌, ◌++◌, map, count_by, Bool}
use Rattle.wbt_trace.specs.Lawful.{writers_of}
use Rattle.wbt_trace.specs.declared.trace.Trace.{Trace}
use Rattle.wbt_book.specs.Book.{Book, page_word}
use Rattle.wbt_grant.specs.Formula.{fixed_bound}
use Rattle.wbt_journal.specs.Machine.{domains}
use Rattle.wbt_journal.specs.declared.entry.CpuJournal.{CpuJournal}
use Rattle.wbt_journal.specs.declared.journal.Ending.{Ending}
use Rattle.wbt_journal.specs.declared.journal.Ending.TheVariants as ending
use Rattle.wbt_journal.specs.declared.journal.Journal.{Journal}
use Rattle.wbt_journal.specs.declared.journal.Left.{Left}
use Rattle.wbt_replay_moves.specs.Definition.State.{State}
use Rattle.wbt_rules.specs.Things.{group_of}
use Rattle.wbt_replay_moves.specs.declared.state.Cpu.{Cpu}
use Rattle.wbt_replay_order.specs.Definition.Opening.{opening}
use Rattle.wbt_replay_order.specs.Definition.Order.{run}
use Rattle.wbt_replay_order.specs.Definition.Strict.{strict_lines}

-- ---- the run

-- the most moves
abbrev pub most_moves : ℕ
most_moves = 2 ^ 40

-- the state after so many moves
abbrev pub state_at : (trace : Trace) (moves : ℕ) → State
state_at trace moves = run trace moves (opening trace)

-- the state in which a trace's run ends
abbrev pub last_state : (trace : Trace) → State
last_state trace = state_at trace most_moves

-- ---- bounds

-- a context is in the global domain and in that of its cgroup
abbrev pub is_inside : (domain group : ℕ) → Bool
is_inside domain group = domain == 0 || domain == group

-- the cgroups of the writers
abbrev pub writer_homes : (trace : Trace) → List ℕ
writer_homes trace = map (λ w. group_of trace w.context) (writers_of trace.inodes trace.actions)

-- the domain's bound without its peak
abbrev pub base_of : (trace : Trace) (domain : ℕ) → ℕ
base_of trace domain =
    fixed_bound trace.cpus (count_by (is_inside domain) (writer_homes trace)) trace.cap
    (count_by (λ c. is_inside domain c.domain) trace.contexts)

-- of so many domains
abbrev pub bases_of : (trace : Trace) (n : ℕ) → List ℕ
bases_of trace zero = []
bases_of trace (suc n) = bases_of trace n ++ base_of trace n ∷ []

-- ---- the journal

-- of so many pages, from one on, those that are dirty or under writeback
abbrev pub left_from : (n page : ℕ) (book : Book) → List Left
left_from zero page book = []
left_from (suc pages) page book =
    if page_word (book page) == 0
    then left_from pages (page + 1) book
    else (record { page = page; word = page_word (book page) }) ∷ left_from pages (page + 1) book

-- a CPU's part of the journal
abbrev pub part_of : (c : Cpu) → CpuJournal
part_of c = record { entries = c.entries; checks = c.checks; estimates = c.estimates }

-- Spent comes before halted.
abbrev pub ending_of : (s : State) → Ending
ending_of s = if s.spent then ending.Spent else (if nat_lt 0 s.stopped then ending.Halted else ending.Done)

-- the journal of a run that has ended in this state
abbrev pub journal_from : (trace : Trace) (s : State) → Journal
journal_from trace s = record {
  timer = s.timer.entries;
  cpus = map part_of s.cpus;
  steps = s.steps;
  bases = bases_of trace (domains trace);
  homes = map (λ c. c.domain) trace.contexts;
  left = left_from s.pages 0 s.book;
  strict = strict_lines trace s.steps s.cpus;
  ending = ending_of s;
}

-- the journal of the trace's ordered run
unfoldable pub journal_of : (trace : Trace) → Journal
journal_of trace = journal_from trace (last_state trace)
