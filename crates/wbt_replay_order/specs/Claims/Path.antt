-- How the ordered run goes through the states of the step relation.
use Rattle.std.specs.Prelude.{◌≡◌, ℕ, zero, suc, ◌<◌, ◌≤◌, ◌⊎◌, Bool, true, false, cond, ◌&&◌, ◌==◌, pos, negsuc, ℤ, Some, Option, None, List, [], ◌∷◌, ◌++◌, length, map, flat_map, get_or, take, All}
use Rattle.std.specs.List.{list_any}
use Rattle.wbt_trace.specs.declared.trace.Trace.{Trace}
use Rattle.wbt_counter.specs.declared.counter.Count.{Count}
use Rattle.wbt_counter.specs.declared.counter.Counter.{Counter}
use Rattle.wbt_counter.specs.declared.counter.Counter.TheVariants.{Domain, Context}
use Rattle.wbt_counter.specs.declared.record.Fold.{Fold}
use Rattle.wbt_counter.specs.declared.record.Reading.{Reading}
use Rattle.wbt_book.specs.declared.event.Event.{Event}
use Rattle.wbt_counter.specs.Counters.{is_same}
use Rattle.wbt_counter.specs.History.{sum_of, at_least_zero}
use Rattle.wbt_grant.specs.declared.record.DomainLimits.{DomainLimits}
use Rattle.wbt_grant.specs.declared.record.WriterRecord.{WriterRecord}
use Rattle.wbt_grant.specs.declared.who.StepKind.{StepKind}
use Rattle.wbt_grant.specs.declared.who.StepKind.TheVariants as kind
use Rattle.wbt_grant.specs.declared.who.Who.{Who}
use Rattle.wbt_grant.specs.declared.who.Who.TheVariants.{Writer, Cpu, Timer}
use Rattle.wbt_grant.specs.Setting.{Setting}
use Rattle.wbt_grant.specs.State as throttle
use Rattle.wbt_grant.specs.State.{kept_of, held_of, sequence_of}
use Rattle.wbt_grant.specs.Kinds.{Step, add, fold, clear, count, dirty, look, claim, complete, back, peak, unseal, thresh, publish, first, middle, limits, mark, unmark, grant, page_now, last_found, after, run, AreAllowed}
use Rattle.wbt_strict.specs.Bound.{greatest_reading}
use Rattle.wbt_strict.specs.Rule.{AreStrict}
use Rattle.wbt_journal.specs.Counts.{fold_in, reads_of}
use Rattle.wbt_journal.specs.Machine.{domains}
use Rattle.wbt_journal.specs.Told.{Told, told_entry}
use Rattle.wbt_journal.specs.Walk.{after as list_after}
use Rattle.wbt_journal.specs.declared.entry.CheckEntry.{CheckEntry}
use Rattle.wbt_journal.specs.declared.entry.DomainLine.{DomainLine}
use Rattle.wbt_journal.specs.declared.entry.Entry.{Entry}
use Rattle.wbt_journal.specs.declared.step.StepEntry.{StepEntry}
use Rattle.wbt_journal.specs.declared.timer.TimerEntry.{TimerEntry}
use Rattle.wbt_run_laws.specs.Grew.{event_in, found_in, onto}
use Rattle.wbt_run_laws.specs.Held.{limits_of, WereHeld}
use Rattle.wbt_run_laws.specs.Ticks.{published_after}
use Rattle.wbt_task.specs.declared.allowance.Due.TheVariants as due
use Rattle.wbt_replay_moves.specs.Definition.Check.{writer_in}
use Rattle.wbt_replay_moves.specs.Definition.Cpu.{own_of}
use Rattle.wbt_replay_moves.specs.Definition.State.{State, no_held, cpu_of, task_of, domain_of, count_of}
use Rattle.wbt_rules.specs.Strict.{is_strict}
use Rattle.wbt_rules.specs.Things.{group_of}
use Rattle.wbt_replay_moves.specs.declared.state.Held.{Held}
use Rattle.wbt_replay_moves.specs.declared.state.ReplayTurn.{ReplayTurn}
use Rattle.wbt_replay_moves.specs.declared.state.Whose.TheVariants as whose
use Rattle.wbt_replay_moves.specs.declared.todo.Silent.TheVariants as silent
use Rattle.wbt_replay_moves.specs.declared.todo.Step.TheVariants as item
use Rattle.wbt_replay_moves.specs.declared.todo.Todo.{Todo}
use Rattle.wbt_replay_moves.specs.declared.todo.Todo.TheVariants as todo
use Rattle.wbt_replay_order.specs.Definition.Opening.{first_entries}
use Rattle.wbt_replay_order.specs.Definition.Run.{state_at}
use Rattle.wbt_replay_order.specs.Definition.Strict.{part_used}
use Rattle.wbt_replay_order.specs.Claims.Setting.{setting_of, writer_at}

-- ---- how the journal's steps tell those of the relation

-- the number of whoever makes a load, which is that of the CPUs for the timer
abbrev pub number_of : (set : Setting) (who : Who) → ℕ
number_of set (Writer w) = set.seat w
number_of set (Cpu i) = i
number_of set Timer = set.cpus

-- an entry of a step that changes no count
abbrev pub plain_entry : (who : ℕ) (kind : StepKind) → StepEntry
plain_entry who kind = record { who = who; kind = kind; context = 0; change = pos 0; domain = 0; peak = 0 }

-- an entry of a step that changes a context's count, by so many pages
abbrev pub change_entry : (who : ℕ) (kind : StepKind) (context : ℕ) (change : ℤ) → StepEntry
change_entry who kind context change = record { who = who; kind = kind; context = context; change = change; domain = 0; peak = 0 }

-- What tells a step from a state on: who made it, its kind, and what it changes. A grant is no step.
abbrev pub entries_of : (set : Setting) (step : Step) (t : throttle.State) → List StepEntry
entries_of set (add i x) t = plain_entry i kind.Add ∷ []
entries_of set (fold i x) t = plain_entry i kind.Fold ∷ []
entries_of set (clear i x) t = plain_entry i kind.Clear ∷ []
entries_of set (count who x) t = plain_entry (number_of set who) kind.Count ∷ []
entries_of set (dirty w p) t =
    cond (t.book p).dirty (plain_entry (set.seat w) kind.Dirty) (change_entry (set.seat w) kind.Dirty (set.home p) (pos 1)) ∷ []
entries_of set (look i p) t = plain_entry i kind.Look ∷ []
entries_of set (claim i p) t = plain_entry i kind.Claim ∷ []
entries_of set (complete i p) t = change_entry i kind.Complete (set.home p) (negsuc 0) ∷ []
entries_of set (back i p) t =
    cond (page_now set p t == last_found (t.cpu i).last && (t.book p).dirty) (change_entry i kind.Back (set.home p) (negsuc 0)) (plain_entry i kind.Back) ∷ []
entries_of set (peak d hard) t =
    record { who = set.cpus; kind = kind.Peak; context = 0; change = pos 0; domain = d; peak = hard } ∷ []
entries_of set (unseal d) t = plain_entry set.cpus kind.Unseal ∷ []
entries_of set (thresh d triple) t = plain_entry set.cpus kind.Thresh ∷ []
entries_of set (publish d triple) t = plain_entry set.cpus kind.Publish ∷ []
entries_of set (first i d) t = plain_entry i kind.First ∷ []
entries_of set (middle i d) t = plain_entry i kind.Middle ∷ []
entries_of set (limits who d) t = plain_entry (number_of set who) kind.Limits ∷ []
entries_of set (mark i n) t = plain_entry i kind.Mark ∷ []
entries_of set (unmark i n) t = plain_entry i kind.Unmark ∷ []
entries_of set (grant w pages) t = []

-- the entries of steps, one after another
abbrev pub tells : (set : Setting) (steps : List Step) (t : throttle.State) → List StepEntry
tells set [] t = []
tells set (step ∷ steps) t = entries_of set step t ++ tells set steps (after set step t)

-- ---- what entries of a CPU tell

-- what an entry tells by itself: one that names a check or an estimate tells nothing without their lists
abbrev pub alone : (entry : Entry) → List Told
alone entry = told_entry [] [] entry

-- what an entry tells, before what older ones told
abbrev pub told_with : {A : Type 0} (tells : Told → List A) (entry : Entry) (older : List A) → List A
told_with tells entry older = onto tells (alone entry) older

-- what entries tell, the newest first, before what older ones told
abbrev pub told_onto : {A : Type 0} (tells : Told → List A) (older : List A) (entries : List Entry) → List A
told_onto tells older [] = older
told_onto tells older (e ∷ entries) = told_onto tells (told_with tells e older) entries

-- the events of the book that an entry tells
abbrev pub events_with : (entry : Entry) (older : List Event) → List Event
events_with entry older = told_with event_in entry older

-- those that entries tell
abbrev pub events_told : (older : List Event) (entries : List Entry) → List Event
events_told older entries = told_onto event_in older entries

-- the folds that an entry tells
abbrev pub folds_with : (entry : Entry) (older : List Fold) → List Fold
folds_with entry older = told_with fold_in entry older

-- those that entries tell
abbrev pub folds_told : (older : List Fold) (entries : List Entry) → List Fold
folds_told older entries = told_onto fold_in older entries

-- the pages of an entry whose write found them dirty
abbrev pub founds_with : (entry : Entry) (older : List ℕ) → List ℕ
founds_with entry older = told_with found_in entry older

-- those of entries
abbrev pub founds_told : (older : List ℕ) (entries : List Entry) → List ℕ
founds_told older entries = told_onto found_in older entries

-- one load of a counter, with the version and the value that it found
abbrev pub reading_of : (x : Counter) (told : Count) → Reading
reading_of x told = record { counter = x; version = told.version; value = told.value }

-- the load of a domain's count, if there is one
abbrev pub line_readings : (line : Option DomainLine) → List Reading
line_readings None = []
line_readings (Some line) = reading_of (Domain line.domain) line.count ∷ []

-- a check's loads, the newest first, before older ones
abbrev pub readings_with : (check : CheckEntry) (older : List Reading) → List Reading
readings_with check older =
    reading_of (Context check.context) check.count ∷ line_readings check.cgroup ++ line_readings (Some check.global) ++ older

-- the loads of checks, the newest first, before older ones
abbrev pub readings_told : (older : List Reading) (checks : List CheckEntry) → List Reading
readings_told older [] = older
readings_told older (c ∷ checks) = readings_told (readings_with c older) checks

-- the limits that checks read, the oldest first
abbrev pub triples_told : (checks : List CheckEntry) → List DomainLimits
triples_told checks = flat_map (λ check. map limits_of (reads_of check)) checks

-- what a CPU holds of a domain's limits
abbrev pub held_as : (d : ℕ) (held : Held) → DomainLimits
held_as d held = record { domain = d; version = held.version; limits = held.limits }

-- Checks have told limits just as the CPU held them, and it holds the newest that its record has loaded whole.
pub record HasTriples (trace : Trace) (set : Setting) (checks : List CheckEntry) (held : List Held) (triples : List DomainLimits) : Type 0 where
  pub told : WereHeld set.firsts (triples_told checks) [] triples
  pub held_is : (d : ℕ) → d < domains trace → held_of set d triples ≡ held_as d (get_or held d no_held)

-- these stand among those, in order
abbrev pub AreAmong : {A : Type 0} → (these those : List A) → Type 0
AreAmong [] those = Unit {0}
AreAmong (x ∷ these) [] = ⊥
AreAmong (x ∷ these) (y ∷ those) = ((x ≡ y) × AreAmong these those) ⊎ AreAmong (x ∷ these) those

-- The timer's entries after those of the opening tell the limits that were published, in their order.
pub record LinesArePublished (trace : Trace) (entries : List TimerEntry) (published : List DomainLimits) : Type 0 where
  pub later : List TimerEntry
  pub entries_are : entries ≡ first_entries trace (domains trace) ++ later
  pub published_are : published ≡ list_after published_after [] later

-- ---- what a check under way keeps

-- whether the item is a check's decision
abbrev pub is_decide : (t : Todo) → Bool
is_decide (todo.Silent silent.Decide) = true
is_decide other = false

-- whether the item is the last of the three loads of the domain's limits
abbrev pub is_limits_of : (domain : ℕ) (t : Todo) → Bool
is_limits_of domain (todo.Step (item.Limits d)) = d == domain
is_limits_of domain other = false

-- whether the item is a load of the domain's count
abbrev pub is_count_of : (domain : ℕ) (t : Todo) → Bool
is_count_of domain (todo.Step (item.Count (Domain d))) = d == domain
is_count_of domain other = false

-- whether the item is a load of a context's count
abbrev pub is_context_count : (t : Todo) → Bool
is_context_count (todo.Step (item.Count (Context k))) = true
is_context_count other = false

-- What isn't to be loaded any more is what the writer keeps of the relation's state.
pub record KeepsLoads (turn : ReplayTurn) (todos : List Todo) (group : ℕ) (x : WriterRecord) : Type 0 where
  pub global_limits : list_any (is_limits_of 0) todos ≡ false → (kept_of 0 x.kept).limits ≡ Some turn.global.limits
  pub global_count : list_any (is_count_of 0) todos ≡ false
      → (kept_of 0 x.kept).reading ≡ Some (at_least_zero turn.global.count.value)
  pub cgroup_limits : 0 < group → list_any (is_limits_of group) todos ≡ false → (kept_of group x.kept).limits ≡ Some turn.cgroup.limits
  pub cgroup_count : 0 < group → list_any (is_count_of group) todos ≡ false
      → (kept_of group x.kept).reading ≡ Some (at_least_zero turn.cgroup.count.value)
  pub context_count : list_any is_context_count todos ≡ false → x.context_reading ≡ Some (at_least_zero turn.context.value)

-- what a turn has loaded of counters for a check of the context, the newest first
abbrev pub turn_loads : (context group : ℕ) (turn : ReplayTurn) → List Reading
turn_loads context zero turn = reading_of (Context context) turn.context ∷ reading_of (Domain 0) turn.global.count ∷ []
turn_loads context (suc cgroup) turn =
    reading_of (Context context) turn.context ∷ reading_of (Domain (suc cgroup)) turn.cgroup.count ∷ reading_of (Domain 0) turn.global.count ∷ []

-- no fold of the reading's counter is of a later version
abbrev pub FoldsBehind : (folds : List Fold) (q : Reading) → Type 0
FoldsBehind folds q = All (λ f. is_same q.counter f.counter ≡ true → f.version ≤ q.version) folds

-- the writer is the one whose check is under way on its CPU
pub record IsChecked (trace : Trace) (s : State) (i w : ℕ) : Type 0 where
  pub decides : list_any is_decide (cpu_of i s).todo ≡ true
  pub task : (cpu_of i s).turn.whose ≡ whose.Task (writer_at trace w).task
  pub context : (task_of (writer_at trace w).task s).context ≡ (writer_at trace w).context

-- ---- the state

-- What the run's state and that of the relation have in common.
pub record Shows (trace : Trace) (s : State) (t : throttle.State) : Type 0 where
  -- the book, the marks, each shared count and each CPU's own numbers
  pub book : t.book ≡ s.book
  pub marks : (n : ℕ) → n < length trace.inodes → t.marked n ≡ get_or s.marks n false
  pub versions : (x : Counter) → length (t.folds x) ≡ (count_of x s).version
  pub values : (x : Counter) → sum_of (t.folds x) ≡ (count_of x s).value
  pub own : (i : ℕ) (x : Counter) → i < trace.cpus → t.own x i ≡ own_of x (cpu_of i s)
  -- what each CPU's part of the journal tells: all events and folds, the pages that its writes found dirty, and of its loads those of its
  -- checks
  pub events : (i : ℕ) → i < trace.cpus → (t.cpu i).events ≡ events_told [] (cpu_of i s).entries
  pub folds : (i : ℕ) → i < trace.cpus → (t.cpu i).folds ≡ folds_told [] (cpu_of i s).entries
  pub founds : (i : ℕ) → i < trace.cpus → (t.cpu i).found_dirty ≡ founds_told [] (cpu_of i s).entries
  pub readings : (i : ℕ) → i < trace.cpus → AreAmong (readings_told [] (cpu_of i s).checks) (t.cpu i).readings
  -- its checks tell limits as it held them
  pub triples : (i : ℕ) → i < trace.cpus → HasTriples trace (setting_of trace) (cpu_of i s).checks (cpu_of i s).held (t.cpu i).triples
  -- where a CPU decides a check next, it has told no fold that is ahead of what it loaded
  pub behind : (i task : ℕ) (rest : List Todo) → i < trace.cpus → (cpu_of i s).turn.whose ≡ whose.Task task
      → (cpu_of i s).todo ≡ todo.Silent silent.Decide ∷ rest
      → All (FoldsBehind (folds_told [] (cpu_of i s).entries))
      (turn_loads (task_of task s).context (group_of trace (task_of task s).context) (cpu_of i s).turn)
  -- and what it loaded stands among the record's readings, before all that it has told
  pub loaded : (i task : ℕ) (rest : List Todo) → i < trace.cpus → (cpu_of i s).turn.whose ≡ whose.Task task
      → (cpu_of i s).todo ≡ todo.Silent silent.Decide ∷ rest
      → AreAmong (turn_loads (task_of task s).context (group_of trace (task_of task s).context) (cpu_of i s).turn ++ readings_told [] (cpu_of i s).checks)
      (t.cpu i).readings
  -- the published limits, the sequences and the peaks
  pub published : (d : ℕ) → d < domains trace → t.published d ≡ (domain_of d s).limits
  pub sequences : (d : ℕ) → d < domains trace → sequence_of t.timer d ≡ (domain_of d s).sequence
  pub peak : (d : ℕ) → d < domains trace → t.peak d ≡ (domain_of d s).peak
  -- what the timer's part of the journal tells: all limits that were published
  pub lines : LinesArePublished trace s.timer.entries t.timer.published
  -- the pages left of each writer that needn't be checked, and the loads of one that is being checked
  pub left : (w : ℕ) → w < (setting_of trace).writers
      → (writer_in (writer_at trace w).context (task_of (writer_at trace w).task s)).due ≡ due.No
      → (throttle.writer_at (setting_of trace) t.cpu w).left ≡ (writer_in (writer_at trace w).context (task_of (writer_at trace w).task s)).left
  pub kept : (i w : ℕ) → i < trace.cpus → w < (setting_of trace).writers → IsChecked trace s i w
      → KeepsLoads (cpu_of i s).turn (cpu_of i s).todo (group_of trace (writer_at trace w).context)
      (throttle.writer_at (setting_of trace) t.cpu w)

-- These steps and grants lead to the state: each may be made where it is made, and each step is told.
pub record IsPath (trace : Trace) (s : State) (steps : List Step) : Type 0 where
  pub allowed : AreAllowed (setting_of trace) steps (throttle.opening (setting_of trace))
  pub told : tells (setting_of trace) steps (throttle.opening (setting_of trace)) ≡ s.steps
  pub shows : Shows trace s (run (setting_of trace) steps (throttle.opening (setting_of trace)))

-- One list of steps and grants serves the trace's whole run: at each moment so many first ones of it lead to the run's state. In a
-- context of a strict device each grant of it keeps a reading of the context of at most the greatest part that the run's checks use, 8
-- pages, or the error.
pub record IsFollowed (trace : Trace) : Type 0 where
  pub steps : List Step
  pub made : (moves : ℕ) → (n : ℕ) × IsPath trace (state_at trace moves) (take n steps)
  pub strict : (context part : ℕ) → is_strict trace context ≡ true → ((moves : ℕ) → part_used trace context (state_at trace moves).cpus ≤ part)
      → AreStrict (setting_of trace) context (greatest_reading part trace.cpus) steps (throttle.opening (setting_of trace))
