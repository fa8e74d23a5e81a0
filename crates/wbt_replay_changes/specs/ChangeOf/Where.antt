-- Whose turn it is, and what its flusher is at, is asked here alone.
use Rattle.std.specs.Prelude.{ℕ, List, [], ◌++◌}
use Rattle.wbt_trace.specs.declared.trace.Trace.{Trace}
use Rattle.wbt_replay_moves.specs.Definition.State.{State, flusher_of}
use Rattle.wbt_replay_moves.specs.declared.state.ReplayPhase.{ReplayPhase}
use Rattle.wbt_replay_moves.specs.declared.state.ReplayPhase.TheVariants as phase
use Rattle.wbt_replay_moves.specs.declared.state.Whose.{Whose}
use Rattle.wbt_replay_moves.specs.declared.state.Whose.TheVariants as whose
use Rattle.wbt_rules.specs.declared.scan.Scan.{Scan}
use Rattle.wbt_replay_changes.specs.Apply.{apply_all}
use Rattle.wbt_replay_changes.specs.Change.{Change}

-- what the turn's task does; nothing where the turn is a flusher's
abbrev pub by_task : (does : (task : ℕ) (s : State) → List Change) (whose : Whose) (s : State) → List Change
by_task does (whose.Task task) s = does task s
by_task does (whose.Flusher flusher) s = []

-- what the turn's flusher does in its phase; nothing where the turn is a task's
abbrev pub by_flusher : (does : (flusher : ℕ) (phase : ReplayPhase) (s : State) → List Change) (whose : Whose) (s : State) → List Change
by_flusher does (whose.Flusher flusher) s = does flusher (flusher_of flusher s).phase s
by_flusher does (whose.Task task) s = []

-- what a flusher does with the inode that it has taken
abbrev pub where_taken : (does : (flusher inode : ℕ) (s : State) → List Change) (flusher : ℕ) (phase : ReplayPhase) (s : State) → List Change
where_taken does flusher (phase.Taken inode) s = does flusher inode s
where_taken does flusher other s = []

-- what a flusher does at its scan
abbrev pub where_scanning : (does : (flusher : ℕ) (scan : Scan) (s : State) → List Change) (flusher : ℕ) (phase : ReplayPhase) (s : State) → List Change
where_scanning does flusher (phase.Scanning scan) s = does flusher scan s
where_scanning does flusher other s = []

-- what a flusher does in a flight of so many pages of an inode
abbrev pub where_flying : (does : (flusher inode pages : ℕ) (s : State) → List Change) (flusher : ℕ) (phase : ReplayPhase) (s : State) → List Change
where_flying does flusher (phase.Flying inode pages until) s = does flusher inode pages s
where_flying does flusher other s = []

-- these changes, and then those that are made of the state after them
abbrev pub then_changes : (trace : Trace) (first : List Change) (more : State → List Change) (s : State) → List Change
then_changes trace first more s = first ++ more (apply_all trace first s)
