-- What holds where a change is made, of its operands. A law of the run that is shown for each change has it there, and asks for no turn.
use Rattle.std.specs.Prelude.{ℕ, ◌≡◌, true, false, List, [], ◌∷◌, length, get_or}
use Rattle.wbt_trace.specs.declared.trace.Trace.{Trace}
use Rattle.wbt_flex.specs.Proportions.{fraction_of, may_be_added}
use Rattle.wbt_rules.specs.Things.{context_of, max_share}
use Rattle.wbt_replay_moves.specs.Definition.Check.{writer_of}
use Rattle.wbt_replay_moves.specs.Definition.Flight.{part_in}
use Rattle.wbt_replay_moves.specs.Definition.State.{State, task_of, flusher_of, domain_of, writeback_of}
use Rattle.wbt_replay_moves.specs.Definition.Writer.{without_page, has_nothing}
use Rattle.wbt_replay_moves.specs.declared.state.ReplayPhase.TheVariants as phase
use Rattle.wbt_replay_moves.specs.declared.state.ReplayWork.{ReplayWork}
use Rattle.wbt_replay_moves.specs.declared.state.ReplayWork.TheVariants as work
use Rattle.wbt_rules.specs.declared.scan.Scan.{Scan}
use Rattle.wbt_replay_changes.specs.Apply.{apply}
use Rattle.wbt_replay_changes.specs.Change.{Change}
use Rattle.wbt_replay_changes.specs.Change as change
use Rattle.wbt_replay_changes.specs.Change.Flusher.{FlusherChange}
use Rattle.wbt_replay_changes.specs.Change.Flusher as flusher_change

-- the flusher is at this scan
abbrev pub Scans : (flusher : ℕ) (scan : Scan) (s : State) → Type 0
Scans flusher scan s = (flusher_of flusher s).phase ≡ phase.Scanning scan

-- what holds where a flusher alone changes
abbrev pub FlusherFact : (flusher : ℕ) (change : FlusherChange) (s : State) → Type 0
FlusherFact flusher (flusher_change.passed scan again) s = Scans flusher scan s
FlusherFact flusher (flusher_change.placed scan) s = Scans flusher scan s
FlusherFact flusher other s = Unit {0}

-- the page is the next one of the task's first work, which leaves these
pub record WritesNext (task inode page : ℕ) (left : List ReplayWork) (s : State) : Type 0 where
  pub pages : ℕ
  pub more : List ReplayWork
  pub works : (task_of task s).works ≡ work.Write inode page pages ∷ more
  pub leaves : left ≡ without_page inode page pages more

-- the flusher flies with these pages of an inode of the context
pub record Flies (trace : Trace) (flusher context pages : ℕ) (s : State) : Type 0 where
  pub inode : ℕ
  pub until : ℕ
  pub at : (flusher_of flusher s).phase ≡ phase.Flying inode pages until
  pub home : context ≡ context_of trace inode

-- the page is the first of the batch of a flight, and these follow
pub record Completes (trace : Trace) (flusher context page : ℕ) (left : List ℕ) (s : State) : Type 0 where
  pub pages : ℕ
  pub flies : Flies trace flusher context pages s
  pub batch : (flusher_of flusher s).batch ≡ page ∷ left

-- the flusher hands over the batch of a scan of the inode, which has so many pages
pub record HandsOver (flusher inode pages : ℕ) (s : State) : Type 0 where
  pub scan : Scan
  pub scans : Scans flusher scan s
  pub of : inode ≡ scan.inode
  pub many : pages ≡ length (flusher_of flusher s).batch

-- what holds where a change is made
abbrev pub Fact : (trace : Trace) (change : Change) (s : State) → Type 0
Fact trace (change.of_flusher flusher change) s = FlusherFact flusher change s
Fact trace (change.rewrote cpu task page works) s = (s.book page).dirty ≡ true
Fact trace (change.dirtied cpu task inode page works) s = ((s.book page).dirty ≡ false) × WritesNext task inode page works s
Fact trace (change.marked inode) s = get_or s.marks inode true ≡ false
Fact trace (change.ended cpu task) s = has_nothing (task_of task s).works (writer_of (task_of task s)).due ≡ true
Fact trace (change.unmarked flusher scan) s = (flusher_of flusher s).phase ≡ phase.Taken scan.inode
Fact trace (change.claimed cpu flusher scan) s = Scans flusher scan s
Fact trace (change.flew cpu flusher inode pages until) s = HandsOver flusher inode pages s
Fact trace (change.completed cpu flusher context page left) s = Completes trace flusher context page left s
Fact trace (change.landed flusher context pages) s = Flies trace flusher context pages s
Fact trace (change.shared cpu domain context pages) s =
    may_be_added (fraction_of (part_in domain (writeback_of context s)) (domain_of domain s).events) (max_share trace context) ≡ true
Fact trace other s = Unit {0}

-- something holds of each of these changes, where it is made
abbrev pub Each : (trace : Trace) (P : Change → State → Type 0) (changes : List Change) (s : State) → Type 0
Each trace P [] s = Unit {0}
Each trace P (first ∷ more) s = P first s × Each trace P more (apply trace first s)

-- these are facts
abbrev pub Along : (trace : Trace) (changes : List Change) (s : State) → Type 0
Along trace changes s = Each trace (Fact trace) changes s
