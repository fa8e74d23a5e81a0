-- The changes of a flusher's turn that is idle: it updates estimates, weighs, notices and takes an inode, whose mark it then clears.
use Rattle.std.specs.Prelude.{ℕ, zero, suc, ◌+◌, Bool, false, if◌then◌else◌, nat_le, List, [], ◌∷◌, length, Option, Some, None}
use Rattle.wbt_trace.specs.declared.trace.Trace.{Trace}
use Rattle.wbt_estimate.specs.Estimate.{update_of}
use Rattle.wbt_estimate.specs.declared.estimate.Estimate.{Estimate}
use Rattle.wbt_expiry.specs.Waiting.{Waiting, has_inode}
use Rattle.wbt_expiry.specs.declared.due.Due.{Due}
use Rattle.wbt_grant.specs.declared.who.StepKind.TheVariants as kind
use Rattle.wbt_rules.specs.Flusher.{quota_of}
use Rattle.wbt_rules.specs.Things.{context_of, device_at, inode_of, flusher_device}
use Rattle.wbt_rules.specs.declared.age.TheConstants.{MOST_NOTICED}
use Rattle.wbt_rules.specs.declared.moments.TheConstants.{FLUSHER_REST}
use Rattle.wbt_rules.specs.declared.scan.Scan.{Scan}
use Rattle.wbt_replay_moves.specs.Definition.Estimates.{sample_of}
use Rattle.wbt_replay_moves.specs.Definition.Idle.{domain_loads, measures_of, weighs_of, start_of}
use Rattle.wbt_replay_moves.specs.Definition.State.{State, cpu_of, flusher_of, waiting_of, queue_of, writeback_of, is_drained}
use Rattle.wbt_replay_moves.specs.Definition.Weigh.{is_over_by_itself, weighed_by}
use Rattle.wbt_replay_moves.specs.declared.state.ReplayPhase.{ReplayPhase}
use Rattle.wbt_replay_moves.specs.declared.state.ReplayTurn.{ReplayTurn}
use Rattle.wbt_replay_moves.specs.declared.todo.Silent.TheVariants as silent
use Rattle.wbt_replay_moves.specs.declared.todo.Step.TheVariants as step
use Rattle.wbt_replay_moves.specs.declared.todo.Todo.TheVariants as todo
use Rattle.wbt_replay_changes.specs.Apply.{apply}
use Rattle.wbt_replay_changes.specs.Change.{Change}
use Rattle.wbt_replay_changes.specs.Change as change
use Rattle.wbt_replay_changes.specs.Change.Cpu as cpu_change
use Rattle.wbt_replay_changes.specs.Change.Flusher as flusher_change
use Rattle.wbt_replay_changes.specs.ChangeOf.Where.{then_changes}

-- ---- an estimate, and what a context is weighed by

-- a context gets an estimate where there is one
abbrev pub estimated_changes : (cpu context : ℕ) (found : Option Estimate) → List Change
estimated_changes cpu context None = []
estimated_changes cpu context (Some estimate) = change.estimated cpu context estimate ∷ []

-- a context's estimate is updated where it is old enough
abbrev pub estimate_changes : (trace : Trace) (cpu context : ℕ) (s : State) → List Change
estimate_changes trace cpu context s =
    estimated_changes cpu context (update_of (writeback_of context s).estimate (sample_of trace context (cpu_of cpu s).turn s))

-- the turn notes whether a context is over its own part of a background threshold
abbrev pub weigh_changes : (trace : Trace) (cpu context : ℕ) (s : State) → List Change
weigh_changes trace cpu context s =
    change.of_cpu cpu (cpu_change.weighed (is_over_by_itself (weighed_by trace context (cpu_of cpu s) s))) ∷ []

-- ---- the take of an inode

-- after a take, the inode's mark is cleared next
abbrev pub takes : (cpu : ℕ) (take : Change) → List Change
takes cpu take = take ∷ change.of_cpu cpu (cpu_change.planned (todo.Step step.Unmark ∷ [])) ∷ []

-- the flusher rests until a moment, unless the drain comes
abbrev pub rests : (flusher until : ℕ) → List Change
rests flusher until = change.of_flusher flusher (flusher_change.idled until false) ∷ []

-- the first inode of the queue is taken; where there is none the flusher is finished
abbrev pub queue_or_finish : (cpu flusher : ℕ) (numbers : List ℕ) → List Change
queue_or_finish cpu flusher [] = change.finished flusher ∷ []
queue_or_finish cpu flusher (inode ∷ inodes) = takes cpu (change.took flusher inode inodes)

-- in the drain the first inode that waits is taken, and only where none waits one of the queue
abbrev pub last_changes : (trace : Trace) (cpu flusher : ℕ) (pairs : List Due) (s : State) → List Change
last_changes trace cpu flusher [] s = queue_or_finish cpu flusher (queue_of (flusher_device trace flusher) s)
last_changes trace cpu flusher (pair ∷ pairs) s = takes cpu (change.took_first cpu flusher pair pairs)

-- the first inode of the queue is taken; where there is none the flusher rests
abbrev pub queue_or_rest : (cpu flusher until : ℕ) (numbers : List ℕ) → List Change
queue_or_rest cpu flusher until [] = rests flusher until
queue_or_rest cpu flusher until (inode ∷ inodes) = takes cpu (change.took flusher inode inodes)

-- the turn's loads, updates and weighings, and then the test
abbrev pub loads_changes : (cpu flusher : ℕ) (s : State) → List Change
loads_changes cpu flusher s =
    change.of_cpu cpu (cpu_change.appended (domain_loads (length s.domains) 0))
    ∷ change.of_cpu cpu (cpu_change.appended (measures_of (flusher_of flusher s).measures s))
    ∷ change.of_cpu cpu (cpu_change.appended (weighs_of (flusher_of flusher s).weighs))
    ∷ change.of_cpu cpu (cpu_change.appended (todo.Silent silent.Test ∷ [])) ∷ []

-- what an idle flusher's turn begins with
abbrev pub idle_changes : (trace : Trace) (cpu flusher : ℕ) (s : State) → List Change
idle_changes trace cpu flusher s =
    if is_drained s then last_changes trace cpu flusher (waiting_of flusher s).pairs s else loads_changes cpu flusher s

-- ---- writeback by age

-- the first of the queue's inodes is noticed, or dropped where it waits already
abbrev pub notice_changes : (cpu flusher since : ℕ) (numbers : List ℕ) (s : State) → List Change
notice_changes cpu flusher since [] s = []
notice_changes cpu flusher since (inode ∷ inodes) s =
    if has_inode inode (waiting_of flusher s).pairs
    then change.dropped flusher inodes ∷ []
    else change.noticed cpu flusher inode since inodes ∷ []

-- so many inodes of the queue, as far as there are any
abbrev pub notices : (trace : Trace) (cpu flusher since : ℕ) (most : ℕ) (s : State) → List Change
notices trace cpu flusher since zero s = []
notices trace cpu flusher since (suc most) s =
    then_changes trace (notice_changes cpu flusher since (queue_of (flusher_device trace flusher) s) s) (notices trace cpu flusher since most) s

-- the first pair is taken for its age where it is due by now; else it is taken where something is over background; else the flusher rests
abbrev pub aged_changes : (cpu flusher now : ℕ) (over : Bool) (pairs : List Due) → List Change
aged_changes cpu flusher now over [] = rests flusher (now + FLUSHER_REST)
aged_changes cpu flusher now over (pair ∷ pairs) =
    if nat_le pair.due now
    then takes cpu (change.took_due cpu flusher now pair pairs)
    else (if over then takes cpu (change.took_first cpu flusher pair pairs) else rests flusher (now + FLUSHER_REST))

-- of those that wait in this state
abbrev pub waiting_changes : (cpu flusher now : ℕ) (over : Bool) (s : State) → List Change
waiting_changes cpu flusher now over s = aged_changes cpu flusher now over (waiting_of flusher s).pairs

-- inodes are noticed, and then one may be taken
abbrev pub notice_and_take : (trace : Trace) (cpu flusher now : ℕ) (over : Bool) (s : State) → List Change
notice_and_take trace cpu flusher now over s =
    then_changes trace (notices trace cpu flusher now MOST_NOTICED s) (waiting_changes cpu flusher now over) s

-- the turn's moment is told first
abbrev pub age_changes : (trace : Trace) (cpu flusher now : ℕ) (over : Bool) (s : State) → List Change
age_changes trace cpu flusher now over s =
    let tells = change.of_flusher flusher (flusher_change.told now) in
    tells ∷ notice_and_take trace cpu flusher now over (apply trace tells s)

-- ---- the test

-- without a wheel: an inode is taken where a domain or a context that was weighed is over background
abbrev pub over_changes : (trace : Trace) (cpu flusher : ℕ) (turn : ReplayTurn) (s : State) → List Change
over_changes trace cpu flusher turn s =
    if turn.over
    then queue_or_rest cpu flusher (turn.began + FLUSHER_REST) (queue_of (flusher_device trace flusher) s)
    else rests flusher (turn.began + FLUSHER_REST)

-- a flusher with a wheel goes by age
abbrev pub wheel_changes : (trace : Trace) (cpu flusher : ℕ) (turn : ReplayTurn) (wheel : Option Waiting) (s : State) → List Change
wheel_changes trace cpu flusher turn None s = over_changes trace cpu flusher turn s
wheel_changes trace cpu flusher turn (Some w) s = age_changes trace cpu flusher turn.began turn.over s

-- the flusher keeps the hard limit that the turn loaded, and tests, whatever its phase
abbrev pub test_changes : (trace : Trace) (cpu : ℕ) (turn : ReplayTurn) (flusher : ℕ) (phase : ReplayPhase) (s : State) → List Change
test_changes trace cpu turn flusher phase s =
    let keeps = change.of_flusher flusher (flusher_change.limited turn.global.limits.hard) in
    keeps ∷ wheel_changes trace cpu flusher turn (flusher_of flusher s).wheel (apply trace keeps s)

-- ---- the mark of the inode that was taken

-- the scan of an inode begins at its start, with a quota by the flusher's device and the context's average
abbrev pub first_scan : (trace : Trace) (flusher inode : ℕ) (s : State) → Scan
first_scan trace flusher inode s = record {
  inode = inode;
  first = (inode_of trace inode).first;
  pages = (inode_of trace inode).pages;
  start = start_of trace flusher inode s;
  passed = 0;
  quota = quota_of (device_at trace (flusher_device trace flusher)) (writeback_of (context_of trace inode) s).estimate.avg (flusher_of flusher s).hard;
  noted = false;
}

-- the inode's mark is cleared, and the flusher scans it
abbrev pub unmark_changes : (trace : Trace) (cpu flusher inode : ℕ) (s : State) → List Change
unmark_changes trace cpu flusher inode s = change.unmarked flusher (first_scan trace flusher inode s) ∷ change.stepped cpu kind.Unmark ∷ []
