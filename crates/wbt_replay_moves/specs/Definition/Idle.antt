-- A turn of a flusher that is idle: it tests whether a domain, or a context of its strict device, is over background, and takes an
-- inode where one is. A flusher of an ageing device notices inodes first, and takes the one that has waited longest where it is due.
-- In the drain an inode is taken at once.
use Rattle.std.specs.Prelude.{ℕ, zero, suc, ◌+◌, ◌-◌, Bool, false, max, if◌then◌else◌, nat_le, List, [], ◌∷◌, ◌++◌, length, get_or, set, Option, Some, None}
use Rattle.wbt_trace.specs.declared.trace.Trace.{Trace}
use Rattle.wbt_counter.specs.declared.counter.Counter.TheVariants.{Domain, Context}
use Rattle.wbt_expiry.specs.Waiting.{Waiting, with_pair, has_inode}
use Rattle.wbt_expiry.specs.declared.due.Due.{Due}
use Rattle.wbt_grant.specs.declared.who.StepKind.TheVariants as kind
use Rattle.wbt_journal.specs.declared.entry.Entry.TheVariants as entry
use Rattle.wbt_rules.specs.Age.{due_after}
use Rattle.wbt_rules.specs.Flusher.{quota_of}
use Rattle.wbt_rules.specs.declared.age.TheConstants.{MOST_NOTICED}
use Rattle.wbt_rules.specs.declared.moments.TheConstants.{ESTIMATE_AGE, FLUSHER_REST}
use Rattle.wbt_replay_moves.specs.Definition.Cpu.{then_do, do_last_at, log_at}
use Rattle.wbt_replay_moves.specs.Definition.State.{State, cpu_of, flusher_of, with_flusher, waiting_of, with_waiting, queue_of, with_queue, writeback_of, plain_step, in_phase, is_drained}
use Rattle.wbt_rules.specs.Things.{context_of, device_at, inode_of, flusher_device}
use Rattle.wbt_replay_moves.specs.declared.state.ReplayPhase.{ReplayPhase}
use Rattle.wbt_replay_moves.specs.declared.state.ReplayPhase.TheVariants as phase
use Rattle.wbt_replay_moves.specs.declared.state.ReplayTurn.{ReplayTurn}
use Rattle.wbt_replay_moves.specs.declared.state.Whose.{Whose}
use Rattle.wbt_replay_moves.specs.declared.state.Whose.TheVariants as whose
use Rattle.wbt_replay_moves.specs.declared.todo.Todo.{Todo}
use Rattle.wbt_replay_moves.specs.declared.todo.Todo.TheVariants as todo
use Rattle.wbt_replay_moves.specs.declared.todo.Silent.TheVariants as silent
use Rattle.wbt_replay_moves.specs.declared.todo.Step.TheVariants as step

-- ---- the take of an inode

-- No inode: in the drain the flusher is finished, before it rests until a moment.
abbrev pub finish : (flusher : ℕ) (s : State) → State
finish flusher s = in_phase flusher phase.Finished (record s { working = s.working - 1 })

-- the flusher rests until a moment; the drain drops such a rest
abbrev pub rest_until : (flusher until : ℕ) (s : State) → State
rest_until flusher until s = in_phase flusher (phase.Idle until false) s

-- An inode, whose mark is cleared next. A queue has inodes of its device alone.
abbrev pub take_now : (cpu flusher inode : ℕ) (s : State) → State
take_now cpu flusher inode s = then_do cpu (todo.Step step.Unmark ∷ []) (in_phase flusher (phase.Taken inode) s)

-- the first inode of the device's queue is taken, and these are left there
abbrev pub take : (trace : Trace) (cpu flusher inode : ℕ) (inodes : List ℕ) (s : State) → State
take trace cpu flusher inode inodes s =
    take_now cpu flusher inode (with_queue (flusher_device trace flusher) inodes s)

-- These pairs wait.
abbrev pub with_pairs : (flusher : ℕ) (pairs : List Due) (s : State) → State
with_pairs flusher pairs s = with_waiting flusher (record (waiting_of flusher s) { pairs = pairs }) s

-- A pair that no longer waits is taken for its age, or whether it is due or not.
abbrev pub due_taken : (cpu flusher now : ℕ) (pair : Due) (s : State) → State
due_taken cpu flusher now pair s = take_now cpu flusher pair.inode (log_at cpu (entry.Aged flusher pair.inode pair.due now) s)

-- a pair that no longer waits is taken, whether it is due or not
abbrev pub first_taken : (cpu flusher : ℕ) (pair : Due) (s : State) → State
first_taken cpu flusher pair s = take_now cpu flusher pair.inode (log_at cpu (entry.Taken flusher pair.inode) s)

-- The first pair is taken, and these are left.
abbrev pub take_due : (cpu flusher now : ℕ) (pair : Due) (pairs : List Due) (s : State) → State
take_due cpu flusher now pair pairs s = due_taken cpu flusher now pair (with_pairs flusher pairs s)

-- the first pair is taken, whether it is due or not, and these are left
abbrev pub take_first : (cpu flusher : ℕ) (pair : Due) (pairs : List Due) (s : State) → State
take_first cpu flusher pair pairs s = first_taken cpu flusher pair (with_pairs flusher pairs s)

-- the first inode of the queue is taken; where there is none the flusher is finished
abbrev pub take_or_finish : (trace : Trace) (cpu flusher : ℕ) (numbers : List ℕ) (s : State) → State
take_or_finish trace cpu flusher [] s = finish flusher s
take_or_finish trace cpu flusher (inode ∷ inodes) s = take trace cpu flusher inode inodes s

-- In the drain the first inode that waits is taken, and only where none waits one of the queue.
abbrev pub take_last : (trace : Trace) (cpu flusher : ℕ) (pairs : List Due) (s : State) → State
take_last trace cpu flusher [] s = take_or_finish trace cpu flusher (queue_of (flusher_device trace flusher) s) s
take_last trace cpu flusher (pair ∷ pairs) s = take_first cpu flusher pair pairs s

-- the first inode of the queue is taken; where there is none the flusher rests until a moment
abbrev pub take_or_rest : (trace : Trace) (cpu flusher until : ℕ) (numbers : List ℕ) (s : State) → State
take_or_rest trace cpu flusher until [] s = rest_until flusher until s
take_or_rest trace cpu flusher until (inode ∷ inodes) s = take trace cpu flusher inode inodes s

-- ---- what a turn begins with

-- the loads of so many domains, from one on
unfoldable pub domain_loads : (count domain : ℕ) → List Todo
domain_loads zero domain = []
domain_loads (suc count) domain =
    todo.Step (step.First domain) ∷ todo.Step (step.Middle domain) ∷ todo.Step (step.Limits domain) ∷ todo.Step (step.Count (Domain domain))
    ∷ domain_loads count (domain + 1)

-- the load and the update of a context's estimate, where it is old enough
abbrev pub measure : (context : ℕ) (s : State) → List Todo
measure context s =
    if nat_le ((writeback_of context s).estimate.at + ESTIMATE_AGE) s.now
    then todo.Step (step.Count (Context context)) ∷ todo.Silent (silent.Estimate context) ∷ []
    else []

-- the loads and updates of these contexts' estimates, where they are old enough
unfoldable pub measures_of : (contexts : List ℕ) (s : State) → List Todo
measures_of [] s = []
measures_of (context ∷ contexts) s = measure context s ++ measures_of contexts s

-- the loads of these contexts' counts, each of which is weighed by its own part of the background thresholds
unfoldable pub weighs_of : (contexts : List ℕ) → List Todo
weighs_of [] = []
weighs_of (context ∷ contexts) =
    todo.Step (step.Count (Context context)) ∷ todo.Silent (silent.Weigh context) ∷ weighs_of contexts

-- The turn loads each domain, updates the estimates that are old enough, weighs the contexts of a strict device, and then tests.
abbrev pub begin_test : (cpu flusher : ℕ) (s : State) → State
begin_test cpu flusher s =
    do_last_at cpu (todo.Silent silent.Test ∷ [])
    (do_last_at cpu (weighs_of (flusher_of flusher s).weighs)
    (do_last_at cpu (measures_of (flusher_of flusher s).measures s)
    (do_last_at cpu (domain_loads (length s.domains) 0) s)))

-- an idle flusher's turn: a test, and in the drain the take of an inode
abbrev pub begin_idle : (trace : Trace) (cpu flusher : ℕ) (s : State) → State
begin_idle trace cpu flusher s =
    if is_drained s
    then take_last trace cpu flusher (waiting_of flusher s).pairs s
    else begin_test cpu flusher s

-- ---- writeback by age

-- The flusher's wheel is told a moment.
abbrev pub told_by : (now : ℕ) (w : Waiting) → Waiting
told_by now w = record w { told = max w.told now }

-- the state in which a flusher's wheel is told a moment
abbrev pub tell : (flusher now : ℕ) (s : State) → State
tell flusher now s = with_waiting flusher (told_by now (waiting_of flusher s)) s

-- The inode waits from now on, and is due as long after the moment as its context's line says.
abbrev pub waits : (trace : Trace) (inode since : ℕ) (w : Waiting) → Waiting
waits trace inode since w = record w { pairs = with_pair (record { due = due_after trace inode since; inode = inode }) w.pairs }

-- the flusher notices an inode at a moment, which goes into the journal
abbrev pub note : (trace : Trace) (cpu flusher inode since : ℕ) (s : State) → State
note trace cpu flusher inode since s =
    log_at cpu (entry.Noticed flusher inode since) (with_waiting flusher (waits trace inode since (waiting_of flusher s)) s)

-- An inode that waits already isn't noticed again.
abbrev pub notice : (trace : Trace) (cpu flusher inode since : ℕ) (s : State) → State
notice trace cpu flusher inode since s =
    if has_inode inode (waiting_of flusher s).pairs then s else note trace cpu flusher inode since s

-- The first of these numbers, which are those of the device's queue, is taken from there.
abbrev pub notice_from : (trace : Trace) (cpu flusher since : ℕ) (numbers : List ℕ) (s : State) → State
notice_from trace cpu flusher since [] s = s
notice_from trace cpu flusher since (inode ∷ inodes) s =
    notice trace cpu flusher inode since (with_queue (flusher_device trace flusher) inodes s)

-- the first inode of the device's queue, if there is one, is taken from there, and noticed where it doesn't wait yet
abbrev pub notice_next : (trace : Trace) (cpu flusher since : ℕ) (s : State) → State
notice_next trace cpu flusher since s = notice_from trace cpu flusher since (queue_of (flusher_device trace flusher) s) s

-- so many numbers of the device's queue, as far as there are any
unfoldable pub notice_all : (trace : Trace) (cpu flusher since : ℕ) (most : ℕ) (s : State) → State
notice_all trace cpu flusher since zero s = s
notice_all trace cpu flusher since (suc most) s = notice_all trace cpu flusher since most (notice_next trace cpu flusher since s)

-- no inode that is due
abbrev pub first_or_rest : (cpu flusher until : ℕ) (pairs : List Due) (s : State) → State
first_or_rest cpu flusher until [] s = rest_until flusher until s
first_or_rest cpu flusher until (pair ∷ pairs) s = take_first cpu flusher pair pairs s

-- no inode is due: the first one is taken where something is over background, and else the flusher rests
abbrev pub take_undue : (cpu flusher until : ℕ) (over : Bool) (pairs : List Due) (s : State) → State
take_undue cpu flusher until over pairs s = if over then first_or_rest cpu flusher until pairs s else rest_until flusher until s

-- The first pair is taken for its age where it is due by now. Else it is taken where a domain, or a context that was weighed, is over
-- background. Else, and where nothing waits, the flusher rests.
abbrev pub take_aged : (cpu flusher now : ℕ) (over : Bool) (pairs : List Due) (s : State) → State
take_aged cpu flusher now over [] s = rest_until flusher (now + FLUSHER_REST) s
take_aged cpu flusher now over (pair ∷ pairs) s =
    if nat_le pair.due now
    then take_due cpu flusher now pair pairs s
    else take_undue cpu flusher (now + FLUSHER_REST) over (pair ∷ pairs) s

-- The turn's moment is told, then inodes are noticed, and then one is taken.
abbrev pub noticed : (trace : Trace) (cpu flusher now : ℕ) (s : State) → State
noticed trace cpu flusher now s = notice_all trace cpu flusher now MOST_NOTICED (tell flusher now s)

-- the flusher takes an inode by age, of those that wait
abbrev pub age_so : (cpu flusher now : ℕ) (over : Bool) (s : State) → State
age_so cpu flusher now over s = take_aged cpu flusher now over (waiting_of flusher s).pairs s

-- a test by age: inodes are noticed, and then one may be taken
abbrev pub age : (trace : Trace) (cpu flusher now : ℕ) (over : Bool) (s : State) → State
age trace cpu flusher now over s = age_so cpu flusher now over (noticed trace cpu flusher now s)

-- ---- the end of a test

-- The hard limit is that of the flusher's last load.
abbrev pub with_hard : (flusher hard : ℕ) (s : State) → State
with_hard flusher hard s = with_flusher flusher (record (flusher_of flusher s) { hard = hard }) s

-- Where a domain or a context that was weighed is over background the flusher takes an inode, and else it rests.
abbrev pub tested : (trace : Trace) (cpu flusher : ℕ) (turn : ReplayTurn) (s : State) → State
tested trace cpu flusher turn s =
    if turn.over
    then take_or_rest trace cpu flusher (turn.began + FLUSHER_REST) (queue_of (flusher_device trace flusher) s) s
    else rest_until flusher (turn.began + FLUSHER_REST) s

-- A flusher of an ageing device, which has a wheel, goes by age.
abbrev pub tested_by : (trace : Trace) (cpu flusher : ℕ) (turn : ReplayTurn) (wheel : Option Waiting) (s : State) → State
tested_by trace cpu flusher turn None s = tested trace cpu flusher turn s
tested_by trace cpu flusher turn (Some w) s = age trace cpu flusher turn.began turn.over s

-- the turn's flusher keeps the hard limit that it loaded, and tests
abbrev pub test_by : (trace : Trace) (cpu : ℕ) (turn : ReplayTurn) (whose : Whose) (s : State) → State
test_by trace cpu turn (whose.Flusher flusher) s =
    tested_by trace cpu flusher turn (flusher_of flusher s).wheel (with_hard flusher turn.global.limits.hard s)
test_by trace cpu turn (whose.Task task) s = s

-- the silent move that tests: the flusher takes an inode, or rests
abbrev pub test : (trace : Trace) (cpu : ℕ) (s : State) → State
test trace cpu s = test_by trace cpu (cpu_of cpu s).turn (cpu_of cpu s).turn.whose s

-- ---- the mark of the inode that was taken

-- the place of the inode at which its scan begins: where the last one of the flusher ended, if the flusher's device is cyclic
abbrev pub start_of : (trace : Trace) (flusher inode : ℕ) (s : State) → ℕ
start_of trace flusher inode s =
    if (device_at trace (flusher_device trace flusher)).cyclic then get_or (flusher_of flusher s).places inode 0 else 0

-- The scan has a quota by the flusher's device and the context's average.
abbrev pub scan_of : (trace : Trace) (flusher inode : ℕ) (s : State) → ReplayPhase
scan_of trace flusher inode s =
    phase.Scanning (record {
      inode = inode;
      first = (inode_of trace inode).first;
      pages = (inode_of trace inode).pages;
      start = start_of trace flusher inode s;
      passed = 0;
      quota = quota_of (device_at trace (flusher_device trace flusher)) (writeback_of (context_of trace inode) s).estimate.avg (flusher_of flusher s).hard;
      noted = false;
    })

-- the inode's mark is cleared, and the flusher scans it
abbrev pub unmark_of : (trace : Trace) (cpu flusher inode : ℕ) (s : State) → State
unmark_of trace cpu flusher inode s =
    plain_step cpu kind.Unmark (in_phase flusher (scan_of trace flusher inode s) (record s { marks = set s.marks inode false }))

-- a flusher that has taken an inode clears its mark
abbrev pub unmark_in : (trace : Trace) (cpu flusher : ℕ) (phase : ReplayPhase) (s : State) → State
unmark_in trace cpu flusher (phase.Taken inode) s = unmark_of trace cpu flusher inode s
unmark_in trace cpu flusher other s = s

-- the turn's flusher clears the mark of the inode that it has taken
abbrev pub unmark_by : (trace : Trace) (cpu : ℕ) (whose : Whose) (s : State) → State
unmark_by trace cpu (whose.Flusher flusher) s = unmark_in trace cpu flusher (flusher_of flusher s).phase s
unmark_by trace cpu (whose.Task task) s = s

-- the step that clears an inode's mark
abbrev pub unmark : (trace : Trace) (cpu : ℕ) (s : State) → State
unmark trace cpu s = unmark_by trace cpu (cpu_of cpu s).turn.whose s
