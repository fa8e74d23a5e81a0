-- The state after a change, and after a list of them. Each equation says what changes; the rest is as it was.
use Rattle.std.specs.Prelude.{ℕ, ◌+◌, ◌-◌, true, false, max, ◌||◌, ◌+ℤ◌, pos, negsuc, Some, List, [], ◌∷◌, ◌++◌, length, set}
use Rattle.wbt_trace.specs.declared.trace.Trace.{Trace}
use Rattle.wbt_book.specs.declared.event.Event.TheVariants as event
use Rattle.wbt_flex.specs.Proportions.{added, aged}
use Rattle.wbt_grant.specs.declared.who.StepKind.TheVariants as kind
use Rattle.wbt_journal.specs.Machine.{batch_of}
use Rattle.wbt_journal.specs.declared.entry.Entry.TheVariants as entry
use Rattle.wbt_journal.specs.declared.timer.TimerEntry.TheVariants as timer_entry
use Rattle.wbt_rules.specs.Pace.{since_after}
use Rattle.wbt_rules.specs.Places.{page_of}
use Rattle.wbt_rules.specs.Things.{context_of, device_of, group_of, flusher_device}
use Rattle.wbt_rules.specs.declared.scan.Scan.{Scan}
use Rattle.wbt_replay_moves.specs.Definition.Check.{tell_task}
use Rattle.wbt_replay_moves.specs.Definition.Counters.{counted, fold_of, word_of, holds, count_kept}
use Rattle.wbt_replay_moves.specs.Definition.Cpu.{do_next, do_last, at_turn, log_at, checked, estimated, own_of, with_own, added as added_own, owe_at}
use Rattle.wbt_replay_moves.specs.Definition.Flight.{part_in, with_part, with_written}
use Rattle.wbt_replay_moves.specs.Definition.Idle.{told_by, waits, with_pairs}
use Rattle.wbt_replay_moves.specs.Definition.Scan.{places_after}
use Rattle.wbt_replay_moves.specs.Definition.State.{State, cpu_of, with_cpu, task_of, with_task, flusher_of, with_flusher, waiting_of, with_waiting, with_queue, domain_of, with_domain, writeback_of, with_writeback, count_of, with_count, stepped, plain_step, with_event, in_phase, queued}
use Rattle.wbt_replay_moves.specs.Definition.Timer.{with_timer, reads_global, finds, raised, sequenced, timer_logged, rested, turn_items}
use Rattle.wbt_replay_moves.specs.Definition.Weigh.{over_noted}
use Rattle.wbt_replay_moves.specs.Definition.Writer.{count_page, end_now}
use Rattle.wbt_replay_moves.specs.declared.state.Cpu.{Cpu}
use Rattle.wbt_replay_moves.specs.declared.state.Flusher.{Flusher}
use Rattle.wbt_replay_moves.specs.declared.state.ReplayPhase.TheVariants as phase
use Rattle.wbt_replay_moves.specs.declared.state.ReplayTask.{ReplayTask}
use Rattle.wbt_replay_moves.specs.declared.state.ReplayWork.{ReplayWork}
use Rattle.wbt_replay_moves.specs.declared.state.Timer.{Timer}
use Rattle.wbt_replay_moves.specs.declared.todo.Silent.TheVariants as silent
use Rattle.wbt_replay_moves.specs.declared.todo.Step.TheVariants as step
use Rattle.wbt_replay_moves.specs.declared.todo.Todo.TheVariants as todo
use Rattle.wbt_replay_changes.specs.Change.{Change}
use Rattle.wbt_replay_changes.specs.Change as change
use Rattle.wbt_replay_changes.specs.Change.Cpu.{CpuChange}
use Rattle.wbt_replay_changes.specs.Change.Cpu as cpu_change
use Rattle.wbt_replay_changes.specs.Change.Task.{TaskChange}
use Rattle.wbt_replay_changes.specs.Change.Task as task_change
use Rattle.wbt_replay_changes.specs.Change.Flusher.{FlusherChange}
use Rattle.wbt_replay_changes.specs.Change.Flusher as flusher_change
use Rattle.wbt_replay_changes.specs.Change.Timer.{TimerChange}
use Rattle.wbt_replay_changes.specs.Change.Timer as timer_change

-- ---- one thing alone

-- the CPU after a change of it alone
abbrev pub cpu_after : (trace : Trace) (change : CpuChange) (s : State) (c : Cpu) → Cpu
cpu_after trace (cpu_change.began whose) s c = at_turn whose s.now c
cpu_after trace (cpu_change.planned items) s c = do_next items c
cpu_after trace (cpu_change.appended items) s c = do_last items c
cpu_after trace (cpu_change.added x change) s c = added_own (batch_of trace x) x (own_of x c +ℤ change) c
cpu_after trace (cpu_change.cleared x) s c = with_own x (pos 0) c
cpu_after trace (cpu_change.found domain) s c = record c { turn = record c.turn { found = word_of (domain_of domain s) } }
cpu_after trace (cpu_change.held domain) s c = holds domain (domain_of domain s) c
cpu_after trace (cpu_change.read x) s c = record c { turn = count_kept x (count_of x s) c.turn }
cpu_after trace (cpu_change.weighed over) s c = over_noted over c

-- the task after a change of it alone
abbrev pub task_after : (change : TaskChange) (t : ReplayTask) → ReplayTask
task_after (task_change.rested until works) t = record t { works = works; rest = until }
task_after (task_change.paused until) t = record t { since = 0; rest = until }

-- the flusher after a change of it alone
abbrev pub flusher_after : (trace : Trace) (flusher : ℕ) (change : FlusherChange) (s : State) (f : Flusher) → Flusher
flusher_after trace flusher (flusher_change.idled until kept) s f = record f { phase = phase.Idle until kept }
flusher_after trace flusher (flusher_change.passed scan again) s f =
    record f { phase = phase.Scanning (record scan { passed = scan.passed + 1; noted = scan.noted || again }) }
flusher_after trace flusher (flusher_change.placed scan) s f = record f { places = places_after trace flusher scan f.places }
flusher_after trace flusher (flusher_change.limited hard) s f = record f { hard = hard }
flusher_after trace flusher (flusher_change.told now) s f = record f { wheel = Some (told_by now (waiting_of flusher s)) }

-- the timer after a change of it alone
abbrev pub timer_after : (trace : Trace) (change : TimerChange) (s : State) (timer : Timer) → Timer
timer_after trace timer_change.began s timer = record timer { todo = timer.todo ++ turn_items (length s.domains); began = s.now }
timer_after trace (timer_change.read domain reading) s timer =
    finds trace domain (domain_of domain s).limits.hard reading (reads_global domain reading timer)
timer_after trace timer_change.rested s timer = rested timer

-- ---- a change

-- the task has passed its next page, and these works are left
abbrev pub passes : (task : ℕ) (works : List ReplayWork) (s : State) → State
passes task works s = with_task task (record (task_of task s) { works = works; since = since_after (task_of task s).pace (task_of task s).since }) s

-- The page is dirty: the CPU and the writer count it, its counters are owed the event, and then its inode is marked.
abbrev pub dirties : (trace : Trace) (cpu task inode page context : ℕ) (s : State) → State
dirties trace cpu task inode page context s =
    stepped cpu kind.Dirty context (pos 1)
    (owe_at cpu (pos 1) context (group_of trace context) (todo.Step (step.Mark inode))
    (log_at cpu (entry.Write task page true) (count_page cpu task context (with_event (event.Dirty page) page s))))

-- The page isn't under writeback any more: its counters are owed the event, and then the flight may end.
abbrev pub completes : (trace : Trace) (cpu flusher context page : ℕ) (s : State) → State
completes trace cpu flusher context page s =
    stepped cpu kind.Complete context (negsuc 0)
    (owe_at cpu (negsuc 0) context (group_of trace context) (todo.Silent silent.Land)
    (log_at cpu (entry.Done flusher page) (with_event (event.Complete page) page s)))

-- the page goes into the batch, and is passed
abbrev pub claims : (cpu flusher : ℕ) (scan : Scan) (s : State) → State
claims cpu flusher scan s =
    log_at cpu (entry.Claimed flusher (page_of scan))
    (with_flusher flusher (record (flusher_of flusher s) {
      phase = phase.Scanning (record scan { passed = scan.passed + 1 });
      batch = (flusher_of flusher s).batch ++ page_of scan ∷ [];
    }) (with_event (event.Claim (page_of scan)) (page_of scan) s))

-- part and domain get the pages
abbrev pub shares : (cpu domain context pages : ℕ) (s : State) → State
shares cpu domain context pages s =
    log_at cpu (entry.Share domain context pages)
    (with_writeback context (with_part domain (added (aged (part_in domain (writeback_of context s)) (domain_of domain s).events.period) pages) (writeback_of context s))
    (with_domain domain (record (domain_of domain s) { events = added (domain_of domain s).events pages }) s))

-- the domain's limits are those that the timer has found, which goes into its part of the journal
abbrev pub publishes : (domain : ℕ) (s : State) → State
publishes domain s =
    with_timer (timer_logged (timer_entry.Limits domain s.timer.began s.timer.limits) s.timer)
    (with_domain domain (record (domain_of domain s) { limits = s.timer.limits; sequence = (domain_of domain s).sequence + 1 }) s)

-- the state after a change
abbrev pub apply : (trace : Trace) (change : Change) (s : State) → State
apply trace (change.stepped who kind) s = plain_step who kind s
apply trace (change.of_cpu cpu change) s = with_cpu cpu (cpu_after trace change s (cpu_of cpu s)) s
apply trace (change.of_task task change) s = with_task task (task_after change (task_of task s)) s
apply trace (change.of_flusher flusher change) s = with_flusher flusher (flusher_after trace flusher change s (flusher_of flusher s)) s
apply trace (change.of_timer change) s = with_timer (timer_after trace change s s.timer) s
apply trace (change.rewrote cpu task page works) s = log_at cpu (entry.Write task page false) (passes task works s)
apply trace (change.dirtied cpu task inode page works) s = dirties trace cpu task inode page (context_of trace inode) (passes task works s)
apply trace (change.marked inode) s = queued (device_of trace inode) inode (record s { marks = set s.marks inode true })
apply trace (change.checked cpu check) s =
    with_cpu cpu (checked check (cpu_of cpu s)) (tell_task check.task check.context check.decision s)
apply trace (change.ended cpu task) s = end_now cpu task s
apply trace (change.folded cpu x) s =
    with_cpu cpu (fold_of x (count_of x s) (cpu_of cpu s)) (with_count x (counted (own_of x (cpu_of cpu s)) (count_of x s)) s)
apply trace (change.estimated cpu context estimate) s =
    with_cpu cpu (estimated (record { context = context; estimate = estimate }) (cpu_of cpu s))
    (with_writeback context (record (writeback_of context s) { estimate = estimate }) s)
apply trace (change.took flusher inode left) s = in_phase flusher (phase.Taken inode) (with_queue (flusher_device trace flusher) left s)
apply trace (change.took_due cpu flusher now pair left) s =
    in_phase flusher (phase.Taken pair.inode) (log_at cpu (entry.Aged flusher pair.inode pair.due now) (with_pairs flusher left s))
apply trace (change.took_first cpu flusher pair left) s =
    in_phase flusher (phase.Taken pair.inode) (log_at cpu (entry.Taken flusher pair.inode) (with_pairs flusher left s))
apply trace (change.noticed cpu flusher inode since left) s =
    log_at cpu (entry.Noticed flusher inode since)
    (with_waiting flusher (waits trace inode since (waiting_of flusher s)) (with_queue (flusher_device trace flusher) left s))
apply trace (change.dropped flusher left) s = with_queue (flusher_device trace flusher) left s
apply trace (change.finished flusher) s = in_phase flusher phase.Finished (record s { working = s.working - 1 })
apply trace (change.unmarked flusher scan) s =
    in_phase flusher (phase.Scanning scan) (record s { marks = set s.marks scan.inode false })
apply trace (change.claimed cpu flusher scan) s = claims cpu flusher scan s
apply trace (change.flew cpu flusher inode pages until) s =
    log_at cpu (entry.Batch flusher pages s.now until) (in_phase flusher (phase.Flying inode pages until) s)
apply trace (change.completed cpu flusher context page left) s =
    completes trace cpu flusher context page (with_flusher flusher (record (flusher_of flusher s) { batch = left }) s)
apply trace (change.landed flusher context pages) s = with_written context pages (in_phase flusher (phase.Idle 0 false) s)
apply trace (change.shared cpu domain context pages) s = shares cpu domain context pages s
apply trace (change.raised domain hard) s =
    raised domain hard (with_domain domain (record (domain_of domain s) { peak = max (domain_of domain s).peak hard }) s)
apply trace (change.unsealed domain) s = sequenced domain s
apply trace (change.published domain) s = publishes domain s
apply trace (change.renewed domain periods events) s =
    with_timer (timer_logged (timer_entry.Period domain periods) s.timer) (with_domain domain (record (domain_of domain s) { events = events }) s)

-- the state after these changes, one after another
abbrev pub apply_all : (trace : Trace) (changes : List Change) (s : State) → State
apply_all trace [] s = s
apply_all trace (first ∷ more) s = apply_all trace more (apply trace first s)
