-- A turn of a flusher that flies: it completes the batch's next page, and after the last one counts the batch in.
use Rattle.std.specs.Prelude.{ℕ, zero, suc, ◌+◌, false, if◌then◌else◌, ◌==◌, negsuc, List, [], ◌∷◌, length}
use Rattle.wbt_trace.specs.declared.trace.Trace.{Trace}
use Rattle.wbt_book.specs.declared.event.Event.TheVariants as event
use Rattle.wbt_flex.specs.Proportions.{added, aged, fraction_of, may_be_added}
use Rattle.wbt_flex.specs.declared.half.Half.{Half}
use Rattle.wbt_grant.specs.declared.who.StepKind.TheVariants as kind
use Rattle.wbt_journal.specs.declared.entry.Entry.TheVariants as entry
use Rattle.wbt_replay_moves.specs.Definition.Cpu.{log_at, owe_at}
use Rattle.wbt_replay_moves.specs.Definition.State.{State, cpu_of, flusher_of, with_flusher, domain_of, with_domain, writeback_of, with_writeback, stepped, with_event, in_phase}
use Rattle.wbt_rules.specs.Things.{context_of, group_of, max_share}
use Rattle.wbt_replay_moves.specs.declared.state.ReplayPhase.{ReplayPhase}
use Rattle.wbt_replay_moves.specs.declared.state.ReplayPhase.TheVariants as phase
use Rattle.wbt_replay_moves.specs.declared.state.Whose.{Whose}
use Rattle.wbt_replay_moves.specs.declared.state.Whose.TheVariants as whose
use Rattle.wbt_replay_moves.specs.declared.state.Writeback.{Writeback}
use Rattle.wbt_replay_moves.specs.declared.todo.Todo.TheVariants as todo
use Rattle.wbt_replay_moves.specs.declared.todo.Silent.TheVariants as silent

-- ---- a page

-- The counters are settled, and the flight may then end.
abbrev pub complete_page : (trace : Trace) (cpu flusher context page : ℕ) (s : State) → State
complete_page trace cpu flusher context page s =
    stepped cpu kind.Complete context (negsuc 0)
    (owe_at cpu (negsuc 0) context (group_of trace context) (todo.Silent silent.Land)
    (log_at cpu (entry.Done flusher page) (with_event (event.Complete page) page s)))

-- the flusher completes the first page of its batch
abbrev pub complete_first : (trace : Trace) (cpu flusher context : ℕ) (batch : List ℕ) (s : State) → State
complete_first trace cpu flusher context [] s = s
complete_first trace cpu flusher context (page ∷ pages) s =
    complete_page trace cpu flusher context page (with_flusher flusher (record (flusher_of flusher s) { batch = pages }) s)

-- a flusher that flies completes its next page, which is of its inode's context
abbrev pub complete_in : (trace : Trace) (cpu flusher : ℕ) (phase : ReplayPhase) (s : State) → State
complete_in trace cpu flusher (phase.Flying inode pages until) s =
    complete_first trace cpu flusher (context_of trace inode) (flusher_of flusher s).batch s
complete_in trace cpu flusher other s = s

-- the turn's flusher completes its next page
abbrev pub complete_by : (trace : Trace) (cpu : ℕ) (whose : Whose) (s : State) → State
complete_by trace cpu (whose.Flusher flusher) s = complete_in trace cpu flusher (flusher_of flusher s).phase s
complete_by trace cpu (whose.Task task) s = s

-- the step that completes a page
abbrev pub complete : (trace : Trace) (cpu : ℕ) (s : State) → State
complete trace cpu s = complete_by trace cpu (cpu_of cpu s).turn.whose s

-- ---- the batch is counted in

-- the context's part in a domain: the global one, or its cgroup
abbrev pub part_in : (domain : ℕ) (w : Writeback) → Half
part_in zero w = w.part
part_in (suc cgroup) w = w.cgroup_part

-- the context with this part in a domain
abbrev pub with_part : (domain : ℕ) (part : Half) (w : Writeback) → Writeback
with_part zero part w = record w { part = part }
with_part (suc cgroup) part w = record w { cgroup_part = part }

-- Part and domain get the batch, where the fraction is at most the device's greatest share.
abbrev pub share_now : (cpu domain context n : ℕ) (s : State) → State
share_now cpu domain context n s =
    let d = domain_of domain s in
    let w = writeback_of context s in
    log_at cpu (entry.Share domain context n)
    (with_writeback context (with_part domain (added (aged (part_in domain w) d.events.period) n) w)
    (with_domain domain (record d { events = added d.events n }) s))

-- the batch is counted in for the context in one domain, up to the device's greatest share
abbrev pub share : (trace : Trace) (cpu domain context n : ℕ) (s : State) → State
share trace cpu domain context n s =
    if may_be_added (fraction_of (part_in domain (writeback_of context s)) (domain_of domain s).events) (max_share trace context)
    then share_now cpu domain context n s
    else s

-- in the global domain, and then in the context's cgroup
abbrev pub share_group : (trace : Trace) (cpu group context n : ℕ) (s : State) → State
share_group trace cpu zero context n s = s
share_group trace cpu (suc cgroup) context n s = share trace cpu (suc cgroup) context n s

-- the context has written so many pages more
abbrev pub with_written : (context n : ℕ) (s : State) → State
with_written context n s =
    with_writeback context (record (writeback_of context s) { written = (writeback_of context s).written + n }) s

-- the batch is done: the flusher is idle, and the context and its domains get the pages
abbrev pub landed : (trace : Trace) (cpu flusher context n : ℕ) (s : State) → State
landed trace cpu flusher context n s =
    share_group trace cpu (group_of trace context) context n (share trace cpu 0 context n
    (with_written context n (in_phase flusher (phase.Idle 0 false) s)))

-- a flight lands once no page of its batch is left to complete
abbrev pub land_in : (trace : Trace) (cpu flusher : ℕ) (phase : ReplayPhase) (s : State) → State
land_in trace cpu flusher (phase.Flying inode pages until) s =
    if length (flusher_of flusher s).batch == 0 then landed trace cpu flusher (context_of trace inode) pages s else s
land_in trace cpu flusher other s = s

-- the flight of the turn's flusher lands where it may
abbrev pub land_by : (trace : Trace) (cpu : ℕ) (whose : Whose) (s : State) → State
land_by trace cpu (whose.Flusher flusher) s = land_in trace cpu flusher (flusher_of flusher s).phase s
land_by trace cpu (whose.Task task) s = s

-- the silent move at which a flight may end
abbrev pub land : (trace : Trace) (cpu : ℕ) (s : State) → State
land trace cpu s = land_by trace cpu (cpu_of cpu s).turn.whose s
