-- Plain changes leave the timer, the peaks, the checks and the estimates as they are, and write no page; and so does each move but a write,
-- a check, an estimate and the timer's. A write leaves all but the pages as they are.
use Rattle.std.proofs.Common.{◌≡◌, ℕ, zero, suc, true, false, eqb, ℤ, pos, ◌+ℤ◌, unsigned_abs, List, [], ◌∷◌, flat_map, refl, ap, sym}
use Rattle.wbt_replay_order.proofs.Common.{Trace, Counter, aged, Half, batch_of, Entry, page_of, context_of, group_of, counted, added, own_of, with_own, log_at, logged, then_do, owed_to, part_in, make_step, make_move, begin_turn, State, cpu_of, with_cpu, task_of, with_task, domain_of, with_domain, count_of, with_count, writeback_of, with_writeback, with_event, passed_page, count_page, dirty, dirty_by, dirty_next, dirty_page, dirty_fresh, Cpu, Domain, ReplayTask, ReplayWork, Whose, Writeback, Silent, Step, cpu_after, apply, Change, CpuChange, IsPlainMove, turn_keeps, move_keeps, uncounted, written_in}
use Rattle.wbt_book.specs.declared.event.Event.TheVariants as event
use Rattle.wbt_counter.specs.declared.counter.Counter.TheVariants.{Domain as ofDomain, Context as ofContext}
use Rattle.wbt_flex.specs.Proportions.{added as added_events}
use Rattle.wbt_journal.specs.declared.entry.Entry.TheVariants as entry
use Rattle.wbt_replay_moves.specs.Definition.Flight.{with_part}
use Rattle.wbt_replay_moves.specs.declared.state.ReplayWork.TheVariants as work
use Rattle.wbt_replay_moves.specs.declared.state.Whose.TheVariants as whose
use Rattle.wbt_replay_moves.specs.declared.todo.Step.TheVariants as step
use Rattle.wbt_replay_moves.specs.declared.todo.Todo.TheVariants as todo
use Rattle.wbt_replay_changes.specs.Change as change
use Rattle.wbt_replay_changes.specs.Change.Cpu as cpu_change
use Rattle.wbt_replay_changes.specs.Change.Task.{TaskChange}
use Rattle.wbt_replay_changes.specs.Change.Task as task_change
use Rattle.wbt_replay_changes.specs.Plain.{IsPlain, IsPlainTask, IsPlainStep}
use Rattle.wbt_replay_changes.proofs.Keeping.{step_keeps}
use Rattle.wbt_replay_changes.proofs.Plain.{plain}
use Rattle.wbt_replay_order.proofs.Facts.Lists.{either}
use Rattle.wbt_replay_order.proofs.Growth.Quiet.{HasNames, Quiet, still, then_still, is_name, log_names, quiet_cpu, quiet_domain, quiet_writeback}
use Rattle.wbt_replay_order.proofs.Written.Same.{pages_of, told_by, Wrote, unwritten, then_unwritten, wrote_cpu, wrote_task, unlogged}

-- all of these are the same, and no page is written
abbrev pub Calm : (s u : State) → Type 0
Calm s u = Quiet s u × Wrote s u

calm : (s : State) → Calm s s
calm s = (still s, unwritten s)

then_calm : (s u v : State) → Calm s u → Calm u v → Calm s v
then_calm s u v h k = (then_still s u v h.0 k.0, then_unwritten s u v h.1 k.1)

-- what of a CPU is the same
abbrev Same : (c d : Cpu) → Type 0
Same c d = (c.checks ≡ d.checks) × (c.estimates ≡ d.estimates) × (HasNames d → HasNames c) × ((t : ℕ) → told_by t c ≡ told_by t d)

alone : (cpu : ℕ) (c : Cpu) (s : State) → Same c (cpu_of cpu s) → Calm s (with_cpu cpu c s)
alone cpu c s h = (quiet_cpu cpu c s h.0 h.1 h.2, wrote_cpu cpu c s h.3)

-- an entry is logged that names nothing and tells no write
logs : (cpu : ℕ) (e : Entry) (s : State) → is_name e ≡ false → ((t : ℕ) → written_in t e ≡ []) → Calm s (log_at cpu e s)
logs cpu e s none untold = alone cpu (logged e (cpu_of cpu s)) s (refl, refl, log_names e (cpu_of cpu s) none, unlogged e (cpu_of cpu s) untold)

-- ---- a change

same_own : (x : Counter) (n : ℤ) (c : Cpu) → Same (with_own x n c) c
same_own (ofDomain d) n c = (refl, refl, (λ h. h), (λ t. refl))
same_own (ofContext k) n c = (refl, refl, (λ h. h), (λ t. refl))

same_added : (batch : ℕ) (x : Counter) (n : ℤ) (c : Cpu) → Same (added batch x n c) c
same_added batch x n c =
    either (λ (y : Cpu). Same y c) (eqb (unsigned_abs n) batch) _ _ (λ full. same_own x n c) (λ room. same_own x n c)

same_part : (domain : ℕ) (part : Half) (w : Writeback) → (with_part domain part w).estimate ≡ w.estimate
same_part zero part w = refl
same_part (suc cgroup) part w = refl

same_after : (trace : Trace) (one : CpuChange) (s : State) (c : Cpu) → Same (cpu_after trace one s c) c
same_after trace (cpu_change.added x n) s c = same_added (batch_of trace x) x (own_of x c +ℤ n) c
same_after trace (cpu_change.cleared x) s c = same_own x (pos 0) c
same_after trace other s c = (refl, refl, (λ h. h), (λ t. refl))

module _ (trace : Trace) (s : State) where
  calm_task : (task : ℕ) (one : TaskChange) → IsPlainTask task one s → Calm s (apply trace (change.of_task task one) s)
  calm_task task (task_change.rested until works) h =
      let t : ReplayTask = record (task_of task s) { works = works; rest = until } in
      (still s, wrote_task task t s (sym (ap (λ (ws : List ReplayWork). flat_map pages_of ws) h.works)))
  calm_task task (task_change.paused until) h = (still s, wrote_task task (record (task_of task s) { since = 0; rest = until }) s refl)

  calm_shared : (cpu domain context pages : ℕ) → Calm s (apply trace (change.shared cpu domain context pages) s)
  calm_shared cpu domain context pages =
      let events = (domain_of domain s).events in
      let d : Domain = record (domain_of domain s) { events = added_events events pages } in
      let part : Half = added_events (aged (part_in domain (writeback_of context s)) events.period) pages in
      let w : Writeback = with_part domain part (writeback_of context s) in
      let u = with_domain domain d s in
      let v = with_writeback context w u in
      then_calm s u (log_at cpu (entry.Share domain context pages) v) (quiet_domain domain d s refl, unwritten s)
      (then_calm u v (log_at cpu (entry.Share domain context pages) v)
      (quiet_writeback context w u (same_part domain part (writeback_of context s)), unwritten u)
      (logs cpu (entry.Share domain context pages) v refl (λ t. refl)))

  calm_change : (one : Change) → IsPlain one s → Calm s (apply trace one s)
  calm_change (change.stepped who kind) h = calm s
  calm_change (change.of_cpu cpu one) h = alone cpu (cpu_after trace one s (cpu_of cpu s)) s (same_after trace one s (cpu_of cpu s))
  calm_change (change.of_task task one) h = calm_task task one h
  calm_change (change.of_flusher flusher one) h = calm s
  calm_change (change.of_timer one) h = absurd h
  calm_change (change.rewrote cpu task page works) h = absurd h
  calm_change (change.dirtied cpu task inode page works) h = absurd h
  calm_change (change.marked inode) h = calm s
  calm_change (change.checked cpu check) h = absurd h
  calm_change (change.ended cpu task) h =
      let t : ReplayTask = record (task_of task s) { ended = true } in
      let u = with_task task t s in
      then_calm s u (apply trace (change.ended cpu task) s) (still s, wrote_task task t s refl) (alone cpu _ u (refl, refl, (λ h. h), (λ k. refl)))
  calm_change (change.folded cpu (ofDomain d)) h =
      let u = with_count (ofDomain d) (counted (own_of (ofDomain d) (cpu_of cpu s)) (count_of (ofDomain d) s)) s in
      then_calm s u (apply trace (change.folded cpu (ofDomain d)) s) (quiet_domain d _ s refl, unwritten s) (logs cpu (entry.Folded _) u refl (λ t. refl))
  calm_change (change.folded cpu (ofContext k)) h =
      let u = with_count (ofContext k) (counted (own_of (ofContext k) (cpu_of cpu s)) (count_of (ofContext k) s)) s in
      then_calm s u (apply trace (change.folded cpu (ofContext k)) s) (quiet_writeback k _ s refl, unwritten s) (logs cpu (entry.Folded _) u refl (λ t. refl))
  calm_change (change.estimated cpu context estimate) h = absurd h
  calm_change (change.took flusher inode left) h = calm s
  calm_change (change.took_due cpu flusher now pair left) h = logs cpu (entry.Aged flusher pair.inode pair.due now) s refl (λ t. refl)
  calm_change (change.took_first cpu flusher pair left) h = logs cpu (entry.Taken flusher pair.inode) s refl (λ t. refl)
  calm_change (change.noticed cpu flusher inode since left) h = logs cpu (entry.Noticed flusher inode since) s refl (λ t. refl)
  calm_change (change.dropped flusher left) h = calm s
  calm_change (change.finished flusher) h = calm s
  calm_change (change.unmarked flusher scan) h = calm s
  calm_change (change.claimed cpu flusher scan) h = logs cpu (entry.Claimed flusher (page_of scan)) s refl (λ t. refl)
  calm_change (change.flew cpu flusher inode pages until) h = logs cpu (entry.Batch flusher pages s.now until) s refl (λ t. refl)
  calm_change (change.completed cpu flusher context page left) h =
      let u = log_at cpu (entry.Done flusher page) s in
      then_calm s u (apply trace (change.completed cpu flusher context page left) s)
      (logs cpu (entry.Done flusher page) s refl (λ t. refl)) (alone cpu _ u (refl, refl, (λ h. h), (λ t. refl)))
  calm_change (change.landed flusher context pages) h = (quiet_writeback context _ s refl, unwritten s)
  calm_change (change.shared cpu domain context pages) h = calm_shared cpu domain context pages
  calm_change (change.raised domain hard) h = absurd h
  calm_change (change.unsealed domain) h = absurd h
  calm_change (change.published domain) h = absurd h
  calm_change (change.renewed domain periods events) h = absurd h

-- ---- a move

module _ (trace : Trace) (cpu : ℕ) where
  pub calm_turn : (w : Whose) (s : State) → Calm s (begin_turn trace cpu w s)
  calm_turn = turn_keeps trace Calm calm then_calm (λ s one h. calm_change trace s one (plain one s (uncounted one s h))) cpu

  pub calm_step : (item : Step) (s : State) → IsPlainStep item → Calm s (make_step trace cpu item s)
  calm_step = step_keeps trace Calm calm then_calm (calm_change trace) cpu

  pub calm_move : (item : Silent) (s : State) → IsPlainMove item → Calm s (make_move trace cpu item s)
  calm_move = move_keeps trace Calm calm then_calm (λ s one h. calm_change trace s one (plain one s (uncounted one s h))) cpu

-- ---- a write

quiet_fresh : (trace : Trace) (cpu task inode page : ℕ) (s : State) → Quiet s (dirty_fresh trace cpu task inode page s)
quiet_fresh trace cpu task inode page s =
    let context = context_of trace inode in
    let u = count_page cpu task context (with_event (event.Dirty page) page s) in
    let v = log_at cpu (entry.Write task page true) u in
    let items = owed_to (pos 1) context (group_of trace context) (todo.Step (step.Mark inode)) in
    then_still s v (then_do cpu items v)
    (then_still s u v (quiet_cpu cpu _ s refl refl (λ n. n)) (quiet_cpu cpu _ u refl refl (log_names (entry.Write task page true) (cpu_of cpu u) refl)))
    (quiet_cpu cpu _ v refl refl (λ n. n))

quiet_page : (trace : Trace) (cpu task inode page : ℕ) (s : State) → Quiet s (dirty_page trace cpu task inode page s)
quiet_page trace cpu task inode page s =
    either (Quiet s) (s.book page).dirty _ (dirty_fresh trace cpu task inode page s)
    (λ known. quiet_cpu cpu _ s refl refl (log_names (entry.Write task page false) (cpu_of cpu s) refl)) (λ fresh. quiet_fresh trace cpu task inode page s)

quiet_next : (trace : Trace) (cpu task : ℕ) (works : List ReplayWork) (s : State) → Quiet s (dirty_next trace cpu task works s)
quiet_next trace cpu task [] s = still s
quiet_next trace cpu task (work.Rest ticks ∷ works) s = still s
quiet_next trace cpu task (work.Write inode page pages ∷ works) s =
    quiet_page trace cpu task inode page (with_task task (passed_page inode page pages works (task_of task s)) s)

quiet_dirty_by : (trace : Trace) (cpu : ℕ) (w : Whose) (s : State) → Quiet s (dirty_by trace cpu w s)
quiet_dirty_by trace cpu (whose.Task task) s = quiet_next trace cpu task (task_of task s).works s
quiet_dirty_by trace cpu (whose.Flusher flusher) s = still s

pub quiet_dirty : (trace : Trace) (cpu : ℕ) (s : State) → Quiet s (dirty trace cpu s)
quiet_dirty trace cpu s = quiet_dirty_by trace cpu (cpu_of cpu s).turn.whose s
