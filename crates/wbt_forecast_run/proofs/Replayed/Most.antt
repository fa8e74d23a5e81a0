-- What a move does depends on how many steps may be made only where none is left: then the run is spent.
use Rattle.std.proofs.Common.{◌≡◌, ℕ, zero, suc, cond, eqb, List, [], ◌∷◌, ◌++◌, length, Option, Some, None, refl, sym, ◌∙◌, ap, ap₂}
use Rattle.wbt_replay_order.proofs.Common.{Trace, Context, context_of, flusher_device, group_of, MOST_NOTICED, Scan, Due, writer_of, cgroup_line, domain_loads, measure, measures_of, weighs_of, make_step, make_move, make_timer_step, make_timer_move, begin_turn, State, cpu_of, task_of, flusher_of, waiting_of, queue_of, is_drained, begin_timer, pause_in, Cpu, ReplayPhase, ReplayTurn, ReplayWork, Whose, Silent, Step, TimerSilent, TimerStep, Todo, apply, apply_all, Change, CpuChange, FlusherChange, step_changes, move_changes, phase_changes, whose_changes, turn_changes, look_changes, claim_changes, close_changes, hand_over_changes, complete_changes, share_changes, group_changes, land_changes, last_changes, idle_changes, notice_changes, waiting_changes, wheel_changes, test_changes, unmark_changes, timer_step_changes, timer_move_changes, timer_turn_changes, by_task, by_flusher, where_taken, where_scanning, where_flying, then_changes, write_changes, dirty_changes, decide_changes, end_changes, page_changes, work_changes, due_changes, moves_are_changes}
use Rattle.wbt_expiry.specs.Waiting.{Waiting}
use Rattle.wbt_expiry.specs.declared.due.Due.{Due as Pair}
use Rattle.wbt_counter.specs.declared.counter.Counter.TheVariants.{Domain}
use Rattle.wbt_task.specs.declared.allowance.Due.TheVariants as due
use Rattle.wbt_replay_moves.specs.Definition.Weigh.{held_in_group}
use Rattle.wbt_replay_moves.specs.declared.state.ReplayPhase.TheVariants as phase
use Rattle.wbt_replay_moves.specs.declared.state.ReplayWork.TheVariants as work
use Rattle.wbt_replay_moves.specs.declared.state.Whose.TheVariants as whose
use Rattle.wbt_replay_moves.specs.declared.todo.Silent.TheVariants as silent
use Rattle.wbt_replay_moves.specs.declared.todo.Step.TheVariants as step
use Rattle.wbt_replay_moves.specs.declared.todo.TimerSilent.TheVariants as timer_silent
use Rattle.wbt_replay_moves.specs.declared.todo.TimerStep.TheVariants as timer_step
use Rattle.wbt_replay_moves.specs.declared.todo.Todo.TheVariants as todo
use Rattle.wbt_replay_changes.specs.Change as change
use Rattle.wbt_replay_changes.specs.Change.Cpu as cpu_change
use Rattle.wbt_replay_changes.specs.Change.Flusher as flusher_change
use Rattle.wbt_replay_changes.specs.Change.Timer.{TimerChange}
use Rattle.wbt_replay_changes.specs.Change.Timer as timer_change
use Rattle.wbt_replay_changes.specs.ChangeOf.Idle.{notices, weigh_changes}

-- the state of which so many steps may be made
abbrev pub with_most : (most : ℕ) (s : State) → State
with_most most s = record s { most = most }

module _ (trace : Trace) (m : ℕ) where
  -- ---- changes

  of_cpu_same : (cpu : ℕ) (one : CpuChange) (s : State) → apply trace (change.of_cpu cpu one) (with_most m s) ≡ with_most m (apply trace (change.of_cpu cpu one) s)
  of_cpu_same cpu (cpu_change.began w) s = refl
  of_cpu_same cpu (cpu_change.planned items) s = refl
  of_cpu_same cpu (cpu_change.appended items) s = refl
  of_cpu_same cpu (cpu_change.added (Domain d) n) s = refl
  of_cpu_same cpu (cpu_change.added (Context k) n) s = refl
  of_cpu_same cpu (cpu_change.cleared (Domain d)) s = refl
  of_cpu_same cpu (cpu_change.cleared (Context k)) s = refl
  of_cpu_same cpu (cpu_change.found d) s = refl
  of_cpu_same cpu (cpu_change.held d) s = refl
  of_cpu_same cpu (cpu_change.read (Domain d)) s = refl
  of_cpu_same cpu (cpu_change.read (Context k)) s = refl
  of_cpu_same cpu (cpu_change.weighed over) s = refl

  of_flusher_same : (f : ℕ) (one : FlusherChange) (s : State)
      → apply trace (change.of_flusher f one) (with_most m s) ≡ with_most m (apply trace (change.of_flusher f one) s)
  of_flusher_same f (flusher_change.idled until kept) s = refl
  of_flusher_same f (flusher_change.passed scan again) s = refl
  of_flusher_same f (flusher_change.placed scan) s = refl
  of_flusher_same f (flusher_change.limited hard) s = refl
  of_flusher_same f (flusher_change.told now) s = refl

  of_timer_same : (one : TimerChange) (s : State) → apply trace (change.of_timer one) (with_most m s) ≡ with_most m (apply trace (change.of_timer one) s)
  of_timer_same timer_change.began s = refl
  of_timer_same (timer_change.read zero reading) s = refl
  of_timer_same (timer_change.read (suc cgroup) reading) s = refl
  of_timer_same timer_change.rested s = refl

  apply_same : (one : Change) (s : State) → apply trace one (with_most m s) ≡ with_most m (apply trace one s)
  apply_same (change.stepped who kind) s = refl
  apply_same (change.of_cpu cpu one) s = of_cpu_same cpu one s
  apply_same (change.of_task task one) s = refl
  apply_same (change.of_flusher f one) s = of_flusher_same f one s
  apply_same (change.of_timer one) s = of_timer_same one s
  apply_same (change.rewrote cpu task page works) s = refl
  apply_same (change.dirtied cpu task inode page works) s = refl
  apply_same (change.marked inode) s = refl
  apply_same (change.checked cpu check) s = refl
  apply_same (change.ended cpu task) s = refl
  apply_same (change.folded cpu (Domain d)) s = refl
  apply_same (change.folded cpu (Context k)) s = refl
  apply_same (change.estimated cpu context estimate) s = refl
  apply_same (change.took f inode left) s = refl
  apply_same (change.took_due cpu f now pair left) s = refl
  apply_same (change.took_first cpu f pair left) s = refl
  apply_same (change.noticed cpu f inode since left) s = refl
  apply_same (change.dropped f left) s = refl
  apply_same (change.finished f) s = refl
  apply_same (change.unmarked f scan) s = refl
  apply_same (change.claimed cpu f scan) s = refl
  apply_same (change.flew cpu f inode pages until) s = refl
  apply_same (change.completed cpu f context page left) s = refl
  apply_same (change.landed f context pages) s = refl
  apply_same (change.shared cpu domain context pages) s = refl
  apply_same (change.raised domain hard) s = refl
  apply_same (change.unsealed domain) s = refl
  apply_same (change.published domain) s = refl
  apply_same (change.renewed domain periods events) s = refl

  all_same : (changes : List Change) (s : State) → apply_all trace changes (with_most m s) ≡ with_most m (apply_all trace changes s)
  all_same [] s = refl
  all_same (first ∷ more) s = ap (apply_all trace more) (apply_same first s) ∙ all_same more (apply trace first s)

  -- ---- the changes that a move is

  abbrev Same : (changes : State → List Change) → Type 0
  Same changes = (s : State) → changes (with_most m s) ≡ changes s

  followed : (first : List Change) (more : State → List Change) → Same more → Same (then_changes trace first more)
  followed first more same s = ap (λ (changes : List Change). first ++ changes) (ap more (all_same first s) ∙ same (apply_all trace first s))

  tasks : (does : ℕ → State → List Change) → ((task : ℕ) → Same (does task)) → (w : Whose) → Same (by_task does w)
  tasks does each (whose.Task task) s = each task s
  tasks does each (whose.Flusher f) s = refl

  flushers : (does : ℕ → ReplayPhase → State → List Change) → ((f : ℕ) (p : ReplayPhase) → Same (does f p)) → (w : Whose) → Same (by_flusher does w)
  flushers does each (whose.Flusher f) s = each f (flusher_of f s).phase s
  flushers does each (whose.Task task) s = refl

  taken : (does : ℕ → ℕ → State → List Change) → ((f inode : ℕ) → Same (does f inode)) → (f : ℕ) (p : ReplayPhase) → Same (where_taken does f p)
  taken does each f (phase.Taken inode) s = each f inode s
  taken does each f other s = refl

  scanning : (does : ℕ → Scan → State → List Change) → ((f : ℕ) (scan : Scan) → Same (does f scan)) → (f : ℕ) (p : ReplayPhase) → Same (where_scanning does f p)
  scanning does each f (phase.Scanning scan) s = each f scan s
  scanning does each f other s = refl

  flying : (does : ℕ → ℕ → ℕ → State → List Change) → ((f inode pages : ℕ) → Same (does f inode pages)) → (f : ℕ) (p : ReplayPhase) → Same (where_flying does f p)
  flying does each f (phase.Flying inode pages until) s = each f inode pages s
  flying does each f other s = refl

  -- ---- a task

  write_same : (cpu task : ℕ) (works : List ReplayWork) → Same (write_changes trace cpu task works)
  write_same cpu task [] s = refl
  write_same cpu task (work.Rest ticks ∷ works) s = refl
  write_same cpu task (work.Write inode page pages ∷ works) s = refl

  line_same : (group context : ℕ) (turn : ReplayTurn) (s : State) → cgroup_line group context turn (with_most m s) ≡ cgroup_line group context turn s
  line_same zero context turn s = refl
  line_same (suc cgroup) context turn s = refl

  decide_same : (cpu task : ℕ) → Same (decide_changes trace cpu task)
  decide_same cpu task s = rw (line_same (group_of trace (task_of task s).context) (task_of task s).context (cpu_of cpu s).turn s) refl

  page_same : (cpu task : ℕ) (pause : Option ℕ) → Same (page_changes cpu task pause)
  page_same cpu task None s = refl
  page_same cpu task (Some ticks) s = refl

  work_same : (cpu task : ℕ) (works : List ReplayWork) → Same (work_changes cpu task works)
  work_same cpu task [] s = refl
  work_same cpu task (work.Rest ticks ∷ works) s = refl
  work_same cpu task (work.Write inode page pages ∷ works) s = page_same cpu task (pause_in (task_of task s)) s

  due_same : (cpu task : ℕ) (d : Due) → Same (due_changes trace cpu task d)
  due_same cpu task due.Check s = refl
  due_same cpu task due.No s = work_same cpu task (task_of task s).works s

  -- ---- a flight lands

  group_same : (cpu group context pages : ℕ) → Same (group_changes trace cpu group context pages)
  group_same cpu zero context pages s = refl
  group_same cpu (suc cgroup) context pages s = refl

  land_same : (cpu f inode pages : ℕ) → Same (land_changes trace cpu f inode pages)
  land_same cpu f inode pages s =
      let context = context_of trace inode in
      let lands = change.landed f context pages in
      let u = apply trace lands s in
      ap (λ (changes : List Change). cond (eqb (length (flusher_of f s).batch) 0) (lands ∷ changes) [])
      (followed (share_changes trace cpu 0 context pages u) (group_changes trace cpu (group_of trace context) context pages)
      (group_same cpu (group_of trace context) context pages) u)

  -- ---- a flusher tests

  notice_same : (cpu f since : ℕ) (numbers : List ℕ) → Same (notice_changes cpu f since numbers)
  notice_same cpu f since [] s = refl
  notice_same cpu f since (inode ∷ inodes) s = refl

  notices_same : (cpu f since : ℕ) (most : ℕ) → Same (notices trace cpu f since most)
  notices_same cpu f since zero s = refl
  notices_same cpu f since (suc most) s =
      let queue = queue_of (flusher_device trace f) s in
      ap (λ (first : List Change). then_changes trace first (notices trace cpu f since most) (with_most m s)) (notice_same cpu f since queue s)
      ∙ followed (notice_changes cpu f since queue s) (notices trace cpu f since most) (notices_same cpu f since most) s

  wheel_same : (cpu f : ℕ) (turn : ReplayTurn) (wheel : Option Waiting) → Same (wheel_changes trace cpu f turn wheel)
  wheel_same cpu f turn None s = refl
  wheel_same cpu f turn (Some wheel) s =
      let tells = change.of_flusher f (flusher_change.told turn.began) in
      let u = apply trace tells s in
      let ages = waiting_changes cpu f turn.began turn.over in
      ap (λ (changes : List Change). tells ∷ changes)
      (ap (λ (first : List Change). then_changes trace first ages (with_most m u)) (notices_same cpu f turn.began MOST_NOTICED u)
      ∙ followed (notices trace cpu f turn.began MOST_NOTICED u) ages (λ v. refl) u)

  test_same : (cpu : ℕ) (turn : ReplayTurn) (f : ℕ) (p : ReplayPhase) → Same (test_changes trace cpu turn f p)
  test_same cpu turn f p s =
      let keeps = change.of_flusher f (flusher_change.limited turn.global.limits.hard) in
      ap (λ (changes : List Change). keeps ∷ changes) (wheel_same cpu f turn (flusher_of f s).wheel (apply trace keeps s))

  held_same : (group context : ℕ) (c : Cpu) (s : State) → held_in_group group context c (with_most m s) ≡ held_in_group group context c s
  held_same zero context c s = refl
  held_same (suc cgroup) context c s = refl

  weigh_same : (cpu context : ℕ) → Same (weigh_changes trace cpu context)
  weigh_same cpu context s = rw (held_same (group_of trace context) context (cpu_of cpu s) s) refl

  -- ---- what a turn begins with

  last_same : (cpu f : ℕ) (pairs : List Pair) → Same (last_changes trace cpu f pairs)
  last_same cpu f [] s = refl
  last_same cpu f (pair ∷ pairs) s = refl

  measures_same : (contexts : List ℕ) (s : State) → measures_of contexts (with_most m s) ≡ measures_of contexts s
  unfolding measures_of
  measures_same [] s = refl
  measures_same (context ∷ contexts) s = ap (λ (items : List Todo). measure context s ++ items) (measures_same contexts s)

  -- with these measures
  abbrev loads_with : (cpu f : ℕ) (measures : List Todo) (s : State) → List Change
  loads_with cpu f measures s =
      change.of_cpu cpu (cpu_change.appended (domain_loads (length s.domains) 0)) ∷ change.of_cpu cpu (cpu_change.appended measures)
      ∷ change.of_cpu cpu (cpu_change.appended (weighs_of (flusher_of f s).weighs))
      ∷ change.of_cpu cpu (cpu_change.appended (todo.Silent silent.Test ∷ [])) ∷ []

  idle_same : (cpu f : ℕ) → Same (idle_changes trace cpu f)
  idle_same cpu f s =
      ap₂ (λ (last : List Change) (items : List Todo). cond (is_drained s) last (loads_with cpu f items s))
      (last_same cpu f (waiting_of f s).pairs s) (measures_same (flusher_of f s).measures s)

  phase_same : (cpu f : ℕ) (p : ReplayPhase) → Same (phase_changes trace cpu f p)
  phase_same cpu f (phase.Idle until kept) s = idle_same cpu f s
  phase_same cpu f other s = refl

  whose_same : (cpu : ℕ) (w : Whose) → Same (whose_changes trace cpu w)
  whose_same cpu (whose.Task task) s = due_same cpu task (writer_of (task_of task s)).due s
  whose_same cpu (whose.Flusher f) s = phase_same cpu f (flusher_of f s).phase s

  turn_same : (cpu : ℕ) (w : Whose) → Same (turn_changes trace cpu w)
  turn_same cpu w s =
      let begins = change.of_cpu cpu (cpu_change.began w) in
      ap (λ (changes : List Change). begins ∷ changes) (whose_same cpu w (apply trace begins s))

  -- ---- each item

  step_same : (cpu : ℕ) (item : Step) → Same (step_changes trace cpu item)
  step_same cpu step.Dirty s = tasks (dirty_changes trace cpu) (λ t v. write_same cpu t (task_of t v).works v) (cpu_of cpu s).turn.whose s
  step_same cpu (step.Add x n) s = refl
  step_same cpu (step.Fold x) s = refl
  step_same cpu (step.Clear x) s = refl
  step_same cpu (step.Mark inode) s = refl
  step_same cpu (step.First domain) s = refl
  step_same cpu (step.Middle domain) s = refl
  step_same cpu (step.Limits domain) s = refl
  step_same cpu (step.Count x) s = refl
  step_same cpu step.Unmark s =
      flushers (where_taken (unmark_changes trace cpu)) (taken (unmark_changes trace cpu) (λ f n v. refl)) (cpu_of cpu s).turn.whose s
  step_same cpu step.Look s = flushers (where_scanning (look_changes cpu)) (scanning (look_changes cpu) (λ f scan v. refl)) (cpu_of cpu s).turn.whose s
  step_same cpu (step.Claim word) s =
      flushers (where_scanning (claim_changes cpu word)) (scanning (claim_changes cpu word) (λ f scan v. refl)) (cpu_of cpu s).turn.whose s
  step_same cpu step.Complete s =
      flushers (where_flying (complete_changes trace cpu)) (flying (complete_changes trace cpu) (λ f n pages v. refl)) (cpu_of cpu s).turn.whose s

  move_same : (cpu : ℕ) (item : Silent) → Same (move_changes trace cpu item)
  move_same cpu silent.Decide s = tasks (decide_changes trace cpu) (decide_same cpu) (cpu_of cpu s).turn.whose s
  move_same cpu silent.End s = tasks (end_changes cpu) (λ task v. refl) (cpu_of cpu s).turn.whose s
  move_same cpu (silent.Estimate context) s = refl
  move_same cpu (silent.Weigh context) s = weigh_same cpu context s
  move_same cpu silent.Test s =
      flushers (test_changes trace cpu (cpu_of cpu s).turn) (test_same cpu (cpu_of cpu s).turn) (cpu_of cpu s).turn.whose s
  move_same cpu silent.Close s = flushers (where_scanning (close_changes cpu)) (scanning (close_changes cpu) (λ f scan v. refl)) (cpu_of cpu s).turn.whose s
  move_same cpu silent.HandOver s =
      flushers (where_scanning (hand_over_changes trace cpu)) (scanning (hand_over_changes trace cpu) (λ f scan v. refl)) (cpu_of cpu s).turn.whose s
  move_same cpu silent.Land s = flushers (where_flying (land_changes trace cpu)) (flying (land_changes trace cpu) (land_same cpu)) (cpu_of cpu s).turn.whose s

  timer_step_same : (item : TimerStep) → Same (timer_step_changes item)
  timer_step_same (timer_step.Count domain) s = refl
  timer_step_same (timer_step.Peak domain) s = refl
  timer_step_same (timer_step.Unseal domain) s = refl
  timer_step_same (timer_step.Thresh domain) s = refl
  timer_step_same (timer_step.Publish domain) s = refl

  timer_move_same : (item : TimerSilent) → Same (timer_move_changes item)
  timer_move_same (timer_silent.Period domain) s = refl
  timer_move_same timer_silent.Rest s = refl

  -- ---- moves

  made_by : (f : State → State) (changes : State → List Change) → ((s : State) → f s ≡ apply_all trace (changes s) s) → Same changes
      → (s : State) → f (with_most m s) ≡ with_most m (f s)
  made_by f changes is same s =
      is (with_most m s)
      ∙ (ap (λ (cs : List Change). apply_all trace cs (with_most m s)) (same s) ∙ (all_same (changes s) s ∙ ap (with_most m) (sym (is s))))

  pub turns_alike : (cpu : ℕ) (w : Whose) (s : State) → begin_turn trace cpu w (with_most m s) ≡ with_most m (begin_turn trace cpu w s)
  turns_alike cpu w = made_by (begin_turn trace cpu w) (turn_changes trace cpu w) ((moves_are_changes trace).turns cpu w) (turn_same cpu w)

  pub steps_alike : (cpu : ℕ) (item : Step) (s : State) → make_step trace cpu item (with_most m s) ≡ with_most m (make_step trace cpu item s)
  steps_alike cpu item = made_by (make_step trace cpu item) (step_changes trace cpu item) ((moves_are_changes trace).steps cpu item) (step_same cpu item)

  pub moves_alike : (cpu : ℕ) (item : Silent) (s : State) → make_move trace cpu item (with_most m s) ≡ with_most m (make_move trace cpu item s)
  moves_alike cpu item = made_by (make_move trace cpu item) (move_changes trace cpu item) ((moves_are_changes trace).moves cpu item) (move_same cpu item)

  pub timer_turns_alike : (s : State) → begin_timer (with_most m s) ≡ with_most m (begin_timer s)
  timer_turns_alike = made_by begin_timer (λ s. timer_turn_changes) (moves_are_changes trace).timer_turns (λ s. refl)

  pub timer_steps_alike : (item : TimerStep) (s : State) → make_timer_step trace item (with_most m s) ≡ with_most m (make_timer_step trace item s)
  timer_steps_alike item = made_by (make_timer_step trace item) (timer_step_changes item) ((moves_are_changes trace).timer_steps item) (timer_step_same item)

  pub timer_moves_alike : (item : TimerSilent) (s : State) → make_timer_move item (with_most m s) ≡ with_most m (make_timer_move item s)
  timer_moves_alike item = made_by (make_timer_move item) (timer_move_changes item) ((moves_are_changes trace).timer_moves item) (timer_move_same item)
