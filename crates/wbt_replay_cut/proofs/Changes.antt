-- The changes that a move of the cut state is are those that it is of the whole one. So each move makes of the cut state a cut.
use Rattle.std.proofs.Common.{◌≡◌, ℕ, zero, suc, eqb, cond, List, [], ◌∷◌, ◌++◌, length, Option, Some, None, refl, sym, ◌∙◌, ap, ap₂, subst}
use Rattle.wbt_replay_order.proofs.Common.{Trace, at_least_zero, update_of, context_of, flusher_device, group_of, MOST_NOTICED, Scan, Due, writer_of, cgroup_line, check_of, decision_at, sample_of, domain_loads, measure, measures_of, weighs_of, make_step, make_move, make_timer_step, make_timer_move, begin_turn, State, cpu_of, task_of, flusher_of, waiting_of, queue_of, domain_of, writeback_of, is_drained, begin_timer, is_over_by_itself, weighed_by, pause_in, Cpu, ReplayPhase, ReplayTurn, ReplayWork, Whose, Silent, Step, Todo, TimerSilent, TimerStep, apply, apply_all, Change, step_changes, move_changes, phase_changes, whose_changes, turn_changes, look_changes, claim_changes, close_changes, hand_over_changes, complete_changes, share_changes, group_changes, land_changes, estimated_changes, last_changes, idle_changes, notice_changes, waiting_changes, wheel_changes, test_changes, unmark_changes, timer_step_changes, timer_move_changes, timer_turn_changes, by_task, by_flusher, where_taken, where_scanning, where_flying, then_changes, page_changes, work_changes, due_changes, write_changes, dirty_changes, decide_changes, end_changes, moves_are_changes}
use Rattle.wbt_expiry.specs.Waiting.{Waiting}
use Rattle.wbt_expiry.specs.declared.due.Due.{Due as Pair}
use Rattle.wbt_grant.specs.declared.who.StepKind.TheVariants as kind
use Rattle.wbt_task.specs.declared.allowance.Due.TheVariants as due
use Rattle.wbt_replay_moves.specs.Definition.Weigh.{held_in_group}
use Rattle.wbt_replay_moves.specs.declared.state.ReplayPhase.TheVariants as phase
use Rattle.wbt_replay_moves.specs.declared.state.ReplayWork.TheVariants as work
use Rattle.wbt_replay_moves.specs.declared.state.Whose.TheVariants as whose
use Rattle.wbt_replay_moves.specs.declared.todo.Silent.TheVariants as silent
use Rattle.wbt_replay_moves.specs.declared.todo.Step.TheVariants as step
use Rattle.wbt_replay_moves.specs.declared.todo.Todo.TheVariants as todo
use Rattle.wbt_replay_moves.specs.declared.todo.TimerSilent.TheVariants as timer_silent
use Rattle.wbt_replay_moves.specs.declared.todo.TimerStep.TheVariants as timer_step
use Rattle.wbt_replay_changes.specs.Change as change
use Rattle.wbt_replay_changes.specs.Change.Cpu as cpu_change
use Rattle.wbt_replay_changes.specs.Change.Flusher as flusher_change
use Rattle.wbt_replay_changes.specs.Change.Timer as timer_change
use Rattle.wbt_replay_changes.specs.ChangeOf.Idle.{notices}
use Rattle.wbt_replay_cut.specs.Cut.{Told, cut_cpu, cut, IsWithin}
use Rattle.wbt_replay_cut.proofs.Apply.{apply_cut, all_cut}
use Rattle.wbt_replay_cut.proofs.Lists.{cut_at, cpus_stay}
use Rattle.wbt_replay_cut.proofs.Parts.{Keeps}

-- these changes of the cut state are those of the whole one
abbrev pub Same : (told : Told) (changes : State → List Change) → Type 0
Same told changes = (s : State) → IsWithin told s → changes (cut told s) ≡ changes s

-- the check of a task by what a turn has loaded
abbrev decided_by : (trace : Trace) (cpu task : ℕ) (turn : ReplayTurn) (s : State) → List Change
decided_by trace cpu task turn s =
    let context = (task_of task s).context in
    change.checked cpu (check_of trace task context turn (decision_at trace context (task_of task s) turn s) s) ∷ []

-- the weighing of a context by what a CPU holds
abbrev weighed_of : (trace : Trace) (cpu context : ℕ) (c : Cpu) (s : State) → List Change
weighed_of trace cpu context c s = change.of_cpu cpu (cpu_change.weighed (is_over_by_itself (weighed_by trace context c s))) ∷ []

-- what a flusher's test begins with, with these measures
abbrev loads_with : (cpu f : ℕ) (measures : List Todo) (s : State) → List Change
loads_with cpu f measures s =
    change.of_cpu cpu (cpu_change.appended (domain_loads (length s.domains) 0)) ∷ change.of_cpu cpu (cpu_change.appended measures)
    ∷ change.of_cpu cpu (cpu_change.appended (weighs_of (flusher_of f s).weighs))
    ∷ change.of_cpu cpu (cpu_change.appended (todo.Silent silent.Test ∷ [])) ∷ []

module _ (trace : Trace) (told : Told) where
  -- changes, and more that are made of the state after them
  followed : (first : List Change) (more : State → List Change) → Same told more → Same told (then_changes trace first more)
  followed first more same s w =
      let after = all_cut trace told first s w in
      ap (λ (changes : List Change). first ++ changes) (ap more after.same ∙ same (apply_all trace first s) after.within)

  -- ---- whose turn it is, and what its flusher is at

  tasks : (does : ℕ → State → List Change) → ((task : ℕ) → Same told (does task)) → (w : Whose) → Same told (by_task does w)
  tasks does each (whose.Task task) s w = each task s w
  tasks does each (whose.Flusher flusher) s w = refl

  flushers : (does : ℕ → ReplayPhase → State → List Change) → ((f : ℕ) (p : ReplayPhase) → Same told (does f p))
      → (w : Whose) → Same told (by_flusher does w)
  flushers does each (whose.Flusher f) s w = each f (flusher_of f s).phase s w
  flushers does each (whose.Task task) s w = refl

  taken : (does : ℕ → ℕ → State → List Change) → ((f inode : ℕ) → Same told (does f inode))
      → (f : ℕ) (p : ReplayPhase) → Same told (where_taken does f p)
  taken does each f (phase.Taken inode) s w = each f inode s w
  taken does each f other s w = refl

  scanning : (does : ℕ → Scan → State → List Change) → ((f : ℕ) (scan : Scan) → Same told (does f scan))
      → (f : ℕ) (p : ReplayPhase) → Same told (where_scanning does f p)
  scanning does each f (phase.Scanning scan) s w = each f scan s w
  scanning does each f other s w = refl

  flying : (does : ℕ → ℕ → ℕ → State → List Change) → ((f inode pages : ℕ) → Same told (does f inode pages))
      → (f : ℕ) (p : ReplayPhase) → Same told (where_flying does f p)
  flying does each f (phase.Flying inode pages until) s w = each f inode pages s w
  flying does each f other s w = refl

  -- ---- a task

  write_same : (cpu task : ℕ) (works : List ReplayWork) → Same told (write_changes trace cpu task works)
  write_same cpu task [] s w = refl
  write_same cpu task (work.Rest ticks ∷ works) s w = refl
  write_same cpu task (work.Write inode page pages ∷ works) s w = refl

  group_line_same : (group context : ℕ) (turn : ReplayTurn) (s : State) → cgroup_line group context turn (cut told s) ≡ cgroup_line group context turn s
  group_line_same zero context turn s = refl
  group_line_same (suc cgroup) context turn s = refl

  -- by what a turn has loaded
  decide_same : (cpu task : ℕ) (turn : ReplayTurn) (s : State) → decided_by trace cpu task turn (cut told s) ≡ decided_by trace cpu task turn s
  decide_same cpu task turn s = rw (group_line_same (group_of trace (task_of task s).context) (task_of task s).context turn s) refl

  page_same : (cpu task : ℕ) (pause : Option ℕ) → Same told (page_changes cpu task pause)
  page_same cpu task None s w = refl
  page_same cpu task (Some ticks) s w = refl

  work_same : (cpu task : ℕ) (works : List ReplayWork) → Same told (work_changes cpu task works)
  work_same cpu task [] s w = refl
  work_same cpu task (work.Rest ticks ∷ works) s w = refl
  work_same cpu task (work.Write inode page pages ∷ works) s w = page_same cpu task (pause_in (task_of task s)) s w

  due_same : (cpu task : ℕ) (due : Due) → Same told (due_changes trace cpu task due)
  due_same cpu task due.Check s w = refl
  due_same cpu task due.No s w = work_same cpu task (task_of task s).works s w

  -- ---- a flight lands

  group_same : (cpu group context pages : ℕ) → Same told (group_changes trace cpu group context pages)
  group_same cpu zero context pages s w = refl
  group_same cpu (suc cgroup) context pages s w = refl

  land_same : (cpu f inode pages : ℕ) → Same told (land_changes trace cpu f inode pages)
  land_same cpu f inode pages s w =
      let context = context_of trace inode in
      let lands = change.landed f context pages in
      let u = apply trace lands s in
      ap (λ (changes : List Change). cond (eqb (length (flusher_of f s).batch) 0) (lands ∷ changes) [])
      (followed (share_changes trace cpu 0 context pages u) (group_changes trace cpu (group_of trace context) context pages)
      (group_same cpu (group_of trace context) context pages) u (apply_cut trace told s w lands).within)

  -- ---- a flusher tests

  notice_same : (cpu f since : ℕ) (numbers : List ℕ) → Same told (notice_changes cpu f since numbers)
  notice_same cpu f since [] s w = refl
  notice_same cpu f since (inode ∷ inodes) s w = refl

  notices_same : (cpu f since : ℕ) (most : ℕ) → Same told (notices trace cpu f since most)
  notices_same cpu f since zero s w = refl
  notices_same cpu f since (suc most) s w =
      let queue = queue_of (flusher_device trace f) s in
      ap (λ (first : List Change). then_changes trace first (notices trace cpu f since most) (cut told s)) (notice_same cpu f since queue s w)
      ∙ followed (notice_changes cpu f since queue s) (notices trace cpu f since most) (notices_same cpu f since most) s w

  wheel_same : (cpu f : ℕ) (turn : ReplayTurn) (wheel : Option Waiting) → Same told (wheel_changes trace cpu f turn wheel)
  wheel_same cpu f turn None s w = refl
  wheel_same cpu f turn (Some wheel) s w =
      let tells = change.of_flusher f (flusher_change.told turn.began) in
      let u = apply trace tells s in
      let h = (apply_cut trace told s w tells).within in
      let ages = waiting_changes cpu f turn.began turn.over in
      ap (λ (changes : List Change). tells ∷ changes)
      (ap (λ (first : List Change). then_changes trace first ages (cut told u)) (notices_same cpu f turn.began MOST_NOTICED u h)
      ∙ followed (notices trace cpu f turn.began MOST_NOTICED u) ages (λ v k. refl) u h)

  test_same : (cpu : ℕ) (turn : ReplayTurn) (f : ℕ) (p : ReplayPhase) → Same told (test_changes trace cpu turn f p)
  test_same cpu turn f p s w =
      let keeps = change.of_flusher f (flusher_change.limited turn.global.limits.hard) in
      ap (λ (changes : List Change). keeps ∷ changes)
      (wheel_same cpu f turn (flusher_of f s).wheel (apply trace keeps s) (apply_cut trace told s w keeps).within)

  held_same : (group cpu context : ℕ) (c : Cpu) (s : State)
      → held_in_group group context (cut_cpu told cpu c) (cut told s) ≡ held_in_group group context c s
  held_same zero cpu context c s = refl
  held_same (suc cgroup) cpu context c s = refl

  weigh_same : (cpu context : ℕ) (c : Cpu) (s : State) → weighed_of trace cpu context (cut_cpu told cpu c) (cut told s) ≡ weighed_of trace cpu context c s
  weigh_same cpu context c s = rw (held_same (group_of trace context) cpu context c s) refl

  -- ---- what a turn begins with

  last_same : (cpu f : ℕ) (pairs : List Pair) → Same told (last_changes trace cpu f pairs)
  last_same cpu f [] s w = refl
  last_same cpu f (pair ∷ pairs) s w = refl

  measures_same : (contexts : List ℕ) (s : State) → measures_of contexts (cut told s) ≡ measures_of contexts s
  unfolding measures_of
  measures_same [] s = refl
  measures_same (context ∷ contexts) s = ap (λ (items : List Todo). measure context s ++ items) (measures_same contexts s)

  idle_same : (cpu f : ℕ) → Same told (idle_changes trace cpu f)
  idle_same cpu f s w =
      ap₂ (λ (last : List Change) (items : List Todo). cond (is_drained s) last (loads_with cpu f items s))
      (last_same cpu f (waiting_of f s).pairs s w) (measures_same (flusher_of f s).measures s)

  phase_same : (cpu f : ℕ) (p : ReplayPhase) → Same told (phase_changes trace cpu f p)
  phase_same cpu f (phase.Idle until kept) s w = idle_same cpu f s w
  phase_same cpu f other s w = refl

  whose_same : (cpu : ℕ) (w : Whose) → Same told (whose_changes trace cpu w)
  whose_same cpu (whose.Task task) s w = due_same cpu task (writer_of (task_of task s)).due s w
  whose_same cpu (whose.Flusher f) s w = phase_same cpu f (flusher_of f s).phase s w

  turn_same : (cpu : ℕ) (w : Whose) → Same told (turn_changes trace cpu w)
  turn_same cpu w s h =
      let begins = change.of_cpu cpu (cpu_change.began w) in
      let after = apply_cut trace told s h begins in
      ap (λ (changes : List Change). begins ∷ changes) (ap (whose_changes trace cpu w) after.same ∙ whose_same cpu w (apply trace begins s) after.within)

  -- ---- each item

  -- whose turn it is, is the same
  by_turn : (cpu : ℕ) (s : State) (changes : Whose → State → List Change) → ((w : Whose) → Same told (changes w)) → IsWithin told s
      → changes (cpu_of cpu (cut told s)).turn.whose (cut told s) ≡ changes (cpu_of cpu s).turn.whose s
  by_turn cpu s changes same w =
      ap (λ (c : Cpu). changes c.turn.whose (cut told s)) (cut_at told s.cpus cpu) ∙ same (cpu_of cpu s).turn.whose s w

  -- and what else the CPU has
  by_cpu : (cpu : ℕ) (s : State) (changes : Cpu → State → List Change)
      → changes (cut_cpu told cpu (cpu_of cpu s)) (cut told s) ≡ changes (cpu_of cpu s) s
      → changes (cpu_of cpu (cut told s)) (cut told s) ≡ changes (cpu_of cpu s) s
  by_cpu cpu s changes same = ap (λ (c : Cpu). changes c (cut told s)) (cut_at told s.cpus cpu) ∙ same

  step_same : (cpu : ℕ) (item : Step) → Same told (step_changes trace cpu item)
  step_same cpu step.Dirty s w =
      by_turn cpu s (by_task (dirty_changes trace cpu)) (tasks (dirty_changes trace cpu) (λ t v. write_same cpu t (task_of t v).works v)) w
  step_same cpu (step.Add x n) s w = refl
  step_same cpu (step.Fold x) s w = refl
  step_same cpu (step.Clear x) s w = refl
  step_same cpu (step.Mark inode) s w = refl
  step_same cpu (step.First domain) s w = refl
  step_same cpu (step.Middle domain) s w = refl
  step_same cpu (step.Limits domain) s w = refl
  step_same cpu (step.Count x) s w = refl
  step_same cpu step.Unmark s w =
      by_turn cpu s (by_flusher (where_taken (unmark_changes trace cpu))) (flushers _ (taken (unmark_changes trace cpu) (λ f n v h. refl))) w
  step_same cpu step.Look s w =
      by_turn cpu s (by_flusher (where_scanning (look_changes cpu))) (flushers _ (scanning (look_changes cpu) (λ f scan v h. refl))) w
  step_same cpu (step.Claim word) s w =
      by_turn cpu s (by_flusher (where_scanning (claim_changes cpu word))) (flushers _ (scanning (claim_changes cpu word) (λ f scan v h. refl))) w
  step_same cpu step.Complete s w =
      by_turn cpu s (by_flusher (where_flying (complete_changes trace cpu))) (flushers _ (flying (complete_changes trace cpu) (λ f n pages v h. refl))) w

  move_same : (cpu : ℕ) (item : Silent) → Same told (move_changes trace cpu item)
  move_same cpu silent.Decide s w =
      by_turn cpu s (by_task (decide_changes trace cpu))
      (tasks (decide_changes trace cpu) (λ t v h. by_cpu cpu v (λ c. decided_by trace cpu t c.turn) (decide_same cpu t (cpu_of cpu v).turn v))) w
  move_same cpu silent.End s w = by_turn cpu s (by_task (end_changes cpu)) (tasks (end_changes cpu) (λ task v h. refl)) w
  move_same cpu (silent.Estimate context) s w =
      by_cpu cpu s (λ c v. estimated_changes cpu context (update_of (writeback_of context v).estimate (sample_of trace context c.turn v))) refl
  move_same cpu (silent.Weigh context) s w = by_cpu cpu s (weighed_of trace cpu context) (weigh_same cpu context (cpu_of cpu s) s)
  move_same cpu silent.Test s w =
      let turn = (cpu_of cpu s).turn in
      by_cpu cpu s (λ c. by_flusher (test_changes trace cpu c.turn) c.turn.whose) (flushers (test_changes trace cpu turn) (test_same cpu turn) turn.whose s w)
  move_same cpu silent.Close s w =
      by_turn cpu s (by_flusher (where_scanning (close_changes cpu))) (flushers _ (scanning (close_changes cpu) (λ f scan v h. refl))) w
  move_same cpu silent.HandOver s w =
      by_turn cpu s (by_flusher (where_scanning (hand_over_changes trace cpu))) (flushers _ (scanning (hand_over_changes trace cpu) (λ f scan v h. refl))) w
  move_same cpu silent.Land s w =
      by_turn cpu s (by_flusher (where_flying (land_changes trace cpu))) (flushers _ (flying (land_changes trace cpu) (land_same cpu))) w

  -- the timer's number is how many CPUs there are
  by_timer : (s : State) (changes : ℕ → List Change) → changes (length (cut told s).cpus) ≡ changes (length s.cpus)
  by_timer s changes = ap changes (cpus_stay told s.cpus)

  timer_step_same : (item : TimerStep) → Same told (timer_step_changes item)
  timer_step_same (timer_step.Count domain) s w =
      by_timer s (λ n. change.of_timer (timer_change.read domain (at_least_zero (domain_of domain s).count.value)) ∷ change.stepped n kind.Count ∷ [])
  timer_step_same (timer_step.Peak domain) s w = refl
  timer_step_same (timer_step.Unseal domain) s w = by_timer s (λ n. change.unsealed domain ∷ change.stepped n kind.Unseal ∷ [])
  timer_step_same (timer_step.Thresh domain) s w = by_timer s (λ n. change.stepped n kind.Thresh ∷ [])
  timer_step_same (timer_step.Publish domain) s w = by_timer s (λ n. change.published domain ∷ change.stepped n kind.Publish ∷ [])

  timer_move_same : (item : TimerSilent) → Same told (timer_move_changes item)
  timer_move_same (timer_silent.Period domain) s w = refl
  timer_move_same timer_silent.Rest s w = refl

  -- ---- moves

  made_by : (f : State → State) (changes : State → List Change) → ((s : State) → f s ≡ apply_all trace (changes s) s) → Same told changes
      → Keeps told f
  made_by f changes is same s w =
      let h = all_cut trace told (changes s) s w in
      record {
        same = is (cut told s)
            ∙ (ap (λ (cs : List Change). apply_all trace cs (cut told s)) (same s w) ∙ (h.same ∙ ap (cut told) (sym (is s))));
        within = subst (IsWithin told) (sym (is s)) h.within;
      }

  pub turns_keep : (cpu : ℕ) (w : Whose) → Keeps told (begin_turn trace cpu w)
  turns_keep cpu w = made_by (begin_turn trace cpu w) (turn_changes trace cpu w) ((moves_are_changes trace).turns cpu w) (turn_same cpu w)

  pub steps_keep : (cpu : ℕ) (item : Step) → Keeps told (make_step trace cpu item)
  steps_keep cpu item = made_by (make_step trace cpu item) (step_changes trace cpu item) ((moves_are_changes trace).steps cpu item) (step_same cpu item)

  pub moves_keep : (cpu : ℕ) (item : Silent) → Keeps told (make_move trace cpu item)
  moves_keep cpu item = made_by (make_move trace cpu item) (move_changes trace cpu item) ((moves_are_changes trace).moves cpu item) (move_same cpu item)

  pub timer_turns_keep : Keeps told begin_timer
  timer_turns_keep = made_by begin_timer (λ s. timer_turn_changes) (moves_are_changes trace).timer_turns (λ s w. refl)

  pub timer_steps_keep : (item : TimerStep) → Keeps told (make_timer_step trace item)
  timer_steps_keep item = made_by (make_timer_step trace item) (timer_step_changes item) ((moves_are_changes trace).timer_steps item) (timer_step_same item)

  pub timer_moves_keep : (item : TimerSilent) → Keeps told (make_timer_move item)
  timer_moves_keep item = made_by (make_timer_move item) (timer_move_changes item) ((moves_are_changes trace).timer_moves item) (timer_move_same item)
