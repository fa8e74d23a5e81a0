-- Every page of every write is told or still to be written, at each moment of a sound run; and where a run that isn't cut off has ended,
-- all are told.
use Rattle.std.proofs.Common.{◌≡◌, ℕ, zero, suc, ◌+◌, ◌<◌, ◌≤◌, Bool, true, false, cond, eqb, pos, List, [], ◌∷◌, ◌++◌, length, get_or, flat_map, refl, sym, ◌∙◌, ap, subst, arith, Option, Some, None, append_assoc, ⊎_elim}
use Rattle.std.proofs.Math.ListN.{set}
use Rattle.std.proofs.lemmas.List.{append-nil, length-set}
use Rattle.std.proofs.lemmas.Bool.{cases_Bool}
use mathlib.Core.Logic.{dite}
use native.Mathlib.Decide.{ℕ_discrete}
use Rattle.wbt_replay_order.proofs.Common.{Action, Trace, update_of, Estimate, after_period, Half, numbers, pages_of_task, decision_at, told_task, decide_for, do_next, logged, log_at, owed_to, estimate, estimate_to, sample_of, pace_of, inode_of, context_of, group_of, make_timer_step, make_timer_move, State, no_cpu, no_task, cpu_of, with_cpu, task_of, with_task, plain_step, domain_of, writeback_of, with_timer, period, period_to, is_time, periods, passed_page, dirty, dirty_by, dirty_next, dirty_fresh, counted_page, counted_local, Cpu, ReplayTask, Whose, ReplayWork, TimerSilent, TimerStep, TimerTodo, Todo, opening, work_of, works_of, first_cpu, first_cpus, first_task, first_tasks, is_ended, state_at, task_cpu}
use Rattle.wbt_trace.specs.declared.trace.Action.TheVariants as action
use Rattle.wbt_grant.specs.declared.who.StepKind.TheVariants as kind
use Rattle.wbt_journal.specs.Machine.{pages_of_action}
use Rattle.wbt_journal.specs.declared.entry.Entry.TheVariants as entry
use Rattle.wbt_replay_moves.specs.declared.state.Whose.TheVariants as whose
use Rattle.wbt_replay_moves.specs.declared.state.ReplayWork.TheVariants as work
use Rattle.wbt_replay_moves.specs.declared.todo.Silent.TheVariants as move
use Rattle.wbt_replay_moves.specs.declared.todo.Step.TheVariants as item
use Rattle.wbt_replay_moves.specs.declared.todo.TimerSilent.TheVariants as silent
use Rattle.wbt_replay_moves.specs.declared.todo.TimerStep.TheVariants as step
use Rattle.wbt_replay_moves.specs.declared.todo.TimerTodo.TheVariants as timer_todo
use Rattle.wbt_replay_moves.specs.declared.todo.Todo.TheVariants as todo
use Rattle.wbt_replay_order.proofs.Growth.Runs.{run_none, run_last, run_stays}
use Rattle.wbt_replay_order.proofs.Facts.Lists.{either, twice}
use Rattle.wbt_replay_order.proofs.Lists.Places.{thrice}
use Rattle.wbt_replay_order.proofs.Outset.Numbered.{numbered_all, numbered_at}
use Rattle.wbt_replay_order.proofs.Growth.Advancing.{stepping, advance_all}
use Rattle.wbt_replay_order.proofs.Growth.Quiet.{same_at}
use Rattle.wbt_replay_order.proofs.Written.Dirtying.{all_of, pages_before, mine, others}
use Rattle.wbt_replay_order.proofs.Written.Same.{pages_of, to_write, told_by, Wrote, then_unwritten, wrote_cpu, wrote_task, unlogged}

-- a write that comes next is that of a task of the CPU, which has a page of it to write
abbrev pub WritesFit : (trace : Trace) (cpus : List Cpu) (tasks : List ReplayTask) → Type 0
WritesFit trace cpus tasks = (cpu task : ℕ) (rest : List Todo) → cpu < length cpus → (get_or cpus cpu no_cpu).todo ≡ todo.Step item.Dirty ∷ rest
    → (get_or cpus cpu no_cpu).turn.whose ≡ whose.Task task
    → (task < length tasks) × (task_cpu trace task ≡ cpu)
    × ((inode page pages : ℕ) (works : List ReplayWork) → (get_or tasks task no_task).works ≡ work.Write inode page pages ∷ works → 1 ≤ pages)

-- told and still to be written are, of each task, the pages of its writes
abbrev pub AllThere : (trace : Trace) (s : State) → Type 0
AllThere trace s = (t : ℕ) → t < length trace.tasks → all_of (task_cpu trace t) t s.cpus s.tasks ≡ pages_of_task trace t

module _ (trace : Trace) where
  framed : (s u : State) → Wrote s u → AllThere trace s → AllThere trace u
  framed s u wrote h t less =
      ap (λ (l : List ℕ). l ++ to_write (get_or u.tasks t no_task)) (wrote.told (task_cpu trace t) t)
      ∙ ap (λ (l : List ℕ). told_by t (get_or s.cpus (task_cpu trace t) no_cpu) ++ l) (wrote.ahead t)
      ∙ h t less

  -- a page is told and taken from its task's works
  one_page : (s u : State) (cpu task page : ℕ) (fresh : Bool) (c : Cpu) (t : ReplayTask) → cpu < length s.cpus → task < length s.tasks → task_cpu trace task ≡ cpu
      → c.entries ≡ (cpu_of cpu s).entries ++ entry.Write task page fresh ∷ [] → to_write (task_of task s) ≡ page ∷ to_write t
      → u.cpus ≡ set s.cpus cpu c → u.tasks ≡ set s.tasks task t → AllThere trace s → AllThere trace u
  one_page s u cpu task page fresh c t seat there on told ahead cpus tasks h k less =
      ap (λ (cs : List Cpu). all_of (task_cpu trace k) k cs u.tasks) cpus
      ∙ ap (λ (ts : List ReplayTask). all_of (task_cpu trace k) k (set s.cpus cpu c) ts) tasks
      ∙ dite (ℕ_discrete k task)
      (λ same.
      let place : task_cpu trace k ≡ cpu = ap (task_cpu trace) same ∙ on in
      ap (λ (n : ℕ). all_of n k (set s.cpus cpu c) (set s.tasks task t)) place
      ∙ ap (λ (n : ℕ). all_of cpu n (set s.cpus cpu c) (set s.tasks task t)) same
      ∙ mine s.cpus s.tasks cpu task c t page fresh seat there told ahead
      ∙ ap (λ (n : ℕ). all_of cpu n s.cpus s.tasks) (sym same)
      ∙ ap (λ (n : ℕ). all_of n k s.cpus s.tasks) (sym place))
      (λ apart. others s.cpus s.tasks cpu task c t page fresh seat there told ahead (task_cpu trace k) k apart)
      ∙ h k less

  write_next : (cpu task : ℕ) (works : List ReplayWork) (s : State) → (task_of task s).works ≡ works → cpu < length s.cpus → task < length s.tasks → task_cpu trace task ≡ cpu
      → ((inode page pages : ℕ) (more : List ReplayWork) → (task_of task s).works ≡ work.Write inode page pages ∷ more → 1 ≤ pages)
      → AllThere trace s → AllThere trace (dirty_next trace cpu task works s)
  write_next cpu task [] s is seat there on some h = h
  write_next cpu task (work.Rest ticks ∷ works) s is seat there on some h = h
  write_next cpu task (work.Write inode page pages ∷ works) s is seat there on some h =
      let t : ReplayTask = passed_page inode page pages works (task_of task s) in
      let ahead : to_write (task_of task s) ≡ page ∷ to_write t =
      ap (λ (ws : List ReplayWork). flat_map pages_of ws) is ∙ pages_before inode page pages works (some inode page pages works is) in
      either (AllThere trace) (s.book page).dirty _ (dirty_fresh trace cpu task inode page (with_task task t s))
      (λ known. one_page s (plain_step cpu kind.Dirty (log_at cpu (entry.Write task page false) (with_task task t s))) cpu task page false (logged (entry.Write task page false) (cpu_of cpu s)) t seat there on refl ahead refl refl h)
      (λ new. by_fresh inode page t ahead)
    where
      by_fresh : (inode page : ℕ) (t : ReplayTask) → to_write (task_of task s) ≡ page ∷ to_write t → AllThere trace (dirty_fresh trace cpu task inode page (with_task task t s))
      by_fresh inode page t ahead =
          let k : ℕ = context_of trace inode in
          let c : Cpu = cpu_of cpu s in
          let w : State = with_task task t s in
          let counted : Cpu = record c { local = counted_local s.ratelimit_pages k c.local (task_of task w) } in
          let log : Cpu → Cpu = λ x. logged (entry.Write task page true) x in
          let owe : Cpu → Cpu = λ x. do_next (owed_to (pos 1) k (group_of trace k) (todo.Step (item.Mark inode))) x in
          one_page s (dirty_fresh trace cpu task inode page w) cpu task page true (owe (log counted)) (counted_page s.ratelimit_pages k c.local t)
          seat there on refl ahead (thrice log owe s.cpus cpu counted no_cpu seat) (twice (counted_page s.ratelimit_pages k c.local) s.tasks task t no_task there) h

  writes : (cpu : ℕ) (rest : List Todo) (s : State) → cpu < length s.cpus → (cpu_of cpu s).todo ≡ todo.Step item.Dirty ∷ rest
      → WritesFit trace s.cpus s.tasks → AllThere trace s → AllThere trace (dirty trace cpu (stepping cpu rest s))
  writes cpu rest s seat is can h =
      let c : Cpu = record (cpu_of cpu s) { todo = rest; made = (cpu_of cpu s).made + 1 } in
      let u : State = stepping cpu rest s in
      let h2 : AllThere trace u = framed s u (wrote_cpu cpu c s (λ t. refl)) h in
      subst (λ (w : Whose). AllThere trace (dirty_by trace cpu w u)) (sym (same_at (λ (x : Cpu). x.turn.whose) s.cpus cpu c no_cpu refl cpu))
      (by_whose (cpu_of cpu s).turn.whose refl u (omega (arith, seat, length-set s.cpus cpu c)) refl h2)
    where
      by_whose : (w : Whose) → (cpu_of cpu s).turn.whose ≡ w → (u : State) → cpu < length u.cpus → u.tasks ≡ s.tasks → AllThere trace u → AllThere trace (dirty_by trace cpu w u)
      by_whose (whose.Flusher flusher) of u there same h2 = h2
      by_whose (whose.Task task) of u there same h2 =
          let fits = can cpu task rest seat is of in
          write_next cpu task (task_of task u).works u refl there (subst (λ (ts : List ReplayTask). task < length ts) (sym same) fits.0) fits.1
          (subst (λ (ts : List ReplayTask). (inode page pages : ℕ) (works : List ReplayWork) → (get_or ts task no_task).works ≡ work.Write inode page pages ∷ works → 1 ≤ pages) (sym same) fits.2) h2

  decides : (cpu task : ℕ) (rest : List Todo) (s : State) → cpu < length s.cpus → (cpu_of cpu s).todo ≡ todo.Silent move.Decide ∷ rest
      → (cpu_of cpu s).turn.whose ≡ whose.Task task → WritesFit trace s.cpus s.tasks → AllThere trace s
      → AllThere trace (decide_for trace cpu task (task_of task s).context (with_cpu cpu (record (cpu_of cpu s) { todo = rest }) s))
  decides cpu task rest s seat is of can h =
      let c : Cpu = record (cpu_of cpu s) { todo = rest } in
      let v : State = with_cpu cpu c s in
      let context : ℕ = (task_of task s).context in
      let t : ReplayTask = told_task v.now context (decision_at trace context (task_of task v) (cpu_of cpu v).turn v) (task_of task v) in
      let w : State = with_task task t v in
      framed v (decide_for trace cpu task context v)
      (then_unwritten v w (decide_for trace cpu task context v) (wrote_task task t v refl)
      (wrote_cpu cpu _ w (unlogged (entry.Check (length (cpu_of cpu v).checks)) (cpu_of cpu v) (λ k. refl))))
      (framed s v (wrote_cpu cpu c s (λ k. refl)) h)

  estimates : (cpu context : ℕ) (s : State) → cpu < length s.cpus → AllThere trace s → AllThere trace (estimate trace cpu context s)
  estimates cpu context s less h = by_found (update_of (writeback_of context s).estimate (sample_of trace context (cpu_of cpu s).turn s))
    where
      by_found : (found : Option Estimate) → AllThere trace (estimate_to cpu context found s)
      by_found None = h
      by_found (Some e) =
          framed s (estimate_to cpu context (Some e) s) (wrote_cpu cpu _ s (unlogged (entry.Est (length (cpu_of cpu s).estimates)) (cpu_of cpu s) (λ k. refl))) h

  times : (item : TimerStep) (rest : List TimerTodo) (s : State) → s.timer.todo ≡ timer_todo.Step item ∷ rest → AllThere trace s
      → AllThere trace (make_timer_step trace item (with_timer (record s.timer { todo = rest }) s))
  unfolding make_timer_step
  times (step.Count domain) rest s is h = h
  times (step.Peak domain) rest s is h = h
  times (step.Unseal domain) rest s is h = h
  times (step.Thresh domain) rest s is h = h
  times (step.Publish domain) rest s is h = h

  of_period : (domain : ℕ) (s : State) → AllThere trace s → AllThere trace (period domain s)
  of_period domain s h =
      either (AllThere trace) (is_time s.timer) (period_to domain (periods s.timer) (after_period (domain_of domain s).events (periods s.timer)) s) s
      (λ time. by_found (after_period (domain_of domain s).events (periods s.timer))) (λ early. h)
    where
      by_found : (found : Option Half) → AllThere trace (period_to domain (periods s.timer) found s)
      by_found None = h
      by_found (Some events) = h

  passes : (item : TimerSilent) (rest : List TimerTodo) (s : State) → s.timer.todo ≡ timer_todo.Silent item ∷ rest → AllThere trace s
      → AllThere trace (make_timer_move item (with_timer (record s.timer { todo = rest }) s))
  unfolding make_timer_move
  passes (silent.Period domain) rest s is h = of_period domain (with_timer (record s.timer { todo = rest }) s) h
  passes silent.Rest rest s is h = h

  -- ---- the opening, and each moment

  flat_both : (xs ys : List ReplayWork) → flat_map pages_of (xs ++ ys) ≡ flat_map pages_of xs ++ flat_map pages_of ys
  flat_both [] ys = refl
  flat_both (x ∷ xs) ys =
      ap (λ (l : List ℕ). pages_of x ++ l) (flat_both xs ys) ∙ sym (append_assoc (pages_of x) (flat_map pages_of xs) (flat_map pages_of ys))

  one_action : (t : ℕ) (a : Action) → flat_map pages_of (work_of trace t a) ≡ pages_of_action trace.inodes t a
  one_action t (action.Write by inode from count) = by_task (eqb by t)
    where
      by_task : (b : Bool) → flat_map pages_of (cond b (work.Write inode ((inode_of trace inode).first + from) count ∷ []) [])
          ≡ cond b (numbers ((inode_of trace inode).first + from) count) []
      by_task true = append-nil (numbers ((inode_of trace inode).first + from) count)
      by_task false = refl
  one_action t (action.Rest by ticks) = by_task (eqb by t)
    where
      by_task : (b : Bool) → flat_map pages_of (cond b (work.Rest ticks ∷ []) []) ≡ []
      by_task true = refl
      by_task false = refl

  pub all_actions : (t : ℕ) (actions : List Action) → flat_map pages_of (flat_map (work_of trace t) actions) ≡ flat_map (pages_of_action trace.inodes t) actions
  all_actions t [] = refl
  all_actions t (a ∷ actions) =
      flat_both (work_of trace t a) (flat_map (work_of trace t) actions)
      ∙ ap (λ (l : List ℕ). l ++ flat_map pages_of (flat_map (work_of trace t) actions)) (one_action t a)
      ∙ ap (λ (l : List ℕ). pages_of_action trace.inodes t a ++ l) (all_actions t actions)

  opening_there : AllThere trace (opening trace)
  unfolding opening
  opening_there t less =
      ap (λ (l : List ℕ). l ++ to_write (get_or (first_tasks trace (length trace.tasks)) t no_task))
      (numbered_all (first_cpus trace) (first_cpu trace) no_cpu refl (λ n. refl) (λ i c. told_by t c ≡ []) (λ i. refl) (λ i. refl) trace.cpus (task_cpu trace t))
      ∙ ap to_write (numbered_at (first_tasks trace) (λ k. first_task trace (pace_of trace k) (works_of trace k trace.actions)) no_task refl (λ n. refl) (length trace.tasks) t less)
      ∙ all_actions t trace.actions

  module _ (fits : (moves : ℕ) → WritesFit trace (state_at trace moves).cpus (state_at trace moves).tasks) where
    pub all_there : (moves : ℕ) → AllThere trace (state_at trace moves)
    all_there zero = subst (AllThere trace) (sym (run_none trace 0 (opening trace) refl)) opening_there
    all_there (suc m) = ⊎_elim
        (λ over. subst (AllThere trace) (sym (run_stays trace m (suc m) (opening trace) (omega arith) over)) (all_there m))
        (λ going.
        subst (AllThere trace) (sym (run_last trace m (suc m) (opening trace) (omega arith) going))
        (advance_all trace (AllThere trace) (λ s u quiet wrote h. framed s u wrote h) (λ now domains cpus tasks contexts. WritesFit trace cpus tasks)
        writes decides estimates times passes (λ s h. h) (state_at trace m) (fits m) (all_there m)))
        (cases_Bool (is_ended (state_at trace m)))
