-- A turn that a CPU begins: what it has to do comes to the steps of a turn.
use Rattle.std.proofs.Common.{◌≡◌, ℕ, ◌+◌, ◌<◌, List, [], ◌∷◌, ◌++◌, length, get_or, refl, sym, subst, Option, None, Some}
use Rattle.std.proofs.lemmas.List.{append-nil}
use Rattle.wbt_expiry.specs.declared.due.Due.{Due}
use Rattle.wbt_replay_order.proofs.Common.{domains, group_of, flusher_device, Trace, writer_of, at_turn, then_do, do_last_at, log_at, take_last, take_or_finish, finish, begin_test, domain_loads, measures_of, weighs_of, with_pairs, begin_turn, begin_for, begin_phase, State, cpu_of, with_cpu, flusher_of, task_of, with_task, queue_of, with_queue, in_phase, is_drained, waiting_of, begin_due, pause_in, begin_page, begin_work, check_items, Cpu, ReplayJob, ReplayPhase, ReplayWork, Whose, Todo, after, job_at, begin_job, begin}
use Rattle.wbt_journal.specs.declared.entry.Entry.TheVariants as entry
use Rattle.wbt_task.specs.declared.allowance.Due.{Due as IsDue}
use Rattle.wbt_task.specs.declared.allowance.Due.TheVariants as due
use Rattle.wbt_replay_moves.specs.declared.state.Actor.TheVariants as who
use Rattle.wbt_replay_moves.specs.declared.state.ReplayJob.TheVariants as job
use Rattle.wbt_replay_moves.specs.declared.state.ReplayPhase.TheVariants as phase
use Rattle.wbt_replay_moves.specs.declared.state.ReplayWork.TheVariants as work
use Rattle.wbt_replay_moves.specs.declared.state.Whose.TheVariants as whose
use Rattle.wbt_replay_moves.specs.declared.todo.Silent.TheVariants as silent
use Rattle.wbt_replay_moves.specs.declared.todo.Step.TheVariants as step
use Rattle.wbt_replay_moves.specs.declared.todo.Todo.TheVariants as todo
use Rattle.wbt_replay_order.proofs.Facts.Lists.{either}
use Rattle.wbt_replay_turns.proofs.Words.Fits.{Fits, fits_none, fits_end, fits_check, fits_write, fits_unmark, fits_look, fits_complete, fits_test}
use Rattle.wbt_replay_turns.proofs.Words.Todos.{Todos, as_before, then_next, then_last, then_log, then_quiet}

-- The CPU has a turn to do, and nothing else.
pub record Opens (trace : Trace) (i : ℕ) (s u : State) : Type 0 where
  pub items : List Todo
  pub fits : Fits trace items
  pub todos : Todos i items s u

module _ (trace : Trace) (i : ℕ) (s : State) (there : i < length s.cpus) where
  -- the turn begins with these items
  opens_with : (items : List Todo) → Fits trace items → (u : State) → Todos i [] s u → Opens trace i s (then_do i items u)
  opens_with items fits u h = record {
    items = items;
    fits = fits;
    todos = subst (λ (l : List Todo). Todos i l s (then_do i items u)) (append-nil items) (then_next i s there [] items u h);
  }

  opens_none : (u : State) → Todos i [] s u → Opens trace i s u
  opens_none u h = record { items = []; fits = fits_none trace; todos = h }

  opens_page : (task : ℕ) (pause : Option ℕ) (u : State) → Todos i [] s u → Opens trace i s (begin_page i task pause u)
  opens_page task None u h = opens_with (todo.Step step.Dirty ∷ todo.Silent silent.End ∷ []) (fits_write trace) u h
  opens_page task (Some ticks) u h = opens_with (todo.Silent silent.End ∷ []) (fits_end trace) (with_task task (record (task_of task u) { since = 0; rest = u.now + ticks }) u) h

  opens_work : (task : ℕ) (works : List ReplayWork) (u : State) → Todos i [] s u → Opens trace i s (begin_work i task works u)
  opens_work task [] u h = opens_with (todo.Silent silent.End ∷ []) (fits_end trace) u h
  opens_work task (work.Rest ticks ∷ works) u h = opens_with (todo.Silent silent.End ∷ []) (fits_end trace) (with_task task (record (task_of task u) { works = works; rest = u.now + ticks }) u) h
  opens_work task (work.Write inode page pages ∷ works) u h = opens_page task (pause_in (task_of task u)) u h

  opens_due : (task : ℕ) (d : IsDue) (u : State) → Todos i [] s u → Opens trace i s (begin_due trace i task d u)
  opens_due task due.Check u h =
      let k : ℕ = (task_of task u).context in opens_with (check_items k (group_of trace k)) (fits_check trace k (group_of trace k)) u h
  opens_due task due.No u h = opens_work task (task_of task u).works u h

  opens_finish : (f : ℕ) (numbers : List ℕ) (u : State) → Todos i [] s u → Opens trace i s (take_or_finish trace i f numbers u)
  opens_finish f [] u h = opens_none (finish f u) h
  opens_finish f (inode ∷ inodes) u h =
      opens_with (todo.Step step.Unmark ∷ []) (fits_unmark trace) (in_phase f (phase.Taken inode) (with_queue (flusher_device trace f) inodes u)) h

  opens_last : (f : ℕ) (pairs : List Due) (u : State) → Todos i [] s u → Opens trace i s (take_last trace i f pairs u)
  opens_last f [] u h = opens_finish f (queue_of (flusher_device trace f) u) u h
  opens_last f (pair ∷ pairs) u h =
      let v = log_at i (entry.Taken f pair.inode) (with_pairs f pairs u) in
      opens_with (todo.Step step.Unmark ∷ []) (fits_unmark trace) (in_phase f (phase.Taken pair.inode) v) (then_log i s there [] (entry.Taken f pair.inode) (with_pairs f pairs u) h)

  opens_test : (f : ℕ) (u : State) → length u.domains ≡ domains trace → Todos i [] s u → Opens trace i s (begin_test i f u)
  opens_test f u many h =
      let m : List ℕ = (flusher_of f u).measures in
      let w : List ℕ = (flusher_of f u).weighs in
      let loads : List Todo = domain_loads (length u.domains) 0 in
      let a = do_last_at i loads u in
      let b = do_last_at i (measures_of m u) a in
      let c = do_last_at i (weighs_of w) b in
      let all : List Todo = loads ++ measures_of m u ++ weighs_of w ++ todo.Silent silent.Test ∷ [] in
      record {
        items = all;
        fits = subst (λ (n : ℕ). Fits trace (domain_loads n 0 ++ measures_of m u ++ weighs_of w ++ todo.Silent silent.Test ∷ [])) (sym many) (fits_test trace m w u);
        todos = then_last i s there (loads ++ measures_of m u ++ weighs_of w) (todo.Silent silent.Test ∷ []) c
            (then_last i s there (loads ++ measures_of m u) (weighs_of w) b (then_last i s there loads (measures_of m u) a (then_last i s there [] loads u h)));
      }

  opens_phase : (f : ℕ) (p : ReplayPhase) (u : State) → length u.domains ≡ domains trace → Todos i [] s u → Opens trace i s (begin_phase trace i f p u)
  opens_phase f (phase.Idle until kept) u many h =
      either (Opens trace i s) (is_drained u) (take_last trace i f (waiting_of f u).pairs u) (begin_test i f u)
      (λ drained. opens_last f (waiting_of f u).pairs u h) (λ running. opens_test f u many h)
  opens_phase f (phase.Taken inode) u many h = opens_with (todo.Step step.Unmark ∷ []) (fits_unmark trace) u h
  opens_phase f (phase.Scanning scan) u many h = opens_with (todo.Step step.Look ∷ []) (fits_look trace) u h
  opens_phase f (phase.Flying inode pages until) u many h = opens_with (todo.Step step.Complete ∷ []) (fits_complete trace) u h
  opens_phase f phase.Finished u many h = opens_none u h

  opens_for : (w : Whose) (u : State) → length u.domains ≡ domains trace → Todos i [] s u → Opens trace i s (begin_for trace i w u)
  opens_for (whose.Task task) u many h = opens_due task (writer_of (task_of task u)).due u h
  opens_for (whose.Flusher f) u many h = opens_phase f (flusher_of f u).phase u many h

  opens_turn : (w : Whose) (u : State) → length u.domains ≡ domains trace → Todos i [] s u → Opens trace i s (begin_turn trace i w u)
  opens_turn w u many h = opens_for w (with_cpu i (at_turn w u.now (cpu_of i u)) u) many (then_quiet i s there [] u (at_turn w u.now (cpu_of i u)) h refl)

  module _ (none : (cpu_of i s).todo ≡ []) (many : length s.domains ≡ domains trace) where
    start : Todos i [] s s
    start = subst (λ (l : List Todo). Todos i l s s) none (as_before i s)

    opens_job : (place : ℕ) (j : ReplayJob) (c : Cpu) → c.todo ≡ (cpu_of i s).todo → Opens trace i s (begin_job trace i place j c s)
    opens_job place job.Writer c is =
        let d : Cpu = record c { next_task = after (length c.tasks) place } in
        opens_turn (whose.Task (get_or c.tasks place 0)) (with_cpu i d s) many (then_quiet i s there [] s d start is)
    opens_job place (job.Flusher f) c is = opens_turn (whose.Flusher f) (with_cpu i c s) many (then_quiet i s there [] s c start is)

    -- The CPU begins a turn of a job.
    pub opens : (n place : ℕ) → Opens trace i s (begin trace (who.Cpu i) n place s)
    opens n place = opens_job place (job_at n (cpu_of i s)) (record (cpu_of i s) { next = after (length (cpu_of i s).jobs) n }) refl
