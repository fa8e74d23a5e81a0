-- At each moment of the run the steps tell the exact count of each domain.
use Rattle.std.proofs.Common.{◌≡◌, ℕ, ◌+◌, ◌<◌, true, List, [], ◌∷◌, length, get_or, All, refl, sym, ◌∙◌, ap, subst, arith}
use Rattle.std.proofs.lemmas.List.{get_or_past}
use Rattle.wbt_replay_order.proofs.Common.{Trace, make_step, make_timer_step, make_timer_move, begin_turn, State, no_cpu, cpu_of, with_cpu, begin_timer, with_timer, Actor, Cpu, ReplayJob, Whose, TimerTodo, Todo, setting_of, after, job_at, is_full, is_halted, spend, stop, cpu_on, timer_on, go_on, begin_job, advance, Facts, IsFlusherOn, IsJobOn, Suits, apply_all, Change, turn_changes, timer_step_changes, timer_move_changes, timer_turn_changes, moves_are_changes}
use Rattle.wbt_replay_moves.specs.declared.state.Actor.TheVariants as actor
use Rattle.wbt_replay_moves.specs.declared.state.ReplayJob.TheVariants as job
use Rattle.wbt_replay_moves.specs.declared.state.Whose.TheVariants as whose
use Rattle.wbt_replay_moves.specs.declared.todo.TimerTodo.TheVariants as timer_todo
use Rattle.wbt_replay_moves.specs.declared.todo.Todo.TheVariants as todo
use Rattle.wbt_replay_order.proofs.Facts.Lists.{either}
use Rattle.wbt_replay_order.proofs.Walk.{turned, walked}
use Rattle.wbt_replay_order.proofs.Growth.Quiet.{same_at}
use Rattle.wbt_forecast_run.proofs.Counts.Booked.{IsBooked, IsSeated, behind_first}
use Rattle.wbt_forecast_run.proofs.Counts.Looks.{IsTurnsOwn, still_after}
use Rattle.wbt_forecast_run.proofs.Counts.Plain.{turn_plain, timer_step_plain, timer_move_plain, timer_turn_plain}
use Rattle.wbt_forecast_run.proofs.Counts.Quiet.{NoClaims, ArePlain, still_on, frames_on, frames_cpu, all_quiet}
use Rattle.wbt_forecast_run.proofs.Counts.Writes.{step_booked, move_booked}

-- ---- the timer

module _ (trace : Trace) (s : State) (seats : IsSeated trace s) (h : IsBooked trace s) where
  -- nobody's turn changes
  abbrev nobody : Whose
  nobody = whose.Task 0

  nobodys : IsTurnsOwn trace (length s.cpus) nobody
  nobodys f e = absurd (cc e)

  by_timer : (changes : List Change) → ArePlain (length s.cpus) nobody changes → IsBooked trace (apply_all trace changes s)
  by_timer changes plain =
      let q = all_quiet trace (length s.cpus) nobody changes s plain in
      still_after trace s seats h (length s.cpus) nobody nobodys (apply_all trace changes s) q.still q.frames
      (q.own (subst (λ (c : Cpu). NoClaims c.todo) (sym (get_or_past s.cpus (length s.cpus) no_cpu (omega arith))) tt))

  pub begun_timer : IsBooked trace (begin_timer s)
  begun_timer = subst (IsBooked trace) (sym ((moves_are_changes trace).timer_turns s)) (by_timer timer_turn_changes (timer_turn_plain trace (length s.cpus) nobody))

  -- ---- a CPU changes in what isn't asked here

  pub same_cpu : (i : ℕ) (c : Cpu) → c.todo ≡ (cpu_of i s).todo → c.turn ≡ (cpu_of i s).turn → IsBooked trace (with_cpu i c s)
  same_cpu i c todo_is turn_is =
      let todos = same_at (λ (x : Cpu). x.todo) s.cpus i c no_cpu todo_is in
      let turns = same_at (λ (x : Cpu). x.turn) s.cpus i c no_cpu turn_is in
      record {
        counts = h.counts;
        held = h.held;
        claims = λ j f word rest scan is of at. h.claims j f word rest scan (sym (todos j) ∙ is) (sym (ap (λ u. u.whose) (turns j)) ∙ of) at;
        behind = λ j. subst (λ (l : List Todo). NoClaims (behind_first l)) (sym (todos j)) (h.behind j);
      }

  -- ---- a turn begins

  begun : (i : ℕ) (w : Whose) (c : Cpu) → IsTurnsOwn trace i w → c.todo ≡ [] → (cpu_of i s).todo ≡ [] → IsBooked trace (begin_turn trace i w (with_cpu i c s))
  begun i w c own none was =
      let y = with_cpu i c s in
      let changes = turn_changes trace i w y in
      let u = apply_all trace changes y in
      let q = all_quiet trace i w changes y (turn_plain trace i w y) in
      let empty : (cpu_of i y).todo ≡ [] = same_at (λ (x : Cpu). x.todo) s.cpus i c no_cpu (none ∙ sym was) i ∙ was in
      subst (IsBooked trace) (sym ((moves_are_changes trace).turns i w y))
      (still_after trace s seats h i w own u (still_on trace s y u (record { book = refl; batches = refl; counts = λ d. refl }) q.still)
      (frames_on i w s y u (frames_cpu trace i w s y c refl refl) q.frames) (q.own (subst NoClaims (sym empty) tt)))

  pub job_begun : Facts trace → (i place which : ℕ) (j : ReplayJob) → i < length s.cpus → (cpu_of i s).todo ≡ [] → which < length (cpu_of i s).jobs
      → job_at which (cpu_of i s) ≡ j → (c : Cpu) → c.todo ≡ (cpu_of i s).todo → IsBooked trace (begin_job trace i place j c s)
  job_begun facts i place which job.Writer less none known is c same =
      begun i (whose.Task (get_or c.tasks place 0)) (record c { next_task = after (length c.tasks) place }) (λ f e. absurd (cc e)) (same ∙ none) none
  job_begun facts i place which (job.Flusher g) less none known is c same =
      let inside : i < trace.cpus = omega (arith, less, seats.many) in
      let all : All (IsJobOn trace i) (cpu_of i s).jobs = subst (All (IsJobOn trace i)) (sym (seats.jobs i inside)) (facts.jobs i) in
      let on : IsFlusherOn trace i g = subst (IsJobOn trace i) is (all which job.Writer known) in
      begun i (whose.Flusher g) c (λ f e. let same_flusher : g ≡ f = cc e in subst (IsFlusherOn trace i) same_flusher on) (same ∙ none) none

-- ---- a move

module _ (trace : Trace) (facts : Facts trace) (suits : Suits trace (setting_of trace)) where
  by_cpu : (i : ℕ) (todos : List Todo) (s : State) → IsSeated trace s → IsBooked trace s → (cpu_of i s).todo ≡ todos → IsBooked trace (cpu_on trace i todos s)
  by_cpu i [] s seats h is = h
  by_cpu i (todo.Step item ∷ rest) s seats h is =
      let c : Cpu = record (cpu_of i s) { todo = rest; made = (cpu_of i s).made + 1 } in
      either (IsBooked trace) (is_halted trace.halt (cpu_of i s).made) (stop i s) _
      (λ halted. same_cpu trace s seats h i (record (cpu_of i s) { stopped = true }) refl refl)
      (λ goes. either (IsBooked trace) (is_full s) (spend s) (make_step trace i item (with_cpu i c s)) (λ full. h)
      (λ more. step_booked trace suits s seats h i (todo.Step item) rest is c refl refl item refl))
  by_cpu i (todo.Silent item ∷ rest) s seats h is =
      move_booked trace suits s seats h i (todo.Silent item) rest is (record (cpu_of i s) { todo = rest }) refl refl item

  timer_item : (s u : State) (changes : List Change) (rest : List TimerTodo) → IsSeated trace s → IsBooked trace s
      → u ≡ apply_all trace changes (with_timer (record s.timer { todo = rest }) s) → ArePlain (length s.cpus) (whose.Task 0) changes → IsBooked trace u
  timer_item s u changes rest seats h is plain =
      subst (IsBooked trace) (sym is) (by_timer trace (with_timer (record s.timer { todo = rest }) s) seats h changes plain)

  on_timer : (todos : List TimerTodo) (s : State) → IsSeated trace s → IsBooked trace s → IsBooked trace (timer_on trace todos s)
  on_timer [] s seats h = h
  on_timer (timer_todo.Step item ∷ rest) s seats h =
      let x = with_timer (record s.timer { todo = rest }) s in
      either (IsBooked trace) (is_full s) (spend s) (make_timer_step trace item x) (λ full. h)
      (λ more. timer_item s (make_timer_step trace item x) (timer_step_changes item x) rest seats h ((moves_are_changes trace).timer_steps item x)
      (timer_step_plain trace (length s.cpus) (whose.Task 0) item x))
  on_timer (timer_todo.Silent item ∷ rest) s seats h =
      let x = with_timer (record s.timer { todo = rest }) s in
      timer_item s (make_timer_move item x) (timer_move_changes item x) rest seats h ((moves_are_changes trace).timer_moves item x)
      (timer_move_plain trace (length s.cpus) (whose.Task 0) item x)

  goes : (a : Actor) (s : State) → IsSeated trace s → IsBooked trace s → IsBooked trace (go_on trace a s)
  goes (actor.Cpu i) s seats h = by_cpu i (cpu_of i s).todo s seats h refl
  goes actor.Timer s seats h = on_timer s.timer.todo s seats h

  module _ (s : State) (seats : IsSeated trace s) (h : IsBooked trace s) where
    pub advance_booked : IsBooked trace (advance trace s)
    advance_booked =
        walked trace s (IsBooked trace) (λ orders rotation now. h) (λ orders rotation a some. goes a (turned orders rotation s) seats h)
        (λ orders rotation i which place free found.
        job_begun trace (turned orders rotation s) seats h facts i place which (job_at which (cpu_of i s)) free.there free.idle
        (found.among (seats.next i (omega (arith, free.there, seats.many)))) refl
        (record (cpu_of i s) { next = after (length (cpu_of i s).jobs) which }) refl)
        (λ orders rotation none time. begun_timer trace (turned orders rotation s) seats h)
