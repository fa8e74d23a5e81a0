-- A relation that each change keeps, and that doesn't see whose turn it is, each move keeps.
use Rattle.std.proofs.Common.{◌≡◌, ℕ, List, [], ◌∷◌, sym, subst}
use Rattle.wbt_replay_order.proofs.Common.{Trace, make_step, make_move, make_timer_step, make_timer_move, begin_turn, State, cpu_of, with_cpu, begin_timer, with_timer, Cpu, TimerTodo, advance, apply, apply_all, Change, step_changes, move_changes, turn_changes, timer_step_changes, timer_move_changes, timer_turn_changes, moves_are_changes}
use Rattle.wbt_forecast_run.proofs.Runs.Walking.{Course, course_of, with_course, advance_walks}

module _ (trace : Trace) (R : State → State → Type 0)
    (joins : (s u v : State) → R s u → R u v → R s v)
    (course : (c : Course) (s : State) → R s (with_course c s))
    (cpu : (i : ℕ) (c : Cpu) (s : State) → c.entries ≡ (cpu_of i s).entries → c.checks ≡ (cpu_of i s).checks → R s (with_cpu i c s))
    (timer : (todos : List TimerTodo) (s : State) → R s (with_timer (record s.timer { todo = todos }) s))
    (change : (one : Change) (s : State) → R s (apply trace one s)) where
  same : (s : State) → R s s
  same s = course (course_of s) s

  all : (changes : List Change) (s : State) → R s (apply_all trace changes s)
  all [] s = same s
  all (first ∷ more) s = joins s (apply trace first s) (apply_all trace more (apply trace first s)) (change first s) (all more (apply trace first s))

  pub move_keeps : (s : State) → R s (advance trace s)
  move_keeps start =
      advance_walks trace (R start) (R start) (λ s h. h) (λ c s h. joins start s (with_course c s) h (course c s))
      (λ i c s entries checks h. joins start s (with_cpu i c s) h (cpu i c s entries checks))
      (λ todos s h. joins start s (with_timer (record s.timer { todo = todos }) s) h (timer todos s))
      (λ i w s h. made s (begin_turn trace i w s) (turn_changes trace i w s) ((moves_are_changes trace).turns i w s) h)
      (λ i item s h. made s (make_step trace i item s) (step_changes trace i item s) ((moves_are_changes trace).steps i item s) h)
      (λ i item s h. made s (make_move trace i item s) (move_changes trace i item s) ((moves_are_changes trace).moves i item s) h)
      (λ s h. made s (begin_timer s) timer_turn_changes ((moves_are_changes trace).timer_turns s) h)
      (λ item s h. made s (make_timer_step trace item s) (timer_step_changes item s) ((moves_are_changes trace).timer_steps item s) h)
      (λ item s h. made s (make_timer_move item s) (timer_move_changes item s) ((moves_are_changes trace).timer_moves item s) h)
      start (same start)
    where
      made : (s u : State) (changes : List Change) → u ≡ apply_all trace changes s → R start s → R start u
      made s u changes is h = joins start s u h (subst (R s) (sym is) (all changes s))
