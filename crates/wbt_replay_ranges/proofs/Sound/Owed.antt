-- A page's events are added to its counters next.
use Rattle.std.proofs.Common.{◌≡◌, ℕ, ◌<◌, false, eqb, ℤ, unsigned_abs, List, [], ◌∷◌, length, refl, arith}
use Rattle.wbt_replay_order.proofs.Common.{Counter, Context, domains, Trace, then_do, owed_to, State, cpu_of, flusher_of, Flusher, ReplayTask, Whose, Todo, Facts, IsFlusherOn, IsCounter, Agrees, IsOpen, closes_in}
use Rattle.wbt_counter.specs.declared.counter.Counter.TheVariants.{Domain}
use Rattle.wbt_replay_moves.specs.declared.state.Whose.TheVariants as whose
use Rattle.wbt_replay_moves.specs.declared.todo.Step.TheVariants as step
use Rattle.wbt_replay_moves.specs.declared.todo.Todo.TheVariants as todo
use Rattle.wbt_replay_order.proofs.Facts.Lists.{either}
use Rattle.wbt_replay_ranges.proofs.Sound.Going.{Going}
use Rattle.wbt_replay_ranges.proofs.Sound.Own.{Fits, Free, Done, push, do_done}

-- Whoever's turn it is, an addition says nothing of it.
agrees_add : (trace : Trace) (ts : List ReplayTask) (fs : List Flusher) (w : Whose) (x : Counter) (change : ℤ) → Agrees trace ts fs w (todo.Step (step.Add x change))
agrees_add trace ts fs (whose.Task task) x change = tt
agrees_add trace ts fs (whose.Flusher flusher) x change = tt

push_add : (trace : Trace) (ts : List ReplayTask) (fs : List Flusher) (w : Whose) (x : Counter) (change : ℤ) (todos : List Todo) → IsCounter trace x → unsigned_abs change ≡ 1 → Fits trace ts fs w 0 todos
    → Fits trace ts fs w 0 (todo.Step (step.Add x change) ∷ todos)
push_add trace ts fs w x change todos fits one h = push trace ts fs w 0 0 (todo.Step (step.Add x change)) todos h (fits, one) (agrees_add trace ts fs w x change) refl (omega arith) (omega arith) (omega arith)

module _ (trace : Trace) (facts : Facts trace) (i : ℕ) (less : i < trace.cpus) where
  pub owed_done : (change : ℤ) (context group : ℕ) (last : Todo) (e t n : ℕ) (s : State) → unsigned_abs change ≡ 1 → context < length trace.contexts → group < domains trace → 0 < domains trace
      → Going trace i e t s → Free trace i n s → Fits trace s.tasks s.flushers (cpu_of i s).turn.whose 0 (last ∷ (cpu_of i s).todo)
      → ((f : ℕ) → IsFlusherOn trace i f → (cpu_of i s).turn.whose ≡ whose.Flusher f → closes_in (last ∷ (cpu_of i s).todo) ≡ false → IsOpen trace (flusher_of f s))
      → Done trace i (then_do i (owed_to change context group last) s)
  owed_done change context group last e t n s one there inside global g free fits opens =
      let first : Todo = todo.Step (step.Add (Context context) change) in
      let second : Todo = todo.Step (step.Add (Domain 0) change) in
      let third : Todo = todo.Step (step.Add (Domain group) change) in
      let after : List Todo = last ∷ (cpu_of i s).todo in
      either (λ items. Done trace i (then_do i items s)) (eqb group 0) (first ∷ second ∷ last ∷ []) (first ∷ second ∷ third ∷ last ∷ [])
      (λ none. do_done trace facts i less (first ∷ second ∷ last ∷ []) e t n 0 s g free
      (add (Context context) (second ∷ after) there (add (Domain 0) after global fits)) (omega arith) opens)
      (λ some. do_done trace facts i less (first ∷ second ∷ third ∷ last ∷ []) e t n 0 s g free
      (add (Context context) (second ∷ third ∷ after) there (add (Domain 0) (third ∷ after) global (add (Domain group) after inside fits))) (omega arith) opens)
    where
      add : (x : Counter) (todos : List Todo) → IsCounter trace x → Fits trace s.tasks s.flushers (cpu_of i s).turn.whose 0 todos → Fits trace s.tasks s.flushers (cpu_of i s).turn.whose 0 (todo.Step (step.Add x change) ∷ todos)
      add x todos fits h = push_add trace s.tasks s.flushers (cpu_of i s).turn.whose x change todos fits one h
