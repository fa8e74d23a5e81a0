-- A relation that each plain change keeps, each move keeps whose changes are plain; and likewise where they change no count or are silent.
use Rattle.std.proofs.Common.{ℕ, List, [], ◌∷◌, sym, subst}
use Rattle.wbt_trace.specs.declared.trace.Trace.{Trace}
use Rattle.wbt_replay_moves.specs.Definition.Perform.{make_step, make_move, begin_turn, begin_for}
use Rattle.wbt_replay_moves.specs.Definition.State.{State}
use Rattle.wbt_replay_moves.specs.declared.state.Whose.{Whose}
use Rattle.wbt_replay_moves.specs.declared.todo.Silent.{Silent}
use Rattle.wbt_replay_moves.specs.declared.todo.Step.{Step}
use Rattle.wbt_replay_changes.specs.Apply.{apply, apply_all}
use Rattle.wbt_replay_changes.specs.Change.{Change}
use Rattle.wbt_replay_changes.specs.ChangeOf.{step_changes, move_changes, whose_changes, turn_changes}
use Rattle.wbt_replay_changes.specs.Facts.{Each}
use Rattle.wbt_replay_changes.specs.Plain.{IsPlain, IsUncounted, IsSilent, IsPlainStep, IsUncountedStep, IsPlainMove}
use Rattle.wbt_replay_changes.proofs.Agrees.{moves_are_changes}
use Rattle.wbt_replay_changes.proofs.Agrees.Turns.{whose_agrees}
use Rattle.wbt_replay_changes.proofs.Plain.{whose_silent, others_are_plain}

module _ (trace : Trace) (R : State → State → Type 0) (same : (s : State) → R s s) (joins : (s u v : State) → R s u → R u v → R s v) where
  all : (P : Change → State → Type 0) → ((s : State) (one : Change) → P one s → R s (apply trace one s))
      → (changes : List Change) (s : State) → Each trace P changes s → R s (apply_all trace changes s)
  all P keeps [] s h = same s
  all P keeps (first ∷ more) s h =
      let u = apply trace first s in joins s u (apply_all trace more u) (keeps s first h.0) (all P keeps more u h.1)

  module _ (keeps : (s : State) (one : Change) → IsSilent one s → R s (apply trace one s)) (cpu : ℕ) where
    pub for_keeps : (w : Whose) (s : State) → R s (begin_for trace cpu w s)
    for_keeps w s = subst (R s) (sym (whose_agrees trace cpu w s)) (all IsSilent keeps (whose_changes trace cpu w s) s (whose_silent trace cpu w s))

    pub turn_keeps : (w : Whose) (s : State) → R s (begin_turn trace cpu w s)
    turn_keeps w s =
        subst (R s) (sym ((moves_are_changes trace).turns cpu w s))
        (all IsSilent keeps (turn_changes trace cpu w s) s ((others_are_plain trace).turns cpu w s))

    pub move_keeps : (item : Silent) (s : State) → IsPlainMove item → R s (make_move trace cpu item s)
    move_keeps item s other =
        subst (R s) (sym ((moves_are_changes trace).moves cpu item s))
        (all IsSilent keeps (move_changes trace cpu item s) s ((others_are_plain trace).moves cpu item s other))

  module _ (keeps : (s : State) (one : Change) → IsPlain one s → R s (apply trace one s)) (cpu : ℕ) where
    pub step_keeps : (item : Step) (s : State) → IsPlainStep item → R s (make_step trace cpu item s)
    step_keeps item s other =
        subst (R s) (sym ((moves_are_changes trace).steps cpu item s))
        (all IsPlain keeps (step_changes trace cpu item s) s ((others_are_plain trace).steps cpu item s other))

  module _ (keeps : (s : State) (one : Change) → IsUncounted one s → R s (apply trace one s)) (cpu : ℕ) where
    pub uncounted_keeps : (item : Step) (s : State) → IsUncountedStep item → R s (make_step trace cpu item s)
    uncounted_keeps item s other =
        subst (R s) (sym ((moves_are_changes trace).steps cpu item s))
        (all IsUncounted keeps (step_changes trace cpu item s) s ((others_are_plain trace).uncounted cpu item s other))
