-- Changes that are one of two lists, and changes after others.
use Rattle.std.proofs.Common.{◌≡◌, ℕ, Bool, true, false, cond, List, [], ◌∷◌, ◌++◌, refl, sym, ◌∙◌, ap}
use Rattle.wbt_grant.specs.declared.who.StepKind.{StepKind}
use Rattle.wbt_trace.specs.declared.trace.Trace.{Trace}
use Rattle.wbt_replay_moves.specs.Definition.State.{State, plain_step}
use Rattle.wbt_replay_changes.specs.Apply.{apply, apply_all}
use Rattle.wbt_replay_changes.specs.Change.{Change}
use Rattle.wbt_replay_changes.specs.ChangeOf.Where.{then_changes}

-- the state is what these changes make of another
abbrev pub IsMade : (trace : Trace) (s : State) (changes : List Change) (u : State) → Type 0
IsMade trace s changes u = u ≡ apply_all trace changes s

module _ (trace : Trace) where
  pub chosen : (s : State) (b : Bool) (x y : State) (xs ys : List Change) → IsMade trace s xs x → IsMade trace s ys y → IsMade trace s (cond b xs ys) (cond b x y)
  chosen s true x y xs ys p q = p
  chosen s false x y xs ys p q = q

  -- a step after one of two
  pub stepped_either : (s : State) (who : ℕ) (kind : StepKind) (b : Bool) (x y : State) (xs ys : List Change)
      → IsMade trace s xs (plain_step who kind x) → IsMade trace s ys (plain_step who kind y)
      → IsMade trace s (cond b xs ys) (plain_step who kind (cond b x y))
  stepped_either s who kind true x y xs ys p q = p
  stepped_either s who kind false x y xs ys p q = q

  pub joined : (xs ys : List Change) (s : State) → apply_all trace (xs ++ ys) s ≡ apply_all trace ys (apply_all trace xs s)
  joined [] ys s = refl
  joined (x ∷ xs) ys s = joined xs ys (apply trace x s)

  -- what is made after what these changes make
  pub followed : (s u : State) (first : List Change) (more : State → List Change) (old : State → State)
      → IsMade trace s first u → ((v : State) → IsMade trace v (more v) (old v)) → IsMade trace s (then_changes trace first more s) (old u)
  followed s u first more old e each =
      ap old e ∙ (each (apply_all trace first s) ∙ sym (joined first (more (apply_all trace first s)) s))
