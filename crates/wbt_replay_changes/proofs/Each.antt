-- What holds of each change of two lists, or of one that is chosen, holds of each of both. Whose turn it is, and what its flusher is at.
use Rattle.std.proofs.Common.{◌≡◌, ℕ, Bool, true, false, cond, List, [], ◌∷◌, ◌++◌, refl}
use Rattle.wbt_trace.specs.declared.trace.Trace.{Trace}
use Rattle.wbt_rules.specs.declared.scan.Scan.{Scan}
use Rattle.wbt_replay_moves.specs.Definition.State.{State, flusher_of}
use Rattle.wbt_replay_moves.specs.declared.state.ReplayPhase.{ReplayPhase}
use Rattle.wbt_replay_moves.specs.declared.state.ReplayPhase.TheVariants as phase
use Rattle.wbt_replay_moves.specs.declared.state.Whose.{Whose}
use Rattle.wbt_replay_moves.specs.declared.state.Whose.TheVariants as whose
use Rattle.wbt_replay_changes.specs.Apply.{apply, apply_all}
use Rattle.wbt_replay_changes.specs.Change.{Change}
use Rattle.wbt_replay_changes.specs.ChangeOf.Where.{by_task, by_flusher, where_taken, where_scanning, where_flying, then_changes}
use Rattle.wbt_replay_changes.specs.Facts.{Each}

module _ (trace : Trace) (P : Change → State → Type 0) where
  pub one_of : (s : State) (b : Bool) (xs ys : List Change) → (b ≡ true → Each trace P xs s) → (b ≡ false → Each trace P ys s) → Each trace P (cond b xs ys) s
  one_of s true xs ys p q = p refl
  one_of s false xs ys p q = q refl

  both : (xs ys : List Change) (s : State) → Each trace P xs s → Each trace P ys (apply_all trace xs s) → Each trace P (xs ++ ys) s
  both [] ys s h k = k
  both (x ∷ xs) ys s h k = (h.0, both xs ys (apply trace x s) h.1 k)

  pub after : (first : List Change) (more : State → List Change) (s : State) → Each trace P first s → ((v : State) → Each trace P (more v) v)
      → Each trace P (then_changes trace first more s) s
  after first more s h each = both first (more (apply_all trace first s)) s h (each (apply_all trace first s))

  pub a_task : (does : ℕ → State → List Change) (w : Whose) (s : State) → ((t : ℕ) → Each trace P (does t s) s) → Each trace P (by_task does w s) s
  a_task does (whose.Task t) s h = h t
  a_task does (whose.Flusher f) s h = tt

  pub a_flusher : (does : ℕ → ReplayPhase → State → List Change) (w : Whose) (s : State)
      → ((f : ℕ) (p : ReplayPhase) → (flusher_of f s).phase ≡ p → Each trace P (does f p s) s) → Each trace P (by_flusher does w s) s
  a_flusher does (whose.Flusher f) s h = h f (flusher_of f s).phase refl
  a_flusher does (whose.Task t) s h = tt

  pub taken : (does : ℕ → ℕ → State → List Change) (s : State) → ((f n : ℕ) → (flusher_of f s).phase ≡ phase.Taken n → Each trace P (does f n s) s)
      → (f : ℕ) (p : ReplayPhase) → (flusher_of f s).phase ≡ p → Each trace P (where_taken does f p s) s
  taken does s h f (phase.Taken n) e = h f n e
  taken does s h f (phase.Idle until kept) e = tt
  taken does s h f (phase.Scanning scan) e = tt
  taken does s h f (phase.Flying n pages until) e = tt
  taken does s h f phase.Finished e = tt

  pub scanning : (does : ℕ → Scan → State → List Change) (s : State)
      → ((f : ℕ) (scan : Scan) → (flusher_of f s).phase ≡ phase.Scanning scan → Each trace P (does f scan s) s)
      → (f : ℕ) (p : ReplayPhase) → (flusher_of f s).phase ≡ p → Each trace P (where_scanning does f p s) s
  scanning does s h f (phase.Scanning scan) e = h f scan e
  scanning does s h f (phase.Idle until kept) e = tt
  scanning does s h f (phase.Taken n) e = tt
  scanning does s h f (phase.Flying n pages until) e = tt
  scanning does s h f phase.Finished e = tt

  pub flying : (does : ℕ → ℕ → ℕ → State → List Change) (s : State)
      → ((f n pages until : ℕ) → (flusher_of f s).phase ≡ phase.Flying n pages until → Each trace P (does f n pages s) s)
      → (f : ℕ) (p : ReplayPhase) → (flusher_of f s).phase ≡ p → Each trace P (where_flying does f p s) s
  flying does s h f (phase.Flying n pages until) e = h f n pages until e
  flying does s h f (phase.Idle until kept) e = tt
  flying does s h f (phase.Taken n) e = tt
  flying does s h f (phase.Scanning scan) e = tt
  flying does s h f phase.Finished e = tt

-- what follows of it holds of each too
pub weaker : (trace : Trace) (P Q : Change → State → Type 0) → ((one : Change) (s : State) → P one s → Q one s)
    → (changes : List Change) (s : State) → Each trace P changes s → Each trace Q changes s
weaker trace P Q gives [] s h = tt
weaker trace P Q gives (first ∷ more) s h = (gives first s h.0, weaker trace P Q gives more (apply trace first s) h.1)
