-- What a move does of the first order line, where it asks for steps.
use Rattle.std.proofs.Common.{◌≡◌, ℕ, zero, suc, true, false, List, [], ◌∷◌, ◌++◌, length, get_or, refl, sym, ◌∙◌, ap, subst}
use Rattle.wbt_replay_order.proofs.Common.{StepEntry, Trace, at_turn, State, cpu_of, with_cpu, Actor, Cpu, ReplayJob, Stretch, may_step, after, job_at, turn_at, ahead_of, chance_by, chance_of, go_on, begin_job, begin, with_orders, begin_or_drop, follow, advance_by, advance, Ending}
use Rattle.wbt_replay_moves.specs.declared.state.Actor.TheVariants as who
use Rattle.wbt_replay_moves.specs.declared.state.ReplayJob.TheVariants as job
use Rattle.wbt_replay_moves.specs.declared.state.Stretch.TheVariants as stretch
use Rattle.wbt_replay_moves.specs.declared.state.Whose.TheVariants as whose
use Rattle.wbt_replay_order.specs.declared.chance.Ahead.{Ahead}
use Rattle.wbt_replay_order.specs.declared.chance.Ahead.TheVariants as ahead
use Rattle.wbt_replay_order.specs.declared.chance.Chance.{Chance}
use Rattle.wbt_replay_order.specs.declared.chance.Chance.TheVariants as chance
use Rattle.wbt_replay_order.proofs.Growth.Grown.{silent_for}
use Rattle.wbt_replay_order.proofs.Search.{never_goes}
use Rattle.wbt_replay_turns.specs.Lines.{number_of}
use Rattle.wbt_replay_turns.proofs.Kept.Actors.{kept_on}
use Rattle.wbt_replay_turns.proofs.Kept.Items.{Order}
use Rattle.wbt_replay_turns.proofs.Kept.Turns.{kept_begin}
use Rattle.wbt_replay_turns.proofs.Lines.Steps.{Steps, makes, halts, spends, quiet_on, steps_on}

-- ---- a turn begins without a step

pub begins_silently : (trace : Trace) (a : Actor) (n place : ℕ) (s : State) → (begin trace a n place s).steps ≡ s.steps
begins_silently trace (who.Cpu i) n place s = by_job (job_at n (cpu_of i s)) (record (cpu_of i s) { next = after (length (cpu_of i s).jobs) n })
  where
    by_job : (j : ReplayJob) (c : Cpu) → (begin_job trace i place j c s).steps ≡ s.steps
    by_job job.Writer c =
        let d : Cpu = record c { next_task = after (length c.tasks) place } in
        let w = whose.Task (get_or c.tasks place 0) in
        silent_for trace i w (with_cpu i (at_turn w s.now (cpu_of i (with_cpu i d s))) (with_cpu i d s))
    by_job (job.Flusher f) c = silent_for trace i (whose.Flusher f) (with_cpu i (at_turn (whose.Flusher f) s.now (cpu_of i (with_cpu i c s))) (with_cpu i c s))
begins_silently trace who.Timer n place s = refl

-- ---- the first line

-- A move, where the first line asks for so many steps of an actor and others follow: it makes no step, and the line stays; a step, and the
-- line asks for one less; or the line goes away, since it asks for none, or its actor can do nothing; or in place of the step the actor is
-- halted, or the run is spent.
pub data OfLine (trace : Trace) (a : Actor) (steps : ℕ) (more : List Stretch) (s u : State) : Type 0 where
  quiet : u.orders ≡ stretch.Steps a steps ∷ more → u.steps ≡ s.steps → OfLine trace a steps more s u
  one : (left : ℕ) → steps ≡ suc left → u.orders ≡ stretch.Steps a left ∷ more → (e : StepEntry) → u.steps ≡ s.steps ++ e ∷ [] → e.who ≡ number_of trace a
      → OfLine trace a steps more s u
  done : steps ≡ zero → u.orders ≡ more → u.steps ≡ s.steps → OfLine trace a steps more s u
  idle : (left : ℕ) → steps ≡ suc left → chance_of a s ≡ chance.Nothing → u.orders ≡ more → u.steps ≡ s.steps → OfLine trace a steps more s u
  halted : (left : ℕ) → steps ≡ suc left → may_step trace a s ≡ false → chance_of a u ≡ chance.Nothing → u.orders ≡ stretch.Steps a left ∷ more → u.steps ≡ s.steps
      → OfLine trace a steps more s u
  spent : (left : ℕ) → u.spent ≡ true → u.orders ≡ stretch.Steps a left ∷ more → u.steps ≡ s.steps → OfLine trace a steps more s u

module _ (trace : Trace) (a : Actor) (more : List Stretch) (s : State) (many : length s.cpus ≡ trace.cpus) (h : Ending trace s) where
  still_on : (steps : ℕ) → s.orders ≡ stretch.Steps a steps ∷ more → (u : State) → u.orders ≡ s.orders → u.steps ≡ s.steps → OfLine trace a steps more s u
  still_on steps is u orders silent = quiet (orders ∙ is) silent

  by_found : (left : ℕ) → s.orders ≡ stretch.Steps a (suc left) ∷ more → ahead_of a s ≡ ahead.Nothing → (found : Chance) → turn_at a s ≡ found
      → OfLine trace a (suc left) more s (begin_or_drop trace a found more s)
  by_found left is none chance.Nothing nothing =
      idle left refl (ap (λ (n : Ahead). chance_by n a s) none ∙ nothing) refl refl
  by_found left is none chance.GoesOn found = absurd (never_goes a s found)
  by_found left is none (chance.Begins n place) found =
      still_on (suc left) is (begin trace a n place s) (ap (λ (o : Order). o.orders) (kept_begin trace a n place s)) (begins_silently trace a n place s)
  by_found left is none chance.TimerBegins found = quiet is refl

  -- the state in which the line asks for so many
  abbrev lined : (left : ℕ) → State
  lined left = with_orders (stretch.Steps a left ∷ more) s

  still_ahead : (left : ℕ) (b : Actor) → ahead_of b s ≡ ahead.Step → ahead_of b (lined left) ≡ ahead.Step
  still_ahead left (who.Cpu i) e = e
  still_ahead left who.Timer e = e

  still_kept : (left : ℕ) (b : Actor) → may_step trace b (lined left) ≡ false → may_step trace b s ≡ false
  still_kept left (who.Cpu i) e = e
  still_kept left who.Timer e = e

  by_steps : (left : ℕ) → Steps trace a (lined left) (go_on trace a (lined left)) → OfLine trace a (suc left) more s (go_on trace a (lined left))
  by_steps left (makes e steps by) = one left refl (ap (λ (o : Order). o.orders) (kept_on trace a (lined left))) e steps by
  by_steps left (halts steps may none) = halted left refl (still_kept left a may) none (ap (λ (o : Order). o.orders) (kept_on trace a (lined left))) steps
  by_steps left (spends steps over) = spent left over (ap (λ (o : Order). o.orders) (kept_on trace a (lined left))) steps

  by_step : (left : ℕ) → ahead_of a s ≡ ahead.Step → Ending trace (go_on trace a (lined left)) → OfLine trace a (suc left) more s (go_on trace a (lined left))
  by_step left is ending = by_steps left (steps_on trace a (lined left) many h.paced (still_ahead left a is) ending)

  by_next : (steps : ℕ) → s.orders ≡ stretch.Steps a steps ∷ more → (next : Ahead) → ahead_of a s ≡ next → Ending trace (follow trace a steps next more s)
      → OfLine trace a steps more s (follow trace a steps next more s)
  by_next steps is ahead.Silent next ending = still_on steps is (go_on trace a s) (ap (λ (o : Order). o.orders) (kept_on trace a s)) (quiet_on trace a s next)
  by_next zero is ahead.Step next ending = done refl refl refl
  by_next (suc left) is ahead.Step next ending = by_step left next ending
  by_next zero is ahead.Nothing next ending = done refl refl refl
  by_next (suc left) is ahead.Nothing next ending = by_found left is next (turn_at a s) refl

  pub of_line : (steps : ℕ) → s.orders ≡ stretch.Steps a steps ∷ more → Ending trace (advance trace s) → OfLine trace a steps more s (advance trace s)
  of_line steps is ending =
      let same : advance trace s ≡ follow trace a steps (ahead_of a s) more s = ap (λ (l : List Stretch). advance_by trace l s) is in
      subst (OfLine trace a steps more s) (sym same) (by_next steps is (ahead_of a s) refl (subst (Ending trace) same ending))
