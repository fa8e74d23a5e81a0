-- The first item leaves a CPU's list: what a sound state gives the state after it.
use Rattle.std.proofs.Common.{◌≡◌, ℕ, ◌<◌, List, ◌∷◌, length, All, sym, ap, subst, arith}
use Rattle.std.proofs.lemmas.List.{get_or-set_same}
use Rattle.std.proofs.lemmas.List.Elements.{All-head}
use Rattle.wbt_replay_order.proofs.Common.{Trace, State, cpu_of, with_cpu, flusher_of, no_cpu, Cpu, ReplayPhase, Whose, Todo, Facts, Sound, IsWhose, ItemFits, Agrees}
use Rattle.wbt_replay_moves.specs.Kept.Fit.{OfFlusher}
use Rattle.wbt_replay_moves.specs.declared.state.Whose.TheVariants as whose
use Rattle.wbt_replay_order.proofs.Facts.Things.{flusher_there}

module _ (trace : Trace) (facts : Facts trace) (s : State) (sound : Sound trace s) (i : ℕ) (less : i < trace.cpus) (t : Todo) (ts : List Todo) (first : (cpu_of i s).todo ≡ t ∷ ts) (made : ℕ) where
  -- what the CPU has when the item has left its list
  abbrev pub kept : Cpu
  kept = record (cpu_of i s) { todo = ts; made = made }

  abbrev pub after : State
  after = with_cpu i kept s

  pub same : cpu_of i after ≡ kept
  same = get_or-set_same s.cpus i kept no_cpu (omega (arith, sound.holds.cpus.many, less))

  pub whose_is : IsWhose trace i (cpu_of i s).turn.whose
  whose_is = (sound.holds.cpus.each i less).whose (omega (arith, ap length first))

  pub fits_is : ItemFits trace t
  fits_is = All-head (ItemFits trace) t ts (subst (All (ItemFits trace)) first (sound.holds.cpus.each i less).todo)

  pub agrees_is : Agrees trace s.tasks s.flushers (cpu_of i s).turn.whose t
  agrees_is = All-head (Agrees trace s.tasks s.flushers (cpu_of i s).turn.whose) t ts
      (subst (All (Agrees trace s.tasks s.flushers (cpu_of i s).turn.whose)) first (sound.holds.agreed i less).items)

  -- ---- the turn of a flusher

  of_flusher : (Fits : (f : ℕ) (p : ReplayPhase) → Type 0) → ((f : ℕ) → f < length trace.flushers → Fits f (flusher_of f s).phase)
      → (w : Whose) → IsWhose trace i w → OfFlusher Fits after w
  of_flusher Fits all (whose.Task task) on = tt
  of_flusher Fits all (whose.Flusher f) on = (flusher_there trace facts s sound f on.there, all f on.there)

  pub owner_fits : (Fits : (f : ℕ) (p : ReplayPhase) → Type 0) → ((f : ℕ) → f < length trace.flushers → Fits f (flusher_of f s).phase)
      → OfFlusher Fits after (cpu_of i after).turn.whose
  owner_fits Fits all = subst (λ (c : Cpu). OfFlusher Fits after c.turn.whose) (sym same) (of_flusher Fits all (cpu_of i s).turn.whose whose_is)
