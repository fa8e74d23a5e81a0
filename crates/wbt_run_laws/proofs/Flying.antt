-- All flushers of a CPU along its part, from the walk of each.
use Rattle.std.proofs.Common.{◌≡◌, ℕ, zero, suc, cond, eqb, Option, None, Some, IfSome, List, [], ◌∷◌, set, sym, refl, ◌∙◌, subst, eq-eqb, ne_eqb}
use Rattle.std.proofs.lemmas.Bool.{cond-true, cond-false}
use Rattle.std.proofs.lemmas.List.{get_or-set_other}
use mathlib.Core.Logic.{dite}
use native.Mathlib.Decide.{ℕ_discrete}
use Rattle.wbt_run_laws.proofs.Common.{Trace, Each, Flight, effect, of_part, ToldFlusher, MayMove, moved, Told, Along, IsOwn, IsOwnFlight, flusher_after, FliesInTurn, items_told}
use Rattle.wbt_journal.specs.Effects.{Move, takes, flies, lands, fails, gives_back}
use Rattle.wbt_journal.specs.Flights.{no_flusher, flusher_of, FliesBy, flushers_by, flushers_after_told, Flies, flushers_after}

-- where nothing becomes of a flusher that isn't there, the flusher itself is changed
changed_own : (h : ToldFlusher → ToldFlusher) → h no_flusher ≡ no_flusher → (flushers : List ToldFlusher) (f : ℕ) → flusher_of (set flushers f (h (flusher_of flushers f))) f ≡ h (flusher_of flushers f)
changed_own h none [] f = sym none
changed_own h none (x ∷ xs) zero = refl
changed_own h none (x ∷ xs) (suc f) = changed_own h none xs f

-- and no other
changed : (h : ToldFlusher → ToldFlusher) → h no_flusher ≡ no_flusher → (flushers : List ToldFlusher) (f g : ℕ) → flusher_of (set flushers f (h (flusher_of flushers f))) g ≡ cond (eqb f g) (h (flusher_of flushers g)) (flusher_of flushers g)
changed h none flushers f g = dite (ℕ_discrete g f)
    (λ is. subst (λ (k : ℕ). flusher_of (set flushers f (h (flusher_of flushers f))) k ≡ cond (eqb f k) (h (flusher_of flushers k)) (flusher_of flushers k)) (sym is)
    (changed_own h none flushers f ∙ sym (cond-true (eqb f f) (h (flusher_of flushers f)) (flusher_of flushers f) (eq-eqb f f refl))))
    (λ other. get_or-set_other flushers f g (h (flusher_of flushers f)) no_flusher other
    ∙ sym (cond-false (eqb f g) (h (flusher_of flushers g)) (flusher_of flushers g) (ne_eqb f g (λ e. other (sym e)))))

-- no move makes anything of it
fails_still : (move : Move) → moved move no_flusher ≡ no_flusher
fails_still (takes page) = refl
fails_still (flies pages now until) = refl
fails_still (lands page) = refl
fails_still (fails pages) = refl
fails_still (gives_back page absorbed) = refl

module _ (trace : Trace) (cpu : ℕ) (flushers : List ToldFlusher) where
  -- a flight may come where its own flusher's walk lets it
  one_flies : (part : Option Flight) → IfSome part (IsOwnFlight trace cpu) → ((g : ℕ) → IfSome part (λ (flight : Flight). flight.flusher ≡ g → MayMove flight.move (flusher_of flushers g).phase))
      → IfSome part (FliesBy trace cpu flushers)
  one_flies None own each = tt
  one_flies (Some flight) own each = (own.own, each flight.flusher refl, own.chunk)

  -- and each flusher's walk goes on after it
  all_go_on : (part : Option Flight) (more : List Told)
      → ((g : ℕ) → Along (FliesInTurn g) (flusher_after g) (of_part (flusher_of flushers g) (λ (flight : Flight). cond (eqb flight.flusher g) (moved flight.move (flusher_of flushers g)) (flusher_of flushers g)) part) more)
      → (g : ℕ) → Along (FliesInTurn g) (flusher_after g) (flusher_of (of_part flushers (flushers_by flushers) part) g) more
  all_go_on None more each g = each g
  all_go_on (Some flight) more each g = subst (λ (p : ToldFlusher). Along (FliesInTurn g) (flusher_after g) p more) (sym (changed (moved flight.move) (fails_still flight.move) flushers flight.flusher g)) (each g)

pub all_fly : (trace : Trace) (cpu : ℕ) (flushers : List ToldFlusher) (part : List Told) → Each (IsOwn trace cpu) part → ((f : ℕ) → Along (FliesInTurn f) (flusher_after f) (flusher_of flushers f) part)
    → Along (Flies trace) (flushers_after trace) flushers (items_told cpu part)
all_fly trace cpu flushers [] own each = tt
all_fly trace cpu flushers (e ∷ part) own each = (
  one_flies trace cpu flushers (effect e).flight own.0.flight (λ f. (each f).0),
  all_fly trace cpu (flushers_after_told flushers e) part own.1 (all_go_on trace cpu flushers (effect e).flight part (λ f. (each f).1)),
)
