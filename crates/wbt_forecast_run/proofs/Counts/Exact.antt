-- The steps between two moments of a run tell by how many pages each domain's exact count has changed.
use Rattle.std.proofs.Common.{◌≡◌, ℕ, zero, suc, ◌+◌, ◌&&◌, cond, eqb, ℤ, pos, List, [], ◌∷◌, ◌++◌, length, map, get_or, refl, sym, ◌∙◌, ap, subst, arith}
use Rattle.std.specs.List.{sum_by}
use Rattle.std.proofs.lemmas.List.Sums.{sum_by-cons}
use Rattle.wbt_replay_order.proofs.Common.{clean, times_in, total_nothing, is_inside, context_count, domain_count, if_nothing, IsLawful, Trace, extended, State, no_cpu, Flusher, Todo, setting_of, opening, first_cpu, first_cpus, first_flusher, first_flushers, advance, is_ended, is_full, Facts, Suits, fits_further, IsInRange}
use Rattle.wbt_replay_order.proofs.Facts.Facts.{facts}
use Rattle.wbt_replay_order.proofs.Facts.Lists.{either}
use Rattle.wbt_replay_order.proofs.Facts.Settings.{setting_is, pair_of}
use Rattle.wbt_replay_order.proofs.Outset.Numbered.{numbered_all}
use Rattle.wbt_replay_order.proofs.Outset.Sound.{opening_sound, opening_room}
use Rattle.wbt_replay_path.proofs.Follow.Setting.{suits_of}
use Rattle.wbt_forecast_rows.specs.Between.{IsAfter, gained}
use Rattle.wbt_forecast_rows.specs.Counts.{homes_of, count_after}
use Rattle.wbt_forecast_rows.specs.Laws.{AreExact}
use Rattle.wbt_forecast_rows.specs.Rows.{exact_count}
use Rattle.wbt_forecast_run.specs.Claims.{CountsAreTold}
use Rattle.wbt_forecast_run.specs.Run.{let_on, moved, state_after}
use Rattle.wbt_forecast_run.proofs.Counts.Booked.{IsBooked, behind_first, seats_of}
use Rattle.wbt_forecast_run.proofs.Counts.Quiet.{NoClaims, count_more, batch_in}
use Rattle.wbt_forecast_run.proofs.Counts.Walk.{advance_booked}
use Rattle.wbt_forecast_run.proofs.Runs.Ends.{first_state}
use Rattle.wbt_forecast_run.proofs.Runs.Growing.{runs_tell_in_order}
use Rattle.wbt_forecast_run.proofs.Runs.Letting.{let_on_range, range_at}

-- ---- the opening

-- an empty book has no pages
no_pages : (trace : Trace) (d : ℕ) → domain_count (setting_of trace) (λ p. clean) d ≡ 0
no_pages trace d =
    let set = setting_of trace in
    total_nothing set.contexts (λ k. cond (is_inside set d k) (context_count set (λ p. clean) k) 0)
    (λ k. if_nothing (is_inside set d k) (context_count set (λ p. clean) k)
    (total_nothing set.pages (λ p. cond (eqb (set.home p) k) 0 0) (λ p. if_nothing (eqb (set.home p) k) 0 refl)))

held_push : (p : ℕ) (fs : List Flusher) (f : Flusher)
    → sum_by (times_in p) (map batch_in (fs ++ f ∷ [])) ≡ sum_by (times_in p) (map batch_in fs) + times_in p f.batch
held_push p [] f = omega (arith, sum_by-cons (times_in p) f.batch [])
held_push p (x ∷ fs) f =
    let rest = held_push p fs f in
    omega (arith, rest, sum_by-cons (times_in p) x.batch (map batch_in (fs ++ f ∷ [])), sum_by-cons (times_in p) x.batch (map batch_in fs))

module _ (trace : Trace) where
  none_held : (p n : ℕ) → sum_by (times_in p) (map batch_in (first_flushers trace n)) ≡ 0
  none_held p zero = refl
  none_held p (suc n) = let rest = none_held p n in omega (arith, rest, held_push p (first_flushers trace n) (first_flusher trace n))

  idle_cpu : (n j : ℕ) → (get_or (first_cpus trace n) j no_cpu).todo ≡ []
  idle_cpu n j = numbered_all (first_cpus trace) (first_cpu trace) no_cpu refl (λ k. refl) (λ i c. c.todo ≡ []) (λ i. refl) (λ i. refl) n j

  opening_booked : IsBooked trace (opening trace)
  unfolding opening
  opening_booked = record {
    counts = λ d. ap pos (sym (no_pages trace d));
    held = λ p. none_held p (length trace.flushers);
    claims = λ j f word rest scan is of at. absurd (cc (sym (idle_cpu trace.cpus j) ∙ is));
    behind = λ j. subst (λ (l : List Todo). NoClaims (behind_first l)) (sym (idle_cpu trace.cpus j)) tt;
  }

  first_none : (d : ℕ) → exact_count trace (opening trace) d ≡ 0
  unfolding opening
  first_none d = no_pages trace d

-- ---- the run

module _ (trace : Trace) (known : Facts trace) (suits : Suits trace (setting_of trace)) where
  advances : (s : State) → IsInRange trace s → IsBooked trace s → IsBooked trace (advance trace s)
  advances s h booked = advance_booked trace known suits s (seats_of trace s h.0) booked

  let_booked : (s : State) → IsBooked trace s → IsBooked trace (let_on s)
  let_booked s booked = either (IsBooked trace) (is_full s && fits_further s) (extended s) s (λ is. booked) (λ no. booked)

  moved_booked : (s : State) → IsInRange trace s → IsBooked trace s → IsBooked trace (moved trace s)
  moved_booked s h booked = either (IsBooked trace) (is_ended s) s (advance trace (let_on s))
      (λ over. booked) (λ going. advances (let_on s) (let_on_range trace s h) (let_booked s booked))

  module _ (first : IsInRange trace (opening trace)) where
    pub booked_at : (moves : ℕ) → IsBooked trace (state_after trace moves)
    unfolding state_after
    booked_at zero = opening_booked trace
    booked_at (suc moves) = moved_booked (state_after trace moves) (range_at trace known first moves) (booked_at moves)

-- Where the steps tell the counts at two moments, those between them tell the changes.
pub exact_between : (trace : Trace) (s u : State) → IsBooked trace s → IsBooked trace u → IsAfter s u → AreExact trace s u
exact_between trace s u one two after d less =
    let homes = homes_of trace in
    ap (λ (z : ℤ). count_after homes d z (gained s.steps u.steps)) (sym (one.counts d))
    ∙ (sym (count_more homes d (pos 0) s.steps (gained s.steps u.steps))
    ∙ (ap (count_after homes d (pos 0)) after.steps ∙ two.counts d))

pub suits_lawful : (trace : Trace) → IsLawful trace → Suits trace (setting_of trace)
suits_lawful trace lawful = suits_of trace (facts trace lawful) (λ w less. (pair_of trace lawful w less).1) (setting_is trace lawful)

pub counts_are_told : CountsAreTold
counts_are_told = λ trace lawful.
    let known = facts trace lawful in
    let booked = booked_at trace known (suits_lawful trace lawful) (opening_sound trace lawful, opening_room trace) in
    record {
      first = λ d. ap (λ (s : State). exact_count trace s d) (first_state trace) ∙ first_none trace d;
      between = λ m n le. exact_between trace (state_after trace m) (state_after trace n) (booked m) (booked n) ((runs_tell_in_order trace).after m n le);
    }
