-- A page of a flight is completed.
use Rattle.std.proofs.Common.{◌≡◌, ℕ, ◌+◌, ◌<◌, ◌≤◌, List, [], ◌∷◌, drop, length, get_or, inr, refl, ap, ◌∙◌, subst, arith, eqb, eq-eqb}
use Rattle.std.proofs.lemmas.Bool.{cond-true}
use Rattle.wbt_flusher.proofs.Common.{times_in, complete, record_after, Setting, CpuRecord, Flew, steps_grow, context_of, Sight, phase_by, pages_by, flusher_in, pages_in, OwesRescan, OwesMark, all_completions, completions}
use Rattle.wbt_journal.specs.Flights as flights
use Rattle.wbt_journal.specs.Told.{done}
use Rattle.wbt_flusher.specs.declared.plan.FlusherPlan.{FlusherPlan}
use Rattle.wbt_flusher.specs.declared.work.Flight.{Flight}
use Rattle.wbt_flusher.specs.declared.work.Phase.{Phase}
use Rattle.wbt_flusher.specs.declared.work.Phase.TheVariants.{Flying}
use Rattle.wbt_flusher.proofs.Acting.{OnRecord, flew_as, told_as}
use Rattle.wbt_flusher.proofs.Listing.{fewer, drop_at}
use Rattle.wbt_flusher.proofs.Owing.{completed_owing, completed_total}

-- the first page of a flight lands
pub lands : (flusher page : ℕ) (rest : List ℕ) (faults : ℕ) → Flew flusher (told_as (flights.emptied (page ∷ rest)) faults) (done flusher page ∷ []) (told_as (flights.emptied rest) faults)
lands flusher page rest faults = record {
  allowed = ((λ own. refl), tt);
  reached = cond-true (eqb flusher flusher) (told_as (flights.emptied rest) faults) (told_as (flights.flying (page ∷ rest)) faults) (eq-eqb flusher flusher refl);
}

module _ (plan : FlusherPlan) (set : Setting) (old new : Sight) (flight next : Flight) (n : ℕ) (r : CpuRecord)
    (was_at : old.work.phase ≡ Flying flight) (is_at : new.work.phase ≡ Flying next)
    (inode : next.inode ≡ flight.inode) (landed : next.landed ≡ flight.landed + 1)
    (tallies : new.work.tallies.items ≡ old.work.tallies.items) (batch : new.work.batch.items ≡ old.work.batch.items)
    (some_left : flight.landed < length old.work.batch.items) where
  abbrev pub page : ℕ
  page = get_or old.work.batch.items flight.landed 0

  abbrev pub rest : List ℕ
  rest = drop (flight.landed + 1) old.work.batch.items

  left_was : drop flight.landed old.work.batch.items ≡ page ∷ rest
  left_was = drop_at old.work.batch.items flight.landed some_left

  left_is : drop next.landed new.work.batch.items ≡ rest
  left_is = ap (λ (k : ℕ). drop k new.work.batch.items) landed ∙ ap (drop (flight.landed + 1)) batch

  pages_was : pages_in old ≡ page ∷ rest
  pages_was = ap (pages_by old.work.batch.items) was_at ∙ left_was

  pages_is : pages_in new ≡ rest
  pages_is = ap (pages_by new.work.batch.items) is_at ∙ left_is

  pub completed_flew : new.work.faults ≡ old.work.faults → Flew plan.flusher (flusher_in old) (done plan.flusher page ∷ []) (flusher_in new)
  completed_flew faults = flew_as plan.flusher (done plan.flusher page ∷ []) old new (flights.emptied (page ∷ rest)) (flights.emptied rest)
      (ap (phase_by old.work.batch.items) was_at ∙ ap flights.emptied left_was) (ap (phase_by new.work.batch.items) is_at ∙ ap flights.emptied left_is) faults
      (lands plan.flusher page rest old.work.faults)

  pub completed_on : 1 ≤ times_in page r.held → context_of plan flight.inode < length plan.contexts
      → all_completions new.seats.cpu.cpus + completions r ≡ all_completions old.seats.cpu.cpus + completions (record_after set (complete plan.cpu page) n r)
      → OnRecord plan (done plan.flusher page ∷ []) old new r (record_after set (complete plan.cpu page) n r)
  completed_on holds there completed = record {
    grew = (steps_grow set n r).completes plan.cpu plan.flusher page;
    writers = refl;
    held = λ q.
        let was = ap (times_in q) pages_was in
        let is = ap (times_in q) pages_is in
        let gone = fewer page r.held holds q in omega arith;
    rescans = λ q owes. inr (owes, λ own. subst (λ (p : Phase). OwesRescan plan p q) was_at own);
    marks = λ i owes. inr (owes, λ own. subst (λ (p : Phase). OwesMark p i) was_at own);
    completed = completed;
    owing_is = λ domain is. let one = completed_owing plan old.work new.work flight next was_at is_at inode landed tallies there domain in omega arith;
    total_is = λ context is. let one = completed_total plan old.work new.work flight next was_at is_at inode landed tallies context in omega arith;
  }
