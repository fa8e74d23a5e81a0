-- A batch all of whose pages are completed: they are still to be counted and added.
use Rattle.std.proofs.Common.{◌≡◌, ℕ, ◌+◌, ◌<◌, ◌≤◌, Bool, true, false, cond, eqb, List, [], ◌∷◌, drop, length, get_or, set, sym, refl, ap, ◌∙◌, subst, arith, eq-eqb, ne_eqb, get_or-set_same, get_or-set_other}
use Rattle.std.proofs.lemmas.Bool.{cond-true, cond-false}
use mathlib.Core.Logic.{dite}
use native.Mathlib.Decide.{ℕ_discrete}
use Rattle.wbt_flusher.proofs.Common.{times_in, Seats, context_of, first_tallies, is_inside, phase_by, pages_by, tally_in, tallies_of, landed_in, owed_by, OwesRescan, OwesMark, HasLists, owing_more, pairs_of}
use Rattle.wbt_counter.proofs.Sums.{total_le}
use Rattle.wbt_journal.specs.Flights as flights
use Rattle.wbt_flusher.specs.declared.plan.FlusherPlan.{FlusherPlan}
use Rattle.wbt_flusher.specs.declared.tally.Tallies.{Tallies}
use Rattle.wbt_flusher.specs.declared.work.Flight.{Flight}
use Rattle.wbt_flusher.specs.declared.work.Phase.{Phase}
use Rattle.wbt_flusher.specs.declared.work.Phase.TheVariants.{Idle, Flying}
use Rattle.wbt_flusher.specs.declared.work.FlusherWork.{FlusherWork}
use Rattle.wbt_flusher.proofs.Acting.{Kept}

pub drop_whole : (xs : List ℕ) → drop (length xs) xs ≡ []
drop_whole [] = refl
drop_whole (x ∷ xs) = drop_whole xs

more_by : (b : Bool) (n : ℕ) (t : Tallies) → (cond b (owing_more n t).global (owing_more n t).group).owed ≤ (cond b t.global t.group).owed + n
more_by true n t = omega arith
more_by false n t = omega arith

in_case : (b : Bool) (x y m n : ℕ) → x + m ≤ y + n → cond b (x + m) 0 ≤ cond b (y + n) 0
in_case true x y m n less = less
in_case false x y m n less = omega arith

module _ (plan : FlusherPlan) (was is : FlusherWork) (flight : Flight) (lists : HasLists plan was) (there : context_of plan flight.inode < length plan.contexts)
    (faults : is.faults ≡ was.faults) (wheel : is.wheel ≡ was.wheel) (was_at : was.phase ≡ Flying flight) (is_at : is.phase ≡ Idle 0 false) (landed : flight.landed ≡ length was.batch.items) (none : is.batch.items ≡ [])
    (set_is : is.tallies.items ≡ set was.tallies.items (context_of plan flight.inode) (owing_more flight.landed (tallies_of was (context_of plan flight.inode)))) where
  context : ℕ
  context = context_of plan flight.inode

  lands_none : (k : ℕ) → landed_in plan is.phase k ≡ 0
  lands_none k = ap (λ (p : Phase). landed_in plan p k) is_at

  landed_was : (k : ℕ) → landed_in plan was.phase k ≡ cond (eqb k (context_of plan flight.inode)) flight.landed 0
  landed_was k = ap (λ (p : Phase). landed_in plan p k) was_at

  less_at : (P : Tallies → Tallies → ℕ → Type 0) → P (owing_more flight.landed (tallies_of was (context_of plan flight.inode))) (tallies_of was (context_of plan flight.inode)) flight.landed
      → ((t : Tallies) → P t t 0) → (k : ℕ) → P (tallies_of is k) (tallies_of was k) (landed_in plan was.phase k)
  less_at P here others k = dite (ℕ_discrete k (context_of plan flight.inode))
      (λ same. subst (λ (j : ℕ). P (tallies_of is j) (tallies_of was j) (landed_in plan was.phase j)) (sym same)
      (subst (λ (u : Tallies). P u (tallies_of was (context_of plan flight.inode)) (landed_in plan was.phase (context_of plan flight.inode)))
      (sym (ap (λ (l : List Tallies). get_or l (context_of plan flight.inode) first_tallies) set_is
      ∙ get_or-set_same was.tallies.items (context_of plan flight.inode) (owing_more flight.landed (tallies_of was (context_of plan flight.inode))) first_tallies (let long = lists.tallies in omega arith)))
      (subst (λ (n : ℕ). P (owing_more flight.landed (tallies_of was (context_of plan flight.inode))) (tallies_of was (context_of plan flight.inode)) n)
      (sym (landed_was (context_of plan flight.inode) ∙ cond-true (eqb (context_of plan flight.inode) (context_of plan flight.inode)) flight.landed 0 (eq-eqb (context_of plan flight.inode) (context_of plan flight.inode) refl))) here)))
      (λ other. subst (λ (u : Tallies). P u (tallies_of was k) (landed_in plan was.phase k))
      (sym (ap (λ (l : List Tallies). get_or l k first_tallies) set_is ∙ get_or-set_other was.tallies.items (context_of plan flight.inode) k (owing_more flight.landed (tallies_of was (context_of plan flight.inode))) first_tallies other))
      (subst (λ (n : ℕ). P (tallies_of was k) (tallies_of was k) n) (sym (landed_was k ∙ cond-false (eqb k (context_of plan flight.inode)) flight.landed 0 (ne_eqb k (context_of plan flight.inode) other))) (others (tallies_of was k))))

  owed_less : (domain k : ℕ) → owed_by plan domain k is ≤ owed_by plan domain k was
  owed_less domain k =
      let less = less_at (λ t u n. (tally_in domain t).owed ≤ (tally_in domain u).owed + n) (more_by (eqb domain 0) flight.landed (tallies_of was (context_of plan flight.inode))) (λ t. omega arith) k in
      let zero_landed = lands_none k in
      in_case (is_inside plan domain k) (tally_in domain (tallies_of is k)).owed (tally_in domain (tallies_of was k)).owed (landed_in plan is.phase k) (landed_in plan was.phase k) (omega arith)

  left_none : drop flight.landed was.batch.items ≡ []
  left_none = ap (λ (n : ℕ). drop n was.batch.items) landed ∙ drop_whole was.batch.items

  pub kept_batch : (seats : Seats) → Kept plan seats was is
  kept_batch seats = record {
    phase = ap (phase_by is.batch.items) is_at ∙ sym (ap (phase_by was.batch.items) was_at ∙ ap flights.emptied left_none);
    faults = faults;
    waits = ap pairs_of wheel;
    held = λ page. ap (times_in page) (ap (pages_by is.batch.items) is_at ∙ sym (ap (pages_by was.batch.items) was_at ∙ left_none));
    rescans = λ page owes own. absurd (subst (λ (p : Phase). OwesRescan plan p page) was_at own);
    marks = λ inode owes own. absurd (subst (λ (p : Phase). OwesMark p inode) was_at own);
    owing_is = λ domain in_domains. total_le (length plan.contexts) (λ k. owed_by plan domain k is) (λ k. owed_by plan domain k was) (λ k less. owed_less domain k);
    total_is = λ k in_contexts.
        let less = less_at (λ t u n. t.written ≤ u.written + n) (omega arith) (λ t. omega arith) k in
        let zero_landed = lands_none k in omega arith;
  }
