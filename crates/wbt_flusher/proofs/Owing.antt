-- What is still to be added, where what a flusher keeps changes.
use Rattle.std.proofs.Common.{◌≡◌, ℕ, ◌+◌, ◌<◌, ◌≤◌, Bool, cond, eqb, List, length, get_or, sym, ap, ◌∙◌, arith, ne_eqb}
use Rattle.std.proofs.lemmas.Bool.{cond_both, cond-false}
use Rattle.wbt_kit.proofs.Common.{total_same, total_change}
use Rattle.wbt_flusher.proofs.Common.{context_of, first_tallies, is_inside, tally_in, tallies_of, landed_in, owed_by, owing, owing_total}
use Rattle.wbt_flusher.specs.declared.plan.FlusherPlan.{FlusherPlan}
use Rattle.wbt_flusher.specs.declared.tally.Tallies.{Tallies}
use Rattle.wbt_flusher.specs.declared.work.Flight.{Flight}
use Rattle.wbt_flusher.specs.declared.work.Phase.{Phase}
use Rattle.wbt_flusher.specs.declared.work.Phase.TheVariants.{Flying}
use Rattle.wbt_flusher.specs.declared.work.FlusherWork.{FlusherWork}

-- with other tallies and other completed pages, for one context
abbrev pub owed_with : (plan : FlusherPlan) (domain context : ℕ) (tallies : List Tallies) (phase : Phase) → ℕ
owed_with plan domain context tallies phase =
    cond (is_inside plan domain context) ((tally_in domain (get_or tallies context first_tallies)).owed + landed_in plan phase context) 0

-- of tallies that stay, and completed pages that stay
pub owing_stays : (plan : FlusherPlan) (was is : FlusherWork) → is.tallies.items ≡ was.tallies.items → ((context : ℕ) → landed_in plan is.phase context ≡ landed_in plan was.phase context)
    → (domain : ℕ) → owing plan domain is ≡ owing plan domain was
owing_stays plan was is tallies landed domain = total_same (length plan.contexts) (λ k. owed_by plan domain k is) (λ k. owed_by plan domain k was)
    (λ k less. ap (λ (l : List Tallies). owed_with plan domain k l is.phase) tallies
    ∙ ap (λ (n : ℕ). cond (is_inside plan domain k) ((tally_in domain (tallies_of was k)).owed + n) 0) (landed k))

-- where one page more is completed
module _ (plan : FlusherPlan) (was is : FlusherWork) (flight next : Flight) (was_at : was.phase ≡ Flying flight) (is_at : is.phase ≡ Flying next)
    (inode : next.inode ≡ flight.inode) (landed : next.landed ≡ flight.landed + 1) (tallies : is.tallies.items ≡ was.tallies.items) where
  landed_was : (k : ℕ) → landed_in plan was.phase k ≡ cond (eqb k (context_of plan flight.inode)) flight.landed 0
  landed_was k = ap (λ (p : Phase). landed_in plan p k) was_at

  landed_is : (k : ℕ) → landed_in plan is.phase k ≡ cond (eqb k (context_of plan flight.inode)) (flight.landed + 1) 0
  landed_is k = ap (λ (p : Phase). landed_in plan p k) is_at ∙ ap (λ (i : ℕ). cond (eqb k (context_of plan i)) next.landed 0) inode ∙ ap (λ (n : ℕ). cond (eqb k (context_of plan flight.inode)) n 0) landed

  one_more : (k : ℕ) → landed_in plan is.phase k ≤ landed_in plan was.phase k + 1
  one_more k = let a = landed_was k in let b = landed_is k in
      let c = cond_both (eqb k (context_of plan flight.inode)) (flight.landed + 1) 0 (λ (n : ℕ). n ≤ cond (eqb k (context_of plan flight.inode)) flight.landed 0 + 1)
      (λ is. let d : cond (eqb k (context_of plan flight.inode)) flight.landed 0 ≡ flight.landed = ap (λ (t : Bool). cond t flight.landed 0) is in omega arith) (λ not. omega arith) in omega arith

  pub completed_owing : context_of plan flight.inode < length plan.contexts → (domain : ℕ) → owing plan domain is ≤ owing plan domain was + 1
  completed_owing there domain =
      let k = context_of plan flight.inode in
      let one = one_more k in
      let now : owed_by plan domain k is ≡ owed_with plan domain k was.tallies.items is.phase = ap (λ (l : List Tallies). owed_with plan domain k l is.phase) tallies in
      let at : owed_by plan domain k is ≤ owed_by plan domain k was + 1 =
      cond_both (is_inside plan domain k) ((tally_in domain (tallies_of was k)).owed + landed_in plan is.phase k) 0 (λ (n : ℕ). owed_by plan domain k is ≡ n → owed_by plan domain k is ≤ owed_by plan domain k was + 1)
      (λ inside e. let was_e : owed_by plan domain k was ≡ (tally_in domain (tallies_of was k)).owed + landed_in plan was.phase k = ap (λ (t : Bool). cond t ((tally_in domain (tallies_of was k)).owed + landed_in plan was.phase k) 0) inside in omega arith)
      (λ outside e. omega arith) now in
      let change = total_change (length plan.contexts) (λ j. owed_by plan domain j is) (λ j. owed_by plan domain j was) k there
      (λ j other. ap (λ (l : List Tallies). owed_with plan domain j l is.phase) tallies
      ∙ ap (λ (n : ℕ). cond (is_inside plan domain j) ((tally_in domain (tallies_of was j)).owed + n) 0)
      (landed_is j ∙ cond-false (eqb j k) (flight.landed + 1) 0 (ne_eqb j k other) ∙ sym (landed_was j ∙ cond-false (eqb j k) flight.landed 0 (ne_eqb j k other)))) in
      omega arith

  pub completed_total : (context : ℕ) → owing_total plan context is ≤ owing_total plan context was + 1
  completed_total context =
      let one = one_more context in
      let same = ap (λ (l : List Tallies). (get_or l context first_tallies).written) tallies in omega arith
