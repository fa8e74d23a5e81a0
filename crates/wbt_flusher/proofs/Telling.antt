-- Entries of folds: what they count, and whose they are.
use Rattle.std.proofs.Common.{◌≡◌, ℕ, true, List, [], ◌∷◌, refl, arith}
use Rattle.std.specs.Prelude.{sum_by}
use Rattle.std.proofs.lemmas.Bool.{lt-ltb}
use Rattle.std.proofs.lemmas.List.Sums.{sum_by-cons}
use Rattle.wbt_flusher.proofs.Common.{Counter, Domain, HasCounter, Trace, contexts, domains, added_to, Kit, handed, Suits, IsWork}
use Rattle.wbt_kit.proofs.Common.{Fold, folded}
use Rattle.wbt_counter.specs.declared.counter.Counter.TheVariants.{Context}
use Rattle.wbt_journal.specs.Machine.{has_counter}
use Rattle.wbt_journal.specs.Reads.{added_by}
use Rattle.wbt_run_steps.specs.Steps.{tells_folds}
use Rattle.wbt_flusher.specs.declared.plan.FlusherPlan.{FlusherPlan}

pub folds_add_none : (domain context : ℕ) (folds : List Fold) → added_to domain context (tells_folds folds) ≡ 0
folds_add_none domain context [] = refl
folds_add_none domain context (f ∷ folds) = let first = sum_by-cons (added_by domain context) (folded f) (tells_folds folds) in let rest = folds_add_none domain context folds in omega arith

pub folds_hand_none : (folds : List Fold) → sum_by handed (tells_folds folds) ≡ 0
folds_hand_none [] = refl
folds_hand_none (f ∷ folds) = let first = sum_by-cons handed (folded f) (tells_folds folds) in let rest = folds_hand_none folds in omega arith

-- a counter of the throttle is one of the trace
pub counter_is_own : (trace : Trace) (plan : FlusherPlan) (kit : Kit) → Suits plan kit → IsWork trace plan kit → (x : Counter) → HasCounter kit.throttle.layout x → has_counter trace x ≡ true
counter_is_own trace plan kit suits work (Domain d) there = lt-ltb d (domains trace) (let a = suits.domains_are in let b = work.plan_is.domains_are in omega arith)
counter_is_own trace plan kit suits work (Context k) there = lt-ltb k (contexts trace) (let a = work.throttle.contexts_are in omega arith)
