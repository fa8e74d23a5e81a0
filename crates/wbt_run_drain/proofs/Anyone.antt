-- One of a list's items, where one item changes.
use Rattle.std.proofs.Common.{◌⊎◌, inl, inr, ⊎_elim, ℕ, zero, suc, ◌<◌, List, [], ◌∷◌, length, get_or, set, arith}
use Rattle.wbt_run_worker.proofs.Common.{AnyOf, Seen}
use Rattle.wbt_run_drain.specs.Ends.{Any}

module _ {A : Type 0} where
  pub any_here : (P : A → Type 0) (xs : List A) (k : ℕ) (q : A) → k < length xs → P q → Any P (set xs k q)
  any_here P [] k q less one = absurd (omega arith)
  any_here P (x ∷ xs) zero q less one = inl one
  any_here P (x ∷ xs) (suc k) q less one = inr (any_here P xs k q (omega arith) one)

  -- one that was such still is, or it is the one that changed
  pub any_still : (P : A → Type 0) (xs : List A) (k : ℕ) (d q : A) → Any P xs → Any P (set xs k q) ⊎ P (get_or xs k d)
  any_still P [] k d q any = absurd any
  any_still P (x ∷ xs) zero d q any = ⊎_elim (λ (here : P x). inr here) (λ (there : Any P xs). inl (inr there)) any
  any_still P (x ∷ xs) (suc k) d q any =
      ⊎_elim (λ (here : P x). inl (inl here))
      (λ (there : Any P xs). ⊎_elim (λ (more : Any P (set xs k q)). inl (inr more)) (λ (it : P (get_or xs k d)). inr it) (any_still P xs k d q there)) any

-- one that is such now was, or it is the one that changed
pub any_before : (P : Seen → Type 0) (xs : List Seen) (k : ℕ) (q : Seen) → AnyOf P (set xs k q) → AnyOf P xs ⊎ P q
any_before P [] k q any = absurd any
any_before P (x ∷ xs) zero q any = ⊎_elim (λ (here : P q). inr here) (λ (there : AnyOf P xs). inl (inr there)) any
any_before P (x ∷ xs) (suc k) q any =
    ⊎_elim (λ (here : P x). inl (inl here))
    (λ (there : AnyOf P (set xs k q)). ⊎_elim (λ (more : AnyOf P xs). inl (inr more)) (λ (it : P q). inr it) (any_before P xs k q there)) any
