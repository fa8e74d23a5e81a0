-- What is found of the items of a list, one after another.
use Rattle.std.proofs.Common.{◌≡◌, inl, inr, ⊎_elim, ℕ, zero, suc, ◌+◌, ◌<◌, ◌≤◌, List, [], ◌∷◌, length, get_or, drop, refl, sym, ap, subst, arith, add-one}
use Rattle.wbt_run_worker.proofs.Common.{Each}
use Rattle.wbt_run_drain.specs.Ends.{Any}

module _ {A : Type 0} where
  at_it : (xs : List A) (i : ℕ) (x : A) → x ≡ get_or xs i x → i < length xs → drop i xs ≡ x ∷ drop (suc i) xs
  at_it [] i x is less = absurd (omega arith)
  at_it (y ∷ ys) zero x is less = ap (λ (z : A). z ∷ ys) (sym is)
  at_it (y ∷ ys) (suc i) x is less = at_it ys i x is (omega arith)

  pub here : (xs : List A) (i : ℕ) (x : A) → x ≡ get_or xs i x → i < length xs → drop i xs ≡ x ∷ drop (i + 1) xs
  here xs i x is less = rw add-one (at_it xs i x is less)

  pub all_gone : (xs : List A) (i : ℕ) → length xs ≤ i → drop i xs ≡ []
  all_gone [] zero less = refl
  all_gone [] (suc i) less = refl
  all_gone (x ∷ xs) zero less = absurd (omega arith)
  all_gone (x ∷ xs) (suc i) less = all_gone xs i (omega arith)

  -- so far all are such
  pub record SofarEach (P : A → Type 0) (xs : List A) (i : ℕ) : Type 0 where
    pub back : Each P (drop i xs) → Each P xs
    pub from : Each P xs → Each P (drop i xs)

  pub each_first : (P : A → Type 0) (xs : List A) → SofarEach P xs 0
  each_first P xs = record { back = λ all. all; from = λ all. all }

  pub each_next : (P : A → Type 0) (xs : List A) (i : ℕ) (x : A) → x ≡ get_or xs i x → i < length xs → P x → SofarEach P xs i → SofarEach P xs (i + 1)
  each_next P xs i x is less it sofar =
      let cut = here xs i x is less in
      record {
        back = λ all. sofar.back (subst (Each P) (sym cut) (it, all));
        from = λ all. let both : Each P (x ∷ drop (i + 1) xs) = subst (Each P) cut (sofar.from all) in both.1;
      }

  pub each_not : (P : A → Type 0) (xs : List A) (i : ℕ) (x : A) → x ≡ get_or xs i x → i < length xs → (P x → ⊥) → SofarEach P xs i → Each P xs → ⊥
  each_not P xs i x is less not sofar all = let both : Each P (x ∷ drop (i + 1) xs) = subst (Each P) (here xs i x is less) (sofar.from all) in not both.0

  pub each_all : (P : A → Type 0) (xs : List A) (i : ℕ) → length xs ≤ i → SofarEach P xs i → Each P xs
  each_all P xs i less sofar = sofar.back (subst (Each P) (sym (all_gone xs i less)) tt)

  -- so far none is such
  pub record SofarNone (P : A → Type 0) (xs : List A) (i : ℕ) : Type 0 where
    pub back : Any P (drop i xs) → Any P xs
    pub from : Any P xs → Any P (drop i xs)

  pub none_first : (P : A → Type 0) (xs : List A) → SofarNone P xs 0
  none_first P xs = record { back = λ any. any; from = λ any. any }

  pub none_next : (P : A → Type 0) (xs : List A) (i : ℕ) (x : A) → x ≡ get_or xs i x → i < length xs → (P x → ⊥) → SofarNone P xs i → SofarNone P xs (i + 1)
  none_next P xs i x is less not sofar =
      let cut = here xs i x is less in
      record {
        back = λ any. sofar.back (subst (Any P) (sym cut) (inr any));
        from = λ any. let both : Any P (x ∷ drop (i + 1) xs) = subst (Any P) cut (sofar.from any) in
            ⊎_elim (λ (it : P x). absurd (not it)) (λ (more : Any P (drop (i + 1) xs)). more) both;
      }

  pub none_but : (P : A → Type 0) (xs : List A) (i : ℕ) (x : A) → x ≡ get_or xs i x → i < length xs → P x → SofarNone P xs i → Any P xs
  none_but P xs i x is less it sofar = sofar.back (subst (Any P) (sym (here xs i x is less)) (inl it))

  pub none_all : (P : A → Type 0) (xs : List A) (i : ℕ) → length xs ≤ i → SofarNone P xs i → Any P xs → ⊥
  none_all P xs i less sofar any = subst (Any P) (all_gone xs i less) (sofar.from any)
