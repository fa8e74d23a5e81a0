-- What stands in a list in order, each at a place of its own.
use Rattle.std.proofs.Common.{ℕ, ◌+◌, ◌≤◌, ◌≡◌, inl, inr, Bool, cond, List, [], ◌∷◌, ◌++◌, count_by, sym, ap, subst, arith}
use Rattle.std.proofs.lemmas.List.Sums.{sum_by-cons}
use Rattle.wbt_run_laws.proofs.Common.{Each}
use Rattle.wbt_run_laws.specs.Grew.{StandInOrder}

module _ {A : Type 0} where
  -- more before it changes nothing
  stand_later : (told : List A) (x : A) (all : List A) → StandInOrder told all → StandInOrder told (x ∷ all)
  stand_later [] x all standing = tt
  stand_later (t ∷ told) x all standing = inr standing

  pub stand_both : (a b xs ys : List A) → StandInOrder a xs → StandInOrder b ys → StandInOrder (a ++ b) (xs ++ ys)
  stand_both [] b [] ys p q = q
  stand_both [] b (x ∷ xs) ys p q = stand_later b x (xs ++ ys) (stand_both [] b xs ys tt q)
  stand_both (t ∷ a) b [] ys p q = absurd p
  stand_both (t ∷ a) b (x ∷ xs) ys (inl first) q = inl (first.0, stand_both a b xs ys first.1 q)
  stand_both (t ∷ a) b (x ∷ xs) ys (inr later) q = inr (stand_both (t ∷ a) b xs ys later q)

  pub each_standing : (P : A → Type 0) (told all : List A) → StandInOrder told all → Each P all → Each P told
  each_standing P [] all standing each = tt
  each_standing P (t ∷ told) [] standing each = absurd standing
  each_standing P (t ∷ told) (x ∷ all) (inl first) each = (subst P (sym first.0) each.0, each_standing P told all first.1 each.1)
  each_standing P (t ∷ told) (x ∷ all) (inr later) each = each_standing P (t ∷ told) all later each.1

  pub count_standing : (which : A → Bool) (told all : List A) → StandInOrder told all → count_by which told ≤ count_by which all
  count_standing which [] all standing = omega arith
  count_standing which (t ∷ told) [] standing = absurd standing
  count_standing which (t ∷ told) (x ∷ all) (inl first) =
      let one : A → ℕ = λ y. cond (which y) 1 0 in
      let same : one t ≡ one x = ap one first.0 in
      let told_all : count_by which (t ∷ told) ≡ one t + count_by which told = sum_by-cons one t told in
      let in_all : count_by which (x ∷ all) ≡ one x + count_by which all = sum_by-cons one x all in
      let rest = count_standing which told all first.1 in
      omega arith
  count_standing which (t ∷ told) (x ∷ all) (inr later) =
      let one : A → ℕ = λ y. cond (which y) 1 0 in
      let in_all : count_by which (x ∷ all) ≡ one x + count_by which all = sum_by-cons one x all in
      let rest = count_standing which (t ∷ told) all later in
      omega arith
