-- What holds of each item of lists that are put together, and what lists of entries tell.
use Rattle.std.proofs.Common.{ℕ, leb, not, ◌||◌, ◌+◌, ◌≤◌, le-leb, ◌≡◌, Bool, true, false, cond, ◌&&◌, List, [], ◌∷◌, ◌++◌, map, flat_map, count_by, reverse, All, Contains, sym, refl, ap, ◌∙◌, subst, arith, append_assoc, true≢false}
use Rattle.std.specs.List.{list_all}
use Rattle.std.proofs.lemmas.List.{reverse-append}
use Rattle.std.proofs.lemmas.List.Elements.{All-nil, All-cons, All-head, All-tail, Contains-append_left, Contains-append_right, Contains-push}
use Rattle.std.proofs.lemmas.List.Sums.{sum_by-append, sum_by-cons}
use Rattle.wbt_run_laws.proofs.Common.{Each, onto, Gained, Longer}
use Rattle.wbt_run_laws.specs.Grew.{StandInOrder}
use Rattle.wbt_run_laws.proofs.InOrder.{stand_both, each_standing, count_standing}

module _ {A : Type 0} where
  pub each_append : (P : A → Type 0) (xs ys : List A) → Each P xs → Each P ys → Each P (xs ++ ys)
  each_append P [] ys p q = q
  each_append P (x ∷ xs) ys p q = (p.0, each_append P xs ys p.1 q)

  pub each_front : (P : A → Type 0) (xs ys : List A) → Each P (xs ++ ys) → Each P xs
  each_front P [] ys p = tt
  each_front P (x ∷ xs) ys p = (p.0, each_front P xs ys p.1)

  pub each_rest : (P : A → Type 0) (xs ys : List A) → Each P (xs ++ ys) → Each P ys
  each_rest P [] ys p = p
  each_rest P (x ∷ xs) ys p = each_rest P xs ys p.1

  pub each_weaker : (P Q : A → Type 0) → ((x : A) → P x → Q x) → (xs : List A) → Each P xs → Each Q xs
  each_weaker P Q h [] p = tt
  each_weaker P Q h (x ∷ xs) p = (h x p.0, each_weaker P Q h xs p.1)

  pub each_both : (P Q : A → Type 0) (xs : List A) → Each P xs → Each Q xs → Each (λ x. P x × Q x) xs
  each_both P Q [] p q = tt
  each_both P Q (x ∷ xs) p q = ((p.0, q.0), each_both P Q xs p.1 q.1)

  pub each_map : {B : Type 0} (P : B → Type 0) (f : A → B) (xs : List A) → Each (λ x. P (f x)) xs → Each P (map f xs)
  each_map P f [] p = tt
  each_map P f (x ∷ xs) p = (p.0, each_map P f xs p.1)

  pub each_unmap : {B : Type 0} (P : B → Type 0) (f : A → B) (xs : List A) → Each P (map f xs) → Each (λ x. P (f x)) xs
  each_unmap P f [] p = tt
  each_unmap P f (x ∷ xs) p = (p.0, each_unmap P f xs p.1)

  pub each_of_all : (P : A → Type 0) (xs : List A) → All P xs → Each P xs
  each_of_all P [] all = tt
  each_of_all P (x ∷ xs) all = (All-head P x xs all, each_of_all P xs (All-tail P x xs all))

  pub all_of_each : (P : A → Type 0) (xs : List A) → Each P xs → All P xs
  all_of_each P [] p = All-nil P
  all_of_each P (x ∷ xs) p = All-cons P x xs p.0 (all_of_each P xs p.1)

  pub all_front : (P : A → Type 0) (xs ys : List A) → All P (xs ++ ys) → All P xs
  all_front P xs ys all = all_of_each P xs (each_front P xs ys (each_of_all P (xs ++ ys) all))

  pub all_rest : (P : A → Type 0) (xs ys : List A) → All P (xs ++ ys) → All P ys
  all_rest P xs ys all = all_of_each P ys (each_rest P xs ys (each_of_all P (xs ++ ys) all))

  pub each_reverse : (P : A → Type 0) (xs : List A) → Each P xs → Each P (reverse xs)
  each_reverse P [] p = tt
  each_reverse P (x ∷ xs) p = subst (λ (l : List A). Each P l) (sym (reverse-append (x ∷ []) xs)) (each_append P (reverse xs) (x ∷ []) (each_reverse P xs p.1) (p.0, tt))

  pub count_reverse : (which : A → Bool) (xs : List A) → count_by which (reverse xs) ≡ count_by which xs
  count_reverse which [] = refl
  count_reverse which (x ∷ xs) =
      let one : A → ℕ = λ y. cond (which y) 1 0 in
      let turned : count_by which (reverse (x ∷ xs)) ≡ count_by which (reverse xs ++ x ∷ []) = ap (count_by which) (reverse-append (x ∷ []) xs) in
      let both : count_by which (reverse xs ++ x ∷ []) ≡ count_by which (reverse xs) + count_by which (x ∷ []) = sum_by-append one (reverse xs) (x ∷ []) in
      let first : count_by which (x ∷ []) ≡ one x + count_by which [] = sum_by-cons one x [] in
      let all : count_by which (x ∷ xs) ≡ one x + count_by which xs = sum_by-cons one x xs in
      let rest = count_reverse which xs in
      omega arith

  pub here : (x : A) (xs : List A) → Contains (x ∷ xs) x
  here x xs = Contains-append_left (x ∷ []) xs x (Contains-push [] x)

  pub there : (x y : A) (xs : List A) → Contains xs y → Contains (x ∷ xs) y
  there x y xs has = Contains-append_right (x ∷ []) xs y has

  -- ---- lists that got more at their front

  pub longer_none : (xs : List A) → Longer xs xs
  longer_none xs = record { more = []; longer = refl }

  pub longer_more : (old mid new : List A) → Longer old mid → Longer mid new → Longer old new
  longer_more old mid new p q = record {
    more = q.more ++ p.more;
    longer = q.longer ∙ ap (λ (l : List A). q.more ++ l) p.longer ∙ sym (append_assoc q.more p.more old);
  }

  pub longer_has : (old new : List A) → Longer old new → (x : A) → Contains old x → Contains new x
  longer_has old new g x has = subst (λ (l : List A). Contains l x) (sym g.longer) (Contains-append_right g.more old x has)

  pub gained_none : (xs : List A) → Gained [] xs xs
  gained_none xs = record { more = []; longer = refl; told_in_order = tt }

  pub gained_more : (a b old mid new : List A) → Gained a old mid → Gained b mid new → Gained (a ++ b) old new
  gained_more a b old mid new p q = record {
    more = q.more ++ p.more;
    longer = q.longer ∙ ap (λ (l : List A). q.more ++ l) p.longer ∙ sym (append_assoc q.more p.more old);
    told_in_order = subst (λ (l : List A). StandInOrder (a ++ b) l) (sym (reverse-append q.more p.more))
        (stand_both a b (reverse p.more) (reverse q.more) p.told_in_order q.told_in_order);
  }

  -- what holds of all that a list has holds of what is told, and of what it had
  pub gained_each : (P : A → Type 0) (told old new : List A) → Gained told old new → All P new → Each P told
  gained_each P told old new g all =
      let more = each_front P g.more old (each_of_all P (g.more ++ old) (subst (λ (l : List A). All P l) g.longer all)) in
      each_standing P told (reverse g.more) g.told_in_order (each_reverse P g.more more)

  pub gained_was : (P : A → Type 0) (told old new : List A) → Gained told old new → All P new → All P old
  gained_was P told old new g all = all_rest P g.more old (subst (λ (l : List A). All P l) g.longer all)

  -- what is told came as often
  pub gained_count : (which : A → Bool) (told old new : List A) → Gained told old new → count_by which told + count_by which old ≤ count_by which new
  gained_count which told old new g =
      let told_at_most = count_standing which told (reverse g.more) g.told_in_order in
      let same = count_reverse which g.more in
      let both : count_by which (g.more ++ old) ≡ count_by which g.more + count_by which old = sum_by-append (λ x. cond (which x) 1 0) g.more old in
      let all : count_by which new ≡ count_by which (g.more ++ old) = ap (count_by which) g.longer in
      omega arith

pub each_flat : {A B : Type 0} (P : B → Type 0) (f : A → List B) (xs : List A) → Each P (flat_map f xs) → Each (λ x. Each P (f x)) xs
each_flat P f [] p = tt
each_flat P f (x ∷ xs) p = (each_front P (f x) (flat_map f xs) p, each_flat P f xs (each_rest P (f x) (flat_map f xs) p))

pub each_into : {A B : Type 0} (P : B → Type 0) (f : A → List B) (xs : List A) → Each (λ x. Each P (f x)) xs → Each P (flat_map f xs)
each_into P f [] p = tt
each_into P f (x ∷ xs) p = each_append P (f x) (flat_map f xs) p.0 (each_into P f xs p.1)

-- ---- what entries tell

module _ {E A : Type 0} (tells : E → List A) where
  pub onto_append : (a b : List E) (older : List A) → onto tells (a ++ b) older ≡ onto tells b (onto tells a older)
  onto_append [] b older = refl
  onto_append (e ∷ a) b older = onto_append a b (tells e ++ older)

  pub flat_append : (a b : List E) → flat_map tells (a ++ b) ≡ flat_map tells a ++ flat_map tells b
  flat_append [] b = refl
  flat_append (e ∷ a) b = ap (λ (l : List A). tells e ++ l) (flat_append a b) ∙ sym (append_assoc (tells e) (flat_map tells a) (flat_map tells b))

-- ---- tests

pub and_both : (a b : Bool) → a ≡ true → b ≡ true → (a && b) ≡ true
and_both a b p q = ap (λ (c : Bool). c && b) p ∙ q

pub both_true : (a b : Bool) → (a && b) ≡ true → (a ≡ true) × (b ≡ true)
both_true true b is = (refl, is)
both_true false b is = absurd (true≢false (sym is))

pub or_right : (a b : Bool) → b ≡ true → (a || b) ≡ true
or_right true b is = refl
or_right false b is = is

-- a number that isn't above another, where they are of the same
pub not_ahead : (same : Bool) (m n : ℕ) → (same ≡ true → m ≤ n) → (not same || leb m n) ≡ true
not_ahead true m n low = le-leb m n (low refl)
not_ahead false m n low = refl

pub list_all_append : {A : Type 0} (p : A → Bool) (xs ys : List A) → list_all p xs ≡ true → list_all p ys ≡ true → list_all p (xs ++ ys) ≡ true
list_all_append p [] ys a b = b
list_all_append p (x ∷ xs) ys a b = let both = both_true (p x) (list_all p xs) a in and_both (p x) (list_all p (xs ++ ys)) both.0 (list_all_append p xs ys both.1 b)
