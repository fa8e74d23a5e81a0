-- Lists whose items are changed by their number.
use Rattle.std.proofs.Common.{◌≡◌, ◌≢◌, ℕ, zero, suc, ◌+◌, ◌<◌, ◌≤◌, false, Option, Some, None, List, [], ◌∷◌, ◌++◌, length, map, take, drop, get_or, All, refl, sym, ap, subst, ◌∙◌, arith, append_assoc, append-nil}
use Rattle.std.proofs.Math.ListN.{set}
use Rattle.std.proofs.lemmas.List.{take_more_set, drop-set-lt, drop_more, take_all, drop_all}
use Rattle.std.proofs.lemmas.List.Elements.{All-head, All-tail, All-cons}
use Rattle.std.proofs.lemmas.Bool.Decides.{nat_tests}
use Rattle.wbt_replay_order.proofs.Common.{numbers, is_some_of}
use Rattle.wbt_forecast_rows.specs.Tally.{by_number}

pub length-by_number : {A B : Type 0} (f : ℕ → A → B) (n : ℕ) (xs : List A) → length (by_number f n xs) ≡ length xs
length-by_number f n [] = refl
length-by_number f n (x ∷ xs) = let rest = length-by_number f (n + 1) xs in omega (arith, rest)

-- ---- one change after another, and changes that are the same

pub same_by_number : {A B : Type 0} (f g : ℕ → A → B) (n : ℕ) (xs : List A) → ((i : ℕ) (x : A) → f i x ≡ g i x) → by_number f n xs ≡ by_number g n xs
same_by_number f g n [] same = refl
same_by_number f g n (x ∷ xs) same =
    ap (λ y. y ∷ by_number f (n + 1) xs) (same n x) ∙ ap (λ rest. g n x ∷ rest) (same_by_number f g (n + 1) xs same)

pub twice_by_number : {A B C : Type 0} (f : ℕ → A → B) (g : ℕ → B → C) (n : ℕ) (xs : List A)
    → by_number g n (by_number f n xs) ≡ by_number (λ i x. g i (f i x)) n xs
twice_by_number f g n [] = refl
twice_by_number f g n (x ∷ xs) = ap (λ rest. g n (f n x) ∷ rest) (twice_by_number f g (n + 1) xs)

-- a list of the numbers' values
pub of_numbers : {A B : Type 0} (f : ℕ → A) (g : ℕ → A → B) (n count : ℕ)
    → by_number g n (map f (numbers n count)) ≡ map (λ i. g i (f i)) (numbers n count)
of_numbers f g n zero = refl
of_numbers f g n (suc count) = ap (λ rest. g n (f n) ∷ rest) (of_numbers f g (n + 1) count)

pub same_numbers : {A : Type 0} (f g : ℕ → A) (n count : ℕ) → ((i : ℕ) → n ≤ i → i < n + count → f i ≡ g i)
    → map f (numbers n count) ≡ map g (numbers n count)
same_numbers f g n zero same = refl
same_numbers f g n (suc count) same =
    ap (λ y. y ∷ map f (numbers (n + 1) count)) (same n (omega arith) (omega arith))
    ∙ ap (λ rest. g n ∷ rest) (same_numbers f g (n + 1) count (λ i low high. same i (omega (arith, low)) (omega (arith, high))))

-- ---- what holds of each item

pub all_by_number : {A B : Type 0} (P : A → Type 0) (Q : B → Type 0) (f : ℕ → A → B) (n : ℕ) (xs : List A)
    → ((i : ℕ) (x : A) → P x → Q (f i x)) → All P xs → All Q (by_number f n xs)
all_by_number P Q f n [] keeps all = λ k d less. absurd (omega (arith, less))
all_by_number P Q f n (x ∷ xs) keeps all =
    All-cons Q (f n x) (by_number f (n + 1) xs) (keeps n x (All-head P x xs all)) (all_by_number P Q f (n + 1) xs keeps (All-tail P x xs all))

pub all_more : {A : Type 0} (P Q : A → Type 0) (xs : List A) → ((x : A) → P x → Q x) → All P xs → All Q xs
all_more P Q xs more all = λ k d less. more _ (all k d less)

-- ---- changes of one item, or of none

pub none_by_number : {A : Type 0} (f : ℕ → A → A) (n : ℕ) (xs : List A) → ((i : ℕ) (x : A) → n ≤ i → i < n + length xs → f i x ≡ x) → by_number f n xs ≡ xs
none_by_number f n [] none = refl
none_by_number f n (x ∷ xs) none =
    ap (λ y. y ∷ by_number f (n + 1) xs) (none n x (omega arith) (omega arith))
    ∙ ap (λ rest. x ∷ rest) (none_by_number f (n + 1) xs (λ i y low high. none i y (omega (arith, low)) (omega (arith, high))))

pub one_by_number : {A : Type 0} (f : ℕ → A → A) (n : ℕ) (xs : List A) (i : ℕ) (d : A) → i < length xs → ((j : ℕ) (x : A) → j ≢ n + i → f j x ≡ x)
    → by_number f n xs ≡ set xs i (f (n + i) (get_or xs i d))
one_by_number f n [] i d less others = absurd (omega arith)
one_by_number f n (x ∷ xs) zero d less others =
    let at : n ≡ n + 0 = omega arith in
    ap (λ k. f k x ∷ by_number f (n + 1) xs) at
    ∙ ap (λ rest. f (n + 0) x ∷ rest) (none_by_number f (n + 1) xs (λ j y low high. others j y (λ is. omega (arith, low, is))))
one_by_number f n (x ∷ xs) (suc i) d less others =
    let at : n + 1 + i ≡ n + suc i = omega arith in
    let rest = one_by_number f (n + 1) xs i d (omega arith) (λ j y other. others j y (λ is. other (is ∙ sym at))) in
    ap (λ y. y ∷ by_number f (n + 1) xs) (others n x (λ is. omega (arith, is)))
    ∙ ap (λ more. x ∷ more) rest
    ∙ ap (λ k. x ∷ set xs i (f k (get_or xs i d))) at

other_number : (k j : ℕ) → (k ≡ j → ⊥) → is_some_of j (Some k) ≡ false
other_number k j other = grind (arith, nat_tests, other)

-- the item of a number that may be there
module _ {A : Type 0} (f : ℕ → A → A) (xs : List A) (which : Option ℕ) (others : (j : ℕ) (x : A) → is_some_of j which ≡ false → f j x ≡ x) where
  pub at_none : which ≡ None → by_number f 0 xs ≡ xs
  at_none is = none_by_number f 0 xs (λ j x low high. others j x (ap (is_some_of j) is))

  pub at_past : (k : ℕ) → which ≡ Some k → length xs ≤ k → by_number f 0 xs ≡ xs
  at_past k is past = none_by_number f 0 xs (λ j x low high. others j x (ap (is_some_of j) is ∙ other_number k j (λ same. omega (arith, same, high))))

  pub at_some : (k : ℕ) (d : A) → which ≡ Some k → k < length xs → by_number f 0 xs ≡ set xs k (f k (get_or xs k d))
  at_some k d is less =
      let at : 0 + k ≡ k = omega arith in
      one_by_number f 0 xs k d less (λ j x other. others j x (ap (is_some_of j) is ∙ other_number k j (λ same. other (sym (at ∙ same)))))
      ∙ ap (λ i. set xs k (f i (get_or xs k d))) at

-- ---- a loop over a list's places

pub written : {A : Type 0} (f : ℕ → A → A) (xs : List A) (i : ℕ) (x d : A) → i < length xs → x ≡ f i (get_or xs i d)
    → take (i + 1) (set xs i x) ++ by_number f (i + 1) (drop (i + 1) (set xs i x)) ≡ take i xs ++ by_number f i (drop i xs)
written f xs i x d less is =
    ap (λ front. front ++ by_number f (i + 1) (drop (i + 1) (set xs i x))) (take_more_set xs i x less)
    ∙ ap (λ back. take i xs ++ x ∷ [] ++ by_number f (i + 1) back) (drop-set-lt (i + 1) xs i x (omega arith))
    ∙ append_assoc (take i xs) (x ∷ []) (by_number f (i + 1) (drop (i + 1) xs))
    ∙ ap (λ y. take i xs ++ y ∷ by_number f (i + 1) (drop (i + 1) xs)) is
    ∙ ap (λ back. take i xs ++ by_number f i back) (sym (drop_more xs i d less))

pub all_written : {A : Type 0} (f : ℕ → A → A) (xs ys : List A) (i : ℕ) → length xs ≤ i → take i xs ++ by_number f i (drop i xs) ≡ ys → xs ≡ ys
all_written f xs ys i past is =
    sym (take_all i xs past) ∙ sym (append-nil (take i xs)) ∙ ap (λ back. take i xs ++ by_number f i back) (sym (drop_all i xs past)) ∙ is

pub all_at : {A : Type 0} (P : A → Type 0) (xs : List A) (i : ℕ) (d : A) → i < length xs → All P (drop i xs) → P (get_or xs i d)
all_at P xs i d less all = All-head P (get_or xs i d) (drop (i + 1) xs) (subst (All P) (drop_more xs i d less) all)

pub all_after : {A : Type 0} (P : A → Type 0) (xs : List A) (i : ℕ) (x d : A) → i < length xs → All P (drop i xs) → All P (drop (i + 1) (set xs i x))
all_after P xs i x d less all =
    subst (All P) (sym (drop-set-lt (i + 1) xs i x (omega arith))) (All-tail P (get_or xs i d) (drop (i + 1) xs) (subst (All P) (drop_more xs i d less) all))
