-- The waiting list by the inodes that wait: one more, one less, the first, and its order.
use Rattle.std.proofs.Common.{◌≡◌, ◌≢◌, ◌<◌, ◌≤◌, ◌⊎◌, ◌==◌, ℕ, zero, suc, Bool, true, false, true≢false, ltb, eqb, ◌||◌, ◌&&◌, List, [], ◌∷◌, sym, refl, ap, ap₂, ◌∙◌, subst, inl, inr, ⊎_elim, arith, lt_irrefl}
use Rattle.std.proofs.lemmas.Bool.Decides.{Decides-ltb, Decides-eqb, Decides-or, Decides-and, not_from_Decides, eqb_tells}
use Rattle.std.specs.Bool.{Decides}
use Rattle.wbt_expiry.specs.declared.due.Due.{Due}
use Rattle.wbt_expiry.specs.Waiting.{ComesBefore, comes_before, with_pair, has_inode, Each, AreInOrder, pair_of, waiting}

-- ---- the order of pairs

decides_before : (pair other : Due) → Decides (comes_before pair other) (ComesBefore pair other)
decides_before pair other = Decides-or (ltb pair.due other.due) ((pair.due == other.due) && ltb pair.inode other.inode) (Decides-ltb pair.due other.due)
    (Decides-and (pair.due == other.due) (ltb pair.inode other.inode) (Decides-eqb pair.due other.due) (Decides-ltb pair.inode other.inode))

before : (pair other : Due) → ComesBefore pair other → comes_before pair other ≡ true
before pair other is = (decides_before pair other).1 is

never_both : (pair other : Due) → ComesBefore pair other → ComesBefore other pair → other.due < other.due
never_both pair other (inl a) (inl b) = absurd (omega arith)
never_both pair other (inl a) (inr b) = absurd (omega arith)
never_both pair other (inr a) (inl b) = absurd (omega arith)
never_both pair other (inr a) (inr b) = absurd (omega arith)

not_after : (pair other : Due) → ComesBefore pair other → (b : Bool) → comes_before other pair ≡ b → comes_before other pair ≡ false
not_after pair other is true e = absurd (lt_irrefl other.due (never_both pair other is ((decides_before other pair).0 e)))
not_after pair other is false e = e

after : (pair other : Due) → ComesBefore pair other → comes_before other pair ≡ false
after pair other is = not_after pair other is (comes_before other pair) refl

both : (pair middle other : Due) → ComesBefore pair middle → ComesBefore middle other → ComesBefore pair other
both pair middle other (inl a) (inl b) = inl (omega arith)
both pair middle other (inl a) (inr b) = inl (omega arith)
both pair middle other (inr a) (inl b) = inl (omega arith)
both pair middle other (inr a) (inr b) = inr (omega arith, omega arith)

trichotomy : (m n : ℕ) → (m < n) ⊎ ((m ≡ n) ⊎ (n < m))
trichotomy m n = ⊎_elim
    (λ (e : (eqb m n ≡ true) × (m ≡ n)). inr (inl e.1))
    (λ (e : (eqb m n ≡ false) × (m ≢ n)). elim (ltb m n) as (λ b. ltb m n ≡ b → (m < n) ⊎ ((m ≡ n) ⊎ (n < m)))
    [ true ↦ λ t. inl ((Decides-ltb m n).0 t) | false ↦ λ t. let not : (m < n) → ⊥ = not_from_Decides (ltb m n) (Decides-ltb m n) t in let apart : m ≢ n = e.1 in inr (inr (omega arith)) ] refl)
    (eqb_tells m n)

by_inode : (a b : Due) → a.due ≡ b.due → a.inode ≢ b.inode → (a.inode < b.inode) ⊎ ((a.inode ≡ b.inode) ⊎ (b.inode < a.inode)) → ComesBefore a b ⊎ ComesBefore b a
by_inode a b at apart (inl less) = inl (inr (at, less))
by_inode a b at apart (inr (inl same)) = absurd (apart same)
by_inode a b at apart (inr (inr more)) = inr (inr (sym at, more))

by_moment : (a b : Due) → a.inode ≢ b.inode → (a.due < b.due) ⊎ ((a.due ≡ b.due) ⊎ (b.due < a.due)) → ComesBefore a b ⊎ ComesBefore b a
by_moment a b apart (inl less) = inl (inl less)
by_moment a b apart (inr (inl at)) = by_inode a b at apart (trichotomy a.inode b.inode)
by_moment a b apart (inr (inr more)) = inr (inl more)

-- ---- putting pairs into a list

first_put : (pair other : Due) (others : List Due) → comes_before pair other ≡ true → with_pair pair (other ∷ others) ≡ pair ∷ other ∷ others
unfolding with_pair
first_put pair other others is = rw (is, with_pair) refl

later_put : (pair other : Due) (others : List Due) → comes_before pair other ≡ false → with_pair pair (other ∷ others) ≡ other ∷ with_pair pair others
unfolding with_pair
later_put pair other others is = rw (is, with_pair) refl

swapped_at : (a b o : Due) (l : List Due) (ao bo : Bool) → ComesBefore a b → comes_before a o ≡ ao → comes_before b o ≡ bo → with_pair a (with_pair b l) ≡ with_pair b (with_pair a l)
    → with_pair a (with_pair b (o ∷ l)) ≡ with_pair b (with_pair a (o ∷ l))
swapped_at a b o l true true ab ao bo rest =
    rw (first_put b o l bo, first_put a o l ao, first_put a b (o ∷ l) (before a b ab), later_put b a (o ∷ l) (after a b ab), first_put b o l bo) refl
swapped_at a b o l false true ab ao bo rest =
    let is : ComesBefore a o = both a b o ab ((decides_before b o).0 bo) in absurd (true≢false (sym (before a o is) ∙ ao))
swapped_at a b o l true false ab ao bo rest =
    rw (later_put b o l bo, first_put a o l ao, first_put a o (with_pair b l) ao, later_put b a (o ∷ l) (after a b ab), later_put b o l bo) refl
swapped_at a b o l false false ab ao bo rest =
    rw (later_put b o l bo, later_put a o l ao, later_put a o (with_pair b l) ao, later_put b o (with_pair a l) bo) (ap (λ (k : List Due). o ∷ k) rest)

swapped_before : (a b : Due) (l : List Due) → ComesBefore a b → with_pair a (with_pair b l) ≡ with_pair b (with_pair a l)
unfolding with_pair
swapped_before a b [] ab = first_put a b [] (before a b ab) ∙ sym (later_put b a [] (after a b ab))
swapped_before a b (o ∷ l) ab = swapped_at a b o l (comes_before a o) (comes_before b o) ab refl refl (swapped_before a b l ab)

either_way : (a b : Due) → a.inode ≢ b.inode → ComesBefore a b ⊎ ComesBefore b a
either_way a b apart = by_moment a b apart (trichotomy a.due b.due)

-- Two inodes' pairs come into a list in either order.
swapped : (a b : Due) (l : List Due) → a.inode ≢ b.inode → with_pair a (with_pair b l) ≡ with_pair b (with_pair a l)
swapped a b l apart = ⊎_elim (λ (ab : ComesBefore a b). swapped_before a b l ab) (λ (ba : ComesBefore b a). sym (swapped_before b a l ba)) (either_way a b apart)

each_weaker : (P Q : Due → Type 0) → ((pair : Due) → P pair → Q pair) → (pairs : List Due) → Each P pairs → Each Q pairs
each_weaker P Q weaker [] all = tt
each_weaker P Q weaker (pair ∷ pairs) all = (weaker pair all.0, each_weaker P Q weaker pairs all.1)

-- What holds of a pair and of each of a list holds of the list with the pair.
pub each_put : (P : Due → Type 0) (pair : Due) (pairs : List Due) → P pair → Each P pairs → Each P (with_pair pair pairs)
unfolding with_pair
each_put P pair [] here all = (here, tt)
each_put P pair (o ∷ l) here all = elim (comes_before pair o) as (λ b. comes_before pair o ≡ b → Each P (with_pair pair (o ∷ l))) [
  | true ↦ λ e. subst (Each P) (sym (first_put pair o l e)) (here, (all.0, all.1))
  | false ↦ λ e. subst (Each P) (sym (later_put pair o l e)) (all.0, each_put P pair l here all.1)
] refl

-- The pair that comes before all of the list stands first.
pub first_of_all : (pair : Due) (pairs : List Due) → Each (ComesBefore pair) pairs → with_pair pair pairs ≡ pair ∷ pairs
unfolding with_pair
first_of_all pair [] all = refl
first_of_all pair (o ∷ l) all = first_put pair o l (before pair o all.0)

or_swapped : (a b c : Bool) → (a || (b || c)) ≡ (b || (a || c))
or_swapped true true c = refl
or_swapped true false c = refl
or_swapped false b c = refl

-- A pair more is one inode more.
pub has_put : (inode : ℕ) (pair : Due) (pairs : List Due) → has_inode inode (with_pair pair pairs) ≡ ((pair.inode == inode) || has_inode inode pairs)
unfolding with_pair has_inode
has_put inode pair [] = refl
has_put inode pair (o ∷ l) = elim (comes_before pair o) as (λ b. comes_before pair o ≡ b → has_inode inode (with_pair pair (o ∷ l)) ≡ ((pair.inode == inode) || has_inode inode (o ∷ l))) [
  | true ↦ λ e. ap (has_inode inode) (first_put pair o l e)
  | false ↦ λ e. ap (has_inode inode) (later_put pair o l e) ∙ ap (λ (b : Bool). (o.inode == inode) || b) (has_put inode pair l) ∙ or_swapped (o.inode == inode) (pair.inode == inode) (has_inode inode l)
] refl

not_equal : (m n : ℕ) → m < n → (m == n) ≡ false
not_equal m n less = ⊎_elim (λ (e : (eqb m n ≡ true) × (m ≡ n)). let same : m ≡ n = e.1 in absurd (omega arith)) (λ (e : (eqb m n ≡ false) × (m ≢ n)). e.0) (eqb_tells m n)

each_both : (P Q : Due → Type 0) (pairs : List Due) → Each P pairs → Each Q pairs → Each (λ pair. P pair × Q pair) pairs
each_both P Q [] all every = tt
each_both P Q (pair ∷ pairs) all every = ((all.0, every.0), each_both P Q pairs all.1 every.1)

-- An inode's pair comes into a list where it belongs.
order_put : (pair : Due) (pairs : List Due) → Each (λ other. pair.inode ≢ other.inode) pairs → AreInOrder pairs → AreInOrder (with_pair pair pairs)
unfolding with_pair AreInOrder
order_put pair [] apart order = (tt, tt)
order_put pair (o ∷ l) apart order = elim (comes_before pair o) as (λ b. comes_before pair o ≡ b → AreInOrder (with_pair pair (o ∷ l))) [
  | true ↦ λ e.
      let is : ComesBefore pair o = (decides_before pair o).0 e in
      let behind : Each (ComesBefore pair) l = each_weaker (λ other. ComesBefore o other × (o.inode ≢ other.inode)) (ComesBefore pair) (λ other is'. both pair o other is is'.0) l order.0 in
      subst AreInOrder (sym (first_put pair o l e)) (((is, apart.0), each_both (ComesBefore pair) (λ other. pair.inode ≢ other.inode) l behind apart.1), order)
  | false ↦ λ e.
      let is : ComesBefore o pair = ⊎_elim (λ (wrong : ComesBefore pair o). absurd (true≢false (sym (before pair o wrong) ∙ e))) (λ (right : ComesBefore o pair). right) (either_way pair o apart.0) in
      subst AreInOrder (sym (later_put pair o l e)) (each_put (λ other. ComesBefore o other × (o.inode ≢ other.inode)) pair l (is, λ same. apart.0 (sym same)) order.0, order_put pair l apart.1 order.1)
] refl

-- ---- the list of the inodes that wait

module _ (due : ℕ → ℕ) (is_in : ℕ → Bool) where
  pub waits_one : (n : ℕ) → is_in n ≡ true → waiting due is_in (suc n) ≡ with_pair (pair_of due n) (waiting due is_in n)
  unfolding waiting
  waits_one n is = rw (is, waiting) refl

  pub waits_none : (n : ℕ) → is_in n ≡ false → waiting due is_in (suc n) ≡ waiting due is_in n
  unfolding waiting
  waits_none n is = rw (is, waiting) refl

  -- What holds of the pair of each inode that waits holds of each pair of the list.
  pub each_waiting : (P : Due → Type 0) (n : ℕ) → ((i : ℕ) → i < n → is_in i ≡ true → P (pair_of due i)) → Each P (waiting due is_in n)
  unfolding waiting
  each_waiting P zero all = tt
  each_waiting P (suc n) all = elim (is_in n) as (λ b. is_in n ≡ b → Each P (waiting due is_in (suc n))) [
    | true ↦ λ e. subst (Each P) (sym (waits_one n e)) (each_put P (pair_of due n) (waiting due is_in n) (all n (omega arith) e) (each_waiting P n (λ i low. all i (omega arith))))
    | false ↦ λ e. subst (Each P) (sym (waits_none n e)) (each_waiting P n (λ i low. all i (omega arith)))
  ] refl

  absent : (x n : ℕ) → n ≤ x → has_inode x (waiting due is_in n) ≡ false
  unfolding waiting has_inode
  absent x zero low = refl
  absent x (suc n) low = elim (is_in n) as (λ b. is_in n ≡ b → has_inode x (waiting due is_in (suc n)) ≡ false) [
    | true ↦ λ e. ap (has_inode x) (waits_one n e) ∙ has_put x (pair_of due n) (waiting due is_in n) ∙ ap₂ (λ (b c : Bool). b || c) (not_equal n x (omega arith)) (absent x n (omega arith))
    | false ↦ λ e. ap (has_inode x) (waits_none n e) ∙ absent x n (omega arith)
  ] refl

  -- The list has an inode where it waits.
  pub has_waiting : (x n : ℕ) → x < n → has_inode x (waiting due is_in n) ≡ is_in x
  has_waiting x zero low = absurd (omega arith)
  has_waiting x (suc n) low = ⊎_elim
      (λ (f : (eqb n x ≡ true) × (n ≡ x)). elim (is_in n) as (λ b. is_in n ≡ b → has_inode x (waiting due is_in (suc n)) ≡ is_in x) [
        | true ↦ λ e. ap (has_inode x) (waits_one n e) ∙ has_put x (pair_of due n) (waiting due is_in n) ∙ ap (λ (b : Bool). b || has_inode x (waiting due is_in n)) f.0 ∙ sym e ∙ ap is_in f.1
        | false ↦ λ e. ap (has_inode x) (waits_none n e) ∙ absent x n (let same : n ≡ x = f.1 in omega arith) ∙ sym e ∙ ap is_in f.1
      ] refl)
      (λ (f : (eqb n x ≡ false) × (n ≢ x)). let rest = has_waiting x n (let apart : n ≢ x = f.1 in omega arith) in elim (is_in n) as (λ b. is_in n ≡ b → has_inode x (waiting due is_in (suc n)) ≡ is_in x) [
        | true ↦ λ e. ap (has_inode x) (waits_one n e) ∙ has_put x (pair_of due n) (waiting due is_in n) ∙ ap (λ (b : Bool). b || has_inode x (waiting due is_in n)) f.0 ∙ rest
        | false ↦ λ e. ap (has_inode x) (waits_none n e) ∙ rest
      ] refl)
      (eqb_tells n x)

  -- The list is in order.
  pub in_order : (n : ℕ) → AreInOrder (waiting due is_in n)
  unfolding waiting AreInOrder
  in_order zero = tt
  in_order (suc n) = elim (is_in n) as (λ b. is_in n ≡ b → AreInOrder (waiting due is_in (suc n))) [
    | true ↦ λ e. subst AreInOrder (sym (waits_one n e)) (order_put (pair_of due n) (waiting due is_in n) (each_waiting (λ other. n ≢ other.inode) n (λ i low is. omega arith)) (in_order n))
    | false ↦ λ e. subst AreInOrder (sym (waits_none n e)) (in_order n)
  ] refl

module _ (due due' : ℕ → ℕ) (is_in is_in' : ℕ → Bool) where
  -- The list stays where the same inodes wait for the same moments.
  pub same_waiting : (n : ℕ) → ((i : ℕ) → i < n → is_in' i ≡ is_in i) → ((i : ℕ) → i < n → is_in i ≡ true → due' i ≡ due i) → waiting due' is_in' n ≡ waiting due is_in n
  unfolding waiting
  same_waiting zero same at = refl
  same_waiting (suc n) same at =
      let rest = same_waiting n (λ i low. same i (omega arith)) (λ i low. at i (omega arith)) in
      elim (is_in n) as (λ b. is_in n ≡ b → waiting due' is_in' (suc n) ≡ waiting due is_in (suc n)) [
        | true ↦ λ e. waits_one due' is_in' n (same n (omega arith) ∙ e) ∙ ap₂ with_pair (ap (λ (d : ℕ). pair_of (λ _. d) n) (at n (omega arith) e)) rest ∙ sym (waits_one due is_in n e)
        | false ↦ λ e. waits_none due' is_in' n (same n (omega arith) ∙ e) ∙ rest ∙ sym (waits_none due is_in n e)
      ] refl

  -- One inode more waits.
  pub more_waits : (x n : ℕ) → x < n → is_in x ≡ false → is_in' x ≡ true → ((i : ℕ) → i ≢ x → is_in' i ≡ is_in i) → ((i : ℕ) → i ≢ x → is_in i ≡ true → due' i ≡ due i)
      → waiting due' is_in' n ≡ with_pair (pair_of due' x) (waiting due is_in n)
  more_waits x zero low out is same at = absurd (omega arith)
  more_waits x (suc n) low out is same at = ⊎_elim
      (λ (e : (eqb n x ≡ true) × (n ≡ x)).
      let here : n ≡ x = e.1 in
      let rest : waiting due' is_in' n ≡ waiting due is_in n = same_waiting n (λ i less. same i (omega arith)) (λ i less. at i (omega arith)) in
      waits_one due' is_in' n (ap is_in' e.1 ∙ is) ∙ ap₂ with_pair (ap (pair_of due') e.1) (rest ∙ sym (waits_none due is_in n (ap is_in e.1 ∙ out))))
      (λ (e : (eqb n x ≡ false) × (n ≢ x)).
      let rest = more_waits x n (let apart : n ≢ x = e.1 in omega arith) out is same at in
      elim (is_in n) as (λ b. is_in n ≡ b → waiting due' is_in' (suc n) ≡ with_pair (pair_of due' x) (waiting due is_in (suc n))) [
        | true ↦ λ f. waits_one due' is_in' n (same n e.1 ∙ f) ∙ ap₂ with_pair (ap (λ (d : ℕ). pair_of (λ _. d) n) (at n e.1 f)) rest
            ∙ swapped (pair_of due n) (pair_of due' x) (waiting due is_in n) e.1 ∙ ap (with_pair (pair_of due' x)) (sym (waits_one due is_in n f))
        | false ↦ λ f. waits_none due' is_in' n (same n e.1 ∙ f) ∙ rest ∙ ap (with_pair (pair_of due' x)) (sym (waits_none due is_in n f))
      ] refl)
      (eqb_tells n x)
