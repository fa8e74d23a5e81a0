-- Lists by first numbers and links: who stands where, and what holds after a number came into a list or out of it.
use Rattle.std.proofs.Common.{◌≡◌, ◌≢◌, ◌<◌, ◌≤◌, ◌==◌, ℕ, suc, cond, eqb, List, [], ◌∷◌, length, get_or, set, replicate, arith, refl, inl, inr, ap, sym, subst, ◌∙◌}
use Rattle.std.proofs.lemmas.Bool.{cases_eq, cases_lt, ne_eqb, eq-eqb}
use Rattle.std.proofs.lemmas.List.{length-set, get_or-set_same, get_or-set_other, get_or_past, get_or_read, set-get_or, length-replicate, get_or-replicate}
use Rattle.wbt_expiry.specs.Lists.{home, no_list, IsEmpty}
use Rattle.wbt_expiry.specs.Paths.{next_of, IsPath, path_of, Ends, times_in, AreSound}
use Rattle.wbt_expiry.proofs.Times.{times_here, times_other, times_none, is_short, without, without_itself, without_other}
use Rattle.wbt_expiry.proofs.Paths.{on_path, path_is, path_stays, path_without, IsLinkedOut, ends_on, first_stands, begins, at_most_none}

-- how often a number stands where it may stand once

abbrev counted : (a b : ℕ) → ℕ
counted a b = cond (a == b) 1 0

same_counts : (a b : ℕ) → a ≡ b → counted a b ≡ 1
same_counts a b same = rw (eq-eqb a b same) refl

other_counts : (a b : ℕ) → (a ≡ b → ⊥) → counted a b ≡ 0
other_counts a b differ = rw (ne_eqb a b differ) refl

counts_same : (a b : ℕ) → 1 ≤ counted a b → a ≡ b
counts_same a b stands = elim (cases_eq a b) [
  | inl same ↦ same
  | inr differ ↦ absurd (omega (arith, stands, other_counts a b differ))
]

counts_once : (a b : ℕ) → counted a b ≤ 1
counts_once a b = elim (cases_eq a b) [
  | inl same ↦ omega (arith, same_counts a b same)
  | inr differ ↦ omega (arith, other_counts a b differ)
]

-- The links lead along these lists, and in each stand just the numbers whose home it is, each once.
record Holds (firsts nexts homes : List ℕ) (lists : ℕ → List ℕ) : Type 0 where
  count : length firsts ≡ no_list
  long : length homes ≡ length nexts
  paths : (list : ℕ) → list < length firsts → IsPath nexts (get_or firsts list 0) (lists list)
  once : (list number : ℕ) → list < length firsts → number < length nexts → times_in number (lists list) ≡ cond (home homes number == list) 1 0

-- lists that are held are those that the links tell
are_sound : (firsts nexts homes : List ℕ) (lists : ℕ → List ℕ) → Holds firsts nexts homes lists → AreSound firsts nexts homes
are_sound firsts nexts homes lists holds = record {
  count = holds.count;
  long = holds.long;
  ends = λ list within. rw (told list within) (holds.paths list within);
  once = λ list number within inside. rw (told list within) (holds.once list number within inside);
}
  where
    once : (list number : ℕ) → list < length firsts → times_in number (lists list) ≤ 1
    once list number within = elim (cases_lt 0 (times_in number (lists list))) [
      | inl some ↦
          let inside : number < length nexts = on_path nexts (get_or firsts list 0) (lists list) number (holds.paths list within) some in
          omega (arith, holds.once list number within inside, counts_once (home homes number) list)
      | inr none ↦ omega arith
    ]

    told : (list : ℕ) → list < length firsts → path_of nexts (get_or firsts list 0) ≡ lists list
    told list within = path_is nexts (length nexts) (get_or firsts list 0) (lists list)
        (is_short (length nexts) (lists list) (λ number. once list number within)
        (λ number stands. on_path nexts (get_or firsts list 0) (lists list) number (holds.paths list within) stands))
        (holds.paths list within)

-- lists without numbers
pub none_is_in : (n : ℕ) → AreSound (replicate no_list n) (replicate n n) (replicate n no_list)
unfolding IsPath
none_is_in n = are_sound (replicate no_list n) (replicate n n) (replicate n no_list) (λ list. []) record {
  count = length-replicate no_list n;
  long = omega (arith, length-replicate n n, length-replicate n no_list);
  paths = λ list within. omega (arith, length-replicate n n, get_or-replicate no_list list n 0 (omega (arith, within, length-replicate no_list n)));
  once = λ list number within inside. times_none number ∙ sym (other_counts (home (replicate n no_list) number) list
      (λ same. omega (
        arith,
        within,
        length-replicate no_list n,
        same,
        get_or-replicate n number no_list no_list (omega (arith, inside, length-replicate n n)),
      )));
}

-- one of the lists, in place of another

with_list : (k : ℕ) (list : List ℕ) (lists : ℕ → List ℕ) (i : ℕ) → List ℕ
with_list k list lists i = cond (eqb i k) list (lists i)

with_list_same : (k : ℕ) (list : List ℕ) (lists : ℕ → List ℕ) (i : ℕ) → i ≡ k → with_list k list lists i ≡ list
unfolding with_list
with_list_same k list lists i same = rw (eq-eqb i k same) refl

with_list_other : (k : ℕ) (list : List ℕ) (lists : ℕ → List ℕ) (i : ℕ) → (i ≡ k → ⊥) → with_list k list lists i ≡ lists i
unfolding with_list
with_list_other k list lists i differ = rw (ne_eqb i k differ) refl

module _ (firsts nexts homes : List ℕ) (sound : AreSound firsts nexts homes) where
  -- the numbers of a list, as the links tell them
  abbrev pub list_of_links : (list : ℕ) → List ℕ
  list_of_links list = path_of nexts (get_or firsts list 0)

  -- a number that stands in a list is one of those that have a link
  pub stands_below : (list number : ℕ) → list < no_list → 1 ≤ times_in number (list_of_links list) → number < length nexts
  stands_below list number within stands =
      on_path nexts (get_or firsts list 0) (list_of_links list) number (sound.ends list (omega (arith, within, sound.count))) stands

  -- and is at home there
  pub stands_at_home : (list number : ℕ) → list < no_list → 1 ≤ times_in number (list_of_links list) → home homes number ≡ list
  stands_at_home list number within stands =
      counts_same (home homes number) list
      (omega (arith, stands, sound.once list number (omega (arith, within, sound.count)) (stands_below list number within stands)))

  -- a number whose home is a list is one of those that have a link
  pub home_below : (number : ℕ) → home homes number < no_list → number < length nexts
  home_below number within = elim (cases_lt number (length nexts)) [
    | inl below ↦ below
    | inr past ↦ absurd (omega (arith, get_or_past homes number no_list (omega (arith, past, sound.long))))
  ]

  -- it stands there once
  pub stands_once : (list number : ℕ) → list < no_list → home homes number ≡ list → times_in number (list_of_links list) ≡ 1
  stands_once list number within at_home =
      sound.once list number (omega (arith, sound.count)) (home_below number (omega arith)) ∙ same_counts (home homes number) list at_home

  at_most_once : (list number : ℕ) → list < no_list → times_in number (list_of_links list) ≤ 1
  at_most_once list number within = elim (cases_lt 0 (times_in number (list_of_links list))) [
    | inl some ↦ omega (arith, stands_once list number within (stands_at_home list number within some))
    | inr none ↦ omega arith
  ]

  -- the first number of a list, as it is read
  pub first_read : (list first : ℕ) → list < no_list → first ≡ get_or firsts list first → first ≡ get_or firsts list 0
  first_read list first within read = get_or_read firsts list first (omega (arith, within, sound.count)) read 0

  -- the path of a list, and that it ends, where the links are lent

  pub path_lent :
      (lent : List ℕ) (list first : ℕ) → lent ≡ nexts → list < no_list → first ≡ get_or firsts list first
      → path_of lent first ≡ list_of_links list
  path_lent lent list first same within read =
      ap (λ (links : List ℕ). path_of links first) same ∙ ap (λ (at : ℕ). path_of nexts at) (first_read list first within read)

  pub ends_lent : (lent : List ℕ) (list first : ℕ) → lent ≡ nexts → list < no_list → first ≡ get_or firsts list first → Ends lent first
  ends_lent lent list first same within read =
      rw (same, first_read list first within read) (sound.ends list (omega (arith, within, sound.count)))

  -- where it isn't none, it is one of those that have a link
  pub first_below : (list first : ℕ) → list < no_list → first ≡ get_or firsts list first → first ≢ length nexts → first < length nexts
  first_below list first within read some =
      omega (arith, some, first_read list first within read, at_most_none nexts (get_or firsts list 0) (sound.ends list (omega (arith, within, sound.count))))

  -- and is at home there
  pub first_at_home : (list first : ℕ) → list < no_list → first ≡ get_or firsts list first → first ≢ length nexts → home homes first ≡ list
  first_at_home list first within read some =
      let is : first ≡ get_or firsts list 0 = first_read list first within read in
      let below : get_or firsts list 0 < length nexts = omega (arith, is, first_below list first within read some) in
      rw is (stands_at_home list (get_or firsts list 0) within
      (first_stands nexts (get_or firsts list 0) (sound.ends list (omega (arith, within, sound.count))) below))

  -- a list without a first number is empty
  pub is_empty : (list first : ℕ) → list < no_list → first ≡ get_or firsts list first → first ≡ length nexts → IsEmpty homes list
  is_empty list first within read none = λ number at_home.
      omega (
        arith,
        none,
        first_read list first within read,
        begins nexts (get_or firsts list 0) number (omega (arith, stands_once list number within at_home)),
      )

  -- one number changes its home between one list and none, and one list changes with it
  module _ (k : ℕ) (within : k < no_list) where
    rehomed :
        (new : List ℕ) (at number to : ℕ) (list : List ℕ)
        → length new ≡ length nexts → number < length nexts → IsPath new at list
        → times_in number list ≡ cond (to == k) 1 0
        → ((x : ℕ) → (x ≡ number → ⊥) → times_in x list ≡ times_in x (list_of_links k))
        → ((i : ℕ) → i < no_list → (i ≡ k → ⊥) → (home homes number ≡ i → ⊥) × (to ≡ i → ⊥))
        → ((x : ℕ) → (home homes x ≡ k → ⊥) → (x ≡ number → ⊥) → next_of new x ≡ next_of nexts x)
        → AreSound (set firsts k at) new (set homes number to)
    rehomed new at number to list long below leads counted others elsewhere stay =
        are_sound (set firsts k at) new (set homes number to) (with_list k list list_of_links) record {
          count = omega (arith, length-set firsts k at, sound.count);
          long = omega (arith, length-set homes number to, sound.long);
          paths = λ i inside. paths i (omega (arith, length-set firsts k at, sound.count, inside));
          once = λ i x inside low. once i x (omega (arith, length-set firsts k at, sound.count, inside)) (omega (arith, low, long));
        }
      where
        paths : (i : ℕ) → i < no_list → IsPath new (get_or (set firsts k at) i 0) (with_list k list list_of_links i)
        paths i inside = elim (cases_eq i k) [
          | inl same ↦ rw (with_list_same k list list_of_links i same, same, get_or-set_same firsts k at 0 (omega (arith, within, sound.count))) leads
          | inr differ ↦ rw (with_list_other k list list_of_links i differ, get_or-set_other firsts k i at 0 differ)
              (path_stays nexts new (get_or firsts i 0) (list_of_links i) long
              (λ x stands. stay x
              (λ at_k. differ (omega (arith, stands_at_home i x inside stands, at_k)))
              (λ same. (elsewhere i inside differ).0 (rw same at (stands_at_home i x inside stands))))
              (sound.ends i (omega (arith, inside, sound.count))))
        ]

        once : (i x : ℕ) → i < no_list → x < length nexts → times_in x (with_list k list list_of_links i) ≡ cond (home (set homes number to) x == i) 1 0
        once i x inside low = elim (cases_eq i k) [
          | inl same ↦ rw (with_list_same k list list_of_links i same, same) (elim (cases_eq x number) [
            | inl here ↦ rw (here, get_or-set_same homes number to no_list (omega (arith, below, sound.long))) counted
            | inr there ↦ rw (get_or-set_other homes number x to no_list there)
                (others x there ∙ sound.once k x (omega (arith, within, sound.count)) low)
          ])
          | inr differ ↦ rw (with_list_other k list list_of_links i differ) (elim (cases_eq x number) [
            | inl here ↦ rw (here, get_or-set_same homes number to no_list (omega (arith, below, sound.long)))
                (sound.once i number (omega (arith, inside, sound.count)) below
                ∙ other_counts (home homes number) i (elsewhere i inside differ).0
                ∙ sym (other_counts to i (elsewhere i inside differ).1))
            | inr there ↦ rw (get_or-set_other homes number x to no_list there) (sound.once i x (omega (arith, inside, sound.count)) low)
          ])
        ]

    -- a number that was in no list stands before all others of one
    pub number_put :
        (number at : ℕ) → number < length nexts → no_list ≤ home homes number → at ≡ get_or firsts k 0
        → AreSound (set firsts k number) (set nexts number at) (set homes number k)
    unfolding IsPath
    number_put number at below out is =
        rehomed new number number k (number ∷ list_of_links k) long below
        (refl, omega (arith, below, long), subst (λ (to : ℕ). IsPath new to (list_of_links k)) (sym (leads_to ∙ is)) rest)
        (times_here number number (list_of_links k) refl ∙ ap (λ (n : ℕ). suc n) gone ∙ sym (same_counts k k refl))
        (λ x differ. times_other x number (list_of_links k) differ)
        (λ i inside differ. (λ same. omega (arith, out, same, inside), λ same. differ (sym same)))
        (λ x away differ. get_or-set_other nexts number x at 0 differ)
      where
        new : List ℕ
        new = set nexts number at

        long : length new ≡ length nexts
        long = length-set nexts number at

        leads_to : next_of new number ≡ at
        leads_to = get_or-set_same nexts number at 0 below

        gone : times_in number (list_of_links k) ≡ 0
        gone = sound.once k number (omega (arith, within, sound.count)) below ∙ other_counts (home homes number) k (λ same. omega (arith, out, same, within))

        rest : IsPath new (get_or firsts k 0) (list_of_links k)
        rest = path_stays nexts new (get_or firsts k 0) (list_of_links k) long
            (λ x stands. get_or-set_other nexts number x at 0 (λ same. omega (arith, gone, rw same at stands)))
            (sound.ends k (omega (arith, within, sound.count)))

    elsewhere_than : (number : ℕ) → home homes number ≡ k → (i : ℕ) → i < no_list → (i ≡ k → ⊥) → (home homes number ≡ i → ⊥) × (no_list ≡ i → ⊥)
    elsewhere_than number at_home i inside differ = (λ same. differ (omega (arith, at_home, same)), λ same. omega (arith, same, inside))

    -- the first number of a list is taken out
    pub first_taken :
        (number next : ℕ) → number ≡ get_or firsts k 0 → number < length nexts → next ≡ next_of nexts number
        → AreSound (set firsts k next) nexts (set homes number no_list)
    first_taken number next is below to =
        rehomed nexts next number no_list (path_of nexts next) refl below
        (rw to goes.1)
        (rw to (omega (arith, once, other_counts no_list k (λ same. omega (arith, same, within)))))
        (λ x differ. rw to (omega (arith, ap (times_in x) all, times_other x number (path_of nexts (next_of nexts number)) differ)))
        (elsewhere_than number at_home)
        (λ x away differ. refl)
      where
        ends : Ends nexts number
        ends = rw is (sound.ends k (omega (arith, within, sound.count)))

        goes : (path_of nexts number ≡ number ∷ path_of nexts (next_of nexts number)) × Ends nexts (next_of nexts number)
        goes = ends_on nexts number ends below

        all : list_of_links k ≡ number ∷ path_of nexts (next_of nexts number)
        all = ap (λ (at : ℕ). path_of nexts at) (sym is) ∙ goes.0

        at_home : home homes number ≡ k
        at_home = stands_at_home k number within
            (omega (arith, ap (times_in number) all, times_here number number (path_of nexts (next_of nexts number)) refl))

        once : times_in number (path_of nexts (next_of nexts number)) ≡ 0
        once = omega (arith, stands_once k number within at_home, ap (times_in number) all, times_here number number (path_of nexts (next_of nexts number)) refl)

    -- a number that another of its list leads to is taken out
    pub number_skipped :
        (number before next : ℕ) → home homes number ≡ k → 1 ≤ times_in before (list_of_links k) → next_of nexts before ≡ number → next ≡ next_of nexts number
        → AreSound firsts (set nexts before next) (set homes number no_list)
    number_skipped number before next at_home stands leads to =
        subst (λ (l : List ℕ). AreSound l new (set homes number no_list)) (set-get_or firsts k 0)
        (rehomed new (get_or firsts k 0) number no_list (without number (list_of_links k)) long below
        (path_without nexts new (get_or firsts k 0) (list_of_links k) before number out ends stands leads below (λ x. at_most_once k x within))
        (without_itself number (list_of_links k) ∙ sym (other_counts no_list k (λ same. omega (arith, same, within))))
        (λ x differ. without_other number x (list_of_links k) differ)
        (elsewhere_than number at_home)
        (λ x away differ. get_or-set_other nexts before x next 0 (λ same. away (ap (λ (y : ℕ). home homes y) same ∙ stands_at_home k before within stands))))
      where
        new : List ℕ
        new = set nexts before next

        long : length new ≡ length nexts
        long = length-set nexts before next

        ends : Ends nexts (get_or firsts k 0)
        ends = sound.ends k (omega (arith, within, sound.count))

        below : number < length nexts
        below = home_below number (omega (arith, at_home, within))

        before_below : before < length nexts
        before_below = stands_below k before within stands

        out : IsLinkedOut nexts new before number
        out = record {
          long = long;
          skips = get_or-set_same nexts before next 0 before_below ∙ to;
          others = λ y differ. get_or-set_other nexts before y next 0 differ;
        }
