-- Lists filed anew: what one number more that has moved leaves as it is, and that there is an end.
use Rattle.std.proofs.Common.{◌≡◌, ◌≢◌, ◌<◌, ◌≤◌, ◌+◌, ◌⊎◌, ◌==◌, ℕ, zero, suc, Bool, true, false, cond, eqb, List, [], ◌∷◌, length, set, sym, refl, ap, ◌∙◌, subst, inl, inr, ⊎_elim, arith, length-set, get_or-set_same, get_or-set_other, set-set}
use Rattle.std.proofs.Math.ListN.{get_or-eq_default}
use Rattle.std.proofs.lemmas.Bool.Decides.{eqb_tells, leb_tells}
use Rattle.std.specs.Prelude.{Option, None, Some, leb}
use Rattle.wbt_expiry.specs.Lists.{home, no_list, due_of, IsEmpty}
use Rattle.wbt_expiry.specs.Filed.{new_home, AreMoved, AreLoose}
use Rattle.wbt_expiry.specs.Slots.{loose}
use Rattle.wbt_expiry.proofs.SlotOrder.{slot_below, less_or}

-- A number that is in a list is one of those that there are.
pub in_range : (homes : List ℕ) (x : ℕ) → home homes x < no_list → x < length homes
in_range homes x low = ⊎_elim
    (λ (e : (leb (length homes) x ≡ true) × (length homes ≤ x)). let out : home homes x ≡ 258 = get_or-eq_default homes 258 e.1 in absurd (omega arith))
    (λ (e : (leb (length homes) x ≡ false) × (x < length homes)). e.1)
    (leb_tells (length homes) x)

pub home_same : (homes : List ℕ) (x v : ℕ) → x < length homes → home (set homes x v) x ≡ v
home_same homes x v low = get_or-set_same homes x v no_list low

pub home_other : (homes : List ℕ) (x v y : ℕ) → y ≢ x → home (set homes x v) y ≡ home homes y
home_other homes x v y apart = get_or-set_other homes x y v no_list apart

-- ---- how many numbers are in a list

abbrev one_if : (is : Bool) → ℕ
one_if is = cond is 1 0

abbrev pub count_of : (list : ℕ) (homes : List ℕ) → ℕ
count_of list [] = 0
count_of list (h ∷ hs) = one_if (h == list) + count_of list hs

count_set : (list : ℕ) (homes : List ℕ) (x v : ℕ) → x < length homes → count_of list (set homes x v) + one_if (home homes x == list) ≡ count_of list homes + one_if (v == list)
count_set list [] x v low = absurd (omega arith)
count_set list (h ∷ hs) zero v low = omega arith
count_set list (h ∷ hs) (suc x) v low = let rest = count_set list hs x v (omega arith) in omega arith

one_same : (m n : ℕ) → m ≡ n → one_if (m == n) ≡ 1
one_same m n is = ⊎_elim (λ (e : (eqb m n ≡ true) × (m ≡ n)). ap one_if e.0) (λ (e : (eqb m n ≡ false) × (m ≢ n)). absurd (e.1 is)) (eqb_tells m n)

one_other : (m n : ℕ) → m ≢ n → one_if (m == n) ≡ 0
one_other m n apart = ⊎_elim (λ (e : (eqb m n ≡ true) × (m ≡ n)). absurd (apart e.1)) (λ (e : (eqb m n ≡ false) × (m ≢ n)). ap one_if e.0) (eqb_tells m n)

pub fewer : (list : ℕ) (homes : List ℕ) (x v : ℕ) → x < length homes → home homes x ≡ list → v ≢ list → count_of list (set homes x v) < count_of list homes
fewer list homes x v low is apart = let all = count_set list homes x v low in let a = one_same (home homes x) list is in let b = one_other v list apart in omega arith

-- ---- a list that is being filed anew

-- Some of the list's pairs were filed anew.
pub record AreMoving (dues : List ℕ) (base : Option ℕ) (list : ℕ) (old now : List ℕ) : Type 0 where
  pub lengths : length now ≡ length old
  pub others : (inode : ℕ) → home old inode ≢ list → home now inode ≡ home old inode
  pub moving : (inode : ℕ) → home old inode ≡ list → (home now inode ≡ list) ⊎ (home now inode ≡ new_home base (due_of dues inode))

pub moving_first : (dues : List ℕ) (base : Option ℕ) (list : ℕ) (old : List ℕ) → AreMoving dues base list old old
moving_first dues base list old = record { lengths = refl; others = λ inode apart. refl; moving = λ inode is. inl is }

-- what is in the list was in it from the first
was_there : (dues : List ℕ) (base : Option ℕ) (list : ℕ) (old now : List ℕ) → AreMoving dues base list old now → (x : ℕ) → home now x ≡ list → home old x ≡ list
was_there dues base list old now m x is = ⊎_elim (λ (e : (eqb (home old x) list ≡ true) × (home old x ≡ list)). e.1)
    (λ (e : (eqb (home old x) list ≡ false) × (home old x ≢ list)). absurd (e.1 (sym (m.others x e.1) ∙ is))) (eqb_tells (home old x) list)

pub moving_next : (dues : List ℕ) (base : Option ℕ) (list : ℕ) (old now : List ℕ) (x v : ℕ) → AreMoving dues base list old now → list < no_list → home now x ≡ list → v ≡ new_home base (due_of dues x)
    → AreMoving dues base list old (set now x v)
moving_next dues base list old now x v m low is at = record {
  lengths = length-set now x v ∙ m.lengths;
  others = λ inode apart. home_other now x v inode (λ same. apart (was_there dues base list old now m inode (ap (home now) same ∙ is))) ∙ m.others inode apart;
  moving = λ inode was. ⊎_elim
      (λ (e : (eqb inode x ≡ true) × (inode ≡ x)). inr (ap (home (set now x v)) e.1 ∙ home_same now x v (in_range now x (omega arith)) ∙ at ∙ ap (λ (i : ℕ). new_home base (due_of dues i)) (sym e.1)))
      (λ (e : (eqb inode x ≡ false) × (inode ≢ x)). ⊎_elim
      (λ (still : home now inode ≡ list). inl (home_other now x v inode e.1 ∙ still))
      (λ (moved : home now inode ≡ new_home base (due_of dues inode)). inr (home_other now x v inode e.1 ∙ moved))
      (m.moving inode was))
      (eqb_tells inode x);
}

pub apart_now : (dues : List ℕ) (base : Option ℕ) (list : ℕ) (old now : List ℕ) → AreMoving dues base list old now → ((inode : ℕ) → home old inode ≡ list → new_home base (due_of dues inode) ≢ list)
    → (x : ℕ) → home now x ≡ list → new_home base (due_of dues x) ≢ list
apart_now dues base list old now m apart x is = apart x (was_there dues base list old now m x is)

pub moving_last : (dues : List ℕ) (base : Option ℕ) (list : ℕ) (old now : List ℕ) → AreMoving dues base list old now → IsEmpty now list → AreMoved dues base list old now
moving_last dues base list old now m empty = record {
  lengths = m.lengths;
  others = m.others;
  moved = λ inode was. ⊎_elim (λ (still : home now inode ≡ list). absurd (empty inode still)) (λ (moved : home now inode ≡ new_home base (due_of dues inode)). moved) (m.moving inode was);
}

pub new_home_below : (base : Option ℕ) (due : ℕ) → new_home base due < no_list
new_home_below None due = omega arith
new_home_below (Some base) due = let below = slot_below base due in omega arith

-- After the front went out of a list and into another, the list has fewer numbers.
pub one_fewer : (list : ℕ) (old out new : List ℕ) (x v : ℕ) → list < no_list → home old x ≡ list → out ≡ set old x no_list → new ≡ set out x v → v ≢ list → count_of list new < count_of list old
one_fewer list old out new x v low is went came apart =
    let all : new ≡ set old x v = came ∙ ap (λ (l : List ℕ). set l x v) went ∙ set-set old x no_list v in
    subst (λ (l : List ℕ). count_of list l < count_of list old) (sym all) (fewer list old x v (in_range old x (omega arith)) is apart)

pub moving_step : (dues : List ℕ) (base : Option ℕ) (list : ℕ) (old now out new : List ℕ) (x v : ℕ) → AreMoving dues base list old now → list < no_list → home now x ≡ list → out ≡ set now x no_list → new ≡ set out x v
    → v ≡ new_home base (due_of dues x) → AreMoving dues base list old new
moving_step dues base list old now out new x v m low is went came at =
    let all : new ≡ set now x v = came ∙ ap (λ (l : List ℕ). set l x v) went ∙ set-set now x no_list v in
    subst (AreMoving dues base list old) (sym all) (moving_next dues base list old now x v m low is at)

-- ---- all lists made loose, one after another

-- The pairs of the lists below a number are loose, and all others stayed.
pub record AreLoosening (below : ℕ) (old now : List ℕ) : Type 0 where
  pub lengths : length now ≡ length old
  pub loosened : (inode : ℕ) → home old inode < below → home now inode ≡ loose
  pub others : (inode : ℕ) → below ≤ home old inode → home now inode ≡ home old inode

pub loosening_first : (old : List ℕ) → AreLoosening 0 old old
loosening_first old = record { lengths = refl; loosened = λ inode low. absurd (omega arith); others = λ inode from. refl }

pub loosening_next : (dues : List ℕ) (list : ℕ) (old now new : List ℕ) → list < loose → AreLoosening list old now → AreMoved dues None list now new → AreLoosening (list + 1) old new
loosening_next dues list old now new low l m = record {
  lengths = m.lengths ∙ l.lengths;
  loosened = λ inode below. ⊎_elim
      (λ (less : home old inode < list). let is = l.loosened inode less in m.others inode (λ (same : home now inode ≡ list). omega arith) ∙ is)
      (λ (from : list ≤ home old inode). let is = l.others inode from in m.moved inode (is ∙ omega arith))
      (less_or (home old inode) list);
  others = λ inode from. let is = l.others inode (omega arith) in m.others inode (λ (same : home now inode ≡ list). omega arith) ∙ is;
}

pub loosening_last : (old now : List ℕ) → AreLoosening loose old now → AreLoose old now
loosening_last old now l = record {
  lengths = l.lengths;
  others = λ inode out. l.others inode (omega arith);
  loosened = λ inode low. ⊎_elim
      (λ (less : home old inode < loose). l.loosened inode less)
      (λ (from : loose ≤ home old inode). l.others inode from ∙ omega arith)
      (less_or (home old inode) loose);
}
