-- Pairs that are filed: one more, one less, and all of a slot filed anew from a new base.
use Rattle.std.proofs.Common.{◌≡◌, ◌≢◌, ◌<◌, ◌≤◌, ◌+◌, ◌*◌, ◌/◌, ◌^◌, ◌⊎◌, ℕ, true, false, true≢false, eqb, ltb, List, length, set, sym, refl, ap, ◌∙◌, subst, inl, inr, ⊎_elim, arith, le_of_eq, lt_of_lt_of_le, lt_of_le_of_lt, length-set, get_or-set_same, get_or-set_other}
use Rattle.std.proofs.lemmas.Bool.Decides.{eqb_tells, Decides-ltb}
use Rattle.std.specs.Prelude.{Option, Some, None, MatchOption}
use Rattle.wbt_expiry.specs.declared.due.Due.{Due}
use Rattle.wbt_expiry.specs.Lists.{home, no_list, due_of, IsUpTo, IsLeast}
use Rattle.wbt_expiry.specs.Slots.{slot, span, list_of, start_of, loose}
use Rattle.wbt_expiry.specs.Marks.{AreEmpty, IsFirstFilled}
use Rattle.wbt_expiry.specs.Filed.{is_in, AreFiled, AreMoved, AreLoose, SameWait, IsNoneDue, IsTaken, FirstTaken, IsFrom, IsIdle, IsFirstSlot, IsLowered}
use Rattle.wbt_expiry.proofs.SlotOrder.{AtLevel, at_level, above_level, slot_below, less_or, in_window, opens, closes, higher_later, stays_at, stays_above, lower, opens_in, new_base, same_slot, late_before_base, other_from_base}
use Rattle.wbt_expiry.proofs.Moving.{in_range, home_same, home_other}

-- ---- whether an inode waits

pub waits : (homes : List ℕ) (inode : ℕ) → home homes inode < no_list → is_in homes inode ≡ true
waits homes inode low = (Decides-ltb (home homes inode) no_list).1 low

pub is_waiting : (homes : List ℕ) (inode : ℕ) → is_in homes inode ≡ true → home homes inode < no_list
is_waiting homes inode is = (Decides-ltb (home homes inode) no_list).0 is

pub waits_not : (homes : List ℕ) (inode : ℕ) → no_list ≤ home homes inode → is_in homes inode ≡ false
waits_not homes inode out = elim (is_in homes inode) as (λ b. is_in homes inode ≡ b → is_in homes inode ≡ false)
    [ true ↦ λ e. let low = is_waiting homes inode e in absurd (omega arith) | false ↦ λ e. e ] refl

pub waits_same : (old new : List ℕ) (inode : ℕ) → (home old inode < no_list → home new inode < no_list) → (home new inode < no_list → home old inode < no_list) → is_in new inode ≡ is_in old inode
waits_same old new inode to back = ⊎_elim
    (λ (low : home old inode < no_list). waits new inode (to low) ∙ sym (waits old inode low))
    (λ (out : no_list ≤ home old inode). ⊎_elim
    (λ (low : home new inode < no_list). let was = back low in absurd (omega arith))
    (λ (gone : no_list ≤ home new inode). waits_not new inode gone ∙ sym (waits_not old inode out))
    (less_or (home new inode) no_list))
    (less_or (home old inode) no_list)

equal_or : (m n : ℕ) → (m ≡ n) ⊎ (m ≢ n)
equal_or m n = ⊎_elim (λ (e : (eqb m n ≡ true) × (m ≡ n)). inl e.1) (λ (e : (eqb m n ≡ false) × (m ≢ n)). inr e.1) (eqb_tells m n)

above_by : (m n : ℕ) → m ≤ n → n ≢ m → m + 1 ≤ n
above_by m n from apart = omega arith

-- ---- all pairs filed anew

module _ (n b : ℕ) (dues old mid new : List ℕ) (f : AreFiled b dues old) (l : AreLoose old mid) (m : AreMoved dues (Some n) loose mid new) where
  anew_home : (i : ℕ) → home old i < no_list → home new i ≡ slot n (due_of dues i)
  anew_home i low = m.moved i (l.loosened i low)

  anew_back : (i : ℕ) → home new i < no_list → home old i < no_list
  anew_back i low = ⊎_elim (λ (was : home old i < no_list). was)
      (λ (out : no_list ≤ home old i). let a = l.others i out in let c = m.others i (λ (same : home mid i ≡ loose). omega arith) in absurd (omega arith))
      (less_or (home old i) no_list)

  pub filed_anew : n < 2 ^ 63 → ((i : ℕ) → home old i < no_list → due_of dues i / 262144 ≤ n / 262144 + 64) → AreFiled n dues new
  filed_anew early near = record {
    lengths = f.lengths ∙ sym (m.lengths ∙ l.lengths);
    early = early;
    filed = λ i low. anew_home i (anew_back i low);
    near = λ i low. near i (anew_back i low);
    due_early = λ i low. f.due_early i (anew_back i low);
  }

  pub same_anew : SameWait old new
  same_anew = record {
    lengths = m.lengths ∙ l.lengths;
    same = λ i. waits_same old new i (λ low. let is = anew_home i low in let below = slot_below n (due_of dues i) in omega arith) (anew_back i);
  }

pub apart_from_loose : (n d : ℕ) → slot n d ≢ loose
apart_from_loose n d same = let below = slot_below n d in omega arith

-- ---- a pair more

pub filed_more : (b : ℕ) (dues homes : List ℕ) (x d : ℕ) → AreFiled b dues homes → x < length dues → d / 262144 ≤ b / 262144 + 64 → d < 2 ^ 63 → AreFiled b (set dues x d) (set homes x (slot b d))
filed_more b dues homes x d f low near early =
    let there : x < length homes = subst (λ (k : ℕ). x < k) f.lengths low in
    let due_same : due_of (set dues x d) x ≡ d = get_or-set_same dues x d 0 low in
    let home_is : home (set homes x (slot b d)) x ≡ slot b d = home_same homes x (slot b d) there in
    record {
      lengths = length-set dues x d ∙ f.lengths ∙ sym (length-set homes x (slot b d));
      early = f.early;
      filed = λ i waits'. ⊎_elim
          (λ (is : i ≡ x). subst (λ (k : ℕ). home (set homes x (slot b d)) k ≡ slot b (due_of (set dues x d) k)) (sym is) (home_is ∙ ap (slot b) (sym due_same)))
          (λ (not : i ≢ x). let same = home_other homes x (slot b d) i not in let due_other : due_of (set dues x d) i ≡ due_of dues i = get_or-set_other dues x i d 0 not in
          same ∙ f.filed i (omega arith) ∙ ap (slot b) (sym due_other))
          (equal_or i x);
      near = λ i waits'. ⊎_elim
          (λ (is : i ≡ x). subst (λ (k : ℕ). due_of (set dues x d) k / 262144 ≤ b / 262144 + 64) (sym is) (subst (λ (k : ℕ). k / 262144 ≤ b / 262144 + 64) (sym due_same) near))
          (λ (not : i ≢ x). let same = home_other homes x (slot b d) i not in let due_other : due_of (set dues x d) i ≡ due_of dues i = get_or-set_other dues x i d 0 not in
          subst (λ (k : ℕ). k / 262144 ≤ b / 262144 + 64) (sym due_other) (f.near i (omega arith)))
          (equal_or i x);
      due_early = λ i waits'. ⊎_elim
          (λ (is : i ≡ x). subst (λ (k : ℕ). due_of (set dues x d) k < 2 ^ 63) (sym is) (subst (λ (k : ℕ). k < 2 ^ 63) (sym due_same) early))
          (λ (not : i ≢ x). let same = home_other homes x (slot b d) i not in let due_other : due_of (set dues x d) i ≡ due_of dues i = get_or-set_other dues x i d 0 not in
          subst (λ (k : ℕ). k < 2 ^ 63) (sym due_other) (f.due_early i (omega arith)))
          (equal_or i x);
    }

-- ---- a pair less

-- Where an inode waits, it is where it was.
pub record AreAmong (old new : List ℕ) : Type 0 where
  pub lengths : length new ≡ length old
  pub stays : (inode : ℕ) → home new inode < no_list → home new inode ≡ home old inode

pub among_itself : (homes : List ℕ) → AreAmong homes homes
among_itself homes = record { lengths = refl; stays = λ i low. refl }

pub among_less : (homes : List ℕ) (x : ℕ) → home homes x < no_list → AreAmong homes (set homes x no_list)
among_less homes x is = record {
  lengths = length-set homes x no_list;
  stays = λ i low. home_other homes x no_list i (λ (same : i ≡ x).
      let out : home (set homes x no_list) i ≡ no_list = ap (home (set homes x no_list)) same ∙ home_same homes x no_list (in_range homes x is) in omega arith);
}

pub filed_less : (b : ℕ) (dues old new : List ℕ) → AreFiled b dues old → AreAmong old new → AreFiled b dues new
filed_less b dues old new f a = record {
  lengths = f.lengths ∙ sym a.lengths;
  early = f.early;
  filed = λ i low. let same = a.stays i low in same ∙ f.filed i (omega arith);
  near = λ i low. let same = a.stays i low in f.near i (omega arith);
  due_early = λ i low. let same = a.stays i low in f.due_early i (omega arith);
}

pub taken : (dues homes : List ℕ) (x : ℕ) (pair : Due) → home homes x < no_list → ((other : ℕ) → home homes other < no_list → IsUpTo dues x other) → pair.due ≡ due_of dues x → pair.inode ≡ x
    → IsTaken dues homes (set homes x no_list) pair
taken dues homes x pair is first due inode = record {
  lengths = length-set homes x no_list;
  waited = subst (λ (i : ℕ). home homes i < no_list) (sym inode) is;
  due = due ∙ ap (due_of dues) (sym inode);
  first = λ other low. subst (λ (i : ℕ). IsUpTo dues i other) (sym inode) (first other low);
  gone = let out : home (set homes x no_list) pair.inode ≡ no_list = ap (home (set homes x no_list)) inode ∙ home_same homes x no_list (in_range homes x is) in omega arith;
  others = λ other apart. ap (λ (h : ℕ). ltb h no_list) (home_other homes x no_list other (λ same. apart (same ∙ sym inode)));
}

pub none_by : (to : ℕ) (dues homes : List ℕ) (x : ℕ) → ((other : ℕ) → home homes other < no_list → IsUpTo dues x other) → to < due_of dues x → IsNoneDue to dues homes
none_by to dues homes x first late other low = ⊎_elim
    (λ (less : due_of dues x < due_of dues other). omega arith)
    (λ (same : (due_of dues x ≡ due_of dues other) × (x ≤ other)). omega arith)
    (first other low)

-- ---- the first slot that isn't empty

module _ (level b : ℕ) (dues homes : List ℕ) (range : level < 4) (f : AreFiled b dues homes) where
  pub in_level : (i : ℕ) → 64 * level ≤ home homes i → home homes i < 64 * level + 64 → AtLevel level b (due_of dues i) × (home homes i ≡ list_of level (due_of dues i / span level))
  in_level i low high =
      let is = f.filed i (omega arith) in
      let at = at_level level b (due_of dues i) range (f.near i (omega arith)) (subst (λ (h : ℕ). 64 * level ≤ h) is low) (subst (λ (h : ℕ). h < 64 * level + 64) is high) in
      (at.0, is ∙ at.1)

  pub past_first : (i : ℕ) → 64 * level ≤ home homes i → home homes i < 64 * level + 64 → start_of level b ≤ due_of dues i / span level
  past_first i low high = (in_window level b (due_of dues i) range (in_level i low high).0).0

  idle : AreEmpty homes level → IsIdle level homes
  idle empty i waits' low = ⊎_elim
      (λ (high : home homes i < 64 * level + 64). absurd (empty (due_of dues i / span level) i (in_level i low high).1))
      (λ (out : 64 * level + 64 ≤ home homes i). out)
      (less_or (home homes i) (64 * level + 64))

  in_list : (place i : ℕ) → home homes i ≡ list_of level place → (64 * level ≤ home homes i) × (home homes i < 64 * level + 64)
  in_list place i is = (omega arith, omega arith)

  first_found : (place : ℕ) → IsFirstFilled homes level (start_of level b) place → IsFirstSlot level dues homes place
  first_found place s =
      let inside = in_list place s.held s.is_held in
      let at = in_level s.held inside.0 inside.1 in
      let window = in_window level b (due_of dues s.held) range at.0 in
      record {
        held = s.held;
        is_held = s.is_held;
        at = same_slot level (start_of level b) (due_of dues s.held / span level) place (sym at.1 ∙ s.is_held) window.0 window.1 s.from s.to;
        first = λ i low high. ⊎_elim
            (λ (less : due_of dues i / span level < place). absurd (s.before (due_of dues i / span level) (past_first i low high) less i (in_level i low high).1))
            (λ (from : place ≤ due_of dues i / span level). from)
            (less_or (due_of dues i / span level) place);
      }

  pub first_slot :
      (found : Option ℕ) → MatchOption found (AreEmpty homes level) (IsFirstFilled homes level (start_of level b))
      → MatchOption found (IsIdle level homes) (IsFirstSlot level dues homes)
  first_slot None none = idle none
  first_slot (Some place) first = first_found place first

module _ (level b place : ℕ) (dues homes : List ℕ) (range : level < 4) (f : AreFiled b dues homes) (from : IsFrom level homes) (s : IsFirstSlot level dues homes place) where
  held_at : AtLevel level b (due_of dues s.held)
  held_at = let inside = in_list level b dues homes range f place s.held s.is_held in (in_level level b dues homes range f s.held inside.0 inside.1).0

  place_from : start_of level b ≤ place
  place_from = subst (λ (p : ℕ). start_of level b ≤ p) s.at (in_window level b (due_of dues s.held) range held_at).0

  place_to : place < start_of level b + 64
  place_to = subst (λ (p : ℕ). p < start_of level b + 64) s.at (in_window level b (due_of dues s.held) range held_at).1

  -- The pairs of the slot are due within it.
  pub in_slot : (i : ℕ) → home homes i ≡ list_of level place → due_of dues i / span level ≡ place
  in_slot i is =
      let inside = in_list level b dues homes range f place i is in
      let at = in_level level b dues homes range f i inside.0 inside.1 in
      let window = in_window level b (due_of dues i) range at.0 in
      same_slot level (start_of level b) (due_of dues i / span level) place (sym at.1 ∙ is) window.0 window.1 place_from place_to

  -- Each other pair is in a later slot of the level, or in a higher level.
  where_is : (i : ℕ) → home homes i < no_list → (home homes i ≡ list_of level place) ⊎ (place + 1 ≤ due_of dues i / span level)
  where_is i low = ⊎_elim
      (λ (high : home homes i < 64 * level + 64).
      let at = in_level level b dues homes range f i (from i low).0 high in
      ⊎_elim (λ (same : due_of dues i / span level ≡ place). inl (at.1 ∙ ap (list_of level) same))
      (λ (apart : due_of dues i / span level ≢ place). inr (above_by place (due_of dues i / span level) (s.first i (from i low).0 high) apart))
      (equal_or (due_of dues i / span level) place))
      (λ (above : 64 * level + 64 ≤ home homes i).
      let is = f.filed i low in
      let higher = above_level level b (due_of dues i) range (subst (λ (h : ℕ). 64 * level + 64 ≤ h) is above) (subst (λ (h : ℕ). h < 256) is (from i low).1) in
      inr (subst (λ (p : ℕ). p + 1 ≤ due_of dues i / span level) s.at (higher_later level b (due_of dues s.held) (due_of dues i) range held_at higher)))
      (less_or (home homes i) (64 * level + 64))

  pub opens_all : (i : ℕ) → home homes i < no_list → place * span level ≤ due_of dues i
  opens_all i low = ⊎_elim
      (λ (is : home homes i ≡ list_of level place). opens level place (due_of dues i) range (le_of_eq (sym (in_slot i is))))
      (λ (later : place + 1 ≤ due_of dues i / span level). opens level place (due_of dues i) range (omega arith))
      (where_is i low)

  pub none_early : (to : ℕ) → to < place * span level → IsNoneDue to dues homes
  none_early to early i low = lt_of_lt_of_le early (opens_all i low)

  pub closes_slot : (i : ℕ) → home homes i ≡ list_of level place → due_of dues i < (place + 1) * span level
  closes_slot i is = closes level place (due_of dues i) range (in_slot i is)

  -- The least of the slot is the first of all.
  pub least_first : (x : ℕ) → IsLeast dues homes (list_of level place) x → (other : ℕ) → home homes other < no_list → IsUpTo dues x other
  least_first x least other low = ⊎_elim
      (λ (is : home homes other ≡ list_of level place). least.least other is)
      (λ (later : place + 1 ≤ due_of dues other / span level). inl (lt_of_lt_of_le (closes_slot x least.within) (opens level (place + 1) (due_of dues other) range later)))
      (where_is other low)

  -- the slot's first moment as a new base
  module _ (n : ℕ) (some : 0 < level) (opened : n ≡ place * span level) where
    at : n / span level ≡ place
    at = ap (λ (k : ℕ). k / span level) opened ∙ opens_in level place range

    opens_from : (i : ℕ) → home homes i < no_list → n ≤ due_of dues i
    opens_from i low = subst (λ (k : ℕ). k ≤ due_of dues i) (sym opened) (opens_all i low)

    held_low : home homes s.held < no_list
    held_low = let inside = in_list level b dues homes range f place s.held s.is_held in omega arith

    pub new_early : n < 2 ^ 63
    new_early = lt_of_le_of_lt (opens_from s.held held_low) (f.due_early s.held held_low)

    lowered : (i : ℕ) → home homes i ≡ list_of level place → slot n (due_of dues i) < 64 * level
    lowered i is = let inside = in_list level b dues homes range f place i is in
        lower level n (due_of dues i) some range (opens_from i (omega arith)) (at ∙ sym (in_slot i is))

    pub apart : (i : ℕ) → home homes i ≡ list_of level place → slot n (due_of dues i) ≢ list_of level place
    apart i is same = let below = lowered i is in omega arith

    module _ (new : List ℕ) (m : AreMoved dues (Some n) (list_of level place) homes new) where
      old_base : b ≤ n
      old_base = new_base level b n (due_of dues s.held) some range held_at (at ∙ sym s.at)

      stays_on : (i : ℕ) → home homes i < no_list → home homes i ≢ list_of level place → slot n (due_of dues i) ≡ slot b (due_of dues i)
      stays_on i low apart = ⊎_elim
          (λ (high : home homes i < 64 * level + 64).
          let its = in_level level b dues homes range f i (from i low).0 high in
          let later : place + 1 ≤ due_of dues i / span level = ⊎_elim (λ (is : home homes i ≡ list_of level place). absurd (apart is)) (λ (l : place + 1 ≤ due_of dues i / span level). l) (where_is i low) in
          stays_at level b n (due_of dues s.held) (due_of dues i) some range held_at (at ∙ sym s.at) its.0 (subst (λ (p : ℕ). p < due_of dues i / span level) (sym s.at) (omega arith)))
          (λ (above : 64 * level + 64 ≤ home homes i).
          let is = f.filed i low in
          stays_above level b n (due_of dues s.held) (due_of dues i) some range held_at (at ∙ sym s.at)
          (above_level level b (due_of dues i) range (subst (λ (h : ℕ). 64 * level + 64 ≤ h) is above) (subst (λ (h : ℕ). h < 256) is (from i low).1)))
          (less_or (home homes i) (64 * level + 64))

      -- where an inode is now, and that it waited
      now_at : (i : ℕ) → home new i < no_list → (home homes i < no_list) × (home new i ≡ slot n (due_of dues i))
      now_at i low = ⊎_elim
          (λ (is : home homes i ≡ list_of level place). (omega arith, m.moved i is))
          (λ (apart : home homes i ≢ list_of level place).
          let same = m.others i apart in
          let was : home homes i < no_list = omega arith in
          (was, same ∙ f.filed i was ∙ sym (stays_on i was apart)))
          (equal_or (home homes i) (list_of level place))

      pub filed_on : AreFiled n dues new
      filed_on = record {
        lengths = f.lengths ∙ sym m.lengths;
        early = new_early;
        filed = λ i low. (now_at i low).1;
        near = λ i low. let near = f.near i (now_at i low).0 in let base = old_base in omega arith;
        due_early = λ i low. f.due_early i (now_at i low).0;
      }

      same_on : SameWait homes new
      same_on = record {
        lengths = m.lengths;
        same = λ i. waits_same homes new i
            (λ was. ⊎_elim
            (λ (is : home homes i ≡ list_of level place). let below = slot_below n (due_of dues i) in let moved = m.moved i is in omega arith)
            (λ (apart : home homes i ≢ list_of level place). let same = m.others i apart in omega arith)
            (equal_or (home homes i) (list_of level place)))
            (λ low. (now_at i low).0);
      }

      none_late : (i : ℕ) → home new i < no_list → home new i < 256
      none_late i low = let is = now_at i low in
          let early = opens_from i is.0 in
          let later : slot n (due_of dues i) ≢ 256 = λ late. let before = late_before_base n (due_of dues i) late in omega arith in
          let below = other_from_base n (due_of dues i) later in omega arith

      pub is_lowered : IsLowered level homes new
      is_lowered = record {
        same = same_on;
        from = λ i low. (omega arith, none_late i low);
        held = s.held;
        lower = let low = lowered s.held s.is_held in let is = m.moved s.held s.is_held in omega arith;
      }

-- ---- what was taken

pub out_of : (homes : List ℕ) (i : ℕ) → is_in homes i ≡ false → no_list ≤ home homes i
out_of homes i is = ⊎_elim
    (λ (low : home homes i < no_list). absurd (true≢false (sym (waits homes i low) ∙ is)))
    (λ (out : no_list ≤ home homes i). out)
    (less_or (home homes i) no_list)

-- What is taken from the same inodes that wait.
module _ (to : ℕ) (dues old mid : List ℕ) (same : SameWait old mid) where
  still_waits : (i : ℕ) → home old i < no_list → home mid i < no_list
  still_waits i low = is_waiting mid i (same.same i ∙ waits old i low)

  waited_once : (i : ℕ) → home mid i < no_list → home old i < no_list
  waited_once i low = is_waiting old i (sym (same.same i) ∙ waits mid i low)

  pub none_due : IsNoneDue to dues mid → IsNoneDue to dues old
  none_due none i low = none i (still_waits i low)

  pub taken_on : (new : List ℕ) (taken : Option Due) → MatchOption taken (IsNoneDue to dues mid × SameWait mid new) (FirstTaken to dues mid new)
      → MatchOption taken (IsNoneDue to dues old × SameWait old new) (FirstTaken to dues old new)
  taken_on new None is = (none_due is.0, record { lengths = is.1.lengths ∙ same.lengths; same = λ i. is.1.same i ∙ same.same i })
  taken_on new (Some pair) is = (
    is.0,
    record {
      lengths = is.1.lengths ∙ same.lengths;
      waited = waited_once pair.inode is.1.waited;
      due = is.1.due;
      first = λ other low. is.1.first other (still_waits other low);
      gone = is.1.gone;
      others = λ other apart. is.1.others other apart ∙ same.same other;
    },
  )

pub same_itself : (homes : List ℕ) → SameWait homes homes
same_itself homes = record { lengths = refl; same = λ i. refl }

-- ---- late pairs

pub from_first : (b : ℕ) (dues homes : List ℕ) → AreFiled b dues homes → ((i : ℕ) → home homes i ≢ 256) → IsFrom 0 homes
from_first b dues homes f none i low =
    let is = f.filed i low in
    let apart : slot b (due_of dues i) ≢ 256 = λ same. none i (is ∙ same) in
    let below = other_from_base b (due_of dues i) apart in (omega arith, omega arith)

pub late_first : (b : ℕ) (dues homes : List ℕ) → AreFiled b dues homes → (x : ℕ) → IsLeast dues homes 256 x → (other : ℕ) → home homes other < no_list → IsUpTo dues x other
late_first b dues homes f x least other low = ⊎_elim
    (λ (is : home homes other ≡ 256). least.least other is)
    (λ (apart : home homes other ≢ 256).
    let filed = f.filed other low in
    let at = f.filed x (let is = least.within in omega arith) in
    let early = late_before_base b (due_of dues x) (sym at ∙ least.within) in
    let late = other_from_base b (due_of dues other) (λ same. apart (filed ∙ same)) in
    inl (omega arith))
    (equal_or (home homes other) 256)

-- ---- a slot whose list was read

module _ (level b place : ℕ) (dues homes : List ℕ) (range : level < 4) (f : AreFiled b dues homes) (from : IsFrom level homes) (s : IsFirstSlot level dues homes place)
    (list : ℕ) (is : list ≡ list_of level place) where
  pub first_pair : (x : ℕ) → IsLeast dues homes list x → (other : ℕ) → home homes other < no_list → IsUpTo dues x other
  first_pair x least = least_first level b place dues homes range f from s x (subst (λ (l : ℕ). IsLeast dues homes l x) is least)

  module _ (n : ℕ) (some : 0 < level) (opened : n ≡ place * span level) where
    pub slot_apart : (i : ℕ) → home homes i ≡ list → slot n (due_of dues i) ≢ list
    slot_apart i at = subst (λ (l : ℕ). slot n (due_of dues i) ≢ l) (sym is) (apart level b place dues homes range f from s n some opened i (at ∙ is))

    module _ (new : List ℕ) (moved : AreMoved dues (Some n) list homes new) where
      m : AreMoved dues (Some n) (list_of level place) homes new
      m = subst (λ (l : ℕ). AreMoved dues (Some n) l homes new) is moved

      pub slot_filed : AreFiled n dues new
      slot_filed = filed_on level b place dues homes range f from s n some opened new m

      pub slot_lowered : IsLowered level homes new
      slot_lowered = is_lowered level b place dues homes range f from s n some opened new m

-- ---- a search through the levels

pub next_level : (level : ℕ) (homes : List ℕ) → IsFrom level homes → IsIdle level homes → IsFrom (level + 1) homes
next_level level homes from idle i low = let is = from i low in let above = idle i low is.0 in (omega arith, is.1)

-- ---- a take that comes down through the levels

-- The same pairs are filed, none is late, and where some levels are done with, there is a pair in the levels below them.
pub record IsDescending (levels : ℕ) (old_dues old_homes : List ℕ) (base : ℕ) (dues homes : List ℕ) : Type 0 where
  pub range : levels ≤ 4
  pub filed : AreFiled base dues homes
  pub same_dues : dues ≡ old_dues
  pub same : SameWait old_homes homes
  pub from : IsFrom 0 homes
  pub left : (levels ≡ 4) ⊎ ((held : ℕ) × (home homes held < 64 * levels))

pub descending_first : (base : ℕ) (dues homes : List ℕ) → AreFiled base dues homes → IsFrom 0 homes → IsDescending 4 dues homes base dues homes
descending_first base dues homes f from = record { range = omega arith; filed = f; same_dues = refl; same = same_itself homes; from = from; left = inl refl }

module _ (levels : ℕ) (old_dues old_homes : List ℕ) (base : ℕ) (dues homes : List ℕ) (d : IsDescending levels old_dues old_homes base dues homes) where
  pub descending_next : (level next_base : ℕ) (new_dues new : List ℕ) → level < levels → new_dues ≡ dues → AreFiled next_base new_dues new → IsLowered level homes new
      → IsDescending level old_dues old_homes next_base new_dues new
  descending_next level next_base new_dues new below same_dues f low = record {
    range = let range = d.range in omega arith;
    filed = f;
    same_dues = same_dues ∙ d.same_dues;
    same = record { lengths = low.same.lengths ∙ d.same.lengths; same = λ i. low.same.same i ∙ d.same.same i };
    from = low.from;
    left = inr (low.held, low.lower);
  }

  none_at_all : IsFrom levels homes → (i : ℕ) → home homes i < no_list → ⊥
  none_at_all from i low = let is = from i low in ⊎_elim
      (λ (all : levels ≡ 4). omega arith)
      (λ (held : (x : ℕ) × (home homes x < 64 * levels)). let range = d.range in let lower : home homes held.0 < 64 * levels = held.1 in
      let is = from held.0 (omega arith) in omega arith)
      d.left

  pub descended : (to : ℕ) → IsFrom levels homes → IsNoneDue to old_dues old_homes × SameWait old_homes homes
  descended to from = (λ i low. absurd (none_at_all from i (still_waits to dues old_homes homes d.same i low)), d.same)
