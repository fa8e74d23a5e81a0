-- Marks of lists: one that is set or cleared, and the first that is set from a place on.
use Rattle.std.proofs.Common.{◌≡◌, ◌≢◌, ◌<◌, ◌≤◌, ◌+◌, ◌*◌, ◌-◌, ◌/◌, ◌%◌, ◌^◌, ◌==◌, ℕ, Bool, true, false, not, cond, max, List, length, get_or, set, replicate, arith, refl, inl, inr, ap, ap₂, add-zero, bit_or, sym, subst, ◌∙◌}
use Rattle.std.proofs.lemmas.Bool.{cases_eq, cases_lt, ne_eqb, eq-eqb}
use Rattle.std.proofs.lemmas.List.{get_or_default, length-set, get_or-set_same, get_or-set_other, length-replicate, get_or-replicate}
use Rattle.std.proofs.Math.Nat.{div-div-eq-div-mul, div-add-mod'}
use Rattle.std.proofs.lemmas.Nat.{pow-add, pow_pos}
use Rattle.std.proofs.lemmas.Nat.Bits.{bit_at_or, bit_at_above, bit_at_cat_low, bit_at_cat_high, bit_at-zero, bit_at-trailing_zeros}
use Rattle.std.specs.Prelude.{Option, None, Some, MatchOption}
use Rattle.std.specs.Int.{bit_at, rotate_right, trailing_zeros, w64}
use Rattle.wbt_expiry.specs.Lists.{home, no_list, IsEmpty}
use Rattle.wbt_expiry.specs.Slots.{list_of}
use Rattle.wbt_expiry.specs.Marks.{mark, IsMarked, IsFirstMarked, AreUnmarked, IsClear, IsAhead, AreTold, AreMarked, AreEmpty, IsFirstFilled}
use Rattle.wbt_expiry.proofs.Homes.{is_empty, first_at_home}

-- ---- one mark set or cleared

-- A word is put in whose bits are those of the one before it but for the list's.
pub put_in :
    (words : List ℕ) (list word bit : ℕ) → length words ≡ 5 → list < no_list
    → bit_at word (list % 64) ≡ bit
    → ((i : ℕ) → i < 64 → i ≢ list % 64 → bit_at word i ≡ bit_at (get_or words (list / 64) 0) i)
    → IsMarked words (set words (list / 64) word) list bit
put_in words list word bit long low here rest = record {
  made = ap (λ (w : ℕ). bit_at w (list % 64)) written ∙ here;
  others = λ other within differ. elim (cases_eq (other / 64) (list / 64)) [
    | inl same ↦
        ap (λ (k : ℕ). bit_at (get_or (set words (list / 64) word) k 0) (other % 64)) same
        ∙ ap (λ (w : ℕ). bit_at w (other % 64)) written
        ∙ rest (other % 64) (omega arith) (λ is. differ (omega (arith, is, same)))
        ∙ ap (λ (k : ℕ). bit_at (get_or words k 0) (other % 64)) (sym same)
    | inr apart ↦ ap (λ (w : ℕ). bit_at w (other % 64)) (get_or-set_other words (list / 64) (other / 64) word 0 apart)
  ];
}
  where
    written : get_or (set words (list / 64) word) (list / 64) 0 ≡ word
    written = get_or-set_same words (list / 64) word 0 (omega (arith, long, low))

-- ---- a word that is turned

positive : (n : ℕ) → n ≢ 0 → 0 < n
positive n some = omega arith

lt_trans : {a b c : ℕ} → a < b → b < c → a < c
lt_trans less below = omega arith

-- the bit of a word shifted down
shifted_down : (n by i : ℕ) → bit_at (n / 2 ^ by) i ≡ bit_at n (by + i)
shifted_down n by i = ap (λ (k : ℕ). k % 2) (div-div-eq-div-mul n (2 ^ by) (2 ^ i) ∙ ap (λ (k : ℕ). n / k) (sym (pow-add 2 by i)))

-- what is left of a number in 64 bits has its bits
kept : (n i : ℕ) → i < 64 → bit_at (n % 2 ^ 64) i ≡ bit_at n i
kept n i within = sym (bit_at_cat_low (n / 2 ^ 64) 64 (n % 2 ^ 64) i within) ∙ ap (λ (k : ℕ). bit_at k i) (div-add-mod' n (2 ^ 64))

-- the bit of a word shifted up
shifted_low : (n by i : ℕ) → i < by → bit_at (n * 2 ^ by) i ≡ 0
shifted_low n by i low = ap (λ (k : ℕ). bit_at k i) (sym (add-zero (n * 2 ^ by))) ∙ bit_at_cat_low n by 0 i low ∙ bit_at-zero i

shifted_high : (n by i : ℕ) → by ≤ i → bit_at (n * 2 ^ by) i ≡ bit_at n (i - by)
shifted_high n by i high = ap (λ (k : ℕ). bit_at k i) (sym (add-zero (n * 2 ^ by))) ∙ bit_at_cat_high n by 0 i (pow_pos by) high

-- the bit of a word of which one part is shifted down and the other up
both_shifted : (n down up i : ℕ) → i < 64 → bit_at (bit_or (n / 2 ^ down) (n * 2 ^ up % 2 ^ 64)) i ≡ max (bit_at n (down + i)) (bit_at (n * 2 ^ up) i)
both_shifted n down up i within = bit_at_or (n / 2 ^ down) (n * 2 ^ up % 2 ^ 64) i ∙ ap₂ max (shifted_down n down i) (kept (n * 2 ^ up) i within)

both_bits : (n by i : ℕ) → n < 2 ^ 64 → 0 < by → by < 64 → i < 64 → max (bit_at n (by + i)) (bit_at (n * 2 ^ (64 - by)) i) ≡ bit_at n ((i + by) % 64)
both_bits n by i fits some low within = elim (cases_lt i (64 - by)) [
  | inl below ↦
      let there : by + i ≡ (i + by) % 64 = omega (arith, below) in
      omega (arith, shifted_low n (64 - by) i below, ap (bit_at n) there)
  | inr above ↦
      let there : i - (64 - by) ≡ (i + by) % 64 = omega (arith, above) in
      omega (arith, bit_at_above n 64 (by + i) fits (omega arith), shifted_high n (64 - by) i above, ap (bit_at n) there)
]

max_itself : (m : ℕ) → max m m ≡ m
max_itself m = omega arith

-- the bit of a word that is turned is the one that stood so far above it
turned_bit : (n by i : ℕ) → n < 2 ^ 64 → by < 64 → i < 64 → bit_at (rotate_right w64 n by) i ≡ bit_at n ((i + by) % 64)
turned_bit n by i fits low within = elim (cases_lt 0 by) [
  | inl some ↦
      let down : by % 64 ≡ by = omega arith in
      let up : (64 - by % 64) % 64 ≡ 64 - by = omega arith in
      ap₂ (λ (d u : ℕ). bit_at (bit_or (n / 2 ^ d) (n * 2 ^ u % 2 ^ 64)) i) down up
      ∙ both_shifted n by (64 - by) i within
      ∙ both_bits n by i fits some low within
  | inr none ↦
      let down : by % 64 ≡ 0 = omega arith in
      let up : (64 - by % 64) % 64 ≡ 0 = omega arith in
      let there : i ≡ (i + by) % 64 = omega arith in
      let bare : 0 + i ≡ i = omega arith in
      let whole : i - 0 ≡ i = omega arith in
      ap₂ (λ (d u : ℕ). bit_at (bit_or (n / 2 ^ d) (n * 2 ^ u % 2 ^ 64)) i) down up
      ∙ both_shifted n 0 0 i within
      ∙ ap₂ max (ap (bit_at n) bare) (shifted_high n 0 i (omega arith) ∙ ap (bit_at n) whole)
      ∙ max_itself (bit_at n i)
      ∙ ap (bit_at n) there
]

-- ---- the first mark from a place on

module _ (word from : ℕ) (fits : word < 2 ^ 64) (low : from < 64) where
  abbrev pub turned : ℕ
  turned = rotate_right w64 word from

  pub none_set : turned ≡ 0 → IsClear word
  none_set none i within =
      let at : ((i + 64 - from) % 64 + from) % 64 ≡ i = omega arith in
      ap (bit_at word) (sym at)
      ∙ sym (turned_bit word from ((i + 64 - from) % 64) fits low (omega arith))
      ∙ ap (λ (k : ℕ). bit_at k ((i + 64 - from) % 64)) none
      ∙ bit_at-zero ((i + 64 - from) % 64)

  pub some_set : turned ≢ 0 → turned < 2 ^ 64 → IsAhead word from (trailing_zeros w64 turned)
  some_set some below =
      let lowest = bit_at-trailing_zeros w64 turned (positive turned some) below in record {
        within = lowest.0;
        is_set = sym (turned_bit word from (trailing_zeros w64 turned) fits low lowest.0) ∙ lowest.1;
        before = λ i less. sym (turned_bit word from i fits low (lt_trans less lowest.0)) ∙ lowest.2 i less;
      }

-- the mark of a slot
slot_mark : (words : List ℕ) (level place : ℕ) → mark words (list_of level place) ≡ bit_at (get_or words level 0) (place % 64)
slot_mark words level place =
    let word : list_of level place / 64 ≡ level = omega arith in
    let bit : list_of level place % 64 ≡ place % 64 = omega arith in
    ap₂ (λ (k i : ℕ). bit_at (get_or words k 0) i) word bit

module _ (words : List ℕ) (level start : ℕ) where
  pub none_marked : IsClear (get_or words level 0) → AreUnmarked words level
  none_marked none place = slot_mark words level place ∙ none (place % 64) (omega arith)

  pub first_marked : (bits : ℕ) → IsAhead (get_or words level 0) (start % 64) bits → IsFirstMarked words level start (start + bits)
  first_marked bits ahead = record {
    from = omega arith;
    to = omega (arith, ahead.within);
    marked =
        let at : (start + bits) % 64 ≡ (bits + start % 64) % 64 = omega arith in
        slot_mark words level (start + bits) ∙ ap (bit_at (get_or words level 0)) at ∙ ahead.is_set;
    before = λ other from to.
        let at : other % 64 ≡ (other - start + start % 64) % 64 = omega arith in
        slot_mark words level other ∙ ap (bit_at (get_or words level 0)) at ∙ ahead.before (other - start) (omega arith);
  }

-- ---- marks that tell which lists have a first number

-- the mark of a list with such a first number
abbrev bit_for : (first none : ℕ) → ℕ
bit_for first none = cond (first == none) 0 1

bit_of : (a b : ℕ) → a ≡ b → bit_for a b ≡ 0
bit_of a b same = rw (eq-eqb a b same) refl

bit_other : (a b : ℕ) → a ≢ b → bit_for a b ≡ 1
bit_other a b differ = rw (ne_eqb a b differ) refl

pub told_at_first : (words : List ℕ) (n : ℕ) → ((list : ℕ) → list < no_list → mark words list ≡ 0) → AreTold words (replicate no_list n) (length (replicate n n))
told_at_first words n clear list low =
    clear list low
    ∙ sym (bit_of (get_or (replicate no_list n) list 0) (length (replicate n n)) (get_or-replicate no_list list n 0 low ∙ sym (length-replicate n n)))

-- A list's first number is another, and its mark tells whether it is one.
pub told_put :
    (words new firsts : List ℕ) (list at none bit : ℕ) → AreTold words firsts none → length firsts ≡ no_list → list < no_list
    → IsMarked words new list bit → bit ≡ cond (at == none) 0 1 → AreTold new (set firsts list at) none
told_put words new firsts list at none bit told count within put is other low = elim (cases_eq other list) [
  | inl same ↦ rw (same, get_or-set_same firsts list at 0 (omega (arith, within, count))) (put.made ∙ is)
  | inr differ ↦ rw (get_or-set_other firsts list other at 0 differ) (put.others other low differ ∙ told other low)
]

turned_over : (b : Bool) → cond (not b) 1 0 ≡ cond {A = ℕ} b 0 1
turned_over true = refl
turned_over false = refl

-- Another number comes first, or none.
pub told_next :
    (words new firsts : List ℕ) (list next none len : ℕ) → AreTold words firsts none → length firsts ≡ no_list → list < no_list
    → IsMarked words new list (cond (not (next == len)) 1 0) → len ≡ none → AreTold new (set firsts list next) none
told_next words new firsts list next none len told count within put same =
    told_put words new firsts list next none (cond (not (next == len)) 1 0) told count within put
    (turned_over (next == len) ∙ ap (λ (n : ℕ). cond (next == n) 0 1) same)

-- A number comes first that has a link.
pub told_filled :
    (words new firsts nexts : List ℕ) (list number at : ℕ) → AreTold words firsts (length nexts) → length firsts ≡ no_list → list < no_list
    → IsMarked words new list 1 → number < length nexts → AreTold new (set firsts list number) (length (set nexts number at))
told_filled words new firsts nexts list number at told count within put below =
    subst (AreTold new (set firsts list number)) (sym (length-set nexts number at))
    (told_put words new firsts list number (length nexts) 1 told count within put
    (sym (bit_other number (length nexts) (λ same. omega (arith, same, below)))))

-- ---- the first list from a place on that isn't empty

module _ (firsts nexts homes words : List ℕ) (marked : AreMarked firsts nexts homes words) where
  clear_is_empty : (list : ℕ) → list < no_list → mark words list ≡ 0 → IsEmpty homes list
  clear_is_empty list low clear = elim (cases_eq (get_or firsts list 0) (length nexts)) [
    | inl none ↦ is_empty firsts nexts homes marked.sound list (get_or firsts list 0) low (read_itself list low) none
    | inr some ↦ absurd (omega (arith, clear, marked.told list low, bit_other (get_or firsts list 0) (length nexts) some))
  ]
    where
      read_itself : (list : ℕ) → list < no_list → get_or firsts list 0 ≡ get_or firsts list (get_or firsts list 0)
      read_itself list low = get_or_default firsts list 0 (get_or firsts list 0) (omega (arith, low, marked.sound.count))

  set_is_filled : (list : ℕ) → list < no_list → mark words list ≡ 1 → home homes (get_or firsts list 0) ≡ list
  set_is_filled list low is_set = first_at_home firsts nexts homes marked.sound list (get_or firsts list 0) low
      (get_or_default firsts list 0 (get_or firsts list 0) (omega (arith, low, marked.sound.count)))
      (λ none. omega (arith, is_set, marked.told list low, bit_of (get_or firsts list 0) (length nexts) none))

  pub all_empty : (level : ℕ) → level < 4 → AreUnmarked words level → AreEmpty homes level
  all_empty level range clear place = clear_is_empty (list_of level place) (omega arith) (clear place)

  pub first_is_filled : (level start place : ℕ) → level < 4 → IsFirstMarked words level start place → IsFirstFilled homes level start place
  first_is_filled level start place range s = record {
    from = s.from;
    to = s.to;
    held = get_or firsts (list_of level place) 0;
    is_held = set_is_filled (list_of level place) (omega arith) s.marked;
    before = λ other from to. clear_is_empty (list_of level other) (omega arith) (s.before other from to);
  }

  pub filled_by_marks :
      (level start : ℕ) → level < 4 → (found : Option ℕ) → MatchOption found (AreUnmarked words level) (IsFirstMarked words level start)
      → MatchOption found (AreEmpty homes level) (IsFirstFilled homes level start)
  filled_by_marks level start range None none = all_empty level range none
  filled_by_marks level start range (Some place) first = first_is_filled level start place range first
