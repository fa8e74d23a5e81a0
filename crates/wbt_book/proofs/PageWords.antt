-- A word that many pages share holds the bits of each, and the events change it as they change the book.
use Rattle.std.proofs.Common.{◌≡◌, ◌≢◌, ◌↔◌, ℕ, zero, suc, ◌+◌, ◌*◌, ◌/◌, ◌%◌, ◌^◌, ◌<◌, Bool, true, false, eqb, sym, refl, ap, ◌∙◌, subst, arith, bit_and, bit_or, w64, IsTrue, IsBitSet, eq-eqb, eqb-true}
use Rattle.std.proofs.Math.Nat.{div-div-eq-div-mul}
use Rattle.std.proofs.Math.Pow.{pow-lt}
use Rattle.std.specs.Int.{bit_at}
use Rattle.std.proofs.lemmas.Nat.{or_lt, and_le_l, and_mask, bit_set_by_shift, pow-add}
use Rattle.std.proofs.lemmas.Nat.Bits.{bit_at_set_same, bit_at_set_other, bit_at_clear_same, bit_at_clear_other}
use Rattle.wbt_counter.specs.Sums.{put, one_if}
use Rattle.wbt_counter.proofs.Sums.{put_other, put_each}
use Rattle.wbt_book.specs.declared.event.Event.TheVariants.{Dirty, Claim, Complete, Redirty, Absorb}
use Rattle.wbt_book.specs.Book.{Bits, Book, page_word, bits_in, given_back, bits_after}
use Rattle.wbt_book.specs.PageWords.{shift_of, all_but, bits_at, packed_pages, shared_word, ChangesPage, page_of, back_in, word_after}
use Rattle.wbt_book.specs.WordLaws.{WordHoldsPage, WordHoldsNeighbours, WordTellsPages, WordIsTold, WordPut, OtherWordsStay, MasksChangePages, EventChangesPage, EventFollows, SpotsFit, SpotTellsPage, SharedWordFits}

small_one : (b : Bool) → one_if b < 2
small_one true = omega arith
small_one false = omega arith

read_back : (b : Bool) → eqb (one_if b) 1 ≡ b
read_back true = refl
read_back false = refl

one_back : (x : ℕ) → x < 2 → one_if (eqb x 1) ≡ x
one_back zero less = refl
one_back (suc zero) less = refl
one_back (suc (suc x)) less = absurd (omega arith)

small_code : (bits : Bits) → page_word bits < 4
small_code bits = let d = small_one bits.dirty in let w = small_one bits.writeback in omega arith

-- the lowest page of a number
lowest : (bits : Bits) (more : ℕ) → bits_in (page_word bits + 4 * more) ≡ bits
lowest bits more =
    let n : ℕ = page_word bits + 4 * more in
    let d = small_one bits.dirty in
    let w = small_one bits.writeback in
    let low : n % 2 ≡ one_if bits.dirty = omega arith in
    let high : n / 2 % 2 ≡ one_if bits.writeback = omega arith in
    let x = ap (λ (m : ℕ). eqb m 1) low ∙ read_back bits.dirty in
    let y = ap (λ (m : ℕ). eqb m 1) high ∙ read_back bits.writeback in
    λ i. record { dirty = x i; writeback = y i }

lowest_code : (n : ℕ) → page_word (bits_in n) ≡ n % 4
lowest_code n = let x = one_back (n % 2) (omega arith) in let y = one_back (n / 2 % 2) (omega arith) in omega arith

-- the pages above the lowest one
above : (n more j : ℕ) → n / 4 ≡ more → n / 2 ^ (2 * suc j) ≡ more / 2 ^ (2 * j)
above n more j is =
    let twice : 2 * suc j ≡ 2 + 2 * j = omega arith in
    ap (λ (k : ℕ). n / 2 ^ k) twice ∙ (ap (λ (k : ℕ). n / k) (pow-add 2 2 (2 * j))
    ∙ (sym (div-div-eq-div-mul n 4 (2 ^ (2 * j))) ∙ ap (λ (k : ℕ). k / 2 ^ (2 * j)) is))

packed_fits : (pages : ℕ) (f : ℕ → Bits) → packed_pages pages f < 4 ^ pages
unfolding packed_pages
packed_fits zero f = omega arith
packed_fits (suc n) f = let rest = packed_fits n (λ j. f (suc j)) in let c = small_code (f 0) in omega arith

packed_holds : (pages : ℕ) (f : ℕ → Bits) (j : ℕ) → j < pages → bits_in (packed_pages pages f / 2 ^ (2 * j)) ≡ f j
unfolding packed_pages
packed_holds zero f j less = absurd (omega arith)
packed_holds (suc n) f zero less =
    let more : ℕ = packed_pages n (λ j. f (suc j)) in
    let whole : (page_word (f 0) + 4 * more) / 1 ≡ page_word (f 0) + 4 * more = omega arith in ap bits_in whole ∙ lowest (f 0) more
packed_holds (suc n) f (suc j) less =
    let more : ℕ = packed_pages n (λ k. f (suc k)) in
    let c = small_code (f 0) in
    ap bits_in (above (page_word (f 0) + 4 * more) more j (omega arith)) ∙ packed_holds n (λ k. f (suc k)) j (omega arith)

-- a number that tells each page is their word
packed_is_told : (pages n : ℕ) (f : ℕ → Bits) → n < 4 ^ pages → ((j : ℕ) → j < pages → bits_in (n / 2 ^ (2 * j)) ≡ f j)
    → n ≡ packed_pages pages f
unfolding packed_pages
packed_is_told zero n f less tells = omega arith
packed_is_told (suc k) n f less tells =
    let rest = packed_is_told k (n / 4) (λ j. f (suc j)) (omega arith)
    (λ j l. sym (ap bits_in (above n (n / 4) j refl)) ∙ tells (suc j) (omega arith)) in
    let whole : n ≡ n / 1 = omega arith in
    let first : page_word (bits_in n) ≡ page_word (f 0) = ap page_word (ap bits_in whole ∙ tells 0 (omega arith)) in
    let low = lowest_code n in omega arith

pub shared_word_fits : SharedWordFits
shared_word_fits book page = packed_fits 32 (λ j. book (32 * (page / 32) + j))

holds : (book : Book) (page other : ℕ) → other / 32 ≡ page / 32 → bits_at (shared_word book page) other ≡ book other
holds book page other same = let its : 32 * (page / 32) + other % 32 ≡ other = omega arith in
    packed_holds 32 (λ j. book (32 * (page / 32) + j)) (other % 32) (omega arith) ∙ ap book its

pub word_holds_page : WordHoldsPage
word_holds_page book page = holds book page page refl

pub word_holds_neighbours : WordHoldsNeighbours
word_holds_neighbours book page other same = record {
  one_word = ap (λ (n : ℕ). packed_pages 32 (λ j. book (32 * n + j))) same;
  is_read = holds book page other same;
}

pub word_tells_pages : WordTellsPages
word_tells_pages book book' page other same is = sym (holds book page other same)
    ∙ (ap (λ (n : ℕ). bits_at n other) is ∙ holds book' page other same)

pub word_is_told : WordIsTold
word_is_told book page word small tells = packed_is_told 32 word (λ j. book (32 * (page / 32) + j)) small
    (λ j less. let its : j ≡ (32 * (page / 32) + j) % 32 = omega arith in ap (λ (k : ℕ). bits_in (word / 2 ^ (2 * k))) its
    ∙ tells (32 * (page / 32) + j) (omega arith))

pub word_put : WordPut
word_put book page bits word change = word_is_told (put book page bits) page word change.fits
    (λ other same. put_each book page bits (λ q b. q / 32 ≡ page / 32 → bits_at word q ≡ b) (λ here. change.here)
    (λ q apart one. change.neighbours q (λ e. apart (omega arith)) ∙ holds book page q one) other same)

pub other_words_stay : OtherWordsStay
other_words_stay book page other bits apart =
    word_is_told book other (shared_word (put book page bits) other) (shared_word_fits (put book page bits) other)
    (λ q same. holds (put book page bits) other q same ∙ put_other book page bits q (λ e. apart (omega arith)))

-- the bits of a page one by one
bits_are : (n k : ℕ) (bits : Bits) → eqb (bit_at n k) 1 ≡ bits.dirty → eqb (bit_at n (k + 1)) 1 ≡ bits.writeback
    → bits_in (n / 2 ^ k) ≡ bits
bits_are n k bits d w =
    let half : n / 2 ^ k / 2 ≡ n / 2 ^ (k + 1) = div-div-eq-div-mul n (2 ^ k) 2 ∙ sym (ap (λ (m : ℕ). n / m) (pow-add 2 k 1)) in
    let y = ap (λ (m : ℕ). eqb (m % 2) 1) half ∙ w in
    λ i. record { dirty = d i; writeback = y i }

its_writeback : (n k : ℕ) → eqb (bit_at n (k + 1)) 1 ≡ (bits_in (n / 2 ^ k)).writeback
its_writeback n k = sym (ap (λ (b : Bits). b.writeback)
    (bits_are n k (record { dirty = eqb (bit_at n k) 1; writeback = eqb (bit_at n (k + 1)) 1 }) refl refl))

same_bits : (m n k : ℕ) → bit_at m k ≡ bit_at n k → bit_at m (k + 1) ≡ bit_at n (k + 1) → bits_in (m / 2 ^ k) ≡ bits_in (n / 2 ^ k)
same_bits m n k low high = bits_are m k (bits_in (n / 2 ^ k)) (ap (λ (x : ℕ). eqb x 1) low)
    (ap (λ (x : ℕ). eqb x 1) high ∙ its_writeback n k)

-- a mask put in or taken out, bit by bit
mask_is : (k : ℕ) → k < 64 → 1 * 2 ^ k % 2 ^ 64 ≡ 2 ^ k
mask_is k less = let small : 2 ^ k < 2 ^ 64 = pow-lt less in omega arith

module _ (n k : ℕ) (less : k < 64) where
  set_same : bit_at (bit_or n (2 ^ k)) k ≡ 1
  set_same = subst (λ (m : ℕ). bit_at (bit_or n m) k ≡ 1) (mask_is k less) (bit_at_set_same w64 n k less)

  set_other : (i : ℕ) → i ≢ k → bit_at (bit_or n (2 ^ k)) i ≡ bit_at n i
  set_other i apart = subst (λ (m : ℕ). bit_at (bit_or n m) i ≡ bit_at n i) (mask_is k less) (bit_at_set_other w64 n k less i apart)

  clear_same : bit_at (bit_and n (all_but (2 ^ k))) k ≡ 0
  clear_same = subst (λ (m : ℕ). bit_at (bit_and n (all_but m)) k ≡ 0) (mask_is k less) (bit_at_clear_same w64 n k less)

  clear_other : (i : ℕ) → i < 64 → i ≢ k → bit_at (bit_and n (all_but (2 ^ k))) i ≡ bit_at n i
  clear_other i fits apart = subst (λ (m : ℕ). bit_at (bit_and n (all_but m)) i ≡ bit_at n i) (mask_is k less)
      (bit_at_clear_other w64 n k less i fits apart)

  set_fits : n < 2 ^ 64 → bit_or n (2 ^ k) < 2 ^ 64
  set_fits fits = or_lt 64 n (2 ^ k) fits (pow-lt less)

  clear_fits : n < 2 ^ 64 → bit_and n (all_but (2 ^ k)) < 2 ^ 64
  clear_fits fits = let less = and_le_l n (all_but (2 ^ k)) in omega arith

pub masks_change_pages : MasksChangePages
masks_change_pages n page small =
    let k : ℕ = shift_of page in
    let low : k < 64 = omega arith in
    let high : k + 1 < 64 = omega arith in
    let is_one = λ (x : ℕ). eqb x 1 in
    record {
      sets_dirty = record {
        fits = set_fits n k low small;
        here = bits_are (bit_or n (2 ^ k)) k (record (bits_at n page) { dirty = true }) (ap is_one (set_same n k low))
            (ap is_one (set_other n k low (k + 1) (λ e. omega arith)) ∙ its_writeback n k);
        neighbours = λ other apart. same_bits (bit_or n (2 ^ k)) n (shift_of other)
            (set_other n k low (shift_of other) (λ e. apart (omega arith)))
            (set_other n k low (shift_of other + 1) (λ e. omega arith));
      };
      sets_writeback = record {
        fits = set_fits n (k + 1) high small;
        here = bits_are (bit_or n (2 ^ (k + 1))) k (record (bits_at n page) { writeback = true })
            (ap is_one (set_other n (k + 1) high k (λ e. omega arith))) (ap is_one (set_same n (k + 1) high));
        neighbours = λ other apart. same_bits (bit_or n (2 ^ (k + 1))) n (shift_of other)
            (set_other n (k + 1) high (shift_of other) (λ e. omega arith))
            (set_other n (k + 1) high (shift_of other + 1) (λ e. apart (omega arith)));
      };
      clears_dirty = record {
        fits = clear_fits n k low small;
        here = bits_are (bit_and n (all_but (2 ^ k))) k (record (bits_at n page) { dirty = false }) (ap is_one (clear_same n k low))
            (ap is_one (clear_other n k low (k + 1) high (λ e. omega arith)) ∙ its_writeback n k);
        neighbours = λ other apart. same_bits (bit_and n (all_but (2 ^ k))) n (shift_of other)
            (clear_other n k low (shift_of other) (omega arith) (λ e. apart (omega arith)))
            (clear_other n k low (shift_of other + 1) (omega arith) (λ e. omega arith));
      };
      clears_writeback = record {
        fits = clear_fits n (k + 1) high small;
        here = bits_are (bit_and n (all_but (2 ^ (k + 1)))) k (record (bits_at n page) { writeback = false })
            (ap is_one (clear_other n (k + 1) high k low (λ e. omega arith))) (ap is_one (clear_same n (k + 1) high));
        neighbours = λ other apart. same_bits (bit_and n (all_but (2 ^ (k + 1)))) n (shift_of other)
            (clear_other n (k + 1) high (shift_of other) (omega arith) (λ e. omega arith))
            (clear_other n (k + 1) high (shift_of other + 1) (omega arith) (λ e. apart (omega arith)));
      };
    }

-- a page that is given back: its writeback bit goes, then its dirty bit comes
back_changes : (word page : ℕ) → word < 2 ^ 64 → ChangesPage page given_back word (back_in word page)
back_changes word page small =
    let taken = (masks_change_pages word page small).clears_writeback in
    let put_in = (masks_change_pages (bit_and word (all_but (2 ^ (shift_of page + 1)))) page taken.fits).sets_dirty in
    record {
      fits = put_in.fits;
      here = put_in.here ∙ ap (λ (b : Bits). record b { dirty = true }) taken.here;
      neighbours = λ other apart. put_in.neighbours other apart ∙ taken.neighbours other apart;
    }

pub event_changes_page : EventChangesPage
event_changes_page (Dirty p) word small = (masks_change_pages word p small).sets_dirty
event_changes_page (Claim p) word small =
    let taken = (masks_change_pages word p small).clears_dirty in
    let put_in = (masks_change_pages (bit_and word (all_but (2 ^ shift_of p))) p taken.fits).sets_writeback in
    record {
      fits = put_in.fits;
      here = put_in.here ∙ ap (λ (b : Bits). record b { writeback = true }) taken.here;
      neighbours = λ other apart. put_in.neighbours other apart ∙ taken.neighbours other apart;
    }
event_changes_page (Complete p) word small = (masks_change_pages word p small).clears_writeback
event_changes_page (Redirty p) word small = back_changes word p small
event_changes_page (Absorb p) word small = back_changes word p small

pub event_follows : EventFollows
event_follows book event =
    let p : ℕ = page_of event in
    let word : ℕ = shared_word book p in
    word_put book p (bits_after event (book p)) (word_after event word)
    (subst (λ (b : Bits). ChangesPage p (bits_after event b) word (word_after event word)) (holds book p p refl)
    (event_changes_page event word (shared_word_fits book p)))

pub spots_fit : SpotsFit
spots_fit pages page less few = record { word_is = omega arith; few_words = omega arith; bits_fit = omega arith }

pub spot_tells_page : SpotTellsPage
spot_tells_page page other same_word same_place = omega arith

-- a bit of a word, read from the word moved down
module _ (word : ℕ) where
  lowest_bit : (k : ℕ) → IsTrue (eqb (word / 2 ^ k % 2) 1) ↔ IsBitSet word k
  lowest_bit k =
      let low : bit_and (word / 2 ^ k) 1 ≡ word / 2 ^ k % 2 = and_mask (word / 2 ^ k) 1 in
      let shifted : (bit_and (word / 2 ^ k) 1 ≡ 1) ↔ IsBitSet word k = bit_set_by_shift word k in
      (λ t. shifted.0 (low ∙ eqb-true (word / 2 ^ k % 2) 1 t), λ set. eq-eqb (word / 2 ^ k % 2) 1 (sym low ∙ shifted.1 set))

  pub dirty_bit : (k : ℕ) (b : Bool) → b ≡ (bits_in (word / 2 ^ k)).dirty → IsTrue b ↔ IsBitSet word k
  dirty_bit k b is = subst (λ (x : Bool). IsTrue x ↔ IsBitSet word k) (sym is) (lowest_bit k)

  pub writeback_bit : (k : ℕ) (b : Bool) → b ≡ (bits_in (word / 2 ^ k)).writeback → IsTrue b ↔ IsBitSet word (k + 1)
  writeback_bit k b is = subst (λ (x : Bool). IsTrue x ↔ IsBitSet word (k + 1)) (sym (is ∙ sym (its_writeback word k)))
      (lowest_bit (k + 1))
