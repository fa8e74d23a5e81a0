-- The list of the pages that are left tells the book.
use Rattle.std.proofs.Common.{◌≡◌, ◌≢◌, ℕ, zero, suc, ◌+◌, ◌<◌, ◌≤◌, Bool, true, false, ◌&&◌, cond, eqb, List, ◌∷◌, refl, sym, ◌∙◌, ap, arith, ⊎_elim, eq-eqb, ne_eqb}
use Rattle.std.specs.List.{count_by}
use Rattle.std.proofs.lemmas.Bool.{cases_eq}
use Rattle.std.proofs.lemmas.Bool.Decides.{nat_tests}
use Rattle.std.proofs.lemmas.List.Sums.{sum_by-cons}
use Rattle.wbt_replay_order.proofs.Common.{Trace, Bits, Book, page_word, one_if, Left, TellsLeft, left_from, last_state, journal_of, Sound}
use Rattle.wbt_journal.specs.Text.{is_left_dirty, is_left_writeback}

-- a bit of a page, and what a line of the list says of it
pub record Bit : Type 0 where
  pub of : Bits → Bool
  pub said : Left → Bool

pub record IsTold (bit : Bit) : Type 0 where
  pub clean : (bits : Bits) → page_word bits ≡ 0 → bit.of bits ≡ false
  pub told : (page : ℕ) (bits : Bits) → bit.said (record { page = page; word = page_word bits }) ≡ bit.of bits

module _ (bit : Bit) (is : IsTold bit) (book : Book) (p : ℕ) where
  abbrev Counts : (lefts : List Left) → ℕ
  Counts lefts = count_by (λ (l : Left). eqb l.page p && bit.said l) lefts

  abbrev line_of : (page : ℕ) → Left
  line_of page = record { page = page; word = page_word (book page) }

  -- one line more
  one_more : (page : ℕ) (more : List Left) → Counts (line_of page ∷ more) ≡ cond (eqb page p && bit.said (line_of page)) 1 0 + Counts more
  one_more page more = sum_by-cons (λ (l : Left). cond (eqb l.page p && bit.said l) 1 0) (line_of page) more

  -- a line of another page, and of this one
  other_line : (page : ℕ) (more : List Left) → page ≢ p → Counts (line_of page ∷ more) ≡ Counts more
  other_line page more other =
      let none : eqb page p ≡ false = ne_eqb page p other in
      let nothing : 0 + Counts more ≡ Counts more = omega arith in
      one_more page more ∙ (ap {A = Bool} {B = ℕ} (λ b. cond (b && bit.said (line_of page)) 1 0 + Counts more) none ∙ nothing)

  past : (n page : ℕ) → p < page → Counts (left_from n page book) ≡ 0
  past zero page less = refl
  past (suc n) page less = by_word (eqb (page_word (book page)) 0) (past n (page + 1) (omega (arith, less)))
    where
      by_word : (b : Bool) → Counts (left_from n (page + 1) book) ≡ 0
          → Counts (cond b (left_from n (page + 1) book) (line_of page ∷ left_from n (page + 1) book)) ≡ 0
      by_word true none = none
      by_word false none = other_line page (left_from n (page + 1) book) (λ e. omega (arith, e, less)) ∙ none

  pub counts_bit : (n page : ℕ) → page ≤ p → p < page + n → Counts (left_from n page book) ≡ one_if (bit.of (book p))
  counts_bit zero page low high = absurd (omega (arith, low, high))
  counts_bit (suc n) page low high = ⊎_elim
      (λ same. by_here (eqb (page_word (book page)) 0) refl same (past n (page + 1) (omega (arith, same))))
      (λ other. by_there (eqb (page_word (book page)) 0) other (counts_bit n (page + 1) (omega (arith, low, other)) (omega (arith, high))))
      (cases_eq page p)
    where
      by_here : (b : Bool) → eqb (page_word (book page)) 0 ≡ b → page ≡ p → Counts (left_from n (page + 1) book) ≡ 0
          → Counts (cond b (left_from n (page + 1) book) (line_of page ∷ left_from n (page + 1) book)) ≡ one_if (bit.of (book p))
      by_here true word same none =
          let zero_word : page_word (book page) ≡ 0 = grind (arith, nat_tests) in
          none ∙ sym (ap one_if (ap (λ (k : ℕ). bit.of (book k)) (sym same) ∙ is.clean (book page) zero_word))
      by_here false word same none =
          let said = is.told page (book page) ∙ ap (λ (k : ℕ). bit.of (book k)) same in
          let here : eqb page p ≡ true = eq-eqb page p same in
          one_more page (left_from n (page + 1) book)
          ∙ (ap {A = Bool} {B = ℕ} (λ b. cond (b && bit.said (line_of page)) 1 0 + Counts (left_from n (page + 1) book)) here
          ∙ (ap {A = Bool} {B = ℕ} (λ b. cond b 1 0 + Counts (left_from n (page + 1) book)) said ∙ last (bit.of (book p)) none))
        where
          last : (b : Bool) → Counts (left_from n (page + 1) book) ≡ 0 → cond b 1 0 + Counts (left_from n (page + 1) book) ≡ one_if b
          last true none = omega (arith, none)
          last false none = omega (arith, none)

      by_there : (b : Bool) → page ≢ p → Counts (left_from n (page + 1) book) ≡ one_if (bit.of (book p))
          → Counts (cond b (left_from n (page + 1) book) (line_of page ∷ left_from n (page + 1) book)) ≡ one_if (bit.of (book p))
      by_there true other rest = rest
      by_there false other rest = other_line page (left_from n (page + 1) book) other ∙ rest

dirty_bit : Bit
dirty_bit = record { of = λ bits. bits.dirty; said = λ l. is_left_dirty l }

writeback_bit : Bit
writeback_bit = record { of = λ bits. bits.writeback; said = λ l. is_left_writeback l }

dirty_told : IsTold dirty_bit
unfolding dirty_bit
dirty_told = record { clean = λ bits. clean bits.dirty bits.writeback; told = λ page bits. told page bits.dirty bits.writeback }
  where
    clean : (d w : Bool) → page_word (record { dirty = d; writeback = w }) ≡ 0 → d ≡ false
    clean true w none = absurd (omega (arith, none))
    clean false w none = refl

    told : (page : ℕ) (d w : Bool) → is_left_dirty (record { page = page; word = page_word (record { dirty = d; writeback = w }) }) ≡ d
    told page true true = refl
    told page true false = refl
    told page false true = refl
    told page false false = refl

writeback_told : IsTold writeback_bit
unfolding writeback_bit
writeback_told = record { clean = λ bits. clean bits.dirty bits.writeback; told = λ page bits. told page bits.dirty bits.writeback }
  where
    clean : (d w : Bool) → page_word (record { dirty = d; writeback = w }) ≡ 0 → w ≡ false
    clean d true none = absurd (omega (arith, none))
    clean d false none = refl

    told : (page : ℕ) (d w : Bool) → is_left_writeback (record { page = page; word = page_word (record { dirty = d; writeback = w }) }) ≡ w
    told page true true = refl
    told page true false = refl
    told page false true = refl
    told page false false = refl

pub tells_left : (trace : Trace) → Sound trace (last_state trace) → TellsLeft trace
unfolding journal_of dirty_bit writeback_bit
tells_left trace sound = record {
  dirty = λ p less. counts_bit dirty_bit dirty_told (last_state trace).book p (last_state trace).pages 0 (omega arith) (omega (arith, less, sound.holds.pages));
  writeback = λ p less. counts_bit writeback_bit writeback_told (last_state trace).book p (last_state trace).pages 0 (omega arith) (omega (arith, less, sound.holds.pages));
}
