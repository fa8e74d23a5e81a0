-- A word in which one page alone changed tells the book with this page changed, and each word is that of the book.
use Rattle.std.proofs.Common.{◌≡◌, ◌≢◌, ℕ, ◌<◌, ◌^◌, ◌/◌, Bool, true, false, List, length, get_or, set, refl, sym, ◌∙◌, ap, arith, ◌⊎◌, inl, inr, ⊎_elim, eqb, eqb-true, subst, bit_or, bit_and}
use Rattle.std.proofs.lemmas.Bool.{eqb-false}
use Rattle.std.proofs.Math.Path.{fun_ext}
use Rattle.std.proofs.lemmas.List.{get_or-set_other}
use Rattle.std.proofs.lemmas.Grind.{get_or-set_at}
use Rattle.wbt_counter.specs.Sums.{put}
use Rattle.wbt_counter.proofs.Sums.{put_each}
use Rattle.wbt_book.specs.declared.event.Event.{Event}
use Rattle.wbt_book.specs.declared.event.Event.TheVariants.{Dirty, Claim, Complete}
use Rattle.wbt_book.specs.Book.{Bits, bits_after}
use Rattle.wbt_book.specs.PageWords.{all_but, bits_at, ChangesPage, dirty_mask, page_of, shared_word, word_after, writeback_mask}
use Rattle.wbt_book.proofs.PageWords.{event_changes_page, word_is_told}
use Rattle.wbt_replay_moves.specs.Pages.{book_of}

split : (t : Bool) (a b : ℕ) → eqb a b ≡ t → (a ≡ b) ⊎ (a ≢ b)
split true a b e = inl (eqb-true a b e)
split false a b e = inr (eqb-false a b e)

pub book_put : (words : List ℕ) (page : ℕ) (bits : Bits) (v : ℕ) → page / 32 < length words
    → ChangesPage page bits (get_or words (page / 32) 0) v → book_of (set words (page / 32) v) ≡ put (book_of words) page bits
book_put words page bits v there change = fun_ext (λ q. put_each (book_of words) page bits
    (λ j b. bits_at (get_or (set words (page / 32) v) (j / 32) 0) j ≡ b)
    (ap (λ (w : ℕ). bits_at w page) (get_or-set_at words (page / 32) (page / 32) v 0 refl there) ∙ change.here)
    (λ j apart. ⊎_elim
    (λ same. ap (λ (w : ℕ). bits_at w j) (get_or-set_at words (page / 32) (j / 32) v 0 same there)
    ∙ (change.neighbours j (λ e. apart (omega arith)) ∙ ap (λ (n : ℕ). bits_at (get_or words n 0) j) (sym same)))
    (λ other. ap (λ (w : ℕ). bits_at w j) (get_or-set_other words (page / 32) (j / 32) v 0 other))
    (split (eqb (j / 32) (page / 32)) (j / 32) (page / 32) refl)) q)

pub word_told : (words : List ℕ) (page : ℕ) → get_or words (page / 32) 0 < 2 ^ 64
    → get_or words (page / 32) 0 ≡ shared_word (book_of words) page
word_told words page small = word_is_told (book_of words) page (get_or words (page / 32) 0) small
    (λ other same. ap (λ (n : ℕ). bits_at (get_or words n 0) other) (sym same))

module _ (words : List ℕ) (page : ℕ) (there : page / 32 < length words) (small : get_or words (page / 32) 0 < 2 ^ 64) where
  pub event_put : (event : Event) → page_of event ≡ page
      → book_of (set words (page / 32) (word_after event (get_or words (page / 32) 0)))
      ≡ put (book_of words) page (bits_after event (book_of words page))
  event_put event is = book_put words page (bits_after event (book_of words page)) (word_after event (get_or words (page / 32) 0)) there
      (subst (λ (p : ℕ). ChangesPage p (bits_after event (bits_at (get_or words (page / 32) 0) p)) (get_or words (page / 32) 0)
      (word_after event (get_or words (page / 32) 0))) is (event_changes_page event (get_or words (page / 32) 0) small))

  pub dirty_put : book_of (set words (page / 32) (bit_or (get_or words (page / 32) 0) (dirty_mask page)))
      ≡ put (book_of words) page (bits_after (Dirty page) (book_of words page))
  dirty_put = event_put (Dirty page) refl

  pub claim_put : (v : ℕ) → v ≡ word_after (Claim page) (get_or words (page / 32) 0)
      → book_of (set words (page / 32) v) ≡ put (book_of words) page (bits_after (Claim page) (book_of words page))
  claim_put v is = ap (λ (w : ℕ). book_of (set words (page / 32) w)) is ∙ event_put (Claim page) refl

  pub complete_put : book_of (set words (page / 32) (bit_and (get_or words (page / 32) 0) (all_but (writeback_mask page))))
      ≡ put (book_of words) page (bits_after (Complete page) (book_of words page))
  complete_put = event_put (Complete page) refl
