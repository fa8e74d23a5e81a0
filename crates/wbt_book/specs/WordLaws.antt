-- The laws of words that many pages share.
use Rattle.std.specs.Prelude.{◌≡◌, ◌≢◌, ℕ, ◌+◌, ◌^◌, ◌<◌, ◌≤◌, true, false, bit_or, bit_and}
use Rattle.wbt_num.specs.declared.most.TheConstants.{MOST_PAGES}
use Rattle.wbt_counter.specs.Sums.{put}
use Rattle.wbt_book.specs.declared.event.Event.{Event}
use Rattle.wbt_book.specs.Book.{Bits, Book, bits_after}
use Rattle.wbt_book.specs.PageWords.{word_of, place_of, shift_of, words_for, dirty_mask, writeback_mask, all_but, bits_at, shared_word, ChangesPage, page_of, word_after}

-- a page is read back from its word
abbrev pub WordHoldsPage : Type 0
WordHoldsPage = (book : Book) (page : ℕ) → bits_at (shared_word book page) page ≡ book page

-- and so is each that shares the word, which is one for all of them
pub record IsSharedWith (book : Book) (page other : ℕ) : Type 0 where
  pub one_word : shared_word book other ≡ shared_word book page
  pub is_read : bits_at (shared_word book page) other ≡ book other

-- as long as both stand in it
abbrev pub WordHoldsNeighbours : Type 0
WordHoldsNeighbours = (book : Book) (page other : ℕ) → word_of other ≡ word_of page → IsSharedWith book page other

-- so words tell their pages one to one: where a page differs, the word of each neighbour does
abbrev pub WordTellsPages : Type 0
WordTellsPages = (book book' : Book) (page other : ℕ) → word_of other ≡ word_of page
    → shared_word book page ≡ shared_word book' page → book other ≡ book' other

-- a number that tells each page of a word is the word
abbrev pub WordIsTold : Type 0
WordIsTold = (book : Book) (page word : ℕ) → word < 2 ^ 64
    → ((other : ℕ) → word_of other ≡ word_of page → bits_at word other ≡ book other) → word ≡ shared_word book page

-- so the word that changes one page alone is that of the book with the page changed
abbrev pub WordPut : Type 0
WordPut = (book : Book) (page : ℕ) (bits : Bits) (word : ℕ) → ChangesPage page bits (shared_word book page) word
    → word ≡ shared_word (put book page bits) page

-- and the other words stay
abbrev pub OtherWordsStay : Type 0
OtherWordsStay = (book : Book) (page other : ℕ) (bits : Bits) → word_of other ≢ word_of page
    → shared_word (put book page bits) other ≡ shared_word book other

-- to put a mask in, or to take it out, changes one bit of one page
pub record MasksChange (word page : ℕ) : Type 0 where
  pub sets_dirty : ChangesPage page (record (bits_at word page) { dirty = true }) word (bit_or word (dirty_mask page))
  pub sets_writeback : ChangesPage page (record (bits_at word page) { writeback = true }) word (bit_or word (writeback_mask page))
  pub clears_dirty : ChangesPage page (record (bits_at word page) { dirty = false }) word (bit_and word (all_but (dirty_mask page)))
  pub clears_writeback : ChangesPage page (record (bits_at word page) { writeback = false }) word
      (bit_and word (all_but (writeback_mask page)))

-- whatever stands in the word
abbrev pub MasksChangePages : Type 0
MasksChangePages = (word page : ℕ) → word < 2 ^ 64 → MasksChange word page

-- each event changes its page alone
abbrev pub EventChangesPage : Type 0
EventChangesPage = (event : Event) (word : ℕ) → word < 2 ^ 64
    → ChangesPage (page_of event) (bits_after event (bits_at word (page_of event))) word (word_after event word)

-- and makes of the book's word that of the book after it
abbrev pub EventFollows : Type 0
EventFollows = (book : Book) (event : Event)
    → word_after event (shared_word book (page_of event))
    ≡ shared_word (put book (page_of event) (bits_after event (book (page_of event)))) (page_of event)

-- words and places in range, for each page of so many
pub record SpotFits (pages page : ℕ) : Type 0 where
  pub word_is : word_of page < words_for pages
  pub few_words : words_for pages ≤ 2 ^ 16
  pub bits_fit : shift_of page + 1 < 64

-- and pages are never more than a machine may have
abbrev pub SpotsFit : Type 0
SpotsFit = (pages page : ℕ) → page < pages → pages ≤ MOST_PAGES → SpotFits pages page

-- no two pages share a place, and each word fits
abbrev pub SpotTellsPage : Type 0
SpotTellsPage = (page other : ℕ) → word_of other ≡ word_of page → place_of other ≡ place_of page → other ≡ page

-- thirty-two pages fill a word
abbrev pub SharedWordFits : Type 0
SharedWordFits = (book : Book) (page : ℕ) → shared_word book page < 2 ^ 64
