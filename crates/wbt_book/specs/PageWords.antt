-- Many pages a word, two bits a page: where a page has its bits, the word of the pages that share it, and what the events
-- make of a word. The bits of the page p are 2 * (p mod 32), dirty, and the next one, writeback, of the word p / 32.
use Rattle.std.specs.Prelude.{◌≡◌, ◌≢◌, ℕ, zero, suc, ◌+◌, ◌-◌, ◌*◌, ◌/◌, ◌%◌, ◌^◌, ◌<◌, bit_or, bit_and}
use Rattle.wbt_book.specs.declared.event.Event.{Event}
use Rattle.wbt_book.specs.declared.event.Event.TheVariants.{Dirty, Claim, Complete, Redirty, Absorb}
use Rattle.wbt_book.specs.declared.page_word.TheConstants.{PAGES_PER_WORD}
use Rattle.wbt_book.specs.Book.{Bits, Book, page_word, bits_in}

-- which word a page stands in, its place among the pages of the word, and the lower of its two bits
abbrev pub word_of : (page : ℕ) → ℕ
word_of page = page / PAGES_PER_WORD

-- the place of a page in its word, 0 to 31
abbrev pub place_of : (page : ℕ) → ℕ
place_of page = page % PAGES_PER_WORD

-- the lower of a page's two bits in its word, its dirty bit: an even number from 0 to 62
abbrev pub shift_of : (page : ℕ) → ℕ
shift_of page = 2 * place_of page

-- how many words so many pages take
abbrev pub words_for : (pages : ℕ) → ℕ
words_for pages = (pages + (PAGES_PER_WORD - 1)) / PAGES_PER_WORD

-- the numbers with just one of a page's bits
abbrev pub dirty_mask : (page : ℕ) → ℕ
dirty_mask page = 2 ^ shift_of page

-- the number with just the page's writeback bit
abbrev pub writeback_mask : (page : ℕ) → ℕ
writeback_mask page = 2 ^ (shift_of page + 1)

-- the number with all bits but those of a mask
abbrev pub all_but : (mask : ℕ) → ℕ
all_but mask = 2 ^ 64 - 1 - mask

-- the bits of a page in such a word
abbrev pub bits_at : (word page : ℕ) → Bits
bits_at word page = bits_in (word / 2 ^ shift_of page)

-- the same two bits as a number: bit 0 is dirty, bit 1 is writeback
abbrev pub bits_of : (word page : ℕ) → ℕ
bits_of word page = word / 2 ^ shift_of page % 4

-- the words of so many pages one above the other, the first page's lowest
unfoldable pub packed_pages : (pages : ℕ) (bits : ℕ → Bits) → ℕ
packed_pages zero bits = 0
packed_pages (suc n) bits = page_word (bits 0) + 4 * packed_pages n (λ j. bits (suc j))

-- the word of a page and of those that share it
abbrev pub shared_word : (book : Book) (page : ℕ) → ℕ
shared_word book page = packed_pages PAGES_PER_WORD (λ j. book (PAGES_PER_WORD * word_of page + j))

-- of the pages of a word one has new bits, and its neighbours keep theirs
pub record ChangesPage (page : ℕ) (bits : Bits) (old new : ℕ) : Type 0 where
  pub fits : new < 2 ^ 64
  pub here : bits_at new page ≡ bits
  pub neighbours : (other : ℕ) → place_of other ≢ place_of page → bits_at new other ≡ bits_at old other

-- the page that an event is about
abbrev pub page_of : (event : Event) → ℕ
page_of (Dirty p) = p
page_of (Claim p) = p
page_of (Complete p) = p
page_of (Redirty p) = p
page_of (Absorb p) = p

-- the word with the page given back: its writeback bit taken out, and its dirty bit put in
abbrev pub back_in : (word page : ℕ) → ℕ
back_in word page = bit_or (bit_and word (all_but (writeback_mask page))) (dirty_mask page)

-- what an event makes of its page's word: a mask is put in or taken out, and a claim or giving back does both in one exchange
abbrev pub word_after : (event : Event) (word : ℕ) → ℕ
word_after (Dirty p) word = bit_or word (dirty_mask p)
word_after (Claim p) word = bit_or (bit_and word (all_but (dirty_mask p))) (writeback_mask p)
word_after (Complete p) word = bit_and word (all_but (writeback_mask p))
word_after (Redirty p) word = back_in word p
word_after (Absorb p) word = back_in word p
