-- The pages of a machine: how many there are, and their words, 32 pages a word, which tell the book.
use Rattle.std.specs.Prelude.{ℕ, List, get_or}
use Rattle.wbt_book.specs.Book.{Book}
use Rattle.wbt_book.specs.PageWords.{word_of, bits_at}

-- the pages in memory: how many there are, and their words
pub record Paged : Type 0 where
  pub count : ℕ
  pub words : List ℕ

-- the book that the words of the pages tell
abbrev pub book_of : (words : List ℕ) → Book
book_of words = λ page. bits_at (get_or words (word_of page) 0) page
