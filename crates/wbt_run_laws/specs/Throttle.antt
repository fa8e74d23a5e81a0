-- The throttle of a trace, and the pages that are left in it.
use Rattle.std.specs.Prelude.{◌≡◌, ℕ, zero, suc, ◌<◌, ◌==◌, if◌then◌else◌, Some, List, [], ◌∷◌, length, get_or}
use Rattle.wbt_book.specs.Book.{Book, page_word}
use Rattle.wbt_grant.specs.Setting.{Setting}
use Rattle.wbt_trace.specs.declared.trace.Trace.{Trace}
use Rattle.wbt_trace.specs.declared.writers.Writer.{Writer}
use Rattle.wbt_journal.specs.Machine.{contexts, pages, page_context, context_domain}
use Rattle.wbt_journal.specs.Side.{all_writers}
use Rattle.wbt_journal.specs.declared.journal.Left.{Left}

-- a writer of the trace by its number
abbrev pub writer_at : (trace : Trace) (w : ℕ) → Writer
writer_at trace w = get_or (all_writers trace) w (record { task = 0; context = 0 })

-- the throttle has the trace's CPUs, cap, contexts, pages and writers, each page and each writer in its context
pub record IsThrottleOf (trace : Trace) (set : Setting) : Type 0 where
  pub cpus : set.cpus ≡ trace.cpus
  pub cap : set.cap ≡ trace.cap
  pub contexts_are : set.contexts ≡ contexts trace
  pub pages_are : set.pages ≡ pages trace
  pub writers_are : set.writers ≡ length (all_writers trace)
  pub groups : (context : ℕ) → set.group context ≡ context_domain trace context
  pub homes : (page : ℕ) → page < pages trace → page_context trace page ≡ Some (set.home page)
  pub homes_are : (page : ℕ) → page < pages trace → set.home page < contexts trace
  pub works_in : (w : ℕ) → w < length (all_writers trace) → set.works_in w ≡ (writer_at trace w).context

-- ---- what is left

-- a page with its word, but for a word of 0
abbrev pub with_left : (page word : ℕ) (more : List Left) → List Left
with_left page word more = if word == 0 then more else record { page = page; word = word } ∷ more

-- so many pages from one on, by the book
abbrev pub left_from : (book : Book) (page count : ℕ) → List Left
left_from book page zero = []
left_from book page (suc count) = with_left page (page_word (book page)) (left_from book (suc page) count)
