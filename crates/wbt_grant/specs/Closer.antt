-- A closer bound of a domain than the one that runs print, and the sum by which it is kept. No running code computes either.
use Rattle.std.specs.Prelude.{ℕ, ◌+◌, ◌-◌, ◌*◌, max, cond, nat_le}
use Rattle.wbt_counter.specs.Sums.{total}
use Rattle.wbt_counter.specs.Batch.{stat_error}
use Rattle.wbt_book.specs.Book.{Book}
use Rattle.wbt_grant.specs.declared.record.WriterRecord.{WriterRecord}
use Rattle.wbt_grant.specs.Setting.{Setting, is_inside, writers_of, contexts_of}
use Rattle.wbt_grant.specs.State.{context_count}
use Rattle.wbt_grant.specs.Bound.{slack, excess_limit}

-- twice the statistical error: a context that was let through by its own reading has at most so many pages
abbrev pub twice_error : (set : Setting) → ℕ
twice_error set = 2 * stat_error set.cpus

-- the pages of a context that its writers' slack doesn't cover
abbrev pub uncovered : (set : Setting) (d : ℕ) (book : Book) (writers : ℕ → WriterRecord) (k : ℕ) → ℕ
uncovered set d book writers k = context_count set book k - slack set d writers k

-- a number that counts only where it is above a least one
abbrev pub above : (least n : ℕ) → ℕ
above least n = cond (nat_le n least) 0 n

-- the uncovered pages of a domain's heavy contexts: those that have more than twice the error of them
abbrev pub weight : (set : Setting) (d : ℕ) (book : Book) (writers : ℕ → WriterRecord) → ℕ
weight set d book writers = total set.contexts (λ k. cond (is_inside set d k) (above (twice_error set) (uncovered set d book writers k)) 0)

-- The greater of the limit of the excess and twice the error; twice the error more for each context but one, and a cap for each writer
abbrev pub closer_bound : (set : Setting) (hard : ℕ → ℕ) (d : ℕ) → ℕ
closer_bound set hard d =
    max (excess_limit set hard d) (twice_error set) + twice_error set * (contexts_of set d - 1) + writers_of set d * set.cap
