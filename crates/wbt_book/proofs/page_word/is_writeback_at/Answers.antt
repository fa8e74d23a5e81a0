use Rattle.std.proofs.Common.{ℕ, ◌/◌, ◌^◌, ap, ◌∙◌}
use Rattle.wbt_book.specs.Book.{bits_in}
use Rattle.wbt_book.specs.PageWords.{shift_of}
use Rattle.wbt_book.proofs.PageWords.{writeback_bit}
use Rattle.wbt_book.proofs.page_word.is_writeback_at.Goals as goal

pub returns-clause-bit : goal.returns-clause-bit
returns-clause-bit c = writeback_bit c.args.word (shift_of c.args.page) c.is_writeback.result
    (c.is_writeback.ensures.in_book ∙ ap (λ (k : ℕ). (bits_in (c.args.word / 2 ^ k)).writeback) c.spot_of.ensures.shift)
