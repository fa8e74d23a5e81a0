use Rattle.std.proofs.Common.{ℕ, ◌/◌, ◌^◌, ap, ◌∙◌}
use Rattle.wbt_book.specs.Book.{bits_in}
use Rattle.wbt_book.specs.PageWords.{shift_of}
use Rattle.wbt_book.proofs.PageWords.{dirty_bit}
use Rattle.wbt_book.proofs.page_word.is_dirty_at.Goals as goal

pub returns-clause-bit : goal.returns-clause-bit
returns-clause-bit c = dirty_bit c.args.word (shift_of c.args.page) c.is_dirty.result
    (c.is_dirty.ensures.in_book ∙ ap (λ (k : ℕ). (bits_in (c.args.word / 2 ^ k)).dirty) c.spot_of.ensures.shift)
