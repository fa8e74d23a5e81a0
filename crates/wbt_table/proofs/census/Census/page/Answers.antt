use Rattle.std.proofs.Common.{◌≡◌, ◌/◌, ◌^◌, ◌+◌, ℕ, get_or, List, sym, ap, ◌∙◌}
use Rattle.wbt_book.specs.PageWords.{shift_of, bits_of}
use Rattle.wbt_table.proofs.Common.{page_at, Counted, word_at}
use Rattle.wbt_table.proofs.Lists.{at_read}
use Rattle.wbt_table.proofs.Closing.{bits_coded}
use Rattle.wbt_table.proofs.census.Census.page.Goals as goal

pub returns-clause-value : goal.returns-clause-value
returns-clause-value c =
    let items : List ℕ = c.self.inside.closed.words.items in
    let read = at_read items (1 + c.spot_of.result.word) c.word.result c.word.ensures 0 in
    let word : c.word.result ≡ word_at c.args.self.now (page_at c.args.page) = sym read ∙ ap (λ (n : ℕ). get_or items (1 + n) 0) c.spot_of.ensures.word
    ∙ ap (λ (z : Counted). word_at z (page_at c.args.page)) c.self.view_is in
    c.bits_of.ensures.value ∙ ap (λ (n : ℕ). bits_of n c.args.page) word

pub returns-clause-bits : goal.returns-clause-bits
returns-clause-bits c = returns-clause-value c ∙ sym (bits_coded (word_at c.args.self.now (page_at c.args.page) / 2 ^ shift_of c.args.page))
