use Rattle.std.proofs.Common.{◌≡◌, ◌+◌, ℕ, get_or, List, sym, ap, ◌∙◌, to_z-of_z, rules, w64}
use Rattle.wbt_table.proofs.Common.{version_in, shared_at, Counted, word_at}
use Rattle.wbt_counter.specs.Word.{count_in}
use Rattle.wbt_table.specs.Layout.{offsets}
use Rattle.wbt_table.proofs.Lists.{at_read}
use Rattle.wbt_table.proofs.census.Census.shared.Goals as goal

pub returns : goal.returns
returns c =
    let lay = ap (λ (z : Counted). z.layout) c.self.view_is in
    let off = c.self.invariant.2 ∙ ap offsets lay in
    let items : List ℕ = c.self.inside.closed.words.items in
    let read = at_read items (c.self.inside.offsets.shared + c.number.result) c.word-word.result c.word-word.ensures 0 in
    let word : c.word-word.result ≡ word_at c.args.self.now (shared_at c.args.self.now.layout c.args.counter) = sym read
    ∙ (λ i. get_or items ((off i).shared + c.number.ensures i) 0)
    ∙ ap (λ (z : Counted). word_at z (shared_at c.args.self.now.layout c.args.counter)) c.self.view_is in
    let version = c.version_of.ensures.value ∙ ap version_in word in
    let value = to_z-of_z {w = w64} (search rules) ∙ c.count_of.ensures.value ∙ ap count_in word in
    (λ i. record { version = version i; value = value i })
