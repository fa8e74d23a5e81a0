use Rattle.std.proofs.Common.{◌≡◌, [], ◌∷◌, ◌++◌, drop, ◌∙◌, ap, arith}
use Rattle.std.proofs.lemmas.List.{drop_all}
use Rattle.wbt_journal.specs.Line.{fields_text}
use Rattle.wbt_journal.specs.Word.{word_text}
use Rattle.wbt_journal.proofs.line.put_line.Goals as goal

pub returns-clause-text : goal.returns-clause-text
returns-clause-text c =
    let fields = fields_text c.args.fields.now in
    let feed : drop c.put_byte-feed.result c.put_byte-feed.new.room ≡ 10 ∷ [] =
    c.put_byte-feed.ensures.text ∙ ap (λ t. 10 ∷ t) (drop_all 420 c.args.room.now (omega arith)) in
    let text : c.as_bytes.result.now ≡ word_text c.args.word = c.as_bytes.ensures.value ∙ c.text.ensures.value in
    c.put_bytes.ensures.text ∙ ap (λ t. t ++ drop c.put_fields-first.result c.put_fields-first.new.room) text
    ∙ ap (λ t. word_text c.args.word ++ t) (c.put_fields-first.ensures.text ∙ ap (λ t. fields ++ t) feed)
