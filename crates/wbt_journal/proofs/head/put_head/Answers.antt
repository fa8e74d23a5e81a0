use Rattle.std.proofs.Common.{◌≡◌, [], ◌∷◌, ◌++◌, drop, ◌∙◌, ap, arith}
use Rattle.std.proofs.lemmas.List.{drop_all}
use Rattle.std.specs.Fmt.{decimal}
use Rattle.wbt_journal.specs.declared.word.Word.TheVariants as word
use Rattle.wbt_journal.specs.Line.{field_text}
use Rattle.wbt_journal.specs.Steps as spec
use Rattle.wbt_journal.specs.Word.{word_text}
use Rattle.wbt_journal.proofs.head.put_head.Goals as goal

pub returns-clause-text : goal.returns-clause-text
returns-clause-text c =
    let step = c.args.step.now in
    let who = field_text (spec.who_field c.args.cpus step.who) in
    let room = c.args.room.now in
    let kind : drop c.put_word-kind.result c.put_word-kind.new.room ≡ 32 ∷ word_text (spec.kind_word step.kind) ++ [] =
    c.put_word-kind.ensures.text ∙ ap (λ w. 32 ∷ word_text w ++ drop 64 room) c.kind_word.ensures
    ∙ ap (λ t. 32 ∷ word_text (spec.kind_word step.kind) ++ t) (drop_all 64 room (omega arith)) in
    let text : c.as_bytes.result.now ≡ word_text word.Step = c.as_bytes.ensures.value ∙ c.text.ensures.value in
    c.put_bytes.ensures.text ∙ ap (λ t. t ++ drop c.put_natural-first.result c.put_natural-first.new.room) text
    ∙ ap (λ t. word_text word.Step ++ t)
    (c.put_natural-first.ensures.text ∙ ap (λ t. 32 ∷ decimal c.args.number ++ t) (c.put_who-who.ensures.text ∙ ap (λ t. 32 ∷ who ++ t) kind))
