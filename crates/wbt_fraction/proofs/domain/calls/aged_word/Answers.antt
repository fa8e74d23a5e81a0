use Rattle.std.proofs.Common.{ap, ◌∙◌}
use Rattle.wbt_flex.specs.declared.half.Half.{Half}
use Rattle.wbt_flex.specs.Proportions.{aged}
use Rattle.wbt_fraction.specs.Words.{word_of}
use Rattle.wbt_fraction.proofs.Answering.{aged_is}
use Rattle.wbt_fraction.proofs.domain.calls.aged_word.Goals as goal

pub returns : goal.returns
returns c =
    c.pack.ensures ∙ ap (λ (h : Half). word_of h.period h.events) (c.age.ensures.value ∙ ap (λ (h : Half). aged h c.args.period) c.unpack.ensures)
    ∙ aged_is c.args.word c.args.period
