use Rattle.std.proofs.Common.{◌+◌, ℕ, sym, ap, ◌∙◌}
use Rattle.wbt_flex.specs.declared.half.Half.{Half}
use Rattle.wbt_flex.specs.Proportions.{after_period}
use Rattle.wbt_flex.proofs.Halving.{halved_is}
use Rattle.wbt_fraction.specs.Words.{period_of, events_of, word_of}
use Rattle.wbt_fraction.specs.Words.{half_of}
use Rattle.wbt_fraction.proofs.Answering.{begun_is}
use Rattle.wbt_fraction.proofs.domain.calls.begun_word.Goals as goal

pub returns-in-Some-clause-some : goal.returns-in-Some-clause-some
returns-in-Some-clause-some c =
    let word : ℕ = c.args.word in
    let k : ℕ = c.args.k in
    let t = begun_is (half_of word) c.in-Some.after k (sym c.in-Some.is ∙ c.new_period.ensures.value ∙ ap (λ (h : Half). after_period h k) c.unpack.ensures) in (
      t.0,
      t.1,
      c.pack.ensures ∙ ap (λ (h : Half). word_of h.period h.events) t.2 ∙ ap (word_of (period_of word + k)) (sym (halved_is k (events_of word))),
    )
