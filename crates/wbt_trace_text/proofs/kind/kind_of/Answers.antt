use Rattle.std.proofs.Common.{◌∷◌, ◌++◌, [], sym, ◌∙◌, ap, arith}
use Rattle.wbt_trace_text.specs.Lines.{kind_text}
use Rattle.wbt_trace_text.specs.declared.kind.Kind.{Kind}
use Rattle.wbt_trace_text.proofs.KindLaws.{place_of, place_in, at_place}
use Rattle.wbt_trace_text.proofs.kind.kind_of.Goals as goal

pub returns-clause-none : goal.returns-clause-none
returns-clause-none c = λ k is.
    c.loop-i.invariant (place_of k) (omega (arith, place_in k, c.loop-i-test.false)) (is ∙ ap (λ (j : Kind). kind_text j ++ 32 ∷ []) (sym (at_place k)))
