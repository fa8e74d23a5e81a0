use Rattle.std.proofs.Common.{◌≡◌, ℕ, List, [], ◌∷◌, ◌++◌, sym, ◌∙◌, ap, subst, arith, append_assoc}
use Rattle.std.proofs.lemmas.Fmt.{decimal_injective}
use Rattle.wbt_text.specs.Numbers.{AreNumbers}
use Rattle.wbt_text.proofs.Spaces.{one_more, only_more, only_last}
use Rattle.wbt_text.proofs.digits.numbers.Goals as goal

pub returns-in-None-number-clause-none : goal.returns-in-None-number-clause-none
returns-in-None-number-clause-none c = λ ns are.
    let left = c.fields.invariant.only ns are in
    let last = only_last _ left.0 c.in-None.ensures.none left.1 in
    c.in-None-number.ensures.none last.n (last.small, last.is)

pub returns-in-None-number-2-clause-none : goal.returns-in-None-number-2-clause-none
returns-in-None-number-2-clause-none c = λ ns are.
    let left = c.fields.invariant.only ns are in
    let cut = c.in-Some.ensures.found in
    let parts = only_more _ _ _ left.0 cut.0 cut.1 left.1 in
    c.in-None-number-2.ensures.none parts.n (parts.small, parts.is)

pub fields-preserved : goal.fields-preserved
fields-preserved c =
    let cut = c.in-Some.ensures.found in
    let n = c.in-Some-number-2.n in
    let number = c.in-Some-number-2.ensures.found in
    let items = c.in_ok-push-in-Some-number-2.ensures.items in
    let joined : (ms : List ℕ) → c.push-in-Some-number-2.new.self.items ++ ms ≡ c.fields.found.items ++ n ∷ ms =
    λ ms. ap (λ (l : List ℕ). l ++ ms) items ∙ append_assoc c.fields.found.items (n ∷ []) ms in
    record {
      on = λ ms are.
          let all = c.fields.invariant.on (n ∷ ms) (one_more n _ _ _ ms number.0 number.1 cut.0 are) in
          subst (AreNumbers c.args.text.now) (sym (joined ms)) all;
      only = λ ns are.
          let left = c.fields.invariant.only ns are in
          let parts = only_more _ _ _ left.0 cut.0 cut.1 left.1 in
          let same : parts.n ≡ n = decimal_injective parts.n n (omega (arith, parts.small)) (omega (arith, number.0)) (sym parts.is ∙ number.1) in (
            parts.ms,
            parts.others,
            left.2 ∙ ap (λ (l : List ℕ). c.fields.found.items ++ l) (parts.all ∙ (λ i. same i ∷ parts.ms)) ∙ sym (joined parts.ms),
          );
    }
