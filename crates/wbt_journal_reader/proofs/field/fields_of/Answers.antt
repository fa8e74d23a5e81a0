use Rattle.std.proofs.Common.{◌≡◌, List, [], ◌∷◌, ◌++◌, sym, ◌∙◌, ap, subst, append_assoc}
use Rattle.wbt_journal.specs.declared.field.Field.{Field}
use Rattle.wbt_journal_reader.specs.Fields.{AreFields}
use Rattle.wbt_journal_reader.proofs.Fields.{once, one_more, only_more, only_last}
use Rattle.wbt_journal_reader.proofs.field.fields_of.Goals as goal

pub returns-in-None-field_of-clause-none : goal.returns-in-None-field_of-clause-none
returns-in-None-field_of-clause-none c = λ fs are.
    let left = c.fields.invariant.only fs are in
    let last = only_last _ left.0 c.in-None.ensures.none left.1 in
    c.in-None-field_of.ensures.none last.f last.is

pub returns-in-None-field_of-2-clause-none : goal.returns-in-None-field_of-2-clause-none
returns-in-None-field_of-2-clause-none c = λ fs are.
    let left = c.fields.invariant.only fs are in
    let cut = c.in-Some.ensures.found in
    let parts = only_more _ _ _ left.0 cut.0 cut.1 left.1 in
    c.in-None-field_of-2.ensures.none parts.f parts.is

pub fields-preserved : goal.fields-preserved
fields-preserved c =
    let cut = c.in-Some.ensures.found in
    let f = c.in-Some-field_of-2.field in
    let is = c.in-Some-field_of-2.ensures.found in
    let items = c.in_ok-push-in-Some-field_of-2.ensures.items in
    let joined : (gs : List Field) → c.push-in-Some-field_of-2.new.self.items ++ gs ≡ c.fields.found.items ++ f ∷ gs =
    λ gs. ap (λ (l : List Field). l ++ gs) items ∙ append_assoc c.fields.found.items (f ∷ []) gs in
    record {
      on = λ gs are.
          let all = c.fields.invariant.on (f ∷ gs) (one_more f _ _ _ gs is cut.0 are) in
          subst (AreFields c.args.text.now) (sym (joined gs)) all;
      only = λ fs are.
          let left = c.fields.invariant.only fs are in
          let parts = only_more _ _ _ left.0 cut.0 cut.1 left.1 in
          let same : parts.f ≡ f = once _ parts.f f parts.is is in (
            parts.gs,
            parts.others,
            left.2 ∙ ap (λ (l : List Field). c.fields.found.items ++ l) (parts.all ∙ (λ i. same i ∷ parts.gs)) ∙ sym (joined parts.gs),
          );
    }
