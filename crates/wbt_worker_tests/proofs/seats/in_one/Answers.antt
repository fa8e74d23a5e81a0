use Rattle.std.proofs.Common.{◌≡◌, suc, List, [], ◌∷◌, ◌++◌, length, get_or, ap, ◌∙◌, subst, arith, length-append}
use Rattle.std.proofs.lemmas.List.{get_or_append_left}
use Rattle.wbt_kit.specs.Kit.{AreSeatsOf}
use Rattle.wbt_kit.specs.declared.kit.Seats.{Seats}
use Rattle.wbt_worker_tests.proofs.seats.in_one.Goals as goal

pub join_each-requires-clause-parts : goal.join_each-requires-clause-parts
join_each-requires-clause-parts g c = λ k other less.
    let kit = c.args.kit.now in
    let rest : List Seats = c.pop.new.self.items in
    let last : Seats = c.in-Some.all in
    let is : c.args.parts.items ≡ rest ++ last ∷ [] = c.in-Some.ensures.items in
    let long : length c.args.parts.items ≡ suc (length rest) = (let e = ap (λ (l : List Seats). length l) is in omega (arith, length-append rest (last ∷ []))) in
    subst (AreSeatsOf kit) (ap (λ (l : List Seats). get_or l k other) is ∙ get_or_append_left rest (last ∷ []) other k less) (c.requires k other (omega arith))
