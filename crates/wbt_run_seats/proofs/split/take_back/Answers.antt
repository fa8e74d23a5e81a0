use Rattle.std.proofs.Common.{◌≡◌, ℕ, suc, ◌-◌, ◌≤◌, List, [], ◌∷◌, ◌++◌, length, get_or, sym, ap, ◌∙◌, subst, arith, length-append}
use Rattle.std.proofs.lemmas.List.{get_or_append_left}
use Rattle.wbt_kit.proofs.Common.{CanSplit, AreSeatsOf}
use Rattle.wbt_kit.specs.declared.kit.Seats.{Seats}
use Rattle.wbt_run_seats.specs.Parts.{rest_of, parts_of, AreBack}
use Rattle.wbt_run_seats.proofs.Undoing.{last_back}
use Rattle.wbt_run_seats.proofs.split.take_back.Goals as goal

pub loop-part-preserved : goal.loop-part-preserved
loop-part-preserved g c =
    let i = c.loop-part.invariant in
    let kit = c.args.kit.now in
    let rest : List Seats = c.pop.new.self.items in
    let part : Seats = c.in-Some.part in
    let is : c.loop-part.parts.items ≡ rest ++ part ∷ [] = c.in-Some.ensures.items in
    let n : ℕ = length rest in
    let long : length c.loop-part.parts.items ≡ suc n = (let e = ap (λ (l : List Seats). length l) is in omega (arith, length-append rest (part ∷ []))) in
    let few : suc n ≤ length c.args.parts.items = (let e = i.fewer in omega arith) in
    record {
      seats_are = c.join.ensures.seats;
      parts_are = λ k other less. subst (AreSeatsOf kit) (ap (λ (l : List Seats). get_or l k other) is ∙ get_or_append_left rest (part ∷ []) other k less) (i.parts_are k other (omega arith));
      fewer = omega arith;
      back = λ first are can seats parts.
          let before = i.back first are can seats parts in
          last_back kit c.requires.owners n (length c.args.parts.items - suc n) first c.loop-part.seats part c.join.new.into rest
          (record { seats_are = are; splits = subst (λ (k : ℕ). CanSplit k kit.shares first.share) (omega arith) can })
          (subst (λ (k : ℕ). AreBack (rest_of kit k first) c.loop-part.seats) long before.0)
          (sym is ∙ before.1 ∙ ap (λ (k : ℕ). parts_of kit k first) long) c.join.ensures.joined;
    }
