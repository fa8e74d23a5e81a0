use Rattle.std.proofs.Common.{◌≡◌, List, ◌∷◌, [], ◌++◌, length, sym, refl, ap, ◌∙◌, subst, append_assoc, rules}
use Rattle.std.proofs.lemmas.List.{append-nil}
use Rattle.wbt_published.proofs.Turns.{at_turn}
use Rattle.wbt_kit.proofs.Common.{AreSeatsOf}
use Rattle.wbt_kit.specs.declared.kit.Seats.{Seats}
use Rattle.wbt_run_seats.specs.Together.{AreTogether}
use Rattle.wbt_run_seats.proofs.Together.{at_first, one_more}
use Rattle.wbt_run_seats.proofs.Undoing.{empty_list}
use Rattle.wbt_run_seats.proofs.join.join_each.Goals as goal

pub loop-part-init : goal.loop-part-init
loop-part-init g c = record { can = tt; finite = tt; together = at_first c.args.kit.now c.args.seats.now c.requires.seats; come = c.into_iter-part-iterator.ensures.into_iter_gives.0 }

pub join-requires : goal.join-requires
join-requires g c =
    let i = c.loop-part.invariant in
    let come : c.loop-part.yielded ++ c.in-Some.part ∷ c.next.new.self.rest.items ≡ c.args.parts.items = ap (λ (l : List Seats). c.loop-part.yielded ++ l) (sym c.in-Some.ensures.steps.0) ∙ i.come in
    let turn = at_turn c.next.new.self.rest.items c.in-Some.part c.loop-part.yielded c.args.parts.items (length c.loop-part.yielded) come refl in
    record { seats = (i.together.seats_are, subst (AreSeatsOf c.args.kit.now) (sym turn.0) (c.requires.parts (length c.loop-part.yielded) c.in-Some.part turn.1)) }

pub loop-part-preserved : goal.loop-part-preserved
loop-part-preserved g c =
    let i = c.loop-part.invariant in
    let come : c.loop-part.yielded ++ c.in-Some.part ∷ c.next.new.self.rest.items ≡ c.args.parts.items = ap (λ (l : List Seats). c.loop-part.yielded ++ l) (sym c.in-Some.ensures.steps.0) ∙ i.come in
    let turn = at_turn c.next.new.self.rest.items c.in-Some.part c.loop-part.yielded c.args.parts.items (length c.loop-part.yielded) come refl in
    let theirs = subst (AreSeatsOf c.args.kit.now) (sym turn.0) (c.requires.parts (length c.loop-part.yielded) c.in-Some.part turn.1) in
    record {
      can = tt;
      finite = tt;
      together = one_more c.args.kit.now c.args.seats.now c.loop-part.seats c.in-Some.part c.join.new.into c.loop-part.yielded theirs c.join.ensures.seats i.together c.join.ensures.joined;
      come = append_assoc c.loop-part.yielded (c.in-Some.part ∷ []) c.next.new.self.rest.items ∙ come;
    }

pub returns : goal.returns
returns g c =
    let i = c.loop-part.invariant in
    let none = empty_list c.loop-part.part-iterator.rest.items (let n : length c.loop-part.part-iterator.rest.items ≡ 0 = search rules in n) in
    let all : c.loop-part.yielded ≡ c.args.parts.items = sym (append-nil c.loop-part.yielded) ∙ ap (λ (l : List Seats). c.loop-part.yielded ++ l) (sym none) ∙ i.come in
    record { together = subst (λ (l : List Seats). AreTogether c.args.kit.now c.args.seats.now l c.loop-part.seats) all i.together }
