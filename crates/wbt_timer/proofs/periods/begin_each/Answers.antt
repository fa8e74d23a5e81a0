use Rattle.std.proofs.Common.{◌≡◌, ◌<◌, ◌+◌, get_or, set, length, sym, ap, ◌∙◌, subst, arith}
use Rattle.std.proofs.lemmas.List.{get_or_default}
use Rattle.wbt_timer.specs.Turn.{TriedEach, no_side}
use Rattle.wbt_timer.specs.declared.side.DomainSide.{DomainSide}
use Rattle.wbt_timer.proofs.Beginning.{tried_none, tried_more, seats_long}
use Rattle.wbt_timer.proofs.periods.begin_each.Goals as goal

pub loop-domain-init : goal.loop-domain-init
loop-domain-init c = record {
  each = tried_none c.args.come c.args.sides.now.items c.args.seats.now c.args.log.now.items;
  seats = c.requires.seats;
  room = omega (arith, c.requires.room);
}

pub overflow_add-k : goal.overflow_add-k
overflow_add-k c =
    let items = c.loop-domain.sides.items in
    let i = c.loop-domain.domain in
    let p = c.loop-domain.invariant.each in
    let less : i < length items = omega (arith, c.loop-domain-test.true, c.len-domain-end.ensures, p.many) in
    let few : i < length c.args.sides.now.items = omega (arith, less, p.many) in
    let read : c.index.result.now ≡ get_or c.args.sides.now.items i no_side = c.index.ensures ∙ get_or_default items i _ no_side less ∙ (p.later i (omega arith)).1 in
    omega (arith, ap (λ (s : DomainSide). s.owed) read, c.requires.owed i no_side few)

pub loop-domain-preserved : goal.loop-domain-preserved
loop-domain-preserved c =
    let items = c.loop-domain.sides.items in
    let i = c.loop-domain.domain in
    let p = c.loop-domain.invariant.each in
    let less : i < length items = omega (arith, c.loop-domain-test.true, c.len-domain-end.ensures, p.many) in
    let few : i < length c.args.sides.now.items = omega (arith, less, p.many) in
    let read : c.index.result.now ≡ get_or c.args.sides.now.items i no_side = c.index.ensures ∙ get_or_default items i _ no_side less ∙ (p.later i (omega arith)).1 in
    let wrote : c.index_mut.result.now ≡ get_or items i no_side = c.index_mut.ensures.value ∙ get_or_default items i _ no_side less in
    let t = c.begin-owed.ensures.tried in
    let there : i < length c.loop-domain.seats.share.domains = omega (arith, seats_long c.args.kit.now c.loop-domain.seats c.loop-domain.invariant.seats, c.requires.there, few) in
    let next = tried_more c.args.come i c.args.sides.now.items items c.args.seats.now c.loop-domain.seats c.begin-owed.new.seats c.args.log.now.items c.loop-domain.log.items c.begin-owed.new.log.items
    (c.index.result.now.owed + c.args.come) c.begin-owed.result p few there (ap (λ (s : DomainSide). s.owed + c.args.come) read) t in
    record {
      each = subst (λ (s : DomainSide). TriedEach c.args.come (i + 1) c.args.sides.now.items (set items i (record s { owed = c.begin-owed.result })) c.args.seats.now c.begin-owed.new.seats c.args.log.now.items c.begin-owed.new.log.items)
          (sym wrote) next;
      seats = c.begin-owed.ensures.seats;
      room = omega (arith, c.begin-owed.ensures.room.0, c.begin-owed.ensures.room.1, c.loop-domain.invariant.room, few);
    }
