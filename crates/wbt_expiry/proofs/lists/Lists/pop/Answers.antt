use Rattle.std.proofs.Common.{◌≡◌, ◌≢◌, ◌<◌, ℕ, List, length, set, arith, ap, subst, refl}
use Rattle.std.proofs.lemmas.List.{get_or_read}
use Rattle.wbt_expiry.specs.Lists.{home, no_list, IsEmpty}
use Rattle.wbt_expiry.proofs.Homes.{is_empty, first_read, first_below, first_at_home, first_taken}
use Rattle.wbt_expiry.proofs.Marking.{told_next}
use Rattle.wbt_expiry.proofs.lists.Lists.pop.Goals as goal

pub returns-then-number-len : goal.returns-then-number-len
returns-then-number-len c =
    let none : c.index-number.result.now ≡ length c.self.inside.nexts.items = omega (arith, c.if-number-len.true, c.len.ensures) in (
      subst (λ (homes : List ℕ). IsEmpty homes c.args.list) c.self.view_is
          (is_empty c.self.inside.firsts.items c.self.inside.nexts.items c.self.inside.homes.items c.self.invariant.sound
          c.args.list c.index-number.result.now c.requires c.index-number.ensures none),
      refl,
    )

pub index-next-requires : goal.index-next-requires
index-next-requires c =
    let some : c.index-number.result.now ≢ length c.self.inside.nexts.items = λ none. c.if-number-len.false (omega (arith, none, c.len.ensures)) in
    omega (
      arith,
      first_below c.self.inside.firsts.items c.self.inside.nexts.items c.self.inside.homes.items c.self.invariant.sound
          c.args.list c.index-number.result.now c.requires c.index-number.ensures some,
    )

pub index_mut-requires-2 : goal.index_mut-requires-2
index_mut-requires-2 c =
    let some : c.index-number.result.now ≢ length c.self.inside.nexts.items = λ none. c.if-number-len.false (omega (arith, none, c.len.ensures)) in
    omega (
      arith,
      c.self.invariant.sound.long,
      first_below c.self.inside.firsts.items c.self.inside.nexts.items c.self.inside.homes.items c.self.invariant.sound
          c.args.list c.index-number.result.now c.requires c.index-number.ensures some,
    )

pub invariant_of-self : goal.invariant_of-self
invariant_of-self c =
    let some : c.index-number.result.now ≢ length c.self.inside.nexts.items = λ none. c.if-number-len.false (omega (arith, none, c.len.ensures)) in
    let below : c.index-number.result.now < length c.self.inside.nexts.items =
    first_below c.self.inside.firsts.items c.self.inside.nexts.items c.self.inside.homes.items c.self.invariant.sound
    c.args.list c.index-number.result.now c.requires c.index-number.ensures some in
    record {
      sound = first_taken c.self.inside.firsts.items c.self.inside.nexts.items c.self.inside.homes.items c.self.invariant.sound
          c.args.list c.requires c.index-number.result.now c.index-next.result.now
          (first_read c.self.inside.firsts.items c.self.inside.nexts.items c.self.inside.homes.items c.self.invariant.sound
          c.args.list c.index-number.result.now c.requires c.index-number.ensures)
          below
          (get_or_read c.self.inside.nexts.items c.index-number.result.now c.index-next.result.now below c.index-next.ensures 0);
      told = told_next c.self.inside.marks c.put.new.self c.self.inside.firsts.items c.args.list c.index-next.result.now (length c.self.inside.nexts.items) c.len-2.result
          c.self.invariant.told c.self.invariant.sound.count c.requires c.put.ensures (omega (arith, c.len-2.ensures));
    }

pub returns : goal.returns
returns c =
    let some : c.index-number.result.now ≢ length c.self.inside.nexts.items = λ none. c.if-number-len.false (omega (arith, none, c.len.ensures)) in (
      subst (λ (homes : List ℕ). home homes c.index-number.result.now ≡ c.args.list) c.self.view_is
          (first_at_home c.self.inside.firsts.items c.self.inside.nexts.items c.self.inside.homes.items c.self.invariant.sound
          c.args.list c.index-number.result.now c.requires c.index-number.ensures some),
      ap (λ (homes : List ℕ). set homes c.index-number.result.now no_list) c.self.view_is,
    )
