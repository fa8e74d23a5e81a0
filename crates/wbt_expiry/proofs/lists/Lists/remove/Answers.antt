use Rattle.std.proofs.Common.{◌≡◌, ◌<◌, ◌≤◌, ℕ, List, length, get_or, arith, sym, subst, ◌∙◌}
use Rattle.std.proofs.lemmas.List.{get_or_read, length-set}
use Rattle.wbt_expiry.specs.Lists.{home, no_list}
use Rattle.wbt_expiry.specs.Paths.{next_of, times_in, AreSound}
use Rattle.wbt_expiry.proofs.Homes.{home_below, stands_once, stands_below, first_read, path_lent, ends_lent, first_taken, number_skipped}
use Rattle.wbt_expiry.specs.Marks.{AreTold}
use Rattle.wbt_expiry.proofs.Marking.{told_next}
use Rattle.wbt_expiry.proofs.lists.Lists.remove.Goals as goal

-- What is known of a number that is in a list, of which the list was read.
record IsIn (nexts homes : List ℕ) (number list : ℕ) : Type 0 where
  within : list < no_list
  at_home : home homes number ≡ list
  below : number < length nexts

is_in :
    (firsts nexts homes now : List ℕ) (number list : ℕ) → AreSound firsts nexts homes → homes ≡ now → home now number < no_list
    → list ≡ get_or homes number list → IsIn nexts homes number list
is_in firsts nexts homes now number list sound same some read =
    let inside : home homes number < no_list = rw same some in
    let below : number < length nexts = home_below firsts nexts homes sound number inside in
    let is : list ≡ home homes number = get_or_read homes number list (omega (arith, below, sound.long)) read no_list in
    record { within = omega (arith, is, inside); at_home = sym is; below = below }

pub invariant_of-self : goal.invariant_of-self
invariant_of-self c =
    let known = is_in c.self.inside.firsts.items c.self.inside.nexts.items c.self.inside.homes.items c.args.self.now c.args.number c.index-list.result.now
    c.self.invariant.sound c.self.view_is c.requires c.index-list.ensures in
    let is = first_read c.self.inside.firsts.items c.self.inside.nexts.items c.self.inside.homes.items c.self.invariant.sound
    c.index-list.result.now c.index-first.result.now known.within c.index-first.ensures in
    record {
      sound = first_taken c.self.inside.firsts.items c.self.inside.nexts.items c.self.inside.homes.items c.self.invariant.sound
          c.index-list.result.now known.within c.args.number c.index-next.result.now (sym c.if-first-number.true ∙ is) known.below
          (get_or_read c.self.inside.nexts.items c.args.number c.index-next.result.now known.below c.index-next.ensures 0);
      told = told_next c.self.inside.marks c.put.new.self c.self.inside.firsts.items c.index-list.result.now c.index-next.result.now (length c.self.inside.nexts.items) c.len.result
          c.self.invariant.told c.self.invariant.sound.count known.within c.put.ensures (omega (arith, c.len.ensures));
    }

pub number_before-before-requires-clause-ends : goal.number_before-before-requires-clause-ends
number_before-before-requires-clause-ends c =
    let known = is_in c.self.inside.firsts.items c.self.inside.nexts.items c.self.inside.homes.items c.args.self.now c.args.number c.index-list.result.now
    c.self.invariant.sound c.self.view_is c.requires c.index-list.ensures in
    ends_lent c.self.inside.firsts.items c.self.inside.nexts.items c.self.inside.homes.items c.self.invariant.sound
    c.deref.result.now c.index-list.result.now c.index-first.result.now c.deref.ensures.value known.within c.index-first.ensures

pub number_before-before-requires-clause-on : goal.number_before-before-requires-clause-on
number_before-before-requires-clause-on c =
    let known = is_in c.self.inside.firsts.items c.self.inside.nexts.items c.self.inside.homes.items c.args.self.now c.args.number c.index-list.result.now
    c.self.invariant.sound c.self.view_is c.requires c.index-list.ensures in
    let same = path_lent c.self.inside.firsts.items c.self.inside.nexts.items c.self.inside.homes.items c.self.invariant.sound
    c.deref.result.now c.index-list.result.now c.index-first.result.now c.deref.ensures.value known.within c.index-first.ensures in
    subst (λ (path : List ℕ). 1 ≤ times_in c.args.number path) (sym same)
    (omega (
      arith,
      stands_once c.self.inside.firsts.items c.self.inside.nexts.items c.self.inside.homes.items c.self.invariant.sound
          c.index-list.result.now c.args.number known.within known.at_home,
    ))

pub index_mut-requires-2 : goal.index_mut-requires-2
index_mut-requires-2 c =
    let known = is_in c.self.inside.firsts.items c.self.inside.nexts.items c.self.inside.homes.items c.args.self.now c.args.number c.index-list.result.now
    c.self.invariant.sound c.self.view_is c.requires c.index-list.ensures in
    let same = path_lent c.self.inside.firsts.items c.self.inside.nexts.items c.self.inside.homes.items c.self.invariant.sound
    c.deref.result.now c.index-list.result.now c.index-first.result.now c.deref.ensures.value known.within c.index-first.ensures in
    omega (
      arith,
      stands_below c.self.inside.firsts.items c.self.inside.nexts.items c.self.inside.homes.items c.self.invariant.sound
          c.index-list.result.now c.number_before-before.result known.within
          (subst (λ (path : List ℕ). 1 ≤ times_in c.number_before-before.result path) same c.number_before-before.ensures.on),
    )

pub invariant_of-self-2 : goal.invariant_of-self-2
invariant_of-self-2 c =
    let known = is_in c.self.inside.firsts.items c.self.inside.nexts.items c.self.inside.homes.items c.args.self.now c.args.number c.index-list.result.now
    c.self.invariant.sound c.self.view_is c.requires c.index-list.ensures in
    let same = path_lent c.self.inside.firsts.items c.self.inside.nexts.items c.self.inside.homes.items c.self.invariant.sound
    c.deref.result.now c.index-list.result.now c.index-first.result.now c.deref.ensures.value known.within c.index-first.ensures in
    record {
      sound = number_skipped c.self.inside.firsts.items c.self.inside.nexts.items c.self.inside.homes.items c.self.invariant.sound
          c.index-list.result.now known.within c.args.number c.number_before-before.result c.index-next.result.now known.at_home
          (subst (λ (path : List ℕ). 1 ≤ times_in c.number_before-before.result path) same c.number_before-before.ensures.on)
          (subst (λ (nexts : List ℕ). next_of nexts c.number_before-before.result ≡ c.args.number) c.deref.ensures.value c.number_before-before.ensures.before)
          (get_or_read c.self.inside.nexts.items c.args.number c.index-next.result.now known.below c.index-next.ensures 0);
      told = subst (AreTold c.self.inside.marks c.self.inside.firsts.items) (sym (length-set c.self.inside.nexts.items c.number_before-before.result c.index-next.result.now)) c.self.invariant.told;
    }
