use Rattle.std.proofs.Common.{◌≡◌, ◌≢◌, ◌≤◌, ℕ, List, length, arith, sym, subst}
use Rattle.wbt_expiry.specs.Lists.{IsEmpty, IsLeast}
use Rattle.wbt_expiry.specs.Paths.{times_in}
use Rattle.wbt_expiry.proofs.Homes.{is_empty, path_lent, ends_lent, first_below, stands_at_home, stands_once}
use Rattle.wbt_expiry.proofs.lists.Lists.least.Goals as goal

pub returns-then-first-len : goal.returns-then-first-len
returns-then-first-len c =
    let none : c.index-first.result.now ≡ length c.self.inside.nexts.items = omega (arith, c.if-first-len.true, c.len.ensures) in
    subst (λ (homes : List ℕ). IsEmpty homes c.args.list) c.self.view_is
    (is_empty c.self.inside.firsts.items c.self.inside.nexts.items c.self.inside.homes.items c.self.invariant.sound
    c.args.list c.index-first.result.now c.requires.list c.index-first.ensures none)

pub least_on-requires-clause-ends : goal.least_on-requires-clause-ends
least_on-requires-clause-ends c =
    ends_lent c.self.inside.firsts.items c.self.inside.nexts.items c.self.inside.homes.items c.self.invariant.sound
    c.deref.result.now c.args.list c.index-first.result.now c.deref.ensures.value c.requires.list c.index-first.ensures

pub least_on-requires-clause-first : goal.least_on-requires-clause-first
least_on-requires-clause-first c =
    let some : c.index-first.result.now ≢ length c.self.inside.nexts.items = λ none. c.if-first-len.false (omega (arith, none, c.len.ensures)) in
    omega (
      arith,
      c.deref.ensures.len,
      first_below c.self.inside.firsts.items c.self.inside.nexts.items c.self.inside.homes.items c.self.invariant.sound
          c.args.list c.index-first.result.now c.requires.list c.index-first.ensures some,
    )

pub returns : goal.returns
returns c =
    let same = path_lent c.self.inside.firsts.items c.self.inside.nexts.items c.self.inside.homes.items c.self.invariant.sound
    c.deref.result.now c.args.list c.index-first.result.now c.deref.ensures.value c.requires.list c.index-first.ensures in
    subst (λ (homes : List ℕ). IsLeast c.args.dues.now homes c.args.list c.least_on.result) c.self.view_is
    record {
      within = stands_at_home c.self.inside.firsts.items c.self.inside.nexts.items c.self.inside.homes.items c.self.invariant.sound
          c.args.list c.least_on.result c.requires.list
          (subst (λ (path : List ℕ). 1 ≤ times_in c.least_on.result path) same c.least_on.ensures.on);
      least = λ other at_home. c.least_on.ensures.least other
          (subst (λ (path : List ℕ). 1 ≤ times_in other path) (sym same)
          (omega (
            arith,
            stands_once c.self.inside.firsts.items c.self.inside.nexts.items c.self.inside.homes.items c.self.invariant.sound
                c.args.list other c.requires.list at_home,
          )));
    }
