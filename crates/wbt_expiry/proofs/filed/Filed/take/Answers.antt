use Rattle.std.proofs.Common.{◌<◌, ◌*◌, lt_of_lt_of_le, ℕ, List, subst}
use Rattle.wbt_expiry.specs.Lists.{IsEmpty, IsLeast}
use Rattle.wbt_expiry.specs.Filed.{IsFirstBelow, IsNoneDue}
use Rattle.wbt_expiry.proofs.Filing.{late_first, from_first, descending_first, none_due, none_early}
use Rattle.wbt_expiry.proofs.filed.Filed.take.Goals as goal

pub take_inode-requires-clause-first : goal.take_inode-requires-clause-first
take_inode-requires-clause-first c = let now = c.args.self.now in
    let least : IsLeast c.deref.result.now now.lists 256 c.in-Some.inode = c.in-Some.ensures in
    late_first now.base now.dues.items now.lists c.requires.filed c.in-Some.inode (subst (λ (d : List ℕ). IsLeast d now.lists 256 c.in-Some.inode) c.deref.ensures.value least)

pub levels-init : goal.levels-init
levels-init c = let now = c.args.self.now in
    let empty : IsEmpty now.lists 256 = c.in_default.ensures in
    descending_first now.base now.dues.items now.lists c.requires.filed (from_first now.base now.dues.items now.lists c.requires.filed empty)

pub returns-then-to-slot-clause-none : goal.returns-then-to-slot-clause-none
returns-then-to-slot-clause-none c =
    let old = c.args.self.now in
    let now = c.levels.self in
    let was = c.levels.invariant in
    let slot = c.in-Some-first_below.slot in
    let found : IsFirstBelow c.levels.levels now.dues.items now.lists slot.level slot.place = c.in-Some-first_below.ensures in
    let range : slot.level < 4 = lt_of_lt_of_le found.below was.range in
    let none = none_early slot.level now.base slot.place now.dues.items now.lists range was.filed found.from found.first c.args.to
    (subst (λ (s : ℕ). c.args.to < slot.place * s) c.span_of.ensures c.if-to-slot.true) in (
      subst (λ (d : List ℕ). IsNoneDue c.args.to d old.lists) was.same_dues (none_due c.args.to now.dues.items old.lists now.lists was.same none),
      was.same,
    )
