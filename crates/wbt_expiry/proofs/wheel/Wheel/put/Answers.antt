use Rattle.std.proofs.Common.{◌≡◌, ◌<◌, ℕ, List, true, false, not, length, set, arith, ap, sym, subst, refl, ◌∙◌}
use Rattle.std.proofs.lemmas.Bool.{ltb-false}
use Rattle.wbt_expiry.specs.Lists.{no_list, home}
use Rattle.wbt_expiry.specs.Slots.{slot}
use Rattle.wbt_expiry.specs.Filed.{SameWait}
use Rattle.wbt_expiry.specs.Waiting.{Waiting, with_pair, AreInOrder}
use Rattle.wbt_expiry.specs.declared.due.Due.{Due}
use Rattle.wbt_expiry.proofs.SlotOrder.{slot_below}
use Rattle.wbt_expiry.proofs.Pairs.{has_pair, pairs_in_order, pairs_put, all_wait}
use Rattle.wbt_expiry.proofs.wheel.Wheel.put.Goals as goal
use Rattle.wbt_expiry.proofs.wheel.Wheel.put.Goals.{then-is_far, else-is_far}

pub returns-then-has-clause-accepted : goal.returns-then-has-clause-accepted
returns-then-has-clause-accepted c =
    let inside : c.args.inode < length c.self.inside.filed.dues.items = omega (arith, c.requires.inode, ap (λ (w : Waiting). w.inodes) c.self.view_is) in
    ap not (sym (has_pair c.self.inside.filed.dues.items c.self.inside.filed.lists c.args.self.now.pairs c.args.inode true
    (ap (λ (w : Waiting). w.pairs) c.self.view_is) inside (sym c.has.ensures ∙ c.if-has.true)))

pub returns-then-has-clause-order : goal.returns-then-has-clause-order
returns-then-has-clause-order c =
    subst AreInOrder (ap (λ (w : Waiting). w.pairs) c.self.view_is) (pairs_in_order c.self.inside.filed.dues.items c.self.inside.filed.lists)

pub put-requires-clause-out : goal.put-requires-clause-out
put-requires-clause-out c =
    let same : SameWait c.self.inside.filed.lists c.if-is_far.self-inside.filed.lists = elim c.if-is_far.branch [
      | then-is_far w ↦ rw w.self-inside-is w.file_all.ensures.same
      | else-is_far w ↦ rw w.self-inside-is (all_wait c.self.inside.filed.lists)
    ] in
    ltb-false (home c.if-is_far.self-inside.filed.lists c.args.inode) no_list (same.same c.args.inode ∙ sym c.has.ensures ∙ c.if-has.false)

pub returns-clause-accepted : goal.returns-clause-accepted
returns-clause-accepted c =
    let inside : c.args.inode < length c.self.inside.filed.dues.items = omega (arith, c.requires.inode, ap (λ (w : Waiting). w.inodes) c.self.view_is) in
    ap not (sym (has_pair c.self.inside.filed.dues.items c.self.inside.filed.lists c.args.self.now.pairs c.args.inode false
    (ap (λ (w : Waiting). w.pairs) c.self.view_is) inside (sym c.has.ensures ∙ c.if-has.false)))

pub returns-clause-put : goal.returns-clause-put
returns-clause-put c =
    let inside : c.args.inode < length c.self.inside.filed.dues.items = omega (arith, c.requires.inode, ap (λ (w : Waiting). w.inodes) c.self.view_is) in
    let dues : c.if-is_far.self-inside.filed.dues.items ≡ c.self.inside.filed.dues.items = elim c.if-is_far.branch [
      | then-is_far w ↦ rw w.self-inside-is w.file_all.ensures.dues
      | else-is_far w ↦ rw w.self-inside-is refl
    ] in
    let same : SameWait c.self.inside.filed.lists c.if-is_far.self-inside.filed.lists = elim c.if-is_far.branch [
      | then-is_far w ↦ rw w.self-inside-is w.file_all.ensures.same
      | else-is_far w ↦ rw w.self-inside-is (all_wait c.self.inside.filed.lists)
    ] in
    pairs_put c.self.inside.filed.dues.items c.self.inside.filed.lists c.if-is_far.self-inside.filed.lists c.put.new.self.dues.items c.put.new.self.lists
    c.args.inode c.args.due (slot c.if-is_far.self-inside.filed.base c.args.due) same
    (c.put.ensures.dues ∙ ap (λ (ds : List ℕ). set ds c.args.inode c.args.due) dues) c.put.ensures.lists
    (omega (arith, slot_below c.if-is_far.self-inside.filed.base c.args.due)) c.self.invariant.filed.lengths inside
    (sym c.has.ensures ∙ c.if-has.false)
    ∙ ap (λ (ps : List Due). with_pair (record { due = c.args.due; inode = c.args.inode }) ps) (ap (λ (w : Waiting). w.pairs) c.self.view_is)

pub returns-clause-order : goal.returns-clause-order
returns-clause-order c = pairs_in_order c.put.new.self.dues.items c.put.new.self.lists
