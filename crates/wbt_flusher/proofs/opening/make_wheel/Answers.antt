use Rattle.std.proofs.Common.{◌≡◌, List, length, sym, subst, arith}
use Rattle.wbt_flusher.proofs.Common.{AreInOrder, Due, IsInode}
use Rattle.wbt_expiry.specs.Waiting.{Each}
use Rattle.wbt_flusher.proofs.Ageing.{none_in_order}
use Rattle.wbt_flusher.proofs.opening.make_wheel.Goals as goal

pub returns-clause-its : goal.returns-clause-its
returns-clause-its c =
    let e = c.in_ok-wheel.ensures in
    let many = e.inodes in
    let few = c.requires.few in
    let long : length c.as_slice.result.now ≡ length c.args.plan.now.inodes = (λ i. length (c.as_slice.ensures i)) in
    record {
      ageing = c.if-not-plan.false;
      inodes = omega arith;
      own = subst (λ (l : List Due). Each (λ pair. IsInode c.args.plan.now pair.inode) l) (sym e.pairs) tt;
      order = subst AreInOrder (sym e.pairs) none_in_order;
    }
