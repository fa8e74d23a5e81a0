use Rattle.std.proofs.Common.{ap}
use Rattle.wbt_expiry.specs.Waiting.{Waiting}
use Rattle.wbt_expiry.proofs.Pairs.{pairs_in_order, next_taken, taken_inode}
use Rattle.wbt_expiry.proofs.wheel.Wheel.next.Goals as goal

pub returns-clause-taken : goal.returns-clause-taken
returns-clause-taken c =
    next_taken c.args.to c.self.inside.filed.dues.items c.self.inside.filed.lists
    c.take.new.self.dues.items c.take.new.self.lists c.args.self.now.pairs c.take.result
    (ap (λ (w : Waiting). w.pairs) c.self.view_is) c.take.ensures.dues c.self.invariant.filed.lengths c.take.ensures.none

pub returns-clause-order : goal.returns-clause-order
returns-clause-order c = pairs_in_order c.take.new.self.dues.items c.take.new.self.lists

pub returns-clause-inode : goal.returns-clause-inode
returns-clause-inode c =
    taken_inode c.args.to c.self.inside.filed.dues.items c.self.inside.filed.lists c.take.new.self.lists c.args.self.now.inodes c.take.result
    (ap (λ (w : Waiting). w.inodes) c.self.view_is) c.self.invariant.filed.lengths c.take.ensures.none
