use Rattle.std.proofs.Common.{ap, arith}
use Rattle.wbt_expiry.specs.Waiting.{Waiting}
use Rattle.wbt_expiry.proofs.Pairs.{pairs_in_order, first_taken, taken_inode}
use Rattle.wbt_expiry.proofs.wheel.Wheel.first.Goals as goal

pub returns-then-is_none-clause-taken : goal.returns-then-is_none-clause-taken
returns-then-is_none-clause-taken c =
    first_taken 18446744073709551615 c.self.inside.filed.base c.self.inside.filed.dues.items c.self.inside.filed.lists
    c.take-taken.new.self.dues.items c.take-taken.new.self.lists c.args.self.now.pairs c.take-taken.result
    (ap (λ (w : Waiting). w.pairs) c.self.view_is) c.take-taken.ensures.dues c.self.invariant.filed (omega arith) c.take-taken.ensures.none

pub returns-then-is_none-clause-order : goal.returns-then-is_none-clause-order
returns-then-is_none-clause-order c = pairs_in_order c.take-taken.new.self.dues.items c.take-taken.new.self.lists

pub returns-else-is_none-clause-taken : goal.returns-else-is_none-clause-taken
returns-else-is_none-clause-taken c =
    first_taken 18446744073709551615 c.self.inside.filed.base c.self.inside.filed.dues.items c.self.inside.filed.lists
    c.take-taken.new.self.dues.items c.take-taken.new.self.lists c.args.self.now.pairs c.take-taken.result
    (ap (λ (w : Waiting). w.pairs) c.self.view_is) c.take-taken.ensures.dues c.self.invariant.filed (omega arith) c.take-taken.ensures.none

pub returns-else-is_none-clause-order : goal.returns-else-is_none-clause-order
returns-else-is_none-clause-order c = pairs_in_order c.take-taken.new.self.dues.items c.take-taken.new.self.lists

pub returns-then-is_none-clause-inode : goal.returns-then-is_none-clause-inode
returns-then-is_none-clause-inode c =
    taken_inode 18446744073709551615 c.self.inside.filed.dues.items c.self.inside.filed.lists c.take-taken.new.self.lists c.args.self.now.inodes c.take-taken.result
    (ap (λ (w : Waiting). w.inodes) c.self.view_is) c.self.invariant.filed.lengths c.take-taken.ensures.none

pub returns-else-is_none-clause-inode : goal.returns-else-is_none-clause-inode
returns-else-is_none-clause-inode c =
    taken_inode 18446744073709551615 c.self.inside.filed.dues.items c.self.inside.filed.lists c.take-taken.new.self.lists c.args.self.now.inodes c.take-taken.result
    (ap (λ (w : Waiting). w.inodes) c.self.view_is) c.self.invariant.filed.lengths c.take-taken.ensures.none
