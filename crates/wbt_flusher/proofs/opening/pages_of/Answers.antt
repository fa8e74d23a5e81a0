use Rattle.std.proofs.Common.{arith}
use Rattle.wbt_flusher.proofs.Founding.{at_last}
use Rattle.wbt_flusher.proofs.opening.pages_of.Goals as goal

pub overflow_add-result : goal.overflow_add-result
overflow_add-result c =
    let item = c.in-Some.ensures.item.3 in
    let ends = at_last c.as_slice.result.now c.args.trace.now.inodes c.in-Some.inode.now c.as_slice.ensures item.0 c.requires.within.inodes.firsts item.1 in
    let few = c.requires.within.inodes.total in
    omega arith

pub returns-in-Some : goal.returns-in-Some
returns-in-Some c =
    let item = c.in-Some.ensures.item.3 in
    at_last c.as_slice.result.now c.args.trace.now.inodes c.in-Some.inode.now c.as_slice.ensures item.0 c.requires.within.inodes.firsts item.1
