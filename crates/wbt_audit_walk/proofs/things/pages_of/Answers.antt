use Rattle.std.proofs.Common.{◌≡◌, ◌+◌, arith}
use Rattle.wbt_trace.specs.Sofar.{pages_in}
use Rattle.wbt_audit_walk.proofs.Paged.{last_pages}
use Rattle.wbt_audit_walk.proofs.things.pages_of.Goals as goal

pub overflow_add-result : goal.overflow_add-result
overflow_add-result c =
    let is : c.in-Some.inode.now.first + c.in-Some.inode.now.pages ≡ pages_in c.args.trace.now.inodes
    = last_pages c.args.trace.now.inodes c.as_slice.result.now c.in-Some.inode.now c.as_slice.ensures c.in-Some.ensures.value c.requires.within.inodes.firsts in
    let few = c.requires.within.inodes.total in omega arith

pub returns-in-Some : goal.returns-in-Some
returns-in-Some c = last_pages c.args.trace.now.inodes c.as_slice.result.now c.in-Some.inode.now c.as_slice.ensures c.in-Some.ensures.value c.requires.within.inodes.firsts
