use Rattle.wbt_audit_walk.proofs.Paged.{all_contexts}
use Rattle.wbt_audit_walk.proofs.things.PageContexts.of.Goals as goal

pub returns : goal.returns
returns c =
    all_contexts c.args.trace.now.inodes c.as_slice-inode-items.result.now c.loop-inode.by_page.items c.loop-inode.inode-index c.as_slice-inode-items.ensures
    c.loop-inode-test.false c.loop-inode.invariant c.requires.within.inodes.firsts
