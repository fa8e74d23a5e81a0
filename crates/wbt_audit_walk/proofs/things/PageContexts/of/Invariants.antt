use Rattle.std.proofs.Common.{◌≡◌, ◌++◌, drop}
use Rattle.wbt_audit_walk.proofs.Paged.{contexts_of}
use Rattle.wbt_audit_walk.proofs.things.PageContexts.of.Given as goal

abbrev pub invariant-loop-inode : goal.invariant-loop-inode
invariant-loop-inode l = l.by_page.items ++ contexts_of (drop l.inode-index l.trace.inodes) ≡ contexts_of l.trace.inodes
