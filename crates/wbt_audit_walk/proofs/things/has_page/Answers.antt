use Rattle.wbt_audit_walk.proofs.Paged.{has_pages}
use Rattle.wbt_audit_walk.proofs.things.has_page.Goals as goal

pub returns : goal.returns
returns c = has_pages c.args.trace.now.inodes c.args.page c.pages_of.result c.requires.within.inodes.firsts c.pages_of.ensures
