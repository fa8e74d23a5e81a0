use Rattle.std.proofs.Common.{arith}
use Rattle.wbt_journal.proofs.Columned.{near_more}
use Rattle.wbt_journal.proofs.kept.KeptColumns.advance.Goals as goal

pub returns-else-may_change-clause-near : goal.returns-else-may_change-clause-near
returns-else-may_change-clause-near c = near_more c.args.most _ c.args.self.now (omega arith) c.requires.near
