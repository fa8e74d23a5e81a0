use Rattle.wbt_flusher.proofs.Handing.{owes_more}
use Rattle.wbt_flusher.proofs.Tallying.{drops}
use Rattle.wbt_flusher.proofs.plan.FlusherPlan.forget.Goals as goal

pub returns-then-group-ne0-clause-less : goal.returns-then-group-ne0-clause-less
returns-then-group-ne0-clause-less c =
    let a = c.drop_owed.ensures in
    let b = c.drop_owed-then-group-ne0.ensures in
    owes_more c.args.self.now c.args.work.now c.drop_owed.new.work c.drop_owed-then-group-ne0.new.work
    (drops c.args.self.now c.args.work.now c.drop_owed.new.work c.args.context 0 c.requires.lists c.requires.there a.only_tallies a.dropped)
    (drops c.args.self.now c.drop_owed.new.work c.drop_owed-then-group-ne0.new.work c.args.context c.group_of-group.result a.lists c.requires.there b.only_tallies b.dropped)

pub returns-else-group-ne0-clause-less : goal.returns-else-group-ne0-clause-less
returns-else-group-ne0-clause-less c =
    let a = c.drop_owed.ensures in
    drops c.args.self.now c.args.work.now c.drop_owed.new.work c.args.context 0 c.requires.lists c.requires.there a.only_tallies a.dropped
