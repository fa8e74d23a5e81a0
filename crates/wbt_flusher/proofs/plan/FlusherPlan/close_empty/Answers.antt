use Rattle.std.proofs.Common.{true, false}
use Rattle.wbt_flusher.proofs.Ending.{idled}
use Rattle.wbt_flusher.proofs.Marks.{scan_bare}
use Rattle.wbt_flusher.specs.Took.{rests}
use Rattle.wbt_flusher.proofs.plan.FlusherPlan.close_empty.Goals as goal

pub returns-then-scan-clause-steps : goal.returns-then-scan-clause-steps
returns-then-scan-clause-steps g c kit seats open' paid moments log written =
    let plan = c.args.self.now in
    let e = c.be_idle.ensures in
    idled plan kit seats c.args.work.now c.be_idle.new.work _ true c.args.scan moments log written open' c.requires.empty e.phase e.lists
    (e.goes kit seats open'.fits (scan_bare plan c.args.scan c.args.work.now seats open'.phase c.requires.empty paid) moments log written)

pub returns-clause-steps : goal.returns-clause-steps
returns-clause-steps g c kit seats open' paid moments log written =
    let plan = c.args.self.now in
    let e = c.be_idle-2.ensures in
    idled plan kit seats c.args.work.now c.be_idle-2.new.work _ false c.args.scan moments log written open' c.requires.empty e.phase e.lists
    (e.goes kit seats open'.fits (scan_bare plan c.args.scan c.args.work.now seats open'.phase c.requires.empty paid) moments log written)

pub returns-then-scan-clause-ends_empty : goal.returns-then-scan-clause-ends_empty
returns-then-scan-clause-ends_empty g c = rests c.told_moment.result c.told_moment.ensures.told c.if-scan.true c.be_idle.ensures.phase
