use Rattle.std.proofs.Common.{arith}
use Rattle.wbt_pause.proofs.Cutting.{finished_ends, finished_moves_on}
use Rattle.wbt_pause.proofs.Deciding.{longest_within_200}
use Rattle.wbt_pause.proofs.Finishing as by_rule
use Rattle.wbt_pause.proofs.rule.finish.Goals as goal

pub returns-clause-longest : goal.returns-clause-longest
returns-clause-longest c = rw c.by_rule.ensures.value (by_rule.pauses_within _ _ _ _ _ _ _)

pub returns-clause-at_most_200 : goal.returns-clause-at_most_200
returns-clause-at_most_200 c =
    let within = by_rule.pauses_within c.args.rule.now c.args.wb_dirty c.args.cpus c.args.cap c.args.estimate.now c.args.task c.args.now in
    rw c.by_rule.ensures.value (omega (arith, within, longest_within_200 c.args.wb_dirty c.args.estimate.now.avg))

pub returns-clause-free : goal.returns-clause-free
returns-clause-free c = rw c.by_rule.ensures.value (by_rule.free_exactly _ _ _ _ _ _ _)

pub returns-clause-waits : goal.returns-clause-waits
returns-clause-waits c = rw c.by_rule.ensures.value (by_rule.waits_exactly _ _ _ _ _ _ _)

pub returns-clause-at_most_cap : goal.returns-clause-at_most_cap
returns-clause-at_most_cap c = rw c.by_rule.ensures.value (by_rule.leaves_at_most _ _ _ _ _ _ _)

pub returns-clause-at_least_one : goal.returns-clause-at_least_one
returns-clause-at_least_one c = rw c.by_rule.ensures.value (by_rule.leaves_some _ _ _ _ _ _ _ c.requires.some_page)

pub returns-clause-polls : goal.returns-clause-polls
returns-clause-polls c = rw c.by_rule.ensures.value (by_rule.free_polls _ _ _ _ _ _ _)

pub returns-clause-mark : goal.returns-clause-mark
returns-clause-mark c = rw c.by_rule.ensures.value (by_rule.marks _ _ _ _ _ _ _)

pub returns-clause-cut : goal.returns-clause-cut
returns-clause-cut c = rw c.by_rule.ensures.value (finished_moves_on _ _ _ _ _ _ _)

pub returns-clause-ended : goal.returns-clause-ended
returns-clause-ended c = rw c.by_rule.ensures.value (finished_ends _ _ _ _ _ _ _)
