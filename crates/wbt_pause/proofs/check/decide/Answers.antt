use Rattle.std.proofs.Common.{arith}
use Rattle.wbt_pause.proofs.Cutting.{cut_pause_moves_on, other_pauses_end}
use Rattle.wbt_pause.proofs.Polling.{free_checks_within_root}
use Rattle.wbt_pause.proofs.Deciding.{calm_goes_on, granted_unless_waiting, longest_within_200, pauses_within_longest, waits_exactly}
use Rattle.wbt_pause.proofs.check.decide.Goals as goal

pub returns-clause-longest : goal.returns-clause-longest
returns-clause-longest c = rw c.by_domains.ensures.value (pauses_within_longest _ _ _ _)

pub returns-clause-at_most_200 : goal.returns-clause-at_most_200
returns-clause-at_most_200 c =
    rw c.by_domains.ensures.value
    (omega (arith, pauses_within_longest c.args.reads.now c.args.estimate.now c.args.task c.args.now, longest_within_200 c.args.reads.now.wb_dirty c.args.estimate.now.avg))

pub returns-clause-calm : goal.returns-clause-calm
returns-clause-calm c = rw c.by_domains.ensures.value (calm_goes_on _ _ _ _ c.requires.readable.cap)

pub returns-clause-granted : goal.returns-clause-granted
returns-clause-granted c =
    rw c.by_domains.ensures.value (granted_unless_waiting _ _ _ _ c.requires.readable.cap c.requires.readable.limits)

pub returns-clause-waits : goal.returns-clause-waits
returns-clause-waits c = rw c.by_domains.ensures.value (waits_exactly _ _ _ _)

pub returns-clause-polls : goal.returns-clause-polls
returns-clause-polls c = rw c.by_domains.ensures.value (free_checks_within_root _ _ _ _)

pub returns-clause-cut : goal.returns-clause-cut
returns-clause-cut c = rw c.by_domains.ensures.value (cut_pause_moves_on _ _ _ _)

pub returns-clause-ended : goal.returns-clause-ended
returns-clause-ended c = rw c.by_domains.ensures.value (other_pauses_end _ _ _ _)
