use Rattle.std.proofs.Common.{arith}
use Rattle.wbt_pause.proofs.Cutting.{finished_ends, finished_moves_on}
use Rattle.wbt_pause.proofs.Deciding.{longest_within_200}
use Rattle.wbt_pause.proofs.Finishing as by_rule
use Rattle.wbt_strict.proofs.Strictly.{grants_on_small, strict_checks_within_root, strictly_free_exactly, strictly_granted, strictly_waits_exactly}
use Rattle.wbt_strict.specs.Decision.{strict_rule}
use Rattle.wbt_strict.proofs.decision.strict_decide.Goals as goal

pub returns-clause-longest : goal.returns-clause-longest
returns-clause-longest c = rw c.by_own_parts.ensures.value (by_rule.pauses_within _ _ _ _ _ _ _)

pub returns-clause-at_most_200 : goal.returns-clause-at_most_200
returns-clause-at_most_200 c =
    let reads = c.args.reads.now in
    let within = by_rule.pauses_within (strict_rule reads) reads.wb_dirty reads.cpus reads.cap c.args.estimate.now c.args.task c.args.now in
    rw c.by_own_parts.ensures.value (omega (arith, within, longest_within_200 reads.wb_dirty c.args.estimate.now.avg))

pub returns-clause-free : goal.returns-clause-free
returns-clause-free c = rw c.by_own_parts.ensures.value (strictly_free_exactly _ _ _ _)

pub returns-clause-waits : goal.returns-clause-waits
returns-clause-waits c = rw c.by_own_parts.ensures.value (strictly_waits_exactly _ _ _ _)

pub returns-clause-granted : goal.returns-clause-granted
returns-clause-granted c = rw c.by_own_parts.ensures.value (strictly_granted _ _ _ _ c.requires.readable.cap)

pub returns-clause-small : goal.returns-clause-small
returns-clause-small c = rw c.by_own_parts.ensures.value (grants_on_small _ _ _ _ c.requires.readable.limits)

pub returns-clause-polls : goal.returns-clause-polls
returns-clause-polls c = rw c.by_own_parts.ensures.value (strict_checks_within_root _ _ _ _)

pub returns-clause-cut : goal.returns-clause-cut
returns-clause-cut c = rw c.by_own_parts.ensures.value (finished_moves_on _ _ _ _ _ _ _)

pub returns-clause-ended : goal.returns-clause-ended
returns-clause-ended c = rw c.by_own_parts.ensures.value (finished_ends _ _ _ _ _ _ _)

pub returns-clause-mark : goal.returns-clause-mark
returns-clause-mark c = rw c.by_own_parts.ensures.value (by_rule.marks _ _ _ _ _ _ _)
