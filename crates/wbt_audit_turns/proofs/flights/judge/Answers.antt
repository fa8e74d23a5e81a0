use Rattle.std.proofs.Common.{◌∙◌}
use Rattle.wbt_audit_turns.proofs.Flying.{all_new}
use Rattle.wbt_audit_turns.proofs.flights.judge.Goals as goal

pub returns-in-None-clause-moved : goal.returns-in-None-clause-moved
returns-in-None-clause-moved c = rw c.in-None.is (λ may. c.begin_all.ensures ∙ all_new c.args.flushers.now c.args.trace.now.flushers c.requires)
