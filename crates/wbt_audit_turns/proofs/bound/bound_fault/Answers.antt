use Rattle.std.proofs.Common.{sym, ◌∙◌}
use Rattle.wbt_journal.specs.Verdict.{census_at}
use Rattle.wbt_audit_turns.proofs.Bounding.{exceeded, stands}
use Rattle.wbt_audit_turns.proofs.bound.bound_fault.Goals as goal

pub returns-then-not-is_within : goal.returns-then-not-is_within
returns-then-not-is_within c =
    exceeded c.args.trace.now c.args.journal.now.timer c.args.journal.now.left c.loop-domain.domain c.domains_of-domain-end.result c.in_ok-census.census
    (census_at c.args.journal.now) c.domains_of-domain-end.ensures c.loop-domain-test.true (sym c.is_within.ensures ∙ c.if-not-is_within.true) c.in_ok-census.ensures

pub returns : goal.returns
returns c =
    stands c.args.trace.now c.args.journal.now.timer c.args.journal.now.left c.loop-domain.domain c.domains_of-domain-end.result (census_at c.args.journal.now)
    c.domains_of-domain-end.ensures c.loop-domain-test.false c.loop-domain.auto.domain-end c.loop-domain.invariant
