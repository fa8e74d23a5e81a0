use Rattle.std.proofs.Common.{replicate, subst, ap, ◌∙◌}
use Rattle.wbt_audit_reads.specs.Folding.{AreOf}
use Rattle.wbt_audit_reads.specs.Periods.{ArePeriods}
use Rattle.wbt_audit_reads.proofs.Fractioned.{read_first}
use Rattle.wbt_audit_reads.proofs.fractions.Fractions.make.Goals as goal

pub returns : goal.returns
returns c =
    let places = c.of-places.result in
    let are : AreOf c.args.trace.now places = record { domains = c.of-places.ensures.domains; contexts = c.of-places.ensures.contexts } in record {
      places = are;
      rows = c.in_ok-periods.ensures.rows;
      periods = subst (λ entries. ArePeriods places entries c.in_ok-periods.periods) c.as_slice.ensures c.in_ok-periods.ensures.are;
      added = c.in_ok-added.ensures;
      newest = read_first c.args.trace.now places c.in_ok-newest.newest are (c.in_ok-newest.ensures ∙ ap (λ n. replicate n 0) c.pairs.ensures);
    }
