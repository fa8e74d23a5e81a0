use Rattle.std.proofs.Common.{subst, ap, ◌∙◌, replicate}
use Rattle.wbt_audit_walk.proofs.Common.{folds_in, all_told}
use Rattle.wbt_audit_reads.specs.Folding.{AreOf}
use Rattle.wbt_audit_reads.specs.Summing.{AreSumsBy}
use Rattle.wbt_audit_reads.proofs.Counted.{sums_by, seen_first}
use Rattle.wbt_audit_reads.proofs.counts.Counts.make.Goals as goal

pub returns : goal.returns
returns c =
    let places = c.of-places.result in
    let are : AreOf c.args.trace.now places = record { domains = c.of-places.ensures.domains; contexts = c.of-places.ensures.contexts } in record {
      places = are;
      sums =
          sums_by c.args.trace.now places (folds_in (all_told c.args.journal.now)) c.in_ok-sums.sums are
          (subst (λ folds. AreSumsBy places folds c.in_ok-sums.sums) (c.as_slice.ensures.value ∙ c.in_ok-folds.ensures) c.in_ok-sums.ensures);
      newest = seen_first c.args.trace.now places c.in_ok-newest.newest are (c.in_ok-newest.ensures ∙ ap (λ n. replicate n 0) c.counters.ensures);
    }
