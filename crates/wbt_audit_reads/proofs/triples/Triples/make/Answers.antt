use Rattle.std.proofs.Common.{subst}
use Rattle.wbt_audit_reads.specs.Folding.{AreOf}
use Rattle.wbt_audit_reads.specs.Reading.{ArePublished}
use Rattle.wbt_audit_reads.proofs.Tripled.{seen_first}
use Rattle.wbt_audit_reads.proofs.triples.Triples.make.Goals as goal

pub returns : goal.returns
returns c =
    let places = c.of-places.result in
    let are : AreOf c.args.trace.now places = record { domains = c.of-places.ensures.domains; contexts = c.of-places.ensures.contexts } in record {
      places = are;
      published = subst (λ entries. ArePublished places entries c.in_ok-published.published) c.as_slice.ensures c.in_ok-published.ensures;
      newest = seen_first c.args.trace.now places c.in_ok-newest.newest are c.in_ok-newest.ensures;
    }
