use Rattle.std.proofs.Common.{subst, ◌∙◌}
use Rattle.wbt_audit_walk.proofs.Common.{folds_in, all_told}
use Rattle.wbt_audit_reads.specs.Folding.{AreOf, HaveNone}
use Rattle.wbt_audit_reads.proofs.Folded.{no_marks}
use Rattle.wbt_audit_reads.proofs.folds.Seen.make.Goals as goal

pub returns : goal.returns
returns c =
    let are : AreOf c.args.trace.now c.of-places.result = record { domains = c.of-places.ensures.domains; contexts = c.of-places.ensures.contexts } in record {
      places = are;
      domain_batch = c.domain_batch.ensures.value;
      context_batch = c.context_batch.ensures.value;
      marks =
          no_marks c.args.trace.now c.of-places.result (folds_in (all_told c.args.journal.now)) c.in_ok-versions.versions are
          (subst (λ folds. HaveNone c.of-places.result folds c.in_ok-versions.versions) (c.as_slice.ensures.value ∙ c.in_ok-folds.ensures) c.in_ok-versions.ensures);
    }
