use Rattle.std.proofs.Common.{replicate, ap, subst, ◌∙◌}
use Rattle.wbt_rules.specs.First.{first_estimates}
use Rattle.wbt_audit_walk.proofs.Common.{all_told, opened_at}
use Rattle.wbt_audit_reads.specs.Estimating.{AreCounts}
use Rattle.wbt_audit_reads.proofs.Estimated.{last_first, named_first}
use Rattle.wbt_audit_reads.proofs.estimates.Estimates.make.Goals as goal

pub returns : goal.returns
returns c =
    let trace = c.args.trace.now in
    let contexts_is = c.contexts_of-contexts.ensures in record {
      counts = subst (λ n. AreCounts n (all_told c.args.journal.now) c.in_ok-counts.counts.items) contexts_is c.in_ok-counts.ensures;
      last =
          last_first trace (opened_at c.args.journal.now.timer) c.in_ok-last.last.items
          (c.in_ok-last.ensures
          ∙ ap (first_estimates trace) (c.opened_at-opened.ensures ∙ ap opened_at c.as_slice.ensures));
      named = named_first trace c.in_ok-named.named (c.in_ok-named.ensures ∙ ap (λ n. replicate n 0) contexts_is);
    }
