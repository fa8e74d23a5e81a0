use Rattle.std.proofs.Common.{◌≡◌, ◌∙◌, ◌+◌, List, All, ap, arith, length, subst, sym}
use Rattle.std.proofs.lemmas.Grind.{common_steps}
use Rattle.wbt_forecast_rows.specs.Counts.{homes_of}
use Rattle.wbt_forecast_rows.specs.Small.{AreSmall, IsSmallDomain}
use Rattle.wbt_forecast_rows.specs.Tally.{Tallies, by_number, domain_after}
use Rattle.wbt_forecast_rows.specs.declared.tally.DomainTally.{DomainTally}
use Rattle.wbt_forecast_rows.proofs.Smalls.{contexts_less, tasks_less}
use Rattle.wbt_forecast_rows.proofs.interval.Interval.count_steps.Goals as goal

pub returns-clause-value : goal.returns-clause-value
returns-clause-value c = grind (arith, common_steps)

pub returns-clause-small : goal.returns-clause-small
returns-clause-small c = λ most small.
    let now = c.args.self.now in
    let more = most + length c.args.steps.now in
    let same : c.as_mut_slice.result.now ≡ now.domains = c.as_mut_slice.ensures.value ∙ ap (λ (t : Tallies). t.domains) c.self.view_is in
    subst (AreSmall more) (sym (returns-clause-value c)) (record {
      domains = subst (λ (xs : List DomainTally). All (IsSmallDomain more) (by_number (domain_after (homes_of c.args.trace.now) c.args.steps.now) 0 xs)) same
          (subst (All (IsSmallDomain more)) c.count_steps.ensures.value
          (c.count_steps.ensures.small most (subst (All (IsSmallDomain most)) (sym same) small.domains)));
      contexts = contexts_less most more now.contexts (omega arith) small.contexts;
      tasks = tasks_less most more now.tasks (omega arith) small.tasks;
    })
