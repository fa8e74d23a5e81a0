use Rattle.std.proofs.Common.{◌≡◌, ◌∙◌, ◌+◌, List, All, ap, arith, length, subst, sym}
use Rattle.std.proofs.lemmas.Grind.{common_steps}
use Rattle.wbt_forecast_rows.specs.Small.{AreSmall, IsSmallTask}
use Rattle.wbt_forecast_rows.specs.Tally.{Tallies, by_number, task_after_checks}
use Rattle.wbt_forecast_rows.specs.declared.tally.TaskTally.{TaskTally}
use Rattle.wbt_forecast_rows.proofs.Smalls.{contexts_less, domains_less}
use Rattle.wbt_forecast_rows.proofs.interval.Interval.count_checks.Goals as goal

pub returns-clause-value : goal.returns-clause-value
returns-clause-value c = grind (arith, common_steps)

pub returns-clause-small : goal.returns-clause-small
returns-clause-small c = λ most small.
    let now = c.args.self.now in
    let more = most + length c.args.checks.now in
    let same : c.as_mut_slice.result.now ≡ now.tasks = c.as_mut_slice.ensures.value ∙ ap (λ (t : Tallies). t.tasks) c.self.view_is in
    subst (AreSmall more) (sym (returns-clause-value c)) (record {
      domains = domains_less most more now.domains (omega arith) small.domains;
      contexts = contexts_less most more now.contexts (omega arith) small.contexts;
      tasks = subst (λ (xs : List TaskTally). All (IsSmallTask more) (by_number (task_after_checks c.args.checks.now) 0 xs)) same
          (subst (All (IsSmallTask more)) c.count_checks.ensures.value
          (c.count_checks.ensures.small most (subst (All (IsSmallTask most)) (sym same) small.tasks)));
    })
