use Rattle.std.proofs.Common.{arith, subst, sym}
use Rattle.std.proofs.lemmas.Grind.{common_steps}
use Rattle.wbt_forecast_rows.specs.Small.{AreSmall}
use Rattle.wbt_forecast_rows.proofs.Smalls.{contexts_cleared, domains_cleared, tasks_cleared}
use Rattle.wbt_forecast_rows.proofs.interval.Interval.clear.Goals as goal

pub returns-clause-value : goal.returns-clause-value
returns-clause-value c = grind (arith, common_steps)

pub returns-clause-small : goal.returns-clause-small
returns-clause-small c = λ most small.
    subst (AreSmall most) (sym (returns-clause-value c)) (record {
      domains = domains_cleared most c.args.self.now.domains small.domains;
      contexts = contexts_cleared most c.args.self.now.contexts;
      tasks = tasks_cleared most c.args.self.now.tasks;
    })
