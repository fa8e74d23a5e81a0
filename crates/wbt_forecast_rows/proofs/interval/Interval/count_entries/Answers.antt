use Rattle.std.proofs.Common.{◌+◌, arith, length, subst, sym}
use Rattle.std.proofs.lemmas.Grind.{common_steps}
use Rattle.wbt_forecast_rows.specs.Small.{AreSmall}
use Rattle.wbt_forecast_rows.proofs.Smalls.{contexts_small, domains_less, tasks_small}
use Rattle.wbt_forecast_rows.proofs.interval.Interval.count_entries.Goals as goal

pub returns-clause-value : goal.returns-clause-value
returns-clause-value c = grind (arith, common_steps)

pub returns-clause-small : goal.returns-clause-small
returns-clause-small c = λ most small.
    let now = c.args.self.now in
    let more = most + length c.args.entries.now in
    subst (AreSmall more) (sym (returns-clause-value c)) (record {
      domains = domains_less most more now.domains (omega arith) small.domains;
      contexts = contexts_small c.args.trace.now c.args.entries.now most now.contexts small.contexts;
      tasks = tasks_small c.args.entries.now most now.tasks small.tasks;
    })
