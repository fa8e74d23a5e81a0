use Rattle.std.proofs.Common.{◌∙◌, arith, sym}
use Rattle.wbt_forecast_rows.specs.Counts.{homes_of}
use Rattle.wbt_forecast_rows.specs.declared.tally.TheConstants.{MOST_TOLD}
use Rattle.wbt_forecast_rows.proofs.Counting.{domain_end, domain_step}
use Rattle.wbt_forecast_rows.proofs.tally.DomainTally.after.Goals as goal

pub next-tally-requires : goal.next-tally-requires
next-tally-requires c = omega (arith, c.loop-step.invariant.near MOST_TOLD c.requires.small, c.requires.few)

pub loop-step-preserved : goal.loop-step-preserved
loop-step-preserved c = record {
  same = domain_step (homes_of c.args.trace.now) c.args.domain c.loop-step.tally c.next-tally.result c.args.steps.now c.loop-step.step-index _ (omega arith)
      c.next-tally.ensures.value ∙ c.loop-step.invariant.same;
  near = λ least low. omega (arith, c.loop-step.invariant.near least low, c.next-tally.ensures.near);
}

pub returns-clause-value : goal.returns-clause-value
returns-clause-value c =
    sym (domain_end (homes_of c.args.trace.now) c.args.domain c.loop-step.tally c.args.steps.now c.loop-step.step-index (omega arith))
    ∙ c.loop-step.invariant.same

pub returns-clause-small : goal.returns-clause-small
returns-clause-small c = λ most low. omega (arith, c.loop-step.invariant.near most low)
