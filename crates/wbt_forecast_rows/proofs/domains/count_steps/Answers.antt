use Rattle.std.proofs.Common.{◌∙◌, ◌+◌, arith, subst, All, length, pos}
use Rattle.std.proofs.lemmas.List.{take_all}
use Rattle.wbt_forecast_rows.specs.Counts.{homes_of}
use Rattle.wbt_forecast_rows.specs.Small.{IsSmallDomain}
use Rattle.wbt_forecast_rows.specs.Tally.{domain_after}
use Rattle.wbt_forecast_rows.specs.declared.tally.DomainTally.{DomainTally}
use Rattle.wbt_forecast_rows.specs.declared.tally.TheConstants.{MOST_TOLD}
use Rattle.wbt_forecast_rows.proofs.Looping.{done_next}
use Rattle.wbt_forecast_rows.proofs.Numbered.{all_after, all_at, all_written, written}
use Rattle.wbt_forecast_rows.proofs.domains.count_steps.Goals as goal

-- what no place has
abbrev none : DomainTally
none = record { count = pos 0; most = 0 }

pub after-requires-clause-small : goal.after-requires-clause-small
after-requires-clause-small c =
    (all_at (IsSmallDomain MOST_TOLD) c.loop-domain.tallies c.loop-domain.domain none (omega arith) (c.loop-domain.invariant.rest MOST_TOLD c.requires.small)).count

pub loop-domain-preserved : goal.loop-domain-preserved
loop-domain-preserved c =
    let tallies = c.loop-domain.tallies in
    let i = c.loop-domain.domain in
    let f = domain_after (homes_of c.args.trace.now) c.args.steps.now in
    record {
      written = written f tallies i c.after.result none (omega arith) c.after.ensures.value ∙ c.loop-domain.invariant.written;
      done = λ most all.
          done_next (IsSmallDomain (most + length c.args.steps.now)) tallies i c.after.result (omega arith)
          (record { count = c.after.ensures.small most (all_at (IsSmallDomain most) tallies i none (omega arith) (c.loop-domain.invariant.rest most all)).count })
          (c.loop-domain.invariant.done most all);
      rest = λ most all. all_after (IsSmallDomain most) tallies i c.after.result none (omega arith) (c.loop-domain.invariant.rest most all);
    }

pub returns-clause-value : goal.returns-clause-value
returns-clause-value c =
    all_written (domain_after (homes_of c.args.trace.now) c.args.steps.now) c.loop-domain.tallies _ c.loop-domain.domain (omega arith) c.loop-domain.invariant.written

pub returns-clause-small : goal.returns-clause-small
returns-clause-small c = λ most all.
    subst (All (IsSmallDomain (most + length c.args.steps.now))) (take_all c.loop-domain.domain c.loop-domain.tallies (omega arith))
    (c.loop-domain.invariant.done most all)
