use Rattle.std.proofs.Common.{◌+◌, ◌*◌, length, arith}
use Rattle.wbt_forecast_rows.specs.declared.tally.TheConstants.{MOST_TOLD}
use Rattle.wbt_forecast_rows.proofs.Looping.{checks_first, checks_next}
use Rattle.wbt_forecast_rows.proofs.Smalls.{tasks_less}
use Rattle.wbt_forecast_rows.proofs.tasks.count_checks.Goals as goal

pub loop-check-init : goal.loop-check-init
loop-check-init c = record {
  counted = checks_first c.args.tallies.now;
  small = λ most all. tasks_less most (most + 0) c.args.tallies.now (omega arith) all;
}

pub count_check-requires : goal.count_check-requires
count_check-requires c =
    tasks_less (MOST_TOLD + c.loop-check.check-index) (2 * MOST_TOLD) c.loop-check.tallies (omega (arith, c.requires.few))
    (c.loop-check.invariant.small MOST_TOLD c.requires.small)

pub loop-check-preserved : goal.loop-check-preserved
loop-check-preserved c =
    let i = c.loop-check.check-index in
    record {
      counted = checks_next c.args.checks.now i _ c.args.tallies.now c.loop-check.tallies c.count_check.new.tallies (omega arith) c.loop-check.invariant.counted
          c.count_check.ensures.value;
      small = λ most all.
          tasks_less (most + i + 1) (most + (i + 1)) c.count_check.new.tallies (omega arith)
          (c.count_check.ensures.small (most + i) (c.loop-check.invariant.small most all));
    }

pub returns-clause-small : goal.returns-clause-small
returns-clause-small c = λ most all.
    tasks_less (most + c.loop-check.check-index) (most + length c.args.checks.now) c.loop-check.tallies (omega arith) (c.loop-check.invariant.small most all)
