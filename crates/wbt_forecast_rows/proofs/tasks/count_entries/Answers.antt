use Rattle.std.proofs.Common.{◌+◌, ◌*◌, length, take, subst, sym, All, arith}
use Rattle.wbt_forecast_rows.specs.Small.{IsSmallTask}
use Rattle.wbt_forecast_rows.specs.declared.tally.TheConstants.{MOST_TOLD}
use Rattle.wbt_forecast_rows.proofs.Looping.{front_is_short, tasks_end, tasks_first, tasks_next}
use Rattle.wbt_forecast_rows.proofs.Smalls.{tasks_less, tasks_small}
use Rattle.wbt_forecast_rows.proofs.tasks.count_entries.Goals as goal

pub loop-entry-init : goal.loop-entry-init
loop-entry-init c = tasks_first c.args.tallies.now

pub count_entry-requires : goal.count_entry-requires
count_entry-requires c =
    let entries = c.args.entries.now in
    let i = c.loop-entry.entry-index in
    let short = front_is_short i entries MOST_TOLD c.requires.few in
    tasks_less (MOST_TOLD + length (take i entries)) (2 * MOST_TOLD) c.loop-entry.tallies (omega (arith, short))
    (subst (All (IsSmallTask (MOST_TOLD + length (take i entries)))) (sym c.loop-entry.invariant)
    (tasks_small (take i entries) MOST_TOLD c.args.tallies.now c.requires.small))

pub loop-entry-preserved : goal.loop-entry-preserved
loop-entry-preserved c =
    tasks_next c.args.entries.now c.loop-entry.entry-index _ c.args.tallies.now c.loop-entry.tallies c.count_entry.new.tallies (omega arith) c.loop-entry.invariant
    c.count_entry.ensures

pub returns-clause-small : goal.returns-clause-small
returns-clause-small c = λ most all.
    let entries = c.args.entries.now in
    subst (All (IsSmallTask (most + length entries)))
    (sym (tasks_end entries c.loop-entry.entry-index c.args.tallies.now c.loop-entry.tallies (omega arith) c.loop-entry.invariant))
    (tasks_small entries most c.args.tallies.now all)
