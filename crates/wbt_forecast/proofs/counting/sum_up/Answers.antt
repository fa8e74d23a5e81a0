use Rattle.std.proofs.Common.{◌+◌, List, length, take, sym, ◌∙◌, ap, subst, arith}
use Rattle.wbt_replay_order.proofs.Common.{Entry, Cpu}
use Rattle.wbt_forecast_rows.specs.Small.{AreSmallTotals}
use Rattle.wbt_forecast_rows.specs.Tally.{totals_after}
use Rattle.wbt_forecast_rows.specs.declared.tally.TheConstants.{MOST_TOLD}
use Rattle.wbt_forecast.specs.Kept.{all_entries}
use Rattle.wbt_forecast.proofs.Telling.Lists.{entries_at, entries_part, totals_grow, totals_less}
use Rattle.wbt_forecast.proofs.counting.sum_up.Goals as goal

pub count_entries-requires-clause-small : goal.count_entries-requires-clause-small
count_entries-requires-clause-small c =
    let told = all_entries (take c.loop-cpu.cpu-index c.args.cpus.now) in
    subst (AreSmallTotals MOST_TOLD) (sym c.loop-cpu.invariant)
    (totals_less (c.requires.small.0 + length told) MOST_TOLD (totals_after told c.args.totals.now)
    (omega (arith, c.requires.small.2, entries_part c.args.cpus.now c.loop-cpu.cpu-index))
    (totals_grow told c.requires.small.0 c.args.totals.now c.requires.small.1))

pub count_entries-requires-clause-few : goal.count_entries-requires-clause-few
count_entries-requires-clause-few c =
    let i = c.loop-cpu.cpu-index in
    let long = ap (λ (l : List Entry). length l) (c.as_slice.ensures ∙ ap (λ (x : Cpu). x.entries) c.cpu-item.is) in
    let next = entries_at c.args.cpus.now i c.cpu-item.result c.loop-cpu-test.true in
    omega (arith, c.requires.small.2, long, next, entries_part c.args.cpus.now (i + 1))
