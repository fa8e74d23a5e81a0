use Rattle.std.proofs.Common.{◌≡◌, take}
use Rattle.wbt_forecast_rows.specs.Tally.{totals_after}
use Rattle.wbt_forecast.specs.Kept.{all_entries}
use Rattle.wbt_forecast.proofs.counting.sum_up.Given as goal

abbrev pub invariant-loop-cpu : goal.invariant-loop-cpu
invariant-loop-cpu l = l.totals ≡ totals_after (all_entries (take l.cpu-index l.cpus)) l.initial.totals
