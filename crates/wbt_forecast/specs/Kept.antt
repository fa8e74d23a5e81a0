-- What is counted of a machine while it tells its run.
use Rattle.std.specs.Prelude.{ℕ, ◌+◌, ◌-◌, ◌≤◌, List, length, drop, flat_map, sum_by}
use Rattle.wbt_forecast_rows.specs.Small.{AreSmall, AreSmallTotals}
use Rattle.wbt_forecast_rows.specs.Tally.{Tallies, after_steps, after_entries, after_checks}
use Rattle.wbt_forecast_rows.specs.declared.forecast.Totals.{Totals}
use Rattle.wbt_forecast_rows.specs.declared.tally.TheConstants.{MOST_TOLD}
use Rattle.wbt_journal.specs.declared.entry.CheckEntry.{CheckEntry}
use Rattle.wbt_journal.specs.declared.entry.Entry.{Entry}
use Rattle.wbt_trace.specs.declared.trace.Trace.{Trace}
use Rattle.wbt_replay_moves.specs.Definition.State.{State}
use Rattle.wbt_replay_moves.specs.declared.state.Cpu.{Cpu}

-- ---- what a state has told

-- the entries that CPUs have, those of CPU 0 first
abbrev pub all_entries : (cpus : List Cpu) → List Entry
all_entries cpus = flat_map (λ c. c.entries) cpus

-- the checks that CPUs have, those of CPU 0 first
abbrev pub all_checks : (cpus : List Cpu) → List CheckEntry
all_checks cpus = flat_map (λ c. c.checks) cpus

-- how many entries and checks a CPU has
abbrev pub told_by : (c : Cpu) → ℕ
told_by c = length c.entries + length c.checks

-- how many steps, entries and checks a state has, but for the first so many steps
abbrev pub told_since : (counted : ℕ) (s : State) → ℕ
told_since counted s = length s.steps - counted + sum_by told_by s.cpus

-- how many steps, entries and checks a state has
abbrev pub told_in : (s : State) → ℕ
told_in s = length s.steps + sum_by told_by s.cpus

-- ---- what is counted in

-- the tallies after what a state has told, but for the first so many steps
abbrev pub counted_in : (trace : Trace) (counted : ℕ) (s : State) (t : Tallies) → Tallies
counted_in trace counted s t =
    after_checks (all_checks s.cpus) (after_entries trace (all_entries s.cpus) (after_steps trace (drop counted s.steps) t))

-- So many things more may be counted in with these tallies and sums.
pub record TakesMore (count : ℕ) (t : Tallies) (sums : Totals) : Type 0 where
  pub most : ℕ
  pub tallies : AreSmall most t
  pub totals : AreSmallTotals most sums
  pub room : most + count ≤ MOST_TOLD
