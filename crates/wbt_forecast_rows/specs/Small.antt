-- How large the numbers of tallies may be.
use Rattle.std.specs.Prelude.{ℕ, ◌*◌, ◌^◌, ◌≤◌, All, unsigned_abs}
use Rattle.wbt_forecast_rows.specs.Tally.{Tallies}
use Rattle.wbt_forecast_rows.specs.declared.forecast.Totals.{Totals}
use Rattle.wbt_forecast_rows.specs.declared.tally.ContextTally.{ContextTally}
use Rattle.wbt_forecast_rows.specs.declared.tally.DomainTally.{DomainTally}
use Rattle.wbt_forecast_rows.specs.declared.tally.TaskTally.{TaskTally}

-- so many steps change a count by 128 pages at most each
pub record IsSmallDomain (most : ℕ) (tally : DomainTally) : Type 0 where
  pub count : unsigned_abs tally.count ≤ 128 * most

-- so many entries dirty or complete a page at most each
pub record IsSmallContext (most : ℕ) (tally : ContextTally) : Type 0 where
  pub dirtied : tally.dirtied ≤ most
  pub written : tally.written ≤ most

-- so many entries and checks tell a page or a check at most each, and a pause has 64 bits
pub record IsSmallTask (most : ℕ) (tally : TaskTally) : Type 0 where
  pub pages : tally.pages ≤ most
  pub checks : tally.checks ≤ most
  pub pauses : tally.pauses ≤ most
  pub ticks : tally.ticks ≤ 2 ^ 64 * most

-- the tallies are of so many steps, entries and checks at most
pub record AreSmall (most : ℕ) (t : Tallies) : Type 0 where
  pub domains : All (IsSmallDomain most) t.domains
  pub contexts : All (IsSmallContext most) t.contexts
  pub tasks : All (IsSmallTask most) t.tasks

-- the sums are of so many entries at most
pub record AreSmallTotals (most : ℕ) (totals : Totals) : Type 0 where
  pub dirtied : totals.dirtied ≤ most
  pub cleaned : totals.cleaned ≤ most
