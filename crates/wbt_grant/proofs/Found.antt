-- Pages that were found dirty were dirtied, and no record loses an event.
use Rattle.std.proofs.Common.{ℕ, ◌≤◌, All, arith}
use Rattle.std.proofs.lemmas.List.Elements.{All-weaker}
use Rattle.wbt_counter.specs.Sums.{put}
use Rattle.wbt_counter.proofs.Sums.{put_each, total_le}
use Rattle.wbt_book.specs.Ledger.{dirties, times}
use Rattle.wbt_grant.specs.declared.record.CpuRecord.{CpuRecord}
use Rattle.wbt_grant.specs.Setting.{Setting}
use Rattle.wbt_grant.specs.Rule.{WasDirtied}

module _ (set : Setting) (cpu : ℕ → CpuRecord) (old : (j : ℕ) → All (WasDirtied set cpu) (cpu j).found_dirty) (i : ℕ) (r : CpuRecord)
    (more : (p : ℕ) → times (dirties p) (cpu i).events ≤ times (dirties p) r.events) where
  still : (p : ℕ) → WasDirtied set cpu p → WasDirtied set (put cpu i r) p
  still p was =
      let grows = total_le set.cpus (λ j. times (dirties p) (cpu j).events) (λ j. times (dirties p) (put cpu i r j).events)
      (λ j less. put_each cpu i r (λ k y. times (dirties p) (cpu k).events ≤ times (dirties p) y.events) (more p) (λ k n. omega arith) j) in
      omega arith

  pub keeps : All (WasDirtied set cpu) r.found_dirty → (j : ℕ) → All (WasDirtied set (put cpu i r)) (put cpu i r j).found_dirty
  keeps its j = All-weaker (WasDirtied set cpu) (WasDirtied set (put cpu i r)) still (put cpu i r j).found_dirty
      (put_each cpu i r (λ k y. All (WasDirtied set cpu) y.found_dirty) its (λ k n. old k) j)
